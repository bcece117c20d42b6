-- What set window accepts of windows with no end, and what get state tells of them. Assumes nothing.
use Prim.Native.Nat.{ℕ, ◌%◌, ◌≤◌}
use mathlib.Core.Bool.{Bool, true, false, not}
use mathlib.Core.List.{List, [], ◌∷◌, ◌++◌}
use mathlib.Core.Path.{◌≡◌, refl, ap}
use lib.Dec.{eqb}
use borrow.Author.Tests.{ne_eqb, le-ltb}
use Rattle.codes.specs.Codes.{illegal_arguments, illegal_state, precondition}
use Rattle.xdr.specs.Choose.{choose}
use Rattle.wire_replies.specs.declared.Reply.TheVariants.{Plain}
use Rattle.rules_parts.specs.declared.types.Mover.{Mover}
use Rattle.rules_parts.specs.Names.{top, endless}
use Rattle.rules_parts.specs.Parts.{mover_window, is_past_top, length_wrong}
use Rattle.rules_parts.proofs.Ending.{end_endless, end_other}
use Rattle.rules.specs.Judge.{Test, test, Outcome, refuse, accept, judge}
use Rattle.rules.specs.MoverService.{busy, elsewhere, set_window}
use Rattle.rules.specs.Endless.{EndlessRules}

-- two tests of one number are one test
two_tests : {A : Type 0} (before : List Test) (a b : Bool) (e : ℕ) (ts : List Test) (o : Outcome A)
    → judge (before ++ (test (choose a true b) e ∷ ts)) o ≡ judge (before ++ (test a e ∷ test b e ∷ ts)) o
unfolding judge choose
two_tests [] true b e ts o = refl
two_tests [] false b e ts o = refl
two_tests (test c k ∷ before) a b e ts o = ap (choose c (refuse k)) (two_tests before a b e ts o)

module _ (m : Mover) (offset : ℕ) where
  offset_alone : offset ≤ top
      → set_window m offset endless
      ≡ judge
      (test (busy m.state) illegal_state
      ∷ test (eqb m.size 0) precondition
      ∷ test (not (eqb (offset % m.size) 0)) illegal_arguments
      ∷ test (elsewhere m.state m.mode m.moved offset) illegal_arguments
      ∷ [])
      (accept Plain (mover_window offset endless m))
  unfolding set_window judge length_wrong choose
  offset_alone h = rw (le-ltb top offset h) refl

  length_too : (length : ℕ) → (length ≡ endless → ⊥)
      → set_window m offset length
      ≡ judge
      (test (busy m.state) illegal_state
      ∷ test (eqb m.size 0) precondition
      ∷ test (eqb length 0) illegal_arguments
      ∷ test (not (eqb (offset % m.size) 0)) illegal_arguments
      ∷ test (not (eqb (length % m.size) 0)) illegal_arguments
      ∷ test (is_past_top offset length) illegal_arguments
      ∷ test (elsewhere m.state m.mode m.moved offset) illegal_arguments
      ∷ [])
      (accept Plain (mover_window offset length m))
  unfolding set_window length_wrong choose
  length_too length n =
      rw (ne_eqb length endless n)
      (two_tests
      (test (busy m.state) illegal_state
      ∷ test (eqb m.size 0) precondition
      ∷ test (eqb length 0) illegal_arguments
      ∷ test (not (eqb (offset % m.size) 0)) illegal_arguments
      ∷ [])
      (not (eqb (length % m.size) 0)) (is_past_top offset length) illegal_arguments
      (test (elsewhere m.state m.mode m.moved offset) illegal_arguments ∷ [])
      (accept Plain (mover_window offset length m)))

pub endless_rules : EndlessRules
endless_rules =
    record {
      ends = λ offset. end_endless offset endless refl;
      others = end_other;
      offset_alone = offset_alone;
      length_too = length_too;
      told = λ m offset length. record { offsets = refl; lengths = refl };
      paused = λ m why. record { offsets = refl; lengths = refl };
      resized = λ m size. record { offsets = refl; lengths = refl };
      stopped = λ size. record { offsets = refl; lengths = refl };
    }
