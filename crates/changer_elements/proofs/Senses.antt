-- Which sense a refused move gets: the tests before its own do not refuse, its own does. Assumes nothing.
use Prim.Native.Nat.{ℕ, ◌≤◌, ◌<◌}
use mathlib.Core.Bool.{Bool, true, false}
use mathlib.Core.List.{List}
use mathlib.Core.Path.{◌≡◌, refl, sym}
use lib.ListN.{length, get_or}
use lib.Dec.{eqb}
use Rattle.xdr.proofs.Tests.{pick_if, pick_else, eqb_yes, eqb_no, ltb_yes, ltb_no, no_not, yes_not, if_so}
use Rattle.changer_elements.specs.Elements.{has_place, place_of, half}
use Rattle.changer_elements.specs.Move.{is_movable, is_held, judge_move, move_medium}
use Rattle.changer_elements.specs.MovesHold.{Named, RefusedWith, SensesHold}
use Rattle.changer_elements.proofs.Laws.{by_cases, full_yes, full_no}

short : (cdb slots : List ℕ) (opened : Bool) → length cdb < 12 → RefusedWith 5 0x24 0 cdb slots opened
unfolding move_medium
short cdb slots opened h = sym (pick_if _ (ltb_yes h) refl)

-- ---- the three fields
wrong : (cdb slots : List ℕ) (opened : Bool) → 12 ≤ length cdb →
    is_movable (half cdb 2) (half cdb 4) (half cdb 6) ≡ false → RefusedWith 5 0x21 1 cdb slots opened
unfolding move_medium judge_move
wrong cdb slots opened n h = sym (pick_else _ (ltb_no n) (pick_if _ (no_not h) refl))

module _ (t source destination : ℕ) where
  wrong_transport : (t ≡ 0 → ⊥) → is_movable t source destination ≡ false
  unfolding is_movable
  wrong_transport h = sym (pick_else _ (eqb_no h) refl)

  wrong_source : has_place source ≡ false → is_movable t source destination ≡ false
  unfolding is_movable
  wrong_source h = if_so (eqb t 0) (λ p. sym (pick_else _ h refl))

  wrong_destination : has_place destination ≡ false → is_movable t source destination ≡ false
  unfolding is_movable
  wrong_destination h = if_so (eqb t 0) (λ p. if_so (has_place source) (λ q. h))

-- ---- where they are right
module _ (cdb slots : List ℕ) (opened : Bool) (n : Named cdb) where
  movable : is_movable (half cdb 2) (half cdb 4) (half cdb 6) ≡ true
  unfolding is_movable
  movable = sym (pick_if _ (eqb_yes n.by) (pick_if _ n.source (sym n.destination)))

  full : (get_or slots (place_of (half cdb 6)) 0 ≡ 0 → ⊥) → RefusedWith 5 0x3B 0x0D cdb slots opened
  unfolding move_medium judge_move
  full f =
      sym
      (pick_else _ (ltb_no n.long)
      (pick_else _ (yes_not movable)
      (pick_if _ (full_yes (half cdb 6) _ slots refl f) refl)))

  empty : get_or slots (place_of (half cdb 6)) 0 ≡ 0 → get_or slots (place_of (half cdb 4)) 0 ≡ 0 →
      RefusedWith 5 0x3B 0x0E cdb slots opened
  unfolding move_medium judge_move
  empty d e =
      sym
      (pick_else _ (ltb_no n.long)
      (pick_else _ (yes_not movable)
      (pick_else _ (full_no (half cdb 6) _ slots refl d)
      (pick_if _ (no_not (full_no (half cdb 4) _ slots refl e)) refl))))

  held : get_or slots (place_of (half cdb 6)) 0 ≡ 0 → (get_or slots (place_of (half cdb 4)) 0 ≡ 0 → ⊥) →
      is_held opened (half cdb 4) (half cdb 6) ≡ true → RefusedWith 5 0x53 2 cdb slots opened
  unfolding move_medium judge_move
  held d f h =
      sym
      (pick_else _ (ltb_no n.long)
      (pick_else _ (yes_not movable)
      (pick_else _ (full_no (half cdb 6) _ slots refl d)
      (pick_else _ (yes_not (full_yes (half cdb 4) _ slots refl f))
      (pick_if _ h refl)))))

module _ (source destination : ℕ) where
  held_from : source ≡ 1 → is_held true source destination ≡ true
  unfolding is_held
  held_from e = sym (pick_if _ refl (pick_if _ (eqb_yes e) refl))

  held_to : destination ≡ 1 → is_held true source destination ≡ true
  unfolding is_held
  held_to e =
      by_cases (eqb source 1)
      (λ p. sym (pick_if _ refl (pick_if _ p refl)))
      (λ p. sym (pick_if _ refl (pick_else _ p (sym (eqb_yes e)))))

pub senses_hold : SensesHold
senses_hold =
    record {
      short = short;
      by_other = λ cdb slots opened n h. wrong cdb slots opened n (wrong_transport _ _ _ h);
      source = λ cdb slots opened n h. wrong cdb slots opened n (wrong_source _ _ _ h);
      destination = λ cdb slots opened n h. wrong cdb slots opened n (wrong_destination _ _ _ h);
      full = full;
      empty = empty;
      from_drive = λ cdb slots n d f e. held cdb slots true n d f (held_from _ _ e);
      to_drive = λ cdb slots n d f e. held cdb slots true n d f (held_to _ _ e);
    }
