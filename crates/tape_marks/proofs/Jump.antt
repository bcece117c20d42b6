-- FSF and BSF by the list answer as they do by walking: the jump has the walk's own equations, one for a mark that is passed, one for a record and one for
-- an end, in both directions. Assumes nothing.
use Prim.Native.Nat.{ℕ, zero, suc, ◌+◌, ◌-◌, ◌≤◌, ◌<◌}
use mathlib.Core.List.{List}
use mathlib.Core.Bool.{Bool, true, false}
use mathlib.Core.Path.{◌≡◌, refl, sym, ap, ◌∙◌}
use native.Mathlib.Omega.{arith}
use lib.ListN.{length, get_or}
use lib.Dec.{eqb, ltb}
use borrow.Author.Tests.{eqb-true, eqb-false, ltb-true, ltb-false, eq-eqb, ne_eqb, lt-ltb, le-ltb}
use Rattle.xdr.specs.Choose.{choose}
use Rattle.tape_image.specs.Image.{count}
use Rattle.tape_image.specs.Place.{marks_before}
use Rattle.tape_spacing.specs.Spacing.{ended, end_of, walk, spacing, ahead_of, passes, position_after, goes_forward}
use Rattle.tape_spacing.specs.Alike.{is_mark}
use Rattle.tape_spacing.proofs.Laws.{after_within, after_ahead, walk_done, walk_end, walk_mark, walk_pass}
use Rattle.tape_marks.specs.Marks.{marks_from, before, count_th, stops_at, jump}
use Rattle.tape_marks.specs.Holds.{FilesByMarks, MarksAtAGlance}
use Rattle.tape_marks.proofs.Marks.{by_cases, file_mark, file_record, number_marks, before_marks, mark_named, marks_hold, names_exactly}

-- how many marks of a list lie ahead of a position
abbrev pub ahead_by : Bool → List ℕ → ℕ → ℕ
ahead_by f ms p = ahead_of f (length ms) (before ms p)

-- ---- the three cases of a jump
module _ (f : Bool) (ms : List ℕ) (n p times : ℕ) where
  pub jump_done : times ≡ 0 → jump f ms n p times ≡ ended 0 p 0
  unfolding jump choose
  jump_done h = rw (eq-eqb _ _ h)

  pub jump_end : ahead_by f ms p < times → jump f ms n p times ≡ ended 13 (end_of f n) (times - ahead_by f ms p)
  unfolding jump choose
  jump_end h =
      let some : times ≡ 0 → ⊥ = λ z. omega arith in
      rw (ne_eqb _ _ some, lt-ltb _ _ h)

  pub jump_found : (times ≡ 0 → ⊥) → times ≤ ahead_by f ms p
      → jump f ms n p times ≡ ended 0 (stops_at f (get_or ms (count_th f (before ms p) times) 0)) 0
  unfolding jump choose
  jump_found some h = rw (ne_eqb _ _ some, le-ltb _ _ h)

-- ---- one step
-- a jump hangs on the position only by the marks before it
module _ (f : Bool) (ms : List ℕ) (n p q left : ℕ) (some : left ≡ 0 → ⊥) where
  jump_record : before ms p ≡ before ms q → jump f ms n p left ≡ jump f ms n q left
  jump_record e =
      let a = ap (ahead_of f (length ms)) e in
      by_cases (ltb (ahead_by f ms p) left)
      (λ h. let z = ltb-true _ _ h in
      jump_end f ms n p left z ∙ ap (λ (k : ℕ). ended 13 (end_of f n) (left - k)) a ∙ sym (jump_end f ms n q left (omega arith)))
      (λ h. let z = ltb-false _ _ h in
      jump_found f ms n p left some z
      ∙ ap (λ (b : ℕ). ended 0 (stops_at f (get_or ms (count_th f b left) 0)) 0) e
      ∙ sym (jump_found f ms n q left some (omega arith)))

  -- a mark is passed from p to q: one less lies ahead, the count-th is the same, and the first is where the step ends
  record Passing : Type 0 where
    ahead : ahead_by f ms p ≡ ahead_by f ms q + 1
    same : count_th f (before ms p) left ≡ count_th f (before ms q) (left - 1)
    first : left ≡ 1 → stops_at f (get_or ms (count_th f (before ms p) left) 0) ≡ q

  jump_mark : Passing → jump f ms n p left ≡ jump f ms n q (left - 1)
  jump_mark s =
      let a = s.ahead in
      by_cases (ltb (ahead_by f ms p) left)
      (λ h. let z = ltb-true _ _ h in
      let residue : left - ahead_by f ms p ≡ left - 1 - ahead_by f ms q = omega arith in
      jump_end f ms n p left z ∙ ap (λ (r : ℕ). ended 13 (end_of f n) r) residue ∙ sym (jump_end f ms n q (left - 1) (omega arith)))
      (λ h. let z = ltb-false _ _ h in
      jump_found f ms n p left some z
      ∙ by_cases (eqb left 1)
      (λ o. let one = eqb-true left 1 o in
      ap (λ (k : ℕ). ended 0 k 0) (s.first one) ∙ sym (jump_done f ms n q (left - 1) (omega arith)))
      (λ o. let more = eqb-false left 1 o in
      let many : left - 1 ≡ 0 → ⊥ = λ e. more (omega arith) in
      ap (λ (k : ℕ). ended 0 (stops_at f (get_or ms k 0)) 0) s.same ∙ sym (jump_found f ms n q (left - 1) many (omega arith))))

-- ---- the same over the marks of an image
module _ (l : List ℕ) (n i : ℕ) (h : i ≤ n) where
  ms : List ℕ
  ms = marks_from l 0 n

  -- k entries lie ahead after the step
  module _ (k left : ℕ) (some : left ≡ 0 → ⊥) where
    passing : (f : Bool) → suc k ≡ ahead_of f n i → is_mark l (passes f i) ≡ true → Passing f ms n i (position_after f i) left some
    unfolding ms ahead_of passes position_after count_th stops_at
    passing true e q =
        let b = before_marks l n i h in
        let c = before_marks l n (i + 1) (omega arith) in
        let d = file_mark l i q in
        let named = mark_named l n i (omega arith) q in
        let there = named.0 in
        record {
          ahead = omega arith;
          same = omega arith;
          first = λ one.
              let at : before (marks_from l 0 n) i + left - 1 ≡ marks_before l i = omega arith in
              ap (λ (j : ℕ). get_or (marks_from l 0 n) j 0 + 1) at ∙ ap (λ (j : ℕ). j + 1) named.1;
        }
    passing false e q =
        let b = before_marks l n i h in
        let c = before_marks l n (i - 1) (omega arith) in
        let next : i - 1 + 1 ≡ i = omega arith in
        let d : marks_before l i ≡ marks_before l (i - 1) + 1 = rw next at (file_mark l (i - 1) q) in
        let named = mark_named l n (i - 1) (omega arith) q in
        record {
          ahead = omega arith;
          same = omega arith;
          first = λ one.
              let at : before (marks_from l 0 n) i - left ≡ marks_before l (i - 1) = omega arith in
              ap (λ (j : ℕ). get_or (marks_from l 0 n) j 0) at ∙ named.1;
        }

    passing_none : (f : Bool) → suc k ≡ ahead_of f n i → is_mark l (passes f i) ≡ false → before ms i ≡ before ms (position_after f i)
    unfolding ms ahead_of passes position_after
    passing_none true e q = before_marks l n i h ∙ sym (file_record l i q) ∙ sym (before_marks l n (i + 1) (omega arith))
    passing_none false e q =
        let next : i - 1 + 1 ≡ i = omega arith in
        let d : marks_before l i ≡ marks_before l (i - 1) = rw next at (file_record l (i - 1) q) in
        before_marks l n i h ∙ d ∙ sym (before_marks l n (i - 1) (omega arith))

  -- at the end there is none ahead
  none_ahead : (f : Bool) → 0 ≡ ahead_of f n i → (ahead_by f ms i ≡ 0) × (end_of f n ≡ i)
  unfolding ms ahead_of marks_before
  none_ahead true e =
      let b = before_marks l n i h in
      let c = number_marks l n in
      let same : n ≡ i = omega arith in
      let d = ap (marks_before l) same in
      (omega arith, same)
  none_ahead false e =
      let same : i ≡ 0 = omega arith in
      (before_marks l n i h ∙ ap (marks_before l) same, sym same)

module _ (f : Bool) (l : List ℕ) (n : ℕ) where
  -- from a position with k entries ahead the walk and the jump come to the same
  abbrev Alike : ℕ → Type 0
  Alike k = (i left : ℕ) → i ≤ n → k ≡ ahead_of f n i → walk f true l k i left ≡ jump f (marks_from l 0 n) n i left

  -- the walk has an end, or passes a mark or a record
  at_end : (i left : ℕ) → i ≤ n → 0 ≡ ahead_of f n i → (left ≡ 0 → ⊥) → walk f true l 0 i left ≡ jump f (marks_from l 0 n) n i left
  unfolding ms
  at_end i left h e some =
      let none = none_ahead l n i h f e in
      let z = none.0 in
      let residue : left ≡ left - ahead_by f (marks_from l 0 n) i = omega arith in
      walk_end f true l 0 i left some refl
      ∙ ap (λ (r : ℕ). ended 13 i r) residue
      ∙ ap (λ (p : ℕ). ended 13 p (left - ahead_by f (marks_from l 0 n) i)) (sym none.1)
      ∙ sym (jump_end f (marks_from l 0 n) n i left (omega arith))

  step : (k : ℕ) → Alike k → (i left : ℕ) → i ≤ n → suc k ≡ ahead_of f n i → (left ≡ 0 → ⊥) → walk f true l (suc k) i left ≡ jump f (marks_from l 0 n) n i left
  unfolding ms
  step k alike i left h e some =
      let more : suc k ≡ 0 → ⊥ = λ z. omega arith in
      let within = after_within n i (suc k) more f h e in
      let pred : suc k - 1 ≡ k = omega arith in
      let ahead : k ≡ ahead_of f n (position_after f i) = sym pred ∙ after_ahead n i (suc k) more f h e in
      by_cases (is_mark l (passes f i))
      (λ q. walk_mark f true l (suc k) k i left some refl refl (eqb-true _ 0 q)
      ∙ alike (position_after f i) (left - 1) within ahead
      ∙ sym (jump_mark f (marks_from l 0 n) n i (position_after f i) left some (passing l n i h k left some f e q)))
      (λ q. walk_pass f true l (suc k) k i left some refl refl (eqb-false _ 0 q)
      ∙ alike (position_after f i) left within ahead
      ∙ sym (jump_record f (marks_from l 0 n) n i (position_after f i) left some (passing_none l n i h k left some f e q)))

  walk_jump : (k : ℕ) → Alike k
  walk_jump zero i left h e =
      by_cases (eqb left 0)
      (λ z. let done = eqb-true left 0 z in walk_done f true l 0 i left done ∙ sym (jump_done f (marks_from l 0 n) n i left done))
      (λ z. at_end i left h e (eqb-false left 0 z))
  walk_jump (suc k) i left h e =
      by_cases (eqb left 0)
      (λ z. let done = eqb-true left 0 z in walk_done f true l (suc k) i left done ∙ sym (jump_done f (marks_from l 0 n) n i left done))
      (λ z. step k (walk_jump k) i left h e (eqb-false left 0 z))

pub files_by_marks : (l : List ℕ) → FilesByMarks l
unfolding spacing
files_by_marks l op p times marks h =
    ap (λ (m : Bool). walk (goes_forward op) m l (ahead_of (goes_forward op) (count l) p) p times) marks
    ∙ walk_jump (goes_forward op) l (count l) (ahead_of (goes_forward op) (count l) p) p times h refl

pub at_a_glance : MarksAtAGlance
at_a_glance = record { marks = marks_hold; names = names_exactly; files = files_by_marks }
