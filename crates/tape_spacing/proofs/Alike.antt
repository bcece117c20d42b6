-- Two images of one n are spaced over alike if the entries passed agree in kind: by induction over the entries ahead. Each turn looks at the entry that it
-- passes, which lies before the walk's end. Assumes nothing.
use Prim.Native.Nat.{ℕ, zero, suc, ◌-◌, ◌≤◌}
use mathlib.Core.List.{List}
use mathlib.Core.Bool.{Bool, true, false}
use mathlib.Core.Path.{◌≡◌, refl, sym, ap, ◌∙◌}
use native.Mathlib.Omega.{arith}
use lib.Dec.{eqb}
use borrow.Author.Tests.{ne_eqb, eqb-true, eqb-false}
use Rattle.xdr.specs.Choose.{choose}
use Rattle.xdr.proofs.Tests.{by_test, when, unless}
use Rattle.tape_image.specs.Image.{count}
use Rattle.tape_spacing.specs.declared.Spaced.{Spaced}
use Rattle.tape_spacing.specs.Spacing.{ended, walk, spacing, ahead_of, passes, position_after, left_after, stops, goes_forward, counts_marks}
use Rattle.tape_spacing.specs.Alike.{Passed, is_mark, AgreeInKind, SpacingAlike}
use Rattle.tape_spacing.proofs.Laws.{after_within, after_ahead, walk_done}

-- q is not behind i
abbrev Beyond : Bool → ℕ → ℕ → Type 0
Beyond true i q = i ≤ q
Beyond false i q = q ≤ i

beyond_here : (f : Bool) (i : ℕ) → Beyond f i i
beyond_here true i = omega arith
beyond_here false i = omega arith

-- one step, with k entries ahead after it: beyond it is beyond, and its entry is passed
module _ (n i k : ℕ) (h : i ≤ n) where
  beyond_step : (f : Bool) → suc k ≡ ahead_of f n i → (q : ℕ) → Beyond f (position_after f i) q → Beyond f i q
  unfolding ahead_of position_after
  beyond_step true e q b = omega arith
  beyond_step false e q b = omega arith

  passed_here : (f : Bool) → suc k ≡ ahead_of f n i → (q : ℕ) → Beyond f (position_after f i) q → Passed f i q (passes f i)
  unfolding ahead_of position_after passes
  passed_here true e q b = (omega arith, omega arith)
  passed_here false e q b = (b, omega arith)

  passed_later : (f : Bool) (q j : ℕ) → Passed f (position_after f i) q j → Passed f i q j
  unfolding position_after
  passed_later true q j b = (let z = b.0 in omega arith, b.1)
  passed_later false q j b = (b.0, let z = b.1 in omega arith)

  next_ahead : (f : Bool) → suc k ≡ ahead_of f n i → (position_after f i ≤ n) × (k ≡ ahead_of f n (position_after f i))
  next_ahead f e =
      let some : suc k ≡ 0 → ⊥ = λ z. omega arith in
      let pred : suc k - 1 ≡ k = omega arith in
      (after_within n i (suc k) some f h e, sym pred ∙ after_ahead n i (suc k) some f h e)

-- a walk never goes behind its start
module _ (f marks : Bool) (l : List ℕ) (n : ℕ) where
  goes_beyond : (k i left : ℕ) → i ≤ n → k ≡ ahead_of f n i → Beyond f i (walk f marks l k i left).position
  unfolding walk
  goes_beyond zero i left h e =
      by_test (λ (s : Spaced). Beyond f i s.position) (eqb left 0) (ended 0 i 0) (ended 13 i left) (λ _. beyond_here f i) (λ _. beyond_here f i)
  goes_beyond (suc k) i left h e =
      let next = next_ahead n i k h f e in
      let P : Spaced → Type 0 = λ (s : Spaced). Beyond f i s.position in
      by_test P (eqb left 0) (ended 0 i 0) _ (λ _. beyond_here f i)
      (λ _. by_test P (stops marks (is_mark l (passes f i))) (ended 12 (position_after f i) left) _
      (λ _. beyond_step n i k h f e _ (beyond_here f (position_after f i)))
      (λ _. beyond_step n i k h f e _ (goes_beyond k (position_after f i) _ next.0 next.1)))

-- one turn, by the kind of the entry that it passes
turn : (f marks : Bool) (l : List ℕ) (k i left : ℕ) (mark : Bool) → (left ≡ 0 → ⊥) → mark ≡ is_mark l (passes f i)
    → choose (stops marks mark) (ended 12 (position_after f i) left) (walk f marks l k (position_after f i) (left_after marks mark left))
    ≡ walk f marks l (suc k) i left
unfolding walk choose
turn f marks l k i left mark some e = rw (e, ne_eqb _ _ some)

module _ (f marks : Bool) (l m : List ℕ) (n : ℕ) where
  walks_alike : (k i left : ℕ) → i ≤ n → k ≡ ahead_of f n i → AgreeInKind f i (walk f marks l k i left).position l m
      → walk f marks l k i left ≡ walk f marks m k i left
  unfolding walk
  walks_alike zero i left h e = λ _. refl
  walks_alike (suc k) i left h e =
      let mark = is_mark l (passes f i) in
      let next = next_ahead n i k h f e in
      let P : Spaced → Type 0 = λ (s : Spaced). AgreeInKind f i s.position l m → s ≡ walk f marks m (suc k) i left in
      let rest = walk f marks l k (position_after f i) (left_after marks mark left) in
      by_test P (eqb left 0) (ended 0 i 0) _ (λ z _. sym (walk_done f marks m (suc k) i left (eqb-true left 0 z)))
      (λ z. let some = eqb-false left 0 z in
      by_test P (stops marks mark) (ended 12 (position_after f i) left) rest
      (λ s agree. let same = agree (passes f i) (passed_here n i k h f e _ (beyond_here f (position_after f i))) in
      when (stops marks mark) _ (turn f marks m k i left mark some same) s)
      (λ s agree. let same = agree (passes f i) (passed_here n i k h f e _ (goes_beyond f marks l n k _ _ next.0 next.1)) in
      walks_alike k (position_after f i) (left_after marks mark left) next.0 next.1 (λ j b. agree j (passed_later n i k h f _ j b))
      ∙ unless (stops marks mark) _ (turn f marks m k i left mark some same) s))

pub spacing_alike : SpacingAlike
unfolding spacing
spacing_alike l m op p times at here one agree =
    let f = goes_forward op in
    walks_alike f (counts_marks op) l m (count l) (ahead_of f (count l) p) p times at.within refl agree
    ∙ ap (λ (n : ℕ). walk f (counts_marks op) m (ahead_of f n p) p times) one
