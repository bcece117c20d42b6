-- What a move leaves of a slot list of any length: one that names none twice still names none twice, and while the tape
-- is open the drive's cartridge stays. That none is named twice is said by index: no two of the nine places have the
-- same cartridge. Assumes nothing.
use Prim.Native.Nat.{ℕ, zero, suc, ◌+◌, ◌≤◌, ◌<◌}
use mathlib.Core.Bool.{Bool, true, false}
use mathlib.Core.List.{List, [], ◌∷◌}
use mathlib.Core.Path.{◌≡◌, refl, sym, ap, ◌∙◌}
use native.Mathlib.Omega.{arith}
use lib.ListN.{get_or, set}
use lib.Seq.{get_or-set_other}
use lib.Dec.{eqb, ltb}
use borrow.Author.Tests.{eqb-true, ltb-true, ltb-false, not-true}
use Rattle.xdr.specs.Choose.{choose}
use Rattle.xdr.proofs.Tests.{eqb_no, none_of, none, if_not, isnt, unless, no_not}
use Rattle.changer_elements.specs.Elements.{drive, place_of, half}
use Rattle.changer_elements.specs.Slots.{named, is_again, some_again, names_none_twice, moved, in_drive}
use Rattle.changer_elements.specs.Move.{move_medium, slots_after}
use Rattle.changer_elements.proofs.Laws.{by_cases}
use Rattle.changer_elements.proofs.Counts.{moved_other}
use Rattle.changer_elements.proofs.Moves.{apart, places_hold, Goes, goes, by_outcome}
use Rattle.changer_elements.proofs.Moves.{source_within, source_full, destination_empty}

-- ---- by index
-- a number that is not named in the k places from place i on is in none of them, and the other way round
not_there : (k i v : ℕ) (l : List ℕ) → named k i l v ≡ false → (j : ℕ) → i ≤ j → j < i + k → get_or l j 0 ≡ v → ⊥
unfolding named
not_there zero i v l e j h m q = omega arith
not_there (suc k) i v l e j h m q =
    let both = none_of (eqb (get_or l i 0) v) e in
    by_cases (ltb i j)
    (λ (p : ltb i j ≡ true).
    let behind : i < j = ltb-true i j p in
    not_there k (i + 1) v l both.1 j (omega arith) (omega arith) q)
    (λ (p : ltb i j ≡ false).
    let most : j ≤ i = ltb-false i j p in
    let same : i ≡ j = omega arith in
    isnt both.0 (ap (λ (n : ℕ). get_or l n 0) same ∙ q))

not_named : (k i v : ℕ) (l : List ℕ) → ((j : ℕ) → i ≤ j → j < i + k → get_or l j 0 ≡ v → ⊥) → named k i l v ≡ false
unfolding named
not_named zero i v l f = refl
not_named (suc k) i v l f =
    none (eqb_no (f i (omega arith) (omega arith))) (not_named k (i + 1) v l (λ j h m. f j (omega arith) (omega arith)))

-- of the k places from place i on no two have the same cartridge
abbrev Differ : ℕ → ℕ → List ℕ → Type 0
Differ k i l = (a b : ℕ) → i ≤ a → a < b → b < i + k → (get_or l a 0 ≡ 0 → ⊥) → get_or l a 0 ≡ get_or l b 0 → ⊥

differ : (k i : ℕ) (l : List ℕ) → some_again k i l ≡ false → Differ k i l
unfolding some_again is_again
differ zero i l e a b h m n z q = omega arith
differ (suc k) i l e a b h m n z q =
    let both = none_of (choose (eqb (get_or l i 0) 0) false (named k (i + 1) l (get_or l i 0))) e in
    by_cases (ltb i a)
    (λ (p : ltb i a ≡ true).
    let behind : i < a = ltb-true i a p in
    differ k (i + 1) l both.1 a b (omega arith) m (omega arith) z q)
    (λ (p : ltb i a ≡ false).
    let most : a ≤ i = ltb-false i a p in
    let same : get_or l i 0 ≡ get_or l a 0 = ap (λ (j : ℕ). get_or l j 0) (let s : i ≡ a = omega arith in s) in
    let some : get_or l i 0 ≡ 0 → ⊥ = λ y. z (sym same ∙ y) in
    let behind : named k (i + 1) l (get_or l i 0) ≡ false = unless (eqb (get_or l i 0) 0) false both.0 (eqb_no some) in
    not_there k (i + 1) (get_or l i 0) l behind b (omega arith) (omega arith) (sym q ∙ sym same))

none_again : (k i : ℕ) (l : List ℕ) → Differ k i l → some_again k i l ≡ false
unfolding some_again is_again
none_again zero i l f = refl
none_again (suc k) i l f =
    none
    (if_not (eqb (get_or l i 0) 0)
    (λ p.
    not_named k (i + 1) (get_or l i 0) l (λ j h m q. f i j (omega arith) (omega arith) (omega arith) (isnt p) (sym q))))
    (none_again k (i + 1) l (λ a b h m n. f a b (omega arith) m (omega arith)))

-- the same of two places in either order
either_way : (l : List ℕ) → Differ 9 0 l → (a b : ℕ) → a < 9 → b < 9 → (a ≡ b → ⊥) → (get_or l a 0 ≡ 0 → ⊥) →
    get_or l a 0 ≡ get_or l b 0 → ⊥
either_way l f a b h m d z q =
    by_cases (ltb a b)
    (λ (p : ltb a b ≡ true). f a b (omega arith) (ltb-true a b p) m z q)
    (λ (p : ltb a b ≡ false).
    by_cases (ltb b a)
    (λ (r : ltb b a ≡ true). f b a (omega arith) (ltb-true b a r) h (λ y. z (q ∙ y)) (sym q))
    (λ (r : ltb b a ≡ false).
    let most : b ≤ a = ltb-false a b p in
    let least : a ≤ b = ltb-false b a r in
    d (omega arith)))

-- ---- a store, also past the end
set_empty : (l : List ℕ) (i : ℕ) → get_or (set l i 0) i 0 ≡ 0
set_empty [] i = refl
set_empty (x ∷ xs) zero = refl
set_empty (x ∷ xs) (suc i) = set_empty xs i

set_some : (l : List ℕ) (i x : ℕ) → (get_or (set l i x) i 0 ≡ 0 → ⊥) → get_or (set l i x) i 0 ≡ x
set_some [] i x z = absurd (z refl)
set_some (y ∷ ys) zero x z = refl
set_some (y ∷ ys) (suc i) x z = set_some ys i x z

-- ---- a move from one place to a different one
module _ (from to : ℕ) (l : List ℕ) (d : from ≡ to → ⊥) where
  left_empty : get_or (moved from to l) from 0 ≡ 0
  unfolding moved
  left_empty = set_empty (set l to (get_or l from 0)) from

  arrived : (get_or (moved from to l) to 0 ≡ 0 → ⊥) → get_or (moved from to l) to 0 ≡ get_or l from 0
  unfolding moved
  arrived z =
      let a : List ℕ = set l to (get_or l from 0) in
      let kept : get_or (set a from 0) to 0 ≡ get_or a to 0 = get_or-set_other a from to 0 0 (λ e. d (sym e)) in
      kept ∙ set_some l to (get_or l from 0) (λ y. z (kept ∙ y))

  -- a cartridge that is in a place afterwards came there, or was there
  came : {A : Type 0} (i : ℕ) → (get_or (moved from to l) i 0 ≡ 0 → ⊥) →
      (i ≡ to → get_or (moved from to l) i 0 ≡ get_or l from 0 → A) →
      ((i ≡ from → ⊥) → (i ≡ to → ⊥) → get_or (moved from to l) i 0 ≡ get_or l i 0 → A) → A
  came i z f g =
      by_cases (eqb i to)
      (λ (p : eqb i to ≡ true).
      let same : i ≡ to = eqb-true i to p in
      let at : ℕ → ℕ = λ j. get_or (moved from to l) j 0 in
      let there : at i ≡ at to = ap at same in
      f same (there ∙ arrived (λ y. z (there ∙ y))))
      (λ (p : eqb i to ≡ false).
      let other : i ≡ from → ⊥ = λ e. z (ap (λ (j : ℕ). get_or (moved from to l) j 0) e ∙ left_empty) in
      g other (isnt p) (moved_other from to i l other (isnt p)))

  moved_differ : from < 9 → (get_or l from 0 ≡ 0 → ⊥) → Differ 9 0 l → Differ 9 0 (moved from to l)
  moved_differ s full f a b h m n z q =
      came a z
      (λ at e.
      came b (λ y. z (q ∙ y))
      (λ bt k. omega arith)
      (λ bf bt k. either_way l f from b s n (λ r. bf (sym r)) full (sym e ∙ q ∙ k)))
      (λ af at e.
      came b (λ y. z (q ∙ y))
      (λ bt k. either_way l f a from (omega arith) s af (λ y. z (e ∙ y)) (sym e ∙ q ∙ k))
      (λ bf bt k. f a b h m n (λ y. z (e ∙ y)) (sym e ∙ q ∙ k)))

-- ---- MOVE MEDIUM
goes_on : (cdb slots : List ℕ) (opened : Bool) (from to : ℕ) → Goes cdb slots opened from to →
    names_none_twice slots ≡ true → names_none_twice (moved from to slots) ≡ true
unfolding names_none_twice
goes_on cdb slots opened from to g e =
    let full : get_or slots from 0 ≡ 0 → ⊥ = source_full cdb slots opened from to g in
    let empty : get_or slots to 0 ≡ 0 = destination_empty cdb slots opened from to g in
    let two : from ≡ to → ⊥ = λ q. full (ap (λ (k : ℕ). get_or slots k 0) q ∙ empty) in
    no_not
    (none_again 9 0 (moved from to slots)
    (moved_differ from to slots two (source_within cdb slots opened from to g) full (differ 9 0 slots (not-true _ e))))

pub none_twice_after : (cdb slots : List ℕ) (opened : Bool) → names_none_twice slots ≡ true →
    names_none_twice (slots_after slots (move_medium cdb slots opened)) ≡ true
none_twice_after cdb slots opened e =
    by_outcome (λ (l : List ℕ). names_none_twice l ≡ true) slots (move_medium cdb slots opened) e
    (λ from to h. goes_on cdb slots opened from to (goes cdb slots opened from to h) e)

pub drive_stays : (slots cdb : List ℕ) →
    get_or (slots_after slots (move_medium cdb slots true)) (place_of drive) 0 ≡ get_or slots (place_of drive) 0
drive_stays slots cdb =
    by_outcome (λ (l : List ℕ). get_or l (place_of drive) 0 ≡ get_or slots (place_of drive) 0) slots
    (move_medium cdb slots true) refl
    (λ from to h.
    let g = goes cdb slots true from to h in
    let free = g.moves.free refl in
    let on = places_hold.of_drive.0 in
    moved_other from to (place_of drive) slots
    (λ e. free.0 (sym (apart drive (half cdb 4) on g.moves.source (e ∙ sym g.source))))
    (λ e. free.1 (sym (apart drive (half cdb 6) on g.moves.destination (e ∙ sym g.destination)))))

pub in_drive_lem : (slots : List ℕ) → in_drive slots ≡ get_or slots (place_of drive) 0
unfolding place_of choose
in_drive_lem slots = refl

pub drive_after : (cdb slots : List ℕ) → in_drive (slots_after slots (move_medium cdb slots true)) ≡ in_drive slots
drive_after cdb slots =
    in_drive_lem (slots_after slots (move_medium cdb slots true)) ∙ drive_stays slots cdb ∙ sym (in_drive_lem slots)
