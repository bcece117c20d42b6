-- Laws of elements that have places, and of the tests of a move. Assumes nothing.
use Prim.Native.Nat.{ℕ, ◌-◌, ◌≤◌}
use mathlib.Core.Bool.{Bool, true, false, not}
use mathlib.Core.List.{List}
use mathlib.Core.Path.{◌≡◌, refl, ap}
use native.Mathlib.Omega.{arith}
use lib.ListN.{get_or}
use lib.Dec.{eqb, leb}
use borrow.Author.Tests.{leb-true}
use Rattle.xdr.specs.Choose.{choose}
use Rattle.xdr.proofs.Tests.{eqb_yes, eqb_no}
use Rattle.changer_elements.specs.Elements.{has_place, place_of, is_full}
use Rattle.changer_elements.specs.Move.{is_movable, judge_move}

-- ---- elements that have places
pub both : (b : Bool) {x : Bool} → choose b x false ≡ true → (b ≡ true) × (x ≡ true)
unfolding choose
both true h = (refl, h)
both false h = absurd (let z : ◌≡◌ {A = ℕ} 0 1 = cc in omega arith)

pub by_cases : {A : Type 0} (b : Bool) → (b ≡ true → A) → (b ≡ false → A) → A
by_cases true f g = f refl
by_cases false f g = g refl

-- the drive, or a slot
pub slot_between : (e : ℕ) → has_place e ≡ true → (e ≡ 1 → ⊥) → (16 ≤ e) × (e ≤ 23)
unfolding has_place choose
slot_between e h d =
    let k = rw (eqb_no d) at h in
    by_cases (leb 16 e) (λ p. (leb-true 16 e p, leb-true e 23 (rw p at k))) (λ p. absurd (let z : ◌≡◌ {A = ℕ} 0 1 = (let w = rw p at k in cc) in omega arith))

pub place_drive : (e : ℕ) → e ≡ 1 → 0 ≡ place_of e
unfolding place_of choose
place_drive e h = rw (eqb_yes h)

pub place_slot : (e : ℕ) → (e ≡ 1 → ⊥) → e - 15 ≡ place_of e
unfolding place_of choose
place_slot e h = rw (eqb_no h)

-- ---- the tests of a move
pub movable_places : (t source destination : ℕ) → is_movable t source destination ≡ true →
    (has_place source ≡ true) × (has_place destination ≡ true)
unfolding is_movable choose
movable_places t source destination h =
    let k = both (eqb t 0) h in
    both (has_place source) k.1

pub full_yes : (e p : ℕ) (slots : List ℕ) → p ≡ place_of e → (get_or slots p 0 ≡ 0 → ⊥) → is_full slots e ≡ true
unfolding is_full
full_yes e p slots h n = rw (← h) (ap not (eqb_no n))

pub full_no : (e p : ℕ) (slots : List ℕ) → p ≡ place_of e → get_or slots p 0 ≡ 0 → is_full slots e ≡ false
unfolding is_full
full_no e p slots h n = rw (← h) (ap not (eqb_yes n))

pub fields_are : {t s d t' s' d' : ℕ} (slots : List ℕ) (opened : Bool) → t ≡ t' → s ≡ s' → d ≡ d' →
    judge_move t s d slots opened ≡ judge_move t' s' d' slots opened
fields_are slots opened h k m = cc
