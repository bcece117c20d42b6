-- How often a number is named: what a store leaves of it, what it says of a list that names none twice, and where a number is that is
-- named once. Assumes nothing.
use Prim.Native.Nat.{ℕ, zero, suc, ◌+◌, ◌≤◌, ◌<◌}
use mathlib.Core.Bool.{true, false}
use mathlib.Core.List.{List, [], ◌∷◌}
use mathlib.Core.Path.{◌≡◌, refl, sym, ap, ◌∙◌}
use native.Mathlib.Omega.{arith}
use native.Mathlib.Nat.{le_of_suc-le-suc, not-suc-le-zero}
use native.Mathlib.Numerals.{add-one}
use lib.ListN.{length, get_or, set, length-set, drop, drop_of_length-le}
use lib.Seq.{get_or-set_same, get_or-set_other, drop-cons}
use lib.Dec.{eqb}
use borrow.Author.Tests.{eqb-true, not-true}
use Rattle.xdr.specs.Choose.{choose}
use Rattle.xdr.proofs.Tests.{eqb_yes, eqb_no, by_test, none_of, none, if_not, isnt, unless, no_not}
use Rattle.changer_elements.specs.Slots.{moved, named, is_again, some_again, names_none_twice, times}
use Rattle.changer_elements.specs.MovesHold.{InOnePlace, NamesHold}
use Rattle.changer_elements.proofs.Laws.{by_cases}

unfoldable one : ℕ → ℕ → ℕ
one x v = choose (eqb x v) 1 0

one_yes : (x v : ℕ) → x ≡ v → one x v ≡ 1
unfolding one choose
one_yes x v e = rw (eqb_yes e)

one_no : (x v : ℕ) → (x ≡ v → ⊥) → one x v ≡ 0
unfolding one choose
one_no x v e = rw (eqb_no e)

times_cons : (v x : ℕ) (xs : List ℕ) → times v (x ∷ xs) ≡ one x v + times v xs
unfolding times one choose
times_cons v x xs =
    by_test (λ (n : ℕ). n ≡ choose (eqb x v) 1 0 + times v xs) (eqb x v) (suc (times v xs)) (times v xs)
    (λ e. rw e (omega arith))
    (λ e. rw e (omega arith))

-- ---- a store, and a move
times_set : (v i x : ℕ) (l : List ℕ) → i < length l → times v (set l i x) + one (get_or l i 0) v ≡ times v l + one x v
times_set v i x [] h = absurd (not-suc-le-zero h)
times_set v zero x (y ∷ ys) h = omega (arith, times_cons v x ys, times_cons v y ys)
times_set v (suc i) x (y ∷ ys) h =
    omega (arith, times_cons v y (set ys i x), times_cons v y ys, times_set v i x ys (le_of_suc-le-suc h))

-- from a full place to an empty one
module _ (from to : ℕ) (l : List ℕ) (source : from < length l) (destination : to < length l) (full : get_or l from 0 ≡ 0 → ⊥) (empty : get_or l to 0 ≡ 0) where
  apart : from ≡ to → ⊥
  apart e = full (ap (λ (k : ℕ). get_or l k 0) e ∙ empty)

  pub moved_times : (v : ℕ) → (v ≡ 0 → ⊥) → times v (moved from to l) ≡ times v l
  unfolding moved
  moved_times v h =
      let x : ℕ = get_or l from 0 in
      let a : List ℕ = set l to x in
      let there : from < length a = omega (arith, length-set l to x) in
      let still : get_or a from 0 ≡ x = get_or-set_other l to from x 0 apart in
      let first : times v a + one (get_or l to 0) v ≡ times v l + one x v = times_set v to x l destination in
      let second : times v (set a from 0) + one (get_or a from 0) v ≡ times v a + one 0 v = times_set v from 0 a there in
      omega
      (arith, first, second, ap (λ (k : ℕ). one k v) empty, ap (λ (k : ℕ). one k v) still, one_no 0 v (λ (e : 0 ≡ v). h (sym e)))

  pub moved_to : get_or (moved from to l) to 0 ≡ get_or l from 0
  unfolding moved
  moved_to =
      get_or-set_other (set l to (get_or l from 0)) from to 0 0 (λ e. apart (sym e)) ∙ get_or-set_same l to (get_or l from 0) 0 destination

  pub moved_from : get_or (moved from to l) from 0 ≡ 0
  unfolding moved
  moved_from =
      let there : from < length (set l to (get_or l from 0)) = omega (arith, length-set l to (get_or l from 0)) in
      get_or-set_same (set l to (get_or l from 0)) from 0 0 there

pub moved_other : (from to i : ℕ) (l : List ℕ) → (i ≡ from → ⊥) → (i ≡ to → ⊥) → get_or (moved from to l) i 0 ≡ get_or l i 0
unfolding moved
moved_other from to i l h k =
    get_or-set_other (set l to (get_or l from 0)) from i 0 0 h ∙ get_or-set_other l to i (get_or l from 0) 0 k

pub moved_length : (from to : ℕ) (l : List ℕ) → length (moved from to l) ≡ length l
unfolding moved
moved_length from to l = length-set (set l to (get_or l from 0)) from 0 ∙ length-set l to (get_or l from 0)

-- ---- a list that names none twice
times_nil : (v i : ℕ) (l : List ℕ) → length l ≤ i → times v (drop i l) ≡ 0
unfolding times
times_nil v i l h = ap (times v) (drop_of_length-le l h)

times_at : (v i : ℕ) (l : List ℕ) → i < length l → times v (drop i l) ≡ one (get_or l i 0) v + times v (drop (i + 1) l)
times_at v i l h =
    ap (times v) (drop-cons l i 0 h) ∙ times_cons v (get_or l i 0) (drop (suc i) l)
    ∙ ap (λ (k : ℕ). one (get_or l i 0) v + times v (drop k l)) (sym (add-one i))

-- a number that is not named from place i on is named no time there, and the other way round
unnamed : (k i v : ℕ) (l : List ℕ) → i + k ≡ length l → named k i l v ≡ false → times v (drop i l) ≡ 0
unfolding named
unnamed zero i v l n e = times_nil v i l (omega arith)
unnamed (suc k) i v l n e =
    let both = none_of (eqb (get_or l i 0) v) e in
    let rest : times v (drop (i + 1) l) ≡ 0 = unnamed k (i + 1) v l (omega arith) both.1 in
    omega (arith, times_at v i l (omega arith), one_no (get_or l i 0) v (isnt both.0), rest)

not_named : (k i v : ℕ) (l : List ℕ) → i + k ≡ length l → times v (drop i l) ≡ 0 → named k i l v ≡ false
unfolding named
not_named zero i v l n e = refl
not_named (suc k) i v l n e =
    let here : times v (drop i l) ≡ one (get_or l i 0) v + times v (drop (i + 1) l) = times_at v i l (omega arith) in
    none (eqb_no (λ q. let z = one_yes (get_or l i 0) v q in omega arith)) (not_named k (i + 1) v l (omega arith) (omega arith))

once_from : (k i : ℕ) (l : List ℕ) → i + k ≡ length l → some_again k i l ≡ false → (v : ℕ) → (v ≡ 0 → ⊥) → times v (drop i l) ≤ 1
unfolding some_again is_again
once_from zero i l n e v h = omega (arith, times_nil v i l (omega arith))
once_from (suc k) i l n e v h =
    let x : ℕ = get_or l i 0 in
    let both = none_of (choose (eqb x 0) false (named k (i + 1) l x)) e in
    let here : i < length l = omega arith in
    let next : (i + 1) + k ≡ length l = omega arith in
    let rest : times v (drop (i + 1) l) ≤ 1 = once_from k (i + 1) l next both.1 v h in
    by_cases (eqb x v)
    (λ (p : eqb x v ≡ true).
    let same : x ≡ v = eqb-true x v p in
    let some : x ≡ 0 → ⊥ = λ z. h (sym same ∙ z) in
    let behind : named k (i + 1) l x ≡ false = unless (eqb x 0) false both.0 (eqb_no some) in
    let no_more : times v (drop (i + 1) l) ≡ 0 = unnamed k (i + 1) v l next (ap (λ (y : ℕ). named k (i + 1) l y) (sym same) ∙ behind) in
    omega (arith, times_at v i l here, one_yes x v same, no_more))
    (λ (p : eqb x v ≡ false). omega (arith, times_at v i l here, one_no x v (isnt p), rest))

none_again : (k i : ℕ) (l : List ℕ) → i + k ≡ length l → ((v : ℕ) → (v ≡ 0 → ⊥) → times v (drop i l) ≤ 1) → some_again k i l ≡ false
unfolding some_again is_again
none_again zero i l n h = refl
none_again (suc k) i l n h =
    let x : ℕ = get_or l i 0 in
    let here : (v : ℕ) → times v (drop i l) ≡ one x v + times v (drop (i + 1) l) = λ v. times_at v i l (omega arith) in
    let next : (i + 1) + k ≡ length l = omega arith in
    none
    (if_not (eqb x 0)
    (λ p. not_named k (i + 1) x l next (omega (arith, here x, one_yes x x refl, h x (isnt p)))))
    (none_again k (i + 1) l next (λ v z. omega (arith, here v, h v z)))

-- ---- where a number is that is named once
pub times_some : (v i : ℕ) (l : List ℕ) → (v ≡ 0 → ⊥) → get_or l i 0 ≡ v → 1 ≤ times v l
times_some v i [] h e = absurd (h (sym e))
times_some v zero (x ∷ xs) h e = omega (arith, times_cons v x xs, one_yes x v e)
times_some v (suc i) (x ∷ xs) h e = omega (arith, times_cons v x xs, times_some v i xs h e)

nowhere : (v i : ℕ) (l : List ℕ) → (v ≡ 0 → ⊥) → times v l ≡ 0 → get_or l i 0 ≡ v → ⊥
nowhere v i l h n e = let z : 1 ≤ times v l = times_some v i l h e in omega arith

record Found (v : ℕ) (l : List ℕ) : Type 0 where
  place : ℕ
  within : place < length l
  there : get_or l place 0 ≡ v
  only : (i : ℕ) → get_or l i 0 ≡ v → i ≡ place

here : (v x : ℕ) (xs : List ℕ) → (v ≡ 0 → ⊥) → x ≡ v → times v xs ≡ 0 → Found v (x ∷ xs)
here v x xs h e n = record { place = 0; within = omega arith; there = e; only = only }
  where
    only : (i : ℕ) → get_or (x ∷ xs) i 0 ≡ v → i ≡ 0
    only zero q = refl
    only (suc i) q = absurd (nowhere v i xs h n q)

later : (v x : ℕ) (xs : List ℕ) → (x ≡ v → ⊥) → Found v xs → Found v (x ∷ xs)
later v x xs d f = record { place = suc f.place; within = omega (arith, f.within); there = f.there; only = only }
  where
    only : (i : ℕ) → get_or (x ∷ xs) i 0 ≡ v → i ≡ suc f.place
    only zero q = absurd (d q)
    only (suc i) q = ap suc (f.only i q)

find : (v : ℕ) (l : List ℕ) → (v ≡ 0 → ⊥) → times v l ≡ 1 → Found v l
unfolding times
find v [] h n = absurd (omega arith)
find v (x ∷ xs) h n =
    let t : times v (x ∷ xs) ≡ one x v + times v xs = times_cons v x xs in
    by_cases (eqb x v)
    (λ p. here v x xs h (eqb-true x v p) (omega (arith, one_yes x v (eqb-true x v p))))
    (λ p. later v x xs (isnt p) (find v xs h (omega (arith, one_no x v (isnt p)))))

pub in_one_place : (v : ℕ) (l : List ℕ) → length l ≡ 9 → (v ≡ 0 → ⊥) → times v l ≡ 1 → InOnePlace v l
in_one_place v l n h t =
    let f = find v l h t in
    record { place = f.place; within = omega (arith, f.within); there = f.there; only = f.only }

once : (slots : List ℕ) → length slots ≡ 9 → names_none_twice slots ≡ true → (v : ℕ) → (v ≡ 0 → ⊥) → times v slots ≤ 1
unfolding names_none_twice
once slots n e v h = once_from 9 0 slots (omega arith) (not-true _ e) v h

so : (slots : List ℕ) → length slots ≡ 9 → ((v : ℕ) → (v ≡ 0 → ⊥) → times v slots ≤ 1) → names_none_twice slots ≡ true
unfolding names_none_twice
so slots n h = no_not (none_again 9 0 slots (omega arith) h)

in_one : (slots : List ℕ) → length slots ≡ 9 → names_none_twice slots ≡ true → (v : ℕ) → (v ≡ 0 → ⊥) → (i : ℕ) →
    get_or slots i 0 ≡ v → InOnePlace v slots
in_one slots n e v h i q = in_one_place v slots n h (omega (arith, once slots n e v h, times_some v i slots h q))

pub names_hold : NamesHold
names_hold = record { once = once; so = so; in_one = in_one }
