-- The loop over the places, and the search behind one of them. Assumes nothing.
use Rattle.std.proofs.Common.{◌≡◌, ℕ, zero, suc, ◌+◌, ◌-◌, ◌≤◌, ◌<◌, Bool, true, false, not, ◌||◌, eqb, List, ◌∷◌, length, get_or, take, drop, drop-cons, add-one, refl, sym, ◌∙◌, arith}
use Rattle.std.specs.List.{list_any}
use Rattle.xdr.specs.Choose.{choose}
use Rattle.xdr.proofs.Tests.{eqb_yes, eqb_no}
use Rattle.changer_elements.specs.Slots.{named, is_again, some_again, names_none_twice}

or_choose : (b : Bool) {x y : Bool} → x ≡ y → (b || x) ≡ choose b true y
unfolding choose
or_choose true h = refl
or_choose false h = h

-- a number is named in a stretch of places where the stretch has it
named_any : (k i v : ℕ) (l : List ℕ) → i + k ≤ length l → list_any (λ y. eqb y v) (take k (drop i l)) ≡ named k i l v
unfolding named
named_any zero i v l h = refl
named_any (suc k) i v l h =
    let d : drop i l ≡ get_or l i 0 ∷ drop (i + 1) l = drop-cons l i 0 (omega arith) ∙ rw add-one in
    rw d (or_choose (eqb (get_or l i 0) v) (named_any k (i + 1) v l (omega arith)))

-- a loop that has found none named again in the first i of nine places, and the place where it stands
module _ (i : ℕ) (l : List ℕ) (inv : names_none_twice l ≡ not (some_again (9 - i) i l)) (here : i < 9) where
  some_next : (b : Bool) → is_again (8 - i) i l ≡ b → names_none_twice l ≡ not (choose b true (some_again (9 - (i + 1)) (i + 1) l))
  unfolding some_again
  some_next b e =
      let k : 9 - i ≡ suc (8 - i) = omega arith in
      let m : 9 - (i + 1) ≡ 8 - i = omega arith in
      inv ∙ rw (k, m, e)

  pub empty_next : get_or l i 0 ≡ 0 → names_none_twice l ≡ not (some_again (9 - (i + 1)) (i + 1) l)
  unfolding is_again choose
  empty_next h = some_next false (rw (eqb_yes h))

  module _ (n : length l ≡ 9) (some : get_or l i 0 ≡ 0 → ⊥) (b : Bool)
      (r : b ≡ list_any (λ y. eqb y (get_or l i 0)) (take (9 - (i + 1)) (drop (i + 1) l))) where
    again : is_again (8 - i) i l ≡ b
    unfolding is_again choose
    again =
        let m : 9 - (i + 1) ≡ 8 - i = omega arith in
        let w : i + 1 + (8 - i) ≤ length l = omega arith in
        rw (eqb_no some) (sym (rw m at r ∙ named_any (8 - i) (i + 1) (get_or l i 0) l w))

    pub twice_here : b ≡ true → false ≡ names_none_twice l
    unfolding choose
    twice_here e = sym (some_next true (again ∙ e))

    pub once_next : b ≡ false → names_none_twice l ≡ not (some_again (9 - (i + 1)) (i + 1) l)
    unfolding choose
    once_next e = some_next false (again ∙ e)
