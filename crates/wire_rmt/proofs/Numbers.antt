-- The statements on numbers, of specs/Holds.antt. Assumes nothing.
use Prim.Native.Nat.{ℕ, zero, suc, ◌+◌, ◌-◌, ◌*◌, ◌/◌, ◌%◌, ◌^◌, ◌≤◌, ◌<◌}
use mathlib.Core.Bool.{true, false}
use mathlib.Core.List.{List, [], ◌∷◌, ◌++◌}
use mathlib.Core.Path.{◌≡◌, refl, sym, ap, ◌∙◌}
use native.Mathlib.Omega.{arith, pow_step}
use native.Mathlib.Nat.{add-zero, mul_assoc, div-add-mod'}
use native.Mathlib.Numerals.{add-one}
use lib.Dec.{ltb}
use lib.ListN.{length, drop, get_or, replicate, length-append, length-replicate}
use borrow.Author.Tests.{ltb-true, ltb-false}
use Rattle.xdr.proofs.Tests.{by_test}
use Rattle.xdr_opaque.specs.Put.{Each}
use Rattle.wire_rmt.specs.Numbers.{
  number,
  most_number,
  most_digits,
  line_feed,
  is_digit,
  ending,
  digits_on,
  number_at,
  last_digits,
  count_on,
  digit_count,
  decimal,
  Digit,
  value_from,
  value_of,
  Numeral,
}
use Rattle.wire_rmt.specs.Holds.{NumberThere, NumbersHold}
use Rattle.std.specs.Prelude.{Some}
use Rattle.wire_rmt.proofs.Laws.{
  by_cases,
  digit_range,
  digit_yes,
  byte_there,
  digit_there,
  first_of,
  onward,
  chosen,
  ending_says,
  on_stop,
  on_big,
  on_more,
  on_feed,
  number_some,
}

-- ---- digits are read as what they come to
grows : (v : ℕ) (ds : List ℕ) → v ≤ value_from v ds
unfolding value_from
grows v [] = omega arith
grows v (d ∷ ds) = omega (arith, grows (v * 10 + (d - 48)) ds)

digits_back : (ds : List ℕ) (n v i : ℕ) (l q : List ℕ) → drop i l ≡ ds ++ (line_feed ∷ q) → Each Digit ds → length ds ≤ n → value_from v ds ≤ most_number
    → digits_on n v l i ≡ Some (number (value_from v ds) (i + length ds + 1))
unfolding value_from
digits_back [] n v i l q e d h m = rw add-zero (on_feed l i n v (first_of l i line_feed q e).0)
digits_back (x ∷ ds) n v i l q e d h m =
    let f = first_of l i x (ds ++ (line_feed ∷ q)) e in
    let w : ℕ = v * 10 + (x - 48) in
    let t : is_digit (get_or l i 0) ≡ true = ap is_digit f.0 ∙ digit_yes x d.0 in
    let s : w ≡ v * 10 + (get_or l i 0 - 48) = rw f.0 in
    let k : length ds ≤ n - 1 = omega arith in
    let j : w ≤ most_number = omega (arith, grows w ds) in
    let a : i + 1 + length ds + 1 ≡ i + suc (length ds) + 1 = omega arith in
    on_more l i n v w (omega arith) t s j ∙ digits_back ds (n - 1) w (i + 1) l q f.1 d.1 k m ∙ ap (λ (y : ℕ). Some (number (value_from w ds) y)) a

starts : (l : List ℕ) (at : ℕ) (ds q : List ℕ) → drop at l ≡ ds ++ (line_feed ∷ q) → 1 ≤ length ds → Each Digit ds → is_digit (get_or l at 0) ≡ true
starts l at [] q e h d = absurd (omega arith)
starts l at (x ∷ ds) q e h d = ap is_digit (first_of l at x (ds ++ (line_feed ∷ q)) e).0 ∙ digit_yes x d.0

pub back : (l : List ℕ) (at : ℕ) (ds q : List ℕ) → drop at l ≡ ds ++ (10 ∷ q) → Numeral ds → number_at l at ≡ Some (number (value_of ds) (at + length ds + 1))
back l at ds q e n =
    sym (number_some l at _ (starts l at ds q e n.some n.digits) (sym (digits_back ds most_digits 0 at l q e n.digits n.few n.fits)))

-- ---- nothing else is read
record Said (n v i : ℕ) (l : List ℕ) (w k : ℕ) : Type 0 where
  ds : List ℕ
  digits : Each Digit ds
  few : length ds ≤ n
  value : w ≡ value_from v ds
  fits : w ≤ most_number
  there : drop i l ≡ ds ++ (line_feed ∷ drop k l)
  end : k ≡ i + length ds + 1

ended : (n v i : ℕ) (l : List ℕ) (w k : ℕ) → ending v l i ≡ Some (number w k) → v ≤ most_number → Said n v i l w k
unfolding value_from
ended n v i l w k e h =
    let s = ending_says v i l w k e in
    record {
      ds = [];
      digits = tt;
      few = omega arith;
      value = s.1;
      fits = omega (arith, s.1);
      there =
          onward l i (byte_there l i (omega (arith, s.0)))
          ∙ ap (λ (x : ℕ). x ∷ drop (i + 1) l) s.0 ∙ ap (λ (x : ℕ). line_feed ∷ drop x l) (sym s.2);
      end = omega (arith, s.2);
    }

one_more : (n v i : ℕ) (l : List ℕ) (w k : ℕ) → is_digit (get_or l i 0) ≡ true → Said n (v * 10 + (get_or l i 0 - 48)) (i + 1) l w k → Said (suc n) v i l w k
unfolding value_from
one_more n v i l w k t s =
    record {
      ds = get_or l i 0 ∷ s.ds;
      digits = (digit_range _ t, s.digits);
      few = omega (arith, s.few);
      value = s.value;
      fits = s.fits;
      there = onward l i (digit_there l i t) ∙ ap (λ (x : List ℕ). get_or l i 0 ∷ x) s.there;
      end = omega (arith, s.end);
    }

digits_say : (n v i : ℕ) (l : List ℕ) (w k : ℕ) → digits_on n v l i ≡ Some (number w k) → v ≤ most_number → Said n v i l w k
unfolding digits_on
digits_say zero v i l w k e h = ended zero v i l w k e h
digits_say (suc n) v i l w k e h =
    by_cases (is_digit (get_or l i 0))
    (λ (t : is_digit (get_or l i 0) ≡ true).
    let x : ℕ = v * 10 + (get_or l i 0 - 48) in
    by_cases (ltb most_number x)
    (λ (b : ltb most_number x ≡ true).
    let f = sym (on_big l i (suc n) v x (omega arith) t refl (ltb-true _ _ b)) ∙ e in
    let z : ◌≡◌ {A = ℕ} 0 1 = cc in absurd (omega arith))
    (λ (b : ltb most_number x ≡ false).
    let j : x ≤ most_number = ltb-false _ _ b in
    let m : suc n - 1 ≡ n = omega arith in
    let f = ap (λ (y : ℕ). digits_on y x l (i + 1)) (sym m) ∙ sym (on_more l i (suc n) v x (omega arith) t refl j) ∙ e in
    one_more n v i l w k t (digits_say n x (i + 1) l w k f j)))
    (λ (t : is_digit (get_or l i 0) ≡ false). ended (suc n) v i l w k (sym (on_stop l i (suc n) v (omega arith) t) ∙ e) h)

number_parts : (l : List ℕ) (at v next : ℕ) → number_at l at ≡ Some (number v next) → (is_digit (get_or l at 0) ≡ true) × (digits_on most_digits 0 l at ≡ Some (number v next))
unfolding number_at
number_parts l at v next e = chosen (is_digit (get_or l at 0)) (digits_on most_digits 0 l at) v next e

some_digit : (l : List ℕ) (at : ℕ) (ds q : List ℕ) → is_digit (get_or l at 0) ≡ true → drop at l ≡ ds ++ (line_feed ∷ q) → 1 ≤ length ds
some_digit l at [] q t e =
    let r = digit_range _ t in
    let f = (first_of l at line_feed q e).0 in
    absurd (omega (arith, r.0, f))
some_digit l at (x ∷ ds) q t e = omega arith

pub says : (l : List ℕ) (at v next : ℕ) → number_at l at ≡ Some (number v next) → NumberThere l at v next
says l at v next e =
    let p = number_parts l at v next e in
    let s = digits_say most_digits 0 at l v next p.1 (omega arith) in
    record {
      digits = s.ds;
      numeral = record {
        digits = s.digits;
        some = some_digit l at s.ds (drop next l) p.0 s.there;
        few = s.few;
        fits = omega (arith, s.value, s.fits);
      };
      value = s.value;
      there = s.there;
      end = s.end;
    }

-- ---- a number that is written
value_last : (n v : ℕ) (ds : List ℕ) → v < 10 ^ n → value_from 0 (last_digits n v ds) ≡ value_from v ds
unfolding last_digits value_from
value_last zero v ds h = let e : v ≡ 0 = omega arith in rw e
value_last (suc n) v ds h =
    let k : v < 10 * 10 ^ n = rw pow_step at h in
    let j : v / 10 < 10 ^ n = omega arith in
    let e : v / 10 * 10 + (48 + v % 10 - 48) ≡ v = omega (arith, div-add-mod' v 10) in
    value_last n (v / 10) ((48 + v % 10) ∷ ds) j ∙ ap (λ (x : ℕ). value_from x ds) e

pub count_enough : (k v : ℕ) → v < 10 ^ suc k → v < 10 ^ count_on k v
unfolding count_on
count_enough zero v h = h
count_enough (suc k) v h =
    by_test (λ (n : ℕ). v < 10 ^ n) (ltb v 10) 1 (count_on k (v / 10) + 1)
    (λ t. let l : v < 10 = ltb-true v 10 t in omega arith)
    (λ t.
    let m : v < 10 * 10 ^ suc k = rw (pow_step 10 (suc k)) at h in
    let j : v / 10 < 10 ^ suc k = omega arith in
    let i = count_enough k (v / 10) j in
    let w : v < 10 * 10 ^ count_on k (v / 10) = omega (arith, i) in
    rw (add-one, pow_step) w)

pub length_last : (n v : ℕ) (ds : List ℕ) → length (last_digits n v ds) ≡ n + length ds
unfolding last_digits
length_last zero v ds = omega arith
length_last (suc n) v ds = omega (arith, length_last n (v / 10) ((48 + v % 10) ∷ ds))

digits_last : (n v : ℕ) (ds : List ℕ) → Each Digit ds → Each Digit (last_digits n v ds)
unfolding last_digits
digits_last zero v ds d = d
digits_last (suc n) v ds d = digits_last n (v / 10) ((48 + v % 10) ∷ ds) ((omega arith, omega arith), d)

pub count_some : (k v : ℕ) → 1 ≤ count_on k v
unfolding count_on
count_some zero v = omega arith
count_some (suc k) v = by_test (λ (n : ℕ). 1 ≤ n) (ltb v 10) 1 (count_on k (v / 10) + 1) (λ _. omega arith) (λ _. omega arith)

pub count_few : (k v : ℕ) → count_on k v ≤ k + 1
unfolding count_on
count_few zero v = omega arith
count_few (suc k) v =
    by_test (λ (n : ℕ). n ≤ suc k + 1) (ltb v 10) 1 (count_on k (v / 10) + 1) (λ _. omega arith) (λ _. omega (arith, count_few k (v / 10)))

pub decimal_length : (v : ℕ) → length (decimal v) ≡ digit_count v
unfolding decimal
decimal_length v = omega (arith, length_last (digit_count v) v [])

decimal_value : (v : ℕ) → v < 2 ^ 32 → value_of (decimal v) ≡ v
unfolding decimal value_from
decimal_value v h = let k : v < 10 ^ 10 = omega arith in value_last (digit_count v) v [] (count_enough 9 v k)

decimal_digits : (v : ℕ) → Each Digit (decimal v)
unfolding decimal
decimal_digits v = digits_last (digit_count v) v [] tt

pub written : (v : ℕ) → v < 2 ^ 32 → Numeral (decimal v) × (value_of (decimal v) ≡ v)
written v h =
    let e = decimal_value v h in
    let n = decimal_length v in (
      record {
        digits = decimal_digits v;
        some = omega (arith, n, count_some 9 v);
        few = omega (arith, n, count_few 9 v);
        fits = omega (arith, e);
      },
      e,
    )

-- ---- one spelling of each length
same_digits : (a b : List ℕ) (x y : ℕ) → Each Digit a → Each Digit b → length a ≡ length b → value_from x a ≡ value_from y b → (x ≡ y) × (a ≡ b)
unfolding value_from
same_digits [] [] x y d f h e = (e, refl)
same_digits [] (q ∷ b) x y d f h e = absurd (omega arith)
same_digits (p ∷ a) [] x y d f h e = absurd (omega arith)
same_digits (p ∷ a) (q ∷ b) x y d f h e =
    let s = same_digits a b (x * 10 + (p - 48)) (y * 10 + (q - 48)) d.1 f.1 (omega arith) e in
    let i : x ≡ y = omega (arith, s.0, d.0.0, d.0.1, f.0.0, f.0.1) in
    let j : p ≡ q = omega (arith, s.0, d.0.0, d.0.1, f.0.0, f.0.1) in
    let k = s.1 in
    (i, cc)

one : (a b : List ℕ) → Each Digit a → Each Digit b → length a ≡ length b → value_of a ≡ value_of b → a ≡ b
one a b d f h e = (same_digits a b 0 0 d f h e).1

-- ---- leading zeros
-- n digits come to less than the n-th power of ten
below : (b x : ℕ) (ds : List ℕ) → Each Digit ds → x < b → value_from x ds < b * 10 ^ length ds
unfolding value_from
below b x [] d h = omega arith
below b x (e ∷ ds) d h =
    let k : x * 10 + (e - 48) < b * 10 = omega (arith, d.0.1) in
    rw (pow_step, ← mul_assoc) (below (b * 10) (x * 10 + (e - 48)) ds d.1 k)

some_power : (m v : ℕ) → v < 10 ^ m → 1 ≤ v → 1 ≤ m
some_power zero v h n = absurd (omega arith)
some_power (suc m) v h n = omega arith

-- what is below that power has no more digits
pub count_least : (k v m : ℕ) → v < 10 ^ m → 1 ≤ m → count_on k v ≤ m
unfolding count_on
count_least zero v m h n = n
count_least (suc k) v zero h n = absurd (omega arith)
count_least (suc k) v (suc m) h n =
    by_test (λ (x : ℕ). x ≤ suc m) (ltb v 10) 1 (count_on k (v / 10) + 1)
    (λ _. n)
    (λ t.
    let l : 10 ≤ v = ltb-false v 10 t in
    let w : v < 10 * 10 ^ m = rw (pow_step 10 m) at h in
    let j : v / 10 < 10 ^ m = omega arith in
    omega (arith, count_least k (v / 10) m j (some_power m (v / 10) j (omega arith))))

zeros_value : (k : ℕ) (ds : List ℕ) → value_from 0 (replicate k 48 ++ ds) ≡ value_from 0 ds
unfolding value_from
zeros_value zero ds = refl
zeros_value (suc k) ds = zeros_value k ds

zeros_digits : (k : ℕ) (ds : List ℕ) → Each Digit ds → Each Digit (replicate k 48 ++ ds)
zeros_digits zero ds d = d
zeros_digits (suc k) ds d = ((omega arith, omega arith), zeros_digits k ds d)

leading : (ds : List ℕ) → Numeral ds → ds ≡ replicate (length ds - length (decimal (value_of ds))) 48 ++ decimal (value_of ds)
leading ds n =
    let v : ℕ = value_of ds in
    let w = written v (omega (arith, n.fits)) in
    let b : v < 1 * 10 ^ length ds = below 1 0 ds n.digits (omega arith) in
    let c = count_least 9 v (length ds) (omega arith) n.some in
    let k : ℕ = length ds - length (decimal v) in
    let e = length-append (replicate k 48) (decimal v) ∙ ap (λ (x : ℕ). x + length (decimal v)) (length-replicate k 48) in
    one ds (replicate k 48 ++ decimal v) n.digits (zeros_digits k (decimal v) w.0.digits) (omega (arith, e, c, decimal_length v))
    (sym (zeros_value k (decimal v) ∙ w.1))

pub numbers : NumbersHold
numbers = record { back = back; says = says; written = written; one = one; leading = leading }
