-- Laws of the writers' loops and of their replies. Assumes nothing.
use Prim.Native.Nat.{ℕ, zero, suc, ◌+◌, ◌-◌, ◌*◌, ◌/◌, ◌%◌, ◌^◌, ◌≤◌, ◌<◌, max}
use mathlib.Core.List.{List, [], ◌∷◌}
use mathlib.Core.Path.{◌≡◌, refl, sym, ap, ◌∙◌}
use native.Mathlib.Omega.{arith, pow_step}
use lib.ListN.{length, set}
use Rattle.xdr.specs.Choose.{choose}
use Rattle.xdr.specs.Xdr.{overlay}
use Rattle.xdr.proofs.Laws.{overlay_none, overlay_front, store_one}
use Rattle.xdr_opaque.specs.Put.{Put}
use Rattle.xdr_opaque.proofs.Laws.{then, put}
use Rattle.wire_rmt.specs.Numbers.{line_feed, last_digits, count_on, digit_count, decimal}
use Rattle.wire_rmt.specs.Replies.{error_text, headed, accepted, refused}
use Rattle.wire_rmt.proofs.Numbers.{decimal_length, count_few, count_some, count_least, count_enough}

-- ---- how many digits
pow_some : (k : ℕ) → 1 ≤ 10 ^ k
pow_some zero = omega arith
pow_some (suc k) = rw pow_step (omega (arith, pow_some k))

pow_below : (k m : ℕ) → 10 ^ k < 10 ^ m → k < m
pow_below k zero h = absurd (omega (arith, pow_some k))
pow_below zero (suc m) h = omega arith
pow_below (suc k) (suc m) h = let a : 10 * 10 ^ k < 10 * 10 ^ m = rw (pow_step, pow_step) at h in omega (arith, pow_below k m (omega arith))

pow_ten : (m : ℕ) → 1 ≤ m → 10 ≤ 10 ^ m
pow_ten zero h = absurd (omega arith)
pow_ten (suc m) h = rw pow_step (omega (arith, pow_some m))

-- by the greatest power of ten that is not above the number
pub count_is : (v k w : ℕ) → w ≡ max v 1 → v < 2 ^ 32 → 10 ^ k ≤ w → w < 10 * 10 ^ k → k < 10 → (k + 1 ≡ digit_count v) × (k + 1 ≤ 10)
count_is v k w e fits low high few =
    let below : v < 10 ^ suc k = rw pow_step (omega arith) in
    let most = count_least 9 v (suc k) below (omega arith) in
    let above : v < 10 ^ count_on 9 v = count_enough 9 v (omega arith) in
    let ten = pow_ten (count_on 9 v) (count_some 9 v) in
    let least = pow_below k (count_on 9 v) (omega arith) in
    (omega arith, omega arith)

-- ---- the digits, from the last on
-- those from the i-th on are written, over the old bytes
pub record Going (v at i left : ℕ) (l m : List ℕ) : Type 0 where
  pub done : List ℕ
  pub whole : decimal v ≡ last_digits i left done
  pub wrote : m ≡ overlay (at + i) done l

module _ {v at : ℕ} {l : List ℕ} where
  pub going_first : (n : ℕ) → n ≡ digit_count v → Going v at n v l l
  unfolding decimal
  going_first n e = record { done = []; whole = ap (λ (k : ℕ). last_digits k v []) (sym e); wrote = overlay_none (at + n) l }

  module _ {i left : ℕ} {m : List ℕ} (g : Going v at i left l m) where
    digit_next : 0 < i → decimal v ≡ last_digits (i - 1) (left / 10) ((48 + left % 10) ∷ g.done)
    unfolding last_digits
    digit_next h = let e : i ≡ suc (i - 1) = omega arith in g.whole ∙ ap (λ (k : ℕ). last_digits k left g.done) e

    pub going_on : 0 < i → at + i ≤ length l → length m ≡ length l → Going v at (i - 1) (left / 10) l (set m (at + (i - 1)) (48 + left % 10))
    going_on h k n =
        record {
          done = (48 + left % 10) ∷ g.done;
          whole = digit_next h;
          wrote =
              store_one (at + (i - 1)) (48 + left % 10) m (omega arith)
              ∙ ap (λ (x : List ℕ). overlay (at + (i - 1)) ((48 + left % 10) ∷ []) x) g.wrote
              ∙ overlay_front (at + (i - 1)) (at + i) ((48 + left % 10) ∷ []) g.done l (omega arith) k;
        }

    all_done : i ≤ 0 → decimal v ≡ g.done
    unfolding last_digits
    all_done h = let e : i ≡ 0 = omega arith in g.whole ∙ ap (λ (k : ℕ). last_digits k left g.done) e

    pub going_end : (n : ℕ) → i ≤ 0 → n ≡ digit_count v → Put at (decimal v) l (at + n) m
    going_end n h e =
        let z : at + i ≡ at = omega arith in
        let d = decimal_length v in
        put (at + n)
        (g.wrote ∙ ap (λ (k : ℕ). overlay k g.done l) z ∙ ap (λ (x : List ℕ). overlay at x l) (sym (all_done h)))
        (omega arith)

-- ---- a head
head_put : {at next : ℕ} (letter n : ℕ) {l m : List ℕ} → at < length l → Put (at + 1) (decimal n) (set l at letter) next m → next < length m
    → Put at (headed letter n) l (next + 1) (set m next line_feed)
unfolding headed
head_put {at} {next} letter n {l} {m} h p k =
    then (put (at + 1) (store_one at letter l h) (omega arith)) (then p (put (next + 1) (store_one next line_feed m k) (omega arith)))

pub accepted_put : {at next : ℕ} (n : ℕ) {l m : List ℕ} → at < length l → Put (at + 1) (decimal n) (set l at 65) next m → next < length m
    → Put at (accepted n) l (next + 1) (set m next line_feed)
unfolding accepted
accepted_put n h p k = head_put 65 n h p k

pub decimal_short : (n : ℕ) → length (decimal n) ≤ 10
decimal_short n = omega (arith, decimal_length n, count_few 9 n)

-- ---- errors
-- the three, byte for byte
abbrev text22 : List ℕ
text22 =
    69 ∷ 50 ∷ 50 ∷ 10 ∷ 73 ∷ 110 ∷ 118 ∷ 97 ∷ 108 ∷ 105 ∷ 100 ∷ 32 ∷ 97 ∷ 114 ∷ 103 ∷ 117 ∷ 109 ∷ 101 ∷ 110 ∷ 116 ∷ 10 ∷ []

pub bytes_22 : text22 ≡ refused 22
unfolding refused headed error_text decimal last_digits count_on choose
bytes_22 = refl

abbrev text6 : List ℕ
text6 =
    69 ∷ 54 ∷ 10 ∷ 78 ∷ 111 ∷ 32 ∷ 115 ∷ 117 ∷ 99 ∷ 104 ∷ 32 ∷ 100 ∷ 101 ∷ 118 ∷ 105 ∷ 99 ∷ 101 ∷ 32 ∷ 111 ∷ 114 ∷ 32 ∷ 97 ∷ 100 ∷ 100 ∷ 114 ∷ 101 ∷ 115 ∷ 115 ∷ 10 ∷ []

pub bytes_6 : text6 ≡ refused 6
unfolding refused headed error_text decimal last_digits count_on choose
bytes_6 = refl

abbrev text5 : List ℕ
text5 =
    69 ∷ 53 ∷ 10 ∷ 73 ∷ 47 ∷ 79 ∷ 32 ∷ 101 ∷ 114 ∷ 114 ∷ 111 ∷ 114 ∷ 10 ∷ []

pub bytes_5 : text5 ≡ refused 5
unfolding refused headed error_text decimal last_digits count_on choose
bytes_5 = refl
