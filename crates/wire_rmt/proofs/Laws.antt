-- Which case of each definition of specs/Numbers.antt holds, by plain facts. Assumes nothing.
use Prim.Native.Nat.{ℕ, suc, ◌+◌, ◌-◌, ◌*◌, ◌≤◌, ◌<◌}
use mathlib.Core.Bool.{Bool, true, false}
use mathlib.Core.List.{List, ◌∷◌}
use mathlib.Core.Path.{◌≡◌, refl, sym, ap, ◌∙◌}
use native.Mathlib.Omega.{arith}
use native.Mathlib.Nat.{add-zero}
use native.Mathlib.Numerals.{add-one}
use lib.Dec.{eqb, leb}
use lib.ListN.{length, drop, get_or}
use lib.Seq.{get_or-drop, drop-drop, drop-cons}
use borrow.Author.Tests.{leb-true, leb-false, eqb-true}
use Rattle.xdr.specs.Choose.{choose}
use Rattle.xdr.proofs.Tests.{eqb_yes, ltb_yes, ltb_no, leb_yes}
use Rattle.xdr.proofs.Places.{byte_none}
use Rattle.wire_rmt.specs.Numbers.{number, most_number, most_digits, line_feed, is_digit, ending, digits_on, number_at, Digit}
use Rattle.wire_rmt.specs.declared.Number.{Number}
use Rattle.std.specs.Prelude.{Option, Some, None}

both : (a b : Bool) → choose a b false ≡ true → (a ≡ true) × (b ≡ true)
unfolding choose
both true b e = (refl, e)
both false b e = let z : ◌≡◌ {A = ℕ} 0 1 = cc in absurd (omega arith)

pub by_cases : {A : Type 0} (b : Bool) → (b ≡ true → A) → (b ≡ false → A) → A
by_cases true f g = f refl
by_cases false f g = g refl

-- ---- digits
pub digit_range : (b : ℕ) → is_digit b ≡ true → Digit b
unfolding is_digit
digit_range b e = let w = both (leb 48 b) (leb b 57) e in (leb-true _ _ w.0, leb-true _ _ w.1)

pub digit_yes : (b : ℕ) → Digit b → is_digit b ≡ true
unfolding is_digit choose
digit_yes b d = rw (leb_yes d.0) (leb_yes d.1)

feed_no_digit : is_digit line_feed ≡ false
unfolding is_digit choose
feed_no_digit = refl

-- a byte that is not 0 lies within the list
pub byte_there : (l : List ℕ) (i : ℕ) → 1 ≤ get_or l i 0 → i < length l
byte_there l i h =
    by_cases (leb (length l) i)
    (λ (p : leb (length l) i ≡ true). let none : 0 ≡ get_or l i 0 = byte_none l i (leb-true _ _ p) in absurd (omega arith))
    (λ (p : leb (length l) i ≡ false). leb-false _ _ p)

pub digit_there : (l : List ℕ) (i : ℕ) → is_digit (get_or l i 0) ≡ true → i < length l
digit_there l i e = let d = digit_range (get_or l i 0) e in byte_there l i (omega (arith, d.0))

-- the list from an offset on, by its first byte
pub first_of : (l : List ℕ) (i x : ℕ) (r : List ℕ) → drop i l ≡ x ∷ r → (get_or l i 0 ≡ x) × (drop (i + 1) l ≡ r)
first_of l i x r e = (
  sym (get_or-drop i l 0 0 ∙ ap (λ (n : ℕ). get_or l n 0) (add-zero i)) ∙ ap (λ (k : List ℕ). get_or k 0 0) e,
  sym (drop-drop 1 i l) ∙ ap (λ (k : List ℕ). drop 1 k) e,
)

pub onward : (l : List ℕ) (i : ℕ) → i < length l → drop i l ≡ get_or l i 0 ∷ drop (i + 1) l
onward l i h = rw add-one (drop-cons l i 0 h)

-- ---- the end of a number
pub ending_yes : (v i : ℕ) (l : List ℕ) → get_or l i 0 ≡ line_feed → Some (number v (i + 1)) ≡ ending v l i
unfolding ending choose
ending_yes v i l h = rw (eqb_yes h)

-- what a choice that gave a number says
pub chosen : (b : Bool) (n : Option Number) (v i : ℕ) → choose b n None ≡ Some (number v i) → (b ≡ true) × (n ≡ Some (number v i))
unfolding choose
chosen true n v i e = (refl, e)
chosen false n v i e = let z : ◌≡◌ {A = ℕ} 0 1 = cc in absurd (omega arith)

pub ending_says : (v i : ℕ) (l : List ℕ) (w k : ℕ) → ending v l i ≡ Some (number w k) → (get_or l i 0 ≡ line_feed) × (w ≡ v) × (k ≡ i + 1)
unfolding ending
ending_says v i l w k e =
    let c = chosen (eqb (get_or l i 0) line_feed) (Some (number v (i + 1))) w k e in
    let h = c.1 in
    let f : number w k ≡ number v (i + 1) = cc in
    (eqb-true _ _ c.0, ap (λ (n : Number). n.value) f, ap (λ (n : Number). n.next) f)

-- ---- digits one by one
module _ (l : List ℕ) (i n v : ℕ) where
  pub on_none : n ≤ 0 → digits_on n v l i ≡ ending v l i
  unfolding digits_on
  on_none h = let k : n ≡ 0 = omega arith in rw k

  pub on_stop : 0 < n → is_digit (get_or l i 0) ≡ false → digits_on n v l i ≡ ending v l i
  unfolding digits_on choose
  on_stop h e = let k : n ≡ suc (n - 1) = omega arith in rw (k, e)

  pub on_big : (w : ℕ) → 0 < n → is_digit (get_or l i 0) ≡ true → w ≡ v * 10 + (get_or l i 0 - 48) → most_number < w
      → digits_on n v l i ≡ None
  unfolding digits_on choose
  on_big w h e f g = let k : n ≡ suc (n - 1) = omega arith in rw (k, e, ← f, ltb_yes g)

  pub on_more : (w : ℕ) → 0 < n → is_digit (get_or l i 0) ≡ true → w ≡ v * 10 + (get_or l i 0 - 48) → w ≤ most_number
      → digits_on n v l i ≡ digits_on (n - 1) w l (i + 1)
  unfolding digits_on choose
  on_more w h e f g =
      let k : n ≡ suc (n - 1) = omega arith in
      ap (λ (x : ℕ). digits_on x v l i) k ∙ rw (e, ← f, ltb_no g)

  -- a line feed ends them, however many more there may be
  pub on_feed : get_or l i 0 ≡ line_feed → digits_on n v l i ≡ Some (number v (i + 1))
  on_feed e =
      let s : is_digit (get_or l i 0) ≡ false = ap is_digit e ∙ feed_no_digit in
      by_cases (leb n 0)
      (λ (p : leb n 0 ≡ true). on_none (leb-true _ _ p) ∙ sym (ending_yes v i l e))
      (λ (p : leb n 0 ≡ false). on_stop (leb-false _ _ p) s ∙ sym (ending_yes v i l e))

pub number_some : (l : List ℕ) (at : ℕ) (r : Option Number) → is_digit (get_or l at 0) ≡ true → r ≡ digits_on most_digits 0 l at → r ≡ number_at l at
unfolding number_at choose
number_some l at r e f = rw e f
