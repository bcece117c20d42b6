-- A list of words where it lies: its words, what halving it decides, and that a list which names the marks serves for FSF and BSF. Assumes nothing.
use Prim.Native.Nat.{ℕ, zero, suc, ◌+◌, ◌*◌, ◌≤◌, ◌<◌}
use mathlib.Core.List.{List, [], ◌∷◌}
use mathlib.Core.Bool.{true}
use mathlib.Core.Path.{◌≡◌, refl, sym, ap, ◌∙◌}
use native.Mathlib.Omega.{arith}
use lib.ListN.{length, get_or}
use lib.Dec.{ltb}
use borrow.Author.Tests.{ltb-true, ltb-false}
use Rattle.xdr.specs.Xdr.{word}
use Rattle.xdr.proofs.Tests.{by_test}
use Rattle.tape_image.specs.Image.{most_entries, count}
use Rattle.tape_image.specs.Place.{marks_before}
use Rattle.tape_spacing.specs.Spacing.{spacing, goes_forward, counts_marks}
use Rattle.tape_spacing.specs.Alike.{is_mark}
use Rattle.tape_marks.specs.Marks.{marks_from, words_at, is_mark_list, before, jump}
use Rattle.tape_marks.specs.Holds.{RisingFrom, Listed}
use Rattle.tape_marks.proofs.Marks.{by_cases, rising_least, before_yes, before_no, before_none, marks_rising, number_marks, names_exactly}
use Rattle.tape_marks.proofs.Jump.{files_by_marks}

pub length_words : (l : List ℕ) (m at : ℕ) → length (words_at l at m) ≡ m
unfolding words_at
length_words l zero at = refl
length_words l (suc m) at = ap suc (length_words l m (at + 4))

pub word_listed : (l : List ℕ) (m at j : ℕ) → j < m → get_or (words_at l at m) j 0 ≡ word l (at + j * 4)
unfolding words_at
word_listed l zero at j h = absurd (omega arith)
word_listed l (suc m) at zero h = let e : at ≡ at + 0 * 4 = omega arith in ap (word l) e
word_listed l (suc m) at (suc j) h =
    let e : at + 4 + j * 4 ≡ at + suc j * 4 = omega arith in
    word_listed l m (at + 4) j (omega arith) ∙ ap (word l) e

-- ---- halves of a rising list
pub before_most : (ms : List ℕ) (p : ℕ) → before ms p ≤ length ms
unfolding before
before_most [] p = omega arith
before_most (m ∷ ms) p =
    let rest = before_most ms p in
    by_test (λ (b : ℕ). b ≤ length (m ∷ ms)) (ltb m p) _ _ (λ _. omega arith) (λ _. omega arith)

module _ (p : ℕ) where
  -- a word below p: it and all before it lie before p
  pub low_half : (b : ℕ) (ms : List ℕ) (j : ℕ) → RisingFrom b ms → j < length ms → get_or ms j 0 < p → j + 1 ≤ before ms p
  low_half b [] j r h low = absurd (omega arith)
  low_half b (m ∷ ms) zero r h low = let e = before_yes p m ms low in omega arith
  low_half b (m ∷ ms) (suc j) r h low =
      let above = rising_least (m + 1) ms j r.1 (omega arith) in
      let e = before_yes p m ms (omega arith) in
      let rest = low_half (m + 1) ms j r.1 (omega arith) low in
      omega arith

  -- a word not below p: neither it nor any after it lies before p
  pub high_half : (b : ℕ) (ms : List ℕ) (j : ℕ) → RisingFrom b ms → j < length ms → p ≤ get_or ms j 0 → before ms p ≤ j
  high_half b [] j r h high = absurd (omega arith)
  high_half b (m ∷ ms) zero r h high =
      let e = before_no p m ms high in
      let rest = before_none (m + 1) p ms r.1 (omega arith) in
      omega arith
  high_half b (m ∷ ms) (suc j) r h high =
      let rest = high_half (m + 1) ms j r.1 (omega arith) high in
      by_cases (ltb m p)
      (λ t. let e = before_yes p m ms (ltb-true m p t) in omega arith)
      (λ t. let e = before_no p m ms (ltb-false m p t) in omega arith)

-- ---- a list that names the marks
-- no more marks than entries
few_marks : (l : List ℕ) (n : ℕ) → marks_before l n ≤ n
unfolding marks_before
few_marks l zero = omega arith
few_marks l (suc n) =
    let rest = few_marks l n in
    by_test (λ (b : ℕ). b ≤ suc n) (is_mark l n) _ _ (λ _. omega arith) (λ _. omega arith)

module _ (l : List ℕ) (at m n : ℕ) (named : is_mark_list (words_at l at m) l n ≡ true) where
  words_are : words_at l at m ≡ marks_from l 0 n
  words_are = (names_exactly (words_at l at m) l n).are named

  pub named_few : m ≤ n
  named_few =
      let a = length_words l m at in
      let b = ap length words_are in
      let c = number_marks l n in
      let d = few_marks l n in
      omega arith

  pub named_listed : n ≤ most_entries → at + m * 4 ≤ length l → Listed l at m
  named_listed few whole =
      let f = named_few in
      record { few = omega arith; whole = whole; rising = rw words_are (marks_rising l n 0) }

-- FSF and BSF by a list where it lies, which names the marks
pub named_files : (l : List ℕ) (at m op p times : ℕ) → is_mark_list (words_at l at m) l (count l) ≡ true → counts_marks op ≡ true → p ≤ count l
    → jump (goes_forward op) (words_at l at m) (count l) p times ≡ spacing l op p times
named_files l at m op p times named marks h =
    ap (λ (ms : List ℕ). jump (goes_forward op) ms (count l) p times) (words_are l at m (count l) named) ∙ sym (files_by_marks l op p times marks h)
