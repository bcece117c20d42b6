-- Nothing is laid out so but what a start could have written. Assumes nothing.
use Prim.Native.Nat.{ℕ, zero, suc, ◌+◌, ◌*◌, ◌/◌, ◌%◌, ◌≤◌, ◌<◌}
use mathlib.Core.Bool.{true}
use mathlib.Core.Path.{◌≡◌, refl, sym, ap, ◌∙◌}
use mathlib.Core.List.{List, [], ◌∷◌, ◌++◌, append_assoc}
use native.Mathlib.Omega.{arith}
use native.Mathlib.Nat.{add-zero}
use lib.ListN.{length, take, drop, get_or, length-drop, take-append-drop}
use lib.Seq.{drop-cons, drop-drop, length-take-le}
use lib.Dec.{eqb}
use borrow.Author.Tests.{leb-true, eqb-true}
use Rattle.codes.specs.Codes.{store_length}
use Rattle.xdr.specs.Xdr.{be32, be32s, word}
use Rattle.wire_pairs.specs.Pairs.{Pair}
use Rattle.wire_pairs.specs.Store.{pair_words, pair_texts, text_bytes, laid_from, is_laid, pair_at, kept_from, kept_pairs}
use Rattle.wire_pairs.specs.Holds.{Bytes, taken, Written}
use Rattle.wire_pairs.proofs.Sizes.{both, laid_count, laid_pairs}
use Rattle.wire_pairs.proofs.Back.{ended, fit_if, pair_words_lem, store_parts, storing_is}

-- ---- a word is what it is written as
module _ (a b c d : ℕ) (ha : a < 256) (hb : b < 256) (hc : c < 256) (hd : d < 256) where
  digit_0 : (a * 16777216 + b * 65536 + c * 256 + d) / 16777216 % 256 ≡ a
  digit_0 = omega arith

  digit_1 : (a * 16777216 + b * 65536 + c * 256 + d) / 65536 % 256 ≡ b
  digit_1 = omega arith

  digit_2 : (a * 16777216 + b * 65536 + c * 256 + d) / 256 % 256 ≡ c
  digit_2 = omega arith

  digit_3 : (a * 16777216 + b * 65536 + c * 256 + d) % 256 ≡ d
  digit_3 = omega arith

  be32_digits : be32 (a * 16777216 + b * 65536 + c * 256 + d) ≡ a ∷ b ∷ c ∷ d ∷ []
  unfolding be32
  be32_digits = rw (digit_0, digit_1, digit_2, digit_3)

split : (n k : ℕ) (l : List ℕ) → drop n l ≡ take k (drop n l) ++ drop (n + k) l
split n k l = rw (← drop-drop k n l) (sym (take-append-drop k (drop n l)))

module _ (l : List ℕ) (at : ℕ) where
  four_drop : at + 4 ≤ length l
      → drop at l ≡ get_or l at 0 ∷ get_or l (at + 1) 0 ∷ get_or l (at + 2) 0 ∷ get_or l (at + 3) 0 ∷ drop (at + 4) l
  four_drop h =
      let e₁ : at + 1 ≡ suc at = omega arith in
      let e₂ : at + 2 ≡ suc (suc at) = omega arith in
      let e₃ : at + 3 ≡ suc (suc (suc at)) = omega arith in
      let e₄ : at + 4 ≡ suc (suc (suc (suc at))) = omega arith in
      rw (
        e₁,
        e₂,
        e₃,
        e₄,
        drop-cons l at 0 (omega arith),
        drop-cons l (suc at) 0 (omega arith),
        drop-cons l (suc (suc at)) 0 (omega arith),
        drop-cons l (suc (suc (suc at))) 0 (omega arith),
      )

  word_spelled : Bytes l → at + 4 ≤ length l → drop at l ≡ be32 (word l at) ++ drop (at + 4) l
  unfolding word
  word_spelled h k = rw (be32_digits _ _ _ _ (h at) (h (at + 1)) (h (at + 2)) (h (at + 3))) (four_drop k)

-- the four words of a pair
module _ (l : List ℕ) (h : Bytes l) (at : ℕ) (k : at + 16 ≤ length l) where
  words_spelled : drop at l
      ≡ be32 (word l at) ++ (be32 (word l (at + 4)) ++ (be32 (word l (at + 8)) ++ (be32 (word l (at + 12)) ++ drop (at + 16) l)))
  words_spelled =
      let e₁ : at + 4 + 4 ≡ at + 8 = omega arith in
      let e₂ : at + 8 + 4 ≡ at + 12 = omega arith in
      let e₃ : at + 12 + 4 ≡ at + 16 = omega arith in
      let p₀ = word_spelled l at h (omega arith) in
      let p₁ : drop (at + 4) l ≡ be32 (word l (at + 4)) ++ drop (at + 8) l =
      rw (← e₁) (word_spelled l (at + 4) h (omega arith)) in
      let p₂ : drop (at + 8) l ≡ be32 (word l (at + 8)) ++ drop (at + 12) l =
      rw (← e₂) (word_spelled l (at + 8) h (omega arith)) in
      let p₃ : drop (at + 12) l ≡ be32 (word l (at + 12)) ++ drop (at + 16) l =
      rw (← e₃) (word_spelled l (at + 12) h (omega arith)) in
      cc

-- ---- what `laid_from` says
pub record Laid (store : List ℕ) (n at sum : ℕ) : Type 0 where
  pub name : word store at ≡ sum
  pub value : word store (at + 8) ≡ sum + word store (at + 4)
  pub others : laid_from store n (at + 16) (sum + word store (at + 4) + word store (at + 12)) ≡ true

module _ (store : List ℕ) where
  pub laid_suc : (n at sum : ℕ) → laid_from store (suc n) at sum ≡ true → Laid store n at sum
  unfolding laid_from
  laid_suc n at sum h =
      let p = both (eqb (word store at) sum) h in
      let q = both (eqb (word store (at + 8)) (sum + word store (at + 4))) p.1 in
      record { name = eqb-true _ _ p.0; value = eqb-true _ _ q.0; others = q.1 }

  pub laid_room : (n at sum : ℕ) → laid_from store n at sum ≡ true → at + 16 * n + sum ≤ length store
  unfolding laid_from
  laid_room zero at sum h = let k : at + sum ≤ length store = leb-true _ _ h in omega arith
  laid_room (suc n) at sum h =
      let w = laid_suc n at sum h in
      let i = laid_room n (at + 16) _ w.others in
      omega arith

-- ---- the pairs that are read are written as they stand
record Spelled (store : List ℕ) (n at first sum : ℕ) (ps : List Pair) : Type 0 where
  count : length ps ≡ n
  words : drop at store ≡ be32s (pair_words sum ps) ++ drop first store
  texts : drop (first + sum) store ≡ pair_texts ps ++ drop (first + sum + text_bytes ps) store
  within : first + sum + text_bytes ps ≤ length store

none : (store : List ℕ) (at first sum : ℕ) → at ≡ first → at + 16 * 0 + sum ≤ length store → Spelled store 0 at first sum []
unfolding be32s pair_words pair_texts text_bytes
none store at first sum e h =
    record { count = refl; words = ap (λ (k : ℕ). drop k store) e; texts = rw add-zero; within = omega arith }

-- one pair more in front, by what its words and its texts are
module _ (store : List ℕ) (h : Bytes store) (n at first sum : ℕ) (p : Pair) (ps : List Pair) where
  more : word store at ≡ sum → word store (at + 4) ≡ length p.name → word store (at + 8) ≡ sum + length p.name
      → word store (at + 12) ≡ length p.value
      → drop (first + sum) store ≡ p.name ++ (p.value ++ drop (first + ended sum p) store)
      → at + 16 ≤ length store → Spelled store n (at + 16) first (ended sum p) ps → Spelled store (suc n) at first sum (p ∷ ps)
  unfolding pair_words pair_texts text_bytes
  more e₀ e₁ e₂ e₃ t k s =
      let w = rw (e₀, e₁, e₂, e₃) at (words_spelled store h at k) in
      let e : first + ended sum p + text_bytes ps ≡ first + sum + (length p.name + length p.value + text_bytes ps) = omega arith in
      record {
        count = ap suc s.count;
        words = w ∙ rw s.words (sym (pair_words_lem _ _ _ _ (pair_words (ended sum p) ps) (drop first store)));
        texts = t ∙ rw (s.texts, e) (simp append_assoc);
        within = omega (arith, s.within);
      }

-- a text that lies within a list, and one behind it
module _ (l : List ℕ) where
  part_length : (from n : ℕ) → from + n ≤ length l → length (take n (drop from l)) ≡ n
  part_length from n h = length-take-le n (drop from l) (simp length-drop (omega arith))

  two_parts : (from n m : ℕ) → drop from l ≡ take n (drop from l) ++ (take m (drop (from + n) l) ++ drop (from + n + m) l)
  two_parts from n m = split from n l ∙ ap (λ (r : List ℕ). take n (drop from l) ++ r) (split (from + n) m l)

module _ (store : List ℕ) (h : Bytes store) (first : ℕ) where
  -- a laid pair's texts, by their lengths
  module _ (n at sum : ℕ) (e : at + 16 * suc n ≡ first) (w : Laid store n at sum) where
    ends : first + (sum + word store (at + 4) + word store (at + 12)) ≤ length store
    ends = let k = laid_room store n (at + 16) _ w.others in omega arith

    name_long : length (pair_at store first at).name ≡ word store (at + 4)
    name_long = let k = ends in part_length store (first + word store at) (word store (at + 4)) (omega (arith, w.name))

    value_long : length (pair_at store first at).value ≡ word store (at + 12)
    value_long = let k = ends in part_length store (first + word store (at + 8)) (word store (at + 12)) (omega (arith, w.value))

    both_texts : drop (first + sum) store
        ≡ (pair_at store first at).name
        ++ ((pair_at store first at).value ++ drop (first + (sum + word store (at + 4) + word store (at + 12))) store)
    both_texts =
        let n : ℕ = word store (at + 4) in
        let v : ℕ = word store (at + 12) in
        let g : first + (sum + n + v) ≡ first + sum + n + v = omega arith in
        let f : first + (sum + n) ≡ first + sum + n = omega arith in
        rw (w.name, w.value, f, g) (two_parts store (first + sum) n v)

  kept_spelled : (n at sum : ℕ) → at + 16 * n ≡ first → laid_from store n at sum ≡ true
      → Spelled store n at first sum (kept_from store first n at)
  unfolding kept_from
  kept_spelled zero at sum e k = none store at first sum (omega arith) (laid_room store zero at sum k)
  kept_spelled (suc n) at sum e k =
      let w = laid_suc store n at sum k in
      let i = kept_spelled n (at + 16) _ (omega arith) w.others in
      let nl = name_long n at sum e w in
      let vl = value_long n at sum e w in
      let z = ends n at sum e w in
      more store h n at first sum (pair_at store first at) (kept_from store first n (at + 16)) w.name (sym nl)
      (rw nl w.value) (sym vl) (rw (nl, vl) (both_texts n at sum e w)) (omega arith) (rw (nl, vl) i)

-- ---- the whole store
module _ (store : List ℕ) (h : Bytes store) (k : is_laid store ≡ true) where
  all_spelled : Spelled store (word store 0) 4 (4 + 16 * word store 0) 0 (kept_pairs store)
  unfolding kept_pairs
  all_spelled = kept_spelled store h (4 + 16 * word store 0) (word store 0) 4 0 refl (laid_pairs store k)

  pub only : length store ≤ store_length → Written store
  only m =
      let s = all_spelled in
      let ps : List Pair = kept_pairs store in
      let first : ℕ = 4 + 16 * word store 0 in
      let r = laid_room store (word store 0) 4 0 (laid_pairs store k) in
      let c : drop 0 store ≡ be32 (word store 0) ++ drop (0 + 4) store = word_spelled store 0 h (omega arith) in
      let e : first + text_bytes ps ≡ taken ps = omega (arith, s.count) in
      let t : drop first store ≡ pair_texts ps ++ drop (taken ps) store = rw (add-zero, e) at s.texts in
      record {
        whole = storing_is ps store ∙ store_parts ps (drop (taken ps) store) ∙ rw (← t, ← s.words, s.count) (sym c);
        fit = fit_if ps (rw s.count (laid_count store k)) (omega (arith, s.within, s.count));
      }
