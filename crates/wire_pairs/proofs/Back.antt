-- A store that a start wrote: it is laid out so, and its pairs are read back. Assumes nothing.
use Prim.Native.Nat.{ℕ, ◌+◌, ◌*◌, ◌^◌, ◌≤◌, ◌<◌}
use mathlib.Core.Bool.{true}
use mathlib.Core.Path.{◌≡◌, refl, ap, ◌∙◌}
use mathlib.Core.List.{List, [], ◌∷◌, ◌++◌, append_assoc}
use native.Mathlib.Omega.{arith}
use native.Mathlib.Nat.{zero-add}
use lib.ListN.{length, take, drop, length-append}
use lib.Seq.{drop-append_seam, take-append_seam, drop_at}
use lib.Dec.{leb}
use borrow.Author.Tests.{le-leb, leb-true, eq-eqb}
use Rattle.codes.specs.Codes.{most_listed, store_length}
use Rattle.xdr.specs.Choose.{choose}
use Rattle.xdr.specs.Xdr.{be32, be32s, word, overlay}
use Rattle.xdr.proofs.Laws.{length_be32, length_be32s, length_overlay}
use Rattle.xdr_opaque.proofs.Fields.{From, all_of, past, word_is}
use Rattle.wire_pairs.specs.Pairs.{Pair, with_separator}
use Rattle.wire_pairs.specs.Store.{pair_words, pair_texts, store_bytes, storing, text_bytes, fits}
use Rattle.wire_pairs.specs.Store.{laid_from, is_laid, pair_at, kept_from, kept_pairs, environment_of}
use Rattle.wire_pairs.specs.Holds.{taken, Stored}
use Rattle.wire_pairs.proofs.Sizes.{both}

-- ---- how long
pub length_words : (sum : ℕ) (ps : List Pair) → length (pair_words sum ps) ≡ 4 * length ps
unfolding pair_words
length_words sum [] = refl
length_words sum (p ∷ ps) = let e = length_words (sum + length p.name + length p.value) ps in omega arith

length_texts : (ps : List Pair) → length (pair_texts ps) ≡ text_bytes ps
unfolding pair_texts text_bytes
length_texts [] = refl
length_texts (p ∷ ps) = let e = length_texts ps in simp length-append (omega arith)

pub length_store : (ps : List Pair) → length (store_bytes ps) ≡ taken ps
unfolding store_bytes
length_store ps =
    let e = length_words 0 ps in
    let f = length_texts ps in
    simp (length-append, length_be32s) (omega arith)

-- ---- what fits
pub fit_most : (ps : List Pair) → fits ps ≡ true → length ps ≤ most_listed
unfolding fits
fit_most ps h = leb-true _ _ (both (leb (length ps) most_listed) h).0

pub fit_taken : (ps : List Pair) → fits ps ≡ true → taken ps ≤ store_length
unfolding fits
fit_taken ps h = leb-true _ _ (both (leb (length ps) most_listed) h).1

pub fit_if : (ps : List Pair) → length ps ≤ most_listed → taken ps ≤ store_length → fits ps ≡ true
unfolding fits choose
fit_if ps h k = rw (le-leb (length ps) most_listed h) (le-leb (taken ps) store_length k)

-- ---- read back
from_at : {b : List ℕ} {at at' : ℕ} {q : List ℕ} → at ≡ at' → From b at q → From b at' q
from_at e f = rw (← e) f

-- the four words of a pair, and what stands behind them
record Words (b : List ℕ) (at w x y z : ℕ) (q : List ℕ) : Type 0 where
  first : w ≡ word b at
  second : x ≡ word b (at + 4)
  third : y ≡ word b (at + 8)
  fourth : z ≡ word b (at + 12)
  next : From b (at + 16) q

words_is : {b : List ℕ} {at : ℕ} (w x y z : ℕ) (q : List ℕ) → w < 2 ^ 32 → x < 2 ^ 32 → y < 2 ^ 32 → z < 2 ^ 32
    → From b at (be32 w ++ (be32 x ++ (be32 y ++ (be32 z ++ q)))) → Words b at w x y z q
words_is {b} {at} w x y z q hw hx hy hz f =
    let f₁ : From b (at + 4) (be32 x ++ (be32 y ++ (be32 z ++ q))) = from_at (rw length_be32) (past (be32 w) f) in
    let f₂ : From b (at + 8) (be32 y ++ (be32 z ++ q)) = from_at (rw length_be32 (omega arith)) (past (be32 x) f₁) in
    let f₃ : From b (at + 12) (be32 z ++ q) = from_at (rw length_be32 (omega arith)) (past (be32 y) f₂) in
    let f₄ : From b (at + 16) q = from_at (rw length_be32 (omega arith)) (past (be32 z) f₃) in
    record {
      first = word_is _ w f hw;
      second = word_is _ x f₁ hx;
      third = word_is _ y f₂ hy;
      fourth = word_is _ z f₃ hz;
      next = f₄;
    }

-- a text that stands at an offset
text_is : {b : List ℕ} {at : ℕ} (x q : List ℕ) → From b at (x ++ q) → take (length x) (drop at b) ≡ x
text_is {b} {at} x q f = rw (f.whole, f.place, drop-append_seam f.front (x ++ q), take-append_seam x q)

-- the words of a pair and of those behind it, as they are written
pub pair_words_lem : (w x y z : ℕ) (ws q : List ℕ) → be32s (w ∷ x ∷ y ∷ z ∷ ws) ++ q
    ≡ be32 w ++ (be32 x ++ (be32 y ++ (be32 z ++ (be32s ws ++ q))))
unfolding be32s be32
pair_words_lem w x y z ws q = refl

-- where the texts behind a pair's begin
abbrev pub ended : ℕ → Pair → ℕ
ended sum p = sum + length p.name + length p.value

left : (p : Pair) (ps : List Pair) (sum : ℕ) → sum + text_bytes (p ∷ ps) < 2 ^ 32 → ended sum p + text_bytes ps < 2 ^ 32
unfolding text_bytes
left p ps sum h = omega arith

module _ (b : List ℕ) (p : Pair) (ps : List Pair) where
  own_words : (at sum : ℕ) (q : List ℕ) → sum + text_bytes (p ∷ ps) < 2 ^ 32
      → From b at (be32s (pair_words sum (p ∷ ps)) ++ q)
      → Words b at sum (length p.name) (sum + length p.name) (length p.value)
      (be32s (pair_words (ended sum p) ps) ++ q)
  unfolding pair_words text_bytes
  own_words at sum q h f =
      words_is _ _ _ _ _ (omega arith) (omega arith) (omega arith) (omega arith)
      (rw (pair_words_lem sum (length p.name) (sum + length p.name) (length p.value) (pair_words (ended sum p) ps) q) at f)

  name_is : (at : ℕ) (r : List ℕ) → From b at (pair_texts (p ∷ ps) ++ r) → From b at (p.name ++ (p.value ++ (pair_texts ps ++ r)))
  unfolding pair_texts
  name_is at r f = simp append_assoc at f

module _ (b : List ℕ) (first : ℕ) (q r : List ℕ) where
  kept_back : (ps : List Pair) (at sum : ℕ) → sum + text_bytes ps < 2 ^ 32 → From b at (be32s (pair_words sum ps) ++ q)
      → From b (first + sum) (pair_texts ps ++ r) → kept_from b first (length ps) at ≡ ps
  unfolding kept_from
  kept_back [] at sum h f g = refl
  kept_back (p ∷ ps) at sum h f g =
      let w = own_words b p ps at sum q h f in
      let g₁ = name_is b p ps (first + sum) r g in
      let g₂ : From b (first + (sum + length p.name)) (p.value ++ (pair_texts ps ++ r)) =
      from_at (omega arith) (past p.name g₁) in
      let g₃ : From b (first + ended sum p) (pair_texts ps ++ r) = from_at (omega arith) (past p.value g₂) in
      let e : pair_at b first at ≡ p =
      rw (← w.first, ← w.second, ← w.third, ← w.fourth, text_is p.name _ g₁, text_is p.value _ g₂) in
      let i = kept_back ps (at + 16) (ended sum p) (left p ps sum h) w.next g₃ in
      cc

module _ (b : List ℕ) (q : List ℕ) where
  laid_back : (ps : List Pair) (at sum : ℕ) → sum + text_bytes ps < 2 ^ 32 → From b at (be32s (pair_words sum ps) ++ q)
      → at + 16 * length ps + sum + text_bytes ps ≤ length b → laid_from b (length ps) at sum ≡ true
  unfolding laid_from choose text_bytes
  laid_back [] at sum h f k = le-leb (at + sum) (length b) (omega arith)
  laid_back (p ∷ ps) at sum h f k =
      let w = own_words b p ps at sum q h f in
      let i = laid_back ps (at + 16) (ended sum p) (left p ps sum h) w.next (omega arith) in
      let v : ℕ = sum + length p.name in
      rw (← w.first, ← w.second, ← w.third, ← w.fourth, eq-eqb sum sum refl, eq-eqb v v refl) i

-- ---- a store that a start wrote
pub store_parts : (ps : List Pair) (q : List ℕ) → store_bytes ps ++ q
    ≡ be32 (length ps) ++ (be32s (pair_words 0 ps) ++ (pair_texts ps ++ q))
unfolding store_bytes be32s
store_parts ps q = simp append_assoc

module _ (ps : List Pair) (store : List ℕ) where
  -- what stands behind the pairs
  behind : List ℕ
  behind = drop (taken ps) store

  pub storing_is : storing ps store ≡ store_bytes ps ++ drop (taken ps) store
  unfolding storing overlay
  storing_is = rw (zero-add, length_store ps)

  from_front : From (storing ps store) 0 (be32 (length ps) ++ (be32s (pair_words 0 ps) ++ (pair_texts ps ++ behind)))
  unfolding behind
  from_front = rw (storing_is ∙ store_parts ps (drop (taken ps) store)) (all_of _)

  from_words : From (storing ps store) 4 (be32s (pair_words 0 ps) ++ (pair_texts ps ++ behind))
  from_words = from_at (rw length_be32) (past (be32 (length ps)) from_front)

  from_texts : From (storing ps store) (4 + 16 * length ps + 0) (pair_texts ps ++ behind)
  from_texts =
      let e = length_words 0 ps in
      from_at (rw length_be32s (omega arith)) (past (be32s (pair_words 0 ps)) from_words)

  pub storing_past : drop (taken ps) (storing ps store) ≡ drop (taken ps) store
  storing_past = rw storing_is (drop_at (store_bytes ps) (drop (taken ps) store) (taken ps) (length_store ps))

  pub storing_room : taken ps ≤ length store → length (storing ps store) ≡ length store
  unfolding storing
  storing_room h = length_overlay 0 (store_bytes ps) store (rw (zero-add, length_store ps) h)

  pub storing_length : fits ps ≡ true → length store ≡ store_length → length (storing ps store) ≡ length store
  storing_length h e = let k = fit_taken ps h in storing_room (omega arith)

  module _ (h : fits ps ≡ true) where
    small : 0 + text_bytes ps < 2 ^ 32
    small = let k = fit_taken ps h in omega arith

    count_is : length ps ≡ word (storing ps store) 0
    count_is = let k = fit_most ps h in word_is _ (length ps) from_front (omega arith)

    room : 4 + 16 * length ps + 0 + text_bytes ps ≤ length (storing ps store)
    room = let e = length_store ps in rw (storing_is, length-append) (omega arith)

    pub storing_back : kept_pairs (storing ps store) ≡ ps
    unfolding kept_pairs
    storing_back =
        let first : ℕ = 4 + 16 * length ps in
        rw (← count_is) (kept_back (storing ps store) first (pair_texts ps ++ behind) behind ps 4 0 small from_words from_texts)

    pub storing_laid : is_laid (storing ps store) ≡ true
    unfolding is_laid choose
    storing_laid =
        rw (← count_is, le-leb (length ps) most_listed (fit_most ps h))
        (laid_back (storing ps store) (pair_texts ps ++ behind) ps 4 0 small from_words room)

    given : environment_of (storing ps store) ≡ with_separator ps
    unfolding environment_of
    given = ap with_separator storing_back

    pub start_leaves : Stored ps store
    start_leaves =
        record { back = storing_back; laid = storing_laid; long = storing_length h; past = storing_past; given = given }
