-- Laws of a store that is judged, and of one that is written pair by pair. Assumes nothing.
use Prim.Native.Nat.{ℕ, zero, suc, ◌+◌, ◌-◌, ◌*◌, ◌≤◌, ◌<◌}
use mathlib.Core.Bool.{true, false}
use mathlib.Core.List.{List, [], ◌∷◌, ◌++◌}
use mathlib.Core.Path.{◌≡◌, refl, sym, ap, ◌∙◌}
use native.Mathlib.Omega.{arith}
use lib.Dec.{eqb, leb}
use lib.ListN.{length, take, drop, length-append}
use borrow.Author.Tests.{le-leb, lt-leb, leb-true, eq-eqb, ne_eqb}
use Rattle.std.specs.Prelude.{Some, None}
use Rattle.codes.specs.Codes.{most_listed, store_length}
use Rattle.xdr.specs.Choose.{choose}
use Rattle.xdr.specs.Xdr.{be32, be32s, word, overlay}
use Rattle.xdr.proofs.Tests.{if_so}
use Rattle.xdr.proofs.Laws.{more, overlay_none, length_be32, length_be32s}
use Rattle.xdr_opaque.specs.Opaque.{opaque_at}
use Rattle.xdr_opaque.specs.declared.Opaque.{Opaque}
use Rattle.wire_pairs.specs.Pairs.{Pair, pair, text_in, behind, pairs_from, text_at, next_at}
use Rattle.wire_pairs.specs.Store.{pair_words, pair_texts, store_bytes, storing, text_bytes, fits, laid_from, is_laid}
use Rattle.wire_pairs.proofs.Back.{length_words}
use Rattle.wire_pairs.proofs.Sizes.{both}

-- ---- judged
module _ (s : List ℕ) where
  -- a store that is too short for its words
  laid_cut : (n at sum : ℕ) → length s < at + 16 * n → laid_from s n at sum ≡ false
  unfolding laid_from
  laid_cut zero at sum h = lt-leb (at + sum) (length s) (omega arith)
  laid_cut (suc n) at sum h =
      if_so (eqb (word s at) sum)
      (λ _. if_so (eqb (word s (at + 8)) (sum + word s (at + 4))) (λ _. laid_cut n (at + 16) (sum + word s (at + 4) + word s (at + 12)) (omega arith)))

  -- a name that begins elsewhere, and a value
  pub laid_name : (n at sum : ℕ) → 0 < n → (word s at ≡ sum → ⊥) → laid_from s n at sum ≡ false
  unfolding laid_from choose
  laid_name zero at sum h p = absurd (omega arith)
  laid_name (suc n) at sum h p = rw (ne_eqb (word s at) sum p)

  pub laid_value : (n at sum : ℕ) → 0 < n → word s at ≡ sum → (word s (at + 8) ≡ sum + word s (at + 4) → ⊥) → laid_from s n at sum ≡ false
  unfolding laid_from choose
  laid_value zero at sum h p q = absurd (omega arith)
  laid_value (suc n) at sum h p q = rw (eq-eqb (word s at) sum p, ne_eqb (word s (at + 8)) (sum + word s (at + 4)) q)

  pub laid_next : (n at sum a b : ℕ) → 0 < n → word s at ≡ sum → word s (at + 8) ≡ sum + word s (at + 4) → a ≡ word s (at + 4) → b ≡ word s (at + 12)
      → laid_from s n at sum ≡ laid_from s (n - 1) (at + 16) (sum + (a + b))
  unfolding laid_from choose
  laid_next zero at sum a b h p q f g = absurd (omega arith)
  laid_next (suc n) at sum a b h p q f g =
      let e : suc n - 1 ≡ n = omega arith in
      let k : sum + (a + b) ≡ sum + word s (at + 4) + word s (at + 12) = omega arith in
      rw (e, k, eq-eqb (word s at) sum p, eq-eqb (word s (at + 8)) (sum + word s (at + 4)) q)

  pub laid_end : (n at sum : ℕ) → n ≤ 0 → laid_from s n at sum ≡ leb (at + sum) (length s)
  unfolding laid_from
  laid_end n at sum h = let e : n ≡ 0 = omega arith in rw e

  -- the count
  pub laid_many : most_listed < word s 0 → is_laid s ≡ false
  unfolding is_laid choose
  laid_many h = rw (lt-leb (word s 0) most_listed h)

  pub laid_few : (n : ℕ) → n ≡ word s 0 → n ≤ most_listed → is_laid s ≡ laid_from s n 4 0
  unfolding is_laid choose
  laid_few n e h = rw (← e, le-leb n most_listed h)

  pub laid_short : length s < 4 + 16 * word s 0 → is_laid s ≡ false
  unfolding is_laid
  laid_short h = if_so (leb (word s 0) most_listed) (λ _. laid_cut (word s 0) 4 0 h)

-- ---- the pairs of a body
-- the text that a reader found at an offset
module _ (b : List ℕ) (at : ℕ) where
  pub text_read : (o : Opaque) → Some o ≡ opaque_at b at → (take (o.start + o.len - o.start) (drop o.start b) ≡ text_at b at) × (o.next ≡ next_at b at)
  unfolding text_in behind
  text_read o e = let k : o.start + o.len - o.start ≡ o.len = omega arith in (rw (k, ← e), rw (← e))

  pub text_missing : None ≡ opaque_at b at → ([] ≡ text_at b at) × (at ≡ next_at b at)
  unfolding text_in behind
  text_missing e = (rw (← e), rw (← e))

-- the first pair, and those behind it
pub pairs_next : (b : List ℕ) (n at : ℕ) → 0 < n
    → pairs_from b n at ≡ pair (text_at b at) (text_at b (next_at b at)) ∷ pairs_from b (n - 1) (next_at b (next_at b at))
unfolding pairs_from
pairs_next b zero at h = absurd (omega arith)
pairs_next b (suc n) at h = let e : suc n - 1 ≡ n = omega arith in rw e

pub pairs_none : (b : List ℕ) (n at : ℕ) → n ≤ 0 → pairs_from b n at ≡ []
unfolding pairs_from
pairs_none b n at h = let e : n ≡ 0 = omega arith in rw e

pub length_pairs : (b : List ℕ) (n at : ℕ) → length (pairs_from b n at) ≡ n
unfolding pairs_from
length_pairs b zero at = refl
length_pairs b (suc n) at = ap suc (length_pairs b n (next_at b (next_at b at)))

-- what one pair takes, and those behind it
module _ (n v : List ℕ) (ps : List Pair) where
  pub size_cons : text_bytes (pair n v ∷ ps) ≡ length n + length v + text_bytes ps
  unfolding text_bytes
  size_cons = refl

  pub words_cons : (from : ℕ) → pair_words from (pair n v ∷ ps) ≡ from ∷ length n ∷ (from + length n) ∷ length v ∷ pair_words (from + length n + length v) ps
  unfolding pair_words
  words_cons from = refl

  pub texts_cons : pair_texts (pair n v ∷ ps) ≡ n ++ (v ++ pair_texts ps)
  unfolding pair_texts
  texts_cons = refl

-- ---- which pairs fit
module _ (b : List ℕ) (n at : ℕ) where
  pub fits_many : most_listed < n → fits (pairs_from b n at) ≡ false
  unfolding fits choose
  fits_many h = rw (length_pairs b n at, lt-leb n most_listed h)

  pub fits_not : store_length < 4 + 16 * n + text_bytes (pairs_from b n at) → fits (pairs_from b n at) ≡ false
  unfolding fits
  fits_not h = if_so (leb (length (pairs_from b n at)) most_listed) (λ _. rw (length_pairs b n at) (lt-leb (4 + 16 * n + text_bytes (pairs_from b n at)) store_length h))

  fits_all : n ≤ most_listed → 4 + 16 * n + text_bytes (pairs_from b n at) ≤ store_length → fits (pairs_from b n at) ≡ true
  unfolding fits choose
  fits_all h k = rw (length_pairs b n at, le-leb n most_listed h, le-leb (4 + 16 * n + text_bytes (pairs_from b n at)) store_length k)

  -- and what follows where they do
  pub fits_room : fits (pairs_from b n at) ≡ true → (n ≤ most_listed) × (4 + 16 * n + text_bytes (pairs_from b n at) ≤ store_length)
  unfolding fits
  fits_room e =
      let p = both (leb (length (pairs_from b n at)) most_listed) e in
      let k = length_pairs b n at in
      let h : length (pairs_from b n at) ≤ most_listed = leb-true _ _ p.0 in
      let j : 4 + 16 * length (pairs_from b n at) + text_bytes (pairs_from b n at) ≤ store_length = leb-true _ _ p.1 in
      (omega arith, omega arith)

-- none is left
size_none : (ps : List Pair) → ps ≡ [] → text_bytes ps ≡ 0
unfolding text_bytes
size_none ps h = rw h

pub fits_end : (b : List ℕ) (n at room : ℕ) (ps : List Pair) → n ≤ most_listed → room + (4 + 16 * n + text_bytes (pairs_from b n at)) ≡ store_length + text_bytes ps
    → ps ≡ [] → fits (pairs_from b n at) ≡ true
fits_end b n at room ps h e z = let s = size_none ps z in fits_all b n at h (omega arith)

module _ (ps : List Pair) (h : ps ≡ []) (to : ℕ) (out : List ℕ) where
  pub words_none : (from : ℕ) → overlay to (be32s (pair_words from ps)) out ≡ out
  unfolding pair_words be32s
  words_none from = rw h (sym (overlay_none to out))

  pub texts_none : overlay to (pair_texts ps) out ≡ out
  unfolding pair_texts
  texts_none = rw h (sym (overlay_none to out))

-- ---- written
-- the count, the words and the texts, written one after another, are a store
pub stored : (b : List ℕ) (n at : ℕ) (out m m' m'' : List ℕ) → m ≡ overlay 0 (be32 n) out → m' ≡ overlay 4 (be32s (pair_words 0 (pairs_from b n at))) m
    → m'' ≡ overlay (4 + 16 * n) (pair_texts (pairs_from b n at)) m' → m'' ≡ storing (pairs_from b n at) out
unfolding storing store_bytes be32s
stored b n at out m m' m'' e f g =
    let ps = pairs_from b n at in
    let ws = pair_words 0 (pairs_from b n at) in
    let i : 0 + length (be32 n) ≡ 4 = rw (length_be32 n) in
    let k : length (be32s ws) ≡ 16 * n = length_be32s ws ∙ rw (length_words 0 (pairs_from b n at), length_pairs b n at) (omega arith) in
    let j : 0 + length (be32 n ++ be32s ws) ≡ 4 + 16 * n = rw (length-append, length_be32 n, k) (omega arith) in
    rw (length_pairs b n at)
    (more 0 (4 + 16 * n) (be32 n ++ be32s ws) (pair_texts ps) out m' m'' (more 0 4 (be32 n) (be32s ws) out m m' e f i) g j)
