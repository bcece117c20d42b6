-- The store of a data end's environment (02 No. 3): "a lent store of 16,384 bytes, a count (at most 64), four words a pair (start, from the first text on, and
-- length of name and of value), then the texts without gaps, name before value; bytes past them stay".
use Rattle.std.specs.Prelude.{ℕ, zero, suc, ◌+◌, ◌-◌, ◌*◌, ◌≤◌, ◌≡◌, Bool, true, false, List, [], ◌∷◌, ◌++◌, eqb, leb, length, take, drop}
use Rattle.codes.specs.Codes.{most_listed, store_length}
use Rattle.xdr.specs.Choose.{choose}
use Rattle.xdr.specs.Xdr.{be32, be32s, word, overlay}
use Rattle.wire_pairs.specs.Pairs.{Pair, pair, with_separator}

-- ---- written
-- the words of pairs whose texts begin so far behind the first text: start and length of the name, start and length of the value
unfoldable pub pair_words : ℕ → List Pair → List ℕ
pair_words from [] = []
pair_words from (p ∷ ps) =
    from ∷ length p.name ∷ (from + length p.name) ∷ length p.value ∷ pair_words (from + length p.name + length p.value) ps

unfoldable pub pair_texts : List Pair → List ℕ
pair_texts [] = []
pair_texts (p ∷ ps) = p.name ++ (p.value ++ pair_texts ps)

unfoldable pub store_bytes : List Pair → List ℕ
store_bytes ps = be32s (length ps ∷ pair_words 0 ps) ++ pair_texts ps

-- "bytes past them stay"
unfoldable pub storing : List Pair → List ℕ → List ℕ
storing ps store = overlay 0 (store_bytes ps) store

-- how many bytes the texts take
unfoldable pub text_bytes : List Pair → ℕ
text_bytes [] = 0
text_bytes (p ∷ ps) = length p.name + length p.value + text_bytes ps

-- "22 if the pairs do not fit": exactly full is accepted
unfoldable pub fits : List Pair → Bool
fits ps = choose (leb (length ps) most_listed) (leb (4 + 16 * length ps + text_bytes ps) store_length) false

-- "data stop makes the count 0", and touches nothing else
unfoldable pub emptied : List ℕ → List ℕ
emptied store = overlay 0 (be32 0) store

-- ---- read
-- so many pairs whose words begin at an offset, with so many bytes of texts before theirs: each text begins where the one before ended, and the texts, which
-- begin behind the words, end within the store
unfoldable pub laid_from : List ℕ → ℕ → ℕ → ℕ → Bool
laid_from store zero at sum = leb (at + sum) (length store)
laid_from store (suc n) at sum =
    choose (eqb (word store at) sum)
    (choose (eqb (word store (at + 8)) (sum + word store (at + 4)))
    (laid_from store n (at + 16) (sum + word store (at + 4) + word store (at + 12)))
    false)
    false

-- whether a store is "laid out so"
unfoldable pub is_laid : List ℕ → Bool
is_laid store = choose (leb (word store 0) most_listed) (laid_from store (word store 0) 4 0) false

-- the pair whose words stand at an offset, by where the first text begins
abbrev pub pair_at : List ℕ → ℕ → ℕ → Pair
pair_at store first at =
    pair (take (word store (at + 4)) (drop (first + word store at) store)) (take (word store (at + 12)) (drop (first + word store (at + 8)) store))

unfoldable pub kept_from : List ℕ → ℕ → ℕ → ℕ → List Pair
kept_from store first zero at = []
kept_from store first (suc n) at = pair_at store first at ∷ kept_from store first n (at + 16)

-- the pairs in a store
unfoldable pub kept_pairs : List ℕ → List Pair
kept_pairs store = kept_from store (4 + 16 * word store 0) (word store 0) 4

-- a walk through the pairs of a store whose first text begins at `first`: so many are left, whose words stand from `at` on up to
-- the first text, and whose texts begin at `text`
pub record Left (store : List ℕ) (first left at text : ℕ) : Type 0 where
  pub laid : laid_from store left at (text - first) ≡ true
  pub words : at + 16 * left ≡ first
  pub texts : first ≤ text

-- what 0x404 answers from a store
unfoldable pub environment_of : List ℕ → List Pair
environment_of store = with_separator (kept_pairs store)
