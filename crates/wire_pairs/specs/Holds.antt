-- What holds of the store of a data end's environment.
use Rattle.std.specs.Prelude.{ℕ, ◌+◌, ◌*◌, ◌≤◌, ◌<◌, true, List, [], ◌∷◌, ◌++◌, ◌≡◌, length, drop, get_or}
use Rattle.codes.specs.Codes.{store_length}
use Rattle.xdr_opaque.specs.Put.{Each}
use Rattle.wire_pairs.specs.Pairs.{Pair, pair, separator_name, separator, with_separator}
use Rattle.wire_pairs.specs.Store.{storing, text_bytes, fits, emptied, is_laid, kept_pairs, environment_of}

-- each byte of a store is below 256
abbrev pub Bytes : List ℕ → Type 0
Bytes store = (k : ℕ) → get_or store k 0 < 256

-- how many bytes of a store pairs take
abbrev pub taken : List Pair → ℕ
taken ps = 4 + 16 * length ps + text_bytes ps

-- what a start that is accepted leaves, in a store of any length unless its length is named
pub record Stored (ps : List Pair) (store : List ℕ) : Type 0 where
  -- its pairs are read back, in their order
  pub back : kept_pairs (storing ps store) ≡ ps
  pub laid : is_laid (storing ps store) ≡ true
  pub long : length store ≡ store_length → length (storing ps store) ≡ length store
  -- "bytes past them stay"
  pub past : drop (taken ps) (storing ps store) ≡ drop (taken ps) store
  -- what 0x404 answers then
  pub given : environment_of (storing ps store) ≡ with_separator ps

-- nothing is "laid out so" but what a start could have written
pub record Written (store : List ℕ) : Type 0 where
  pub whole : storing (kept_pairs store) store ≡ store
  pub fit : fits (kept_pairs store) ≡ true

-- what a stop leaves
pub record Emptied (store : List ℕ) : Type 0 where
  pub laid : is_laid (emptied store) ≡ true
  pub none : kept_pairs (emptied store) ≡ []
  pub long : length (emptied store) ≡ length store
  -- it touches nothing but the count
  pub past : drop 4 (emptied store) ≡ drop 4 store
  pub given : environment_of (emptied store) ≡ pair separator_name separator ∷ []

pub record StoreHolds : Type 0 where
  pub stored : (ps : List Pair) (store : List ℕ) → fits ps ≡ true → Stored ps store
  pub written : (store : List ℕ) → Bytes store → is_laid store ≡ true → length store ≤ store_length → Written store
  pub stopped : (store : List ℕ) → 4 ≤ length store → Emptied store
  -- PATHNAME_SEPARATOR is added, "last", only "when the client gave none": no name is exactly this one, whatever its value
  pub given_one : (ps qs : List Pair) (v : List ℕ)
      → with_separator (ps ++ (pair separator_name v ∷ qs)) ≡ ps ++ (pair separator_name v ∷ qs)
  pub given_none : (ps : List Pair) → Each (λ (p : Pair). p.name ≡ separator_name → ⊥) ps
      → with_separator ps ≡ ps ++ (pair separator_name separator ∷ [])
