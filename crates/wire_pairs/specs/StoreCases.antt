-- Stores with their bytes written out after 02 No. 3, and what each is. They keep the definitions to the paper's layout: a
-- start that counts from elsewhere, a gap that is not seen or a limit that is another is seen here.
use Rattle.std.specs.Prelude.{ℕ, true, false, List, [], ◌∷◌, ◌++◌, ◌≡◌, replicate}
use Rattle.wire_pairs.specs.Pairs.{Pair, pair, with_separator}
use Rattle.wire_pairs.specs.Store.{store_bytes, storing, fits, emptied, is_laid, kept_pairs, environment_of}

-- a word below 256, and the four words of a pair
abbrev pub small : ℕ → List ℕ
small n = 0 ∷ 0 ∷ 0 ∷ n ∷ []

abbrev pub four : ℕ → ℕ → ℕ → ℕ → List ℕ
four a b c d = small a ++ small b ++ small c ++ small d

-- AB is C; D is empty; and a pair whose name and value are empty
abbrev pub abc : Pair
abc = pair (65 ∷ 66 ∷ []) (67 ∷ [])

abbrev pub bare : Pair
bare = pair (68 ∷ []) []

abbrev pub nothing : Pair
nothing = pair [] []

-- the names PATHNAME_SEPARATO, PATHNAME_SEPARATOR and PATHNAME_SEPARATORS
abbrev pub shorter : List ℕ
shorter = 80 ∷ 65 ∷ 84 ∷ 72 ∷ 78 ∷ 65 ∷ 77 ∷ 69 ∷ 95 ∷ 83 ∷ 69 ∷ 80 ∷ 65 ∷ 82 ∷ 65 ∷ 84 ∷ 79 ∷ []

abbrev pub exact : List ℕ
exact = shorter ++ (82 ∷ [])

abbrev pub longer : List ℕ
longer = exact ++ (83 ∷ [])

abbrev pub slash : Pair
slash = pair exact (47 ∷ [])

-- one pair and two pairs, as they are stored
abbrev pub one : List ℕ
one = small 1 ++ four 0 2 2 1 ++ (65 ∷ 66 ∷ 67 ∷ [])

abbrev pub two : List ℕ
two = small 2 ++ four 0 2 2 1 ++ four 3 1 4 0 ++ (65 ∷ 66 ∷ 67 ∷ 68 ∷ [])

-- "a count (at most 64), four words a pair .., then the texts without gaps, name before value; bytes past them stay"
pub record Wrote : Type 0 where
  pub no_pair : store_bytes [] ≡ small 0
  pub one_pair : store_bytes (abc ∷ []) ≡ one
  pub two_pairs : store_bytes (abc ∷ bare ∷ []) ≡ two
  pub empty_texts : store_bytes (nothing ∷ abc ∷ nothing ∷ [])
      ≡ small 3 ++ four 0 0 0 0 ++ four 0 2 2 1 ++ four 3 0 3 0 ++ (65 ∷ 66 ∷ 67 ∷ [])
  pub past_stay : storing (abc ∷ []) (replicate 26 9) ≡ one ++ (9 ∷ 9 ∷ 9 ∷ [])
  pub nothing_stored : storing [] (replicate 6 9) ≡ small 0 ++ (9 ∷ 9 ∷ [])
  pub full : storing (abc ∷ []) (replicate 23 9) ≡ one
  -- "data stop makes the count 0"
  pub stopped : emptied one ≡ small 0 ++ four 0 2 2 1 ++ (65 ∷ 66 ∷ 67 ∷ [])
  pub count_alone : emptied (replicate 10 9) ≡ small 0 ++ replicate 6 9

pub record Kept : Type 0 where
  pub no_pair : kept_pairs (small 0 ++ (9 ∷ 9 ∷ [])) ≡ []
  pub one_pair : kept_pairs (one ++ (9 ∷ 9 ∷ [])) ≡ abc ∷ []
  pub two_pairs : kept_pairs two ≡ abc ∷ bare ∷ []
  pub given : environment_of two ≡ abc ∷ bare ∷ slash ∷ []
  pub stopped : environment_of (emptied two) ≡ slash ∷ []

-- stores that are laid out so
pub record AreLaid : Type 0 where
  pub no_pair : is_laid (small 0) ≡ true
  pub exactly_full : is_laid one ≡ true
  pub with_more : is_laid (two ++ (9 ∷ 9 ∷ 9 ∷ [])) ≡ true
  pub empty_texts : is_laid (small 2 ++ four 0 0 0 0 ++ four 0 0 0 0) ≡ true
  pub most : is_laid (small 64 ++ replicate 1024 0) ≡ true

-- and stores that are not
pub record NotLaid : Type 0 where
  pub no_byte : is_laid [] ≡ false
  pub no_count : is_laid (0 ∷ 0 ∷ 0 ∷ []) ≡ false
  pub too_many : is_laid (small 65 ++ replicate 1040 0) ≡ false
  -- half of a pair's words
  pub no_words : is_laid (small 1 ++ small 0 ++ small 0) ≡ false
  -- the texts end one byte past the store
  pub one_short : is_laid (small 1 ++ four 0 2 2 1 ++ (65 ∷ 66 ∷ [])) ≡ false
  pub far_past : is_laid (small 1 ++ small 0 ++ replicate 8 255 ++ small 0 ++ (65 ∷ [])) ≡ false
  -- the first text does not begin at 0
  pub gap_first : is_laid (small 1 ++ four 1 2 3 1 ++ (0 ∷ 65 ∷ 66 ∷ 67 ∷ [])) ≡ false
  -- a gap between the name and its value, and between two pairs
  pub gap_within : is_laid (small 1 ++ four 0 2 3 1 ++ (65 ∷ 66 ∷ 0 ∷ 67 ∷ [])) ≡ false
  pub gap_between : is_laid (small 2 ++ four 0 2 2 1 ++ four 4 1 5 0 ++ (65 ∷ 66 ∷ 67 ∷ 0 ∷ 68 ∷ [])) ≡ false
  pub gap_before : is_laid (small 2 ++ four 0 2 2 1 ++ four 4 1 4 0 ++ (65 ∷ 66 ∷ 67 ∷ 0 ∷ 68 ∷ [])) ≡ false
  -- one text for both pairs, and a value that is a part of its name
  pub second_shared : is_laid (small 2 ++ four 0 2 2 1 ++ four 0 2 2 1 ++ (65 ∷ 66 ∷ 67 ∷ 65 ∷ 66 ∷ 67 ∷ [])) ≡ false
  pub name_shared : is_laid (small 2 ++ four 0 2 2 1 ++ four 0 2 5 1 ++ (65 ∷ 66 ∷ 67 ∷ 65 ∷ 66 ∷ 67 ∷ [])) ≡ false
  pub value_within : is_laid (small 1 ++ four 0 2 1 1 ++ (65 ∷ 66 ∷ 67 ∷ [])) ≡ false
  -- value before name
  pub value_first : is_laid (small 1 ++ four 1 2 0 1 ++ (67 ∷ 65 ∷ 66 ∷ [])) ≡ false
  -- starts from the store's front on
  pub from_front : is_laid (small 1 ++ four 20 2 22 1 ++ (65 ∷ 66 ∷ 67 ∷ [])) ≡ false

-- "22 if the pairs do not fit": 16,384 bytes, of which a pair takes 16 and the count 4
pub record Fit : Type 0 where
  pub no_pair : fits [] ≡ true
  pub exactly_full : fits (pair (replicate 16364 0) [] ∷ []) ≡ true
  pub one_more : fits (pair (replicate 16365 0) [] ∷ []) ≡ false
  pub value_full : fits (abc ∷ pair [] (replicate 16345 0) ∷ []) ≡ true
  pub value_more : fits (abc ∷ pair [] (replicate 16346 0) ∷ []) ≡ false
  pub most : fits (replicate 64 nothing) ≡ true
  pub too_many : fits (replicate 65 nothing) ≡ false

-- "with PATHNAME_SEPARATOR as `/` added, last, when the client gave none"
pub record Added : Type 0 where
  pub no_pair : with_separator [] ≡ slash ∷ []
  pub last : with_separator (abc ∷ bare ∷ []) ≡ abc ∷ bare ∷ slash ∷ []
  pub other_names : with_separator (pair shorter (47 ∷ []) ∷ pair longer [] ∷ [])
      ≡ pair shorter (47 ∷ []) ∷ pair longer [] ∷ slash ∷ []
  pub in_value : with_separator (pair [] exact ∷ []) ≡ pair [] exact ∷ slash ∷ []
  pub given : with_separator (abc ∷ pair exact (92 ∷ []) ∷ bare ∷ []) ≡ abc ∷ pair exact (92 ∷ []) ∷ bare ∷ []
  pub given_empty : with_separator (pair exact [] ∷ []) ≡ pair exact [] ∷ []

pub record StoreCases : Type 0 where
  pub wrote : Wrote
  pub kept : Kept
  pub laid : AreLaid
  pub not_laid : NotLaid
  pub fit : Fit
  pub added : Added
