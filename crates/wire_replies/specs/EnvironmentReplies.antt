-- The reply that gives an environment, with its body written out after 004's structures (Appendix C) and 02 No. 3, for
-- stores that are written out too. They keep the layouts to the papers: a value before its name, a count without the
-- separator, or a separator added though it was given, is seen here.
use Rattle.std.specs.Prelude.{ℕ, true, ◌≡◌, List, [], ◌∷◌, ◌++◌, map}
use Rattle.wire_pairs.specs.Store.{is_laid}
use Rattle.wire_replies.specs.declared.Reply.TheVariants.{Environment}
use Rattle.wire_replies.specs.Replies.{body_bytes, shape_of}
use Rattle.wire_replies.specs.Addresses.{small}

-- the body of the reply that gives a store's pairs
abbrev body_of : List ℕ → List ℕ
body_of store = body_bytes (shape_of Environment store)

-- ---- texts
-- PATHNAME_SEPARATO
abbrev cut : List ℕ
cut = 0x50 ∷ 0x41 ∷ 0x54 ∷ 0x48 ∷ 0x4E ∷ 0x41 ∷ 0x4D ∷ 0x45 ∷ 0x5F ∷ 0x53 ∷ 0x45 ∷ 0x50 ∷ 0x41 ∷ 0x52 ∷ 0x41 ∷ 0x54 ∷ 0x4F ∷ []

-- PATHNAME_SEPARATOR
abbrev whole : List ℕ
whole = cut ++ (0x52 ∷ [])

-- TYPE and tar
abbrev type : List ℕ
type = 0x54 ∷ 0x59 ∷ 0x50 ∷ 0x45 ∷ []

abbrev tar : List ℕ
tar = 0x74 ∷ 0x61 ∷ 0x72 ∷ []

-- ndmp_pval of the separator that is added: both texts with their lengths and fill
abbrev added : List ℕ
added = small 18 ++ whole ++ (0 ∷ 0 ∷ []) ++ small 1 ++ (0x2F ∷ 0 ∷ 0 ∷ 0 ∷ [])

-- ---- stores: "a count .., four words a pair (start, from the first text on, and length of name and of value), then the texts .."
-- no pair, and "bytes past them stay"
abbrev no_pair : List ℕ
no_pair = small 0 ++ (7 ∷ 7 ∷ 7 ∷ 7 ∷ 7 ∷ [])

-- TYPE=tar
abbrev one_pair : List ℕ
one_pair = small 1 ++ small 0 ++ small 4 ++ small 4 ++ small 3 ++ type ++ tar ++ (7 ∷ 7 ∷ [])

-- PATHNAME_SEPARATOR as a backslash
abbrev named : List ℕ
named = small 1 ++ small 0 ++ small 18 ++ small 18 ++ small 1 ++ whole ++ (0x5C ∷ [])

-- PATHNAME_SEPARATO as a backslash
abbrev cut_name : List ℕ
cut_name = small 1 ++ small 0 ++ small 17 ++ small 17 ++ small 1 ++ cut ++ (0x5C ∷ [])

-- PATHNAME_SEPARATORR as a backslash
abbrev long_name : List ℕ
long_name = small 1 ++ small 0 ++ small 19 ++ small 19 ++ small 1 ++ whole ++ (0x52 ∷ 0x5C ∷ [])

-- an empty name with an empty value
abbrev both_empty : List ℕ
both_empty = small 1 ++ small 0 ++ small 0 ++ small 0 ++ small 0

-- PATHNAME_SEPARATOR with an empty value, then TYPE=tar
abbrev two_pairs : List ℕ
two_pairs =
    small 2 ++ small 0 ++ small 18 ++ small 18 ++ small 0 ++ small 18 ++ small 4 ++ small 22 ++ small 3
    ++ whole ++ type ++ tar

abbrev stores : List (List ℕ)
stores = no_pair ∷ one_pair ∷ named ∷ cut_name ∷ long_name ∷ both_empty ∷ two_pairs ∷ []

pub record EnvironmentReplies : Type 0 where
  -- each of the stores is "laid out so"
  pub laid : map is_laid stores ≡ true ∷ true ∷ true ∷ true ∷ true ∷ true ∷ true ∷ []
  -- ndmp_data_get_env_reply: error, and a list of pairs: "with PATHNAME_SEPARATOR as `/` added, last, when the client gave none"
  pub none_kept : body_of no_pair ≡ small 0 ++ small 1 ++ added
  pub one_kept : body_of one_pair ≡ small 0 ++ small 2 ++ small 4 ++ type ++ small 3 ++ tar ++ (0 ∷ []) ++ added
  -- the client's own stays as it gave it
  pub given : body_of named ≡ small 0 ++ small 1 ++ small 18 ++ whole ++ (0 ∷ 0 ∷ []) ++ small 1 ++ (0x5C ∷ 0 ∷ 0 ∷ 0 ∷ [])
  -- a name is exactly that one
  pub cut_not_given : body_of cut_name
      ≡ small 0 ++ small 2 ++ small 17 ++ cut ++ (0 ∷ 0 ∷ 0 ∷ []) ++ small 1 ++ (0x5C ∷ 0 ∷ 0 ∷ 0 ∷ []) ++ added
  pub long_not_given : body_of long_name
      ≡ small 0 ++ small 2 ++ small 19 ++ whole ++ (0x52 ∷ 0 ∷ []) ++ small 1 ++ (0x5C ∷ 0 ∷ 0 ∷ 0 ∷ []) ++ added
  pub empty_kept : body_of both_empty ≡ small 0 ++ small 2 ++ small 0 ++ small 0 ++ added
  -- in the order in which they were given
  pub two_kept : body_of two_pairs
      ≡ small 0 ++ small 2 ++ small 18 ++ whole ++ (0 ∷ 0 ∷ []) ++ small 0 ++ small 4 ++ type ++ small 3 ++ tar ++ (0 ∷ [])
