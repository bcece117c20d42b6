-- Pairs of an environment (004: ndmp_pval, a name and a value): those of a start request's body, and those that a reply gives.
use Rattle.std.specs.Prelude.{ℕ, zero, suc, Bool, true, false, List, [], ◌∷◌, ◌++◌, take, drop, Option, Some, None}
use Rattle.xdr.specs.Choose.{choose}
use Rattle.xdr.specs.Xdr.{same_bytes}
use Rattle.xdr_opaque.specs.Opaque.{opaque_at}
use Rattle.xdr_opaque.specs.Put.{opaque}
use Rattle.xdr_opaque.specs.declared.Opaque.{Opaque}

pub record Pair : Type 0 where
  pub name : List ℕ
  pub value : List ℕ

abbrev pub pair : List ℕ → List ℕ → Pair
pair n v = record { name = n; value = v }

-- ---- in a body
-- the text that was found at an offset, and the offset behind it; where none was found, which is in no body that decodes, it is empty
unfoldable pub text_in : List ℕ → Option Opaque → List ℕ
text_in b (Some o) = take o.len (drop o.start b)
text_in b None = []

unfoldable pub behind : ℕ → Option Opaque → ℕ
behind at (Some o) = o.next
behind at None = at

abbrev pub text_at : List ℕ → ℕ → List ℕ
text_at b at = text_in b (opaque_at b at)

abbrev pub next_at : List ℕ → ℕ → ℕ
next_at b at = behind at (opaque_at b at)

-- so many pairs, one behind another, from an offset on
unfoldable pub pairs_from : List ℕ → ℕ → ℕ → List Pair
pairs_from b zero at = []
pairs_from b (suc n) at = pair (text_at b at) (text_at b (next_at b at)) ∷ pairs_from b n (next_at b (next_at b at))

-- ---- in a reply
-- PATHNAME_SEPARATOR, and `/`
unfoldable pub separator_name : List ℕ
separator_name =
    0x50 ∷ 0x41 ∷ 0x54 ∷ 0x48 ∷ 0x4E ∷ 0x41 ∷ 0x4D ∷ 0x45 ∷ 0x5F ∷ 0x53 ∷ 0x45 ∷ 0x50 ∷ 0x41 ∷ 0x52 ∷ 0x41 ∷ 0x54 ∷ 0x4F ∷ 0x52 ∷ []

unfoldable pub separator : List ℕ
separator = 0x2F ∷ []

-- a name is exactly that one
unfoldable pub is_named : List ℕ → List Pair → Bool
is_named n [] = false
is_named n (p ∷ ps) = choose (same_bytes p.name n) true (is_named n ps)

-- "with PATHNAME_SEPARATOR as `/` added, last, when the client gave none"
unfoldable pub with_separator : List Pair → List Pair
with_separator ps = choose (is_named separator_name ps) ps (ps ++ (pair separator_name separator ∷ []))

-- the bytes of a list of pairs, as XDR writes them
unfoldable pub pair_bytes : List Pair → List ℕ
pair_bytes [] = []
pair_bytes (p ∷ ps) = opaque p.name ++ (opaque p.value ++ pair_bytes ps)

-- the texts of a list of pairs, in its order, name before value
unfoldable pub texts_of : List Pair → List (List ℕ)
texts_of [] = []
texts_of (p ∷ ps) = p.name ∷ p.value ∷ texts_of ps
