-- Writing XDR (RFC 4506): variable-length opaque data and strings, and writes one after another.
use Rattle.std.specs.Prelude.{ℕ, ◌+◌, ◌-◌, ◌%◌, ◌≡◌, List, [], ◌∷◌, ◌++◌, length, replicate}
use Rattle.xdr.specs.Xdr.{be32, overlay}

-- what a write of the bytes b at an offset leaves of the list l: the offset after it, and the list
pub record Put (at : ℕ) (b l : List ℕ) (next : ℕ) (m : List ℕ) : Type 0 where
  pub end : next ≡ at + length b
  pub wrote : m ≡ overlay at b l

-- how many bytes fill n bytes up to whole words (section 3)
abbrev pub fill : ℕ → ℕ
fill n = (4 - n % 4) % 4

-- opaque data (4.10) or a string (4.11), as it is written: its length, its bytes, and fill of zeros
unfoldable pub opaque : List ℕ → List ℕ
opaque s = be32 (length s) ++ s ++ replicate (fill (length s)) 0

-- what holds of each element of a list
abbrev pub Each : {A : Type 0} → (A → Type 0) → List A → Type 0
Each P [] = Unit
Each P (x ∷ xs) = P x × Each P xs
