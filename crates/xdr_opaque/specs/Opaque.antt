-- Reading XDR (RFC 4506): variable-length opaque data and strings, and a word that may be missing.
use Rattle.std.specs.Prelude.{ℕ, ◌+◌, ◌-◌, ◌*◌, ◌/◌, Bool, true, false, List, [], ◌∷◌, length, take, drop, eqb, leb}
use Rattle.std.specs.Prelude.{Option, Some, None}
use Rattle.xdr.specs.Choose.{choose}
use Rattle.xdr.specs.Xdr.{word}
use Rattle.xdr_opaque.specs.declared.Opaque.{Opaque}

-- the word at an offset (4.2), where the list reaches that far
unfoldable pub word_at : List ℕ → ℕ → Option ℕ
word_at l at = choose (leb (at + 4) (length l)) (Some (word l at)) None

-- a length filled up to whole words (section 3: items take a multiple of four bytes)
abbrev pub filled : ℕ → ℕ
filled n = (n + 3) / 4 * 4

-- each of the bytes is zero
unfoldable pub all_zero : List ℕ → Bool
all_zero [] = true
all_zero (x ∷ xs) = choose (eqb x 0) (all_zero xs) false

-- the part from one offset up to another
abbrev pub between : ℕ → ℕ → List ℕ → List ℕ
between a e l = take (e - a) (drop a l)

-- the opaque data (4.10) or string (4.11) at an offset: a length word, that many bytes, and fill to whole words, all within the list.
-- The fill is zero (4.10: "residual zero bytes").
unfoldable pub opaque_at : List ℕ → ℕ → Option Opaque
opaque_at l at =
    choose (leb (at + 4) (length l))
    (choose (leb (at + 4 + filled (word l at)) (length l))
    (choose (all_zero (between (at + 4 + word l at) (at + 4 + filled (word l at)) l))
    (Some (record { start = at + 4; len = word l at; next = at + 4 + filled (word l at) }))
    None)
    None)
    None
