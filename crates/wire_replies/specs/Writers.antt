-- What the writers of records promise.
use Rattle.std.specs.Prelude.{ℕ, ◌+◌, ◌≤◌, List, [], ◌∷◌}
use Rattle.xdr_opaque.specs.Put.{Put}

-- a write of the bytes b that ends at or before `most`
pub record PutUpTo (most at : ℕ) (b l : List ℕ) (next : ℕ) (m : List ℕ) : Type 0 where
  pub put : Put at b l next m
  pub small : next ≤ most

-- the mark and the header in front of a body of n bytes, as in `record_bytes`
abbrev pub header_words : ℕ → ℕ → ℕ → ℕ → ℕ → ℕ → ℕ → List ℕ
header_words n sequence time kind message echo error =
    (0x8000_0000 + (24 + n)) ∷ sequence ∷ time ∷ kind ∷ message ∷ echo ∷ error ∷ []
