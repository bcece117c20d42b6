-- Bytes in hex, as the programs print them: two digits each, the high one first, with small letters.
use Rattle.std.specs.Prelude.{ℕ, ◌/◌, ◌%◌, ◌≡◌, false, List, [], ◌∷◌, flat_map, codes}
use Rattle.std.specs.Fmt.{digit_glyph}

abbrev pub pair : ℕ → List ℕ
pair b = digit_glyph false (b / 16) ∷ digit_glyph false (b % 16) ∷ []

abbrev pub hex_of : List ℕ → List ℕ
hex_of bs = flat_map pair bs

-- nothing, a byte below 16, both kinds of digits, and the highest byte
pub record HexShown : Type 0 where
  pub nothing : hex_of [] ≡ []
  pub bytes : hex_of (0 ∷ 9 ∷ 10 ∷ 171 ∷ 240 ∷ 255 ∷ []) ≡ codes "00090aabf0ff"
