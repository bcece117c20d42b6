-- Digits and texts written out, and what each is. They keep the definitions to what hex is.
use Rattle.std.specs.Prelude.{ℕ, ◌≡◌, List, [], ◌∷◌, map, replicate, Some, None, Ok, Err}
use Rattle.hex_text.specs.Hex.{digit_of, hex_held}
use Rattle.hex_text.specs.declared.HexError.TheVariants.{NotHex, NoRoom}

-- "0123456789abcdef"
abbrev pub digits : List ℕ
digits = 48 ∷ 49 ∷ 50 ∷ 51 ∷ 52 ∷ 53 ∷ 54 ∷ 55 ∷ 56 ∷ 57 ∷ 97 ∷ 98 ∷ 99 ∷ 100 ∷ 101 ∷ 102 ∷ []

abbrev pub values : List ℕ
values = 0 ∷ 1 ∷ 2 ∷ 3 ∷ 4 ∷ 5 ∷ 6 ∷ 7 ∷ 8 ∷ 9 ∷ 10 ∷ 11 ∷ 12 ∷ 13 ∷ 14 ∷ 15 ∷ []

-- what stands beside the digits ("/", ":", "`", "g"), and "A", a space, 0 and 255
abbrev pub others : List ℕ
others = 47 ∷ 58 ∷ 96 ∷ 103 ∷ 65 ∷ 32 ∷ 0 ∷ 255 ∷ []

-- " 0a f9\n", "0 a", "0", "0g" and "0a0b0"
pub record HexCases : Type 0 where
  pub digit : map digit_of digits ≡ map Some values
  pub none : map digit_of others ≡ replicate 8 None
  pub pairs : hex_held 2 (32 ∷ 48 ∷ 97 ∷ 32 ∷ 102 ∷ 57 ∷ 10 ∷ []) ≡ Ok (10 ∷ 249 ∷ [])
  pub empty : hex_held 0 [] ≡ Ok []
  pub parted : hex_held 2 (48 ∷ 32 ∷ 97 ∷ []) ≡ Err NotHex
  pub half : hex_held 2 (48 ∷ []) ≡ Err NotHex
  pub not : hex_held 2 (48 ∷ 103 ∷ []) ≡ Err NotHex
  pub room : hex_held 1 (48 ∷ 97 ∷ 48 ∷ 98 ∷ 48 ∷ []) ≡ Err NoRoom
