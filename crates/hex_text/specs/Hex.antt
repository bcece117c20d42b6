-- Bytes as text: two hex digits a byte, the high one first. Blanks may stand between bytes, and not within one.
use Rattle.std.specs.Prelude.{ℕ, ◌+◌, ◌-◌, ◌*◌, ◌≤◌, Bool, true, ◌≡◌, List, [], ◌∷◌, ◌++◌, take, leb, ltb, eqb, Option, Some, None, Result, Ok, Err, IfOk}
use Rattle.xdr.specs.Choose.{choose}
use Rattle.hex_text.specs.declared.HexError.{HexError}
use Rattle.hex_text.specs.declared.HexError.TheVariants.{NotHex, NoRoom}

-- the value of a digit, 0 to 9 and a to f, by its character
unfoldable pub digit_of : ℕ → Option ℕ
digit_of c =
    choose (ltb c 48) None
    (choose (leb c 57) (Some (c - 48))
    (choose (ltb c 97) None
    (choose (leb c 102) (Some (c - 87)) None)))

unfoldable pub joined : Option ℕ → Option ℕ → Option ℕ
joined None low = None
joined (Some high) None = None
joined (Some high) (Some low) = Some (high * 16 + low)

-- the byte of two digits
unfoldable pub pair_of : ℕ → ℕ → Option ℕ
pair_of a b = joined (digit_of a) (digit_of b)

-- a space or the end of a line
unfoldable pub blank_of : ℕ → Bool
blank_of c = choose (eqb c 32) true (eqb c 10)

-- bytes that come before the others
unfoldable pub put_before : List ℕ → Result (List ℕ) HexError → Result (List ℕ) HexError
put_before l (Ok m) = Ok (l ++ m)
put_before l (Err e) = Err e

-- a byte, where two digits make one and there is room for it, and what comes behind it
unfoldable pub held_first : Option ℕ → ℕ → Result (List ℕ) HexError → Result (List ℕ) HexError
held_first None room behind = Err NotHex
held_first (Some byte) room behind = choose (eqb room 0) (Err NoRoom) (put_before (byte ∷ []) behind)

-- what a text holds, where there is room for so many bytes: its bytes, or what keeps them from being read, whichever comes first
unfoldable pub hex_held : ℕ → List ℕ → Result (List ℕ) HexError
hex_held room [] = Ok []
hex_held room (a ∷ []) = choose (blank_of a) (Ok []) (Err NotHex)
hex_held room (a ∷ b ∷ l) = choose (blank_of a) (hex_held room (b ∷ l)) (held_first (pair_of a b) room (hex_held (room - 1) l))

-- what the answer says of the output that was written
unfoldable pub said_of : Result ℕ HexError → List ℕ → Result (List ℕ) HexError
said_of (Ok n) out = Ok (take n out)
said_of (Err e) out = Err e

-- the answer for a text and an output of a length, and the output as it is left
pub record Reads (text : List ℕ) (room : ℕ) (out : List ℕ) (r : Result ℕ HexError) : Type 0 where
  pub same : said_of r out ≡ hex_held room text
  pub within : IfOk r (λ n. n ≤ room)
