-- Reading a record to the front of a lent buffer.
use Rattle.std.specs.Prelude.{ℕ, List, Bool, ◌≡◌, length, ltb}
use Rattle.codes.specs.Codes.{short_output}
use Rattle.xdr.specs.Choose.{choose}
use Rattle.xdr.specs.Xdr.{overlay}
use Rattle.tape_ops.specs.declared.Part.{Part}
use Rattle.tape_ops.specs.Operations.{part, read_part}
use Rattle.tape_ops.specs.Promises.{span_of}

-- the buffer o is shorter than the bytes that are read
abbrev pub too_short : List ℕ → ℕ → ℕ → List ℕ → Bool
too_short l p times o = ltb (length o) (read_part l p times).len

-- what is given: the core's answer, or 1001 with the position unchanged
unfoldable pub handed_part : List ℕ → ℕ → ℕ → List ℕ → Part
handed_part l p times o = choose (too_short l p times o) (part short_output p 0 0) (read_part l p times)

-- the buffer after it: the bytes at its front, or all as it was
unfoldable pub handed_out : List ℕ → ℕ → ℕ → List ℕ → List ℕ
handed_out l p times o = choose (too_short l p times o) o (overlay 0 (span_of l p times) o)

-- the code gave r and left the buffer o'
pub record Handed (l : List ℕ) (p times : ℕ) (o : List ℕ) (r : Part) (o' : List ℕ) : Type 0 where
  pub is : r ≡ handed_part l p times o
  pub out : o' ≡ handed_out l p times o
