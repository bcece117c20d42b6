-- Layouts of bodies as data, the one reader of them, and the one writer (RFC 4506).
use Rattle.std.specs.Prelude.{ℕ, zero, suc, ◌+◌, length, eqb, leb, Option, Some, None}
use mathlib.Core.List.{List, [], ◌∷◌, ◌++◌, flat_map}
use Rattle.codes.specs.Codes.{most_port, digest_length}
use Rattle.xdr.specs.Choose.{choose}
use Rattle.xdr.specs.Xdr as xdr
use Rattle.xdr_opaque.specs.Opaque.{opaque_at}
use Rattle.xdr_opaque.specs.Put.{opaque}
use Rattle.xdr_opaque.specs.declared.Opaque.{Opaque}
use Rattle.wire_layouts.specs.declared.Text.{Text}
pub use Rattle.wire_layouts.specs.declared.Part.{Part}
pub use Rattle.wire_layouts.specs.declared.Part.TheVariants.{Word as word, Hyper as hyper, Text as text, Port as port, Digest as digest}

-- ---- what a layout is made of: a part (a digest is 16 bytes with no length before them, which need no fill); a counted list of at most so
-- many elements, each of the same parts; one whose elements have behind their parts a counted list of their own, of at most so many
-- elements of other parts; a word behind which, where it is another than this, the rest is not read
pub data Field : Type 0 where
  one : Part → Field
  many : ℕ → List Part → Field
  lists : ℕ → List Part → ℕ → List Part → Field
  tag : ℕ → Field

-- ---- what is read and written: T is the place of a text where it was read, and its bytes where it is written; fixed has no length before it
pub data Item (T : Type 0) : Type 0 where
  four : ℕ → Item T
  eight : ℕ → Item T
  bytes : T → Item T
  fixed : T → Item T

-- a field: its first item (of a counted list the count), and the others, of lists in a list in the order of the body
pub record Value (T : Type 0) : Type 0 where
  pub first : Item T
  pub others : List (Item T)

abbrev pub value : {T : Type 0} → Item T → List (Item T) → Value T
value i is = record { first = i; others = is }

-- ---- the writer
abbrev pub item_bytes : Item (List ℕ) → List ℕ
item_bytes (four v) = xdr.be32 v
item_bytes (eight v) = xdr.be64 v
item_bytes (bytes s) = opaque s
item_bytes (fixed s) = s

abbrev pub value_bytes : Value (List ℕ) → List ℕ
value_bytes v = item_bytes v.first ++ flat_map item_bytes v.others

unfoldable pub write_as : List (Value (List ℕ)) → List ℕ
write_as vs = flat_map value_bytes vs

-- ---- the reader
pub data Piece : Type 0 where
  piece : Item Text → ℕ → Piece
  short : Piece

abbrev pub place : ℕ → ℕ → Text
place s n = record { start = s; len = n }

unfoldable pub piece_of : Option Opaque → Piece
piece_of (Some o) = piece (bytes (place o.start o.len)) o.next
piece_of None = short

unfoldable pub part_at : Part → List ℕ → ℕ → Piece
part_at word b at = choose (leb (at + 4) (length b)) (piece (four (xdr.word b at)) (at + 4)) short
part_at hyper b at = choose (leb (at + 8) (length b)) (piece (eight (xdr.hyper b at)) (at + 8)) short
part_at text b at = piece_of (opaque_at b at)
part_at port b at =
    choose (leb (at + 4) (length b))
    (choose (leb (xdr.word b at) most_port) (piece (four (xdr.word b at)) (at + 4)) short)
    short
part_at digest b at = choose (leb (at + digest_length) (length b)) (piece (fixed (place at digest_length)) (at + digest_length)) short

pub data Got : Type 0 where
  got : List (Item Text) → ℕ → Got
  cut : Got

unfoldable pub prepend : List (Item Text) → Got → Got
prepend is (got js x) = got (is ++ js) x
prepend is cut = cut

unfoldable pub and_part : Piece → (ℕ → Got) → Got
and_part (piece i x) f = prepend (i ∷ []) (f x)
and_part short f = cut

unfoldable pub and_got : Got → (ℕ → Got) → Got
and_got (got is x) f = prepend is (f x)
and_got cut f = cut

unfoldable pub parts_at : List Part → List ℕ → ℕ → Got
parts_at [] b at = got [] at
parts_at (p ∷ ps) b at = and_part (part_at p b at) (parts_at ps b)

-- so many elements, one behind another, as each is read
unfoldable pub times_at : (ℕ → Got) → ℕ → ℕ → Got
times_at element zero at = got [] at
times_at element (suc n) at = and_got (element at) (times_at element n)

pub data FieldGot : Type 0 where
  field_got : Item Text → List (Item Text) → ℕ → FieldGot
  stop : ℕ → FieldGot
  bad : FieldGot

unfoldable pub single : Piece → FieldGot
single (piece i x) = field_got i [] x
single short = bad

unfoldable pub counted : ℕ → Got → FieldGot
counted n (got is x) = field_got (four n) is x
counted n cut = bad

-- a counted list of at most so many elements
abbrev pub list_at : ℕ → (ℕ → Got) → List ℕ → ℕ → FieldGot
list_at most element b at =
    choose (leb (at + 4) (length b))
    (choose (leb (xdr.word b at) most) (counted (xdr.word b at) (times_at element (xdr.word b at) (at + 4))) bad)
    bad

-- the items of a field, in the order in which they were read
unfoldable pub items_of : FieldGot → Got
items_of (field_got i is x) = got (i ∷ is) x
items_of (stop v) = cut
items_of bad = cut

-- an element with a list of its own: its parts, the count, and the items of that list
unfoldable pub element_at : List Part → ℕ → List Part → List ℕ → ℕ → Got
element_at ps inner qs b at = and_got (parts_at ps b at) (λ (x : ℕ). items_of (list_at inner (parts_at qs b) b x))

unfoldable pub field_at : Field → List ℕ → ℕ → FieldGot
field_at (one p) b at = single (part_at p b at)
field_at (many most ps) b at = list_at most (parts_at ps b) b at
field_at (lists most ps inner qs) b at = list_at most (element_at ps inner qs b) b at
field_at (tag k) b at =
    choose (leb (at + 4) (length b))
    (choose (eqb (xdr.word b at) k) (field_got (four (xdr.word b at)) [] (at + 4)) (stop (xdr.word b at)))
    bad

-- the fields of a whole body; those before a rest that is not read; or that it does not decode
pub data Read : Type 0 where
  whole : List (Value Text) → Read
  before : List (Value Text) → Read
  broken : Read

unfoldable pub and_value : Value Text → Read → Read
and_value v (whole vs) = whole (v ∷ vs)
and_value v (before vs) = before (v ∷ vs)
and_value v broken = broken

unfoldable pub and_read : FieldGot → (ℕ → Read) → Read
and_read (field_got i is x) f = and_value (value i is) (f x)
and_read (stop v) f = before (value (four v) [] ∷ [])
and_read bad f = broken

-- "Bytes left over make error 18"
unfoldable pub read_fields : List Field → List ℕ → ℕ → Read
read_fields [] b at = choose (eqb at (length b)) (whole []) broken
read_fields (f ∷ fs) b at = and_read (field_at f b at) (read_fields fs b)
