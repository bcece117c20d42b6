-- READ ELEMENT STATUS (B8h; 02 No. 7), "with the SCSI media changer layouts (12-byte descriptors by rising address from any
-- start, no volume tags or source, access bits 1 but at the transport; cut to allocation and data-in length; unknown types have
-- no elements)": which elements a CDB asks for, and the bytes that tell of them.
use Rattle.std.specs.Prelude.{ℕ, ◌+◌, ◌*◌, ◌/◌, ◌%◌, Bool, true, false, List, [], ◌∷◌, ◌++◌, eqb, leb, ltb, length, take, get_or, replicate, Result, Ok, Err}
use Rattle.xdr.specs.Choose.{choose, least}
use Rattle.changer_elements.specs.Elements.{transport, drive, has_place, is_full, half, cdb_bytes}
use Rattle.changer_elements.specs.Move.{short_cdb}
use Rattle.changer_elements.specs.declared.Sense.{Sense}
use Rattle.changer_elements.specs.declared.Asked.{Asked}

-- ---- which elements
-- the elements by rising address
abbrev pub elements : List ℕ
elements = transport ∷ drive ∷ 16 ∷ 17 ∷ 18 ∷ 19 ∷ 20 ∷ 21 ∷ 22 ∷ 23 ∷ []

-- SMC's element type codes; 0 asks for all types
abbrev pub all_types : ℕ
all_types = 0

abbrev pub transport_type : ℕ
transport_type = 1

abbrev pub slot_type : ℕ
slot_type = 2

abbrev pub drive_type : ℕ
drive_type = 4

unfoldable pub type_of : ℕ → ℕ
type_of e = choose (eqb e transport) transport_type (choose (eqb e drive) drive_type slot_type)

-- what a CDB asks for: SMC's layout, the type code in the low four bits of byte 1, the start in bytes 2 and 3, the number of
-- elements in 4 and 5, the allocation length in 7 to 9. Nothing else is looked at: "ignore flag and reserved bits"
unfoldable pub allocation : List ℕ → ℕ
allocation cdb = get_or cdb 7 0 * 65536 + half cdb 8

unfoldable pub asked_by : List ℕ → ℕ → Asked
asked_by cdb room = record { kind = get_or cdb 1 0 % 16; start = half cdb 2; number = half cdb 4; cut = least (allocation cdb) room }

-- "05h/24h/00h for a CDB under 12 bytes"; else what is asked, with room for so many bytes of data in
unfoldable pub read_status : List ℕ → ℕ → Result Asked Sense
read_status cdb room = choose (ltb (length cdb) cdb_bytes) (Err short_cdb) (Ok (asked_by cdb room))

-- "from any start"; "unknown types have no elements"
unfoldable pub is_asked : Asked → ℕ → Bool
is_asked a e = choose (leb a.start e) (choose (eqb a.kind all_types) true (eqb a.kind (type_of e))) false

-- those of a list for which a test holds
unfoldable pub those : (ℕ → Bool) → List ℕ → List ℕ
those p [] = []
those p (e ∷ es) = choose (p e) (e ∷ those p es) (those p es)

-- the first of those that are asked for, as many as the CDB's number of elements
unfoldable pub reported : Asked → List ℕ
reported a = take a.number (those (is_asked a) elements)

-- ---- their bytes
unfoldable pub be16 : ℕ → List ℕ
be16 v = (v / 256 % 256) ∷ (v % 256) ∷ []

unfoldable pub be24 : ℕ → List ℕ
be24 v = (v / 65536 % 256) ∷ (v / 256 % 256) ∷ (v % 256) ∷ []

-- bit 0 is Full; bit 3 is Access: "access bits 1 but at the transport". The transport is never full
unfoldable pub flags_of : List ℕ → ℕ → ℕ
flags_of slots e = choose (has_place e) (choose (is_full slots e) 9 8) 0

abbrev pub descriptor_bytes : ℕ
descriptor_bytes = 12

-- the address, the flags, and nothing else
unfoldable pub descriptor : List ℕ → ℕ → List ℕ
descriptor slots e = be16 e ++ (flags_of slots e ∷ replicate 9 0)

unfoldable pub descriptors : List ℕ → List ℕ → List ℕ
descriptors slots [] = []
descriptors slots (e ∷ es) = descriptor slots e ++ descriptors slots es

unfoldable pub is_type : ℕ → ℕ → Bool
is_type kind e = eqb (type_of e) kind

-- the elements of a type
unfoldable pub of_type : ℕ → List ℕ → List ℕ
of_type kind es = those (is_type kind) es

-- a page: the type code, no volume tags, a descriptor's length, and the bytes of its descriptors; behind it those. A type with
-- no element has no page
unfoldable pub page_of : List ℕ → ℕ → List ℕ → List ℕ
page_of slots kind [] = []
page_of slots kind (e ∷ es) =
    kind ∷ 0 ∷ be16 descriptor_bytes ++ (0 ∷ be24 (length (descriptors slots (e ∷ es)))) ++ descriptors slots (e ∷ es)

abbrev pub page : List ℕ → ℕ → List ℕ → List ℕ
page slots kind es = page_of slots kind (of_type kind es)

-- "by rising address": the transport's page, the drive's, the slots'
unfoldable pub pages : List ℕ → List ℕ → List ℕ
pages slots es = page slots transport_type es ++ (page slots drive_type es ++ page slots slot_type es)

-- the first address, which is the smallest; 0 where there is none
unfoldable pub first_of : List ℕ → ℕ
first_of [] = 0
first_of (e ∷ es) = e

-- before the pages the first address, the number of elements and the bytes of all pages, whatever is cut
unfoldable pub status_of : List ℕ → List ℕ → List ℕ
status_of slots es = be16 (first_of es) ++ be16 (length es) ++ (0 ∷ be24 (length (pages slots es))) ++ pages slots es

-- "cut to allocation and data-in length"
unfoldable pub status_data : Asked → List ℕ → List ℕ
status_data a slots = take a.cut (status_of slots (reported a))
