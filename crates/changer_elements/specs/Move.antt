-- MOVE MEDIUM (A5h; 02 No. 7), judged by its CDB, the slot list and whether the tape is open: SMC's layout, the transport's
-- address in bytes 2 and 3, the source's in 4 and 5, the destination's in 6 and 7. Nothing else of the CDB is looked at:
-- "ignore flag and reserved bits".
use Rattle.std.specs.Prelude.{ℕ, Bool, true, false, not, List, eqb, ltb, length, Result, Ok, Err}
use Rattle.xdr.specs.Choose.{choose}
use Rattle.changer_elements.specs.declared.Sense.{Sense}
use Rattle.changer_elements.specs.declared.Places.{Places}
use Rattle.changer_elements.specs.Elements.{transport, drive, has_place, place_of, is_full, half, cdb_bytes}
use Rattle.changer_elements.specs.Slots.{moved}

-- key 05h, ILLEGAL REQUEST
abbrev pub illegal : ℕ → ℕ → Sense
illegal code qualifier = record { key = 5; code = code; qualifier = qualifier }

-- "05h/24h/00h for a CDB under 12 bytes"
abbrev pub short_cdb : Sense
short_cdb = illegal 0x24 0

-- "05h/21h/01h for an unknown element, the transport or a transport field other than 0"
abbrev pub wrong_element : Sense
wrong_element = illegal 0x21 0x01

-- "05h/3Bh/0Dh for a full destination"
abbrev pub destination_full : Sense
destination_full = illegal 0x3B 0x0D

-- "05h/3Bh/0Eh for an empty source"
abbrev pub source_empty : Sense
source_empty = illegal 0x3B 0x0E

-- "05h/53h/02h for a move from or to the drive while the tape is open"
abbrev pub drive_held : Sense
drive_held = illegal 0x53 0x02

-- the three fields
abbrev pub transport_field : List ℕ → ℕ
transport_field cdb = half cdb 2

abbrev pub source_field : List ℕ → ℕ
source_field cdb = half cdb 4

abbrev pub destination_field : List ℕ → ℕ
destination_field cdb = half cdb 6

-- the transport's field is the transport's, and the source and the destination have places: no unknown elements, and not the
-- transport
unfoldable pub is_movable : ℕ → ℕ → ℕ → Bool
is_movable t source destination = choose (eqb t transport) (choose (has_place source) (has_place destination) false) false

-- a move from or to the drive while the tape is open
unfoldable pub is_held : Bool → ℕ → ℕ → Bool
is_held opened source destination = choose opened (choose (eqb source drive) true (eqb destination drive)) false

-- what an accepted move comes to: the places that the cartridge goes from and to
abbrev pub from_to : ℕ → ℕ → Result Places Sense
from_to from to = Ok (record { from = from; to = to })

-- "in that order": a refusal with its sense, or the places that the cartridge goes from and to
unfoldable pub judge_move : ℕ → ℕ → ℕ → List ℕ → Bool → Result Places Sense
judge_move t source destination slots opened =
    choose (not (is_movable t source destination)) (Err wrong_element)
    (choose (is_full slots destination) (Err destination_full)
    (choose (not (is_full slots source)) (Err source_empty)
    (choose (is_held opened source destination) (Err drive_held)
    (from_to (place_of source) (place_of destination)))))

unfoldable pub move_medium : List ℕ → List ℕ → Bool → Result Places Sense
move_medium cdb slots opened =
    choose (ltb (length cdb) cdb_bytes) (Err short_cdb)
    (judge_move (transport_field cdb) (source_field cdb) (destination_field cdb) slots opened)

-- the slot list afterwards: one that is refused leaves it
unfoldable pub slots_after : List ℕ → Result Places Sense → List ℕ
slots_after slots (Err sense) = slots
slots_after slots (Ok p) = moved p.from p.to slots
