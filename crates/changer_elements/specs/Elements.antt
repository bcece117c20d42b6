-- The changer's elements (02 No. 7): "eight slots and one drive (transport 0, drive 1, slots 16 to 23)", and the slot list,
-- which has a place for the drive and for each slot: place 0 is the drive, places 1 to 8 are the slots 16 to 23. A place holds
-- "a cartridge's number or 0". In a definition the list is one of any length: it is read by index, and past its end is 0.
use Rattle.std.specs.Prelude.{ℕ, ◌+◌, ◌-◌, ◌*◌, Bool, true, false, not, List, eqb, leb, get_or}
use Rattle.xdr.specs.Choose.{choose}

abbrev pub transport : ℕ
transport = 0

abbrev pub drive : ℕ
drive = 1

abbrev pub first_slot : ℕ
first_slot = 16

abbrev pub last_slot : ℕ
last_slot = 23

-- how many places there are
abbrev pub places : ℕ
places = 9

-- an element that has a place: all but the transport
unfoldable pub has_place : ℕ → Bool
has_place e = choose (eqb e drive) true (choose (leb first_slot e) (leb e last_slot) false)

-- the place of an element that has one
unfoldable pub place_of : ℕ → ℕ
place_of e = choose (eqb e drive) 0 (e - 15)

-- whether a cartridge is in an element that has a place
unfoldable pub is_full : List ℕ → ℕ → Bool
is_full slots e = not (eqb (get_or slots (place_of e) 0) 0)

-- ---- a CDB of the changer
-- a field of two bytes, its high byte first
unfoldable pub half : List ℕ → ℕ → ℕ
half l at = get_or l at 0 * 256 + get_or l (at + 1) 0

-- "a CDB under 12 bytes"
abbrev pub cdb_bytes : ℕ
cdb_bytes = 12
