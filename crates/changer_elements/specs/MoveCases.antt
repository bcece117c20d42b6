-- Moves with their bytes written out, and what each comes to. They keep the definitions to 02 No. 7's words and order.
use Rattle.std.specs.Prelude.{ℕ, true, false, List, [], ◌∷◌, ◌++◌, ◌≡◌, replicate, take, Result, Err}
use Rattle.changer_elements.specs.declared.Sense.{Sense}
use Rattle.changer_elements.specs.declared.Places.{Places}
use Rattle.changer_elements.specs.Slots.{names_none_twice}
use Rattle.changer_elements.specs.Move.{from_to, move_medium, slots_after}

-- a CDB of twelve bytes whose addresses are below 256
abbrev pub move_cdb : ℕ → ℕ → ℕ → List ℕ
move_cdb t source destination = 0xA5 ∷ 0 ∷ 0 ∷ t ∷ 0 ∷ source ∷ 0 ∷ destination ∷ 0 ∷ 0 ∷ 0 ∷ 0 ∷ []

-- the cartridge 7 in the drive, 8 in slot 16 and 9 in slot 23
abbrev pub shelf : List ℕ
shelf = 7 ∷ 8 ∷ 0 ∷ 0 ∷ 0 ∷ 0 ∷ 0 ∷ 0 ∷ 9 ∷ []

-- the drive empty
abbrev pub bare : List ℕ
bare = 0 ∷ 8 ∷ 0 ∷ 0 ∷ 0 ∷ 0 ∷ 0 ∷ 0 ∷ 9 ∷ []

-- status 2 with the sense key 05h, a code and its qualifier
abbrev pub refused_by : ℕ → ℕ → Result Places Sense
refused_by code qualifier = Err (record { key = 5; code = code; qualifier = qualifier })

pub record AcceptedCases : Type 0 where
  pub slot_to_slot : move_medium (move_cdb 0 16 17) shelf false ≡ from_to 1 2
  pub last_slot : move_medium (move_cdb 0 23 22) shelf false ≡ from_to 8 7
  pub from_drive : move_medium (move_cdb 0 1 20) shelf false ≡ from_to 0 5
  pub to_drive : move_medium (move_cdb 0 23 1) bare false ≡ from_to 8 0
  -- "a move from or to the drive while the tape is open": between slots it may be
  pub slots_while_open : move_medium (move_cdb 0 16 22) shelf true ≡ from_to 1 7
  -- a CDB of 13 to 16 bytes
  pub thirteen : move_medium (move_cdb 0 16 17 ++ (255 ∷ [])) shelf false ≡ from_to 1 2
  pub sixteen : move_medium (move_cdb 0 16 17 ++ (255 ∷ 255 ∷ 255 ∷ 255 ∷ [])) shelf false ≡ from_to 1 2
  -- "ignore flag and reserved bits": the logical unit, the invert bit, the control byte, and all others
  pub flags : move_medium (0xA5 ∷ 255 ∷ 0 ∷ 0 ∷ 0 ∷ 16 ∷ 0 ∷ 17 ∷ 255 ∷ 255 ∷ 255 ∷ 255 ∷ []) shelf false ≡ from_to 1 2
  -- the list afterwards
  pub loads : slots_after bare (move_medium (move_cdb 0 16 1) bare false) ≡ 8 ∷ 0 ∷ 0 ∷ 0 ∷ 0 ∷ 0 ∷ 0 ∷ 0 ∷ 9 ∷ []
  pub unloads : slots_after shelf (move_medium (move_cdb 0 1 22) shelf false) ≡ 0 ∷ 8 ∷ 0 ∷ 0 ∷ 0 ∷ 0 ∷ 0 ∷ 7 ∷ 9 ∷ []
  pub refused_leaves : slots_after shelf (move_medium (move_cdb 0 1 22) shelf true) ≡ shelf

pub record RefusedCases : Type 0 where
  -- "05h/24h/00h for a CDB under 12 bytes"
  pub one_byte : move_medium (0xA5 ∷ []) shelf false ≡ refused_by 0x24 0
  pub eleven : move_medium (take 11 (move_cdb 0 16 17)) shelf false ≡ refused_by 0x24 0
  -- "05h/21h/01h for an unknown element, the transport or a transport field other than 0"
  pub source_two : move_medium (move_cdb 0 2 17) shelf false ≡ refused_by 0x21 1
  pub source_fifteen : move_medium (move_cdb 0 15 17) shelf false ≡ refused_by 0x21 1
  pub source_beyond : move_medium (move_cdb 0 24 17) shelf false ≡ refused_by 0x21 1
  pub source_transport : move_medium (move_cdb 0 0 17) shelf false ≡ refused_by 0x21 1
  pub source_high : move_medium (0xA5 ∷ 0 ∷ 0 ∷ 0 ∷ 1 ∷ 16 ∷ 0 ∷ 17 ∷ 0 ∷ 0 ∷ 0 ∷ 0 ∷ []) shelf false ≡ refused_by 0x21 1
  pub destination_two : move_medium (move_cdb 0 16 2) shelf false ≡ refused_by 0x21 1
  pub destination_beyond : move_medium (move_cdb 0 16 24) shelf false ≡ refused_by 0x21 1
  pub destination_transport : move_medium (move_cdb 0 16 0) shelf false ≡ refused_by 0x21 1
  pub destination_high : move_medium (0xA5 ∷ 0 ∷ 0 ∷ 0 ∷ 0 ∷ 16 ∷ 255 ∷ 17 ∷ 0 ∷ 0 ∷ 0 ∷ 0 ∷ []) shelf false ≡ refused_by 0x21 1
  pub transport_one : move_medium (move_cdb 1 16 17) shelf false ≡ refused_by 0x21 1
  pub transport_high : move_medium (0xA5 ∷ 0 ∷ 1 ∷ 0 ∷ 0 ∷ 16 ∷ 0 ∷ 17 ∷ 0 ∷ 0 ∷ 0 ∷ 0 ∷ []) shelf false ≡ refused_by 0x21 1
  -- "05h/3Bh/0Dh for a full destination"
  pub full : move_medium (move_cdb 0 16 23) shelf false ≡ refused_by 0x3B 0x0D
  pub full_drive : move_medium (move_cdb 0 16 1) shelf false ≡ refused_by 0x3B 0x0D
  -- "05h/3Bh/0Eh for an empty source"
  pub empty : move_medium (move_cdb 0 17 18) shelf false ≡ refused_by 0x3B 0x0E
  pub empty_drive : move_medium (move_cdb 0 1 18) bare false ≡ refused_by 0x3B 0x0E
  -- a source that is the destination too
  pub itself_full : move_medium (move_cdb 0 16 16) shelf false ≡ refused_by 0x3B 0x0D
  pub itself_empty : move_medium (move_cdb 0 17 17) shelf false ≡ refused_by 0x3B 0x0E
  -- "05h/53h/02h for a move from or to the drive while the tape is open"
  pub from_held : move_medium (move_cdb 0 1 17) shelf true ≡ refused_by 0x53 2
  pub to_held : move_medium (move_cdb 0 16 1) bare true ≡ refused_by 0x53 2

-- "in that order": of two faults the earlier is given
pub record OrderCases : Type 0 where
  pub short_and_unknown : move_medium (take 11 (move_cdb 1 2 3)) shelf true ≡ refused_by 0x24 0
  pub unknown_and_full : move_medium (move_cdb 0 2 23) shelf false ≡ refused_by 0x21 1
  pub unknown_and_empty : move_medium (move_cdb 0 17 2) shelf false ≡ refused_by 0x21 1
  pub unknown_and_held : move_medium (move_cdb 0 1 24) shelf true ≡ refused_by 0x21 1
  pub full_and_empty : move_medium (move_cdb 0 17 16) shelf false ≡ refused_by 0x3B 0x0D
  pub full_and_held : move_medium (move_cdb 0 1 16) shelf true ≡ refused_by 0x3B 0x0D
  pub empty_and_held : move_medium (move_cdb 0 17 1) bare true ≡ refused_by 0x3B 0x0E

pub record TwiceCases : Type 0 where
  pub none : names_none_twice (replicate 9 0) ≡ true
  pub some : names_none_twice shelf ≡ true
  pub all : names_none_twice (1 ∷ 2 ∷ 3 ∷ 4 ∷ 5 ∷ 6 ∷ 7 ∷ 8 ∷ 9 ∷ []) ≡ true
  pub drive_and_slot : names_none_twice (7 ∷ 0 ∷ 0 ∷ 0 ∷ 0 ∷ 0 ∷ 0 ∷ 0 ∷ 7 ∷ []) ≡ false
  pub two_slots : names_none_twice (0 ∷ 0 ∷ 0 ∷ 0 ∷ 0 ∷ 0 ∷ 0 ∷ 7 ∷ 7 ∷ []) ≡ false
  pub three : names_none_twice (7 ∷ 7 ∷ 7 ∷ 0 ∷ 0 ∷ 0 ∷ 0 ∷ 0 ∷ 0 ∷ []) ≡ false
  pub beside_others : names_none_twice (1 ∷ 2 ∷ 3 ∷ 4 ∷ 5 ∷ 6 ∷ 7 ∷ 8 ∷ 4 ∷ []) ≡ false
  pub largest : names_none_twice (4294967295 ∷ 0 ∷ 0 ∷ 0 ∷ 4294967295 ∷ 0 ∷ 0 ∷ 0 ∷ 0 ∷ []) ≡ false

pub record MoveCases : Type 0 where
  pub accepted : AcceptedCases
  pub refused : RefusedCases
  pub order : OrderCases
  pub twice : TwiceCases
