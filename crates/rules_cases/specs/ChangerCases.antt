-- The changer at work (paper 02, No. 7): sessions with their bytes written out, from SMC's layouts, 004's structures and the request's words; which sessions
-- are refused with 1002; and which records are set aside in the order theorem.
use Rattle.std.specs.Prelude.{ℕ, ◌+◌, ◌*◌, true, false, List, [], ◌∷◌, ◌++◌, ◌≡◌, replicate}
use Rattle.rules_parts.specs.declared.types.Tape.{Tape}
use Rattle.rules_parts.specs.declared.types.Session.{Session}
use Rattle.rules_parts.specs.Parts.{closed_tape, changer_holds, new_session, with_parts}
use Rattle.rules.specs.Answer.{Kept, held, silent, answered}
use Rattle.rules.specs.Calls.{opening}
use Rattle.rules.specs.Order.{TapeService, ScsiService, JointService, route_of}
use Rattle.rules_moves.specs.Events.{moved_to_tape, moved_from_tape, method_ended, connection_made, connection_lost}
use Rattle.rules_moves.specs.RecoverCases.{small}
use Rattle.rules_moves.specs.Cases.{CaseLine, Ask, Feed, Insert, Final, run_case, kept_after, lending, no_variables, known_session, next_number, begins, wanted_from, wire, echoed, stamp, says}
use Rattle.rules_moves.specs.Cases.{size_line, window_line, open_tape, mtio, listen, connect_line, start_backup, continue_line, pause_notices, halt_notices, to_tape_mode, eom, connect_closed, successful}
use Rattle.rules_moves.specs.Cases.{streamed, cartridge}

-- ---- lines
-- SCSI open of `changer0`, close, reset
abbrev pub open_changer : CaseLine
open_changer = says 0x200 (8 ∷ 0x6368_616E ∷ 0x6765_7230 ∷ []) 0

abbrev pub close_changer : CaseLine
close_changer = says 0x201 [] 0

abbrev pub reset_changer : CaseLine
reset_changer = says 0x204 [] 0

-- execute CDB: flags, timeout, data-in length, the CDB as its length and words, no data out
abbrev pub cdb_words : ℕ → List ℕ → List ℕ
cdb_words room cdb = 0 ∷ 0 ∷ room ∷ cdb ++ (0 ∷ [])

abbrev pub cdb_line : ℕ → List ℕ → List ℕ → CaseLine
cdb_line room cdb reply = Ask 0x206 (cdb_words room cdb) reply []

-- MOVE MEDIUM: A5h, then three addresses of two bytes each from byte 2 on; READ ELEMENT STATUS: B8h, the type, start, number, a byte, three bytes of
-- allocation length
abbrev pub move_cdb : ℕ → ℕ → ℕ → List ℕ
move_cdb t source destination = 12 ∷ (0xA500_0000 + t) ∷ (source * 0x1_0000 + destination) ∷ 0 ∷ []

abbrev pub status_cdb : ℕ → ℕ → ℕ → ℕ → List ℕ
status_cdb kind start number allocation =
    12 ∷ (0xB800_0000 + kind * 0x1_0000 + start) ∷ (number * 0x1_0000) ∷ (allocation * 0x1_0000) ∷ []

-- REQUEST SENSE of 18 bytes
abbrev pub sense_cdb : List ℕ
sense_cdb = 6 ∷ 0x0300_0000 ∷ 0x1200_0000 ∷ []

-- ---- replies: error, status, data-out length, data in, extended sense
-- status 0 and nothing more
abbrev pub done : List ℕ
done = 0 ∷ 0 ∷ 0 ∷ 0 ∷ 0 ∷ []

-- the sense: 70h, the key in byte 2, 10 more bytes, the code in byte 12 and its qualifier in byte 13; with the fill 20 bytes
abbrev pub sense : ℕ → ℕ → ℕ → List ℕ
sense key code qualifier = 18 ∷ (0x7000_0000 + key * 0x100) ∷ 0xA ∷ 0 ∷ (code * 0x100_0000 + qualifier * 0x1_0000) ∷ 0 ∷ []

-- status 2 with a sense of key 05h; and a sense as data in, with status 0
abbrev pub checked : ℕ → ℕ → List ℕ
checked code qualifier = 0 ∷ 2 ∷ 0 ∷ 0 ∷ sense 5 code qualifier

abbrev pub sensed : ℕ → ℕ → ℕ → List ℕ
sensed key code qualifier = 0 ∷ 0 ∷ 0 ∷ sense key code qualifier ++ (0 ∷ [])

-- data in of so many bytes, as words
abbrev pub tells : ℕ → List ℕ → List ℕ
tells n words = 0 ∷ 0 ∷ 0 ∷ n ∷ words ++ (0 ∷ [])

-- an execute CDB that is refused by a number
abbrev pub refused_by : ℕ → List ℕ
refused_by e = e ∷ 0 ∷ 0 ∷ 0 ∷ 0 ∷ []

abbrev pub moves : ℕ → ℕ → List ℕ → CaseLine
moves source destination reply = cdb_line 0 (move_cdb 0 source destination) reply

-- ---- the status: the header (first address, number, bytes of all pages), pages (type, 12 bytes a descriptor, bytes) and descriptors (address, flags)
abbrev pub header : ℕ → ℕ → ℕ → List ℕ
header first number bytes = (first * 0x1_0000 + number) ∷ bytes ∷ []

abbrev pub page : ℕ → ℕ → List ℕ
page kind bytes = (kind * 0x100_0000 + 12) ∷ bytes ∷ []

abbrev pub told : ℕ → ℕ → List ℕ
told element flags = (element * 0x1_0000 + flags * 0x100) ∷ 0 ∷ 0 ∷ []

-- ---- sessions
abbrev pub with_slots : List ℕ → Tape → Session
with_slots slots t = let s = known_session in with_parts s s.login s.source s.mover t (changer_holds slots s.changer)

-- the cartridge 7 in the drive, 8 in slot 16 and 9 in slot 23
abbrev pub shelf : List ℕ
shelf = 7 ∷ 8 ∷ 0 ∷ 0 ∷ 0 ∷ 0 ∷ 0 ∷ 0 ∷ 9 ∷ []

abbrev pub ran : List ℕ → List ℕ → List CaseLine → Final
ran slots stream lines = run_case (begins (with_slots slots closed_tape) small no_variables stream) lines

abbrev pub left : List ℕ → List ℕ → List CaseLine → Kept
left slots stream lines = kept_after (begins (with_slots slots closed_tape) small no_variables stream) lines

-- ---- worked
-- A refused move's sense stays pending over a status, until REQUEST SENSE. With the tape open cartridges go from slot to slot, and not from the drive. MTIO 6
-- closes the tape, whatever its count; then the drive can be emptied, and tape open is 10 until a cartridge is there again. SCSI close and reset leave the slots
abbrev pub worked : List CaseLine
worked =
    open_changer ∷ moves 16 1 (checked 0x3B 0x0D)
    ∷ cdb_line 152 (status_cdb 0 0 10 152)
    (tells 152
    (header 0 10 144 ++ page 1 12 ++ told 0 0 ++ page 4 12 ++ told 1 9 ++ page 2 96 ++ told 16 9 ++ told 17 8 ++ told 18 8 ++ told 19 8 ++ told 20 8
    ++ told 21 8 ++ told 22 8 ++ told 23 9))
    ∷ cdb_line 18 sense_cdb (sensed 5 0x3B 0x0D) ∷ cdb_line 18 sense_cdb (sensed 0 0 0)
    ∷ open_tape 1 ∷ moves 1 17 (checked 0x53 0x02) ∷ moves 16 17 done ∷ cdb_line 18 sense_cdb (sensed 5 0x53 0x02)
    ∷ cdb_line 512 (status_cdb 2 16 2 255) (tells 40 (header 16 2 32 ++ page 2 24 ++ told 16 8 ++ told 17 9))
    ∷ mtio 6 3 0 0 ∷ says 0x301 [] 6
    ∷ moves 1 18 done ∷ says 0x300 (5 ∷ 0x7461_7065 ∷ 0x3000_0000 ∷ 1 ∷ []) 10
    ∷ cdb_line 512 (status_cdb 4 0 65535 255) (tells 28 (header 1 1 20 ++ page 4 12 ++ told 1 8))
    ∷ reset_changer ∷ moves 17 1 done ∷ open_tape 1 ∷ close_changer ∷ []

-- ---- refused
abbrev pub turned_away : List CaseLine
turned_away =
    moves 16 17 (refused_by 6) ∷ cdb_line 512 (status_cdb 0 0 10 255) (refused_by 6) ∷ open_changer
    -- eleven bytes, of either opcode; and a sense that takes the place of one that is pending
    ∷ cdb_line 0 (11 ∷ 0xA500_0000 ∷ 0x0010_0011 ∷ 0 ∷ []) (checked 0x24 0) ∷ moves 17 18 (checked 0x3B 0x0E)
    ∷ cdb_line 512 (11 ∷ 0xB800_0000 ∷ 0x000A_0000 ∷ 0xFFFF_FF00 ∷ []) (checked 0x24 0) ∷ cdb_line 18 sense_cdb (sensed 5 0x24 0)
    -- no element, the transport, another transport field
    ∷ moves 16 24 (checked 0x21 0x01) ∷ moves 0 17 (checked 0x21 0x01) ∷ cdb_line 0 (move_cdb 1 16 17) (checked 0x21 0x01)
    -- to itself; and each sense by a REQUEST SENSE that asks for three bytes, by one with room for two, and by one of four bytes, which asks for none and
    -- clears it too
    ∷ moves 16 16 (checked 0x3B 0x0D) ∷ cdb_line 18 (6 ∷ 0x0300_0000 ∷ 0x0300_0000 ∷ []) (tells 3 (0x7000_0500 ∷ []))
    ∷ moves 17 17 (checked 0x3B 0x0E) ∷ cdb_line 2 sense_cdb (tells 2 (0x7000_0000 ∷ []))
    ∷ moves 17 17 (checked 0x3B 0x0E) ∷ cdb_line 18 (4 ∷ 0x0300_0000 ∷ []) (tells 0 []) ∷ cdb_line 18 sense_cdb (sensed 0 0 0)
    -- none of these moved anything: slot 16 is as it was. A start beyond the last element, and a type that is none, have no elements
    ∷ cdb_line 512 (status_cdb 2 16 1 255) (tells 28 (header 16 1 20 ++ page 2 12 ++ told 16 9))
    ∷ cdb_line 512 (status_cdb 0 24 10 255) (tells 8 (header 0 0 0)) ∷ cdb_line 512 (status_cdb 3 0 10 255) (tells 8 (header 0 0 0))
    -- cut to the byte, by the data-in length and by the allocation length, with fill behind it
    ∷ cdb_line 10 (status_cdb 0 0 10 255) (tells 10 (header 0 10 144 ++ (0x0100_0000 ∷ [])))
    ∷ cdb_line 512 (status_cdb 0 0 10 7) (tells 7 (header 0 10 0)) ∷ cdb_line 0 (status_cdb 0 0 10 255) done
    -- a CDB of sixteen bytes, with every flag and reserved bit set; one of seventeen
    ∷ cdb_line 7 (16 ∷ 0xA5FF_0000 ∷ 0x0010_0011 ∷ 0xFFFF_FFFF ∷ 0xFFFF_FFFF ∷ []) done
    ∷ cdb_line 7 (17 ∷ 0xA500_0000 ∷ 0x0011_0010 ∷ 0 ∷ 0 ∷ 0 ∷ []) (refused_by 9) ∷ []

-- ---- a backup over two cartridges
-- The first has room for two records of four bytes. The mover pauses at its end, the tape is closed by MTIO 6, and continue is 6 until another is open
abbrev pub filled : List ℕ
filled = cartridge (1 ∷ 2 ∷ 2 ∷ 8 ∷ 4 ∷ 0 ∷ 4 ∷ 4 ∷ []) (streamed 8 1)

abbrev pub begun : List ℕ
begun = cartridge (1 ∷ 2 ∷ 1 ∷ 4 ∷ 4 ∷ 0 ∷ 0 ∷ 0 ∷ []) (9 ∷ 10 ∷ 0 ∷ 0 ∷ replicate 4 0xEE)

abbrev pub over_two : List CaseLine
over_two =
    open_changer ∷ size_line 4 ∷ open_tape 1 ∷ window_line 0 12 0 ∷ listen to_tape_mode 0 ∷ connect_line ∷ start_backup
    ∷ mtio 6 0 19 0 ∷ Feed 10 false 4 [] ∷ Feed 6 false 4 [] ∷ Feed 2 true 0 (pause_notices eom 0)
    ∷ moves 1 17 (checked 0x53 0x02) ∷ mtio 6 0 0 0 ∷ window_line 8 4 0 ∷ says 0xA02 [] 6
    ∷ moves 1 17 done ∷ moves 16 1 done ∷ Insert filled small
    ∷ open_tape 1 ∷ continue_line ∷ Feed 2 true 2 [] ∷ Feed 0 true 0 (halt_notices successful connect_closed) ∷ []

-- ---- 1002: "from one that names none twice (else 1002)"; and a tape that is open with no cartridge in the drive
abbrev pub doubled : List ℕ
doubled = 7 ∷ 8 ∷ 0 ∷ 0 ∷ 0 ∷ 0 ∷ 0 ∷ 7 ∷ 0 ∷ []

abbrev pub empty : List ℕ
empty = replicate 9 0

abbrev pub opened_tape : Tape
opened_tape = record { opened = true; writable = true; position = 0 }

pub record Broken (s : Session) : Type 0 where
  pub request : answered (held s small no_variables) lending (wire echoed 5 0 0x206 0 (cdb_words 0 (move_cdb 0 16 17))) ≡ silent 1002 (held s small no_variables)
  pub to_tape_lem : (moved_to_tape (held s small no_variables) lending (1 ∷ []) true).answer ≡ silent 1002 (held s small no_variables)
  pub from_tape_lem : (moved_from_tape (held s small no_variables) lending (1 ∷ [])).answer ≡ silent 1002 (held s small no_variables)
  pub ended : method_ended (held s small no_variables) lending true ≡ silent 1002 (held s small no_variables)
  pub made : connection_made (held s small no_variables) lending true ≡ silent 1002 (held s small no_variables)
  pub lost : connection_lost (held s small no_variables) lending false ≡ silent 1002 (held s small no_variables)

pub record OpeningCases : Type 0 where
  pub taken : (opening shelf stamp 36864).next.session ≡ new_session false 2 shelf
  pub none_there : (opening empty stamp 36864).code ≡ 0
  pub refused : opening doubled stamp 36864 ≡ silent 1002 (held (new_session true 1 empty) [] [])
  pub short_first : opening doubled stamp 36863 ≡ silent 1001 (held (new_session true 1 empty) [] [])

-- ---- which are set aside: MOVE MEDIUM, also one that is refused; no other CDB, and no other request of the changer
abbrev pub asks : ℕ → List ℕ → List ℕ
asks message body = wire echoed 5 0 message 0 body

pub record SetAside : Type 0 where
  pub move : route_of (asks 0x206 (cdb_words 0 (move_cdb 0 16 17))) ≡ JointService
  pub unknown_element : route_of (asks 0x206 (cdb_words 0 (move_cdb 0 2 2))) ≡ JointService
  pub short : route_of (asks 0x206 (cdb_words 0 (1 ∷ 0xA500_0000 ∷ []))) ≡ JointService
  pub status : route_of (asks 0x206 (cdb_words 512 (status_cdb 0 0 10 255))) ≡ ScsiService
  pub request_sense : route_of (asks 0x206 (cdb_words 18 sense_cdb)) ≡ ScsiService
  pub no_cdb : route_of (asks 0x206 (cdb_words 0 (0 ∷ []))) ≡ ScsiService
  pub cut_off : route_of (asks 0x206 (0 ∷ 0 ∷ 0 ∷ 12 ∷ 0xA500_0000 ∷ [])) ≡ ScsiService
  pub opens : route_of (asks 0x200 (8 ∷ 0x6368_616E ∷ 0x6765_7230 ∷ [])) ≡ ScsiService
  pub tape_off : route_of (asks 0x303 (6 ∷ 0 ∷ [])) ≡ TapeService

pub record ChangerCasesHold : Type 0 where
  pub at_work : ran shelf [] worked ≡ wanted_from next_number worked small 0
  -- 8 is in the drive, 7 in slot 18 and 9 in slot 23
  pub at_work_left : (left shelf [] worked).session.changer ≡ record { opened = false; key = 0; code = 0; qualifier = 0; slots = 8 ∷ 0 ∷ 0 ∷ 7 ∷ 0 ∷ 0 ∷ 0 ∷ 0 ∷ 9 ∷ [] }
  pub refused : ran shelf [] turned_away ≡ wanted_from next_number turned_away small 0
  pub refused_left : (left shelf [] turned_away).session.changer.slots ≡ 7 ∷ 0 ∷ 8 ∷ 0 ∷ 0 ∷ 0 ∷ 0 ∷ 0 ∷ 9 ∷ []
  pub two_cartridges : ran shelf (streamed 10 1) over_two ≡ wanted_from next_number over_two begun 1
  pub two_cartridges_left : (left shelf (streamed 10 1) over_two).session.changer.slots ≡ 8 ∷ 0 ∷ 7 ∷ 0 ∷ 0 ∷ 0 ∷ 0 ∷ 0 ∷ 9 ∷ []
  pub named_twice : Broken (with_slots doubled closed_tape)
  pub none_in_drive : Broken (with_slots empty opened_tape)
  pub opening_cases : OpeningCases
  pub set_aside : SetAside
