-- The requests of the SCSI interface (paper 01, "The changer"; 02 No. 7). They see the changer, and MOVE MEDIUM also whether the tape is open.
use Rattle.std.specs.Prelude.{ℕ, Bool, true, false, not, List, [], ◌∷◌, length, get_or, eqb, ltb, Result, Ok, Err}
use Rattle.codes.specs.Codes.{device_opened, not_open, illegal_arguments, no_device, sense_bytes, test_ready, request_sense, move_medium_code, element_status_code}
use Rattle.xdr.specs.Choose.{choose, least}
use Rattle.xdr.specs.Xdr.{same_bytes}
use Rattle.wire_requests.specs.Within.{bytes_at}
use Rattle.wire_requests.specs.declared.ScsiRequest.{ScsiRequest}
use Rattle.wire_requests.specs.declared.ScsiRequest.TheVariants.{Open, Close, State, Reset, Cdb}
use Rattle.wire_replies.specs.declared.Reply.TheVariants as Reply
use Rattle.changer_elements.specs.declared.Places.{Places}
use Rattle.changer_elements.specs.declared.Asked.{Asked}
use Rattle.changer_elements.specs.declared.Sense.{Sense}
use Rattle.changer_elements.specs.Slots.{moved}
use Rattle.changer_elements.specs.Move.{illegal, move_medium}
use Rattle.changer_elements.specs.Status.{read_status, status_data}
use Rattle.rules_parts.specs.declared.types.Changer.{Changer}
use Rattle.rules_parts.specs.Names.{longest_cdb}
use Rattle.rules_parts.specs.Parts.{clear_changer, changer_refused, changer_holds}
use Rattle.rules.specs.Judge.{test, Outcome, accept, judge}

-- the device's name, `changer0`
unfoldable pub changer0 : List ℕ
changer0 = 0x63 ∷ 0x68 ∷ 0x61 ∷ 0x6E ∷ 0x67 ∷ 0x65 ∷ 0x72 ∷ 0x30 ∷ []

-- "16, 3: name other than .. `changer0` (SCSI); that same device already open"
unfoldable pub scsi_open : Changer → Bool → Outcome Changer
scsi_open c named = judge (test (not named) no_device ∷ test c.opened device_opened ∷ []) (accept Reply.Plain (clear_changer true c))

-- "Open, close and reset clear it": close and reset. Reset leaves the device open
unfoldable pub scsi_clear : Changer → Bool → Outcome Changer
scsi_clear c opened = judge (test (not c.opened) not_open ∷ []) (accept Reply.Plain (clear_changer opened c))

unfoldable pub scsi_state : Changer → Outcome Changer
scsi_state c = judge (test (not c.opened) not_open ∷ []) (accept Reply.ScsiState c)

-- "the pending sense, cut to the CDB's fifth byte (none in a shorter CDB) and the data-in length": the fifth byte is 0 past the end
unfoldable pub sense_length : List ℕ → ℕ → ℕ
sense_length cdb room = least (least (get_or cdb 4 0) room) sense_bytes

-- "status 2, and the sense .. becomes pending and is returned as the extended sense, with no data-in"
unfoldable pub checks : Changer → Sense → Outcome Changer
checks c s = accept (Reply.Check s.key s.code s.qualifier) (changer_refused s.key s.code s.qualifier c)

-- the sense of paper 01: key 05h, code 20h
abbrev pub unknown_opcode : Sense
unknown_opcode = illegal 0x20 0

-- MOVE MEDIUM and READ ELEMENT STATUS: "Both keep the pending sense when they succeed"
unfoldable pub moves : Changer → Result Places Sense → Outcome Changer
moves c (Err sense) = checks c sense
moves c (Ok p) = accept Reply.Cdb (changer_holds (moved p.from p.to c.slots) c)

unfoldable pub reports : Changer → Result Asked Sense → Outcome Changer
reports c (Err sense) = checks c sense
reports c (Ok asked) = accept Reply.Elements c

-- "CDB 00h: status 0. 03h (REQUEST SENSE): the pending sense .., then cleared. Other opcodes: status 2, and the sense .. becomes pending and is
-- returned as the extended sense, with no data-in; 03h returns it as data-in, with status 0. .. 00h keeps what is pending."
unfoldable pub run_cdb : Bool → Changer → List ℕ → ℕ → Outcome Changer
run_cdb tape c cdb room =
    choose (eqb (get_or cdb 0 0) test_ready) (accept Reply.Cdb c)
    (choose (eqb (get_or cdb 0 0) request_sense) (accept (Reply.Sense (sense_length cdb room) c.key c.code c.qualifier) (changer_refused 0 0 0 c))
    (choose (eqb (get_or cdb 0 0) move_medium_code) (moves c (move_medium cdb c.slots tape))
    (choose (eqb (get_or cdb 0 0) element_status_code) (reports c (read_status cdb room))
    (checks c unknown_opcode))))

-- "CDB length 0 or above 16: 9."
unfoldable pub scsi_cdb : Bool → Changer → List ℕ → ℕ → Outcome Changer
scsi_cdb tape c cdb room =
    judge
    (test (not c.opened) not_open ∷ test (eqb (length cdb) 0) illegal_arguments ∷ test (ltb longest_cdb (length cdb)) illegal_arguments ∷ [])
    (run_cdb tape c cdb room)

-- the SCSI step; `tape` is whether the tape is open
unfoldable pub scsi_step : Bool → Changer → ScsiRequest → List ℕ → Outcome Changer
scsi_step tape c (Open name) body = scsi_open c (same_bytes (bytes_at body name) changer0)
scsi_step tape c Close body = scsi_clear c false
scsi_step tape c State body = scsi_state c
scsi_step tape c Reset body = scsi_clear c true
scsi_step tape c (Cdb cdb room) body = scsi_cdb tape c (bytes_at body cdb) room

-- ---- what a reply shows bytes of: the status of elements
unfoldable pub status_shown : Result Asked Sense → List ℕ → List ℕ
status_shown (Err sense) slots = []
status_shown (Ok asked) slots = status_data asked slots

unfoldable pub cdb_shown : List ℕ → ℕ → List ℕ → List ℕ
cdb_shown cdb room slots = choose (eqb (get_or cdb 0 0) element_status_code) (status_shown (read_status cdb room) slots) []

unfoldable pub scsi_shown : ScsiRequest → List ℕ → List ℕ → List ℕ
scsi_shown (Open name) body slots = []
scsi_shown Close body slots = []
scsi_shown State body slots = []
scsi_shown Reset body slots = []
scsi_shown (Cdb cdb room) body slots = cdb_shown (bytes_at body cdb) room slots

-- ---- "MOVE MEDIUM joins the set-aside requests of demand 3": by its opcode, whatever it comes to
unfoldable pub moves_medium : ScsiRequest → List ℕ → Bool
moves_medium (Open name) body = false
moves_medium Close body = false
moves_medium State body = false
moves_medium Reset body = false
moves_medium (Cdb cdb room) body = eqb (get_or (bytes_at body cdb) 0 0) move_medium_code
