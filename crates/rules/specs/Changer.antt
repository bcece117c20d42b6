-- 02 No. 7: what holds of the changer's requests, of tape open and of MTIO 6. It is said by the bytes of the CDB and
-- of the name, by the fields of the parts and by the definitions of `changer_elements`, so that the definitions of
-- requests are held against it.
use Rattle.std.specs.Prelude.{ℕ, ◌≤◌, ◌<◌, Bool, true, false, List, [], ◌∷◌, ◌≡◌, eqb, length, get_or, Ok, Err}
use Rattle.codes.specs.Codes.{off_line, device_opened, not_open, io_error, illegal_arguments, no_tape_loaded, bad_file, no_device, illegal_state}
use Rattle.xdr.specs.Choose.{least}
use Rattle.tape_image.specs.Image.{is_sound, count}
use Rattle.changer_elements.specs.declared.Sense.{Sense}
use Rattle.changer_elements.specs.declared.Asked.{Asked}
use Rattle.changer_elements.specs.Elements.{cdb_bytes}
use Rattle.changer_elements.specs.Slots.{moved, names_none_twice, in_drive}
use Rattle.changer_elements.specs.Move.{from_to, move_medium}
use Rattle.changer_elements.specs.Status.{asked_by, read_status, status_data}
use Rattle.wire_layouts.specs.declared.Text.{Text}
use Rattle.wire_requests.specs.Within.{bytes_at}
use Rattle.wire_requests.specs.declared.ScsiRequest.{ScsiRequest}
use Rattle.wire_requests.specs.declared.ScsiRequest.TheVariants as ScsiRequest
use Rattle.wire_requests.specs.declared.TapeRequest.{TapeRequest}
use Rattle.wire_requests.specs.declared.TapeRequest.TheVariants as TapeRequest
use Rattle.wire_replies.specs.declared.Reply.TheVariants as Reply
use Rattle.rules_parts.specs.declared.types.Mover.{Mover}
use Rattle.rules_parts.specs.declared.types.Tape.{Tape}
use Rattle.rules_parts.specs.declared.types.Changer.{Changer}
use Rattle.rules_parts.specs.declared.types.Session.{Session}
use Rattle.rules_parts.specs.Names.{longest_cdb, read_write, mover_listening, mover_active}
use Rattle.rules_parts.specs.Parts.{with_parts}
use Rattle.rules.specs.Judge.{Outcome, refuse, accept, Accepts}
use Rattle.rules.specs.ScsiService.{scsi_step, scsi_shown}
use Rattle.rules.specs.TapeService.{TapePart, tape_step}
use Rattle.rules.specs.Relation.{keeps}

-- ---- the names of the devices, `changer0` and `tape0`
abbrev pub changer_name : List ℕ
changer_name = 99 ∷ 104 ∷ 97 ∷ 110 ∷ 103 ∷ 101 ∷ 114 ∷ 48 ∷ []

abbrev pub tape_name : List ℕ
tape_name = 116 ∷ 97 ∷ 112 ∷ 101 ∷ 48 ∷ []

-- ---- the changer
abbrev pub changer_of : Bool → ℕ → ℕ → ℕ → List ℕ → Changer
changer_of opened key code qualifier slots =
    record { opened = opened; key = key; code = code; qualifier = qualifier; slots = slots }

-- status 2 with a sense, which becomes pending, whatever was pending before it; no cartridge is moved
abbrev pub checked : Changer → Sense → Outcome Changer
checked c s =
    accept (Reply.Check s.key s.code s.qualifier) (changer_of true s.key s.code s.qualifier c.slots)

-- a CDB of 1 to 16 bytes, of an open changer, with its opcode
pub record Opcode (c : Changer) (cdb : List ℕ) (code : ℕ) : Type 0 where
  pub opened : c.opened ≡ true
  pub most : length cdb ≤ longest_cdb
  pub some : 1 ≤ length cdb
  pub first : get_or cdb 0 0 ≡ code

pub record CdbRules (tape : Bool) (c : Changer) (cdb : Text) (room : ℕ) (body : List ℕ) : Type 0 where
  -- A5h: "Both keep the pending sense when they succeed"; a refused one replaces it with its own
  pub moves : Opcode c (bytes_at body cdb) 0xA5 → (from to : ℕ)
      → move_medium (bytes_at body cdb) c.slots tape ≡ from_to from to
      → scsi_step tape c (ScsiRequest.Cdb cdb room) body
      ≡ accept Reply.Cdb (changer_of true c.key c.code c.qualifier (moved from to c.slots))
  pub unmoved : Opcode c (bytes_at body cdb) 0xA5 → (s : Sense)
      → move_medium (bytes_at body cdb) c.slots tape ≡ Err s
      → scsi_step tape c (ScsiRequest.Cdb cdb room) body ≡ checked c s
  -- B8h: it leaves the changer as it was, and is shown by the slots, "cut to allocation and data-in length"
  pub reports : Opcode c (bytes_at body cdb) 0xB8 → (a : Asked)
      → read_status (bytes_at body cdb) room ≡ Ok a
      → scsi_step tape c (ScsiRequest.Cdb cdb room) body
      ≡ accept Reply.Elements (changer_of true c.key c.code c.qualifier c.slots)
  pub shown : Opcode c (bytes_at body cdb) 0xB8 → cdb_bytes ≤ length (bytes_at body cdb)
      → scsi_shown (ScsiRequest.Cdb cdb room) body c.slots ≡ status_data (asked_by (bytes_at body cdb) room) c.slots
  pub unreported : Opcode c (bytes_at body cdb) 0xB8 → (s : Sense)
      → read_status (bytes_at body cdb) room ≡ Err s
      → scsi_step tape c (ScsiRequest.Cdb cdb room) body ≡ checked c s
  -- 01: "00h keeps what is pending"
  pub ready : Opcode c (bytes_at body cdb) 0x00
      → scsi_step tape c (ScsiRequest.Cdb cdb room) body
      ≡ accept Reply.Cdb (changer_of true c.key c.code c.qualifier c.slots)
  -- 01: 03h gives 18 bytes with "the pending sense, cut to the CDB's fifth byte (none in a shorter CDB) and the
  -- data-in length, then cleared", with its qualifier too
  pub sensed : Opcode c (bytes_at body cdb) 0x03
      → scsi_step tape c (ScsiRequest.Cdb cdb room) body
      ≡ accept (Reply.Sense (least (least (get_or (bytes_at body cdb) 4 0) room) 18) c.key c.code c.qualifier)
      (changer_of true 0 0 0 c.slots)
  -- "Other opcodes: status 2, and the sense .. becomes pending"
  pub others : (code : ℕ) → Opcode c (bytes_at body cdb) code → (code ≡ 0x00 → ⊥) → (code ≡ 0x03 → ⊥) → (code ≡ 0xA5 → ⊥)
      → (code ≡ 0xB8 → ⊥)
      → scsi_step tape c (ScsiRequest.Cdb cdb room) body
      ≡ checked c (record { key = 0x05; code = 0x20; qualifier = 0x00 })
  -- 6 first, then 9, for MOVE MEDIUM and READ ELEMENT STATUS as for any other
  pub closed : c.opened ≡ false → scsi_step tape c (ScsiRequest.Cdb cdb room) body ≡ refuse not_open
  pub none : c.opened ≡ true → length (bytes_at body cdb) ≡ 0
      → scsi_step tape c (ScsiRequest.Cdb cdb room) body ≡ refuse illegal_arguments
  pub long : c.opened ≡ true → longest_cdb < length (bytes_at body cdb)
      → scsi_step tape c (ScsiRequest.Cdb cdb room) body ≡ refuse illegal_arguments

-- "Open, close and reset clear it", the pending sense, and leave the slot list
pub record DeviceRules (tape : Bool) (c : Changer) (body : List ℕ) : Type 0 where
  pub opens : (name : Text) → bytes_at body name ≡ changer_name → c.opened ≡ false
      → scsi_step tape c (ScsiRequest.Open name) body ≡ accept Reply.Plain (changer_of true 0 0 0 c.slots)
  pub closes : c.opened ≡ true
      → scsi_step tape c ScsiRequest.Close body ≡ accept Reply.Plain (changer_of false 0 0 0 c.slots)
  pub resets : c.opened ≡ true
      → scsi_step tape c ScsiRequest.Reset body ≡ accept Reply.Plain (changer_of true 0 0 0 c.slots)
  -- "16, 3: name other than .. `changer0` (SCSI); that same device already open"
  pub name_wrong : (name : Text) → (bytes_at body name ≡ changer_name → ⊥)
      → scsi_step tape c (ScsiRequest.Open name) body ≡ refuse no_device
  pub again : (name : Text) → bytes_at body name ≡ changer_name → c.opened ≡ true
      → scsi_step tape c (ScsiRequest.Open name) body ≡ refuse device_opened
  -- 6: close, reset and state of a changer that is not open
  pub closed : c.opened ≡ false
      → (scsi_step tape c ScsiRequest.Close body ≡ refuse not_open)
      × ((scsi_step tape c ScsiRequest.Reset body ≡ refuse not_open)
      × (scsi_step tape c ScsiRequest.State body ≡ refuse not_open))
  -- the state leaves the changer as it was, with what is pending
  pub state : c.opened ≡ true → scsi_step tape c ScsiRequest.State body ≡ accept Reply.ScsiState c

-- an execute CDB whose first byte is A5h
pub record IsMove (q : ScsiRequest) (body : List ℕ) : Type 0 where
  pub cdb : Text
  pub room : ℕ
  pub request : q ≡ ScsiRequest.Cdb cdb room
  pub opcode : get_or (bytes_at body cdb) 0 0 ≡ 0xA5

-- what a request leaves of the slot list
pub record SlotRules : Type 0 where
  -- no request but MOVE MEDIUM changes it, or hangs on whether the tape is open
  pub stay : (tape : Bool) (c : Changer) (q : ScsiRequest) (body : List ℕ) → (IsMove q body → ⊥)
      → Accepts (λ _ next. next.slots ≡ c.slots) (scsi_step tape c q body)
  pub blind : (a b : Bool) (c : Changer) (q : ScsiRequest) (body : List ℕ) → (IsMove q body → ⊥)
      → scsi_step a c q body ≡ scsi_step b c q body
  -- "from one that names none twice .., passed on from call to call"
  pub none_twice : (tape : Bool) (c : Changer) (q : ScsiRequest) (body : List ℕ) → names_none_twice c.slots ≡ true
      → Accepts (λ _ next. names_none_twice next.slots ≡ true) (scsi_step tape c q body)
  -- while the tape is open its cartridge stays in the drive: "The host lends the image that the session names as
  -- being in the drive"
  pub in_drive_lem : (c : Changer) (q : ScsiRequest) (body : List ℕ)
      → Accepts (λ _ next. in_drive next.slots ≡ in_drive c.slots) (scsi_step true c q body)

-- ---- the relation of a session: what the slot list adds to it, and nothing more
pub record ShelfRules : Type 0 where
  pub twice : (s : Session) → names_none_twice s.changer.slots ≡ false → keeps s ≡ false
  pub unloaded : (s : Session) → s.tape.opened ≡ true → in_drive s.changer.slots ≡ 0 → keeps s ≡ false
  pub only : (s : Session) (c : Changer)
      → names_none_twice s.changer.slots ≡ true → (s.tape.opened ≡ true → in_drive s.changer.slots ≡ 0 → ⊥)
      → names_none_twice c.slots ≡ true → (s.tape.opened ≡ true → in_drive c.slots ≡ 0 → ⊥)
      → keeps s ≡ keeps (with_parts s s.login s.source s.mover s.tape c)

-- ---- the tape
abbrev pub part_of : Mover → Bool → Bool → ℕ → List ℕ → TapePart
part_of m opened writable position image =
    record { mover = m; tape = record { opened = opened; writable = writable; position = position }; image = image }

-- "10 (no tape loaded) at tape open, after 3": 9, 16, 3, 10, 15
pub record OpenRules (drive : ℕ) (p : TapePart) (name : Text) (mode : ℕ) (body : List ℕ) : Type 0 where
  pub mode_wrong : read_write < mode → tape_step drive p (TapeRequest.Open name mode) body ≡ refuse illegal_arguments
  pub name_wrong : mode ≤ read_write → (bytes_at body name ≡ tape_name → ⊥)
      → tape_step drive p (TapeRequest.Open name mode) body ≡ refuse no_device
  pub again : mode ≤ read_write → bytes_at body name ≡ tape_name → p.tape.opened ≡ true
      → tape_step drive p (TapeRequest.Open name mode) body ≡ refuse device_opened
  -- whatever the image
  pub empty : mode ≤ read_write → bytes_at body name ≡ tape_name → p.tape.opened ≡ false → drive ≡ 0
      → tape_step drive p (TapeRequest.Open name mode) body ≡ refuse no_tape_loaded
  pub unsound : mode ≤ read_write → bytes_at body name ≡ tape_name → p.tape.opened ≡ false → (drive ≡ 0 → ⊥)
      → is_sound p.image ≡ false
      → tape_step drive p (TapeRequest.Open name mode) body ≡ refuse bad_file
  pub opens : mode ≤ read_write → bytes_at body name ≡ tape_name → p.tape.opened ≡ false → (drive ≡ 0 → ⊥)
      → is_sound p.image ≡ true
      → tape_step drive p (TapeRequest.Open name mode) body
      ≡ accept Reply.Plain (part_of p.mover true (eqb mode read_write) 0 p.image)

-- a tape that is open, and a mover that does not hold it
pub record Free (p : TapePart) : Type 0 where
  pub opened : p.tape.opened ≡ true
  pub not_listening : p.mover.state ≡ mover_listening → ⊥
  pub not_active : p.mover.state ≡ mover_active → ⊥

-- a mover that holds the tape
pub data Holding (m : Mover) : Type 0 where
  listens : m.state ≡ mover_listening → Holding m
  runs : m.state ≡ mover_active → Holding m

-- "MTIO 6, which rewinds and closes the tape device, residue 0": of a tape that is open for reading or writing,
-- whatever the count
pub record OffRules (drive : ℕ) (p : TapePart) (times : ℕ) (body : List ℕ) : Type 0 where
  pub closed : p.tape.opened ≡ false → tape_step drive p (TapeRequest.Mtio off_line times) body ≡ refuse not_open
  pub held : p.tape.opened ≡ true → Holding p.mover
      → tape_step drive p (TapeRequest.Mtio off_line times) body ≡ refuse illegal_state
  -- 7, and the tape stays open: an image that is unsound, and a position above n
  pub unsound : Free p → is_sound p.image ≡ false
      → tape_step drive p (TapeRequest.Mtio off_line times) body ≡ refuse io_error
  pub beyond : Free p → count p.image < p.tape.position
      → tape_step drive p (TapeRequest.Mtio off_line times) body ≡ refuse io_error
  pub off : Free p → is_sound p.image ≡ true → p.tape.position ≤ count p.image
      → tape_step drive p (TapeRequest.Mtio off_line times) body
      ≡ accept (Reply.Mtio 0 0) (part_of p.mover false false 0 p.image)
  -- as TAPE close leaves it
  pub as_close : Free p
      → tape_step drive p TapeRequest.Close body ≡ accept Reply.Plain (part_of p.mover false false 0 p.image)

pub record DriveRules : Type 0 where
  pub opening : (drive : ℕ) (p : TapePart) (name : Text) (mode : ℕ) (body : List ℕ) → OpenRules drive p name mode body
  pub off : (drive : ℕ) (p : TapePart) (times : ℕ) (body : List ℕ) → OffRules drive p times body
  -- every other MTIO that is accepted leaves the tape open, and writable as it was
  pub mtio : (drive : ℕ) (p : TapePart) (op times : ℕ) (body : List ℕ) → (op ≡ off_line → ⊥)
      → Accepts (λ _ next. (next.tape.opened ≡ p.tape.opened) × (next.tape.writable ≡ p.tape.writable))
      (tape_step drive p (TapeRequest.Mtio op times) body)
  -- no request opens the tape of an empty drive
  pub loaded : (drive : ℕ) (p : TapePart) (q : TapeRequest) (body : List ℕ) → (p.tape.opened ≡ true → drive ≡ 0 → ⊥)
      → Accepts (λ _ next. next.tape.opened ≡ true → drive ≡ 0 → ⊥) (tape_step drive p q body)
  -- which cartridge it is makes no difference, and none but tape open asks whether there is one
  pub alike : (a b : ℕ) (p : TapePart) (q : TapeRequest) (body : List ℕ) → (a ≡ 0 → ⊥) → (b ≡ 0 → ⊥)
      → tape_step a p q body ≡ tape_step b p q body
  pub unasked : (a b : ℕ) (p : TapePart) (q : TapeRequest) (body : List ℕ)
      → ((name : Text) (mode : ℕ) → q ≡ TapeRequest.Open name mode → ⊥)
      → tape_step a p q body ≡ tape_step b p q body

pub record ChangerRules : Type 0 where
  pub cdb : (tape : Bool) (c : Changer) (cdb : Text) (room : ℕ) (body : List ℕ) → CdbRules tape c cdb room body
  pub device : (tape : Bool) (c : Changer) (body : List ℕ) → DeviceRules tape c body
  pub slots : SlotRules
  pub shelf : ShelfRules
  pub drive : DriveRules
