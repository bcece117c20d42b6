-- 02 No. 7, of calls: what changes the slot list, what MOVE MEDIUM and READ ELEMENT STATUS are told, and tape open
-- with an empty drive. It is said by the session's fields and by the bytes that are sent, and not by the definitions
-- of a call, so that these are held against it.
use Rattle.std.specs.Prelude.{ℕ, ◌+◌, ◌%◌, ◌^◌, ◌≤◌, ◌<◌, true, false, List, [], ◌∷◌, ◌++◌, ◌≡◌, eqb, length, get_or, Err}
use Rattle.codes.specs.Codes.{no_tape_loaded, off_line}
use Rattle.xdr.specs.Xdr.{be32}
use Rattle.xdr_opaque.specs.Put.{opaque}
use Rattle.changer_elements.specs.declared.Sense.{Sense}
use Rattle.changer_elements.specs.Elements.{places, place_of, cdb_bytes}
use Rattle.changer_elements.specs.Slots.{moved, names_none_twice, in_drive, times}
use Rattle.changer_elements.specs.Move.{source_field, destination_field, move_medium}
use Rattle.changer_elements.specs.MovesHold.{Movable, InOnePlace}
use Rattle.changer_elements.specs.Status.{asked_by, status_data}
use Rattle.tape_image.specs.Image.{is_sound, count}
use Rattle.wire_layouts.specs.declared.Text.{Text}
use Rattle.wire_frame.specs.Frame.{message_word, body_of}
use Rattle.wire_requests.specs.Within.{bytes_at}
use Rattle.wire_requests.specs.declared.ScsiRequest.{ScsiRequest}
use Rattle.wire_requests.specs.declared.ScsiRequest.TheVariants as ScsiRequest
use Rattle.wire_requests.specs.declared.TapeRequest.TheVariants as TapeRequest
use Rattle.wire_requests.specs.declared.Request.{Request}
use Rattle.wire_requests.specs.declared.Request.TheVariants as Request
use Rattle.wire_replies.specs.Numbers.{body_in}
use Rattle.rules_parts.specs.declared.types.Changer.{Changer}
use Rattle.rules_parts.specs.declared.types.Session.{Session}
use Rattle.rules_parts.specs.Names.{longest_cdb, read_write, mover_listening, mover_active}
use Rattle.rules.specs.Changer.{changer_of, tape_name}
use Rattle.rules.specs.Answer.{Kept, Lent, Answered, answered, request_in}
use Rattle.rules.specs.Order.{Call, run}
use Rattle.rules.specs.Calls.{Heard}

-- a client that is logged in, with the changer open
pub record MayWork (s : Session) : Type 0 where
  pub known : s.login.authorized ≡ true
  pub opened : s.changer.opened ≡ true

-- the slot list after a move that a CDB asks for
abbrev pub moved_by : List ℕ → List ℕ → List ℕ
moved_by cdb slots = moved (place_of (source_field cdb)) (place_of (destination_field cdb)) slots

-- the slot list after a request: as it was, or with a cartridge moved by a MOVE MEDIUM that none of its refusals meets
pub data Shelved (k : Kept) (q : Request) (body : List ℕ) (slots : List ℕ) : Type 0 where
  unshelved : slots ≡ k.session.changer.slots → Shelved k q body slots
  shifted : (cdb : Text) (room : ℕ) → q ≡ Request.Scsi (ScsiRequest.Cdb cdb room) → MayWork k.session
      → get_or (bytes_at body cdb) 0 0 ≡ 0xA5
      → Movable (bytes_at body cdb) k.session.changer.slots k.session.tape.opened
      → slots ≡ moved_by (bytes_at body cdb) k.session.changer.slots → Shelved k q body slots

-- an execute CDB of a client that may work the changer, whose CDB is of at most 16 bytes and begins with an opcode
pub record Asked (k : Kept) (l : Lent) (r : List ℕ) (cdb : Text) (room opcode : ℕ) : Type 0 where
  pub heard : Heard k l r
  pub request : request_in r ≡ Request.Scsi (ScsiRequest.Cdb cdb room)
  pub may : MayWork k.session
  pub some : 1 ≤ length (bytes_at (body_of r) cdb)
  pub most : length (bytes_at (body_of r) cdb) ≤ longest_cdb
  pub first : get_or (bytes_at (body_of r) cdb) 0 0 ≡ opcode

-- the changer of an open session with a sense pending and a slot list
abbrev pub changer_as : Kept → List ℕ → Changer
changer_as k slots =
    changer_of true k.session.changer.key k.session.changer.code k.session.changer.qualifier slots

-- the bytes of sense data with a key, a code and a qualifier
abbrev pub sense_bytes : ℕ → ℕ → ℕ → List ℕ
sense_bytes key code qualifier =
    112 ∷ 0 ∷ key ∷ 0 ∷ 0 ∷ 0 ∷ 0 ∷ 10 ∷ 0 ∷ 0 ∷ 0 ∷ 0 ∷ code ∷ qualifier ∷ 0 ∷ 0 ∷ 0 ∷ 0 ∷ []

-- the body of a reply of execute CDB: error 0, status, no data out, data in, extended sense
abbrev pub cdb_reply : ℕ → List ℕ → List ℕ → List ℕ
cdb_reply status bytes sense = be32 0 ++ (be32 status ++ (be32 0 ++ (opaque bytes ++ opaque sense)))

pub record MoveAsked (k : Kept) (l : Lent) (r : List ℕ) (cdb : Text) : Type 0 where
  -- "Both keep the pending sense when they succeed": status 0, and of the changer only the slots change
  pub done : Movable (bytes_at (body_of r) cdb) k.session.changer.slots k.session.tape.opened
      → ((answered k l r).next.session.changer
      ≡ changer_as k (moved_by (bytes_at (body_of r) cdb) k.session.changer.slots))
      × (body_in (answered k l r).reply ≡ cdb_reply 0 [] [])
  -- "status 2 with sense": it is told and becomes pending, and the slots stay
  pub refused : (s : Sense)
      → move_medium (bytes_at (body_of r) cdb) k.session.changer.slots k.session.tape.opened ≡ Err s
      → ((answered k l r).next.session.changer
      ≡ changer_of true s.key s.code s.qualifier k.session.changer.slots)
      × (body_in (answered k l r).reply ≡ cdb_reply 2 [] (sense_bytes s.key s.code s.qualifier))

pub record StatusAsked (k : Kept) (l : Lent) (r : List ℕ) (cdb : Text) (room : ℕ) : Type 0 where
  pub done : cdb_bytes ≤ length (bytes_at (body_of r) cdb)
      → ((answered k l r).next.session.changer ≡ k.session.changer)
      × (body_in (answered k l r).reply
      ≡ cdb_reply 0 (status_data (asked_by (bytes_at (body_of r) cdb) room) k.session.changer.slots) [])
  -- "05h/24h/00h for a CDB under 12 bytes"
  pub short : length (bytes_at (body_of r) cdb) < cdb_bytes
      → ((answered k l r).next.session.changer ≡ changer_of true 0x05 0x24 0x00 k.session.changer.slots)
      × (body_in (answered k l r).reply ≡ cdb_reply 2 [] (sense_bytes 0x05 0x24 0x00))

-- the body of tape open: the name as a string with its fill, and the mode
abbrev pub open_body : ℕ → List ℕ
open_body mode = be32 5 ++ (tape_name ++ (0 ∷ 0 ∷ 0 ∷ be32 mode))

-- "from one that names none twice .., passed on from call to call, each cartridge is in exactly one slot or in the
-- drive"
pub record RunsShelve (k : Kept) (cs : List Call) : Type 0 where
  -- none is lost, and none doubled
  pub same_times : length k.session.changer.slots ≡ places → (v : ℕ) → (v ≡ 0 → ⊥)
      → times v (run k cs).last.session.changer.slots ≡ times v k.session.changer.slots
  pub in_one : length k.session.changer.slots ≡ places → names_none_twice k.session.changer.slots ≡ true
      → (v : ℕ) → (v ≡ 0 → ⊥)
      → (i : ℕ) → get_or k.session.changer.slots i 0 ≡ v → InOnePlace v (run k cs).last.session.changer.slots

-- a is k after one message more, with the "first request" mark gone, and with nothing else changed but the changer:
-- no cartridge's bytes, no pair of the store and no other part; and nothing is sent behind the reply
pub record ChangerAlone (k : Kept) (a : Answered) : Type 0 where
  pub closed : a.next.session.closed ≡ k.session.closed
  pub login : a.next.session.login ≡ k.session.login
  pub source : a.next.session.source ≡ k.session.source
  pub mover : a.next.session.mover ≡ k.session.mover
  pub tape : a.next.session.tape ≡ k.session.tape
  pub image : a.next.image ≡ k.image
  pub variables : a.next.variables ≡ k.variables
  pub counter : a.next.session.sequence ≡ (k.session.sequence + 1) % 2 ^ 32
  pub mark : a.next.session.first ≡ false
  pub notices : a.notices ≡ []

-- "MTIO 6, which rewinds and closes the tape device, residue 0": of the whole call. The cartridge's bytes stay, and it
-- stays in the drive
pub record OffTape (k : Kept) (a : Answered) : Type 0 where
  pub body : body_in a.reply ≡ be32 0 ++ be32 0
  pub notices : a.notices ≡ []
  pub tape : a.next.session.tape ≡ record { opened = false; writable = false; position = 0 }
  pub login : a.next.session.login ≡ k.session.login
  pub source : a.next.session.source ≡ k.session.source
  pub mover : a.next.session.mover ≡ k.session.mover
  pub changer : a.next.session.changer ≡ k.session.changer
  pub image : a.next.image ≡ k.image
  pub variables : a.next.variables ≡ k.variables

pub record ShelvingHolds : Type 0 where
  -- a request of SCSI, accepted or refused, changes no part but the changer: also MOVE MEDIUM, which "joins the
  -- set-aside requests of demand 3", so that the order theorem does not say it
  pub alone : (k : Kept) (l : Lent) (r : List ℕ) (q : ScsiRequest) → Heard k l r → request_in r ≡ Request.Scsi q
      → ChangerAlone k (answered k l r)
  -- no request but an accepted MOVE MEDIUM changes the slot list
  pub shelved : (k : Kept) (l : Lent) (r : List ℕ)
      → Shelved k (request_in r) (body_of r) (answered k l r).next.session.changer.slots
  -- while the tape is open the drive has its cartridge: "The host lends the image that the session names as being in
  -- the drive"
  pub in_drive_lem : (k : Kept) (l : Lent) (r : List ℕ) → k.session.tape.opened ≡ true
      → in_drive (answered k l r).next.session.changer.slots ≡ in_drive k.session.changer.slots
  pub runs : (k : Kept) (cs : List Call) → RunsShelve k cs
  -- and it does; it is told so, or why not
  pub shelves : (k : Kept) (l : Lent) (r : List ℕ) (cdb : Text) (room : ℕ) → Asked k l r cdb room 0xA5
      → MoveAsked k l r cdb
  pub status : (k : Kept) (l : Lent) (r : List ℕ) (cdb : Text) (room : ℕ) → Asked k l r cdb room 0xB8
      → StatusAsked k l r cdb room
  -- "10 (no tape loaded) at tape open", by its bytes; an empty drive has no tape that is open
  pub empty : (k : Kept) (l : Lent) (r : List ℕ) (mode : ℕ) → Heard k l r → message_word r ≡ 0x300 → mode ≤ read_write
      → body_of r ≡ open_body mode
      → k.session.login.authorized ≡ true → in_drive k.session.changer.slots ≡ 0
      → body_in (answered k l r).reply ≡ be32 no_tape_loaded
  -- with a cartridge in it the tape opens, at its start
  pub loaded : (k : Kept) (l : Lent) (r : List ℕ) (mode : ℕ) → Heard k l r → message_word r ≡ 0x300 → mode ≤ read_write
      → body_of r ≡ open_body mode
      → k.session.login.authorized ≡ true → (in_drive k.session.changer.slots ≡ 0 → ⊥)
      → k.session.tape.opened ≡ false → is_sound k.image ≡ true
      → (body_in (answered k l r).reply ≡ be32 0)
      × ((answered k l r).next.session.tape ≡ record { opened = true; writable = eqb mode read_write; position = 0 })
  -- of a tape that is open, for reading only too, whatever the count
  pub off : (k : Kept) (l : Lent) (r : List ℕ) (often : ℕ) → Heard k l r
      → request_in r ≡ Request.Tape (TapeRequest.Mtio off_line often)
      → k.session.login.authorized ≡ true → k.session.tape.opened ≡ true
      → (k.session.mover.state ≡ mover_listening → ⊥) → (k.session.mover.state ≡ mover_active → ⊥)
      → is_sound k.image ≡ true → k.session.tape.position ≤ count k.image
      → OffTape k (answered k l r)
