-- The requests of the tape interface (paper 01, "Data and mover states" and "The cartridge"). They see the mover, the tape and the image, and of the
-- changer which cartridge is in the drive, or 0 (02 No. 7).
use Rattle.std.specs.Prelude.{ℕ, Bool, true, false, not, List, [], ◌∷◌, eqb, ltb}
use Rattle.codes.specs.Codes.{write_marks, off_line, device_opened, permission_denied, not_open, illegal_arguments, no_tape_loaded, bad_file, no_device, illegal_state}
use Rattle.xdr.specs.Choose.{choose}
use Rattle.xdr.specs.Xdr.{same_bytes}
use Rattle.tape_image.specs.Image.{is_sound}
use Rattle.tape_ops.specs.Answers.{is_refusal}
use Rattle.tape_ops.specs.Operations.{write_step, read_part, mtio_step, standing_at}
use Rattle.wire_requests.specs.Within.{bytes_at}
use Rattle.wire_requests.specs.declared.TapeRequest.{TapeRequest}
use Rattle.wire_requests.specs.declared.TapeRequest.TheVariants.{Open, Close, State, Mtio, Write, Read}
use Rattle.wire_requests.specs.declared.MoverRequest.{MoverRequest}
use Rattle.wire_replies.specs.declared.Reply.TheVariants as Reply
use Rattle.rules_parts.specs.declared.types.Mover.{Mover}
use Rattle.rules_parts.specs.declared.types.Tape.{Tape}
use Rattle.rules_parts.specs.Names.{read_write}
use Rattle.rules.specs.Judge.{Test, test, Outcome, accept, judge, onto}
use Rattle.rules_parts.specs.Parts.{closed_tape, holds_tape}
use Rattle.rules.specs.MoverService.{mover_step}

-- a tape and the cartridge in it
pub record Loaded : Type 0 where
  pub tape : Tape
  pub image : List ℕ

abbrev pub loaded : Tape → List ℕ → Loaded
loaded t l = record { tape = t; image = l }

-- the tape at another position
abbrev pub moved_to : ℕ → Tape → Tape
moved_to p t = record { opened = t.opened; writable = t.writable; position = p }

-- the device's name, `tape0`
unfoldable pub tape0 : List ℕ
tape0 = 0x74 ∷ 0x61 ∷ 0x70 ∷ 0x65 ∷ 0x30 ∷ []

-- "Tape open: mode 0 reads, 1 also writes, else 9; position 0." "16, 3: name other than `tape0`; that same device already open"; "image
-- unsound: 15 at tape open"; 02 No. 7: "10 (no tape loaded) at tape open, after 3"
unfoldable pub tape_open : ℕ → Tape → List ℕ → Bool → ℕ → Outcome Loaded
tape_open drive t l named mode =
    judge
    (test (ltb read_write mode) illegal_arguments ∷ test (not named) no_device ∷ test t.opened device_opened ∷ test (eqb drive 0) no_tape_loaded ∷ test (not (is_sound l)) bad_file ∷ [])
    (accept Reply.Plain (loaded (record { opened = true; writable = eqb mode read_write; position = 0 }) l))

-- "6: SCSI or TAPE request but open, its device not open"; "TAPE requests but get state and open: 19 while the mover is in LISTEN or ACTIVE";
-- "5: tape open read-only: write, MTIO 5"; and the cartridge's own number, unless it is an outcome
abbrev pub tape_tests : Tape → ℕ → Bool → ℕ → List Test
tape_tests t mover protected error =
    test (not t.opened) not_open ∷ test (holds_tape mover) illegal_state ∷ test protected permission_denied ∷ test (is_refusal error) error ∷ []

unfoldable pub tape_close : ℕ → Tape → List ℕ → Outcome Loaded
tape_close mover t l =
    judge (test (not t.opened) not_open ∷ test (holds_tape mover) illegal_state ∷ []) (accept Reply.Plain (loaded closed_tape l))

unfoldable pub tape_state : Tape → List ℕ → Outcome Loaded
tape_state t l =
    let s = standing_at l t.position in
    judge (test (not t.opened) not_open ∷ test (is_refusal s.error) s.error ∷ []) (accept (Reply.TapeState s.file s.block) (loaded t l))

-- MTIO, write and read: judged, and then what the cartridge gives. Marks are not written to a tape that is open read-only.
unfoldable pub protects : ℕ → Bool → Bool
protects op writable = choose (eqb op write_marks) (not writable) false

-- 02 No. 7: "MTIO 6, which rewinds and closes the tape device"; the others leave it open, at their position
unfoldable pub after_mtio : ℕ → ℕ → Tape → Tape
after_mtio op position t = choose (eqb op off_line) closed_tape (moved_to position t)

unfoldable pub tape_mtio : ℕ → Tape → List ℕ → ℕ → ℕ → Outcome Loaded
tape_mtio mover t l op times =
    let s = mtio_step l op t.position times in
    judge (tape_tests t mover (protects op t.writable) s.gives.error)
    (accept (Reply.Mtio s.gives.error s.gives.residue) (loaded (after_mtio op s.gives.position t) s.image))

unfoldable pub tape_write : ℕ → Tape → List ℕ → List ℕ → Outcome Loaded
tape_write mover t l bytes =
    let s = write_step l t.position bytes in
    judge (tape_tests t mover (not t.writable) s.gives.error)
    (accept (Reply.Wrote s.gives.error s.gives.count) (loaded (moved_to s.gives.position t) s.image))

unfoldable pub tape_read : ℕ → Tape → List ℕ → ℕ → Outcome Loaded
tape_read mover t l times =
    let r = read_part l t.position times in
    judge (tape_tests t mover false r.error) (accept (Reply.Read r.error r.start r.len) (loaded (moved_to r.position t) l))

-- the requests of the tape interface
unfoldable pub device_step : ℕ → ℕ → Tape → List ℕ → TapeRequest → List ℕ → Outcome Loaded
device_step drive mover t l (Open name mode) body = tape_open drive t l (same_bytes (bytes_at body name) tape0) mode
device_step drive mover t l Close body = tape_close mover t l
device_step drive mover t l State body = tape_state t l
device_step drive mover t l (Mtio op times) body = tape_mtio mover t l op times
device_step drive mover t l (Write bytes) body = tape_write mover t l (bytes_at body bytes)
device_step drive mover t l (Read times) body = tape_read mover t l times

-- ---- the service "TAPE and MOVER": its part of the session, and its step for either interface
pub record TapePart : Type 0 where
  pub mover : Mover
  pub tape : Tape
  pub image : List ℕ

abbrev pub with_loaded : TapePart → Loaded → TapePart
with_loaded p s = record { mover = p.mover; tape = s.tape; image = s.image }

abbrev pub with_mover : TapePart → Mover → TapePart
with_mover p m = record { mover = m; tape = p.tape; image = p.image }

unfoldable pub tape_step : ℕ → TapePart → TapeRequest → List ℕ → Outcome TapePart
tape_step drive p q body = onto (with_loaded p) (device_step drive p.mover.state p.tape p.image q body)

unfoldable pub mover_part_step : TapePart → MoverRequest → List ℕ → Outcome TapePart
mover_part_step p q list = onto (with_mover p) (mover_step p.mover p.tape q list)
