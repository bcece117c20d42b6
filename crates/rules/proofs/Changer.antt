-- What a SCSI request comes to, by cases, and what it leaves of the slot list; what a request of the tape leaves of the drive. Assumes nothing.
use Prim.Native.Nat.{ℕ}
use mathlib.Core.Bool.{Bool, true, false, not}
use mathlib.Core.List.{List}
use mathlib.Core.Path.{◌≡◌, refl, sym, ap, ◌∙◌}
use lib.Dec.{eqb}
use lib.ListN.{get_or}
use Rattle.std.specs.Prelude.{Err, Result, Ok}
use Rattle.xdr.specs.Choose.{choose}
use Rattle.xdr.proofs.Tests.{by_test, when, none_of, none, if_so, yes, yes_not}
use Rattle.changer_elements.specs.declared.Places.{Places}
use Rattle.changer_elements.specs.declared.Sense.{Sense}
use Rattle.changer_elements.specs.declared.Asked.{Asked}
use Rattle.changer_elements.specs.Slots.{moved, names_none_twice, in_drive}
use Rattle.changer_elements.specs.Move.{from_to, move_medium, slots_after}
use Rattle.changer_elements.specs.Status.{read_status}
use Rattle.changer_elements.proofs.Staying.{none_twice_after, drive_after}
use Rattle.wire_requests.specs.Within.{bytes_at}
use Rattle.wire_requests.specs.declared.ScsiRequest.{ScsiRequest}
use Rattle.wire_requests.specs.declared.ScsiRequest.TheVariants as ScsiRequest
use Rattle.wire_requests.specs.declared.TapeRequest.{TapeRequest}
use Rattle.wire_requests.specs.declared.TapeRequest.TheVariants as TapeRequest
use Rattle.wire_replies.specs.declared.Reply.{Reply}
use Rattle.wire_replies.specs.declared.Reply.TheVariants as Reply
use Rattle.rules_parts.specs.declared.types.Tape.{Tape}
use Rattle.rules_parts.specs.declared.types.Changer.{Changer}
use Rattle.rules_parts.specs.Parts.{closed_tape, changer_refused, changer_holds}
use Rattle.rules.specs.Judge.{Outcome, accept, judge, Accepts}
use Rattle.rules.specs.ScsiService.{scsi_open, scsi_clear, scsi_state, sense_length, checks, moves, reports, run_cdb, scsi_cdb, scsi_step, moves_medium}
use Rattle.rules.specs.TapeService.{Loaded, moved_to, tape_open, tape_close, tape_state, after_mtio, tape_mtio, tape_write, tape_read, device_step, TapePart, with_loaded, tape_step}
use Rattle.rules.specs.Relation.{drive_wrong}
use Rattle.rules.proofs.JudgeLaws.{judged_by, accepts, carried}
use Rattle.rules.proofs.Keeping.{clash}

-- ---- an execute CDB, by what it comes to
moves_to : (P : Outcome Changer → Type 0) (c : Changer) (o : Result Places Sense) → ((s : Sense) → P (checks c s))
    → ((from to : ℕ) → o ≡ from_to from to → P (accept Reply.Cdb (changer_holds (moved from to c.slots) c))) → P (moves c o)
unfolding moves
moves_to P c (Err s) f g = f s
moves_to P c (Ok p) f g = g p.from p.to refl

reports_to : (P : Outcome Changer → Type 0) (c : Changer) (o : Result Asked Sense) → ((s : Sense) → P (checks c s))
    → ((a : Asked) → o ≡ Ok a → P (accept Reply.Elements c)) → P (reports c o)
unfolding reports
reports_to P c (Err s) f g = f s
reports_to P c (Ok a) f g = g a refl

pub by_run : (P : Outcome Changer → Type 0) (tape : Bool) (c : Changer) (cdb : List ℕ) (room : ℕ)
    → P (accept Reply.Cdb c)
    → P (accept (Reply.Sense (sense_length cdb room) c.key c.code c.qualifier) (changer_refused 0 0 0 c))
    → ((s : Sense) → P (checks c s))
    → ((from to : ℕ) → eqb (get_or cdb 0 0) 0xA5 ≡ true → move_medium cdb c.slots tape ≡ from_to from to
    → P (accept Reply.Cdb (changer_holds (moved from to c.slots) c)))
    → ((a : Asked) → eqb (get_or cdb 0 0) 0xB8 ≡ true → read_status cdb room ≡ Ok a → P (accept Reply.Elements c))
    → P (run_cdb tape c cdb room)
unfolding run_cdb
by_run P tape c cdb room ready sense check move report =
    by_test P (eqb (get_or cdb 0 0) 0) _ _ (λ _. ready)
    (λ _. by_test P (eqb (get_or cdb 0 0) 3) _ _ (λ _. sense)
    (λ _. by_test P (eqb (get_or cdb 0 0) 0xA5) _ _ (λ e. moves_to P c _ check (λ from to h. move from to e h))
    (λ _. by_test P (eqb (get_or cdb 0 0) 0xB8) _ _ (λ e. reports_to P c _ check (λ a h. report a e h)) (λ _. check _))))

-- ---- what a SCSI request leaves of the slot list
-- it is the same, or that after a move
pub by_slots : (P : List ℕ → Type 0) (tape : Bool) (c : Changer) (q : ScsiRequest) (body : List ℕ) → P c.slots
    → ((cdb : List ℕ) (from to : ℕ) → moves_medium q body ≡ true → move_medium cdb c.slots tape ≡ from_to from to → P (moved from to c.slots))
    → Accepts (λ _ next. P next.slots) (scsi_step tape c q body)
unfolding scsi_step scsi_open scsi_clear scsi_state scsi_cdb checks moves_medium Accepts
by_slots P tape c (ScsiRequest.Open name) body h f = accepts (λ _ next. P next.slots) _ _ _ (λ _. h)
by_slots P tape c ScsiRequest.Close body h f = accepts (λ _ next. P next.slots) _ _ _ (λ _. h)
by_slots P tape c ScsiRequest.State body h f = accepts (λ _ next. P next.slots) _ _ _ (λ _. h)
by_slots P tape c ScsiRequest.Reset body h f = accepts (λ _ next. P next.slots) _ _ _ (λ _. h)
by_slots P tape c (ScsiRequest.Cdb cdb room) body h f =
    judged_by (λ _ next. P next.slots) _ _
    (λ _. by_run (Accepts (λ _ next. P next.slots)) tape c (bytes_at body cdb) room h h (λ _. h) (λ from to e m. f (bytes_at body cdb) from to e m) (λ _ _ _. h))

pub slots_stay : (tape : Bool) (c : Changer) (q : ScsiRequest) (body : List ℕ) → moves_medium q body ≡ false
    → Accepts (λ _ next. next.slots ≡ c.slots) (scsi_step tape c q body)
slots_stay tape c q body h = by_slots (λ l. l ≡ c.slots) tape c q body refl (λ cdb from to e m. clash (moves_medium q body) h e)

after_moved : (cdb slots : List ℕ) (tape : Bool) (from to : ℕ) → move_medium cdb slots tape ≡ from_to from to
    → slots_after slots (move_medium cdb slots tape) ≡ moved from to slots
unfolding slots_after
after_moved cdb slots tape from to m = ap (slots_after slots) m

pub stays_none_twice : (tape : Bool) (c : Changer) (q : ScsiRequest) (body : List ℕ) → names_none_twice c.slots ≡ true
    → Accepts (λ _ next. names_none_twice next.slots ≡ true) (scsi_step tape c q body)
stays_none_twice tape c q body h =
    by_slots (λ l. names_none_twice l ≡ true) tape c q body h
    (λ cdb from to e m. ap names_none_twice (sym (after_moved cdb c.slots tape from to m)) ∙ none_twice_after cdb c.slots tape h)

pub stays_in_drive : (c : Changer) (q : ScsiRequest) (body : List ℕ) → Accepts (λ _ next. in_drive next.slots ≡ in_drive c.slots) (scsi_step true c q body)
stays_in_drive c q body =
    by_slots (λ l. in_drive l ≡ in_drive c.slots) true c q body refl
    (λ cdb from to e m. ap in_drive (sym (after_moved cdb c.slots true from to m)) ∙ drive_after cdb c.slots)

-- a tape that is open has its cartridge still
module _ (t : Tape) (c : Changer) (q : ScsiRequest) (body : List ℕ) (h : drive_wrong (in_drive c.slots) t ≡ false) where
  drive_by : (b : Bool) → t.opened ≡ b → Accepts (λ _ next. drive_wrong (in_drive next.slots) t ≡ false) (scsi_step b c q body)
  unfolding drive_wrong choose
  drive_by true o =
      by_slots (λ l. drive_wrong (in_drive l) t ≡ false) true c q body h
      (λ cdb from to e m.
      let same : in_drive (moved from to c.slots) ≡ in_drive c.slots =
      ap in_drive (sym (after_moved cdb c.slots true from to m)) ∙ drive_after cdb c.slots in
      rw same h)
  drive_by false o = by_slots (λ l. drive_wrong (in_drive l) t ≡ false) false c q body h (λ cdb from to e m. rw o refl)

  pub scsi_drive : Accepts (λ _ next. drive_wrong (in_drive next.slots) t ≡ false) (scsi_step t.opened c q body)
  scsi_drive = drive_by t.opened refl

-- only a move hangs on whether the tape is open
run_blind : (a b : Bool) (c : Changer) (cdb : List ℕ) (room : ℕ) → eqb (get_or cdb 0 0) 0xA5 ≡ false → run_cdb a c cdb room ≡ run_cdb b c cdb room
unfolding run_cdb choose
run_blind a b c cdb room h = rw (run_cdb, h)

pub scsi_blind : (a b : Bool) (c : Changer) (q : ScsiRequest) (body : List ℕ) → moves_medium q body ≡ false → scsi_step a c q body ≡ scsi_step b c q body
unfolding scsi_step scsi_cdb moves_medium
scsi_blind a b c (ScsiRequest.Open name) body h = refl
scsi_blind a b c ScsiRequest.Close body h = refl
scsi_blind a b c ScsiRequest.State body h = refl
scsi_blind a b c ScsiRequest.Reset body h = refl
scsi_blind a b c (ScsiRequest.Cdb cdb room) body h = ap (judge _) (run_blind a b c (bytes_at body cdb) room h)

-- ---- the tape: it is opened only with a cartridge in the drive
module _ (drive : ℕ) (t : Tape) (h : drive_wrong drive t ≡ false) where
  Drives : Reply → Loaded → Type 0
  Drives _ s = drive_wrong drive s.tape ≡ false

  mtio_drives : (op position : ℕ) → drive_wrong drive (after_mtio op position t) ≡ false
  unfolding after_mtio drive_wrong choose
  mtio_drives op position = by_test (λ (n : Tape). drive_wrong drive n ≡ false) (eqb op 6) closed_tape (moved_to position t) (λ _. refl) (λ _. h)

  device_drives : (mover : ℕ) (l : List ℕ) (q : TapeRequest) (body : List ℕ) → Accepts Drives (device_step drive mover t l q body)
  unfolding device_step tape_open tape_close tape_state tape_mtio tape_write tape_read Drives drive_wrong choose
  device_drives mover l (TapeRequest.Open name mode) body = accepts Drives _ _ _ (λ g. g 3)
  device_drives mover l TapeRequest.Close body = accepts Drives _ _ _ (λ _. refl)
  device_drives mover l TapeRequest.State body = accepts Drives _ _ _ (λ _. h)
  device_drives mover l (TapeRequest.Mtio op times) body = accepts Drives _ _ _ (λ _. mtio_drives op _)
  device_drives mover l (TapeRequest.Write bytes) body = accepts Drives _ _ _ (λ _. h)
  device_drives mover l (TapeRequest.Read times) body = accepts Drives _ _ _ (λ _. h)

pub tape_drives : (drive : ℕ) (p : TapePart) (q : TapeRequest) (body : List ℕ) → drive_wrong drive p.tape ≡ false
    → Accepts (λ _ next. drive_wrong drive next.tape ≡ false) (tape_step drive p q body)
unfolding tape_step Drives
tape_drives drive p q body h =
    carried (λ _ next. drive_wrong drive next.tape ≡ false) (with_loaded p) _ (device_drives drive p.tape h p.mover.state p.image q body)
