-- The rules of the changer, of tape open and of MTIO 6 (02 No. 7), each by its list of tests. Assumes nothing.
use Prim.Native.Nat.{ℕ, ◌≤◌, ◌<◌}
use mathlib.Core.Bool.{Bool, true, false, not}
use mathlib.Core.List.{List, [], ◌∷◌}
use mathlib.Core.Path.{◌≡◌, refl, sym, ap, ◌∙◌}
use native.Mathlib.Omega.{arith}
use lib.Dec.{eqb, ltb}
use lib.ListN.{length, get_or}
use Rattle.std.specs.Prelude.{Err, Ok}
use Rattle.xdr.specs.Choose.{choose, least}
use Rattle.xdr.specs.Xdr.{same_bytes}
use Rattle.xdr.proofs.Tests.{no, no_not, yes_not, eqb_yes, eqb_no, ltb_yes, ltb_no, isnt, by_test}
use Rattle.xdr.proofs.Comparing.{same_is, is_same}
use Rattle.tape_image.specs.Image.{is_sound, count, faulty}
use Rattle.tape_ops.specs.Operations.{mtio_step}
use Rattle.changer_elements.specs.declared.Sense.{Sense}
use Rattle.changer_elements.specs.declared.Asked.{Asked}
use Rattle.changer_elements.specs.Slots.{moved, names_none_twice, in_drive}
use Rattle.changer_elements.specs.Move.{from_to, move_medium}
use Rattle.changer_elements.specs.Status.{asked_by, read_status, status_data}
use Rattle.wire_layouts.specs.declared.Text.{Text}
use Rattle.wire_requests.specs.Within.{bytes_at}
use Rattle.wire_requests.specs.declared.ScsiRequest.{ScsiRequest}
use Rattle.wire_requests.specs.declared.ScsiRequest.TheVariants as ScsiRequest
use Rattle.wire_requests.specs.declared.TapeRequest.{TapeRequest}
use Rattle.wire_requests.specs.declared.TapeRequest.TheVariants as TapeRequest
use Rattle.wire_replies.specs.declared.Reply.TheVariants as Reply
use Rattle.rules_parts.specs.declared.types.Tape.{Tape}
use Rattle.rules_parts.specs.declared.types.Changer.{Changer}
use Rattle.rules_parts.specs.declared.types.Session.{Session}
use Rattle.rules_parts.specs.Parts.{closed_tape, holds_tape, data_partnered, mover_partnered, with_parts}
use Rattle.rules.specs.Judge.{Outcome, refuse, accept, judge, onto, Accepts}
use Rattle.rules.specs.ScsiService.{changer0, scsi_open, scsi_clear, scsi_state, sense_length, checks, moves, reports, run_cdb, scsi_cdb, scsi_step, status_shown, cdb_shown, scsi_shown, moves_medium}
use Rattle.tape_ops.specs.Answers.{is_refusal}
use Rattle.rules.specs.TapeService.{Loaded, tape0, tape_open, tape_close, tape_state, protects, moved_to, after_mtio, tape_mtio, tape_write, tape_read, device_step, TapePart, with_loaded, tape_step}
use Rattle.rules.specs.Relation.{data_wrong, mover_wrong, drive_wrong, slots_wrong, same_flag, keeps}
use Rattle.rules.specs.Changer.{changer_name, tape_name, changer_of, checked, Opcode, CdbRules, DeviceRules, IsMove, SlotRules, ShelfRules, part_of, OpenRules, Free, Holding, listens, runs, OffRules, DriveRules, ChangerRules}
use Rattle.rules.proofs.JudgeLaws.{accepts, carried, accepts_map}
use Rattle.rules.proofs.Changer.{slots_stay, scsi_blind, stays_none_twice, stays_in_drive, tape_drives}
use Rattle.rules.proofs.Keeping.{clash}

-- ---- an execute CDB
module _ (tape : Bool) (c : Changer) (cdb : Text) (room : ℕ) (body : List ℕ) where
  abbrev bytes : List ℕ
  bytes = bytes_at body cdb

  abbrev step : Outcome Changer
  step = scsi_step tape c (ScsiRequest.Cdb cdb room) body

  -- no test applies
  run_is : {code : ℕ} → Opcode c bytes code → step ≡ run_cdb tape c bytes room
  unfolding scsi_step scsi_cdb judge choose
  run_is o =
      let s : length bytes ≡ 0 → ⊥ = λ z. (let n = o.some in omega arith) in
      rw (o.opened, eqb_no s, ltb_no o.most)

  unmoved : Opcode c bytes 0xA5 → (s : Sense) → move_medium bytes c.slots tape ≡ Err s
      → step ≡ checked c s
  unfolding run_cdb moves checks choose
  unmoved o s h = run_is o ∙ rw (run_cdb, o.first, h, checks, o.opened)

  moving : Opcode c bytes 0xA5 → (from to : ℕ) → move_medium bytes c.slots tape ≡ from_to from to
      → step ≡ accept Reply.Cdb (changer_of true c.key c.code c.qualifier (moved from to c.slots))
  unfolding run_cdb moves choose
  moving o from to h = run_is o ∙ rw (run_cdb, o.first, h, o.opened)

  reporting : Opcode c bytes 0xB8 → (a : Asked) → read_status bytes room ≡ Ok a
      → step ≡ accept Reply.Elements (changer_of true c.key c.code c.qualifier c.slots)
  unfolding run_cdb reports choose
  reporting o a h = run_is o ∙ rw (run_cdb, o.first, h, ← o.opened)

  unreported : Opcode c bytes 0xB8 → (s : Sense) → read_status bytes room ≡ Err s → step ≡ checked c s
  unfolding run_cdb reports checks choose
  unreported o s h = run_is o ∙ rw (run_cdb, o.first, h, checks, o.opened)

  showing : Opcode c bytes 0xB8 → 12 ≤ length bytes
      → scsi_shown (ScsiRequest.Cdb cdb room) body c.slots ≡ status_data (asked_by bytes room) c.slots
  unfolding scsi_shown cdb_shown status_shown read_status choose
  showing o h = rw (cdb_shown, o.first, read_status, ltb_no h)

  ready : Opcode c bytes 0 → step ≡ accept Reply.Cdb (changer_of true c.key c.code c.qualifier c.slots)
  unfolding run_cdb choose
  ready o = run_is o ∙ rw (run_cdb, o.first, ← o.opened)

  sensed : Opcode c bytes 3
      → step
      ≡ accept (Reply.Sense (least (least (get_or bytes 4 0) room) 18) c.key c.code c.qualifier) (changer_of true 0 0 0 c.slots)
  unfolding run_cdb sense_length choose
  sensed o = run_is o ∙ rw (run_cdb, o.first, o.opened)

  other : (code : ℕ) → Opcode c bytes code → (code ≡ 0 → ⊥) → (code ≡ 3 → ⊥) → (code ≡ 0xA5 → ⊥) → (code ≡ 0xB8 → ⊥)
      → step ≡ checked c (record { key = 5; code = 0x20; qualifier = 0 })
  unfolding run_cdb checks choose
  other code o w x y z = run_is o ∙ rw (run_cdb, o.first, eqb_no w, eqb_no x, eqb_no y, eqb_no z, checks, o.opened)

  shut_off : c.opened ≡ false → step ≡ refuse 6
  unfolding scsi_step scsi_cdb judge choose
  shut_off h = rw h

  no_bytes : c.opened ≡ true → length bytes ≡ 0 → step ≡ refuse 9
  unfolding scsi_step scsi_cdb judge choose
  no_bytes h e = rw (h, eqb_yes e)

  too_long : c.opened ≡ true → 16 < length bytes → step ≡ refuse 9
  unfolding scsi_step scsi_cdb judge choose
  too_long h l =
      let s : length bytes ≡ 0 → ⊥ = λ z. omega arith in
      rw (h, eqb_no s, ltb_yes l)

  pub cdb_rules : CdbRules tape c cdb room body
  cdb_rules =
      record {
        moves = moving;
        unmoved = unmoved;
        reports = reporting;
        shown = showing;
        unreported = unreported;
        ready = ready;
        sensed = sensed;
        others = other;
        closed = shut_off;
        none = no_bytes;
        long = too_long;
      }

-- ---- open, close, reset and state
named : (l : List ℕ) → l ≡ changer_name → same_bytes l changer0 ≡ true
unfolding changer0
named l e = rw e (is_same changer_name)

unnamed : (l : List ℕ) → (l ≡ changer_name → ⊥) → same_bytes l changer0 ≡ false
unfolding changer0
unnamed l n = sym (no (same_bytes l changer0) (λ e. n (same_is l changer0 e)))

module _ (tape : Bool) (c : Changer) (body : List ℕ) where
  opens : (name : Text) → bytes_at body name ≡ changer_name → c.opened ≡ false
      → scsi_step tape c (ScsiRequest.Open name) body ≡ accept Reply.Plain (changer_of true 0 0 0 c.slots)
  unfolding scsi_step scsi_open judge choose
  opens name n h = rw (named (bytes_at body name) n, h)

  closes : c.opened ≡ true
      → scsi_step tape c ScsiRequest.Close body ≡ accept Reply.Plain (changer_of false 0 0 0 c.slots)
  unfolding scsi_step scsi_clear judge choose
  closes h = rw h

  resets : c.opened ≡ true
      → scsi_step tape c ScsiRequest.Reset body ≡ accept Reply.Plain (changer_of true 0 0 0 c.slots)
  unfolding scsi_step scsi_clear judge choose
  resets h = rw h

  other_name : (name : Text) → (bytes_at body name ≡ changer_name → ⊥)
      → scsi_step tape c (ScsiRequest.Open name) body ≡ refuse 16
  unfolding scsi_step scsi_open judge choose
  other_name name n = rw (unnamed (bytes_at body name) n)

  open_already : (name : Text) → bytes_at body name ≡ changer_name → c.opened ≡ true
      → scsi_step tape c (ScsiRequest.Open name) body ≡ refuse 3
  unfolding scsi_step scsi_open judge choose
  open_already name n h = rw (named (bytes_at body name) n, h)

  unopened : c.opened ≡ false
      → (scsi_step tape c ScsiRequest.Close body ≡ refuse 6)
      × ((scsi_step tape c ScsiRequest.Reset body ≡ refuse 6) × (scsi_step tape c ScsiRequest.State body ≡ refuse 6))
  unfolding scsi_step scsi_clear scsi_state judge choose
  unopened h = (rw h, (rw h, rw h))

  state_told : c.opened ≡ true → scsi_step tape c ScsiRequest.State body ≡ accept Reply.ScsiState c
  unfolding scsi_step scsi_state judge choose
  state_told h = rw h

  pub device_rules : DeviceRules tape c body
  device_rules =
      record {
        opens = opens;
        closes = closes;
        resets = resets;
        name_wrong = other_name;
        again = open_already;
        closed = unopened;
        state = state_told;
      }

-- ---- what is no MOVE MEDIUM
not_moves : (q : ScsiRequest) (body : List ℕ) → (IsMove q body → ⊥) → moves_medium q body ≡ false
unfolding moves_medium
not_moves (ScsiRequest.Open name) body n = refl
not_moves ScsiRequest.Close body n = refl
not_moves ScsiRequest.State body n = refl
not_moves ScsiRequest.Reset body n = refl
not_moves (ScsiRequest.Cdb cdb room) body n = eqb_no (λ e. n (record { cdb = cdb; room = room; request = refl; opcode = e }))

-- ---- the relation
twice : (s : Session) → names_none_twice s.changer.slots ≡ false → keeps s ≡ false
unfolding keeps slots_wrong
twice s h =
    by_test (λ (b : Bool). b ≡ false) (data_wrong s.source) _ _ (λ _. refl)
    (λ _. by_test (λ (b : Bool). b ≡ false) (mover_wrong s.mover s.tape) _ _ (λ _. refl)
    (λ _. by_test (λ (b : Bool). b ≡ false) (slots_wrong s.changer.slots s.tape) _ _ (λ _. refl)
    (λ e. clash _ e (by_test (λ (b : Bool). b ≡ true) (drive_wrong (in_drive s.changer.slots) s.tape) _ _ (λ _. refl) (λ _. no_not h)))))

pub unloaded : (s : Session) → s.tape.opened ≡ true → in_drive s.changer.slots ≡ 0 → keeps s ≡ false
unfolding keeps slots_wrong drive_wrong choose
unloaded s o d =
    by_test (λ (b : Bool). b ≡ false) (data_wrong s.source) _ _ (λ _. refl)
    (λ _. by_test (λ (b : Bool). b ≡ false) (mover_wrong s.mover s.tape) _ _ (λ _. refl)
    (λ _. rw (slots_wrong, drive_wrong, o, eqb_yes d)))

-- a list with which nothing is wrong
drive_right : (drive : ℕ) (t : Tape) → (t.opened ≡ true → drive ≡ 0 → ⊥) → drive_wrong drive t ≡ false
unfolding drive_wrong
drive_right drive t n =
    by_test (λ (b : Bool). b ≡ false) t.opened _ _ (λ o. eqb_no (n o)) (λ _. refl)

drive_some : (drive : ℕ) (t : Tape) → drive_wrong drive t ≡ false → t.opened ≡ true → drive ≡ 0 → ⊥
unfolding drive_wrong choose
drive_some drive t h o d = clash (drive_wrong drive t) h (rw (drive_wrong, o, eqb_yes d))

slots_right : (slots : List ℕ) (t : Tape) → names_none_twice slots ≡ true → (t.opened ≡ true → in_drive slots ≡ 0 → ⊥)
    → slots_wrong slots t ≡ false
unfolding slots_wrong choose
slots_right slots t h n = rw (slots_wrong, drive_right (in_drive slots) t n, h)

only_so : (s : Session) (c : Changer)
    → names_none_twice s.changer.slots ≡ true → (s.tape.opened ≡ true → in_drive s.changer.slots ≡ 0 → ⊥)
    → names_none_twice c.slots ≡ true → (s.tape.opened ≡ true → in_drive c.slots ≡ 0 → ⊥)
    → keeps s ≡ keeps (with_parts s s.login s.source s.mover s.tape c)
unfolding keeps
only_so s c h n k m = rw (keeps, slots_right s.changer.slots s.tape h n, slots_right c.slots s.tape k m)

-- ---- tape open
tape_named : (l : List ℕ) → l ≡ tape_name → same_bytes l tape0 ≡ true
unfolding tape0
tape_named l e = rw e (is_same tape_name)

tape_unnamed : (l : List ℕ) → (l ≡ tape_name → ⊥) → same_bytes l tape0 ≡ false
unfolding tape0
tape_unnamed l n = sym (no (same_bytes l tape0) (λ e. n (same_is l tape0 e)))

module _ (drive : ℕ) (p : TapePart) (name : Text) (mode : ℕ) (body : List ℕ) where
  abbrev opening : Outcome TapePart
  opening = tape_step drive p (TapeRequest.Open name mode) body

  mode_wrong : 1 < mode → opening ≡ refuse 9
  unfolding tape_step device_step tape_open judge onto choose
  mode_wrong h = rw (ltb_yes h)

  name_wrong : mode ≤ 1 → (bytes_at body name ≡ tape_name → ⊥) → opening ≡ refuse 16
  unfolding tape_step device_step tape_open judge onto choose
  name_wrong h n = rw (ltb_no h, tape_unnamed (bytes_at body name) n)

  again : mode ≤ 1 → bytes_at body name ≡ tape_name → p.tape.opened ≡ true → opening ≡ refuse 3
  unfolding tape_step device_step tape_open judge onto choose
  again h n o = rw (ltb_no h, tape_named (bytes_at body name) n, o)

  empty : mode ≤ 1 → bytes_at body name ≡ tape_name → p.tape.opened ≡ false → drive ≡ 0 → opening ≡ refuse 10
  unfolding tape_step device_step tape_open judge onto choose
  empty h n o d = rw (ltb_no h, tape_named (bytes_at body name) n, o, eqb_yes d)

  unsound : mode ≤ 1 → bytes_at body name ≡ tape_name → p.tape.opened ≡ false → (drive ≡ 0 → ⊥)
      → is_sound p.image ≡ false → opening ≡ refuse 15
  unfolding tape_step device_step tape_open judge onto choose
  unsound h n o d s = rw (ltb_no h, tape_named (bytes_at body name) n, o, eqb_no d, s)

  opened : mode ≤ 1 → bytes_at body name ≡ tape_name → p.tape.opened ≡ false → (drive ≡ 0 → ⊥)
      → is_sound p.image ≡ true
      → opening ≡ accept Reply.Plain (part_of p.mover true (eqb mode 1) 0 p.image)
  unfolding tape_step device_step tape_open judge onto choose
  opened h n o d s = rw (ltb_no h, tape_named (bytes_at body name) n, o, eqb_no d, s)

  pub open_rules : OpenRules drive p name mode body
  open_rules = record { mode_wrong = mode_wrong; name_wrong = name_wrong; again = again; empty = empty; unsound = unsound; opens = opened }

-- ---- MTIO 6
free : (state : ℕ) → (state ≡ 1 → ⊥) → (state ≡ 2 → ⊥) → holds_tape state ≡ false
unfolding holds_tape choose
free state a b = rw (holds_tape, eqb_no a, eqb_no b)

module _ (l : List ℕ) (p times : ℕ) where
  off_faulty : faulty l p ≡ true
      → mtio_step l 6 p times ≡ record { gives = record { error = 7; position = p; residue = 0 }; image = l }
  unfolding mtio_step choose
  off_faulty h = rw (mtio_step, h)

  off_rewinds : faulty l p ≡ false
      → mtio_step l 6 p times ≡ record { gives = record { error = 0; position = 0; residue = 0 }; image = l }
  unfolding mtio_step choose
  off_rewinds h = rw (mtio_step, h)

  fault_unsound : is_sound l ≡ false → faulty l p ≡ true
  unfolding faulty choose
  fault_unsound h = rw (faulty, h)

  fault_beyond : count l < p → faulty l p ≡ true
  unfolding faulty
  fault_beyond h = by_test (λ (b : Bool). b ≡ true) (is_sound l) _ _ (λ _. ltb_yes h) (λ _. refl)

  no_fault : is_sound l ≡ true → p ≤ count l → faulty l p ≡ false
  unfolding faulty choose
  no_fault h k = rw (faulty, h, ltb_no k)

module _ (drive : ℕ) (p : TapePart) (times : ℕ) (body : List ℕ) where
  abbrev offs : Outcome TapePart
  offs = tape_step drive p (TapeRequest.Mtio 6 times) body

  off_closed : p.tape.opened ≡ false → offs ≡ refuse 6
  unfolding tape_step device_step tape_mtio judge onto choose
  off_closed h = rw h

  off_held : p.tape.opened ≡ true → Holding p.mover → offs ≡ refuse 19
  unfolding tape_step device_step tape_mtio holds_tape judge onto choose
  off_held h (listens e) = rw (h, e)
  off_held h (runs e) = rw (h, e)

  off_fault : Free p → faulty p.image p.tape.position ≡ true → offs ≡ refuse 7
  unfolding tape_step device_step tape_mtio protects is_refusal judge onto choose
  off_fault f h = rw (f.opened, free p.mover.state f.not_listening f.not_active, off_faulty p.image p.tape.position times h)

  off_done : Free p → is_sound p.image ≡ true → p.tape.position ≤ count p.image
      → offs ≡ accept (Reply.Mtio 0 0) (part_of p.mover false false 0 p.image)
  unfolding tape_step device_step tape_mtio protects is_refusal after_mtio judge onto choose
  off_done f s k =
      rw (
        f.opened,
        free p.mover.state f.not_listening f.not_active,
        off_rewinds p.image p.tape.position times (no_fault p.image p.tape.position times s k),
      )

  as_close : Free p
      → tape_step drive p TapeRequest.Close body ≡ accept Reply.Plain (part_of p.mover false false 0 p.image)
  unfolding tape_step device_step tape_close judge onto choose
  as_close f = rw (f.opened, free p.mover.state f.not_listening f.not_active)

  pub off_rules : OffRules drive p times body
  off_rules =
      record {
        closed = off_closed;
        held = off_held;
        unsound = λ f h. off_fault f (fault_unsound p.image p.tape.position times h);
        beyond = λ f h. off_fault f (fault_beyond p.image p.tape.position times h);
        off = off_done;
        as_close = as_close;
      }

-- ---- the other MTIO
after_other : (op position : ℕ) (t : Tape) → (op ≡ 6 → ⊥) → after_mtio op position t ≡ moved_to position t
unfolding after_mtio choose
after_other op position t n = rw (after_mtio, eqb_no n)

StaysOpen : Tape → Tape → Type 0
StaysOpen t next = (next.opened ≡ t.opened) × (next.writable ≡ t.writable)

mtio : (drive : ℕ) (p : TapePart) (op times : ℕ) (body : List ℕ) → (op ≡ 6 → ⊥)
    → Accepts (λ _ next. (next.tape.opened ≡ p.tape.opened) × (next.tape.writable ≡ p.tape.writable)) (tape_step drive p (TapeRequest.Mtio op times) body)
unfolding tape_step device_step tape_mtio StaysOpen
mtio drive p op times body n =
    carried (λ _ (next : TapePart). StaysOpen p.tape next.tape) (with_loaded p) _
    (accepts (λ _ (s : Loaded). StaysOpen p.tape s.tape) _ _ _ (λ _. rw (after_other op _ p.tape n) (refl, refl)))

loaded : (drive : ℕ) (p : TapePart) (q : TapeRequest) (body : List ℕ) → (p.tape.opened ≡ true → drive ≡ 0 → ⊥)
    → Accepts (λ _ next. next.tape.opened ≡ true → drive ≡ 0 → ⊥) (tape_step drive p q body)
loaded drive p q body n =
    accepts_map (λ _ (next : TapePart). drive_wrong drive next.tape ≡ false) (λ _ next. next.tape.opened ≡ true → drive ≡ 0 → ⊥)
    (λ _ next h. drive_some drive next.tape h) _ (tape_drives drive p q body (drive_right drive p.tape n))

-- ---- what hangs on the drive
alike : (a b : ℕ) (p : TapePart) (q : TapeRequest) (body : List ℕ) → (a ≡ 0 → ⊥) → (b ≡ 0 → ⊥)
    → tape_step a p q body ≡ tape_step b p q body
unfolding tape_step device_step tape_open
alike a b p (TapeRequest.Open name mode) body n m = rw (eqb_no n, eqb_no m)
alike a b p TapeRequest.Close body n m = refl
alike a b p TapeRequest.State body n m = refl
alike a b p (TapeRequest.Mtio op times) body n m = refl
alike a b p (TapeRequest.Write bytes) body n m = refl
alike a b p (TapeRequest.Read times) body n m = refl

unasked : (a b : ℕ) (p : TapePart) (q : TapeRequest) (body : List ℕ)
    → ((name : Text) (mode : ℕ) → q ≡ TapeRequest.Open name mode → ⊥)
    → tape_step a p q body ≡ tape_step b p q body
unfolding tape_step device_step
unasked a b p (TapeRequest.Open name mode) body n = absurd (n name mode refl)
unasked a b p TapeRequest.Close body n = refl
unasked a b p TapeRequest.State body n = refl
unasked a b p (TapeRequest.Mtio op times) body n = refl
unasked a b p (TapeRequest.Write bytes) body n = refl
unasked a b p (TapeRequest.Read times) body n = refl

pub changer_rules : ChangerRules
changer_rules =
    record {
      cdb = cdb_rules;
      device = device_rules;
      slots = record {
        stay = λ tape c q body n. slots_stay tape c q body (not_moves q body n);
        blind = λ a b c q body n. scsi_blind a b c q body (not_moves q body n);
        none_twice = stays_none_twice;
        in_drive_lem = stays_in_drive;
      };
      shelf = record { twice = twice; unloaded = unloaded; only = only_so };
      drive = record { opening = open_rules; off = off_rules; mtio = mtio; loaded = loaded; alike = alike; unasked = unasked };
    }
