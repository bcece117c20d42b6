-- Every request call keeps the relation and leaves a sound image sound; what a call that is refused leaves. Assumes nothing.
use Prim.Native.Nat.{ℕ, ◌≤◌, ◌<◌}
use mathlib.Core.Bool.{Bool, true, false, not}
use mathlib.Core.List.{List, [], ◌∷◌}
use mathlib.Core.Path.{◌≡◌, refl, ap, ◌∙◌}
use native.Mathlib.Omega.{arith}
use lib.ListN.{length, replicate}
use lib.Dec.{eqb, ltb}
use borrow.Author.Tests.{ne_eqb, eq-eqb}
use Rattle.codes.specs.Codes.{store_length}
use Rattle.xdr.specs.Choose.{choose}
use Rattle.xdr.proofs.Tests.{by_test, none_of, yes, ltb_yes, ltb_no}
use Rattle.changer_elements.specs.Slots.{is_again, some_again, names_none_twice, in_drive}
use Rattle.tape_image.specs.Image.{is_sound, faulty}
use Rattle.tape_image.specs.Sound.{Sound, Placed}
use Rattle.tape_image.proofs.Laws.{sound_holds, placed}
use Rattle.tape_ops.specs.Step.{Step}
use Rattle.tape_ops.specs.Operations.{write_step, mtio_step}
use Rattle.tape_ops.proofs.Promises as cartridge
use Rattle.wire_pairs.specs.Store.{storing, emptied, is_laid}
use Rattle.wire_pairs.proofs.Back.{storing_length, start_leaves}
use Rattle.wire_pairs.proofs.Stopped.{stop_leaves}
use Rattle.wire_frame.specs.Frame.{well_framed, kind_of, body_of}
use Rattle.wire_frame.specs.declared.Message.TheVariants as Message
use Rattle.wire_requests.specs.Bodies.{decoded}
use Rattle.wire_requests.specs.Within.{bytes_at}
use Rattle.wire_requests.specs.declared.ConnectRequest.TheVariants as ConnectRequest
use Rattle.wire_layouts.specs.declared.Text.{Text}
use Rattle.wire_requests.specs.declared.DataRequest.{DataRequest}
use Rattle.wire_requests.specs.declared.DataRequest.TheVariants as DataRequest
use Rattle.wire_requests.specs.declared.MoverRequest.{MoverRequest}
use Rattle.wire_requests.specs.declared.TapeRequest.{TapeRequest}
use Rattle.wire_requests.specs.declared.TapeRequest.TheVariants as TapeRequest
use Rattle.wire_requests.specs.declared.Request.{Request}
use Rattle.wire_requests.specs.declared.Request.TheVariants as Request
use Rattle.wire_replies.specs.declared.Reply.{Reply}
use Rattle.wire_replies.specs.declared.Reply.TheVariants as Reply
use Rattle.wire_replies.specs.declared.Notice.{Notice}
use Rattle.wire_replies.specs.declared.Notice.TheVariants as Notice
use Rattle.wire_replies.specs.Replies.{notice_bytes}
use Rattle.std.specs.Prelude.{Option, Some, None}
use Rattle.wire_rmt.specs.declared.Command.{Command}
use Rattle.wire_rmt.specs.Commands.{rmt_command}
use Rattle.rules_parts.specs.declared.types.Data.{Data}
use Rattle.rules_parts.specs.declared.types.Tape.{Tape}
use Rattle.rules_parts.specs.declared.types.Changer.{Changer}
use Rattle.rules_parts.specs.declared.types.Session.{Session}
use Rattle.rules_parts.specs.Names.{least_room, first_size}
use Rattle.rules.specs.Judge.{Outcome, refuse, accept, judge, onto, Accepts}
use Rattle.rules_parts.specs.Parts.{rest_mover, closed_tape, data_partnered, mover_partnered, address_wrong, data_joined, mover_joined, after_message, shut}
use Rattle.rules.specs.DataService.{pairs_of, data_state, data_listen, data_start, data_environment, data_stop, data_step, variables_after}
use Rattle.rules.specs.TapeService.{Loaded, tape_open, tape_close, tape_state, tape_mtio, tape_write, tape_read, device_step, TapePart, with_loaded, with_mover, tape_step, mover_part_step}
use Rattle.rules.specs.Connection.{right_digest, client_auth, connect_step}
use Rattle.rules.specs.ScsiService.{scsi_shown}
use Rattle.rules.specs.Relation.{data_wrong, mover_wrong, drive_wrong, slots_wrong, same_flag, keeps}
use Rattle.rules.specs.Promises.{Keeps, JointKeeps, data_side, part_wrong, part_side}
use Rattle.rules.specs.Answer.{Kept, Lent, held, Answered, guarded, room_of, answered, requested, judged, is_close, settled, verdict, needs_login, is_locked, outcome, refusing, is_unread}
use Rattle.rules.specs.Answer.{refused_in, noticed, silent, closing, replying, Done, tape_part, with_data, with_part, with_tape, with_changer, with_login, with_ends, message_in, request_in}
use Rattle.rules.specs.Order.{Call, run}
use Rattle.rules.specs.Rmt.{rmt_request, in_record, bare, said, replied, commanded}
use Rattle.rules.specs.RmtHolds.{CommandLeaves}
use Rattle.rules.specs.Calls.{opened_session, unopened_session, opening, Unopened, Opens, OpeningHolds, Unmoved, Heard, is_mislent, CallsKeep}
use Rattle.rules.proofs.JudgeLaws.{judged_by, accepts, accepts_any, accepts_map, accepts_both, refusal_says, carried}
use Rattle.rules.proofs.Kept.{kept_mover}
use Rattle.rules.proofs.Keeping.{clash, rest_kept, data_keeps, tape_keeps, mover_part_keeps, joint_keeps}
use Rattle.rules.proofs.Changer.{scsi_drive, stays_none_twice, tape_drives}
use Rattle.rules.proofs.Guarding.{by_guard, goes_on, stored, lent_well}
use Rattle.rules.proofs.Numbers.{number_right, refusal_right}

-- ---- a call comes to nothing, to closing, or to a request that is judged
module _ (P : Answered → Type 0) (k : Kept) (l : Lent) (r : List ℕ) where
  pub by_stored_call : ((code : ℕ) → P (silent code k)) → P (closing k) → (length k.variables ≡ store_length → P (judged k l r (request_in r)))
      → P (answered k l r)
  unfolding answered requested
  by_stored_call still close serve =
      by_guard P k.session (room_of k l) _ _ still
      (λ g. by_test P (well_framed r) _ _
      (λ _. by_test P (not (eqb (kind_of r) 0)) _ _ (λ _. still 0) (λ _. serve (stored k l g.roomy))) (λ _. close))

  pub by_call : ((code : ℕ) → P (silent code k)) → P (closing k) → P (judged k l r (request_in r)) → P (answered k l r)
  by_call still close serve = by_stored_call still close (λ _. serve)

-- ---- what holds of what is passed on, and stays with a message sent and with closing, holds after a call if every accepted request keeps it
module _ (Q : Kept → Type 0) (sends : (k : Kept) (first : Bool) → Q k → Q (held (after_message k.session first) k.image k.variables))
    (shuts : (k : Kept) → Q k → Q (held (shut k.session) k.image k.variables)) where
  abbrev Next : Answered → Type 0
  Next a = Q a.next

  abbrev Accepted : Reply → Done → Type 0
  Accepted _ d = Q d.kept

  pub noticed_holds : (time why : ℕ) (n : Notice) (a : Answered) → Next a → Next (noticed time why n a)
  unfolding noticed
  noticed_holds time why n a h = by_test Next (eqb why 0) _ _ (λ _. h) (λ _. sends a.next a.next.session.first h)

  module _ (k : Kept) (l : Lent) (r : List ℕ) (h : Q k) where
    settled_holds : (q : Request) (o : Outcome Done) → Accepts Accepted o → Next (settled k l.time r q o)
    unfolding settled Accepts
    settled_holds q (refuse e) a = sends k false h
    settled_holds q (accept reply d) a = noticed_holds l.time d.mwhy _ _ (noticed_holds l.time d.dwhy _ _ (sends d.kept false a))

    judged_holds : (q : Request) → Accepts Accepted (verdict k l r q) → Next (judged k l r q)
    unfolding judged
    judged_holds q a = by_test Next (is_close q) _ _ (λ _. shuts k h) (λ _. settled_holds q _ a)

    pub call_stored : (length k.variables ≡ store_length → Accepts Accepted (verdict k l r (request_in r))) → Next (answered k l r)
    call_stored a = by_stored_call Next k l r (λ _. h) (shuts k h) (λ e. judged_holds (request_in r) (a e))

    pub call_judged : Accepts Accepted (verdict k l r (request_in r)) → Next (answered k l r)
    call_judged a = call_stored (λ _. a)

    -- the login test aside
    pub call_holds : Accepts Accepted (outcome k l r (request_in r)) → Next (answered k l r)
    unfolding verdict
    call_holds a = call_judged (judged_by Accepted _ _ (λ _. a))

-- ---- what holds of what is passed on holds after a command if every accepted request keeps it
module _ (Q : Kept → Type 0) (k : Kept) (room : ℕ) (c : List ℕ) (h : Q k) where
  replied_holds : (o : Outcome Done) → Accepts (λ _ d. Q d.kept) o → Q (replied k o).next
  unfolding replied Accepts
  replied_holds (refuse e) a = h
  replied_holds (accept reply d) a = a

  pub command_judged : Accepts (λ _ d. Q d.kept) (said k c) → Q (commanded k room c).next
  unfolding commanded
  command_judged a = by_guard (λ (x : Answered). Q x.next) k.session room _ _ (λ _. h) (λ _. replied_holds (said k c) a)

  -- the login test aside
  pub command_holds : Accepts (λ _ d. Q d.kept) (outcome k bare (in_record c) (rmt_request (rmt_command c))) → Q (commanded k room c).next
  unfolding verdict
  command_holds a = command_judged (judged_by (λ _ d. Q d.kept) _ _ (λ _. a))

-- ---- what a command leaves
module _ (k : Kept) (c : List ℕ) where
  Leaves : Reply → Done → Type 0
  Leaves _ d = CommandLeaves k d.kept

  all_left : CommandLeaves k k
  all_left = record { closed = refl; mark = refl; login = refl; counter = refl; source = refl; mover = refl; changer = refl; variables = refl }

  tape_leaves : (q : TapeRequest) → Accepts Leaves (outcome k bare (in_record c) (Request.Tape q))
  unfolding outcome tape_step Leaves
  tape_leaves q =
      carried Leaves (with_tape k) _ (carried (λ reply p. Leaves reply (with_tape k p)) (with_loaded (tape_part k)) _
      (accepts_any (λ reply p. Leaves reply (with_tape k (with_loaded (tape_part k) p)))
      (λ _ _. record { closed = refl; mark = refl; login = refl; counter = refl; source = refl; mover = refl; changer = refl; variables = refl }) _))

  -- what does not read is refused
  bad_says : (P : Reply → Done → Type 0) → Accepts P (outcome k bare (in_record c) Request.Bad)
  unfolding outcome Accepts
  bad_says P = tt

  -- what holds of every tape request holds of a command
  pub by_tape : (P : Reply → Done → Type 0) → ((q : TapeRequest) → Accepts P (outcome k bare (in_record c) (Request.Tape q)))
      → (q : Option Command) → Accepts P (outcome k bare (in_record c) (rmt_request q))
  unfolding rmt_request
  by_tape P h (Some q) = h _
  by_tape P h None = bad_says P

pub command_left : (k : Kept) (room : ℕ) (c : List ℕ) → CommandLeaves k (commanded k room c).next
unfolding Leaves
command_left k room c = command_holds (CommandLeaves k) k room c (all_left k c) (by_tape k c (Leaves k c) (tape_leaves k c) (rmt_command c))

-- ---- the relation, as facts
pub record Fair (s : Session) : Type 0 where
  pub source : data_wrong s.source ≡ false
  pub mover : mover_wrong s.mover s.tape ≡ false
  pub drive : drive_wrong (in_drive s.changer.slots) s.tape ≡ false
  pub names : names_none_twice s.changer.slots ≡ true
  pub joined : same_flag (data_partnered s.source) (mover_partnered s.mover) ≡ true

passed : (b x : Bool) → choose b false x ≡ true → (b ≡ false) × (x ≡ true)
unfolding choose
passed true x h = absurd (let z : ◌≡◌ {A = ℕ} 0 1 = cc in omega arith)
passed false x h = (refl, h)

pub kept_facts : (s : Session) → keeps s ≡ true → Fair s
unfolding keeps slots_wrong
kept_facts s h =
    let a = passed _ _ h in
    let b = passed _ _ a.1 in
    let c = passed _ _ b.1 in
    let d = none_of _ c.0 in
    record { source = a.0; mover = b.0; drive = d.0; names = yes d.1; joined = c.1 }

pub facts_kept : (s : Session) → Fair s → keeps s ≡ true
unfolding keeps slots_wrong choose
facts_kept s k = rw (keeps, slots_wrong, k.source, k.mover, k.drive, k.names) k.joined

-- a session with the same ends, tape and slot list
same_ends : (s n : Session) → n.source ≡ s.source → n.mover ≡ s.mover → n.tape ≡ s.tape → n.changer.slots ≡ s.changer.slots
    → keeps s ≡ true → keeps n ≡ true
unfolding keeps
same_ends s n d m t c h = rw (d, m, t, c) h

-- the mover's requests leave the tape
mover_drives : (k : Kept) (q : MoverRequest) (list : List ℕ) → drive_wrong (in_drive k.session.changer.slots) k.session.tape ≡ false
    → Accepts (λ _ next. drive_wrong (in_drive k.session.changer.slots) next.tape ≡ false) (mover_part_step (tape_part k) q list)
unfolding mover_part_step
mover_drives k q list h =
    let P : Reply → TapePart → Type 0 = λ _ next. drive_wrong (in_drive k.session.changer.slots) next.tape ≡ false in
    carried P (with_mover (tape_part k)) _ (accepts_any (λ r m. P r (with_mover (tape_part k) m)) (λ _ _. h) _)

Valid : Kept → Type 0
Valid k = keeps k.session ≡ true

valid_sends : (k : Kept) (first : Bool) → Valid k → Valid (held (after_message k.session first) k.image k.variables)
unfolding Valid
valid_sends k first h = same_ends k.session _ refl refl refl refl h

valid_shuts : (k : Kept) → Valid k → Valid (held (shut k.session) k.image k.variables)
unfolding Valid
valid_shuts k h = same_ends k.session _ refl refl refl refl h

module _ (k : Kept) (l : Lent) (r : List ℕ) (h : Valid k) where
  Stays : Reply → Done → Type 0
  Stays _ d = Valid d.kept

  -- of the services whose part the relation does not look at
  aside : {A : Type 0} (put : A → Done) → ((p : A) → Valid (put p).kept) → (o : Outcome A) → Accepts Stays (onto put o)
  unfolding Stays
  aside put f o = carried Stays put o (accepts_any (λ reply p. Stays reply (put p)) (λ _ p. f p) o)

  outcome_keeps : (q : Request) → Accepts Stays (outcome k l r q)
  unfolding outcome Stays Valid
  outcome_keeps Request.Unknown = refusal_says Stays _
  outcome_keeps Request.Bad = refusal_says Stays _
  outcome_keeps (Request.Connect q) = aside (with_login k _) (λ _. same_ends k.session _ refl refl refl refl h) _
  outcome_keeps (Request.Config q) = aside (with_login k _) (λ _. same_ends k.session _ refl refl refl refl h) _
  outcome_keeps (Request.Scsi q) =
      let f = kept_facts k.session h in
      let c = k.session.changer in
      let drives : Reply → Changer → Type 0 = λ _ next. drive_wrong (in_drive next.slots) k.session.tape ≡ false in
      let names : Reply → Changer → Type 0 = λ _ next. names_none_twice next.slots ≡ true in
      carried Stays (with_changer k _) _
      (accepts_map (λ r p. drives r p × names r p) (λ reply p. Stays reply (with_changer k (scsi_shown q (body_of r) c.slots) p))
      (λ _ p n. facts_kept _ (record { source = f.source; mover = f.mover; drive = n.0; names = n.1; joined = f.joined })) _
      (accepts_both drives names _ (scsi_drive k.session.tape c q (body_of r) f.drive) (stays_none_twice k.session.tape.opened c q (body_of r) f.names)))
  outcome_keeps (Request.Tape q) =
      let f = kept_facts k.session h in
      let drive = in_drive k.session.changer.slots in
      let drives : Reply → TapePart → Type 0 = λ _ next. drive_wrong drive next.tape ≡ false in
      let parts : Reply → TapePart → Type 0 = λ _ next. Keeps part_wrong part_side (tape_part k) next in
      carried Stays (with_tape k) _
      (accepts_map (λ r p. parts r p × drives r p) (λ reply p. Stays reply (with_tape k p))
      (λ _ p n. facts_kept _ (record { source = f.source; mover = n.0.good f.mover; drive = n.1; names = f.names; joined = rw n.0.sides f.joined })) _
      (accepts_both parts drives _ (tape_keeps drive (tape_part k) q (body_of r)) (tape_drives drive (tape_part k) q (body_of r) f.drive)))
  outcome_keeps (Request.Data q) =
      let f = kept_facts k.session h in
      carried Stays (with_data k q _ _) _
      (accepts_map (λ _ next. Keeps data_wrong data_side k.session.source next) (λ reply p. Stays reply (with_data k q (body_of r) l.addresses p))
      (λ _ p n. facts_kept _ (record { source = n.good f.source; mover = f.mover; drive = f.drive; names = f.names; joined = rw n.sides f.joined })) _
      (data_keeps k.session.source q _ _ _))
  outcome_keeps (Request.Mover q) =
      let f = kept_facts k.session h in
      let parts : Reply → TapePart → Type 0 = λ _ next. Keeps part_wrong part_side (tape_part k) next in
      let drives : Reply → TapePart → Type 0 = λ _ next. drive_wrong (in_drive k.session.changer.slots) next.tape ≡ false in
      carried Stays (with_part k l.addresses) _
      (accepts_map (λ r p. parts r p × drives r p) (λ reply p. Stays reply (with_part k l.addresses p))
      (λ _ p n. facts_kept _ (record { source = f.source; mover = n.0.good f.mover; drive = n.1; names = f.names; joined = rw n.0.sides f.joined })) _
      (accepts_both parts drives _ (mover_part_keeps (tape_part k) q l.addresses) (mover_drives k q l.addresses f.drive)))
  outcome_keeps (Request.Joint q) =
      let f = kept_facts k.session h in
      carried Stays (with_ends k) _
      (accepts_map (λ _ next. JointKeeps k.session.tape next) (λ reply p. Stays reply (with_ends k p))
      (λ _ p n. facts_kept _ (record { source = n.source; mover = n.mover; drive = f.drive; names = f.names; joined = n.joined })) _
      (joint_keeps k.session.source k.session.mover k.session.tape f.source f.mover f.joined q _))

pub kept : (k : Kept) (l : Lent) (r : List ℕ) → keeps k.session ≡ true → keeps (answered k l r).next.session ≡ true
unfolding Valid Stays
kept k l r h = call_holds Valid valid_sends valid_shuts k l r h (outcome_keeps k l r h (request_in r))

opened : (slots : List ℕ) → names_none_twice slots ≡ true → keeps (opened_session slots) ≡ true
unfolding data_wrong address_wrong data_partnered mover_partnered data_joined mover_joined drive_wrong same_flag choose
opened slots h =
    facts_kept (opened_session slots) (record { source = refl; mover = kept_mover (rest_mover first_size) closed_tape (rest_kept first_size closed_tape (omega arith)); drive = refl; names = h; joined = refl })

-- what opening gives: nothing, with a code, and a closed session with no cartridge; or a session with the slot list
pub by_opening : (P : Answered → Type 0) (slots : List ℕ) (time room : ℕ) → ((code : ℕ) → (code ≡ 0 → ⊥) → P (silent code (held unopened_session [] [])))
    → (names_none_twice slots ≡ true → P (record { code = 0; reply = []; notices = notice_bytes 1 time Notice.Connected; next = held (opened_session slots) [] [] }))
    → P (opening slots time room)
unfolding opening
by_opening P slots time room still goes =
    by_test P (ltb room least_room) _ _ (λ _. still _ (λ z. omega arith))
    (λ _. by_test P (not (names_none_twice slots)) _ _ (λ _. still _ (λ z. omega arith)) (λ h. goes (yes h)))

-- ---- soundness. An operation of the tape leaves the image where the position is out of range
sound_by : (l : List ℕ) (p : ℕ) (m : List ℕ) → is_sound l ≡ true → (f : Bool) → faulty l p ≡ f → (f ≡ true → m ≡ l) → (Placed l p → Sound m) → is_sound m ≡ true
sound_by l p m h true e same next = ap is_sound (same refl) ∙ h
sound_by l p m h false e same next = sound_holds m (next (placed l p e))

Same : {A : Type 0} → List ℕ → Step A → Type 0
Same l s = s.image ≡ l

write_faulty : (l : List ℕ) (p : ℕ) (b : List ℕ) → faulty l p ≡ true → Same l (write_step l p b)
unfolding write_step Same choose
write_faulty l p b e = by_test (Same l) (ltb 32768 (length b)) _ _ (λ _. refl) (λ _. rw e refl)

mtio_faulty : (l : List ℕ) (op p times : ℕ) → faulty l p ≡ true → Same l (mtio_step l op p times)
unfolding mtio_step Same choose
mtio_faulty l op p times e = by_test (Same l) (ltb 6 op) _ _ (λ _. refl) (λ _. rw e refl)

module _ (l : List ℕ) (h : is_sound l ≡ true) where
  write_sound : (p : ℕ) (b : List ℕ) → is_sound (write_step l p b).image ≡ true
  unfolding Same
  write_sound p b = sound_by l p _ h (faulty l p) refl (write_faulty l p b) (λ at. (((cartridge.promises).sound l p at).write b).ok)

  mtio_sound : (op p times : ℕ) → is_sound (mtio_step l op p times).image ≡ true
  unfolding Same
  mtio_sound op p times = sound_by l p _ h (faulty l p) refl (mtio_faulty l op p times) (λ at. (((cartridge.promises).sound l p at).mtio op times).ok)

  Loads : Reply → Loaded → Type 0
  Loads _ s = is_sound s.image ≡ true

  device_sound : (drive mover : ℕ) (t : Tape) (q : TapeRequest) (body : List ℕ) → Accepts Loads (device_step drive mover t l q body)
  unfolding device_step tape_open tape_close tape_state tape_mtio tape_write tape_read Loads
  device_sound drive mover t (TapeRequest.Open name mode) body = accepts Loads _ _ _ (λ _. h)
  device_sound drive mover t TapeRequest.Close body = accepts Loads _ _ _ (λ _. h)
  device_sound drive mover t TapeRequest.State body = accepts Loads _ _ _ (λ _. h)
  device_sound drive mover t (TapeRequest.Mtio op times) body = accepts Loads _ _ _ (λ _. mtio_sound op t.position times)
  device_sound drive mover t (TapeRequest.Write bytes) body = accepts Loads _ _ _ (λ _. write_sound t.position (bytes_at body bytes))
  device_sound drive mover t (TapeRequest.Read times) body = accepts Loads _ _ _ (λ _. h)

module _ (k : Kept) (l : Lent) (r : List ℕ) (h : is_sound k.image ≡ true) where
  Sounds : Reply → Done → Type 0
  Sounds _ d = is_sound d.kept.image ≡ true

  unread : {A : Type 0} (put : A → Done) → ((p : A) → is_sound (put p).kept.image ≡ true) → (o : Outcome A) → Accepts Sounds (onto put o)
  unfolding Sounds
  unread put f o = carried Sounds put o (accepts_any (λ reply p. Sounds reply (put p)) (λ _ p. f p) o)

  outcome_sound : (q : Request) → Accepts Sounds (outcome k l r q)
  unfolding outcome Sounds tape_step mover_part_step Loads
  outcome_sound Request.Unknown = refusal_says Sounds _
  outcome_sound Request.Bad = refusal_says Sounds _
  outcome_sound (Request.Connect q) = unread (with_login k _) (λ _. h) _
  outcome_sound (Request.Config q) = unread (with_login k _) (λ _. h) _
  outcome_sound (Request.Scsi q) = unread (with_changer k _) (λ _. h) _
  outcome_sound (Request.Tape q) =
      carried Sounds (with_tape k) _ (carried (λ reply p. Sounds reply (with_tape k p)) (with_loaded (tape_part k)) _
      (device_sound k.image h _ k.session.mover.state k.session.tape q _))
  outcome_sound (Request.Data q) = unread (with_data k q _ _) (λ _. h) _
  outcome_sound (Request.Mover q) =
      carried Sounds (with_part k _) _ (carried (λ reply p. Sounds reply (with_part k l.addresses p)) (with_mover (tape_part k)) _
      (accepts_any (λ reply p. Sounds reply (with_part k l.addresses (with_mover (tape_part k) p))) (λ _ _. h) _))
  outcome_sound (Request.Joint q) = unread (with_ends k) (λ _. h) _

sound : (k : Kept) (l : Lent) (r : List ℕ) → is_sound k.image ≡ true → is_sound (answered k l r).next.image ≡ true
unfolding Sounds
sound k l r h = call_holds (λ (x : Kept). is_sound x.image ≡ true) (λ x _ e. e) (λ x e. e) k l r h (outcome_sound k l r h (request_in r))

pub command_kept : (k : Kept) (room : ℕ) (c : List ℕ) → keeps k.session ≡ true → keeps (commanded k room c).next.session ≡ true
unfolding Stays Valid
command_kept k room c h = command_holds (λ (x : Kept). keeps x.session ≡ true) k room c h (outcome_keeps k bare (in_record c) h (rmt_request (rmt_command c)))

pub command_sound : (k : Kept) (room : ℕ) (c : List ℕ) → is_sound k.image ≡ true → is_sound (commanded k room c).next.image ≡ true
unfolding Sounds
command_sound k room c h = command_holds (λ (x : Kept). is_sound x.image ≡ true) k room c h (outcome_sound k bare (in_record c) h (rmt_request (rmt_command c)))

-- ---- the store of the environment: an accepted start or stop keeps its length, and leaves it laid out so
Follows : List ℕ → List ℕ → Type 0
Follows v w = (length w ≡ length v) × (is_laid v ≡ true → is_laid w ≡ true)

data_follows : (d : Data) (q : DataRequest) (body list v : List ℕ) → length v ≡ store_length
    → Accepts (λ _ _. Follows v (variables_after q body v)) (data_step d q body list v)
unfolding data_step data_state data_start data_environment data_stop data_listen variables_after Follows
data_follows d DataRequest.State body list v h = accepts (λ _ _. Follows v v) _ _ _ (λ _. (refl, λ e. e))
data_follows d (DataRequest.Backup name ps) body list v h =
    accepts (λ _ _. Follows v (storing (pairs_of body ps) v)) _ _ _
    (λ g. (storing_length (pairs_of body ps) v (yes (g 2)) h, λ _. (start_leaves (pairs_of body ps) v (yes (g 2))).laid))
data_follows d (DataRequest.Recover name ps) body list v h =
    accepts (λ _ _. Follows v (storing (pairs_of body ps) v)) _ _ _
    (λ g. (storing_length (pairs_of body ps) v (yes (g 2)) h, λ _. (start_leaves (pairs_of body ps) v (yes (g 2))).laid))
data_follows d DataRequest.Environment body list v h = accepts (λ _ _. Follows v v) _ _ _ (λ _. (refl, λ e. e))
data_follows d DataRequest.Stop body list v h =
    let s = stop_leaves v (omega arith) in
    accepts (λ _ _. Follows v (emptied v)) _ _ _ (λ _. (s.long, λ _. s.laid))
data_follows d (DataRequest.Listen address) body list v h = accepts (λ _ _. Follows v v) _ _ _ (λ _. (refl, λ e. e))

module _ (k : Kept) (l : Lent) (r : List ℕ) where
  Followed : Reply → Done → Type 0
  Followed _ d = Follows k.variables d.kept.variables

  unstored : {A : Type 0} (put : A → Done) → ((p : A) → k.variables ≡ (put p).kept.variables) → (o : Outcome A) → Accepts Followed (onto put o)
  unfolding Followed Follows
  unstored put f o = carried Followed put o (accepts_any (λ reply p. Followed reply (put p)) (λ _ p. rw (← f p) (refl, λ e. e)) o)

  outcome_follows : length k.variables ≡ store_length → (q : Request) → Accepts Followed (outcome k l r q)
  unfolding outcome Followed tape_step mover_part_step
  outcome_follows h Request.Unknown = refusal_says Followed _
  outcome_follows h Request.Bad = refusal_says Followed _
  outcome_follows h (Request.Connect q) = unstored (with_login k _) (λ _. refl) _
  outcome_follows h (Request.Config q) = unstored (with_login k _) (λ _. refl) _
  outcome_follows h (Request.Scsi q) = unstored (with_changer k _) (λ _. refl) _
  outcome_follows h (Request.Tape q) = unstored (with_tape k) (λ _. refl) _
  outcome_follows h (Request.Data q) = carried Followed (with_data k q _ _) _ (data_follows k.session.source q _ _ k.variables h)
  outcome_follows h (Request.Mover q) = unstored (with_part k _) (λ _. refl) _
  outcome_follows h (Request.Joint q) = unstored (with_ends k) (λ _. refl) _

  follows : Follows k.variables (answered k l r).next.variables
  unfolding verdict Followed Follows
  follows =
      call_stored (λ (x : Kept). Follows k.variables x.variables) (λ x _ e. e) (λ x e. e) k l r (refl, λ e. e)
      (λ h. judged_by Followed _ _ (λ _. outcome_follows h (request_in r)))

pub lengths : (k : Kept) (l : Lent) (r : List ℕ) → length (answered k l r).next.variables ≡ length k.variables
unfolding Follows
lengths k l r = (follows k l r).0

laid : (k : Kept) (l : Lent) (r : List ℕ) → is_laid k.variables ≡ true → is_laid (answered k l r).next.variables ≡ true
unfolding Follows
laid k l r = (follows k l r).1

-- ---- calls one after the other
runs_lengths : (k : Kept) (cs : List Call) → length (run k cs).last.variables ≡ length k.variables
unfolding run
runs_lengths k [] = refl
runs_lengths k (c ∷ cs) = runs_lengths (answered k c.lent c.ask.request).next cs ∙ lengths k c.lent c.ask.request

runs_laid : (k : Kept) (cs : List Call) → is_laid k.variables ≡ true → is_laid (run k cs).last.variables ≡ true
unfolding run
runs_laid k [] h = h
runs_laid k (c ∷ cs) h = runs_laid (answered k c.lent c.ask.request).next cs (laid k c.lent c.ask.request h)

runs : (k : Kept) (cs : List Call) → keeps k.session ≡ true → keeps (run k cs).last.session ≡ true
unfolding run
runs k [] h = h
runs k (c ∷ cs) h = runs (answered k c.lent c.ask.request).next cs (kept k c.lent c.ask.request h)

runs_sound : (k : Kept) (cs : List Call) → is_sound k.image ≡ true → is_sound (run k cs).last.image ≡ true
unfolding run
runs_sound k [] h = h
runs_sound k (c ∷ cs) h = runs_sound (answered k c.lent c.ask.request).next cs (sound k c.lent c.ask.request h)

-- ---- the codes of calls, and what a call leaves that does nothing
Taken : Answered → Type 0
Taken a = a.code ≡ 0

noticed_taken : (time why : ℕ) (n : Notice) (a : Answered) → Taken a → Taken (noticed time why n a)
unfolding noticed Taken
noticed_taken time why n a h = by_test Taken (eqb why 0) _ _ (λ _. h) (λ _. h)

settled_taken : (k : Kept) (time : ℕ) (r : List ℕ) (q : Request) (o : Outcome Done) → Taken (settled k time r q o)
unfolding settled Taken
settled_taken k time r q (refuse e) = refl
settled_taken k time r q (accept reply d) = noticed_taken time _ _ _ (noticed_taken time _ _ _ refl)

judged_taken : (k : Kept) (l : Lent) (r : List ℕ) (q : Request) → Taken (judged k l r q)
unfolding judged Taken
judged_taken k l r q = by_test Taken (is_close q) _ _ (λ _. refl) (λ _. settled_taken k l.time r q (verdict k l r q))

mislent_by : (b : Bool) (room : ℕ) → ltb (choose b room 0) least_room ≡ choose (ltb room least_room) true (not b)
unfolding choose
mislent_by true room = by_test (λ (b : Bool). ltb room least_room ≡ b) (ltb room least_room) true false (λ e. e) (λ e. e)
mislent_by false room = by_test (λ (b : Bool). true ≡ b) (ltb room least_room) true true (λ _. refl) (λ _. refl)

module _ (k : Kept) (l : Lent) (r : List ℕ) where
  still : (code : ℕ) → Unmoved k (silent code k)
  still code = record { reply = refl; notices = refl; next = refl }

  coded : (short good : Bool) → ltb (room_of k l) least_room ≡ short → keeps k.session ≡ good → (answered k l r).code ≡ choose short 1001 (choose good 0 1002)
  unfolding answered guarded requested Taken choose
  coded true good e g = rw (answered, guarded, e)
  coded false false e g = rw (answered, guarded, e, g)
  coded false true e g =
      rw (answered, guarded, e, g)
      (by_test Taken k.session.closed _ _ (λ _. refl)
      (λ _. by_test Taken (well_framed r) _ _
      (λ _. by_test Taken (not (eqb (kind_of r) 0)) _ _ (λ _. refl) (λ _. judged_taken k l r (request_in r))) (λ _. refl)))

  -- a call that is lent what it should not be has no room
  mislent : ltb (room_of k l) least_room ≡ is_mislent k l
  unfolding room_of is_mislent
  mislent = mislent_by (eqb (length k.variables) store_length) l.room

  never : keeps k.session ≡ true → (answered k l r).code ≡ 1002 → ⊥
  unfolding choose
  never g h =
      let c = rw g at (coded (ltb (room_of k l) least_room) (keeps k.session) refl refl) in
      by_test (λ (n : ℕ). (answered k l r).code ≡ n → ⊥) (ltb (room_of k l) least_room) 1001 0 (λ _ e. omega arith) (λ _ e. omega arith) c

  Refused : Answered → Type 0
  Refused x = (x.code ≡ 0 → ⊥) → Unmoved k x

  refused : Refused (answered k l r)
  unfolding Refused Taken
  refused = by_call Refused k l r (λ code _. still code) (λ n. absurd (n refl)) (λ n. absurd (n (judged_taken k l r (request_in r))))

  over : k.session.closed ≡ true → Unmoved k (answered k l r)
  unfolding answered
  over o = by_guard (Unmoved k) k.session (room_of k l) _ _ still (λ g. absurd (let h = g.opened in let z : ◌≡◌ {A = ℕ} 0 1 = cc in omega arith))

  broken : least_room ≤ l.room → length k.variables ≡ store_length → keeps k.session ≡ true → k.session.closed ≡ false → well_framed r ≡ false
      → answered k l r ≡ closing k
  unfolding answered choose
  broken w e g o f = goes_on k.session (room_of k l) _ _ (record { roomy = lent_well k l w e; valid = g; opened = o }) ∙ rw f

  ignored : well_framed r ≡ true → (kind_of r ≡ 0 → ⊥) → Unmoved k (answered k l r)
  unfolding answered requested choose
  ignored f n = by_guard (Unmoved k) k.session (room_of k l) _ _ still (λ _. rw (f, ne_eqb (kind_of r) 0 n) (still 0))

pub close_is : (q : Request) → is_close q ≡ true → q ≡ Request.Connect ConnectRequest.Close
unfolding is_close
close_is Request.Unknown e = clash false refl e
close_is Request.Bad e = clash false refl e
close_is (Request.Connect (ConnectRequest.Open version)) e = clash false refl e
close_is (Request.Connect (ConnectRequest.Md5Auth id digest)) e = clash false refl e
close_is (Request.Connect ConnectRequest.OtherAuth) e = clash false refl e
close_is (Request.Connect ConnectRequest.Close) e = refl
close_is (Request.Config q) e = clash false refl e
close_is (Request.Scsi q) e = clash false refl e
close_is (Request.Tape q) e = clash false refl e
close_is (Request.Data q) e = clash false refl e
close_is (Request.Mover q) e = clash false refl e
close_is (Request.Joint q) e = clash false refl e

-- ---- what is answered where a request is refused
module _ (k : Kept) (l : Lent) (r : List ℕ) where
  pub heard : Heard k l r → answered k l r ≡ judged k l r (request_in r)
  unfolding answered requested choose
  heard h =
      goes_on k.session (room_of k l) _ _ (record { roomy = lent_well k l h.roomy h.stored; valid = h.valid; opened = h.opened }) ∙ rw (h.framed, eq-eqb (kind_of r) 0 h.request)

  -- a close is accepted: it needs no login
  open_to_all : (b : Bool) → choose b false false ≡ false
  unfolding choose
  open_to_all true = refl
  open_to_all false = refl

  close_accepted : (q : Request) (e : ℕ) → verdict k l r q ≡ refuse e → is_close q ≡ false
  unfolding is_close verdict is_locked needs_login outcome connect_step onto judge choose
  close_accepted Request.Unknown e v = refl
  close_accepted Request.Bad e v = refl
  close_accepted (Request.Connect (ConnectRequest.Open version)) e v = refl
  close_accepted (Request.Connect (ConnectRequest.Md5Auth id digest)) e v = refl
  close_accepted (Request.Connect ConnectRequest.OtherAuth) e v = refl
  close_accepted (Request.Connect ConnectRequest.Close) e v =
      absurd (let w = rw (open_to_all k.session.login.authorized) at v in let z : ◌≡◌ {A = ℕ} 0 1 = cc in omega arith)
  close_accepted (Request.Config q) e v = refl
  close_accepted (Request.Scsi q) e v = refl
  close_accepted (Request.Tape q) e v = refl
  close_accepted (Request.Data q) e v = refl
  close_accepted (Request.Mover q) e v = refl
  close_accepted (Request.Joint q) e v = refl

  requests : (e : ℕ) → Heard k l r → verdict k l r (request_in r) ≡ refuse e → answered k l r ≡ replying r l.time (refusing (request_in r) r e) [] k
  unfolding judged settled choose
  requests e h v = heard h ∙ rw (judged, close_accepted (request_in r) e v, v)

  -- the same of a request that is known
  known : (q : Request) (e : ℕ) → request_in r ≡ q → Heard k l r → verdict k l r q ≡ refuse e → answered k l r ≡ replying r l.time (refusing q r e) [] k
  known q e f h v = rw f at (requests e h (ap (verdict k l r) f ∙ v))

  -- what needs no login is judged by its service
  pub verdict_free : (q : Request) → needs_login q ≡ false → verdict k l r q ≡ outcome k l r q
  unfolding verdict is_locked judge choose
  verdict_free q f = rw (verdict, is_locked, f, open_to_all k.session.login.authorized)

  unhandled : Heard k l r → message_in r ≡ Message.Unknown → answered k l r ≡ replying r l.time (Reply.Header 1) [] k
  unfolding decoded needs_login outcome refusing is_unread choose
  unhandled h e = known Request.Unknown 1 (rw e) h (verdict_free Request.Unknown refl)

  undecoded : Heard k l r → request_in r ≡ Request.Bad → answered k l r ≡ replying r l.time (Reply.Header 18) [] k
  unfolding needs_login outcome refusing is_unread choose
  undecoded h b = known Request.Bad 18 b h (verdict_free Request.Bad refl)

  pub undigested : (id digest : Text) → Heard k l r → request_in r ≡ Request.Connect (ConnectRequest.Md5Auth id digest)
      → right_digest k.session.login l.accounts (bytes_at (body_of r) id) (bytes_at (body_of r) digest) ≡ false
      → answered k l r ≡ replying r l.time (refused_in r 4) [] k
  unfolding needs_login outcome connect_step client_auth judge onto refusing is_unread choose
  undigested id digest h b w =
      let q = Request.Connect (ConnectRequest.Md5Auth id digest) in
      known q 4 b h (verdict_free q refl ∙ rw w)

  pub untyped : Heard k l r → request_in r ≡ Request.Connect ConnectRequest.OtherAuth → answered k l r ≡ replying r l.time (refused_in r 9) [] k
  unfolding needs_login outcome connect_step onto refusing is_unread choose
  untyped h b = known (Request.Connect ConnectRequest.OtherAuth) 9 b h (verdict_free (Request.Connect ConnectRequest.OtherAuth) refl)

-- ---- how a request is judged, by what its code found
-- what needs a login is neither a close nor unread
login_plain : (q : Request) → needs_login q ≡ true → (is_close q ≡ false) × (is_unread q ≡ false)
unfolding needs_login is_close is_unread
login_plain Request.Unknown n = absurd (let z : ◌≡◌ {A = ℕ} 0 1 = cc in omega arith)
login_plain Request.Bad n = absurd (let z : ◌≡◌ {A = ℕ} 0 1 = cc in omega arith)
login_plain (Request.Connect q) n = absurd (let z : ◌≡◌ {A = ℕ} 0 1 = cc in omega arith)
login_plain (Request.Config q) n = (refl, refl)
login_plain (Request.Scsi q) n = (refl, refl)
login_plain (Request.Tape q) n = (refl, refl)
login_plain (Request.Data q) n = (refl, refl)
login_plain (Request.Mover q) n = (refl, refl)
login_plain (Request.Joint q) n = (refl, refl)

locks : (b n : Bool) → choose b false n ≡ true → n ≡ true
unfolding choose
locks true n h = absurd (let z : ◌≡◌ {A = ℕ} 0 1 = cc in omega arith)
locks false n h = h

module _ (k : Kept) (l : Lent) (r : List ℕ) (q : Request) where
  pub judged_locked : is_locked k.session.login q ≡ true → judged k l r q ≡ replying r l.time (refused_in r 4) [] k
  unfolding judged verdict is_locked judge settled refusing choose
  judged_locked h =
      let p = login_plain q (locks k.session.login.authorized (needs_login q) h) in
      rw (judged, p.0, verdict, is_locked, h, refusing, p.1)

  pub judged_free : is_locked k.session.login q ≡ false → judged k l r q ≡ choose (is_close q) (closing k) (settled k l.time r q (outcome k l r q))
  unfolding judged verdict judge choose
  judged_free h = rw (judged, verdict, h)

-- ---- opening
unopened : (code : ℕ) (a : Answered) → a ≡ silent code (held unopened_session [] []) → Unopened code a
unopened code a e =
    record {
      number = ap (λ (x : Answered). x.code) e;
      reply = ap (λ (x : Answered). x.reply) e;
      notices = ap (λ (x : Answered). x.notices) e;
      closed = ap (λ (x : Answered). x.next.session.closed) e;
      slots = ap (λ (x : Answered). x.next.session.changer.slots) e;
    }

-- the session that was never opened is, but for the mark and the counter, one that was opened with no cartridge
pub unopened_keeps : keeps unopened_session ≡ true
unfolding names_none_twice some_again is_again choose
unopened_keeps = same_ends (opened_session (replicate 9 0)) unopened_session refl refl refl refl (opened (replicate 9 0) refl)

module _ (slots : List ℕ) (time room : ℕ) where
  short_is : room < least_room → opening slots time room ≡ silent 1001 (held unopened_session [] [])
  unfolding opening choose
  short_is h = rw (opening, ltb_yes h)

  twice_is : least_room ≤ room → names_none_twice slots ≡ false → opening slots time room ≡ silent 1002 (held unopened_session [] [])
  unfolding opening choose
  twice_is h n = rw (opening, ltb_no h, n)

  opens : least_room ≤ room → names_none_twice slots ≡ true → Opens slots time (opening slots time room)
  unfolding opening choose
  opens h n =
      let e : opening slots time room ≡ record { code = 0; reply = []; notices = notice_bytes 1 time Notice.Connected; next = held (opened_session slots) [] [] } =
      rw (opening, ltb_no h, n) in
      record {
        number = ap (λ (x : Answered). x.code) e;
        reply = ap (λ (x : Answered). x.reply) e;
        notices = ap (λ (x : Answered). x.notices) e;
        closed = ap (λ (x : Answered). x.next.session.closed) e;
        shelf = ap (λ (x : Answered). x.next.session.changer.slots) e;
        changer = ap (λ (x : Answered). x.next.session.changer.opened) e;
        tape = ap (λ (x : Answered). x.next.session.tape.opened) e;
      }

  opening_holds : OpeningHolds slots time room
  opening_holds =
      record {
        short = λ h. unopened 1001 _ (short_is h);
        twice = λ h n. unopened 1002 _ (twice_is h n);
        opens = opens;
        keeps_it = by_opening (λ (a : Answered). keeps a.next.session ≡ true) slots time room (λ _ _. unopened_keeps) (λ n. opened slots n);
      }

pub calls_keep : CallsKeep
unfolding Refused
calls_keep =
    record {
      opening = opening_holds;
      opened = opened;
      kept = kept;
      never = never;
      sound = sound;
      lengths = lengths;
      laid = laid;
      runs = runs;
      runs_sound = runs_sound;
      runs_lengths = runs_lengths;
      runs_laid = runs_laid;
      refusals = record {
        codes = λ k l r. coded k l r (is_mislent k l) (keeps k.session) (mislent k l r) refl;
        refused = refused;
        over = over;
        broken = broken;
        ignored = ignored;
        requests = requests;
        accepted = number_right;
        refusing = refusal_right;
        unhandled = unhandled;
        undecoded = undecoded;
        undigested = undigested;
        untyped = untyped;
      };
    }
