-- Commands of the remote tape protocol: what each leaves, what it is told, and that it is judged as a tape record that says the same. A command is judged
-- by `verdict`, so that the laws of requests are those of commands too. Assumes nothing.
use Prim.Native.Nat.{ℕ, zero, suc, ◌≤◌}
use mathlib.Core.Bool.{Bool, true, false, not}
use mathlib.Core.List.{List, [], ◌++◌}
use mathlib.Core.Path.{◌≡◌, refl, sym, ap, ◌∙◌}
use native.Mathlib.Omega.{arith}
use lib.ListN.{length, take, drop, length-drop}
use lib.Seq.{length-take-le}
use lib.Dec.{eqb, ltb}
use borrow.Author.Tests.{eqb-true, eqb-false, le-ltb}
use Rattle.xdr.specs.Choose.{choose}
use Rattle.xdr.proofs.Tests.{by_test}
use Rattle.changer_elements.specs.Slots.{in_drive}
use Rattle.codes.specs.Codes.{longest_record}
use Rattle.tape_image.specs.Image.{entry_bytes, faulty}
use Rattle.tape_writing.specs.Writing.{room_for}
use Rattle.tape_ops.specs.Step.{Step}
use Rattle.tape_ops.specs.declared.Part.{Part}
use Rattle.tape_ops.specs.declared.Wrote.{Wrote}
use Rattle.tape_ops.specs.Operations.{write_step, read_part}
use Rattle.tape_ops.specs.Promises.{span_of}
use Rattle.tape_ops.proofs.Reading.{Copied, read_copies}
use Rattle.tape_ops.proofs.Promises as cartridge
use Rattle.wire_frame.specs.Frame.{body_of}
use Rattle.wire_requests.specs.Within.{bytes_at}
use Rattle.wire_requests.specs.declared.TapeRequest.{TapeRequest}
use Rattle.wire_requests.specs.declared.TapeRequest.TheVariants as TapeRequest
use Rattle.wire_requests.specs.declared.Request.{Request}
use Rattle.wire_requests.specs.declared.Request.TheVariants as Request
use Rattle.wire_replies.specs.declared.Reply.{Reply}
use Rattle.wire_replies.specs.declared.Notice.{Notice}
use Rattle.wire_replies.specs.Replies.{number_of}
use Rattle.std.specs.Prelude.{Option, Some, None}
use Rattle.wire_rmt.specs.declared.Command.{Command}
use Rattle.wire_rmt.specs.declared.Command.TheVariants as Command
use Rattle.wire_rmt.specs.Commands.{rmt_command}
use Rattle.wire_rmt.specs.Replies.{error_of, accepted, refused}
use Rattle.rules_parts.specs.Names.{least_room}
use Rattle.rules.specs.Judge.{Outcome, refuse, accept, judge, onto, Accepts, Refuses}
use Rattle.rules.specs.TapeService.{with_loaded, tape_open, tape_close, tape_mtio, tape_write, tape_read, device_step, tape_step}
use Rattle.rules.specs.Relation.{keeps}
use Rattle.rules.specs.Answer.{Kept, Lent, Answered, Done, silent, guarded, noticed, tape_part, with_tape, outcome, needs_login, is_locked, verdict, settled, is_close, judged, answered, request_in}
use Rattle.rules.specs.Calls.{Unmoved, Heard, is_number}
use Rattle.rules.specs.Leaving.{Touched, untouched, AtMark, AtEnd}
use Rattle.rules.specs.Rmt.{tape_request, rmt_request, in_record, bare, said, told, rmt_reply, counted_in, saying, replied, commanded}
use Rattle.rules.specs.RmtHolds.{Spoken, CommandLeaves, TapeMoved, Tells, tells_read, tells_written, tells_opened, tells_closed, tells_moved, Replies, done, refusal, at_mark, at_end, SaysSame, opens, closes, reads, writes, operates, told_as, SaidAs, RmtHolds}
use Rattle.rules.proofs.JudgeLaws.{carried, accepts, judged_by}
use Rattle.rules.proofs.Guarding.{by_guard, goes_on, lent_well}
use Rattle.rules.proofs.Numbers.{refusal_right}
use Rattle.rules.proofs.Calls.{heard, command_judged, command_left, command_kept, command_sound}
use Rattle.rules.proofs.Leaving.{Good, verdict_good, verdict_touches}

-- ---- what a write and a read tell
module _ (l : List ℕ) (p : ℕ) where
  Written : List ℕ → Step Wrote → Type 0
  Written b s = s.gives.error ≡ 0 → s.gives.count ≡ length b

  all_written : (b : List ℕ) → Written b (write_step l p b)
  unfolding write_step Written
  all_written b =
      by_test (Written b) (ltb longest_record (length b)) _ _ (λ _ h. absurd (omega arith))
      (λ _. by_test (Written b) (faulty l p) _ _ (λ _ h. absurd (omega arith))
      (λ _. by_test (Written b) (eqb (length b) 0) _ _ (λ e _. sym (eqb-true (length b) 0 e))
      (λ _. by_test (Written b) (room_for l p (length b)) _ _ (λ _ _. refl) (λ _ h. absurd (omega arith)))))

  Nothing : Part → Type 0
  Nothing r = r.error ≡ 0 → r.len ≡ 0

  none_read : Nothing (read_part l p 0)
  unfolding read_part Nothing choose
  none_read = by_test Nothing (faulty l p) _ _ (λ _ h. absurd (omega arith)) (λ _ _. refl)

  first_read : (times : ℕ) → (read_part l p times).error ≡ 0 → span_of l p times ≡ take times (entry_bytes l p)
  unfolding Nothing
  first_read zero h = ap (λ (n : ℕ). take n (drop (read_part l p 0).start l)) (none_read h)
  first_read (suc n) h = (cartridge.promises).first l p (suc n) (omega arith) h

  read_long : (times : ℕ) → length (span_of l p times) ≡ (read_part l p times).len
  unfolding Copied
  read_long times =
      let w = (read_copies l p times).0 in
      length-take-le _ _ (let d = length-drop (read_part l p times).start l in omega arith)

-- ---- 1001, 1002, and a closed session
module _ (k : Kept) (room : ℕ) (c : List ℕ) where
  still : (code : ℕ) → Unmoved k (silent code k)
  still code = record { reply = refl; notices = refl; next = refl }

  Taken : Answered → Type 0
  Taken a = (a.code ≡ 0) × (a.notices ≡ [])

  replied_taken : (o : Outcome Done) → Taken (replied k o)
  unfolding replied Taken
  replied_taken (refuse e) = (refl, refl)
  replied_taken (accept reply d) = (refl, refl)

  coded : (short good : Bool) → ltb room least_room ≡ short → keeps k.session ≡ good → (commanded k room c).code ≡ choose short 1001 (choose good 0 1002)
  unfolding commanded guarded Taken choose
  coded true good e g = rw (commanded, guarded, e)
  coded false false e g = rw (commanded, guarded, e, g)
  coded false true e g =
      rw (commanded, guarded, e, g) (by_test (λ (x : Answered). x.code ≡ 0) k.session.closed _ _ (λ _. refl) (λ _. (replied_taken (said k c)).0))

  Stopped : Answered → Type 0
  Stopped x = (x.code ≡ 0 → ⊥) → Unmoved k x

  stopped : Stopped (commanded k room c)
  unfolding commanded Stopped Taken
  stopped = by_guard Stopped k.session room _ _ (λ code _. still code) (λ _ n. absurd (n (replied_taken (said k c)).0))

  over : k.session.closed ≡ true → Unmoved k (commanded k room c)
  unfolding commanded
  over o = by_guard (Unmoved k) k.session room _ _ still (λ g. absurd (let h = g.opened in let z : ◌≡◌ {A = ℕ} 0 1 = cc in omega arith))

  quiet : (commanded k room c).notices ≡ []
  unfolding commanded Taken
  quiet = by_guard (λ (x : Answered). x.notices ≡ []) k.session room _ _ (λ _. refl) (λ _. (replied_taken (said k c)).1)

  pub spoken : Spoken k room → commanded k room c ≡ replied k (said k c)
  unfolding commanded
  spoken s = goes_on k.session room _ _ (record { roomy = s.roomy; valid = s.valid; opened = s.opened })

  -- ---- E22 in 18's place, then E5 in 4's
  free : (a : Bool) → choose a false false ≡ false
  unfolding choose
  free true = refl
  free false = refl

  verdict_bad : verdict k bare (in_record c) Request.Bad ≡ refuse 18
  unfolding verdict judge is_locked needs_login outcome choose
  verdict_bad = rw (verdict, is_locked, free k.session.login.authorized)

  unread : Spoken k room → rmt_command c ≡ None → commanded k room c ≡ saying (refused 22) k
  unfolding rmt_request replied error_of choose
  unread s b = spoken s ∙ rw (b, verdict_bad)

  tape_locked : (q : TapeRequest) → k.session.login.authorized ≡ false → verdict k bare (in_record c) (Request.Tape q) ≡ refuse 4
  unfolding verdict judge is_locked needs_login choose
  tape_locked q a = rw (verdict, is_locked, a)

  locked : (q : Option Command) → (q ≡ None → ⊥) → k.session.login.authorized ≡ false → verdict k bare (in_record c) (rmt_request q) ≡ refuse 4
  unfolding rmt_request
  locked (Some q) n a = tape_locked _ a
  locked None n a = absurd (n refl)

  stranger : Spoken k room → (rmt_command c ≡ None → ⊥) → k.session.login.authorized ≡ false → commanded k room c ≡ saying (refused 5) k
  unfolding replied error_of choose
  stranger s n a = spoken s ∙ rw (locked (rmt_command c) n a)

  -- ---- the reply
  -- what the number of an accepted reply tells, where it is 0
  Right : Request → Reply → Done → Type 0
  Right q reply d = number_of reply ≡ 0 → Tells k c q (counted_in reply).count (take (counted_in reply).len (drop (counted_in reply).start d.shown))

  device_right : (q : TapeRequest) → (q ≡ TapeRequest.State → ⊥)
      → Accepts (λ reply p. Right (Request.Tape q) reply (with_tape k (with_loaded (tape_part k) p)))
      (device_step (in_drive k.session.changer.slots) k.session.mover.state k.session.tape k.image q c)
  unfolding device_step tape_open tape_close tape_mtio tape_write tape_read Right counted_in number_of Written
  device_right (TapeRequest.Open name mode) n = accepts _ _ _ _ (λ _ _. tells_opened name mode)
  device_right TapeRequest.Close n = accepts _ _ _ _ (λ _ _. tells_closed)
  device_right TapeRequest.State n = absurd (n refl)
  device_right (TapeRequest.Mtio op times) n = accepts _ _ _ _ (λ _ _. tells_moved op times)
  device_right (TapeRequest.Write bytes) n = accepts _ _ _ _ (λ _ z. tells_written bytes _ (all_written k.image k.session.tape.position (bytes_at c bytes) z))
  device_right (TapeRequest.Read times) n =
      accepts _ _ _ _
      (λ _ z. tells_read times _ _ (first_read k.image k.session.tape.position times z) (sym (read_long k.image k.session.tape.position times)))

  tape_right : (q : TapeRequest) → (q ≡ TapeRequest.State → ⊥) → Accepts (Right (Request.Tape q)) (outcome k bare (in_record c) (Request.Tape q))
  unfolding outcome tape_step
  tape_right q n =
      carried (Right (Request.Tape q)) (with_tape k) _
      (carried (λ reply p. Right (Request.Tape q) reply (with_tape k p)) (with_loaded (tape_part k)) _ (device_right q n))

  -- no command is a get state
  no_state : (q : Command) → tape_request q ≡ TapeRequest.State → ⊥
  unfolding tape_request
  no_state (Command.Open name mode) e = let z : ◌≡◌ {A = ℕ} 0 1 = cc in omega arith
  no_state Command.Close e = let z : ◌≡◌ {A = ℕ} 0 1 = cc in omega arith
  no_state (Command.Read count) e = let z : ◌≡◌ {A = ℕ} 0 1 = cc in omega arith
  no_state (Command.Write bytes) e = let z : ◌≡◌ {A = ℕ} 0 1 = cc in omega arith
  no_state (Command.Operate op count) e = let z : ◌≡◌ {A = ℕ} 0 1 = cc in omega arith

  said_right : (q : Option Command) → Accepts (Right (rmt_request q)) (outcome k bare (in_record c) (rmt_request q))
  unfolding rmt_request outcome Accepts
  said_right (Some q) = tape_right _ (no_state q)
  said_right None = tt

  module _ (q : Request) where
    accepted_replies : (reply : Reply) (d : Done) → Good k q reply d → Right q reply d → Replies k c q (replied k (accept reply d))
    unfolding replied rmt_reply told error_of choose Right
    accepted_replies reply d g f = by_number (eqb (number_of reply) 0) (eqb (number_of reply) 12) (eqb (number_of reply) 13) refl refl refl
      where
        by_number : (a b e : Bool) → eqb (number_of reply) 0 ≡ a → eqb (number_of reply) 12 ≡ b → eqb (number_of reply) 13 ≡ e → Replies k c q (replied k (accept reply d))
        by_number true b e x y z = done _ _ (f (eqb-true (number_of reply) 0 x)) (rw x)
        by_number false true e x y z =
            let n = eqb-true (number_of reply) 12 y in
            let m = g.at_mark n in
            at_mark (rw n) (record { position = m.position; is = m.is; holds = m.holds })
        by_number false false true x y z =
            let n = eqb-true (number_of reply) 13 z in
            let m = g.at_end n in
            at_end (rw n) (record { position = m.position; is = m.is; holds = m.holds })
        by_number false false false x y z =
            absurd (g.fair (eqb-false (number_of reply) 0 x, eqb-false (number_of reply) 12 y, eqb-false (number_of reply) 13 z))

    replies_by : (o : Outcome Done) → Accepts (Good k q) o → Accepts (Right q) o → Refuses (λ e. is_number e ≡ true) o → Replies k c q (replied k o)
    unfolding Accepts Refuses replied
    replies_by (refuse e) g r f = refusal e f refl refl
    replies_by (accept reply d) g r f = accepted_replies reply d g r

  replies : Spoken k room → Replies k c (rmt_request (rmt_command c)) (commanded k room c)
  unfolding verdict
  replies s =
      let q = rmt_request (rmt_command c) in
      rw (spoken s)
      (replies_by q (said k c) (verdict_good k bare (in_record c) q) (judged_by (Right q) _ _ (λ _. said_right (rmt_command c))) (refusal_right k bare (in_record c) q))

  touched : Touched k (rmt_request (rmt_command c)) c (commanded k room c).next.image
  touched =
      let q = rmt_request (rmt_command c) in
      command_judged (λ (x : Kept). Touched k q c x.image) k room c (untouched refl) (verdict_touches k bare (in_record c) q)

-- ---- as a record that says the same
module _ (k : Kept) (l : Lent) (r c : List ℕ) where
  same_verdict : (q : TapeRequest) (p : Option Command) → SaysSame (body_of r) c q p → verdict k l r (Request.Tape q) ≡ verdict k bare (in_record c) (rmt_request p)
  unfolding verdict is_locked needs_login outcome tape_step device_step rmt_request tape_request
  same_verdict _ _ (opens name path mode e) = rw e
  same_verdict _ _ closes = refl
  same_verdict _ _ (reads count) = refl
  same_verdict _ _ (writes bytes sent e) = rw e
  same_verdict _ _ (operates op count) = refl

  -- notices change neither tape nor image
  Same : Kept → Answered → Type 0
  Same n a = (n.session.tape ≡ a.next.session.tape) × (n.image ≡ a.next.image)

  noticed_same : (n : Kept) (time why : ℕ) (x : Notice) (a : Answered) → Same n a → Same n (noticed time why x a)
  unfolding noticed Same
  noticed_same n time why x a h = by_test (Same n) (eqb why 0) _ _ (λ _. h) (λ _. h)

  settled_same : (q : Request) (o : Outcome Done) → Same (replied k o).next (settled k l.time r q o)
  unfolding replied settled Same
  settled_same q (refuse e) = (refl, refl)
  settled_same q (accept reply d) = noticed_same d.kept l.time d.mwhy _ _ (noticed_same d.kept l.time d.dwhy _ _ (refl, refl))

  replied_told : (o : Outcome Done) → (replied k o).reply ≡ told_as o
  unfolding replied told_as
  replied_told (refuse e) = refl
  replied_told (accept reply d) = refl

  as_tape : (q : TapeRequest) → Heard k l r → request_in r ≡ Request.Tape q → SaysSame (body_of r) c q (rmt_command c) → SaidAs k l r c
  unfolding judged is_close choose Same
  as_tape q h e s =
      let o : said k c ≡ verdict k l r (Request.Tape q) = sym (same_verdict q (rmt_command c) s) in
      let b : commanded k l.room c ≡ replied k (verdict k l r (Request.Tape q)) =
      spoken k l.room c (record { roomy = h.roomy; valid = h.valid; opened = h.opened }) ∙ ap (replied k) o in
      let a : answered k l r ≡ settled k l.time r (Request.Tape q) (verdict k l r (Request.Tape q)) = heard k l r h ∙ rw e refl in
      let m = settled_same (Request.Tape q) (verdict k l r (Request.Tape q)) in
      record {
        tape = ap (λ (x : Answered). x.next.session.tape) b ∙ m.0 ∙ sym (ap (λ (x : Answered). x.next.session.tape) a);
        image = ap (λ (x : Answered). x.next.image) b ∙ m.1 ∙ sym (ap (λ (x : Answered). x.next.image) a);
        reply = ap (λ (x : Answered). x.reply) b ∙ replied_told _ ∙ rw e refl;
      }

pub rmt_holds : RmtHolds
unfolding Stopped
rmt_holds =
    record {
      codes = λ k room c. coded k room c (ltb room least_room) (keeps k.session) refl refl;
      stopped = stopped;
      over = over;
      quiet = quiet;
      left = command_left;
      kept = command_kept;
      sound = command_sound;
      unread = unread;
      stranger = stranger;
      replies = replies;
      as_tape = as_tape;
      touched = touched;
    }
