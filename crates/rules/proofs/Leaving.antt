-- What each number leaves, and what writes to the cartridge: from what every request comes to. Assumes nothing.
use Prim.Native.Nat.{ℕ, ◌+◌, ◌^◌, ◌≤◌, ◌<◌}
use mathlib.Core.Bool.{Bool, true, false, not}
use mathlib.Core.List.{List, [], ◌∷◌}
use mathlib.Core.Path.{◌≡◌, refl, sym, ap, ◌∙◌}
use native.Mathlib.Omega.{arith}
use lib.ListN.{length}
use lib.Dec.{eqb, ltb}
use borrow.Author.Tests.{ne_eqb, eqb-true, le-ltb}
use Rattle.codes.specs.Codes.{errors, md5_auth, longest_record, not_authorized, illegal_arguments, illegal_state}
use Rattle.xdr.specs.Choose.{choose}
use Rattle.changer_elements.specs.Slots.{in_drive}
use Rattle.xdr.specs.Xdr.{same_bytes}
use Rattle.xdr.proofs.Tests.{by_test, yes}
use Rattle.xdr.proofs.Comparing.{same_is, is_same}
use Rattle.tape_image.specs.Image.{capacity, count, entry_len, faulty}
use Rattle.tape_spacing.specs.declared.Spaced.{Spaced}
use Rattle.tape_writing.specs.Writing.{room_for, written, with_marks}
use Rattle.tape_ops.specs.declared.Wrote.{Wrote}
use Rattle.tape_ops.specs.declared.Part.{Part}
use Rattle.tape_ops.specs.Step.{Step}
use Rattle.tape_ops.specs.Operations.{write_step, read_part, entry_part, mark_step, rewinds, mtio_step}
use Rattle.tape_ops.specs.Promises.{Refused}
use Rattle.tape_ops.proofs.Promises as cartridge
use Rattle.wire_frame.specs.Frame.{sequence_of, message_word, body_of}
use Rattle.wire_requests.specs.Within.{bytes_at}
use Rattle.wire_layouts.specs.declared.Text.{Text}
use Rattle.wire_requests.specs.declared.ConnectRequest.{ConnectRequest}
use Rattle.wire_requests.specs.declared.ConnectRequest.TheVariants as ConnectRequest
use Rattle.wire_requests.specs.declared.ConfigRequest.{ConfigRequest}
use Rattle.wire_requests.specs.declared.ConfigRequest.TheVariants as ConfigRequest
use Rattle.wire_requests.specs.declared.TapeRequest.{TapeRequest}
use Rattle.wire_requests.specs.declared.TapeRequest.TheVariants as TapeRequest
use Rattle.wire_requests.specs.declared.Request.{Request}
use Rattle.wire_requests.specs.declared.Request.TheVariants as Request
use Rattle.wire_replies.specs.declared.Reply.{Reply}
use Rattle.wire_replies.specs.declared.Reply.TheVariants as Reply
use Rattle.wire_replies.specs.declared.Notice.{Notice}
use Rattle.wire_replies.specs.declared.Notice.TheVariants as Notice
use Rattle.wire_replies.specs.Replies.{number_of, header_error, reply_bytes}
use Rattle.wire_replies.specs.Numbers.{place_of, number_in, body_in}
use Rattle.wire_replies.proofs.Numbers as numbers
use Rattle.rules_parts.specs.declared.types.Tape.{Tape}
use Rattle.rules.specs.Judge.{test, Outcome, refuse, accept, judge, onto, Accepts, Refuses}
use Rattle.rules_parts.specs.Parts.{with_parts, after_message, challenged_by, holds_tape}
use Rattle.tape_ops.specs.Answers.{is_refusal}
use Rattle.rules.specs.TapeService.{moved_to, after_mtio, protects, tape_open, tape_close, tape_state, tape_mtio, tape_write, tape_read}
use Rattle.rules.specs.TapeService.{device_step, with_loaded, with_mover, tape_step, mover_part_step}
use Rattle.rules.specs.Connection.{connect_open, client_auth, connect_step, auth_attributes, config_step}
use Rattle.rules.specs.Answer.{Kept, Lent, held, Answered, answered, judged, is_close, settled, verdict, needs_login, is_locked, outcome, refusing, is_unread}
use Rattle.rules.specs.Answer.{noticed, halting, closing, replying, Done, tape_part, with_data, with_part, with_tape, with_changer, with_login, with_ends, request_in}
use Rattle.rules.specs.Order.{is_one_of}
use Rattle.rules.specs.Calls.{Heard, is_run, is_done, is_number}
use Rattle.rules.specs.Leaving.{Leaving, AtMark, mark_read, mark_spaced, AtEnd, end_read, end_written, end_spaced, OtherFields}
use Rattle.rules.specs.Leaving.{no_body, zero_words, residue_word, InHeader, unknown_message, bad_body, before_login, Replied, Closes}
use Rattle.rules.specs.Leaving.{MayWrite, Touched, untouched, wrote, marked, CallsLeave}
use Rattle.rules.proofs.Login.{login_holds, control, info, attributes_asked, withdrawn_asked}
use Rattle.rules.proofs.Shelving.{shelving_holds}
use Rattle.rules.proofs.Environment.{stored, stores, environment_asked, unseen}
use Rattle.rules.proofs.JudgeLaws.{judged_by, accepts, accepts_any, accepts_map, accepts_both, refusal_says, carried}
use Rattle.rules.proofs.Numbers.{number_right, refusal_right, refusal_facts, off_to_start, after_moved}
use Rattle.rules.proofs.Services.{one_of}
use Rattle.rules.proofs.Calls.{heard, call_judged, call_holds, verdict_free}

-- ---- numbers
both : (a b : Bool) → choose a b false ≡ true → (a ≡ true) × (b ≡ true)
unfolding choose
both true b h = (refl, h)
both false b h = absurd (let z : ◌≡◌ {A = ℕ} 0 1 = cc in omega arith)

number_facts : (e : ℕ) → is_number e ≡ true → (is_one_of errors e ≡ true) × (is_refusal e ≡ true)
unfolding is_number
number_facts e h = both (is_one_of errors e) (is_refusal e) h

pub small_number : (e : ℕ) → is_number e ≡ true → e < 2 ^ 32
small_number e h =
    let z : (n : ℕ) → n < 27 → n < 2 ^ 32 = λ n s. omega arith in
    z e (one_of (λ (n : ℕ). n < 27) errors (
      omega arith,
      (
        omega arith,
        (
          omega arith,
          (
            omega arith,
            (
              omega arith,
              (
                omega arith,
                (
                  omega arith,
                  (
                    omega arith,
                    (omega arith, (omega arith, (omega arith, (omega arith, (omega arith, (omega arith, (omega arith, (omega arith, (omega arith, (omega arith, tt)))))))))),
                  ),
                ),
              ),
            ),
          ),
        ),
      ),
    ) e (number_facts e h).0)

small_outcome : (e : ℕ) → is_refusal e ≡ false → e < 2 ^ 32
unfolding is_refusal
small_outcome e =
    let P : Bool → Type 0 = λ (b : Bool). b ≡ false → e < 2 ^ 32 in
    by_test P (eqb e 0) _ _ (λ h _. let z = eqb-true e 0 h in omega arith)
    (λ _. by_test P (eqb e 12) _ _ (λ h _. let z = eqb-true e 12 h in omega arith) (λ _ h. let z = eqb-true e 13 (yes h) in omega arith))

facts_refusal : (e : ℕ) → is_refusal e ≡ false → Refused e → ⊥
unfolding is_refusal choose
facts_refusal e h f = let w = rw (ne_eqb e 0 f.0, ne_eqb e 12 f.1, ne_eqb e 13 f.2) at h in let z : ◌≡◌ {A = ℕ} 0 1 = cc in omega arith

-- a reply with the number 0 has nothing in its header
unheaded : (r : Reply) → number_of r ≡ 0 → header_error r ≡ 0
unfolding number_of header_error
unheaded (Reply.Header e) h = h
unheaded (Reply.Refused b e a) h = refl
unheaded Reply.Plain h = refl
unheaded Reply.Listening h = refl
unheaded Reply.ListeningTcp h = refl
unheaded Reply.ConnectionTypes h = refl
unheaded Reply.Challenge h = refl
unheaded (Reply.ServerInfo known) h = refl
unheaded Reply.ScsiState h = refl
unheaded Reply.Cdb h = refl
unheaded (Reply.Sense n key code qualifier) h = refl
unheaded (Reply.Check key code qualifier) h = refl
unheaded Reply.Elements h = refl
unheaded (Reply.TapeState file block) h = refl
unheaded (Reply.Mtio e residue) h = refl
unheaded (Reply.Wrote e count) h = refl
unheaded (Reply.Read e start len) h = refl
unheaded (Reply.DataState v) h = refl
unheaded Reply.Environment h = refl
unheaded (Reply.MoverState v) h = refl

-- ---- what the tape gives beside a number other than 0 is nothing
module _ (l : List ℕ) (p : ℕ) where
  Unwritten : Step Wrote → Type 0
  Unwritten s = (s.gives.error ≡ 0 → ⊥) → s.gives.count ≡ 0

  unwritten : (b : List ℕ) → Unwritten (write_step l p b)
  unfolding write_step Unwritten
  unwritten b =
      by_test Unwritten (ltb longest_record (length b)) _ _ (λ _ _. refl)
      (λ _. by_test Unwritten (faulty l p) _ _ (λ _ _. refl)
      (λ _. by_test Unwritten (eqb (length b) 0) _ _ (λ _ _. refl)
      (λ _. by_test Unwritten (room_for l p (length b)) _ _ (λ _ n. absurd (n refl)) (λ _ _. refl))))

  Unread : Part → Type 0
  Unread r = (r.error ≡ 0 → ⊥) → r.len ≡ 0

  unread : (times : ℕ) → Unread (read_part l p times)
  unfolding read_part entry_part Unread
  unread times =
      by_test Unread (ltb longest_record times) _ _ (λ _ _. refl)
      (λ _. by_test Unread (faulty l p) _ _ (λ _ _. refl)
      (λ _. by_test Unread (eqb times 0) _ _ (λ _ _. refl)
      (λ _. by_test Unread (eqb p (count l)) _ _ (λ _ _. refl)
      (λ _. by_test Unread (eqb (entry_len l p) 0) _ _ (λ _ _. refl) (λ _ n. absurd (n refl))))))

-- ---- what is passed on with the tape at a position of which P holds, and nothing else changed
pub record Moved (P : ℕ → Type 0) (k n : Kept) : Type 0 where
  pub position : ℕ
  pub is : n ≡ (let s = k.session in held (with_parts s s.login s.source s.mover (moved_to position s.tape) s.changer) k.image k.variables)
  pub holds : P position

moved_leaves : (P : ℕ → Type 0) (k n : Kept) → Moved P k n → Leaving P k (held (after_message n.session false) n.image n.variables)
moved_leaves P k n m =
    rw m.is
    (record {
      closed = refl;
      login = refl;
      source = refl;
      mover = refl;
      changer = refl;
      opened = refl;
      writable = refl;
      position = m.holds;
      image = refl;
      variables = refl;
      counter = refl;
      mark = refl;
    })

-- ---- an accepted request: its number is 0, or 12 or 13 with the tape moved
module _ (k : Kept) where
  pub record Good (q : Request) (reply : Reply) (d : Done) : Type 0 where
    pub fair : Refused (number_of reply) → ⊥
    pub small : number_of reply < 2 ^ 32
    pub bodied : header_error reply ≡ 0
    pub counter : d.kept.session.sequence ≡ k.session.sequence
    pub fields : (s t m c : ℕ) → (number_of reply ≡ 0 → ⊥) → OtherFields q (number_of reply) (body_in (reply_bytes s t m c reply d.shown))
    pub quiet : (number_of reply ≡ 0 → ⊥) → (d.dwhy ≡ 0) × (d.mwhy ≡ 0)
    pub at_mark : number_of reply ≡ 12 → Moved (AtMark k.image k.session.tape.position q) k d.kept
    pub at_end : number_of reply ≡ 13 → Moved (AtEnd k.image k.session.tape.position q) k d.kept

  zero_good : (q : Request) (reply : Reply) (d : Done) → d.kept.session.sequence ≡ k.session.sequence → number_of reply ≡ 0 → Good q reply d
  zero_good q reply d c z =
      record {
        fair = λ f. f.0 z;
        small = omega arith;
        bodied = unheaded reply z;
        counter = c;
        fields = λ _ _ _ _ n. absurd (n z);
        quiet = λ n. absurd (n z);
        at_mark = λ e. absurd (omega arith);
        at_end = λ e. absurd (omega arith);
      }

  -- MTIO, write and read
  tape_kept : (p : ℕ) (image : List ℕ) → image ≡ k.image
      → (with_tape k (with_loaded (tape_part k) (record { tape = moved_to p k.session.tape; image = image }))).kept
      ≡ (let s = k.session in held (with_parts s s.login s.source s.mover (moved_to p s.tape) s.changer) k.image k.variables)
  tape_kept p image e = ap (λ (x : List ℕ). (with_tape k (with_loaded (tape_part k) (record { tape = moved_to p k.session.tape; image = x }))).kept) e

  abbrev from : ℕ
  from = k.session.tape.position

  abbrev tape : List ℕ
  tape = k.image

  -- 6 has no outcome but 0, so that after another the tape is open
  not_off : (op times : ℕ) → is_refusal (mtio_step tape op from times).gives.error ≡ false → ((mtio_step tape op from times).gives.error ≡ 0 → ⊥) → op ≡ 6 → ⊥
  not_off op times h n z = n (ap (λ (s : Step Spaced). s.gives.error) (off_to_start tape op from times z h))

  mtio_kept : (op p : ℕ) (image : List ℕ) → (op ≡ 6 → ⊥) → image ≡ k.image
      → (with_tape k (with_loaded (tape_part k) (record { tape = after_mtio op p k.session.tape; image = image }))).kept
      ≡ (let s = k.session in held (with_parts s s.login s.source s.mover (moved_to p s.tape) s.changer) k.image k.variables)
  mtio_kept op p image n e =
      ap (λ (x : Tape). (with_tape k (with_loaded (tape_part k) (record { tape = x; image = image }))).kept) (after_moved op p k.session.tape n) ∙ tape_kept p image e

  mtio_good : (op times : ℕ) → (let s = mtio_step tape op from times in is_refusal s.gives.error ≡ false
      → Good (Request.Tape (TapeRequest.Mtio op times)) (Reply.Mtio s.gives.error s.gives.residue)
      (with_tape k (with_loaded (tape_part k) (record { tape = after_mtio op s.gives.position k.session.tape; image = s.image }))))
  unfolding number_of header_error
  mtio_good op times h =
      let s = mtio_step tape op from times in
      let o = (cartridge.promises).outcomes tape from in
      let leave = ((cartridge.promises).leave tape from).mtio op times in
      record {
        fair = facts_refusal _ h;
        small = small_outcome _ h;
        bodied = refl;
        counter = refl;
        fields = λ q t m c n. residue_word op times s.gives.residue refl (facts_refusal _ h) ((numbers.numbers_told).spaced q t m c _ _ _);
        quiet = λ _. (refl, refl);
        at_mark = λ e.
            record {
              position = s.gives.position;
              is = mtio_kept op s.gives.position s.image (not_off op times h (λ z. omega arith)) (leave (λ z. omega arith));
              holds = mark_spaced op times _ (o.mtio_mark op times e);
            };
        at_end = λ e.
            record {
              position = s.gives.position;
              is = mtio_kept op s.gives.position s.image (not_off op times h (λ z. omega arith)) (leave (λ z. omega arith));
              holds = end_spaced op times _ (o.mtio_end op times e);
            };
      }

  write_good : (bytes : Text) (body : List ℕ) → (let s = write_step tape from (bytes_at body bytes) in is_refusal s.gives.error ≡ false
      → Good (Request.Tape (TapeRequest.Write bytes)) (Reply.Wrote s.gives.error s.gives.count)
      (with_tape k (with_loaded (tape_part k) (record { tape = moved_to s.gives.position k.session.tape; image = s.image }))))
  unfolding number_of header_error Unwritten
  write_good bytes body h =
      let s = write_step tape from (bytes_at body bytes) in
      let o = (cartridge.promises).outcomes tape from in
      let leave = ((cartridge.promises).leave tape from).write (bytes_at body bytes) in
      record {
        fair = facts_refusal _ h;
        small = small_outcome _ h;
        bodied = refl;
        counter = refl;
        fields = λ q t m c n. zero_words 0 1 (rw (unwritten tape from (bytes_at body bytes) n) ((numbers.numbers_told).wrote q t m c _ _));
        quiet = λ _. (refl, refl);
        at_mark = λ e. absurd (o.write_mark (bytes_at body bytes) e);
        at_end = λ e.
            record {
              position = s.gives.position;
              is = tape_kept _ _ (leave (λ z. omega arith));
              holds = end_written bytes _ (o.write_end (bytes_at body bytes) e);
            };
      }

  read_good : (times : ℕ) → (let s = read_part tape from times in is_refusal s.error ≡ false
      → Good (Request.Tape (TapeRequest.Read times)) (Reply.Read s.error s.start s.len)
      (with_tape k (with_loaded (tape_part k) (record { tape = moved_to s.position k.session.tape; image = tape }))))
  unfolding number_of header_error Unread
  read_good times h =
      let s = read_part tape from times in
      let o = (cartridge.promises).outcomes tape from in
      record {
        fair = facts_refusal _ h;
        small = small_outcome _ h;
        bodied = refl;
        counter = refl;
        fields = λ q t m c n. zero_words 0 1 (rw (unread tape from times n) ((numbers.numbers_told).read q t m c _ _ _));
        quiet = λ _. (refl, refl);
        at_mark = λ e. record { position = s.position; is = refl; holds = (let w = o.read_mark times e in mark_read times _ w.0 w.1) };
        at_end = λ e. record { position = s.position; is = refl; holds = (let w = o.read_end times e in end_read times _ w.0 w.1) };
      }

module _ (k : Kept) (l : Lent) (r : List ℕ) where
  Counted : Reply → Done → Type 0
  Counted _ d = d.kept.session.sequence ≡ k.session.sequence

  counted : {A : Type 0} (put : A → Done) → ((p : A) → Counted Reply.Plain (put p)) → (o : Outcome A) → Accepts Counted (onto put o)
  unfolding Counted
  counted put f o = carried Counted put o (accepts_any (λ reply p. Counted reply (put p)) (λ _ p. f p) o)

  outcome_counted : (q : Request) → Accepts Counted (outcome k l r q)
  unfolding outcome Counted
  outcome_counted Request.Unknown = refusal_says Counted _
  outcome_counted Request.Bad = refusal_says Counted _
  outcome_counted (Request.Connect q) = counted (with_login k _) (λ _. refl) _
  outcome_counted (Request.Config q) = counted (with_login k _) (λ _. refl) _
  outcome_counted (Request.Scsi q) = counted (with_changer k _) (λ _. refl) _
  outcome_counted (Request.Tape q) = counted (with_tape k) (λ _. refl) _
  outcome_counted (Request.Data q) = counted (with_data k q _ _) (λ _. refl) _
  outcome_counted (Request.Mover q) = counted (with_part k _) (λ _. refl) _
  outcome_counted (Request.Joint q) = counted (with_ends k) (λ _. refl) _

  -- a request whose accepted replies have the number 0
  plain_good : (q : Request) → ((e : ℕ) → is_done q e ≡ true → e ≡ 0) → Accepts (Good k q) (verdict k l r q)
  unfolding Counted verdict
  plain_good q f =
      accepts_map (λ reply d. (is_done q (number_of reply) ≡ true) × Counted reply d) (Good k q) (λ reply d h. zero_good k q reply d h.1 (f _ h.0)) _
      (accepts_both (λ reply _. is_done q (number_of reply) ≡ true) Counted _ (number_right k l r q) (judged_by Counted _ _ (λ _. outcome_counted q)))

  zeroed : (e : ℕ) → eqb e 0 ≡ true → e ≡ 0
  zeroed e h = eqb-true e 0 h

  pub verdict_good : (q : Request) → Accepts (Good k q) (verdict k l r q)
  unfolding is_done is_run verdict outcome tape_step device_step tape_mtio tape_write tape_read
  verdict_good Request.Unknown = plain_good Request.Unknown (λ e h. absurd (let z : ◌≡◌ {A = ℕ} 0 1 = cc in omega arith))
  verdict_good Request.Bad = plain_good Request.Bad (λ e h. absurd (let z : ◌≡◌ {A = ℕ} 0 1 = cc in omega arith))
  verdict_good (Request.Connect q) = plain_good (Request.Connect q) zeroed
  verdict_good (Request.Config q) = plain_good (Request.Config q) zeroed
  verdict_good (Request.Scsi q) = plain_good (Request.Scsi q) zeroed
  verdict_good (Request.Tape (TapeRequest.Open name mode)) = plain_good (Request.Tape (TapeRequest.Open name mode)) zeroed
  verdict_good (Request.Tape TapeRequest.Close) = plain_good (Request.Tape TapeRequest.Close) zeroed
  verdict_good (Request.Tape TapeRequest.State) = plain_good (Request.Tape TapeRequest.State) zeroed
  verdict_good (Request.Tape (TapeRequest.Mtio op times)) =
      let P = Good k (Request.Tape (TapeRequest.Mtio op times)) in
      judged_by P _ _ (λ _. carried P (with_tape k) _ (carried (λ reply p. P reply (with_tape k p)) (with_loaded (tape_part k)) _
      (accepts (λ reply p. P reply (with_tape k (with_loaded (tape_part k) p))) _ _ _ (λ g. mtio_good k op times (g 3)))))
  verdict_good (Request.Tape (TapeRequest.Write bytes)) =
      let P = Good k (Request.Tape (TapeRequest.Write bytes)) in
      judged_by P _ _ (λ _. carried P (with_tape k) _ (carried (λ reply p. P reply (with_tape k p)) (with_loaded (tape_part k)) _
      (accepts (λ reply p. P reply (with_tape k (with_loaded (tape_part k) p))) _ _ _ (λ g. write_good k bytes (body_of r) (g 3)))))
  verdict_good (Request.Tape (TapeRequest.Read times)) =
      let P = Good k (Request.Tape (TapeRequest.Read times)) in
      judged_by P _ _ (λ _. carried P (with_tape k) _ (carried (λ reply p. P reply (with_tape k p)) (with_loaded (tape_part k)) _
      (accepts (λ reply p. P reply (with_tape k (with_loaded (tape_part k) p))) _ _ _ (λ g. read_good k times (g 3)))))
  verdict_good (Request.Data q) = plain_good (Request.Data q) zeroed
  verdict_good (Request.Mover q) = plain_good (Request.Mover q) zeroed
  verdict_good (Request.Joint q) = plain_good (Request.Joint q) zeroed

  -- ---- the number before login
  abbrev told_by : Outcome Done → ℕ
  told_by (refuse e) = e
  told_by (accept reply d) = number_of reply

  opens : (fresh four : Bool)
      → told_by (onto (with_login k []) (judge (test (not fresh) illegal_state ∷ test (not four) illegal_arguments ∷ []) (accept Reply.Plain k.session.login)))
      ≡ choose fresh (choose four 0 illegal_arguments) illegal_state
  unfolding onto judge number_of choose
  opens true true = refl
  opens true false = refl
  opens false four = refl

  proves : (right : Bool) → told_by (onto (with_login k []) (client_auth k.session.login right)) ≡ choose right 0 not_authorized
  unfolding client_auth onto judge number_of choose
  proves true = refl
  proves false = refl

  stranger_verdict : (q : Request) → k.session.login.authorized ≡ false → verdict k l r q ≡ choose (needs_login q) (refuse not_authorized) (outcome k l r q)
  unfolding verdict is_locked judge choose
  stranger_verdict q h = rw (verdict, is_locked, h)

  types_told : (c : List ℕ) (m : Bool)
      → told_by (onto (with_login k c) (choose m (accept Reply.Challenge (challenged_by c k.session.login)) (refuse illegal_arguments)))
      ≡ choose m 0 illegal_arguments
  unfolding onto number_of choose
  types_told c true = refl
  types_told c false = refl

  attributes_told : (c : List ℕ) (type : ℕ) → told_by (onto (with_login k c) (auth_attributes k.session.login c type)) ≡ choose (eqb type md5_auth) 0 illegal_arguments
  unfolding auth_attributes
  attributes_told c type = types_told c (eqb type md5_auth)

  unlocked_tells : (q : Request) → told_by (choose (needs_login q) (refuse not_authorized) (outcome k l r q)) ≡ before_login k l r q
  unfolding needs_login outcome connect_step connect_open config_step onto before_login number_of choose
  unlocked_tells Request.Unknown = refl
  unlocked_tells Request.Bad = refl
  unlocked_tells (Request.Connect (ConnectRequest.Open version)) = opens k.session.first (eqb version 4)
  unlocked_tells (Request.Connect (ConnectRequest.Md5Auth id digest)) = proves _
  unlocked_tells (Request.Connect ConnectRequest.OtherAuth) = refl
  unlocked_tells (Request.Connect ConnectRequest.Close) = refl
  unlocked_tells (Request.Config ConfigRequest.ConnectionType) = refl
  unlocked_tells (Request.Config (ConfigRequest.AuthAttributes type)) = attributes_told l.challenge type
  unlocked_tells (Request.Config ConfigRequest.ServerInfo) = refl
  unlocked_tells (Request.Scsi q) = refl
  unlocked_tells (Request.Tape q) = refl
  unlocked_tells (Request.Data q) = refl
  unlocked_tells (Request.Mover q) = refl
  unlocked_tells (Request.Joint q) = refl

  stranger_tells : (q : Request) → k.session.login.authorized ≡ false → told_by (verdict k l r q) ≡ before_login k l r q
  stranger_tells q h = ap told_by (stranger_verdict q h) ∙ unlocked_tells q

  -- ---- a request's reply
  abbrev Tells : Request → ℕ → Type 0
  Tells q e = k.session.login.authorized ≡ false → e ≡ before_login k l r q

  refusal_leaves : Leaving (λ p. p ≡ k.session.tape.position) k (held (after_message k.session false) k.image k.variables)
  refusal_leaves =
      record {
        closed = refl;
        login = refl;
        source = refl;
        mover = refl;
        changer = refl;
        opened = refl;
        writable = refl;
        position = refl;
        image = refl;
        variables = refl;
        counter = refl;
        mark = refl;
      }

  -- a refusal in the header, and one in the body
  header_replied : (q : Request) (e : ℕ) → is_number e ≡ true → Tells q e → InHeader q e → Replied k l r q (replying r l.time (Reply.Header e) [] k)
  unfolding number_of header_error
  header_replied q e n t i =
      let f = refusal_facts e (number_facts e n).1 in
      record {
        reply = Reply.Header e;
        shown = [];
        sent = refl;
        told = (numbers.numbers_told).told _ _ _ _ (Reply.Header e) [] (small_number e n);
        header = λ _. i;
        fields = λ _. no_body ((numbers.numbers_told).headed _ _ _ _ e []);
        quiet = λ _. refl;
        refused = λ _. refusal_leaves;
        at_mark = λ z. absurd (f.1 z);
        at_end = λ z. absurd (f.2 z);
        stranger = t;
      }

  body_replied : (q : Request) (b e a : ℕ) → is_number e ≡ true → Tells q e → Replied k l r q (replying r l.time (Reply.Refused b e a) [] k)
  unfolding number_of header_error
  body_replied q b e a n t =
      let f = refusal_facts e (number_facts e n).1 in
      record {
        reply = Reply.Refused b e a;
        shown = [];
        sent = refl;
        told = (numbers.numbers_told).told _ _ _ _ (Reply.Refused b e a) [] (small_number e n);
        header = λ n. absurd (n refl);
        fields = λ _. zero_words b a ((numbers.numbers_told).refused _ _ _ _ b e a []);
        quiet = λ _. refl;
        refused = λ _. refusal_leaves;
        at_mark = λ z. absurd (f.1 z);
        at_end = λ z. absurd (f.2 z);
        stranger = t;
      }

  -- 1 and 18 whatever the login
  unknown_is : (e : ℕ) → verdict k l r Request.Unknown ≡ refuse e → InHeader Request.Unknown e
  unfolding needs_login outcome
  unknown_is e v = let w = sym (verdict_free k l r Request.Unknown refl) ∙ v in let z : 1 ≡ e = cc in rw (← z) unknown_message

  bad_is : (e : ℕ) → verdict k l r Request.Bad ≡ refuse e → InHeader Request.Bad e
  unfolding needs_login outcome
  bad_is e v = let w = sym (verdict_free k l r Request.Bad refl) ∙ v in let z : 18 ≡ e = cc in rw (← z) bad_body

  refused_replied : (q : Request) (e : ℕ) → verdict k l r q ≡ refuse e → is_number e ≡ true → Tells q e → Replied k l r q (replying r l.time (refusing q r e) [] k)
  unfolding refusing is_unread choose
  refused_replied Request.Unknown e v f t = header_replied Request.Unknown e f t (unknown_is e v)
  refused_replied Request.Bad e v f t = header_replied Request.Bad e f t (bad_is e v)
  refused_replied (Request.Connect q) e v f t = body_replied (Request.Connect q) _ e _ f t
  refused_replied (Request.Config q) e v f t = body_replied (Request.Config q) _ e _ f t
  refused_replied (Request.Scsi q) e v f t = body_replied (Request.Scsi q) _ e _ f t
  refused_replied (Request.Tape q) e v f t = body_replied (Request.Tape q) _ e _ f t
  refused_replied (Request.Data q) e v f t = body_replied (Request.Data q) _ e _ f t
  refused_replied (Request.Mover q) e v f t = body_replied (Request.Mover q) _ e _ f t
  refused_replied (Request.Joint q) e v f t = body_replied (Request.Joint q) _ e _ f t

  -- notices leave the reply, and without reasons there are none
  pub noticed_reply : (time why : ℕ) (n : Notice) (a : Answered) → (noticed time why n a).reply ≡ a.reply
  unfolding noticed
  noticed_reply time why n a = by_test (λ (x : Answered). x.reply ≡ a.reply) (eqb why 0) _ _ (λ _. refl) (λ _. refl)

  unnoticed : (time why : ℕ) (n : Notice) (a : Answered) → why ≡ 0 → noticed time why n a ≡ a
  unfolding noticed choose
  unnoticed time why n a z = rw z

  accepted_replied : (q : Request) (reply : Reply) (d : Done) → Good k q reply d → Tells q (number_of reply)
      → Replied k l r q (halting l.time d.dwhy d.mwhy (replying r l.time reply d.shown d.kept))
  accepted_replied q reply d g t =
      let a = replying r l.time reply d.shown d.kept in
      let h = halting l.time d.dwhy d.mwhy a in
      let first = noticed l.time d.dwhy (Notice.DataHalted d.dwhy) a in
      let same : h.reply ≡ a.reply =
      noticed_reply l.time d.mwhy (Notice.MoverHalted d.mwhy) first ∙ noticed_reply l.time d.dwhy (Notice.DataHalted d.dwhy) a in
      let alone : (number_of reply ≡ 0 → ⊥) → h ≡ a =
      λ n. unnoticed l.time d.mwhy (Notice.MoverHalted d.mwhy) first (g.quiet n).1
      ∙ unnoticed l.time d.dwhy (Notice.DataHalted d.dwhy) a (g.quiet n).0 in
      record {
        reply = reply;
        shown = d.shown;
        sent = same ∙ ap (λ (s : ℕ). reply_bytes s l.time (message_word r) (sequence_of r) reply d.shown) g.counter;
        told = ap (number_in (place_of reply)) same ∙ (numbers.numbers_told).told _ _ _ _ reply d.shown g.small;
        header = λ n. absurd (n g.bodied);
        fields = λ n. rw same (g.fields _ _ _ _ n);
        quiet = λ n. ap (λ (x : Answered). x.notices) (alone n);
        refused = λ f. absurd (g.fair f);
        at_mark = λ e. rw (alone (λ z. omega arith)) (moved_leaves _ k d.kept (g.at_mark e));
        at_end = λ e. rw (alone (λ z. omega arith)) (moved_leaves _ k d.kept (g.at_end e));
        stranger = t;
      }

  settled_replied : (q : Request) (o : Outcome Done) → verdict k l r q ≡ o → Accepts (Good k q) o → Refuses (λ e. is_number e ≡ true) o → Tells q (told_by o)
      → Replied k l r q (settled k l.time r q o)
  unfolding settled Accepts Refuses
  settled_replied q (refuse e) v g f t = refused_replied q e v f t
  settled_replied q (accept reply d) v g f t = accepted_replied q reply d g t

  judged_replied : (q : Request) → is_close q ≡ false → Replied k l r q (judged k l r q)
  unfolding judged choose
  judged_replied q c = rw (judged, c) (settled_replied q (verdict k l r q) refl (verdict_good q) (refusal_right k l r q) (stranger_tells q))

  unclosed : (q : Request) → (q ≡ Request.Connect ConnectRequest.Close → ⊥) → is_close q ≡ false
  unfolding is_close
  unclosed Request.Unknown n = refl
  unclosed Request.Bad n = refl
  unclosed (Request.Connect (ConnectRequest.Open version)) n = refl
  unclosed (Request.Connect (ConnectRequest.Md5Auth id digest)) n = refl
  unclosed (Request.Connect ConnectRequest.OtherAuth) n = refl
  unclosed (Request.Connect ConnectRequest.Close) n = absurd (n refl)
  unclosed (Request.Config q) n = refl
  unclosed (Request.Scsi q) n = refl
  unclosed (Request.Tape q) n = refl
  unclosed (Request.Data q) n = refl
  unclosed (Request.Mover q) n = refl
  unclosed (Request.Joint q) n = refl

  replied : Heard k l r → (request_in r ≡ Request.Connect ConnectRequest.Close → ⊥) → Replied k l r (request_in r) (answered k l r)
  replied h n = rw (heard k l r h) (judged_replied (request_in r) (unclosed (request_in r) n))

  closing_closes : Closes k (closing k)
  closing_closes =
      record {
        reply = refl;
        notices = refl;
        closed = refl;
        first = refl;
        login = refl;
        counter = refl;
        source = refl;
        mover = refl;
        tape = refl;
        changer = refl;
        image = refl;
        variables = refl;
      }

  closes : Heard k l r → request_in r ≡ Request.Connect ConnectRequest.Close → Closes k (answered k l r)
  unfolding judged is_close choose
  closes h e = rw (heard k l r h, e) closing_closes

-- ---- what writes to the cartridge
module _ (k : Kept) (l : Lent) (r : List ℕ) where
  abbrev at : ℕ
  at = k.session.tape.position

  TouchedBy : Request → Reply → Done → Type 0
  TouchedBy q _ d = Touched k q (body_of r) d.kept.image

  left : (q : Request) {A : Type 0} (put : A → Done) → ((p : A) → (put p).kept.image ≡ k.image) → (o : Outcome A) → Accepts (TouchedBy q) (onto put o)
  unfolding TouchedBy
  left q put f o = carried (TouchedBy q) put o (accepts_any (λ reply p. TouchedBy q reply (put p)) (λ _ p. untouched (f p)) o)

  mover_untouched : (q : Request) → Touched k q (body_of r) k.image
  mover_untouched q = untouched refl

  -- whoever passed the tests may write
  held_not : (state : ℕ) → holds_tape state ≡ false → (state ≡ 1 → ⊥) × (state ≡ 2 → ⊥)
  unfolding holds_tape choose
  held_not state h =
      (λ z. let w = rw z at h in absurd (let z : ◌≡◌ {A = ℕ} 0 1 = cc in omega arith), λ z. let w = rw z at h in absurd (let z : ◌≡◌ {A = ℕ} 0 1 = cc in omega arith))

  may_write : k.session.login.authorized ≡ true → k.session.tape.opened ≡ true → k.session.tape.writable ≡ true → holds_tape k.session.mover.state ≡ false
      → MayWrite k.session
  may_write a o w h = let n = held_not k.session.mover.state h in record { known = a; opened = o; writable = w; not_listening = n.0; not_active = n.1 }

  WriteTouches : Text → Step Wrote → Type 0
  WriteTouches bytes s = Touched k (Request.Tape (TapeRequest.Write bytes)) (body_of r) s.image

  write_touches : (bytes : Text) → MayWrite k.session → WriteTouches bytes (write_step k.image at (bytes_at (body_of r) bytes))
  unfolding write_step WriteTouches
  write_touches bytes m =
      let P = WriteTouches bytes in
      let b = bytes_at (body_of r) bytes in
      by_test P (ltb longest_record (length b)) _ _ (λ _. untouched refl)
      (λ _. by_test P (faulty k.image at) _ _ (λ _. untouched refl)
      (λ _. by_test P (eqb (length b) 0) _ _ (λ _. untouched refl)
      (λ _. by_test P (room_for k.image at (length b)) _ _ (λ e. wrote bytes refl m e refl) (λ _. untouched refl))))

  MtioTouches : ℕ → ℕ → Step Spaced → Type 0
  MtioTouches op times s = Touched k (Request.Tape (TapeRequest.Mtio op times)) (body_of r) s.image

  marks_touch : (op times : ℕ) → op ≡ 5 → MayWrite k.session → MtioTouches op times (mark_step k.image at times)
  unfolding mark_step MtioTouches
  marks_touch op times e m =
      by_test (MtioTouches op times) (ltb (capacity k.image) (at + times)) _ _ (λ _. untouched refl)
      (λ _. marked times (ap (λ (o : ℕ). Request.Tape (TapeRequest.Mtio o times)) e) m refl)

  mtio_touches : (op times : ℕ) → (op ≡ 5 → MayWrite k.session) → MtioTouches op times (mtio_step k.image op at times)
  unfolding mtio_step MtioTouches
  mtio_touches op times m =
      let P = MtioTouches op times in
      by_test P (ltb 6 op) _ _ (λ _. untouched refl)
      (λ _. by_test P (faulty k.image at) _ _ (λ _. untouched refl)
      (λ _. by_test P (eqb op 5) _ _ (λ e. let z = eqb-true op 5 e in marks_touch op times z (m z))
      (λ _. by_test P (rewinds op) _ _ (λ _. untouched refl) (λ _. untouched refl))))

  unprotected : (op : ℕ) (w : Bool) → op ≡ 5 → protects op w ≡ false → w ≡ true
  unfolding protects choose
  unprotected op w e h = let g = rw e at h in yes g

  device_touches : (q : TapeRequest) → k.session.login.authorized ≡ true
      → Accepts (λ reply p. TouchedBy (Request.Tape q) reply (with_tape k (with_loaded (tape_part k) p)))
      (device_step (in_drive k.session.changer.slots) k.session.mover.state k.session.tape k.image q (body_of r))
  unfolding device_step tape_open tape_close tape_state tape_mtio tape_write tape_read TouchedBy WriteTouches MtioTouches
  device_touches (TapeRequest.Open name mode) a = accepts _ _ _ _ (λ _. untouched refl)
  device_touches TapeRequest.Close a = accepts _ _ _ _ (λ _. untouched refl)
  device_touches TapeRequest.State a = accepts _ _ _ _ (λ _. untouched refl)
  device_touches (TapeRequest.Mtio op times) a =
      accepts _ _ _ _ (λ g. mtio_touches op times (λ e. may_write a (yes (g 0)) (unprotected op _ e (g 2)) (g 1)))
  device_touches (TapeRequest.Write bytes) a = accepts _ _ _ _ (λ g. write_touches bytes (may_write a (yes (g 0)) (yes (g 2)) (g 1)))
  device_touches (TapeRequest.Read times) a = accepts _ _ _ _ (λ _. untouched refl)

  logged : (b : Bool) → choose b false true ≡ false → b ≡ true
  unfolding choose
  logged true h = refl
  logged false h = absurd (let z : ◌≡◌ {A = ℕ} 0 1 = cc in omega arith)

  outcome_touches : (q : Request) → is_locked k.session.login q ≡ false → Accepts (TouchedBy q) (outcome k l r q)
  unfolding is_locked needs_login outcome tape_step mover_part_step TouchedBy
  outcome_touches Request.Unknown h = refusal_says (TouchedBy Request.Unknown) _
  outcome_touches Request.Bad h = refusal_says (TouchedBy Request.Bad) _
  outcome_touches (Request.Connect q) h = left (Request.Connect q) (with_login k _) (λ _. refl) _
  outcome_touches (Request.Config q) h = left (Request.Config q) (with_login k _) (λ _. refl) _
  outcome_touches (Request.Scsi q) h = left (Request.Scsi q) (with_changer k _) (λ _. refl) _
  outcome_touches (Request.Tape q) h =
      carried (TouchedBy (Request.Tape q)) (with_tape k) _
      (carried (λ reply p. TouchedBy (Request.Tape q) reply (with_tape k p)) (with_loaded (tape_part k)) _ (device_touches q (logged _ h)))
  outcome_touches (Request.Data q) h = left (Request.Data q) (with_data k q _ _) (λ _. refl) _
  outcome_touches (Request.Mover q) h =
      carried (TouchedBy (Request.Mover q)) (with_part k _) _ (carried (λ reply p. TouchedBy (Request.Mover q) reply (with_part k l.addresses p)) (with_mover (tape_part k)) _
      (accepts_any (λ reply p. TouchedBy (Request.Mover q) reply (with_part k l.addresses (with_mover (tape_part k) p))) (λ _ _. mover_untouched (Request.Mover q)) _))
  outcome_touches (Request.Joint q) h = left (Request.Joint q) (with_ends k) (λ _. refl) _

  pub verdict_touches : (q : Request) → Accepts (λ _ d. Touched k q (body_of r) d.kept.image) (verdict k l r q)
  unfolding verdict TouchedBy
  verdict_touches q = judged_by (TouchedBy q) _ _ (λ g. outcome_touches q (g 0))

  touched : Touched k (request_in r) (body_of r) (answered k l r).next.image
  touched =
      call_judged (λ (x : Kept). Touched k (request_in r) (body_of r) x.image) (λ x _ h. h) (λ x h. h) k l r (untouched refl) (verdict_touches (request_in r))

-- ---- who may write does
held_free : (state : ℕ) → (state ≡ 1 → ⊥) → (state ≡ 2 → ⊥) → holds_tape state ≡ false
unfolding holds_tape choose
held_free state a b = rw (holds_tape, ne_eqb state 1 a, ne_eqb state 2 b)

write_does : (l : List ℕ) (p : ℕ) (b : List ℕ) → faulty l p ≡ false → (length b ≡ 0 → ⊥) → length b ≤ longest_record → room_for l p (length b) ≡ true
    → write_step l p b ≡ record { gives = record { error = 0; count = length b; position = p + 1 }; image = written l p b }
unfolding write_step choose
write_does l p b f n s r = rw (write_step, le-ltb longest_record (length b) s, f, ne_eqb (length b) 0 n, r)

marks_do : (l : List ℕ) (p times : ℕ) → faulty l p ≡ false → p + times ≤ capacity l
    → mtio_step l 5 p times ≡ record { gives = record { error = 0; position = p + times; residue = 0 }; image = with_marks l p times }
unfolding mtio_step mark_step choose
marks_do l p times f c = rw (mtio_step, f, mark_step, le-ltb (capacity l) (p + times) c)

module _ (k : Kept) (l : Lent) (r : List ℕ) (h : Heard k l r) (m : MayWrite k.session) where
  -- a tape request's verdict is its service's
  verdict_tape : (q : TapeRequest) → verdict k l r (Request.Tape q) ≡ outcome k l r (Request.Tape q)
  unfolding verdict is_locked judge needs_login choose
  verdict_tape q = rw (verdict, is_locked, m.known)

  writes : (bytes : Text) → request_in r ≡ Request.Tape (TapeRequest.Write bytes) → faulty k.image k.session.tape.position ≡ false
      → (length (bytes_at (body_of r) bytes) ≡ 0 → ⊥) → length (bytes_at (body_of r) bytes) ≤ longest_record
      → room_for k.image k.session.tape.position (length (bytes_at (body_of r) bytes)) ≡ true
      → (answered k l r).next.image ≡ written k.image k.session.tape.position (bytes_at (body_of r) bytes)
  unfolding judged is_close settled outcome tape_step device_step tape_write judge onto is_refusal noticed choose
  writes bytes q f n s w =
      rw (
        heard k l r h,
        q,
        judged,
        verdict_tape (TapeRequest.Write bytes),
        write_does k.image k.session.tape.position (bytes_at (body_of r) bytes) f n s w,
        m.opened,
        held_free k.session.mover.state m.not_listening m.not_active,
        m.writable,
      )

  marks : (times : ℕ) → request_in r ≡ Request.Tape (TapeRequest.Mtio 5 times) → faulty k.image k.session.tape.position ≡ false
      → k.session.tape.position + times ≤ capacity k.image
      → (answered k l r).next.image ≡ with_marks k.image k.session.tape.position times
  unfolding judged is_close settled outcome tape_step device_step tape_mtio protects judge onto is_refusal noticed choose
  marks times q f c =
      rw (
        heard k l r h,
        q,
        judged,
        verdict_tape (TapeRequest.Mtio 5 times),
        marks_do k.image k.session.tape.position times f c,
        m.opened,
        held_free k.session.mover.state m.not_listening m.not_active,
        m.writable,
      )

pub calls_leave : CallsLeave
calls_leave =
    record {
      replied = replied;
      closes = closes;
      login = login_holds;
      control = control;
      info = info;
      attributes = attributes_asked;
      withdrawn = withdrawn_asked;
      touched = touched;
      writes = record { write = λ k l r bytes h q m. writes k l r h m bytes q; marks = λ k l r times h q m. marks k l r h m times q };
      stored = stored;
      stores = stores;
      environment = environment_asked;
      shelving = shelving_holds;
      unseen = λ k l r other. unseen k other l r;
    }
