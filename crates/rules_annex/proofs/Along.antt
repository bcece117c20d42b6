-- Where a recover stands, in all states of the mover, and that every call beside its moves keeps it there. Assumes nothing.
use Prim.Native.Nat.{ℕ, ◌+◌, ◌*◌, ◌/◌, ◌%◌, ◌≤◌, ◌<◌}
use mathlib.Core.Bool.{Bool, true, false}
use mathlib.Core.List.{List, []}
use mathlib.Core.Path.{◌≡◌, refl, sym, ap, ◌∙◌}
use native.Mathlib.Omega.{arith}
use native.Mathlib.Nat.{mul-le-mul_right}
use lib.ListN.{length}
use lib.Dec.{eqb, ltb}
use borrow.Author.Tests.{ltb-true, ltb-false, eqb-true}
use Rattle.xdr.specs.Choose.{choose}
use Rattle.xdr.proofs.Tests.{by_test, is, isnt}
use Rattle.tape_ops.specs.Step.{Step, keeping}
use Rattle.wire_requests.specs.declared.MoverRequest.{MoverRequest}
use Rattle.wire_requests.specs.declared.MoverRequest.TheVariants as MoverRequest
use Rattle.wire_requests.specs.declared.JointRequest.{JointRequest}
use Rattle.wire_requests.specs.declared.JointRequest.TheVariants as JointRequest
use Rattle.wire_requests.specs.declared.Request.{Request}
use Rattle.wire_requests.specs.declared.Request.TheVariants as Request
use Rattle.wire_replies.specs.declared.Reply.{Reply}
use Rattle.rules_parts.specs.declared.types.Data.{Data}
use Rattle.rules_parts.specs.declared.types.Mover.{Mover}
use Rattle.rules_parts.specs.declared.types.Tape.{Tape}
use Rattle.rules_parts.specs.declared.types.Session.{Session}
use Rattle.rules.specs.declared.Ends.{Ends}
use Rattle.rules.specs.Judge.{Outcome, onto, Accepts}
use Rattle.rules_parts.specs.Parts.{mover_listens, mover_runs, mover_pauses, mover_halts, mover_window, mover_seeks, data_partnered, mover_partnered, window_end}
use Rattle.rules.specs.MoverService.{mover_state, mover_listen, mover_continue, mover_stop, busy, set_window, mover_read, set_size, mover_step}
use Rattle.rules.specs.TapeService.{with_loaded, with_mover, mover_part_step, tape_step}
use Rattle.rules.specs.Joint.{data_connect, mover_connect, data_aborted, data_abort, mover_aborted, mover_abort, mover_closed, mover_close, joint_step}
use Rattle.rules.specs.Relation.{keeps, MoverKept}
use Rattle.rules.specs.Answer.{Kept, Lent, Answered, answered, is_close, outcome, request_in, Done, tape_part, with_data, with_part, with_tape, with_changer, with_login, with_ends}
use Rattle.rules.specs.Order.{Call}
use Rattle.rules.proofs.JudgeLaws.{accepts, accepts_any, accepts_map, refusal_says, carried}
use Rattle.rules_parts.proofs.Ending.{length_right}
use Rattle.rules.proofs.Kept.{mover_kept}
use Rattle.rules.proofs.Keeping.{clash, listen_holds, mover_awaits_lem, met}
use Rattle.rules.proofs.Guarding.{by_guard}
use Rattle.rules.proofs.Calls.{kept_facts, close_is}
use Rattle.rules_moves.specs.declared.Move.{Move}
use Rattle.rules_moves.specs.Moves.{idle, stream_ends, scant, writing, filling, to_tape, halts_with, method_end, made_at, lost_at}
use Rattle.rules_moves.specs.Events.{Moving, moved_to_tape, method_ended, connection_made, connection_lost}
use Rattle.rules_moves.specs.Sequence.{Asked, ToTape, Ended, Made, Lost, step}
use Rattle.rules_moves.proofs.Asking.{call_noted}
use Rattle.rules_moves.proofs.Moving.{times, running, some_taken, by_address}
use Rattle.rules_moves.proofs.Sequence.{Carries, announced_carries}
use Rattle.rules_annex.specs.Aside.{Aside}
use Rattle.rules_annex.specs.RoundTrip.{Noted, Window, Read, Reset, Other, mover_note, note, noted, InTurn, asked_after, end_after}
use Rattle.rules_annex.proofs.Calls.{aside_stays}

-- the window in force: it ends at `end`, and what has been handed over reaches into it
pub record Ahead (offset length end given : ℕ) : Type 0 where
  pub ends : window_end offset length ≡ end
  pub from : offset ≤ given
  pub to : given ≤ end

-- the mover, and the tape's position
pub record Along (size asked end given : ℕ) (m : Mover) (p : ℕ) : Type 0 where
  pub sized : m.size ≡ size
  pub seeks : m.seek ≡ given
  pub lefts : m.seek + m.left ≡ asked
  -- the tape stands after the record that the last byte was in
  pub low : given ≤ p * size
  pub high : p * size < given + size
  pub window : (m.length ≡ 0 → ⊥) → Ahead m.offset m.length end given
  -- a window that has not been run begins where the next byte is
  pub fresh : (m.length ≡ 0 → ⊥) → (m.state ≡ 2 → ⊥) → (m.state ≡ 4 → ⊥) → m.offset ≡ given
  pub origin : m.state ≡ 2 → m.origin * size ≡ m.offset

-- ---- whole records
on_record_by : (size p q g : ℕ) → q * size ≡ g → g ≤ p * size → p * size < g + size → (b : Bool) → ltb q p ≡ b → p * size ≡ g
on_record_by size p q g e lo hi true h =
    let lt : q < p = ltb-true q p h in
    let le : (q + 1) * size ≤ p * size = mul-le-mul_right size (omega arith) in
    absurd (omega arith)
on_record_by size p q g e lo hi false h =
    let ge : p ≤ q = ltb-false q p h in
    let le : p * size ≤ q * size = mul-le-mul_right size ge in
    omega arith

on_record : (size p g : ℕ) → g % size ≡ 0 → g ≤ p * size → p * size < g + size → p * size ≡ g
on_record size p g e lo hi = on_record_by size p (g / size) g (times g size e) lo hi (ltb (g / size) p) refl

-- ---- the changes of the mover
module _ (size asked end given : ℕ) (m : Mover) (p : ℕ) (a : Along size asked end given m p) where
  pub halts_along : (why : ℕ) → Along size asked end given (mover_halts why m) p
  halts_along why =
      record {
        sized = a.sized;
        seeks = a.seeks;
        lefts = a.lefts;
        low = a.low;
        high = a.high;
        window = a.window;
        fresh = λ _ _ n. absurd (n refl);
        origin = λ e. absurd (omega arith);
      }

  pub pauses_along : (why : ℕ) → Along size asked end given (mover_pauses why m) p
  pauses_along why =
      record {
        sized = a.sized;
        seeks = a.seeks;
        lefts = a.lefts;
        low = a.low;
        high = a.high;
        window = λ n. absurd (n refl);
        fresh = λ n. absurd (n refl);
        origin = λ e. absurd (omega arith);
      }

  listens_along : (mode address : ℕ) → m.state ≡ 0 → Along size asked end given (mover_listens mode address m) p
  listens_along mode address e =
      record {
        sized = a.sized;
        seeks = a.seeks;
        lefts = a.lefts;
        low = a.low;
        high = a.high;
        window = a.window;
        fresh = λ n _ _. a.fresh n (λ z. omega arith) (λ z. omega arith);
        origin = λ z. absurd (omega arith);
      }

  runs_along : (mode address : ℕ) (t : Tape) → MoverKept m t → (m.length ≡ 0 → ⊥) → (m.state ≡ 2 → ⊥) → (m.state ≡ 4 → ⊥) → Along size asked end given (mover_runs mode address p m) p
  runs_along mode address t k some n2 n4 =
      let o : m.offset ≡ given = a.fresh some n2 n4 in
      let z : given % size ≡ 0 = rw (← a.sized, ← o) (k.window some).offsets in
      record {
        sized = a.sized;
        seeks = a.seeks;
        lefts = a.lefts;
        low = a.low;
        high = a.high;
        window = a.window;
        fresh = λ _ n. absurd (n refl);
        origin = λ _. on_record size p given z a.low a.high ∙ sym o;
      }

  window_along : (offset length : ℕ) → (m.state ≡ 2 → ⊥) → offset ≤ window_end offset length → offset ≡ end → end ≡ given
      → Along size asked (window_end offset length) given (mover_window offset length m) p
  window_along offset length n s e f =
      record {
        sized = a.sized;
        seeks = a.seeks;
        lefts = a.lefts;
        low = a.low;
        high = a.high;
        window = λ _. record { ends = refl; from = omega arith; to = omega arith };
        fresh = λ _ _ _. e ∙ f;
        origin = λ z. absurd (n z);
      }

  seeks_along : (offset length : ℕ) → m.left ≡ 0 → offset ≡ asked → Along size (asked + length) end given (mover_seeks offset length m) p
  seeks_along offset length z e =
      record {
        sized = a.sized;
        seeks = (let s = a.seeks in let l = a.lefts in omega arith);
        lefts = ap (λ (k : ℕ). k + length) e;
        low = a.low;
        high = a.high;
        window = a.window;
        fresh = a.fresh;
        origin = a.origin;
      }

-- ---- the mover's requests and the joint ones, where they are accepted and stand in their turn
not_active : (state : ℕ) → busy state ≡ false → state ≡ 2 → ⊥
unfolding busy choose
not_active state h e = clash true (rw e at h) refl

module _ (size asked end given : ℕ) (m : Mover) (t : Tape) (a : Along size asked end given m t.position) (kept : MoverKept m t) where
  Goes : Noted → Mover → Type 0
  Goes x n = InTurn asked end given x → Along size (asked_after asked x) (end_after end x) given n t.position

  MoverGoes : Noted → Reply → Mover → Type 0
  MoverGoes x _ n = Goes x n

  mover_along : (q : MoverRequest) (list : List ℕ) → Accepts (MoverGoes (mover_note q)) (mover_step m t q list)
  unfolding mover_step mover_state mover_listen mover_continue mover_stop set_window mover_read set_size mover_note MoverGoes Goes asked_after end_after
  mover_along MoverRequest.State list = accepts (MoverGoes Other) _ _ _ (λ _ _. a)
  mover_along (MoverRequest.Listen mode address) list = accepts (MoverGoes Other) _ _ _ (λ g _. listens_along size asked end given m _ a mode address (is (g 1)))
  mover_along MoverRequest.Continue list =
      accepts (MoverGoes Other) _ _ _
      (λ g _. let e : m.state ≡ 3 = is (g 1) in runs_along size asked end given m _ a m.mode m.address t kept (isnt (g 3)) (λ z. omega arith) (λ z. omega arith))
  mover_along MoverRequest.Stop list = accepts (MoverGoes Reset) _ _ _ (λ _ z. absurd z)
  mover_along (MoverRequest.Window offset length) list =
      accepts (MoverGoes (Window offset length)) _ _ _
      (λ g z. window_along size asked end given m _ a offset length (not_active m.state (g 0)) (length_right m.size offset length (g 4)).starts z.0 z.1)
  mover_along (MoverRequest.Read offset length) list =
      accepts (MoverGoes (Read offset length)) _ _ _ (λ g z. seeks_along size asked end given m _ a offset length (is (g 4)) z)
  mover_along (MoverRequest.Size n) list = accepts (MoverGoes Reset) _ _ _ (λ _ z. absurd z)

  EndsGo : Ends → Type 0
  EndsGo e = Along size asked end given e.mover t.position

  joint_along : (d : Data) (q : JointRequest) (made : Bool) → Accepts (λ _ e. EndsGo e) (joint_step d m t q made)
  unfolding joint_step data_abort data_connect mover_abort mover_close mover_connect data_aborted mover_aborted mover_closed EndsGo
  joint_along d JointRequest.DataAbort made =
      accepts (λ _ e. EndsGo e) _ _ _ (λ _. by_test EndsGo (data_partnered d) _ _ (λ _. halts_along size asked end given m _ a 1) (λ _. a))
  joint_along d (JointRequest.DataConnect address count) made =
      accepts (λ _ e. EndsGo e) _ _ _
      (λ g. by_test EndsGo (eqb address 1) _ _ (λ _. a)
      (λ z. let e : m.state ≡ 1 = mover_awaits_lem m (met address _ made (g 2) z) in
      runs_along size asked end given m _ a m.mode 0 t kept (kept.hold (listen_holds m.state e)).window (λ z. omega arith) (λ z. omega arith)))
  joint_along d JointRequest.MoverAbort made =
      let h = halts_along size asked end given m _ a 2 in
      accepts (λ _ e. EndsGo e) _ _ _ (λ _. by_test EndsGo (mover_partnered m) _ _ (λ _. h) (λ _. h))
  joint_along d JointRequest.MoverClose made =
      let h = halts_along size asked end given m _ a 1 in
      accepts (λ _ e. EndsGo e) _ _ _ (λ _. by_test EndsGo (mover_partnered m) _ _ (λ _. h) (λ _. h))
  joint_along d (JointRequest.MoverConnect mode address count) made =
      accepts (λ _ e. EndsGo e) _ _ _
      (λ g. let e : m.state ≡ 0 = is (g 1) in
      by_test EndsGo (eqb address 1) _ _
      (λ _. runs_along size asked end given m _ a mode 1 t kept (isnt (g 4)) (λ z. omega arith) (λ z. omega arith))
      (λ _. runs_along size asked end given m _ a mode 0 t kept (isnt (g 4)) (λ z. omega arith) (λ z. omega arith)))

facts : (s : Session) → keeps s ≡ true → MoverKept s.mover s.tape
facts s h = mover_kept s.mover s.tape (kept_facts s h).mover

-- ---- a request call; the tape's position is the one before
module _ (size asked end given : ℕ) (w : Kept) (a : Along size asked end given w.session.mover w.session.tape.position) (h : keeps w.session ≡ true) where
  Left : Noted → Kept → Type 0
  Left x v = InTurn asked end given x → Along size (asked_after asked x) (end_after end x) given v.session.mover w.session.tape.position

  DoneLeft : Noted → Reply → Done → Type 0
  DoneLeft x _ d = Left x d.kept

  -- of a service whose part the mover is not in
  off_mover : {A : Type 0} (put : A → Done) → ((p : A) → Left Other (put p).kept) → (o : Outcome A) → Accepts (DoneLeft Other) (onto put o)
  unfolding DoneLeft
  off_mover put f o = carried (DoneLeft Other) put o (accepts_any (λ reply p. DoneLeft Other reply (put p)) (λ _ p. f p) o)

  module _ (l : Lent) (r : List ℕ) where
    outcome_along : (q : Request) → Accepts (DoneLeft (note q)) (outcome w l r q)
    unfolding outcome note tape_step mover_part_step Left DoneLeft Goes MoverGoes EndsGo asked_after end_after
    outcome_along Request.Unknown = refusal_says (DoneLeft Other) _
    outcome_along Request.Bad = refusal_says (DoneLeft Other) _
    outcome_along (Request.Connect q) = off_mover (with_login w []) (λ _ _. a) _
    outcome_along (Request.Config q) = off_mover (with_login w l.challenge) (λ _ _. a) _
    outcome_along (Request.Scsi q) = off_mover (with_changer w _) (λ _ _. a) _
    outcome_along (Request.Data q) = off_mover (with_data w q _ _) (λ _ _. a) _
    outcome_along (Request.Tape q) =
        carried (DoneLeft Other) (with_tape w) _ (carried (λ reply p. DoneLeft Other reply (with_tape w p)) (with_loaded (tape_part w)) _
        (accepts_any (λ reply p. DoneLeft Other reply (with_tape w (with_loaded (tape_part w) p))) (λ _ _ _. a) _))
    outcome_along (Request.Mover q) =
        carried (DoneLeft (mover_note q)) (with_part w l.addresses) _ (carried (λ reply p. DoneLeft (mover_note q) reply (with_part w l.addresses p)) (with_mover (tape_part w)) _
        (mover_along size asked end given w.session.mover w.session.tape a (facts w.session h) q l.addresses))
    outcome_along (Request.Joint q) =
        carried (DoneLeft Other) (with_ends w) _
        (accepts_map (λ _ e. EndsGo size asked end given w.session.mover w.session.tape a (facts w.session h) e) (λ reply e. DoneLeft Other reply (with_ends w e))
        (λ _ _ g _. g) _ (joint_along size asked end given w.session.mover w.session.tape a (facts w.session h) w.session.source q l.made))

    close_notes : (q : Request) → is_close q ≡ true → note q ≡ Other
    unfolding note
    close_notes q e = rw (close_is q e) refl

  call_along : (c : Call) → Left (noted w c) (answered w c.lent c.ask.request).next
  unfolding noted Left DoneLeft asked_after end_after
  call_along c =
      let r = c.ask.request in
      call_noted Other note w c.lent r Left (λ _ _ _ g. g) (λ _ _ g. g) (λ _. a) (close_notes c.lent r (request_in r)) (outcome_along c.lent r (request_in r))

-- a move to tape that takes nothing
module _ (size asked end given : ℕ) (d : Data) (m : Mover) (t : Tape) (l part : List ℕ) (last : Bool) (a : Along size asked end given m t.position) (k : MoverKept m t) where
  FedNothing : Step Move → Type 0
  FedNothing st = st.gives.count ≡ 0 → Along size asked end given st.gives.mover t.position

  takes_some : idle 0 1 d m ≡ false → stream_ends last (length part) ≡ false → scant last (length part) m.size ≡ false → FedNothing (writing d m t l part)
  unfolding FedNothing
  takes_some i e c z =
      let g = running 0 1 d m i in
      let s = some_taken last (length part) m.size e c (k.runs g.moded g.active).some in
      absurd (omega arith)

  halts_feed : (dwhy mwhy : ℕ) → FedNothing (keeping l (halts_with dwhy mwhy d m t))
  unfolding halts_with FedNothing
  halts_feed dwhy mwhy =
      let h = halts_along size asked end given m _ a mwhy in
      by_test (λ (mv : Move). FedNothing (keeping l mv)) (eqb m.address 1) _ _ (λ _ _. h) (λ _ _. h)

  feed_along : FedNothing (to_tape d m t l part last)
  unfolding to_tape filling FedNothing
  feed_along =
      by_test FedNothing _ _ _ (λ _ _. a)
      (λ i. by_test FedNothing _ _ _ (λ _. halts_feed 4 5)
      (λ _. by_test FedNothing _ _ _ (λ _. halts_feed 1 1)
      (λ e. by_test FedNothing _ _ _ (λ _ _. pauses_along size asked end given m _ a 5)
      (λ _. by_test FedNothing _ _ _ (λ _ _. a)
      (λ c. by_test FedNothing _ _ _ (λ _ _. pauses_along size asked end given m _ a 1)
      (λ _. takes_some i e c))))))

-- ---- a request, the method's end, and a move to tape that takes nothing
position_along : (size asked end given : ℕ) (m : Mover) (p p' : ℕ) → p' ≡ p → Along size asked end given m p → Along size asked end given m p'
position_along size asked end given m p p' e a = rw e a

module _ (size asked end given : ℕ) (w : Kept) (a : Along size asked end given w.session.mover w.session.tape.position) (h : keeps w.session ≡ true) where
  pub asked_along : (c : Call) → Aside (Asked c) w → InTurn asked end given (noted w c)
      → Along size (asked_after asked (noted w c)) (end_after end (noted w c)) given (step (Asked c) w).session.mover (step (Asked c) w).session.tape.position
  unfolding step Left
  asked_along c s i = position_along size _ _ given _ _ _ (aside_stays w h (Asked c) s).position (call_along size asked end given w a h c i)

  -- the mover after an event
  Going : Mover → Type 0
  Going m = Along size asked end given m w.session.tape.position

  GoingBy : Move → Type 0
  GoingBy mv = Going mv.mover

  carried_along : (mv : Move) (image : List ℕ) (b : Answered) → Carries mv image b → GoingBy mv → Going b.next.session.mover
  unfolding GoingBy
  carried_along mv image b c g = rw c.mover g

  end_along : (ok : Bool) → GoingBy (method_end ok w.session.source w.session.mover w.session.tape)
  unfolding method_end Going GoingBy
  end_along ok =
      by_test GoingBy (eqb w.session.source.state 1) _ _
      (λ _. by_test GoingBy (eqb w.session.source.address 1) _ _ (λ _. a) (λ _. halts_along size asked end given _ _ a 1)) (λ _. a)

  made_along : (mover : Bool) → GoingBy (made_at mover w.session.source w.session.mover w.session.tape)
  unfolding made_at Going GoingBy
  made_along true =
      let m = w.session.mover in
      by_test GoingBy _ _ _
      (λ g. let e : m.state ≡ 1 = eqb-true m.state 1 (by_address m.address _ g).1 in
      let k = facts w.session h in
      runs_along size asked end given m _ a m.mode m.address w.session.tape k (k.hold (listen_holds m.state e)).window (λ z. omega arith) (λ z. omega arith))
      (λ _. a)
  made_along false = by_test GoingBy _ _ _ (λ _. a) (λ _. a)

  lost_along : (mover : Bool) → GoingBy (lost_at mover w.session.source w.session.mover w.session.tape)
  unfolding lost_at Going GoingBy
  lost_along true = by_test GoingBy _ _ _ (λ _. halts_along size asked end given _ _ a 1) (λ _. a)
  lost_along false = by_test GoingBy _ _ _ (λ _. a) (λ _. a)

  pub ended_along : (l : Lent) (ok : Bool) → Along size asked end given (step (Ended l ok) w).session.mover (step (Ended l ok) w).session.tape.position
  unfolding step method_ended Going
  ended_along l ok =
      let s = w.session in
      let mv = method_end ok s.source s.mover s.tape in
      position_along size asked end given _ _ _ (aside_stays w h (Ended l ok) tt).position
      (by_guard (λ (b : Answered). Going b.next.session.mover) s l.room _ _ (λ _. a)
      (λ _. carried_along mv w.image _ (announced_carries w l mv w.image) (end_along ok)))

  pub joined_along : (l : Lent) (mover : Bool) → Along size asked end given (step (Made l mover) w).session.mover (step (Made l mover) w).session.tape.position
  unfolding step connection_made Going
  joined_along l mover =
      let s = w.session in
      let mv = made_at mover s.source s.mover s.tape in
      position_along size asked end given _ _ _ (aside_stays w h (Made l mover) tt).position
      (by_guard (λ (b : Answered). Going b.next.session.mover) s l.room _ _ (λ _. a)
      (λ _. carried_along mv w.image _ (announced_carries w l mv w.image) (made_along mover)))

  pub parted_along : (l : Lent) (mover : Bool) → Along size asked end given (step (Lost l mover) w).session.mover (step (Lost l mover) w).session.tape.position
  unfolding step connection_lost Going
  parted_along l mover =
      let s = w.session in
      let mv = lost_at mover s.source s.mover s.tape in
      position_along size asked end given _ _ _ (aside_stays w h (Lost l mover) tt).position
      (by_guard (λ (b : Answered). Going b.next.session.mover) s l.room _ _ (λ _. a)
      (λ _. carried_along mv w.image _ (announced_carries w l mv w.image) (lost_along mover)))

  MovedNothing : Moving → Type 0
  MovedNothing e = e.count ≡ 0 → Going e.answer.next.session.mover

  moved_along : (l : Lent) (part : List ℕ) (last : Bool) → MovedNothing (moved_to_tape w l part last)
  unfolding moved_to_tape MovedNothing FedNothing Going GoingBy
  moved_along l part last =
      let s = w.session in
      let st = to_tape s.source s.mover s.tape w.image part last in
      by_guard MovedNothing s l.room _ _ (λ _ _. a)
      (λ _ z. carried_along st.gives st.image _ (announced_carries w l st.gives st.image)
      (feed_along size asked end given s.source s.mover s.tape w.image part last a (facts s h) z))

  pub fed_along : (l : Lent) (part : List ℕ) (last : Bool) → Aside (ToTape l part last) w
      → Along size asked end given (step (ToTape l part last) w).session.mover (step (ToTape l part last) w).session.tape.position
  unfolding step MovedNothing Going
  fed_along l part last z = position_along size asked end given _ _ _ (aside_stays w h (ToTape l part last) z).position (moved_along l part last z)
