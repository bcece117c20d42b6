-- What an accepted request leaves of the register is what it shows, which is no move, service by service; so of a call. Assumes nothing.
use Prim.Native.Nat.{ℕ}
use mathlib.Core.Bool.{Bool, true, false, not}
use mathlib.Core.List.{List, []}
use mathlib.Core.Path.{◌≡◌, refl, sym, ap}
use lib.Dec.{eqb, ltb}
use borrow.Author.Tests.{eqb-true}
use Rattle.xdr.specs.Choose.{choose}
use Rattle.xdr.proofs.Tests.{by_test, unless}
use Rattle.wire_frame.specs.Frame.{well_framed, kind_of, body_of}
use Rattle.wire_requests.specs.declared.DataRequest.{DataRequest}
use Rattle.wire_requests.specs.declared.DataRequest.TheVariants as DataRequest
use Rattle.wire_requests.specs.declared.MoverRequest.{MoverRequest}
use Rattle.wire_requests.specs.declared.MoverRequest.TheVariants as MoverRequest
use Rattle.wire_requests.specs.declared.JointRequest.{JointRequest}
use Rattle.wire_requests.specs.declared.JointRequest.TheVariants as JointRequest
use Rattle.wire_requests.specs.declared.Request.{Request}
use Rattle.wire_requests.specs.declared.Request.TheVariants as Request
use Rattle.wire_replies.specs.declared.Reply.{Reply}
use Rattle.wire_replies.specs.declared.Reply.TheVariants as Reply
use Rattle.wire_replies.specs.declared.Notice.TheVariants as Notice
use Rattle.rules_parts.specs.declared.types.Data.{Data}
use Rattle.rules_parts.specs.declared.types.Mover.{Mover}
use Rattle.rules_parts.specs.declared.types.Tape.{Tape}
use Rattle.rules_parts.specs.declared.types.Session.{Session}
use Rattle.rules.specs.declared.Ends.{Ends}
use Rattle.rules_parts.specs.Names.{least_room}
use Rattle.rules.specs.Judge.{Outcome, refuse, accept, onto, is_accepted, Accepts}
use Rattle.rules_parts.specs.Parts.{data_to, mover_runs, address_wrong, after_message, shut}
use Rattle.rules.specs.DataService.{data_state, data_listen, data_start, data_environment, data_stop, data_step}
use Rattle.rules.specs.MoverService.{mover_state, mover_listen, mover_continue, mover_stop, set_window, mover_read, set_size, mover_step}
use Rattle.rules.specs.TapeService.{with_loaded, with_mover, mover_part_step, tape_step}
use Rattle.rules.specs.Joint.{mover_awaits, data_connect, mover_connect, data_aborted, data_abort, mover_aborted, mover_abort, mover_closed, mover_close, joint_step}
use Rattle.rules.specs.Relation.{keeps}
use Rattle.rules.specs.Answer.{room_of, Kept, Lent, held, Answered, guarded, answered, requested, judged, is_close, settled, verdict, outcome, closing}
use Rattle.rules.specs.Answer.{Done, tape_part, with_data, with_part, with_tape, with_changer, with_login, with_ends, request_in}
use Rattle.rules.proofs.Keeping.{clash, met}
use Rattle.rules.proofs.JudgeLaws.{judged_by, accepts, accepts_any, refusal_says, carried}
use Rattle.rules.proofs.Calls.{noticed_holds, close_is}
use Rattle.rules_moves.specs.Sequence.{Seen, Sized, Windowed, Sought, MoverStopped, DataStopped, Listened, Joined, Began, Nothing, parts_register, with_origin, with_address, register_of, after, FitsRegister, is_heard}
use Rattle.rules_moves.specs.Sequence.{mover_asked, data_asked, joint_asked, asked}

-- ---- of a connect: the type of the end that awaits it, and of one that is not TCP
awaits_local : (m : Mover) → mover_awaits m ≡ true → m.address ≡ 0
unfolding mover_awaits
awaits_local m h = by_test (λ (b : Bool). b ≡ true → m.address ≡ 0) (eqb m.address 0) _ _ (λ e _. eqb-true m.address 0 e) (λ _ z. clash false refl z) h

pub local_type : (address : ℕ) (useless : Bool) → address_wrong address useless ≡ false → eqb address 1 ≡ false → address ≡ 0
unfolding address_wrong
local_type address useless h e =
    by_test (λ (b : Bool). b ≡ false → address ≡ 0) (eqb address 0) _ _ (λ z _. eqb-true address 0 z) (λ _ z. clash true (unless (eqb address 1) _ z e) refl) h

both_ways : {A B : Type 0} (b : Bool) (P : A → B → Type 0) (x y : A) (u v : B) → (b ≡ true → P x u) → (b ≡ false → P y v) → P (choose b x y) (choose b u v)
unfolding choose
both_ways true P x y u v f g = f refl
both_ways false P x y u v f g = g refl

-- ---- the mover and the data end: what is shown makes the next register, and fits the one before
module _ (d : Data) (m : Mover) where
  Shown : Seen → Data → Mover → Type 0
  Shown x e n = (parts_register e n ≡ after (parts_register d m) x) × FitsRegister (parts_register d m) x

  MoverShown : Seen → Reply → Mover → Type 0
  MoverShown x _ n = Shown x d n

  mover_shown : (t : Tape) (q : MoverRequest) (list : List ℕ) → Accepts (MoverShown (mover_asked t.position q)) (mover_step m t q list)
  unfolding mover_step mover_state mover_listen mover_continue mover_stop set_window mover_read set_size mover_asked after MoverShown Shown
  mover_shown t MoverRequest.State list = accepts (MoverShown Nothing) _ _ _ (λ _. (refl, tt))
  mover_shown t (MoverRequest.Listen mode address) list = accepts (MoverShown (Listened address)) _ _ _ (λ _. (refl, tt))
  mover_shown t MoverRequest.Continue list = accepts (MoverShown (Began t.position)) _ _ _ (λ _. (refl, tt))
  mover_shown t MoverRequest.Stop list = accepts (MoverShown MoverStopped) _ _ _ (λ _. (refl, tt))
  mover_shown t (MoverRequest.Window offset length) list = accepts (MoverShown (Windowed offset length)) _ _ _ (λ _. (refl, tt))
  mover_shown t (MoverRequest.Read offset length) list = accepts (MoverShown (Sought offset length)) _ _ _ (λ _. (refl, tt))
  mover_shown t (MoverRequest.Size size) list = accepts (MoverShown (Sized size)) _ _ _ (λ _. (refl, tt))

  DataShown : Seen → Reply → Data → Type 0
  DataShown x _ e = Shown x e m

  data_shown : (q : DataRequest) (body list variables : List ℕ) → Accepts (DataShown (data_asked q)) (data_step d q body list variables)
  unfolding data_step data_state data_listen data_start data_environment data_stop data_asked after DataShown Shown
  data_shown DataRequest.State body list variables = accepts (DataShown Nothing) _ _ _ (λ _. (refl, tt))
  data_shown (DataRequest.Backup name pairs) body list variables = accepts (DataShown Nothing) _ _ _ (λ _. (refl, tt))
  data_shown (DataRequest.Recover name pairs) body list variables = accepts (DataShown Nothing) _ _ _ (λ _. (refl, tt))
  data_shown DataRequest.Environment body list variables = accepts (DataShown Nothing) _ _ _ (λ _. (refl, tt))
  data_shown DataRequest.Stop body list variables = accepts (DataShown DataStopped) _ _ _ (λ _. (refl, tt))
  data_shown (DataRequest.Listen address) body list variables = accepts (DataShown Nothing) _ _ _ (λ _. (refl, tt))

  EndsShown : Seen → Reply → Ends → Type 0
  EndsShown x _ e = Shown x e.source e.mover

  -- by LOCAL the mover's type was LOCAL, since it awaited the connect
  began_local : (position mode : ℕ) → m.address ≡ 0 → Shown (Began position) (data_to 4 0 d) (mover_runs mode 0 position m)
  unfolding after Shown
  began_local position mode e = (ap (λ (a : ℕ). with_address a (with_origin position (parts_register d m))) (sym e), tt)

  -- one end or both halted: the register is as it was
  aborted : (b : Bool) (x y : Ends) → parts_register x.source x.mover ≡ parts_register d m → parts_register y.source y.mover ≡ parts_register d m
      → EndsShown Nothing Reply.Plain (choose b x y)
  unfolding after EndsShown Shown
  aborted b x y e f = by_test (EndsShown Nothing Reply.Plain) b x y (λ _. (e, tt)) (λ _. (f, tt))

  joint_shown : (t : Tape) (q : JointRequest) (made : Bool) → Accepts (EndsShown (joint_asked t.position q)) (joint_step d m t q made)
  unfolding joint_step data_abort data_connect mover_abort mover_close mover_connect data_aborted mover_aborted mover_closed joint_asked after EndsShown Shown
  joint_shown t JointRequest.DataAbort made = accepts (EndsShown Nothing) _ _ _ (λ _. aborted _ _ _ refl refl)
  joint_shown t (JointRequest.DataConnect address count) made =
      accepts (EndsShown (choose (eqb address 1) Nothing (Began t.position))) _ _ _
      (λ g. both_ways (eqb address 1) (λ x (e : Ends). EndsShown x Reply.Plain e) _ _ _ _ (λ _. (refl, tt))
      (λ e. began_local t.position m.mode (awaits_local m (met address _ made (g 2) e))))
  joint_shown t JointRequest.MoverAbort made = accepts (EndsShown Nothing) _ _ _ (λ _. aborted _ _ _ refl refl)
  joint_shown t JointRequest.MoverClose made = accepts (EndsShown Nothing) _ _ _ (λ _. aborted _ _ _ refl refl)
  joint_shown t (JointRequest.MoverConnect mode address count) made =
      accepts (EndsShown (Joined address t.position)) _ _ _
      (λ g. by_test (EndsShown (Joined address t.position) Reply.Plain) (eqb address 1) _ _
      (λ e. (ap (λ (a : ℕ). with_address a (with_origin t.position (parts_register d m))) (sym (eqb-true address 1 e)), tt))
      (λ e. (ap (λ (a : ℕ). with_address a (with_origin t.position (parts_register d m))) (sym (local_type address _ (g 6) e)), tt)))

-- ---- two values behind one guard
guards_two : {A B : Type 0} (P : A → B → Type 0) (a b c : Bool) (i : ℕ → A) (j : ℕ → B) (x : A) (y : B) → ((code : ℕ) → P (i code) (j code)) → P x y
    → P (choose a (i 1001) (choose (not b) (i 1002) (choose c (i 0) x))) (choose a (j 1001) (choose (not b) (j 1002) (choose c (j 0) y)))
unfolding choose
guards_two P true b c i j x y h g = h 1001
guards_two P false false c i j x y h g = h 1002
guards_two P false true true i j x y h g = h 0
guards_two P false true false i j x y h g = g

by_two : {A B : Type 0} (P : A → B → Type 0) (s : Session) (room : ℕ) (i : ℕ → A) (j : ℕ → B) (x : A) (y : B) → ((code : ℕ) → P (i code) (j code)) → P x y
    → P (guarded s room i x) (guarded s room j y)
unfolding guarded
by_two P s room i j x y h g = guards_two P (ltb room least_room) (keeps s) s.closed i j x y h g

-- a record that is framed and a request, and one that is not
framed_two : {A : Type 0} (P : A → Bool → Type 0) (framed request : Bool) (skip close x : A) → P skip false → P close false → P x true
    → P (choose framed (choose (not request) skip x) close) (choose framed request false)
unfolding choose
framed_two P true true skip close x a b c = c
framed_two P true false skip close x a b c = a
framed_two P false request skip close x a b c = b

-- ---- what is noted of a call: of an accepted request what `note` says, of any other call nothing. What holds of the note and of what is
-- passed on, where a request is accepted, holds of the call
module _ {X : Type 0} (none : X) (note : Request → X) (k : Kept) (l : Lent) (r : List ℕ) (Left : X → Kept → Type 0)
    (sends : (x : X) (n : Kept) (first : Bool) → Left x n → Left x (held (after_message n.session first) n.image n.variables))
    (shuts : (x : X) (n : Kept) → Left x n → Left x (held (shut n.session) n.image n.variables)) (still : Left none k) where
  settled_noted : (x : X) (q : Request) (o : Outcome Done) → Accepts (λ _ d. Left x d.kept) o → Left (choose (is_accepted o) x none) (settled k l.time r q o).next
  unfolding settled Accepts is_accepted choose
  settled_noted x q (refuse e) h = sends none k false still
  settled_noted x q (accept reply d) h =
      let told = noticed_holds (Left x) (sends x) (shuts x) l.time in
      told d.mwhy _ _ (told d.dwhy _ _ (sends x d.kept false h))

  close_noted : (b : Bool) (x : X) → x ≡ none → Left (choose b x none) (closing k).next
  close_noted b x e =
      let h = shuts none k still in
      rw e (by_test (λ (y : X). Left y (closing k).next) b none none (λ _. h) (λ _. h))

  verdict_noted : (q : Request) → Accepts (λ _ d. Left (note q) d.kept) (outcome k l r q) → Accepts (λ _ d. Left (note q) d.kept) (verdict k l r q)
  unfolding verdict
  verdict_noted q h = judged_by (λ _ d. Left (note q) d.kept) _ _ (λ _. h)

  judged_noted : (q : Request) → (is_close q ≡ true → note q ≡ none) → Accepts (λ _ d. Left (note q) d.kept) (outcome k l r q)
      → Left (choose (is_accepted (verdict k l r q)) (note q) none) (judged k l r q).next
  unfolding judged
  judged_noted q close h =
      by_test (λ (a : Answered). Left (choose (is_accepted (verdict k l r q)) (note q) none) a.next) (is_close q) _ _
      (λ e. close_noted (is_accepted (verdict k l r q)) (note q) (close e))
      (λ _. settled_noted (note q) q (verdict k l r q) (verdict_noted q h))

  -- of a request that is heard or not
  HeardNoted : X → Answered → Bool → Type 0
  HeardNoted x a heard = Left (choose heard x none) a.next

  pub call_noted : (is_close (request_in r) ≡ true → note (request_in r) ≡ none) → Accepts (λ _ d. Left (note (request_in r)) d.kept) (outcome k l r (request_in r))
      → Left (choose (is_heard k l r) (choose (is_accepted (verdict k l r (request_in r))) (note (request_in r)) none) none) (answered k l r).next
  unfolding answered requested is_heard HeardNoted choose
  call_noted close h =
      let P = HeardNoted (choose (is_accepted (verdict k l r (request_in r))) (note (request_in r)) none) in
      by_two P k.session (room_of k l) _ _ _ _ (λ _. still)
      (framed_two P (well_framed r) (eqb (kind_of r) 0) _ _ _ still (shuts none k still) (judged_noted (request_in r) close h))

-- ---- a request call
module _ (k : Kept) (l : Lent) (r : List ℕ) where
  Left : Seen → Kept → Type 0
  Left x n = (register_of n.session ≡ after (register_of k.session) x) × FitsRegister (register_of k.session) x

  DoneLeft : Seen → Reply → Done → Type 0
  DoneLeft x _ d = Left x d.kept

  -- of the services whose part the register does not look at
  aside : {A : Type 0} (put : A → Done) → ((p : A) → Left Nothing (put p).kept) → (o : Outcome A) → Accepts (DoneLeft Nothing) (onto put o)
  unfolding DoneLeft
  aside put f o = carried (DoneLeft Nothing) put o (accepts_any (λ reply p. DoneLeft Nothing reply (put p)) (λ _ p. f p) o)

  outcome_left : (q : Request) → Accepts (DoneLeft (asked k q)) (outcome k l r q)
  unfolding outcome asked tape_step mover_part_step Left DoneLeft MoverShown DataShown EndsShown Shown after
  outcome_left Request.Unknown = refusal_says (DoneLeft Nothing) _
  outcome_left Request.Bad = refusal_says (DoneLeft Nothing) _
  outcome_left (Request.Connect q) = aside (with_login k []) (λ _. (refl, tt)) _
  outcome_left (Request.Config q) = aside (with_login k l.challenge) (λ _. (refl, tt)) _
  outcome_left (Request.Scsi q) = aside (with_changer k _) (λ _. (refl, tt)) _
  outcome_left (Request.Tape q) =
      carried (DoneLeft Nothing) (with_tape k) _ (carried (λ reply p. DoneLeft Nothing reply (with_tape k p)) (with_loaded (tape_part k)) _
      (accepts_any (λ reply p. DoneLeft Nothing reply (with_tape k (with_loaded (tape_part k) p))) (λ _ _. (refl, tt)) _))
  outcome_left (Request.Data q) =
      carried (DoneLeft (data_asked q)) (with_data k q (body_of r) l.addresses) _ (data_shown k.session.source k.session.mover q (body_of r) l.addresses k.variables)
  outcome_left (Request.Mover q) =
      let x = mover_asked k.session.tape.position q in
      carried (DoneLeft x) (with_part k l.addresses) _ (carried (λ reply p. DoneLeft x reply (with_part k l.addresses p)) (with_mover (tape_part k)) _
      (mover_shown k.session.source k.session.mover k.session.tape q l.addresses))
  outcome_left (Request.Joint q) =
      carried (DoneLeft (joint_asked k.session.tape.position q)) (with_ends k) _
      (joint_shown k.session.source k.session.mover k.session.tape q l.made)

  -- a close shows nothing
  close_shows : (q : Request) → is_close q ≡ true → asked k q ≡ Nothing
  unfolding asked
  close_shows q e = rw (close_is q e) refl

  pub asked_left : let x = choose (is_heard k l r) (choose (is_accepted (verdict k l r (request_in r))) (asked k (request_in r)) Nothing) Nothing in
      (register_of (answered k l r).next.session ≡ after (register_of k.session) x) × FitsRegister (register_of k.session) x
  unfolding Left DoneLeft after
  asked_left =
      call_noted Nothing (asked k) k l r Left (λ _ _ _ h. h) (λ _ _ h. h) (refl, tt) (close_shows (request_in r)) (outcome_left (request_in r))
