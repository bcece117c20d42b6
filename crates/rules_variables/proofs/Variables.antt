-- What the pairs of an accepted start do to the store, and that no call but a start or a stop changes it. Assumes nothing.
use Prim.Native.Nat.{ℕ}
use mathlib.Core.Bool.{Bool, true, false, not}
use mathlib.Core.List.{List, [], ◌∷◌, ◌++◌, append-nil}
use mathlib.Core.Path.{◌≡◌, refl, sym, ◌∙◌, ap}
use native.Mathlib.Omega.{arith}
use lib.Dec.{eqb}
use borrow.Author.Tests.{eqb-true}
use lib.ListN.{length}
use Rattle.codes.specs.Codes.{store_length}
use Rattle.xdr.specs.Choose.{choose}
use Rattle.xdr.specs.Xdr.{be32, be32s}
use Rattle.xdr.proofs.Tests.{by_test, unless, is, yes}
use Rattle.tape_ops.specs.Step.{Step}
use Rattle.wire_pairs.specs.Pairs.{Pair, pair, pairs_from, pair_bytes, texts_of, separator_name, separator, with_separator, is_named}
use Rattle.wire_pairs.specs.Store.{fits, storing, emptied, is_laid, kept_pairs, environment_of}
use Rattle.wire_pairs.proofs.Back.{storing_length, start_leaves}
use Rattle.wire_pairs.proofs.Stopped.{stop_leaves}
use Rattle.wire_frame.specs.Frame.{body_of, message_word, sequence_of}
use Rattle.wire_layouts.specs.declared.Text.{Text}
use Rattle.wire_requests.specs.declared.Pairs.{Pairs}
use Rattle.wire_requests.specs.declared.DataRequest.{DataRequest}
use Rattle.wire_requests.specs.declared.DataRequest.TheVariants as DataRequest
use Rattle.wire_requests.specs.declared.JointRequest.{JointRequest}
use Rattle.wire_requests.specs.declared.JointRequest.TheVariants as JointRequest
use Rattle.wire_requests.specs.declared.Request.{Request}
use Rattle.wire_requests.specs.declared.Request.TheVariants as Request
use Rattle.wire_replies.specs.declared.Reply.{Reply}
use Rattle.wire_replies.specs.declared.Reply.TheVariants as Reply
use Rattle.wire_replies.specs.Replies.{body_bytes, shape_of, header_error, reply_bytes}
use Rattle.wire_replies.specs.Numbers.{body_in}
use Rattle.wire_replies.proofs.Laws.{opaques_texts}
use Rattle.wire_replies.proofs.Numbers.{body_sent}
use Rattle.rules_parts.specs.declared.types.Data.{Data}
use Rattle.rules_parts.specs.declared.types.Mover.{Mover}
use Rattle.rules_parts.specs.declared.types.Tape.{Tape}
use Rattle.rules_parts.specs.Parts.{data_starts, data_fed, rest_data}
use Rattle.rules.specs.Judge.{Test, test, Outcome, refuse, accept, judge, onto, is_accepted, Accepts}
use Rattle.rules.specs.Addresses.{unmet}
use Rattle.rules.specs.DataService.{pairs_of, data_state, data_listen, data_start, has_run, data_environment, data_stop, data_step, variables_after, data_shown}
use Rattle.rules.specs.Environment.{Starts, backup, recover, Answering, active, halted}
use Rattle.rules.specs.TapeService.{tape_step, mover_part_step}
use Rattle.rules.specs.declared.Ends.{Ends}
use Rattle.rules.specs.Joint.{data_awaits, data_connect, mover_connect, data_aborted, data_abort, mover_aborted, mover_abort, mover_closed, mover_close, joint_step}
use Rattle.rules.specs.Answer.{Kept, Lent, Answered, Done, silent, guarded, answered, judged, is_close, settled, verdict, is_locked, needs_login, outcome, noticed, request_in}
use Rattle.rules.specs.Answer.{with_data, with_part, with_tape, with_changer, with_login, with_ends}
use Rattle.rules.specs.Order.{Call, run}
use Rattle.rules.specs.Calls.{Heard}
use Rattle.rules.specs.Login.{authorized}
use Rattle.rules.proofs.JudgeLaws.{judged_by, accepts, accepts_any, accepts_map, refusal_says, carried}
use Rattle.rules.proofs.Guarding.{by_guard}
use Rattle.rules.proofs.Calls.{noticed_holds, call_stored, heard}
use Rattle.rules.proofs.Environment.{next_is, environment_body}
use Rattle.rules.proofs.Leaving.{calls_leave}
use Rattle.rules_moves.specs.declared.Move.{Move}
use Rattle.rules_moves.specs.declared.Found.{Found}
use Rattle.rules_moves.specs.declared.Found.TheVariants as Found
use Rattle.rules_moves.specs.Moves.{Handing, fed_with, halts_with, filling, to_tape, reading, on_found, seeking, sought, from_tape, method_end, at_tcp, made_at, lost_at}
use Rattle.rules_moves.specs.Events.{Moving, announced, moved_to_tape, moved_from_tape, method_ended, connection_made, connection_lost}
use Rattle.rules_moves.specs.Sequence.{Event, Asked, ToTape, FromTape, Ended, Made, Lost, Inserted, Renumbered, StoreLent, SlotsLent, step, runs}
use Rattle.rules_variables.specs.Variables.{Started, Stopped, AsksFor, NoStart, Between, NoData, Quiet, Along, giving, body_answered, after, VariablesHold}

-- ---- a move leaves a data end that has run ACTIVE or HALTED
clash : {A : Type 0} → false ≡ true → A
clash h = absurd (let z : ◌≡◌ {A = ℕ} 0 1 = cc in omega arith)

record Ran (d : Data) : Type 0 where
  run : has_run d.state ≡ true

-- ACTIVE and HALTED are such states, IDLE and LISTEN are none
active_ran : (d : Data) → d.state ≡ 1 → Ran d
unfolding has_run choose
active_ran d e = record { run = rw e refl }

halted_ran : (d : Data) → d.state ≡ 2 → Ran d
unfolding has_run choose
halted_ran d e = record { run = rw e refl }

idle_not : {A : Type 0} (d : Data) → d.state ≡ 0 → Ran d → A
unfolding has_run choose
idle_not d e s = clash (rw e at s.run)

listening_not : {A : Type 0} (d : Data) → d.state ≡ 3 → Ran d → A
unfolding has_run choose
listening_not d e s = clash (rw e at s.run)

module _ (d : Data) (m : Mover) (t : Tape) (s : Ran d) where
  MoveRan : Move → Type 0
  MoveRan mv = Ran mv.source

  halts_ran : (dwhy mwhy : ℕ) → MoveRan (halts_with dwhy mwhy d m t)
  unfolding halts_with MoveRan
  halts_ran dwhy mwhy = by_test MoveRan (eqb m.address 1) _ _ (λ _. s) (λ _. halted_ran _ refl)

  fed_ran : (n : ℕ) → Ran (fed_with m n d)
  unfolding fed_with
  fed_ran n = by_test Ran (eqb m.address 1) d (data_fed n d) (λ _. s) (λ _. record { run = s.run })

  StepRan : Step Move → Type 0
  StepRan st = MoveRan st.gives

  to_ran : (l stream : List ℕ) (last : Bool) → StepRan (to_tape d m t l stream last)
  unfolding to_tape filling StepRan MoveRan
  to_ran l stream last =
      by_test StepRan _ _ _ (λ _. s)
      (λ _. by_test StepRan _ _ _ (λ _. halts_ran 4 5)
      (λ _. by_test StepRan _ _ _ (λ _. halts_ran 1 1)
      (λ _. by_test StepRan _ _ _ (λ _. s)
      (λ _. by_test StepRan _ _ _ (λ _. s)
      (λ _. by_test StepRan _ _ _ (λ _. s) (λ _. fed_ran _))))))

  HandingRan : Handing → Type 0
  HandingRan st = MoveRan st.move

  found_ran : (f : Found) (l b : List ℕ) → HandingRan (on_found f d m t l b)
  unfolding on_found reading HandingRan MoveRan
  found_ran (Found.Target i) l b = by_test HandingRan _ _ _ (λ _. halts_ran 4 5) (λ _. fed_ran _)
  found_ran (Found.Mark j) l b = s
  found_ran Found.End l b = s

  from_ran : (l b : List ℕ) → HandingRan (from_tape d m t l b)
  unfolding from_tape seeking HandingRan MoveRan
  from_ran l b =
      by_test HandingRan _ _ _ (λ _. s)
      (λ _. by_test HandingRan _ _ _ (λ _. halts_ran 4 5)
      (λ _. by_test HandingRan _ _ _ (λ _. s)
      (λ _. by_test HandingRan _ _ _ (λ _. s)
      (λ _. by_test HandingRan _ _ _ (λ _. s) (λ _. found_ran (sought m l) l b)))))

  end_ran : (ok : Bool) → MoveRan (method_end ok d m t)
  unfolding method_end MoveRan
  end_ran ok =
      by_test MoveRan (eqb d.state 1) _ _ (λ _. by_test MoveRan (eqb d.address 1) _ _ (λ _. halted_ran _ refl) (λ _. halted_ran _ refl)) (λ _. s)

  listening_tcp : at_tcp d.address (eqb d.state 3) ≡ true → eqb d.state 3 ≡ true
  unfolding at_tcp
  listening_tcp =
      by_test (λ (b : Bool). b ≡ true → eqb d.state 3 ≡ true) (eqb d.address 1) _ _ (λ _ h. h) (λ _ h. clash h)

  made_ran : (mover : Bool) → MoveRan (made_at mover d m t)
  unfolding made_at MoveRan
  made_ran true = by_test MoveRan _ _ _ (λ _. s) (λ _. s)
  made_ran false = by_test MoveRan _ _ _ (λ h. listening_not d (eqb-true d.state 3 (listening_tcp h)) s) (λ _. s)

  lost_ran : (mover : Bool) → MoveRan (lost_at mover d m t)
  unfolding lost_at MoveRan
  lost_ran true = by_test MoveRan _ _ _ (λ _. s) (λ _. s)
  lost_ran false = by_test MoveRan _ _ _ (λ _. halted_ran _ refl) (λ _. s)

  -- ---- joint requests
  EndsRan : Reply → Ends → Type 0
  EndsRan _ e = Ran e.source

  awaits : data_awaits d ≡ true → d.state ≡ 3
  unfolding data_awaits
  awaits =
      by_test (λ (b : Bool). b ≡ true → d.state ≡ 3) (eqb d.address 0) _ _ (λ _ h. eqb-true d.state 3 h) (λ _ h. clash h)

  met : (address : ℕ) (awaited made : Bool) → unmet address awaited made ≡ false → eqb address 1 ≡ false → awaited ≡ true
  unfolding unmet
  met address awaited made h e = yes (unless (eqb address 1) _ h e)

  joint_ran : (q : JointRequest) (made : Bool) → Accepts EndsRan (joint_step d m t q made)
  unfolding joint_step data_abort data_connect mover_abort mover_close mover_connect data_aborted mover_aborted mover_closed EndsRan
  joint_ran JointRequest.DataAbort made = accepts EndsRan _ _ _ (λ _. by_test (λ (e : Ends). Ran e.source) _ _ _ (λ _. halted_ran _ refl) (λ _. halted_ran _ refl))
  joint_ran (JointRequest.DataConnect address count) made = accepts EndsRan _ _ _ (λ g. idle_not d (is (g 0)) s)
  joint_ran JointRequest.MoverAbort made = accepts EndsRan _ _ _ (λ _. by_test (λ (e : Ends). Ran e.source) _ _ _ (λ _. halted_ran _ refl) (λ _. s))
  joint_ran JointRequest.MoverClose made = accepts EndsRan _ _ _ (λ _. by_test (λ (e : Ends). Ran e.source) _ _ _ (λ _. halted_ran _ refl) (λ _. s))
  joint_ran (JointRequest.MoverConnect mode address count) made =
      accepts EndsRan _ _ _
      (λ g. by_test (λ (e : Ends). Ran e.source) (eqb address 1) _ _ (λ _. s)
      (λ e. listening_not d (awaits (met address _ made (g 8) e)) s))

-- ---- what moves do to a data end
record Moves (D : Data → Type 0) (d : Data) : Type 0 where
  to : (m : Mover) (t : Tape) (l stream : List ℕ) (last : Bool) → D (to_tape d m t l stream last).gives.source
  from : (m : Mover) (t : Tape) (l b : List ℕ) → D (from_tape d m t l b).move.source
  end : (m : Mover) (t : Tape) (ok : Bool) → D (method_end ok d m t).source
  made : (m : Mover) (t : Tape) (mover : Bool) → D (made_at mover d m t).source
  lost : (m : Mover) (t : Tape) (mover : Bool) → D (lost_at mover d m t).source

-- what is to be shown of an accepted request alone
if_accepted : {A : Type 0} (P : Reply → A → Type 0) (o : Outcome A) → (is_accepted o ≡ true → Accepts P o) → Accepts P o
unfolding Accepts is_accepted
if_accepted P (refuse e) f = tt
if_accepted P (accept r d) f = f refl

-- ---- what is kept between: what is asked of the store, and what of the data end
module _ (Holds : List ℕ → Type 0) (D : Data → Type 0) where
  Keeping : Kept → Type 0
  Keeping k = Holds k.variables × D k.session.source

  KeepingDone : Reply → Done → Type 0
  KeepingDone _ d = Keeping d.kept

  -- a move
  announced_keeps : (k : Kept) (l : Lent) (mv : Move) (image : List ℕ) → Holds k.variables → D mv.source → Keeping (announced k l mv image).next
  unfolding Keeping
  announced_keeps k l mv image v d =
      let told = noticed_holds Keeping (λ x _ h. h) (λ x h. h) l.time in
      told _ _ _ (told _ _ _ (told _ _ _ (v, d)))

  moved_keeps : (k : Kept) (l : Lent) (mv : Move) → Keeping k → D mv.source
      → Keeping (guarded k.session l.room (λ code. silent code k) (announced k l mv k.image)).next
  unfolding Keeping
  moved_keeps k l mv h d =
      by_guard (λ (a : Answered). Keeping a.next) k.session l.room _ _ (λ _. h) (λ _. announced_keeps k l mv k.image h.0 d)

  -- and requests: those of the data end, and the joint ones
  record Asking (P : Request → Type 0) : Type 0 where
    own : (k : Kept) (l : Lent) (r : List ℕ) → Keeping k → length k.variables ≡ store_length → (q : DataRequest) → P (Request.Data q)
        → Accepts (λ _ d. Holds (variables_after q (body_of r) k.variables) × D d) (data_step k.session.source q (body_of r) l.addresses k.variables)
    joint : (d : Data) (m : Mover) (t : Tape) → D d → (q : JointRequest) (made : Bool) → Accepts (λ _ e. D e.source) (joint_step d m t q made)

  module _ (P : Request → Type 0) (ask : Asking P) (move : (d : Data) → D d → Moves D d) where
    off : (k : Kept) {A : Type 0} (put : A → Done) → ((p : A) → Keeping (put p).kept) → (o : Outcome A) → Accepts KeepingDone (onto put o)
    unfolding KeepingDone
    off k put f o = carried KeepingDone put o (accepts_any (λ reply p. KeepingDone reply (put p)) (λ _ p. f p) o)

    outcome_keeps : (k : Kept) (l : Lent) (r : List ℕ) → Keeping k → length k.variables ≡ store_length → (q : Request) → P q
        → Accepts KeepingDone (outcome k l r q)
    unfolding outcome Keeping KeepingDone tape_step mover_part_step
    outcome_keeps k l r h e Request.Unknown o = refusal_says KeepingDone _
    outcome_keeps k l r h e Request.Bad o = refusal_says KeepingDone _
    outcome_keeps k l r h e (Request.Connect q) o = off k (with_login k []) (λ _. h) _
    outcome_keeps k l r h e (Request.Config q) o = off k (with_login k l.challenge) (λ _. h) _
    outcome_keeps k l r h e (Request.Scsi q) o = off k (with_changer k _) (λ _. h) _
    outcome_keeps k l r h e (Request.Tape q) o = off k (with_tape k) (λ _. h) _
    outcome_keeps k l r h e (Request.Mover q) o = off k (with_part k l.addresses) (λ _. h) _
    outcome_keeps k l r h e (Request.Data q) o = carried KeepingDone (with_data k q _ _) _ (ask.own k l r h e q o)
    outcome_keeps k l r h e (Request.Joint q) o =
        carried KeepingDone (with_ends k) _
        (accepts_map (λ _ (x : Ends). D x.source) (λ reply x. KeepingDone reply (with_ends k x)) (λ _ _ d. (h.0, d)) _
        (ask.joint k.session.source k.session.mover k.session.tape h.1 q l.made))

    verdict_keeps : (k : Kept) (l : Lent) (r : List ℕ) → Keeping k → length k.variables ≡ store_length → (q : Request) → P q
        → Accepts KeepingDone (verdict k l r q)
    unfolding verdict
    verdict_keeps k l r h e q o = judged_by KeepingDone _ _ (λ _. outcome_keeps k l r h e q o)

    asked_keeps : (k : Kept) (c : Call) → Keeping k → Quiet P k (Asked c) → Keeping (answered k c.lent c.ask.request).next
    unfolding Keeping KeepingDone
    asked_keeps k c h o =
        call_stored Keeping (λ x _ z. z) (λ x z. z) k c.lent c.ask.request h
        (λ e. if_accepted KeepingDone _ (λ a. verdict_keeps k c.lent c.ask.request h e (request_in c.ask.request) (o a)))

    step_keeps : (k : Kept) (e : Event) → Keeping k → Quiet P k e → Keeping (step e k)
    unfolding step moved_to_tape moved_from_tape method_ended connection_made connection_lost Keeping
    step_keeps k (Asked c) h o = asked_keeps k c h o
    step_keeps k (ToTape l stream last) h o =
        let s = k.session in
        let st = to_tape s.source s.mover s.tape k.image stream last in
        by_guard (λ (a : Moving). Keeping a.answer.next) s l.room _ _ (λ _. h)
        (λ _. announced_keeps k l st.gives st.image h.0 ((move s.source h.1).to s.mover s.tape k.image stream last))
    step_keeps k (FromTape l dest) h o =
        let s = k.session in
        let st = from_tape s.source s.mover s.tape k.image dest in
        by_guard (λ (a : Moving). Keeping a.answer.next) s l.room _ _ (λ _. h)
        (λ _. announced_keeps k l st.move k.image h.0 ((move s.source h.1).from s.mover s.tape k.image dest))
    step_keeps k (Ended l ok) h o =
        moved_keeps k l (method_end ok k.session.source k.session.mover k.session.tape) h
        ((move k.session.source h.1).end k.session.mover k.session.tape ok)
    step_keeps k (Made l mover) h o =
        moved_keeps k l (made_at mover k.session.source k.session.mover k.session.tape) h
        ((move k.session.source h.1).made k.session.mover k.session.tape mover)
    step_keeps k (Lost l mover) h o =
        moved_keeps k l (lost_at mover k.session.source k.session.mover k.session.tape) h
        ((move k.session.source h.1).lost k.session.mover k.session.tape mover)
    step_keeps k (Inserted image) h o = h
    step_keeps k (Renumbered n) h o = h
    step_keeps k (StoreLent variables) h o = absurd o
    step_keeps k (SlotsLent slots) h o = h

    runs_keep : (k : Kept) (es : List Event) → Keeping k → Along P k es → Keeping (runs k es)
    unfolding runs
    runs_keep k [] h o = h
    runs_keep k (e ∷ es) h o = runs_keep (step e k) es (step_keeps k e h o.0) o.1

-- ---- after a start: the store is the one that it left, and the data end has run
ran_moves : (d : Data) → Ran d → Moves Ran d
unfolding StepRan HandingRan MoveRan
ran_moves d s =
    record {
      to = λ m t l stream last. to_ran d m t s l stream last;
      from = λ m t l b. from_ran d m t s l b;
      end = λ m t ok. end_ran d m t s ok;
      made = λ m t mover. made_ran d m t s mover;
      lost = λ m t mover. lost_ran d m t s mover;
    }

module _ (W : List ℕ) where
  abbrev Same : List ℕ → Type 0
  Same v = v ≡ W

  own_ran : (k : Kept) (l : Lent) (r : List ℕ) → Keeping Same Ran k → (q : DataRequest) → Between (Request.Data q)
      → Accepts (λ _ d. Same (variables_after q (body_of r) k.variables) × Ran d) (data_step k.session.source q (body_of r) l.addresses k.variables)
  unfolding Keeping data_step data_state data_listen data_environment variables_after
  own_ran k l r h DataRequest.State o = accepts _ _ _ _ (λ _. h)
  own_ran k l r h (DataRequest.Backup name ps) o = absurd o.0
  own_ran k l r h (DataRequest.Recover name ps) o = absurd o.0
  own_ran k l r h DataRequest.Environment o = accepts _ _ _ _ (λ _. h)
  own_ran k l r h DataRequest.Stop o = absurd (o.1 refl)
  own_ran k l r h (DataRequest.Listen address) o = accepts _ _ _ _ (λ g. idle_not k.session.source (is (g 0)) h.1)

  ran_asking : Asking Same Ran Between
  unfolding EndsRan
  ran_asking =
      record { own = λ k l r h e q o. own_ran k l r h q o; joint = λ d m t s q made. joint_ran d m t s q made }

-- ---- after a stop: there is no pair in the store
abbrev NoPairs : List ℕ → Type 0
NoPairs v = (kept_pairs v ≡ []) × (is_laid v ≡ true)

abbrev Any : Data → Type 0
Any d = Unit {0}

any_moves : (d : Data) → Any d → Moves Any d
any_moves d _ =
    record {
      to = λ m t l stream last. tt;
      from = λ m t l b. tt;
      end = λ m t ok. tt;
      made = λ m t mover. tt;
      lost = λ m t mover. tt;
    }

any_joint : (d : Data) (m : Mover) (t : Tape) → Any d → (q : JointRequest) (made : Bool) → Accepts (λ _ e. Any e.source) (joint_step d m t q made)
any_joint d m t _ q made = accepts_any (λ _ (e : Ends). Any e.source) (λ _ _. tt) (joint_step d m t q made)

stopped_empty : (v : List ℕ) → length v ≡ store_length → NoPairs (emptied v)
stopped_empty v e = let s = stop_leaves v (omega arith) in (s.none, s.laid)

own_empty : (k : Kept) (l : Lent) (r : List ℕ) → Keeping NoPairs Any k → length k.variables ≡ store_length → (q : DataRequest) → NoStart (Request.Data q)
    → Accepts (λ _ d. NoPairs (variables_after q (body_of r) k.variables) × Any d) (data_step k.session.source q (body_of r) l.addresses k.variables)
unfolding Keeping variables_after
own_empty k l r h e DataRequest.State o = accepts_any _ (λ _ _. h) _
own_empty k l r h e (DataRequest.Backup name ps) o = absurd o
own_empty k l r h e (DataRequest.Recover name ps) o = absurd o
own_empty k l r h e DataRequest.Environment o = accepts_any _ (λ _ _. h) _
own_empty k l r h e DataRequest.Stop o = accepts_any _ (λ _ _. (stopped_empty k.variables e, tt)) _
own_empty k l r h e (DataRequest.Listen address) o = accepts_any _ (λ _ _. h) _

empty_asking : Asking NoPairs Any NoStart
empty_asking = record { own = own_empty; joint = any_joint }

-- ---- no request of the data interface: the store stays
own_none : (W : List ℕ) (k : Kept) (l : Lent) (r : List ℕ) → Keeping (Same W) Any k → length k.variables ≡ store_length → (q : DataRequest)
    → NoData (Request.Data q)
    → Accepts (λ _ d. Same W (variables_after q (body_of r) k.variables) × Any d) (data_step k.session.source q (body_of r) l.addresses k.variables)
own_none W k l r h e q o = absurd (o q refl)

others : (k : Kept) (es : List Event) → Along NoData k es → (runs k es).variables ≡ k.variables
unfolding Keeping
others k es o =
    (runs_keep (Same k.variables) Any NoData (record { own = own_none k.variables; joint = any_joint }) any_moves k es (refl, tt) o).0

-- ---- who is logged in stays so
Known : Kept → Type 0
Known k = authorized k ≡ true

known_is : (k : Kept) → Known k → k.session.login.authorized ≡ true
unfolding Known
known_is k h = h

asked_known : (k : Kept) (c : Call) → Known k → Known (answered k c.lent c.ask.request).next
unfolding run Known
asked_known k c h = calls_leave.login.stays k (c ∷ []) h

announced_known : (k : Kept) (l : Lent) (mv : Move) (image : List ℕ) → Known k → Known (announced k l mv image).next
unfolding Known
announced_known k l mv image h =
    let told = noticed_holds Known (λ x _ z. z) (λ x z. z) l.time in
    told _ _ _ (told _ _ _ (told _ _ _ h))

step_known : (k : Kept) (e : Event) → Known k → Known (step e k)
unfolding step moved_to_tape moved_from_tape method_ended connection_made connection_lost Known
step_known k (Asked c) h = asked_known k c h
step_known k (ToTape l stream last) h =
    let s = k.session in
    let st = to_tape s.source s.mover s.tape k.image stream last in
    by_guard (λ (a : Moving). Known a.answer.next) s l.room _ _ (λ _. h) (λ _. announced_known k l st.gives st.image h)
step_known k (FromTape l dest) h =
    let s = k.session in
    let st = from_tape s.source s.mover s.tape k.image dest in
    by_guard (λ (a : Moving). Known a.answer.next) s l.room _ _ (λ _. h) (λ _. announced_known k l st.move k.image h)
step_known k (Ended l ok) h =
    by_guard (λ (a : Answered). Known a.next) k.session l.room _ _ (λ _. h)
    (λ _. announced_known k l (method_end ok k.session.source k.session.mover k.session.tape) k.image h)
step_known k (Made l mover) h =
    by_guard (λ (a : Answered). Known a.next) k.session l.room _ _ (λ _. h)
    (λ _. announced_known k l (made_at mover k.session.source k.session.mover k.session.tape) k.image h)
step_known k (Lost l mover) h =
    by_guard (λ (a : Answered). Known a.next) k.session l.room _ _ (λ _. h)
    (λ _. announced_known k l (lost_at mover k.session.source k.session.mover k.session.tape) k.image h)
step_known k (Inserted image) h = h
step_known k (Renumbered n) h = h
step_known k (StoreLent variables) h = h
step_known k (SlotsLent slots) h = h

runs_known : (k : Kept) (es : List Event) → Known k → Known (runs k es)
unfolding runs
runs_known k [] h = h
runs_known k (e ∷ es) h = runs_known (step e k) es (step_known k e h)

-- ---- a request of the data service that is accepted
accepted_is : {A : Type 0} (ts : List Test) (r : Reply) (n : A) → is_accepted (judge ts (accept r n)) ≡ true → judge ts (accept r n) ≡ accept r n
unfolding judge is_accepted choose
accepted_is [] r n h = refl
accepted_is (test true e ∷ ts) r n h = clash h
accepted_is (test false e ∷ ts) r n h = accepted_is ts r n h

accepted_by : (b : Bool) (put : Data → Done) (x : Outcome Data) → is_accepted (judge (test (choose b false true) 4 ∷ []) (onto put x)) ≡ true
    → (b ≡ true) × (is_accepted x ≡ true)
unfolding judge onto is_accepted choose
accepted_by true put (refuse e) h = clash h
accepted_by true put (accept r d) h = (refl, refl)
accepted_by false put x h = clash h

module _ (k : Kept) (l : Lent) (r : List ℕ) (q : DataRequest) where
  abbrev stepped : Outcome Data
  stepped = data_step k.session.source q (body_of r) l.addresses k.variables

  accepted_parts : is_accepted (verdict k l r (Request.Data q)) ≡ true → Known k × (is_accepted stepped ≡ true)
  unfolding verdict is_locked needs_login outcome Known
  accepted_parts h = accepted_by k.session.login.authorized (with_data k q (body_of r) l.addresses) stepped h

-- ---- a start
record Begun (d : Data) (q : DataRequest) (body list v : List ℕ) (ps : List Pair) : Type 0 where
  operation : ℕ
  is : data_step d q body list v ≡ accept Reply.Plain (data_starts operation d)
  fit : fits ps ≡ true
  after : variables_after q body v ≡ storing ps v

said : {A : Type 0} (P : Reply → A → Type 0) (o : Outcome A) (r : Reply) (n : A) → o ≡ accept r n → Accepts P o → P r n
unfolding Accepts
said P o r n e h = rw e at h

begins : (d : Data) (q : DataRequest) (method : Text) (place : Pairs) (body list v : List ℕ) → Starts q method place
    → is_accepted (data_step d q body list v) ≡ true → Begun d q body list v (pairs_from body place.count place.start)
unfolding data_step data_start variables_after
begins d _ method place body list v (backup _ _) h =
    let ps = pairs_from body place.count place.start in
    let e = accepted_is _ Reply.Plain (data_starts 1 d) h in
    record { operation = 1; is = e; fit = said (λ _ _. fits ps ≡ true) _ _ _ e (accepts _ _ _ _ (λ g. yes (g 2))); after = refl }
begins d _ method place body list v (recover _ _) h =
    let ps = pairs_from body place.count place.start in
    let e = accepted_is _ Reply.Plain (data_starts 2 d) h in
    record { operation = 2; is = e; fit = said (λ _ _. fits ps ≡ true) _ _ _ e (accepts _ _ _ _ (λ g. yes (g 2))); after = refl }

record Ready (ps : List Pair) (v : List ℕ) (n : Kept) : Type 0 where
  known : Known n
  store : n.variables ≡ storing ps v
  ran : Ran n.session.source

module _ (k : Kept) (c : Call) (ps : List Pair) (s : Started k c ps) where
  abbrev r : List ℕ
  r = c.ask.request

  begun : Known k × Begun k.session.source s.request (body_of r) c.lent.addresses k.variables ps
  begun =
      let a = accepted_parts k c.lent r s.request s.accepted in
      (a.0, rw s.pairs at (begins k.session.source s.request s.method s.place (body_of r) c.lent.addresses k.variables s.starts a.1))

  first_ready : Keeping (Same (storing ps k.variables)) Ran (answered k c.lent r).next
  unfolding Keeping
  first_ready =
      let b = begun in
      let n = next_is k c.lent r s.request s.heard s.is (known_is k b.0) Reply.Plain _ b.1.is in
      (n.variables ∙ b.1.after, active_ran _ (ap (λ (d : Data). d.state) n.source))

  ready : (es : List Event) → Along Between (step (Asked c) k) es → Ready ps k.variables (after k c es)
  unfolding runs step Keeping
  ready es o =
      let x = (answered k c.lent r).next in
      let W = storing ps k.variables in
      let h = runs_keep (Same W) Ran Between (ran_asking W) ran_moves x es first_ready o in
      record { known = runs_known x es (asked_known k c begun.0); store = h.0; ran = h.1 }

  laid : (es : List Event) → Along Between (step (Asked c) k) es → is_laid (after k c es).variables ≡ true
  laid es o = rw (ready es o).store (start_leaves ps k.variables begun.1.fit).laid

-- ---- 0x404
module _ (n : Kept) (a : Call) (f : AsksFor n a) where
  abbrev asked : List ℕ
  asked = a.ask.request

  given_by : Known n → data_step n.session.source DataRequest.Environment (body_of asked) a.lent.addresses n.variables ≡ accept Reply.Environment n.session.source
      → body_answered n a ≡ giving (environment_of n.variables)
  unfolding data_shown
  given_by z x =
      let e = next_is n a.lent asked DataRequest.Environment f.heard f.is (known_is n z) Reply.Environment _ x in
      ap body_in e.sent ∙ environment_body n.session.sequence a.lent.time (message_word asked) (sequence_of asked) n.variables

  answers : Ran n.session.source → is_laid n.variables ≡ true
      → data_step n.session.source DataRequest.Environment (body_of asked) a.lent.addresses n.variables ≡ accept Reply.Environment n.session.source
  unfolding data_step data_environment judge choose
  answers s h = rw (s.run, h)

given : (k : Kept) (c : Call) (ps : List Pair) → Started k c ps → (es : List Event) → Along Between (step (Asked c) k) es
    → (a : Call) → AsksFor (after k c es) a → body_answered (after k c es) a ≡ giving (with_separator ps)
given k c ps s es o a f =
    let n = after k c es in
    let y = ready k c ps s es o in
    let e : environment_of n.variables ≡ with_separator ps =
    ap environment_of y.store ∙ (start_leaves ps k.variables (begun k c ps s).1.fit).given in
    given_by n a f y.known (answers n a f y.ran (laid k c ps s es o)) ∙ ap giving e

-- ---- after a stop
stop_ready : (k : Kept) (c : Call) → Stopped k c → Keeping NoPairs Any (answered k c.lent c.ask.request).next
unfolding Keeping data_step data_stop variables_after
stop_ready k c s =
    let r = c.ask.request in
    let p = accepted_parts k c.lent r DataRequest.Stop s.accepted in
    let n = next_is k c.lent r DataRequest.Stop s.heard s.is (known_is k p.0) Reply.Plain rest_data (accepted_is _ Reply.Plain rest_data p.1) in
    (rw n.variables (stopped_empty k.variables s.heard.stored), tt)

none_given : (v : List ℕ) → kept_pairs v ≡ [] → environment_of v ≡ pair separator_name separator ∷ []
unfolding environment_of with_separator is_named choose
none_given v e = rw e refl

answering_ran : (d : Data) → Answering d → Ran d
answering_ran d (active e) = active_ran d e
answering_ran d (halted e) = halted_ran d e

stop_known : (k : Kept) (c : Call) → Stopped k c → Known k
stop_known k c s = (accepted_parts k c.lent c.ask.request DataRequest.Stop s.accepted).0

empty : (k : Kept) (c : Call) → Stopped k c → (es : List Event) → Along NoStart (step (Asked c) k) es
    → (a : Call) → AsksFor (after k c es) a → Answering (after k c es).session.source
    → body_answered (after k c es) a ≡ giving (pair separator_name separator ∷ [])
unfolding runs step Keeping
empty k c s es o a f w =
    let x = (answered k c.lent c.ask.request).next in
    let n = runs x es in
    let z = runs_keep NoPairs Any NoStart empty_asking any_moves x es (stop_ready k c s) o in
    let y = runs_known x es (asked_known k c (stop_known k c s)) in
    given_by n a f y (answers n a f (answering_ran n.session.source w) z.0.1) ∙ ap giving (none_given n.variables z.0.0)

pub variables_hold : VariablesHold
variables_hold =
    record { given = given; stored = λ k c ps s es o. (ready k c ps s es o).store; laid = laid; emptied = empty; others = others }
