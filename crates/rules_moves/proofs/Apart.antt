-- One end by TCP, and the other: call by call, then by induction over the calls. Assumes nothing.
use Prim.Native.Nat.{ℕ}
use mathlib.Core.Bool.{Bool, true, false, not}
use mathlib.Core.List.{List, [], ◌∷◌}
use mathlib.Core.Path.{◌≡◌, refl, sym, ap, ◌∙◌}
use native.Mathlib.Omega.{arith}
use lib.ListN.{length}
use lib.Dec.{eqb, ltb}
use borrow.Author.Tests.{eq-eqb, eqb-true}
use Rattle.xdr.specs.Choose.{choose}
use Rattle.xdr.proofs.Tests.{by_test, none_of, is}
use Rattle.tape_ops.specs.Step.{Step, keeping}
use Rattle.wire_frame.specs.Frame.{body_of}
use Rattle.wire_requests.specs.declared.DataRequest.{DataRequest}
use Rattle.wire_requests.specs.declared.DataRequest.TheVariants as DataRequest
use Rattle.wire_requests.specs.declared.JointRequest.{JointRequest}
use Rattle.wire_requests.specs.declared.JointRequest.TheVariants as JointRequest
use Rattle.wire_requests.specs.declared.Request.{Request}
use Rattle.wire_requests.specs.declared.Request.TheVariants as Request
use Rattle.wire_replies.specs.declared.Reply.{Reply}
use Rattle.rules_parts.specs.declared.types.Data.{Data}
use Rattle.rules_parts.specs.declared.types.Mover.{Mover}
use Rattle.rules_parts.specs.declared.types.Tape.{Tape}
use Rattle.rules_parts.specs.declared.types.Session.{Session}
use Rattle.rules_parts.specs.Parts.{rest_data, data_joined, mover_joined, data_partnered, mover_partnered, address_wrong}
use Rattle.rules_parts.proofs.Addressing.{tcp_right, source_alone_lem, mover_alone_lem, mover_joined_lem}
use Rattle.rules.specs.declared.Ends.{Ends}
use Rattle.rules.specs.Judge.{Outcome, Accepts, onto}
use Rattle.rules.specs.DataService.{data_state, data_listen, data_start, data_environment, data_stop, data_step}
use Rattle.rules.specs.Joint.{data_connect, mover_connect, data_aborted, data_abort, mover_aborted, mover_abort, mover_closed, mover_close, joint_step}
use Rattle.rules.specs.TapeService.{with_mover, mover_part_step}
use Rattle.rules.specs.Relation.{data_wrong, keeps, MoverKept}
use Rattle.rules.specs.Calls.{opening}
use Rattle.rules.specs.Answer.{Kept, held, Lent, Answered, Done, guarded, silent, outcome, answered, request_in, tape_part, with_login, with_changer, with_data, with_part, with_tape, with_ends}
use Rattle.rules.proofs.JudgeLaws.{accepts, accepts_any, accepts_map, refusal_says, carried}
use Rattle.rules.proofs.Keeping.{clash, not_joined}
use Rattle.rules.proofs.Kept.{mover_kept}
use Rattle.rules.proofs.Guarding.{by_guard}
use Rattle.rules.proofs.Calls.{by_opening, unopened_keeps, kept_facts, call_holds, calls_keep}
use Rattle.rules_moves.specs.declared.Move.{Move}
use Rattle.rules_moves.specs.declared.Found.{Found}
use Rattle.rules_moves.specs.Moves.{idle, halts_with, fed_with, filling, to_tape, Handing, untouched, reading, on_found, sought, seeking, from_tape, method_end, made_at, lost_at}
use Rattle.rules_moves.specs.Events.{Moving, announced, moved_to_tape, moved_from_tape, method_ended, connection_made, connection_lost}
use Rattle.rules_moves.specs.Sequence.{Event, Asked, ToTape, FromTape, Ended, Made, Lost, Inserted, Renumbered, StoreLent, SlotsLent, step, runs}
use Rattle.rules_moves.specs.FirstSize.{after_open}
use Rattle.rules_moves.specs.Apart.{joint_of_mover, MoverAsks, SourceAsks, OfMover, OfSource, MoverAlong, SourceAlong, StaysTcp, MoverLeft, TcpApart}
use Rattle.rules_moves.proofs.Sequence.{announced_carries, parts_kept, stepped}
use Rattle.rules_moves.proofs.Asking.{local_type}
use Rattle.rules_moves.proofs.Moving.{PartsKept, running}

-- ---- an end by TCP is not in IDLE
mover_busy : (m : Mover) (t : Tape) → MoverKept m t → m.address ≡ 1 → m.state ≡ 0 → ⊥
mover_busy m t k a s =
    let e : address_wrong 1 true ≡ false = rw (a, eq-eqb m.state 0 s) at k.types in
    clash true (sym (tcp_right true) ∙ e) refl

source_busy : (d : Data) → data_wrong d ≡ false → d.address ≡ 1 → d.state ≡ 0 → ⊥
unfolding data_wrong
source_busy d h a s =
    let e : address_wrong 1 true ≡ false = rw (a, eq-eqb d.state 0 s) at (none_of _ h).1 in
    clash true (sym (tcp_right true) ∙ e) refl

-- ---- the mover's moves
module _ (d : Data) (m : Mover) (t : Tape) (a : m.address ≡ 1) where
  Same : Move → Type 0
  Same mv = mv.source ≡ d

  halts_same : (dwhy mwhy : ℕ) → Same (halts_with dwhy mwhy d m t)
  unfolding halts_with Same choose
  halts_same dwhy mwhy = rw a refl

  fed_same : (n : ℕ) → fed_with m n d ≡ d
  unfolding fed_with choose
  fed_same n = rw a refl

  SameStep : Step Move → Type 0
  SameStep st = Same st.gives

  to_same : (l s : List ℕ) (last : Bool) → SameStep (to_tape d m t l s last)
  unfolding to_tape filling SameStep Same
  to_same l s last =
      let P = SameStep in
      by_test P _ _ _ (λ _. refl)
      (λ _. by_test P _ _ _ (λ _. halts_same 4 5)
      (λ _. by_test P _ _ _ (λ _. halts_same 1 1)
      (λ _. by_test P _ _ _ (λ _. refl)
      (λ _. by_test P _ _ _ (λ _. refl)
      (λ _. by_test P _ _ _ (λ _. refl) (λ _. fed_same _))))))

  SameHanding : Handing → Type 0
  SameHanding st = Same st.move

  found_same : (f : Found) (l b : List ℕ) → SameHanding (on_found f d m t l b)
  unfolding on_found reading SameHanding Same
  found_same (Found.Target i) l b = by_test SameHanding _ _ _ (λ _. halts_same 4 5) (λ _. fed_same _)
  found_same (Found.Mark j) l b = refl
  found_same Found.End l b = refl

  from_same : (l b : List ℕ) → SameHanding (from_tape d m t l b)
  unfolding from_tape seeking SameHanding Same
  from_same l b =
      by_test SameHanding _ _ _ (λ _. refl)
      (λ _. by_test SameHanding _ _ _ (λ _. halts_same 4 5)
      (λ _. by_test SameHanding _ _ _ (λ _. refl)
      (λ _. by_test SameHanding _ _ _ (λ _. refl)
      (λ _. by_test SameHanding _ _ _ (λ _. refl) (λ _. found_same (sought m l) l b)))))

  made_same : Same (made_at true d m t)
  unfolding made_at Same
  made_same = by_test Same _ _ _ (λ _. refl) (λ _. refl)

  lost_same : Same (lost_at true d m t)
  unfolding lost_at Same
  lost_same = by_test Same _ _ _ (λ _. refl) (λ _. refl)

-- ---- the data end's own
module _ (d : Data) (m : Mover) (t : Tape) where
  record Left (mv : Move) : Type 0 where
    mover : mv.mover ≡ m
    tape : mv.tape ≡ t

  left : Left (record { count = 0; dwhy = 0; mwhy = 0; pause = 0; source = d; mover = m; tape = t })
  left = record { mover = refl; tape = refl }

  end_left : (ok : Bool) → d.address ≡ 1 → Left (method_end ok d m t)
  unfolding method_end choose
  end_left ok a =
      by_test Left (eqb d.state 1) _ _
      (λ _. by_test Left (eqb d.address 1) _ _ (λ _. record { mover = refl; tape = refl }) (λ n. clash (eqb d.address 1) n (eq-eqb d.address 1 a)))
      (λ _. record { mover = refl; tape = refl })

  made_left : Left (made_at false d m t)
  unfolding made_at
  made_left = by_test Left _ _ _ (λ _. record { mover = refl; tape = refl }) (λ _. record { mover = refl; tape = refl })

  lost_left : Left (lost_at false d m t)
  unfolding lost_at
  lost_left = by_test Left _ _ _ (λ _. record { mover = refl; tape = refl }) (λ _. record { mover = refl; tape = refl })

-- ---- requests
module _ (w : Kept) (h : keeps w.session ≡ true) (l : Lent) (r : List ℕ) where
  Source : Kept → Type 0
  Source v = v.session.source ≡ w.session.source

  joint_source : (q : JointRequest) → joint_of_mover q ≡ true → w.session.mover.address ≡ 1
      → Accepts (λ _ (e : Ends). e.source ≡ w.session.source) (joint_step w.session.source w.session.mover w.session.tape q l.made)
  unfolding joint_of_mover joint_step mover_abort mover_close mover_connect mover_aborted mover_closed choose
  joint_source JointRequest.DataAbort o a = clash false refl o
  joint_source (JointRequest.DataConnect address count) o a = clash false refl o
  joint_source JointRequest.MoverAbort o a =
      rw (mover_alone_lem w.session.mover a) (accepts (λ _ (e : Ends). e.source ≡ w.session.source) _ _ _ (λ _. refl))
  joint_source JointRequest.MoverClose o a =
      rw (mover_alone_lem w.session.mover a) (accepts (λ _ (e : Ends). e.source ≡ w.session.source) _ _ _ (λ _. refl))
  joint_source (JointRequest.MoverConnect mode address count) o a =
      accepts (λ _ (e : Ends). e.source ≡ w.session.source) _ _ _
      (λ g. absurd (mover_busy w.session.mover w.session.tape (mover_kept _ _ (kept_facts w.session h).mover) a (is (g 1))))

  asks_source : (q : Request) → MoverAsks q → w.session.mover.address ≡ 1 → Accepts (λ _ (d : Done). Source d.kept) (outcome w l r q)
  unfolding outcome mover_part_step Source
  asks_source (Request.Mover q) o a =
      carried (λ _ (d : Done). Source d.kept) (with_part w l.addresses) _
      (carried (λ _ p. Source (with_part w l.addresses p).kept) (with_mover (tape_part w)) _ (accepts_any (λ _ _. w.session.source ≡ w.session.source) (λ _ _. refl) _))
  asks_source (Request.Joint q) o a = carried (λ _ (d : Done). Source d.kept) (with_ends w) _ (joint_source q o a)
  asks_source (Request.Data q) o a = absurd o
  asks_source (Request.Connect q) o a = absurd o
  asks_source (Request.Config q) o a = absurd o
  asks_source (Request.Scsi q) o a = absurd o
  asks_source (Request.Tape q) o a = absurd o
  asks_source Request.Unknown o a = absurd o
  asks_source Request.Bad o a = absurd o

  asked_source : MoverAsks (request_in r) → w.session.mover.address ≡ 1 → (answered w l r).next.session.source ≡ w.session.source
  unfolding Source
  asked_source o a = call_holds Source (λ x _ z. z) (λ x z. z) w l r refl (asks_source (request_in r) o a)

  -- the data end's own requests
  joint_mover : (q : JointRequest) → joint_of_mover q ≡ false → w.session.source.address ≡ 1
      → Accepts (λ _ (e : Ends). e.mover ≡ w.session.mover) (joint_step w.session.source w.session.mover w.session.tape q l.made)
  unfolding joint_of_mover joint_step data_abort data_connect data_aborted choose
  joint_mover JointRequest.DataAbort o a =
      rw (source_alone_lem w.session.source a) (accepts (λ _ (e : Ends). e.mover ≡ w.session.mover) _ _ _ (λ _. refl))
  joint_mover (JointRequest.DataConnect address count) o a =
      accepts (λ _ (e : Ends). e.mover ≡ w.session.mover) _ _ _
      (λ g. absurd (source_busy w.session.source (kept_facts w.session h).source a (is (g 0))))
  joint_mover JointRequest.MoverAbort o a = clash true o refl
  joint_mover JointRequest.MoverClose o a = clash true o refl
  joint_mover (JointRequest.MoverConnect mode address count) o a = clash true o refl

  LeftBy : Kept → Type 0
  LeftBy v = MoverLeft w v

  asks_left : (q : Request) → SourceAsks q → w.session.source.address ≡ 1 → Accepts (λ _ (d : Done). LeftBy d.kept) (outcome w l r q)
  unfolding outcome LeftBy
  asks_left (Request.Data q) o a =
      carried (λ _ (d : Done). LeftBy d.kept) (with_data w q (body_of r) l.addresses) _
      (accepts_any (λ _ p. LeftBy (with_data w q (body_of r) l.addresses p).kept) (λ _ _. record { mover = refl; tape = refl; image = refl }) _)
  asks_left (Request.Joint q) o a =
      carried (λ _ (d : Done). LeftBy d.kept) (with_ends w) _
      (accepts_map (λ _ (e : Ends). e.mover ≡ w.session.mover) (λ _ e. LeftBy (with_ends w e).kept) (λ _ _ z. record { mover = z; tape = refl; image = refl }) _
      (joint_mover q o a))
  asks_left (Request.Mover q) o a = absurd o
  asks_left (Request.Connect q) o a = absurd o
  asks_left (Request.Config q) o a = absurd o
  asks_left (Request.Scsi q) o a = absurd o
  asks_left (Request.Tape q) o a = absurd o
  asks_left Request.Unknown o a = absurd o
  asks_left Request.Bad o a = absurd o

  asked_left : SourceAsks (request_in r) → w.session.source.address ≡ 1 → MoverLeft w (answered w l r).next
  unfolding LeftBy
  asked_left o a =
      call_holds LeftBy (λ x _ z. record { mover = z.mover; tape = z.tape; image = z.image }) (λ x z. record { mover = z.mover; tape = z.tape; image = z.image }) w l r
      (record { mover = refl; tape = refl; image = refl }) (asks_left (request_in r) o a)

-- ---- any call of the mover, and of the data end
step_source : (w : Kept) → keeps w.session ≡ true → (e : Event) → OfMover e → w.session.mover.address ≡ 1 → (step e w).session.source ≡ w.session.source
unfolding step moved_to_tape moved_from_tape connection_made connection_lost Same SameStep SameHanding
step_source w h (Asked c) o a = asked_source w h c.lent c.ask.request o a
step_source w h (ToTape l stream last) o a =
    let s = w.session in
    let st = to_tape s.source s.mover s.tape w.image stream last in
    by_guard (λ (e : Moving). e.answer.next.session.source ≡ s.source) s l.room _ _ (λ _. refl)
    (λ _. (announced_carries w l st.gives st.image).source ∙ to_same s.source s.mover s.tape a w.image stream last)
step_source w h (FromTape l dest) o a =
    let s = w.session in
    let st = from_tape s.source s.mover s.tape w.image dest in
    by_guard (λ (e : Moving). e.answer.next.session.source ≡ s.source) s l.room _ _ (λ _. refl)
    (λ _. (announced_carries w l st.move w.image).source ∙ from_same s.source s.mover s.tape a w.image dest)
step_source w h (Made l true) o a =
    let s = w.session in
    by_guard (λ (e : Answered). e.next.session.source ≡ s.source) s l.room _ _ (λ _. refl)
    (λ _. (announced_carries w l (made_at true s.source s.mover s.tape) w.image).source ∙ made_same s.source s.mover s.tape a)
step_source w h (Lost l true) o a =
    let s = w.session in
    by_guard (λ (e : Answered). e.next.session.source ≡ s.source) s l.room _ _ (λ _. refl)
    (λ _. (announced_carries w l (lost_at true s.source s.mover s.tape) w.image).source ∙ lost_same s.source s.mover s.tape a)
step_source w h (Made l false) o a = clash false refl o
step_source w h (Lost l false) o a = clash false refl o
step_source w h (Ended l ok) o a = absurd o
step_source w h (Inserted image) o a = absurd o
step_source w h (Renumbered n) o a = absurd o
step_source w h (StoreLent variables) o a = absurd o
step_source w h (SlotsLent slots) o a = absurd o

-- an announced move that leaves mover and tape
announced_left : (w : Kept) (l : Lent) (mv : Move) → Left w.session.source w.session.mover w.session.tape mv
    → MoverLeft w (guarded w.session l.room (λ code. silent code w) (announced w l mv w.image)).next
announced_left w l mv f =
    let c = announced_carries w l mv w.image in
    by_guard (λ (e : Answered). MoverLeft w e.next) w.session l.room _ _ (λ _. record { mover = refl; tape = refl; image = refl })
    (λ _. record { mover = c.mover ∙ f.mover; tape = c.tape ∙ f.tape; image = c.image_end })

step_left : (w : Kept) → keeps w.session ≡ true → (e : Event) → OfSource e → w.session.source.address ≡ 1 → MoverLeft w (step e w)
unfolding step method_ended connection_made connection_lost
step_left w h (Asked c) o a = asked_left w h c.lent c.ask.request o a
step_left w h (Ended l ok) o a = announced_left w l _ (end_left w.session.source w.session.mover w.session.tape ok a)
step_left w h (Made l false) o a = announced_left w l _ (made_left w.session.source w.session.mover w.session.tape)
step_left w h (Lost l false) o a = announced_left w l _ (lost_left w.session.source w.session.mover w.session.tape)
step_left w h (Made l true) o a = clash true o refl
step_left w h (Lost l true) o a = clash true o refl
step_left w h (ToTape l stream last) o a = absurd o
step_left w h (FromTape l dest) o a = absurd o
step_left w h (Inserted image) o a = absurd o
step_left w h (Renumbered n) o a = absurd o
step_left w h (StoreLent variables) o a = absurd o
step_left w h (SlotsLent slots) o a = absurd o

-- ---- calls one after the other
source_left : (w : Kept) → keeps w.session ≡ true → (es : List Event) → MoverAlong w es → (runs w es).session.source ≡ w.session.source
unfolding runs
source_left w h [] o = refl
source_left w h (e ∷ es) o = source_left (step e w) (stepped w h e).kept es o.2 ∙ step_source w h e o.0 o.1

mover_left : (w : Kept) → keeps w.session ≡ true → (es : List Event) → SourceAlong w es → MoverLeft w (runs w es)
unfolding runs
mover_left w h [] o = record { mover = refl; tape = refl; image = refl }
mover_left w h (e ∷ es) o =
    let a = mover_left (step e w) (stepped w h e).kept es o.2 in
    let b = step_left w h e o.0 o.1 in
    record { mover = a.mover ∙ b.mover; tape = a.tape ∙ b.tape; image = a.image ∙ b.image }

-- ---- the processed count of a data end by TCP
either : {A : Type 0} (b : Bool) → (b ≡ true → A) → (b ≡ false → A) → A
either true f g = f refl
either false f g = g refl

-- a mover that moves is by TCP too: by LOCAL it would be joined with the data end
module _ (d : Data) (m : Mover) (t : Tape) (k : PartsKept d m t) (p : data_partnered d ≡ false) where
  unpartnered : mover_partnered m ≡ false
  unpartnered = not_joined (data_partnered d) (mover_partnered m) k.joined p

  moves_by_tcp : m.state ≡ 2 → m.address ≡ 1
  unfolding mover_joined choose
  moves_by_tcp s =
      either (eqb m.address 1) (λ e. eqb-true m.address 1 e)
      (λ e. let z = local_type m.address _ (mover_kept m t k.mover).types e in
      clash (mover_partnered m) unpartnered (mover_joined_lem m z ∙ ap mover_joined s))

module _ (d : Data) (m : Mover) (t : Tape) (k : PartsKept d m t) (a : d.address ≡ 1) where
  to_counted : (l s : List ℕ) (last : Bool) → (to_tape d m t l s last).gives.source.processed ≡ d.processed
  unfolding to_tape SameStep Same choose
  to_counted l s last =
      either (idle 0 1 d m) (λ e. rw e refl)
      (λ e. ap (λ (x : Data). x.processed) (to_same d m t (moves_by_tcp d m t k (source_alone_lem d a) (running 0 1 d m e).active) l s last))

  from_counted : (l b : List ℕ) → (from_tape d m t l b).move.source.processed ≡ d.processed
  unfolding from_tape SameHanding Same choose
  from_counted l b =
      either (idle 1 2 d m) (λ e. rw e refl)
      (λ e. ap (λ (x : Data). x.processed) (from_same d m t (moves_by_tcp d m t k (source_alone_lem d a) (running 1 2 d m e).active) l b))

-- the events keep it
module _ (d : Data) (m : Mover) (t : Tape) where
  Counted : Move → Type 0
  Counted mv = mv.source.processed ≡ d.processed

  end_counted : (ok : Bool) → Counted (method_end ok d m t)
  unfolding method_end Counted
  end_counted ok =
      by_test Counted (eqb d.state 1) _ _ (λ _. by_test Counted (eqb d.address 1) _ _ (λ _. refl) (λ _. refl)) (λ _. refl)

  made_counted : (mover : Bool) → Counted (made_at mover d m t)
  unfolding made_at Counted
  made_counted true = by_test Counted _ _ _ (λ _. refl) (λ _. refl)
  made_counted false = by_test Counted _ _ _ (λ _. refl) (λ _. refl)

  lost_counted : (mover : Bool) → Counted (lost_at mover d m t)
  unfolding lost_at Counted
  lost_counted true = by_test Counted _ _ _ (λ _. refl) (λ _. refl)
  lost_counted false = by_test Counted _ _ _ (λ _. refl) (λ _. refl)

-- requests: only a stop resets it, and then the type is LOCAL
module _ (w : Kept) (l : Lent) (r : List ℕ) where
  abbrev Keeps : Data → Type 0
  Keeps d = d.address ≡ 1 → d.processed ≡ w.session.source.processed

  Count : Kept → Type 0
  Count v = Keeps v.session.source

  data_counted : (q : DataRequest) (body list variables : List ℕ) → Accepts (λ _ d. Keeps d) (data_step w.session.source q body list variables)
  unfolding data_step data_state data_listen data_start data_environment data_stop
  data_counted DataRequest.State body list variables = accepts (λ _ d. Keeps d) _ _ _ (λ _ _. refl)
  data_counted (DataRequest.Backup name pairs) body list variables = accepts (λ _ d. Keeps d) _ _ _ (λ _ _. refl)
  data_counted (DataRequest.Recover name pairs) body list variables = accepts (λ _ d. Keeps d) _ _ _ (λ _ _. refl)
  data_counted DataRequest.Environment body list variables = accepts (λ _ d. Keeps d) _ _ _ (λ _ _. refl)
  data_counted DataRequest.Stop body list variables = accepts (λ _ d. Keeps d) _ _ _ (λ _ e. absurd (omega (arith, e)))
  data_counted (DataRequest.Listen address) body list variables = accepts (λ _ d. Keeps d) _ _ _ (λ _ _. refl)

  abbrev EndsKeep : Ends → Type 0
  EndsKeep e = Keeps e.source

  joint_counted : (q : JointRequest) → Accepts (λ _ e. EndsKeep e) (joint_step w.session.source w.session.mover w.session.tape q l.made)
  unfolding joint_step data_abort data_connect mover_abort mover_close mover_connect data_aborted mover_aborted mover_closed
  joint_counted JointRequest.DataAbort = accepts (λ _ e. EndsKeep e) _ _ _ (λ _. by_test EndsKeep _ _ _ (λ _ _. refl) (λ _ _. refl))
  joint_counted (JointRequest.DataConnect address count) = accepts (λ _ e. EndsKeep e) _ _ _ (λ _. by_test EndsKeep _ _ _ (λ _ _. refl) (λ _ _. refl))
  joint_counted JointRequest.MoverAbort = accepts (λ _ e. EndsKeep e) _ _ _ (λ _. by_test EndsKeep _ _ _ (λ _ _. refl) (λ _ _. refl))
  joint_counted JointRequest.MoverClose = accepts (λ _ e. EndsKeep e) _ _ _ (λ _. by_test EndsKeep _ _ _ (λ _ _. refl) (λ _ _. refl))
  joint_counted (JointRequest.MoverConnect mode address count) = accepts (λ _ e. EndsKeep e) _ _ _ (λ _. by_test EndsKeep _ _ _ (λ _ _. refl) (λ _ _. refl))

  -- of a service whose part the data end is not in
  off_source : {A : Type 0} (put : A → Done) → ((p : A) → Count (put p).kept) → (o : Outcome A) → Accepts (λ _ (d : Done). Count d.kept) (onto put o)
  off_source put f o = carried (λ _ (d : Done). Count d.kept) put o (accepts_any (λ _ p. Count (put p).kept) (λ _ p. f p) o)

  outcome_counted : (q : Request) → Accepts (λ _ (d : Done). Count d.kept) (outcome w l r q)
  unfolding outcome Count
  outcome_counted Request.Unknown = refusal_says (λ _ (d : Done). Count d.kept) _
  outcome_counted Request.Bad = refusal_says (λ _ (d : Done). Count d.kept) _
  outcome_counted (Request.Connect q) = off_source (with_login w []) (λ _ _. refl) _
  outcome_counted (Request.Config q) = off_source (with_login w l.challenge) (λ _ _. refl) _
  outcome_counted (Request.Scsi q) = off_source (with_changer w _) (λ _ _. refl) _
  outcome_counted (Request.Tape q) = off_source (with_tape w) (λ _ _. refl) _
  outcome_counted (Request.Mover q) = off_source (with_part w l.addresses) (λ _ _. refl) _
  outcome_counted (Request.Data q) = carried (λ _ (d : Done). Count d.kept) (with_data w q (body_of r) l.addresses) _ (data_counted q (body_of r) l.addresses w.variables)
  outcome_counted (Request.Joint q) = carried (λ _ (d : Done). Count d.kept) (with_ends w) _ (joint_counted q)

  asked_counted : Count (answered w l r).next
  unfolding Count
  asked_counted = call_holds Count (λ x _ z. z) (λ x z. z) w l r (λ _. refl) (outcome_counted (request_in r))

-- an announced move that keeps the count
announced_counted : (w : Kept) (l : Lent) (mv : Move) → mv.source.processed ≡ w.session.source.processed
    → (guarded w.session l.room (λ code. silent code w) (announced w l mv w.image)).next.session.source.processed ≡ w.session.source.processed
announced_counted w l mv e =
    by_guard (λ (a : Answered). a.next.session.source.processed ≡ w.session.source.processed) w.session l.room _ _ (λ _. refl)
    (λ _. ap (λ (d : Data). d.processed) (announced_carries w l mv w.image).source ∙ e)

step_counted : (w : Kept) → keeps w.session ≡ true → (e : Event) → w.session.source.address ≡ 1 → (step e w).session.source.address ≡ 1
    → (step e w).session.source.processed ≡ w.session.source.processed
unfolding step moved_to_tape moved_from_tape method_ended connection_made connection_lost Count Counted
step_counted w h (Asked c) a b = asked_counted w c.lent c.ask.request b
step_counted w h (ToTape l stream last) a b =
    let s = w.session in
    let st = to_tape s.source s.mover s.tape w.image stream last in
    by_guard (λ (e : Moving). e.answer.next.session.source.processed ≡ s.source.processed) s l.room _ _ (λ _. refl)
    (λ _. ap (λ (d : Data). d.processed) (announced_carries w l st.gives st.image).source
    ∙ to_counted s.source s.mover s.tape (parts_kept s h) a w.image stream last)
step_counted w h (FromTape l dest) a b =
    let s = w.session in
    let st = from_tape s.source s.mover s.tape w.image dest in
    by_guard (λ (e : Moving). e.answer.next.session.source.processed ≡ s.source.processed) s l.room _ _ (λ _. refl)
    (λ _. ap (λ (d : Data). d.processed) (announced_carries w l st.move w.image).source
    ∙ from_counted s.source s.mover s.tape (parts_kept s h) a w.image dest)
step_counted w h (Ended l ok) a b = announced_counted w l (method_end ok w.session.source w.session.mover w.session.tape) (end_counted w.session.source w.session.mover w.session.tape ok)
step_counted w h (Made l mover) a b = announced_counted w l (made_at mover w.session.source w.session.mover w.session.tape) (made_counted w.session.source w.session.mover w.session.tape mover)
step_counted w h (Lost l mover) a b = announced_counted w l (lost_at mover w.session.source w.session.mover w.session.tape) (lost_counted w.session.source w.session.mover w.session.tape mover)
step_counted w h (Inserted image) a b = refl
step_counted w h (Renumbered n) a b = refl
step_counted w h (StoreLent variables) a b = refl
step_counted w h (SlotsLent slots) a b = refl

still_tcp : (w : Kept) (es : List Event) → StaysTcp w es → w.session.source.address ≡ 1
still_tcp w [] s = s
still_tcp w (e ∷ es) s = s.0

uncounted : (w : Kept) → keeps w.session ≡ true → (es : List Event) → StaysTcp w es → (runs w es).session.source.processed ≡ w.session.source.processed
unfolding runs
uncounted w h [] s = refl
uncounted w h (e ∷ es) s = uncounted (step e w) (stepped w h e).kept es s.1 ∙ step_counted w h e s.0 (still_tcp (step e w) es s.1)

-- ---- from `open` on: a data end in IDLE or by TCP has processed nothing
record Zero (d : Data) : Type 0 where
  rest : d.state ≡ 0 → d.processed ≡ 0
  tcp : d.address ≡ 1 → d.processed ≡ 0

zero_by : {x y : Data} → y ≡ x → Zero x → Zero y
zero_by e z =
    let p = ap (λ (d : Data). d.processed) e in
    record { rest = λ s. p ∙ z.rest (sym (ap (λ (d : Data). d.state) e) ∙ s); tcp = λ a. p ∙ z.tcp (sym (ap (λ (d : Data). d.address) e) ∙ a) }

-- a data end that is at rest has no partner
rest_alone : (d : Data) → d.state ≡ 0 → data_partnered d ≡ false
unfolding data_partnered data_joined choose
rest_alone d s = by_test (λ (b : Bool). b ≡ false) (eqb d.address 0) _ _ (λ _. rw s refl) (λ _. refl)

module _ (d : Data) (m : Mover) (t : Tape) where
  -- a move keeps the data end's type, and does not bring it to rest
  record Slides (mv : Move) : Type 0 where
    type : mv.source.address ≡ d.address
    rest : mv.source.state ≡ 0 → d.state ≡ 0

  slid : (x : Data) → x.address ≡ d.address → (x.state ≡ 0 → d.state ≡ 0) → (mv : Move) → mv.source ≡ x → Slides mv
  slid x a s mv e = record { type = ap (λ (y : Data). y.address) e ∙ a; rest = λ z. s (sym (ap (λ (y : Data). y.state) e) ∙ z) }

  same_slides : (mv : Move) → mv.source ≡ d → Slides mv
  same_slides = slid d refl (λ z. z)

  halts_slide : (dwhy mwhy : ℕ) → Slides (halts_with dwhy mwhy d m t)
  unfolding halts_with
  halts_slide dwhy mwhy =
      by_test Slides (eqb m.address 1) _ _ (λ _. record { type = refl; rest = λ z. z }) (λ _. record { type = refl; rest = λ z. absurd (omega (arith, z)) })

  fed_slides : (n : ℕ) (mv : Move) → mv.source ≡ fed_with m n d → Slides mv
  unfolding fed_with
  fed_slides n mv e =
      by_test (λ (x : Data). mv.source ≡ x → Slides mv) (eqb m.address 1) _ _ (λ _. same_slides mv) (λ _. slid _ refl (λ z. z) mv) e

  StepSlides : Step Move → Type 0
  StepSlides st = Slides st.gives

  to_slides : (l s : List ℕ) (last : Bool) → StepSlides (to_tape d m t l s last)
  unfolding to_tape filling StepSlides
  to_slides l s last =
      let P = StepSlides in
      by_test P _ _ _ (λ _. same_slides _ refl)
      (λ _. by_test P _ _ _ (λ _. halts_slide 4 5)
      (λ _. by_test P _ _ _ (λ _. halts_slide 1 1)
      (λ _. by_test P _ _ _ (λ _. same_slides _ refl)
      (λ _. by_test P _ _ _ (λ _. same_slides _ refl)
      (λ _. by_test P _ _ _ (λ _. same_slides _ refl) (λ _. fed_slides _ _ refl))))))

  HandingSlides : Handing → Type 0
  HandingSlides st = Slides st.move

  found_slides : (f : Found) (l b : List ℕ) → HandingSlides (on_found f d m t l b)
  unfolding on_found reading HandingSlides
  found_slides (Found.Target i) l b = by_test HandingSlides _ _ _ (λ _. halts_slide 4 5) (λ _. fed_slides _ _ refl)
  found_slides (Found.Mark j) l b = same_slides _ refl
  found_slides Found.End l b = same_slides _ refl

  from_slides : (l b : List ℕ) → HandingSlides (from_tape d m t l b)
  unfolding from_tape seeking HandingSlides
  from_slides l b =
      let P = HandingSlides in
      by_test P _ _ _ (λ _. same_slides _ refl)
      (λ _. by_test P _ _ _ (λ _. halts_slide 4 5)
      (λ _. by_test P _ _ _ (λ _. same_slides _ refl)
      (λ _. by_test P _ _ _ (λ _. same_slides _ refl)
      (λ _. by_test P _ _ _ (λ _. same_slides _ refl) (λ _. found_slides (sought m l) l b)))))

  -- of a data end that is joined by LOCAL nothing is asked, as it stays so or is halted; any other is left by a move
  slid_zero : (mv : Move) → Slides mv → (data_partnered d ≡ false → mv.source ≡ d) → Zero d → Zero mv.source
  slid_zero mv e f z =
      either (data_partnered d)
      (λ p. record {
        rest = λ s. clash (data_partnered d) (rest_alone d (e.rest s)) p;
        tcp = λ a. clash (data_partnered d) (source_alone_lem d (sym e.type ∙ a)) p;
      })
      (λ p. zero_by (f p) z)

  ZeroMove : Move → Type 0
  ZeroMove mv = Zero mv.source

  module _ (z : Zero d) where
    end_zero : (ok : Bool) → ZeroMove (method_end ok d m t)
    unfolding method_end ZeroMove
    end_zero ok =
        by_test ZeroMove (eqb d.state 1) _ _
        (λ _. by_test ZeroMove (eqb d.address 1) _ _ (λ _. record { rest = λ s. absurd (omega (arith, s)); tcp = z.tcp })
        (λ _. record { rest = λ s. absurd (omega (arith, s)); tcp = z.tcp }))
        (λ _. z)

    made_zero : (mover : Bool) → ZeroMove (made_at mover d m t)
    unfolding made_at ZeroMove
    made_zero true = by_test ZeroMove _ _ _ (λ _. z) (λ _. z)
    made_zero false = by_test ZeroMove _ _ _ (λ _. record { rest = λ s. absurd (omega (arith, s)); tcp = z.tcp }) (λ _. z)

    lost_zero : (mover : Bool) → ZeroMove (lost_at mover d m t)
    unfolding lost_at ZeroMove
    lost_zero true = by_test ZeroMove _ _ _ (λ _. z) (λ _. z)
    lost_zero false = by_test ZeroMove _ _ _ (λ _. record { rest = λ s. absurd (omega (arith, s)); tcp = z.tcp }) (λ _. z)

-- a mover that moves beside a data end without a partner is by TCP, and leaves it
module _ (d : Data) (m : Mover) (t : Tape) (k : PartsKept d m t) (p : data_partnered d ≡ false) where
  to_leaves : (l s : List ℕ) (last : Bool) → (to_tape d m t l s last).gives.source ≡ d
  unfolding to_tape SameStep Same choose
  to_leaves l s last =
      either (idle 0 1 d m) (λ e. rw e refl) (λ e. to_same d m t (moves_by_tcp d m t k p (running 0 1 d m e).active) l s last)

  from_leaves : (l b : List ℕ) → (from_tape d m t l b).move.source ≡ d
  unfolding from_tape SameHanding Same choose
  from_leaves l b =
      either (idle 1 2 d m) (λ e. rw e refl) (λ e. from_same d m t (moves_by_tcp d m t k p (running 1 2 d m e).active) l b)

-- requests
module _ (w : Kept) (l : Lent) (r : List ℕ) (z : Zero w.session.source) where
  data_zero : (q : DataRequest) (body list variables : List ℕ) → Accepts (λ _ d. Zero d) (data_step w.session.source q body list variables)
  unfolding data_step data_state data_listen data_start data_environment data_stop
  data_zero DataRequest.State body list variables = accepts (λ _ d. Zero d) _ _ _ (λ _. z)
  data_zero (DataRequest.Backup name pairs) body list variables = accepts (λ _ d. Zero d) _ _ _ (λ _. record { rest = λ s. absurd (omega (arith, s)); tcp = z.tcp })
  data_zero (DataRequest.Recover name pairs) body list variables = accepts (λ _ d. Zero d) _ _ _ (λ _. record { rest = λ s. absurd (omega (arith, s)); tcp = z.tcp })
  data_zero DataRequest.Environment body list variables = accepts (λ _ d. Zero d) _ _ _ (λ _. z)
  data_zero DataRequest.Stop body list variables = accepts (λ _ d. Zero d) _ _ _ (λ _. record { rest = λ _. refl; tcp = λ _. refl })
  data_zero (DataRequest.Listen address) body list variables =
      accepts (λ _ d. Zero d) _ _ _ (λ g. record { rest = λ s. absurd (omega (arith, s)); tcp = λ _. z.rest (is (g 0)) })

  ZeroEnds : Ends → Type 0
  ZeroEnds e = Zero e.source

  joint_zero : (q : JointRequest) → Accepts (λ _ e. ZeroEnds e) (joint_step w.session.source w.session.mover w.session.tape q l.made)
  unfolding joint_step data_abort data_connect mover_abort mover_close mover_connect data_aborted mover_aborted mover_closed ZeroEnds
  joint_zero JointRequest.DataAbort =
      accepts (λ _ e. ZeroEnds e) _ _ _
      (λ _. by_test ZeroEnds _ _ _ (λ _. record { rest = λ s. absurd (omega (arith, s)); tcp = z.tcp }) (λ _. record { rest = λ s. absurd (omega (arith, s)); tcp = z.tcp }))
  joint_zero (JointRequest.DataConnect address count) =
      accepts (λ _ e. ZeroEnds e) _ _ _
      (λ g. by_test ZeroEnds _ _ _ (λ _. record { rest = λ s. absurd (omega (arith, s)); tcp = λ _. z.rest (is (g 0)) })
      (λ _. record { rest = λ s. absurd (omega (arith, s)); tcp = λ _. z.rest (is (g 0)) }))
  joint_zero JointRequest.MoverAbort =
      accepts (λ _ e. ZeroEnds e) _ _ _ (λ _. by_test ZeroEnds _ _ _ (λ _. record { rest = λ s. absurd (omega (arith, s)); tcp = z.tcp }) (λ _. z))
  joint_zero JointRequest.MoverClose =
      accepts (λ _ e. ZeroEnds e) _ _ _ (λ _. by_test ZeroEnds _ _ _ (λ _. record { rest = λ s. absurd (omega (arith, s)); tcp = z.tcp }) (λ _. z))
  joint_zero (JointRequest.MoverConnect mode address count) =
      accepts (λ _ e. ZeroEnds e) _ _ _
      (λ _. by_test ZeroEnds _ _ _ (λ _. z) (λ _. record { rest = λ s. absurd (omega (arith, s)); tcp = λ a. absurd (omega (arith, a)) }))

  ZeroKept : Kept → Type 0
  ZeroKept v = Zero v.session.source

  -- of a service whose part the data end is not in
  off_zero : {A : Type 0} (put : A → Done) → ((p : A) → ZeroKept (put p).kept) → (o : Outcome A) → Accepts (λ _ (d : Done). ZeroKept d.kept) (onto put o)
  off_zero put f o = carried (λ _ (d : Done). ZeroKept d.kept) put o (accepts_any (λ _ p. ZeroKept (put p).kept) (λ _ p. f p) o)

  outcome_zero : (q : Request) → Accepts (λ _ (d : Done). ZeroKept d.kept) (outcome w l r q)
  unfolding outcome ZeroKept ZeroEnds
  outcome_zero Request.Unknown = refusal_says (λ _ (d : Done). ZeroKept d.kept) _
  outcome_zero Request.Bad = refusal_says (λ _ (d : Done). ZeroKept d.kept) _
  outcome_zero (Request.Connect q) = off_zero (with_login w []) (λ _. z) _
  outcome_zero (Request.Config q) = off_zero (with_login w l.challenge) (λ _. z) _
  outcome_zero (Request.Scsi q) = off_zero (with_changer w _) (λ _. z) _
  outcome_zero (Request.Tape q) = off_zero (with_tape w) (λ _. z) _
  outcome_zero (Request.Mover q) = off_zero (with_part w l.addresses) (λ _. z) _
  outcome_zero (Request.Data q) = carried (λ _ (d : Done). ZeroKept d.kept) (with_data w q (body_of r) l.addresses) _ (data_zero q (body_of r) l.addresses w.variables)
  outcome_zero (Request.Joint q) = carried (λ _ (d : Done). ZeroKept d.kept) (with_ends w) _ (joint_zero q)

  asked_zero : Zero (answered w l r).next.session.source
  unfolding ZeroKept
  asked_zero = call_holds ZeroKept (λ x _ y. y) (λ x y. y) w l r z (outcome_zero (request_in r))

-- an announced move
announced_zero : (w : Kept) (l : Lent) (mv : Move) → Zero w.session.source → Zero mv.source
    → Zero (guarded w.session l.room (λ code. silent code w) (announced w l mv w.image)).next.session.source
announced_zero w l mv z y =
    by_guard (λ (a : Answered). Zero a.next.session.source) w.session l.room _ _ (λ _. z) (λ _. zero_by (announced_carries w l mv w.image).source y)

step_zero : (w : Kept) → keeps w.session ≡ true → (e : Event) → Zero w.session.source → Zero (step e w).session.source
unfolding step moved_to_tape moved_from_tape method_ended connection_made connection_lost StepSlides HandingSlides ZeroMove
step_zero w h (Asked c) z = asked_zero w c.lent c.ask.request z
step_zero w h (ToTape l stream last) z =
    let s = w.session in
    let st = to_tape s.source s.mover s.tape w.image stream last in
    by_guard (λ (e : Moving). Zero e.answer.next.session.source) s l.room _ _ (λ _. z)
    (λ _. zero_by (announced_carries w l st.gives st.image).source
    (slid_zero s.source s.mover s.tape st.gives (to_slides s.source s.mover s.tape w.image stream last)
    (λ p. to_leaves s.source s.mover s.tape (parts_kept s h) p w.image stream last) z))
step_zero w h (FromTape l dest) z =
    let s = w.session in
    let st = from_tape s.source s.mover s.tape w.image dest in
    by_guard (λ (e : Moving). Zero e.answer.next.session.source) s l.room _ _ (λ _. z)
    (λ _. zero_by (announced_carries w l st.move w.image).source
    (slid_zero s.source s.mover s.tape st.move (from_slides s.source s.mover s.tape w.image dest)
    (λ p. from_leaves s.source s.mover s.tape (parts_kept s h) p w.image dest) z))
step_zero w h (Ended l ok) z =
    announced_zero w l (method_end ok w.session.source w.session.mover w.session.tape) z (end_zero w.session.source w.session.mover w.session.tape z ok)
step_zero w h (Made l mover) z =
    announced_zero w l (made_at mover w.session.source w.session.mover w.session.tape) z (made_zero w.session.source w.session.mover w.session.tape z mover)
step_zero w h (Lost l mover) z =
    announced_zero w l (lost_at mover w.session.source w.session.mover w.session.tape) z (lost_zero w.session.source w.session.mover w.session.tape z mover)
step_zero w h (Inserted image) z = z
step_zero w h (Renumbered n) z = z
step_zero w h (StoreLent variables) z = z
step_zero w h (SlotsLent slots) z = z

runs_zero : (w : Kept) → keeps w.session ≡ true → (es : List Event) → Zero w.session.source → Zero (runs w es).session.source
unfolding runs
runs_zero w h [] z = z
runs_zero w h (e ∷ es) z = runs_zero (step e w) (stepped w h e).kept es (step_zero w h e z)

record Fresh (s : Session) : Type 0 where
  kept : keeps s ≡ true
  zero : Zero s.source

fresh : (slots : List ℕ) (time room : ℕ) → Fresh (opening slots time room).next.session
fresh slots time room =
    let z : Zero rest_data = record { rest = λ _. refl; tcp = λ _. refl } in
    by_opening (λ (a : Answered). Fresh a.next.session) slots time room (λ _ _. record { kept = unopened_keeps; zero = z })
    (λ h. record { kept = calls_keep.opened slots h; zero = z })

zero : (slots : List ℕ) (time room : ℕ) (image variables : List ℕ) (es : List Event) → (after_open slots time room image variables es).session.source.address ≡ 1
    → (after_open slots time room image variables es).session.source.processed ≡ 0
zero slots time room image variables es =
    let f = fresh slots time room in
    (runs_zero (held (opening slots time room).next.session image variables) f.kept es f.zero).tcp

pub tcp_apart : TcpApart
tcp_apart = record { source_left = source_left; mover_left = mover_left; uncounted = uncounted; zero = zero }
