-- What a call does to the tape and the image: those beside the moves leave both, and a move to tape writes nothing or one record. Assumes nothing.
use Prim.Native.Nat.{ℕ, ◌+◌, ◌≤◌}
use mathlib.Core.Bool.{Bool, true, false}
use mathlib.Core.List.{List, []}
use mathlib.Core.Path.{◌≡◌, refl, ap, ◌∙◌}
use native.Mathlib.Omega.{arith}
use lib.ListN.{length, take}
use lib.Dec.{eqb, ltb}
use Rattle.xdr.specs.Choose.{choose, least}
use Rattle.xdr.proofs.Tests.{by_test, yes, least_left, least_right}
use Rattle.tape_image.specs.Image.{faulty}
use Rattle.tape_image.specs.Sound.{Placed}
use Rattle.tape_image.proofs.Laws.{placed}
use Rattle.tape_writing.specs.Writing.{Room, room_for, written, fill_to}
use Rattle.tape_writing.proofs.Laws.{room_facts}
use Rattle.tape_ops.specs.Step.{Step, keeping}
use Rattle.wire_requests.specs.declared.Request.{Request}
use Rattle.wire_requests.specs.declared.Request.TheVariants as Request
use Rattle.wire_replies.specs.declared.Reply.{Reply}
use Rattle.rules_parts.specs.declared.types.Data.{Data}
use Rattle.rules_parts.specs.declared.types.Mover.{Mover}
use Rattle.rules_parts.specs.declared.types.Tape.{Tape}
use Rattle.rules.specs.Judge.{Outcome, onto, Accepts}
use Rattle.rules.specs.TapeService.{with_mover, mover_part_step}
use Rattle.rules.specs.Relation.{keeps, MoverKept}
use Rattle.rules.specs.Answer.{Kept, Lent, Answered, silent, guarded, answered, outcome, request_in, Done, tape_part, with_data, with_part, with_changer, with_login, with_ends}
use Rattle.rules.proofs.JudgeLaws.{accepts_any, carried, refusal_says}
use Rattle.rules.proofs.Kept.{mover_kept}
use Rattle.rules.proofs.Keeping.{clash}
use Rattle.rules.proofs.Guarding.{by_guard}
use Rattle.rules.proofs.Calls.{kept_facts, call_holds}
use Rattle.rules_moves.specs.declared.Move.{Move}
use Rattle.rules_moves.specs.Moves.{idle, stream_ends, scant, writing, filling, to_tape, halts_with, method_end, made_at, lost_at}
use Rattle.rules_moves.specs.Events.{Moving, announced, moved_to_tape, method_ended, connection_made, connection_lost}
use Rattle.rules_moves.specs.Sequence.{Event, Asked, ToTape, FromTape, Ended, Made, Lost, Inserted, Renumbered, StoreLent, SlotsLent, step}
use Rattle.rules_moves.proofs.Moving.{running, some_taken}
use Rattle.rules_moves.proofs.Sequence.{Carries, announced_carries}
use Rattle.rules_annex.specs.Aside.{Untouched, AsideRequest, Aside}

-- ---- requests that leave the tape alone
module _ (w : Kept) (l : Lent) (r : List ℕ) where
  Stays : Kept → Type 0
  Stays v = Untouched w v

  Staying : Reply → Done → Type 0
  Staying _ d = Untouched w d.kept

  -- of a service whose part has neither the tape nor the image
  off_tape : {A : Type 0} (put : A → Done) → ((p : A) → Untouched w (put p).kept) → (o : Outcome A) → Accepts Staying (onto put o)
  unfolding Staying
  off_tape put f o = carried Staying put o (accepts_any (λ reply p. Staying reply (put p)) (λ _ p. f p) o)

  call_stays : Accepts Staying (outcome w l r (request_in r)) → Untouched w (answered w l r).next
  unfolding Stays Staying
  call_stays a =
      call_holds Stays (λ k _ s. record { position = s.position; image = s.image }) (λ k s. record { position = s.position; image = s.image }) w l r
      (record { position = refl; image = refl }) a

  request_stays : (q : Request) → request_in r ≡ q → AsideRequest q w (answered w l r).next → Untouched w (answered w l r).next
  unfolding outcome mover_part_step Staying
  request_stays (Request.Tape q) e a = a
  request_stays (Request.Connect q) e a = call_stays (rw e (off_tape (with_login w []) (λ _. record { position = refl; image = refl }) _))
  request_stays (Request.Config q) e a = call_stays (rw e (off_tape (with_login w l.challenge) (λ _. record { position = refl; image = refl }) _))
  request_stays (Request.Scsi q) e a = call_stays (rw e (off_tape (with_changer w _) (λ _. record { position = refl; image = refl }) _))
  request_stays (Request.Data q) e a = call_stays (rw e (off_tape (with_data w q _ _) (λ _. record { position = refl; image = refl }) _))
  request_stays (Request.Mover q) e a =
      call_stays (rw e (carried Staying (with_part w l.addresses) _ (carried (λ reply p. Staying reply (with_part w l.addresses p)) (with_mover (tape_part w)) _
      (accepts_any (λ reply p. Staying reply (with_part w l.addresses (with_mover (tape_part w) p))) (λ _ _. record { position = refl; image = refl }) _))))
  request_stays (Request.Joint q) e a = call_stays (rw e (off_tape (with_ends w) (λ _. record { position = refl; image = refl }) _))
  request_stays Request.Unknown e a = call_stays (rw e (refusal_says Staying _))
  request_stays Request.Bad e a = call_stays (rw e (refusal_says Staying _))

-- ---- the method's end
TapeStays : Tape → Move → Type 0
TapeStays t mv = mv.tape ≡ t

end_stays : (ok : Bool) (d : Data) (m : Mover) (t : Tape) → TapeStays t (method_end ok d m t)
unfolding method_end TapeStays
end_stays ok d m t =
    by_test (TapeStays t) (eqb d.state 1) _ _ (λ _. by_test (TapeStays t) (eqb d.address 1) _ _ (λ _. refl) (λ _. refl)) (λ _. refl)

made_stays : (mover : Bool) (d : Data) (m : Mover) (t : Tape) → TapeStays t (made_at mover d m t)
unfolding made_at TapeStays
made_stays true d m t = by_test (TapeStays t) _ _ _ (λ _. refl) (λ _. refl)
made_stays false d m t = by_test (TapeStays t) _ _ _ (λ _. refl) (λ _. refl)

lost_stays : (mover : Bool) (d : Data) (m : Mover) (t : Tape) → TapeStays t (lost_at mover d m t)
unfolding lost_at TapeStays
lost_stays true d m t = by_test (TapeStays t) _ _ _ (λ _. refl) (λ _. refl)
lost_stays false d m t = by_test (TapeStays t) _ _ _ (λ _. refl) (λ _. refl)

-- a call that announces a move which leaves the tape
announced_stays : (w : Kept) (l : Lent) (mv : Move) → TapeStays w.session.tape mv
    → Untouched w (guarded w.session l.room (λ code. silent code w) (announced w l mv w.image)).next
unfolding TapeStays
announced_stays w l mv e =
    let c = announced_carries w l mv w.image in
    by_guard (λ (a : Answered). Untouched w a.next) w.session l.room _ _
    (λ _. record { position = refl; image = refl })
    (λ _. record { position = ap (λ (t : Tape). t.position) (c.tape ∙ e); image = c.image_end })

ended_stays : (w : Kept) (l : Lent) (ok : Bool) → Untouched w (method_ended w l ok).next
unfolding method_ended
ended_stays w l ok = announced_stays w l _ (end_stays ok w.session.source w.session.mover w.session.tape)

joined_stays : (w : Kept) (l : Lent) (mover : Bool) → Untouched w (connection_made w l mover).next
unfolding connection_made
joined_stays w l mover = announced_stays w l _ (made_stays mover w.session.source w.session.mover w.session.tape)

parted_stays : (w : Kept) (l : Lent) (mover : Bool) → Untouched w (connection_lost w l mover).next
unfolding connection_lost
parted_stays w l mover = announced_stays w l _ (lost_stays mover w.session.source w.session.mover w.session.tape)

-- ---- a move to tape: nothing, or one record
pub record WroteOne (size p : ℕ) (l part : List ℕ) (last : Bool) (l' : List ℕ) (p' n : ℕ) : Type 0 where
  pub some : 1 ≤ n
  pub fits : n ≤ size
  pub there : n ≤ length part
  pub short : (n ≡ size → ⊥) → (last ≡ true) × (n ≡ length part)
  pub small : size ≤ 32768
  pub here : Placed l p
  pub room : Room l p size
  pub image : l' ≡ written l p (fill_to (take n part) size)
  pub position : p' ≡ p + 1

pub data Fed (size p : ℕ) (l part : List ℕ) (last : Bool) (l' : List ℕ) (p' n : ℕ) : Type 0 where
  stood : n ≡ 0 → l' ≡ l → p' ≡ p → Fed size p l part last l' p' n
  wrote : WroteOne size p l part last l' p' n → Fed size p l part last l' p' n

module _ (a b : ℕ) where
  least_is_left : ltb a b ≡ true → least a b ≡ a
  unfolding least choose
  least_is_left h = rw h

  least_is_right : ltb a b ≡ false → least a b ≡ b
  unfolding least choose
  least_is_right h = rw h

-- less than a record is taken only of the last part
is_last : (last : Bool) (n size : ℕ) → scant last n size ≡ false → ltb n size ≡ true → last ≡ true
unfolding scant choose
is_last true n size h e = refl
is_last false n size h e = clash (ltb n size) h e

short_part_lem : (last : Bool) (n size : ℕ) → scant last n size ≡ false → (b : Bool) → ltb n size ≡ b → (least n size ≡ size → ⊥) → (last ≡ true) × (least n size ≡ n)
short_part_lem last n size h true e z = (is_last last n size h e, least_is_left n size e)
short_part_lem last n size h false e z = absurd (z (least_is_right n size e))

module _ (d : Data) (m : Mover) (t : Tape) (l part : List ℕ) (last : Bool) (k : MoverKept m t) where
  Feeds : Step Move → Type 0
  Feeds st = Fed m.size t.position l part last st.image st.gives.tape.position st.gives.count

  stands : Fed m.size t.position l part last l t.position 0
  stands = stood refl refl refl

  takes_one : idle 0 1 d m ≡ false → faulty l t.position ≡ false → stream_ends last (length part) ≡ false → scant last (length part) m.size ≡ false
      → room_for l t.position m.size ≡ true → Feeds (writing d m t l part)
  unfolding Feeds
  takes_one i f e c r =
      let g = running 0 1 d m i in
      wrote (record {
        some = some_taken last (length part) m.size e c (k.runs g.moded g.active).some;
        fits = least_right (length part) m.size;
        there = least_left (length part) m.size;
        short = short_part_lem last (length part) m.size c (ltb (length part) m.size) refl;
        small = k.sizes;
        here = placed l t.position f;
        room = room_facts l t.position m.size r;
        image = refl;
        position = refl;
      })

  halts_stand : (dwhy mwhy : ℕ) → Feeds (keeping l (halts_with dwhy mwhy d m t))
  unfolding halts_with Feeds
  halts_stand dwhy mwhy = by_test (λ (mv : Move). Feeds (keeping l mv)) (eqb m.address 1) _ _ (λ _. stands) (λ _. stands)

  to_fed : Feeds (to_tape d m t l part last)
  unfolding to_tape filling Feeds
  to_fed =
      by_test Feeds _ _ _ (λ _. stands)
      (λ i. by_test Feeds _ _ _ (λ _. halts_stand 4 5)
      (λ f. by_test Feeds _ _ _ (λ _. halts_stand 1 1)
      (λ e. by_test Feeds _ _ _ (λ _. stands)
      (λ _. by_test Feeds _ _ _ (λ _. stands)
      (λ c. by_test Feeds _ _ _ (λ _. stands)
      (λ r. takes_one i f e c (yes r)))))))

module _ (w : Kept) (part : List ℕ) (last : Bool) (h : keeps w.session ≡ true) where
  abbrev pub FedBy : Moving → Type 0
  FedBy e =
      Fed w.session.mover.size w.session.tape.position w.image part last e.answer.next.image e.answer.next.session.tape.position e.count

  moved_fed : (st : Step Move) (a : Answered) → Carries st.gives st.image a
      → Fed w.session.mover.size w.session.tape.position w.image part last st.image st.gives.tape.position st.gives.count
      → Fed w.session.mover.size w.session.tape.position w.image part last a.next.image a.next.session.tape.position st.gives.count
  moved_fed st a c f = rw (c.image_end, c.tape) f

  pub to_tape_fed : (l : Lent) → FedBy (moved_to_tape w l part last)
  unfolding moved_to_tape Feeds
  to_tape_fed l =
      let s = w.session in
      let st = to_tape s.source s.mover s.tape w.image part last in
      by_guard FedBy s l.room _ _ (λ _. stood refl refl refl)
      (λ _. moved_fed st (announced w l st.gives st.image) (announced_carries w l st.gives st.image)
      (to_fed s.source s.mover s.tape w.image part last (mover_kept s.mover s.tape (kept_facts s h).mover)))

-- a move that takes nothing
fed_stays : (size p : ℕ) (l part : List ℕ) (last : Bool) (l' : List ℕ) (p' n : ℕ) → Fed size p l part last l' p' n → n ≡ 0 → (l' ≡ l) × (p' ≡ p)
fed_stays size p l part last l' p' n (stood z e f) h = (e, f)
fed_stays size p l part last l' p' n (wrote o) h = absurd (let s = o.some in omega arith)

-- ---- any call beside the moves
pub aside_stays : (w : Kept) → keeps w.session ≡ true → (e : Event) → Aside e w → Untouched w (step e w)
unfolding step
aside_stays w h (Asked c) a = request_stays w c.lent c.ask.request (request_in c.ask.request) refl a
aside_stays w h (Ended l ok) a = ended_stays w l ok
aside_stays w h (Made l mover) a = joined_stays w l mover
aside_stays w h (Lost l mover) a = parted_stays w l mover
aside_stays w h (ToTape l part last) a = let s = fed_stays _ _ _ _ _ _ _ _ (to_tape_fed w part last h l) a in record { position = s.1; image = s.0 }
aside_stays w h (FromTape l dest) a = a.1
aside_stays w h (Inserted image) a = record { position = refl; image = a }
aside_stays w h (Renumbered n) a = record { position = refl; image = refl }
aside_stays w h (StoreLent variables) a = record { position = refl; image = refl }
aside_stays w h (SlotsLent slots) a = record { position = refl; image = refl }
