-- The requests of the three services may be merged in any order. Each merge of the lists ends where the services end that serve their lists alone
-- (`Ends`), so two merges end alike. Of the services' steps it uses that they keep the relation and nothing else: no step unfolds here. Assumes nothing.
use Prim.Native.Nat.{ℕ, zero, suc, ◌+◌, ◌%◌, ◌≤◌}
use mathlib.Core.Path.{◌≡◌, refl, sym, ◌∙◌, ap, subst}
use mathlib.Core.Bool.{Bool, true, false, not}
use mathlib.Core.List.{List, [], ◌∷◌, ◌++◌}
use native.Mathlib.Omega.{arith}
use lib.ListN.{length}
use lib.Dec.{eqb, ltb}
use borrow.Author.Tests.{le-ltb, eqb-true}
use Rattle.codes.specs.Codes.{short_output, broken_session, store_length}
use Rattle.xdr.specs.Choose.{choose}
use Rattle.xdr.specs.Xdr.{be32, be32s}
use Rattle.xdr_opaque.specs.Put.{Each}
use Rattle.wire_frame.specs.Frame.{message_word, sequence_of, body_of, record_bytes}
use Rattle.wire_requests.specs.declared.DataRequest.{DataRequest}
use Rattle.wire_requests.specs.declared.DataRequest.TheVariants as DataRequest
use Rattle.wire_requests.specs.declared.MoverRequest.{MoverRequest}
use Rattle.wire_requests.specs.declared.TapeRequest.{TapeRequest}
use Rattle.wire_requests.specs.declared.ScsiRequest.{ScsiRequest}
use Rattle.wire_requests.specs.declared.Request.{Request}
use Rattle.wire_requests.specs.declared.Request.TheVariants as Request
use Rattle.wire_replies.specs.declared.Reply.{Reply}
use Rattle.wire_replies.specs.Replies.{reply_bytes}
use Rattle.rules_parts.specs.declared.types.Data.{Data}
use Rattle.rules_parts.specs.declared.types.Changer.{Changer}
use Rattle.rules_parts.specs.declared.types.Login.{Login}
use Rattle.rules_parts.specs.declared.types.Session.{Session}
use Rattle.rules_parts.specs.Names.{least_room}
use Rattle.rules.specs.Judge.{test, Outcome, refuse, accept, judge, onto, Accepts}
use Rattle.rules_parts.specs.Parts.{rest_data, rest_mover, closed_tape, closed_changer}
use Rattle.rules.specs.TapeService.{TapePart}
use Rattle.rules.specs.Relation.{keeps}
use Rattle.rules.specs.Answer.{Kept, Lent, Answered, guarded, room_of, answered, requested, judged, is_close, settled, verdict, is_locked, outcome, noticed, silent, tape_part, with_data}
use Rattle.rules.specs.Answer.{with_part, with_tape, with_changer, message_in, request_in}
use Rattle.rules.specs.ScsiService.{scsi_step, scsi_shown, moves_medium}
use Rattle.rules.specs.Order.{Service, DataService, TapeService, ScsiService, JointService, service_of, is_move, route_of, service_number, same_service, Ask, Call, with_list, Merge, done, left, middle, right, Asks, Roomy}
use Rattle.rules.specs.Order.{unstamped, Given, given, Run, run, replies_to, refusal, AnyOrder}
use Rattle.rules.proofs.Owning.{Owned, of_data, of_tape, of_mover, of_scsi, unknown, bad, owned}
use Rattle.rules.proofs.Changer.{slots_stay, scsi_blind}
use Rattle.rules.proofs.Guarding.{lent_well}
use Rattle.rules.proofs.Calls.{kept, lengths}

-- ---- a service that serves its list alone: what it sends and its part after. v: its calls are answered; c: the code of those that are not
record Step (A : Type 0) : Type 0 where
  sent : List ℕ
  part : A

module _ {A : Type 0} (v : Bool) (c : ℕ) (S : A → Ask → Step A) where
  turn : A → Ask → Given
  turn p a = record { ask = a; code = choose v 0 c; reply = choose v (S p a).sent [] }

  next : A → Ask → A
  next p a = choose v (S p a).part p

  turns : A → List Ask → List Given
  turns p [] = []
  turns p (r ∷ rs) = turn p r ∷ turns (next p r) rs

  last : A → List Ask → A
  last p [] = p
  last p (r ∷ rs) = last (next p r) rs

-- the request judged on a session whose other parts are at rest
record DataPart : Type 0 where
  source : Data
  variables : List ℕ

abbrev data_part : Kept → DataPart
data_part k = record { source = k.session.source; variables = k.variables }

abbrev rest_source : DataPart
rest_source = record { source = rest_data; variables = [] }

abbrev rest_part : TapePart
rest_part = record { mover = rest_mover 0; tape = closed_tape; image = [] }

abbrev alone_on : Login → DataPart → TapePart → Changer → Kept
alone_on g d p c =
    record {
      session = record { closed = false; first = false; login = g; sequence = 0; source = d.source; mover = p.mover; tape = p.tape; changer = c };
      image = p.image;
      variables = d.variables;
    }

abbrev lent_alone : List ℕ → Lent
lent_alone list = record { accounts = []; challenge = []; time = 0; room = 0; addresses = list; made = false }

abbrev data_stepped : Login → DataPart → Request → Ask → Step DataPart
data_stepped g d q a = let b = judged (alone_on g d rest_part (closed_changer [])) (lent_alone a.addresses) a.request q in record { sent = unstamped b.reply; part = data_part b.next }

-- the tape's requests see the slot list, which none of the three services changes
abbrev tape_stepped : Login → List ℕ → TapePart → Request → Ask → Step TapePart
tape_stepped g slots p q a = let b = judged (alone_on g rest_source p (closed_changer slots)) (lent_alone a.addresses) a.request q in record { sent = unstamped b.reply; part = tape_part b.next }

abbrev scsi_stepped : Login → Changer → Request → Ask → Step Changer
scsi_stepped g c q a = let b = judged (alone_on g rest_source rest_part c) (lent_alone a.addresses) a.request q in record { sent = unstamped b.reply; part = b.next.session.changer }

abbrev data_by : Login → DataPart → Ask → Step DataPart
data_by g d a = data_stepped g d (request_in a.request) a

abbrev tape_by : Login → List ℕ → TapePart → Ask → Step TapePart
tape_by g slots p a = tape_stepped g slots p (request_in a.request) a

abbrev scsi_by : Login → Changer → Ask → Step Changer
scsi_by g c a = scsi_stepped g c (request_in a.request) a

-- ---- the session after n answers
counts : Bool → ℕ → ℕ → ℕ
counts v zero x = x
counts v (suc n) x = counts v n (choose v ((x + 1) % 4294967296) x)

marks : Bool → ℕ → Bool → Bool
marks v zero f = f
marks v (suc n) f = marks v n (choose v false f)

ended : Bool → Session → ℕ → DataPart → TapePart → Changer → Kept
ended v s n d p c =
    record {
      session = record {
        closed = s.closed;
        first = marks v n s.first;
        login = s.login;
        sequence = counts v n s.sequence;
        source = d.source;
        mover = p.mover;
        tape = p.tape;
        changer = c;
      };
      image = p.image;
      variables = d.variables;
    }

record Ends (v : Bool) (c : ℕ) (k : Kept) (xs ys zs : List Ask) (n : ℕ) (run : Run) : Type 0 where
  data_replies : replies_to DataService run.replies ≡ turns v c (data_by k.session.login) (data_part k) xs
  tape_replies : replies_to TapeService run.replies ≡ turns v c (tape_by k.session.login k.session.changer.slots) (tape_part k) ys
  scsi_replies : replies_to ScsiService run.replies ≡ turns v c (scsi_by k.session.login) k.session.changer zs
  codes : Each (λ g. g.code ≡ choose v 0 c) run.replies
  quiet : run.notices ≡ []
  end : run.last ≡ ended v k.session n
      (last v c (data_by k.session.login) (data_part k) xs)
      (last v c (tape_by k.session.login k.session.changer.slots) (tape_part k) ys)
      (last v c (scsi_by k.session.login) k.session.changer zs)

-- ---- one call
record Gives (q : Ask) (a : Answered) (g : Given) (k : Kept) : Type 0 where
  what : given q a ≡ g
  quiet : a.notices ≡ []
  next : a.next ≡ k

-- a run whose first call gave g
after : Given → Run → Run
after g rest = record { replies = g ∷ rest.replies; notices = rest.notices; last = rest.last }

first_call : (k : Kept) (c : Call) (cs : List Call) (g : Given) (k' : Kept) → Gives c.ask (answered k c.lent c.ask.request) g k' → run k (c ∷ cs) ≡ after g
    (run k' cs)
unfolding run after
first_call k c cs g k' h =
    λ i. record { replies = h.what i ∷ (run (h.next i) cs).replies; notices = h.quiet i ++ (run (h.next i) cs).notices; last = (run (h.next i) cs).last }

-- whether the calls on what is passed on are answered, and the code of those that are not
goes_well : Kept → Bool
goes_well k = choose (eqb (length k.variables) store_length) (keeps k.session) false

code_of : Kept → ℕ
code_of k = choose (eqb (length k.variables) store_length) broken_session short_output

record Fate (v : Bool) (c : ℕ) (k : Kept) : Type 0 where
  well : goes_well k ≡ v
  code : code_of k ≡ c

fate_same : (v : Bool) (c : ℕ) (k n : Kept) → length n.variables ≡ length k.variables → keeps n.session ≡ keeps k.session → Fate v c k → Fate v c n
unfolding goes_well code_of
fate_same v c k n e f h =
    record { well = rw (e, f) h.well; code = rw e h.code }

refusal_by : (stored good : Bool) → choose {A = ℕ} (choose stored good false) 0 (choose stored 1002 1001) ≡ choose stored (choose good 0 1002) 1001
unfolding choose
refusal_by true good = refl
refusal_by false good = refl

well_by : (stored good : Bool) → choose stored good false ≡ true → (stored ≡ true) × (good ≡ true)
unfolding choose
well_by true good h = (refl, h)
well_by false good h = absurd (let z : ◌≡◌ {A = ℕ} 0 1 = cc in omega arith)

well_is : (k : Kept) → goes_well k ≡ true → (length k.variables ≡ store_length) × (keeps k.session ≡ true)
unfolding goes_well
well_is k h = let e = well_by _ _ h in (eqb-true (length k.variables) store_length e.0, e.1)

fate_kept : (c : ℕ) (k : Kept) (l : Lent) (r : List ℕ) → Fate true c k → Fate true c (answered k l r).next
fate_kept c k l r h =
    let e = well_is k h.well in
    fate_same true c k (answered k l r).next (lengths k l r) (kept k l r e.1 ∙ sym e.1) h

-- a call that is not answered leaves all
ill_by : (k : Kept) (room : ℕ) (x : Answered) (stored good : Bool) → least_room ≤ room → choose stored good false ≡ false
    → choose (ltb (choose stored room 0) least_room) (silent 1001 k) (choose (not good) (silent 1002 k) x) ≡ silent (choose stored 1002 1001) k
unfolding choose
ill_by k room x true good w h = rw (le-ltb room least_room w, h)
ill_by k room x false good w h = refl

refused_by : (k : Kept) (l : Lent) (r : List ℕ) (c : ℕ) → Fate false c k → least_room ≤ l.room → answered k l r ≡ silent c k
unfolding answered guarded room_of goes_well code_of
refused_by k l r c f w = ill_by k l.room _ (eqb (length k.variables) store_length) (keeps k.session) w f.well ∙ ap (λ (n : ℕ). silent n k) f.code

refusal_is : (k : Kept) → choose (goes_well k) 0 (code_of k) ≡ refusal k
unfolding refusal goes_well code_of
refusal_is k = refusal_by (eqb (length k.variables) store_length) (keeps k.session)

-- an open session's call with room is judged, or refused
reaches : (v : Bool) (c : ℕ) (d : Service) (k : Kept) (l : Lent) (a : Ask)
    → Fate v c k → k.session.closed ≡ false → Asks d a → least_room ≤ l.room
    → answered k l a.request ≡ choose v (judged k l a.request (request_in a.request)) (silent c k)
unfolding answered guarded requested choose
reaches true c d k l a f o h w =
    let e = well_is k f.well in
    rw (answered, guarded, le-ltb (room_of k l) least_room (lent_well k l w e.0), e.1, o, h.framed, requested, h.request)
reaches false c d k l a f o h w = refused_by k l a.request c f w

-- a request of a service, which is no joint one, is no MOVE MEDIUM
routed : (b : Bool) (x d : Service) → eqb (service_number d) 3 ≡ false → choose b JointService x ≡ d → (b ≡ false) × (x ≡ d)
unfolding choose service_number
routed true x d n h = absurd (let m = rw (sym h) at n in let z : ◌≡◌ {A = ℕ} 0 1 = cc in omega arith)
routed false x d n h = (refl, h)

module _ (d : Service) (apart : eqb (service_number d) 3 ≡ false) (a : Ask) (h : Asks d a) where
  route_is : (is_move (request_in a.request) (body_of a.request) ≡ false) × (service_of (message_in a.request) (message_word a.request) ≡ d)
  unfolding route_of
  route_is = let s : route_of a.request ≡ d = h.service in routed _ _ d apart s

  own_request : Owned d (request_in a.request)
  own_request = rw route_is.1 at (owned (message_in a.request) (message_word a.request) (body_of a.request))

-- what a reply shows does not hang on its sequence and time stamp
stamps : (q t m e : ℕ) (p : Reply) (l : List ℕ) → unstamped (reply_bytes q t m e p l) ≡ unstamped (reply_bytes 0 0 m e p l)
unfolding unstamped reply_bytes record_bytes be32s be32
stamps q t m e p l = refl

shown : (q t : ℕ) (a : Ask) (p : Reply) (l : List ℕ)
    → ◌≡◌ {A = Given} (record { ask = a; code = 0; reply = unstamped (reply_bytes q t (message_word a.request) (sequence_of a.request) p l) })
    (record { ask = a; code = 0; reply = unstamped (reply_bytes 0 0 (message_word a.request) (sequence_of a.request) p l) })
shown q t a p l = λ i. record { ask = a; code = 0; reply = stamps q t (message_word a.request) (sequence_of a.request) p l i }

module _ (k : Kept) (l : Lent) (a : Ask) (o : k.session.closed ≡ false) (w : least_room ≤ l.room) where
  -- whatever the login test and the service come to
  data_alike : (q : Request) (p : DataRequest) (b : Bool) (x : Outcome Data)
      → (let here = settled k l.time a.request q (judge (test b 4 ∷ []) (onto (with_data k p (body_of a.request) a.addresses) x)) in
      let there = settled (alone_on k.session.login (data_part k) rest_part (closed_changer [])) 0 a.request q
      (judge (test b 4 ∷ []) (onto (with_data (alone_on k.session.login (data_part k) rest_part (closed_changer [])) p (body_of a.request) a.addresses) x)) in
      Gives a here (record { ask = a; code = 0; reply = unstamped there.reply }) (ended true k.session 1 (data_part there.next) (tape_part k) k.session.changer))
  unfolding settled judge onto noticed ended counts marks choose
  data_alike q p true x = record { what = shown k.session.sequence l.time a _ _; quiet = refl; next = refl }
  data_alike q p false (refuse e) = record { what = shown k.session.sequence l.time a _ _; quiet = refl; next = refl }
  data_alike q p false (accept reply d) = record { what = shown k.session.sequence l.time a _ _; quiet = refl; next = refl }

  of_data_request : (q : DataRequest)
      → Gives a (judged k (with_list a l) a.request (Request.Data q)) (record { ask = a; code = 0; reply = (data_stepped k.session.login (data_part k) (Request.Data q) a).sent })
      (ended true k.session 1 (data_stepped k.session.login (data_part k) (Request.Data q) a).part (tape_part k) k.session.changer)
  unfolding judged is_close verdict outcome choose
  of_data_request q = data_alike (Request.Data q) q _ _

  data_served : (q : Request) → Owned DataService q
      → Gives a (judged k (with_list a l) a.request q) (record { ask = a; code = 0; reply = (data_stepped k.session.login (data_part k) q a).sent })
      (ended true k.session 1 (data_stepped k.session.login (data_part k) q a).part (tape_part k) k.session.changer)
  unfolding judged is_close verdict outcome onto choose
  data_served _ (of_data q) = of_data_request q
  data_served _ (unknown _) = data_alike Request.Unknown DataRequest.State (is_locked k.session.login _) (refuse _)
  data_served _ (bad _) = data_alike Request.Bad DataRequest.State (is_locked k.session.login _) (refuse _)

  data_gives : (v : Bool) (c : ℕ) → Fate v c k → Asks DataService a
      → Gives a (answered k (with_list a l) a.request) (turn v c (data_by k.session.login) (data_part k) a)
      (ended v k.session 1 (next v c (data_by k.session.login) (data_part k) a) (tape_part k) k.session.changer)
  unfolding turn next ended counts marks choose unstamped service_number
  data_gives true c e h = rw (reaches true c DataService k (with_list a l) a e o h w) (data_served (request_in a.request) (own_request DataService refl a h))
  data_gives false c e h = rw (reaches false c DataService k (with_list a l) a e o h w) (record { what = refl; quiet = refl; next = refl })

  data_valid : (v : Bool) (c : ℕ) → Fate v c k → Asks DataService a → Fate v c
      (ended v k.session 1 (next v c (data_by k.session.login) (data_part k) a) (tape_part k) k.session.changer)
  unfolding next ended counts marks choose
  data_valid true c e h = subst (Fate true c) (data_gives true c e h).next (fate_kept c k (with_list a l) a.request e)
  data_valid false c e h = e

  -- whatever the login test and the service come to
  tape_alike : (q : Request) (b : Bool) (shows : TapePart → List ℕ) (x : Outcome TapePart)
      → (let here = settled k l.time a.request q (judge (test b 4 ∷ []) (onto (λ p. with_part k (shows p) p) x)) in
      let there = settled (alone_on k.session.login rest_source (tape_part k) (closed_changer k.session.changer.slots)) 0 a.request q
      (judge (test b 4 ∷ []) (onto (λ p. with_part (alone_on k.session.login rest_source (tape_part k) (closed_changer k.session.changer.slots)) (shows p) p) x)) in
      Gives a here (record { ask = a; code = 0; reply = unstamped there.reply }) (ended true k.session 1 (data_part k) (tape_part there.next) k.session.changer))
  unfolding settled judge onto noticed ended counts marks choose
  tape_alike q true shows x = record { what = shown k.session.sequence l.time a _ _; quiet = refl; next = refl }
  tape_alike q false shows (refuse e) = record { what = shown k.session.sequence l.time a _ _; quiet = refl; next = refl }
  tape_alike q false shows (accept reply p) = record { what = shown k.session.sequence l.time a _ _; quiet = refl; next = refl }

  of_tape_request : (q : TapeRequest)
      → Gives a (judged k (with_list a l) a.request (Request.Tape q)) (record { ask = a; code = 0; reply = (tape_stepped k.session.login k.session.changer.slots (tape_part k) (Request.Tape q) a).sent })
      (ended true k.session 1 (data_part k) (tape_stepped k.session.login k.session.changer.slots (tape_part k) (Request.Tape q) a).part k.session.changer)
  unfolding judged is_close verdict outcome choose
  of_tape_request q = tape_alike (Request.Tape q) _ (λ p. p.image) _

  of_mover_request : (q : MoverRequest)
      → Gives a (judged k (with_list a l) a.request (Request.Mover q)) (record { ask = a; code = 0; reply = (tape_stepped k.session.login k.session.changer.slots (tape_part k) (Request.Mover q) a).sent })
      (ended true k.session 1 (data_part k) (tape_stepped k.session.login k.session.changer.slots (tape_part k) (Request.Mover q) a).part k.session.changer)
  unfolding judged is_close verdict outcome choose
  of_mover_request q = tape_alike (Request.Mover q) _ (λ _. a.addresses) _

  tape_served : (q : Request) → Owned TapeService q
      → Gives a (judged k (with_list a l) a.request q) (record { ask = a; code = 0; reply = (tape_stepped k.session.login k.session.changer.slots (tape_part k) q a).sent })
      (ended true k.session 1 (data_part k) (tape_stepped k.session.login k.session.changer.slots (tape_part k) q a).part k.session.changer)
  unfolding judged is_close verdict outcome onto choose
  tape_served _ (of_tape q) = of_tape_request q
  tape_served _ (of_mover q) = of_mover_request q
  tape_served _ (unknown _) = tape_alike Request.Unknown (is_locked k.session.login _) (λ p. p.image) (refuse _)
  tape_served _ (bad _) = tape_alike Request.Bad (is_locked k.session.login _) (λ p. p.image) (refuse _)

  tape_gives : (v : Bool) (c : ℕ) → Fate v c k → Asks TapeService a
      → Gives a (answered k (with_list a l) a.request) (turn v c (tape_by k.session.login k.session.changer.slots) (tape_part k) a)
      (ended v k.session 1 (data_part k) (next v c (tape_by k.session.login k.session.changer.slots) (tape_part k) a) k.session.changer)
  unfolding turn next ended counts marks choose unstamped service_number
  tape_gives true c e h = rw (reaches true c TapeService k (with_list a l) a e o h w) (tape_served (request_in a.request) (own_request TapeService refl a h))
  tape_gives false c e h = rw (reaches false c TapeService k (with_list a l) a e o h w) (record { what = refl; quiet = refl; next = refl })

  tape_valid : (v : Bool) (c : ℕ) → Fate v c k → Asks TapeService a → Fate v c
      (ended v k.session 1 (data_part k) (next v c (tape_by k.session.login k.session.changer.slots) (tape_part k) a) k.session.changer)
  unfolding next ended counts marks choose
  tape_valid true c e h = subst (Fate true c) (tape_gives true c e h).next (fate_kept c k (with_list a l) a.request e)
  tape_valid false c e h = e

  -- whatever the login test and the service come to
  scsi_alike : (q : Request) (b : Bool) (shows : List ℕ) (x : Outcome Changer)
      → (let here = settled k l.time a.request q (judge (test b 4 ∷ []) (onto (with_changer k shows) x)) in
      let there = settled (alone_on k.session.login rest_source rest_part k.session.changer) 0 a.request q
      (judge (test b 4 ∷ []) (onto (with_changer (alone_on k.session.login rest_source rest_part k.session.changer) shows) x)) in
      Gives a here (record { ask = a; code = 0; reply = unstamped there.reply }) (ended true k.session 1 (data_part k) (tape_part k) there.next.session.changer))
  unfolding settled judge onto noticed ended counts marks choose
  scsi_alike q true shows x = record { what = shown k.session.sequence l.time a _ _; quiet = refl; next = refl }
  scsi_alike q false shows (refuse e) = record { what = shown k.session.sequence l.time a _ _; quiet = refl; next = refl }
  scsi_alike q false shows (accept reply p) = record { what = shown k.session.sequence l.time a _ _; quiet = refl; next = refl }

  -- alone the tape is closed, which no request but a move looks at
  scsi_alike_by : (q : Request) (b : Bool) (shows : List ℕ) (x y : Outcome Changer) → x ≡ y
      → (let here = settled k l.time a.request q (judge (test b 4 ∷ []) (onto (with_changer k shows) x)) in
      let there = settled (alone_on k.session.login rest_source rest_part k.session.changer) 0 a.request q
      (judge (test b 4 ∷ []) (onto (with_changer (alone_on k.session.login rest_source rest_part k.session.changer) shows) y)) in
      Gives a here (record { ask = a; code = 0; reply = unstamped there.reply }) (ended true k.session 1 (data_part k) (tape_part k) there.next.session.changer))
  scsi_alike_by q b shows x y e = rw e (scsi_alike q b shows y)

  of_scsi_request : (q : ScsiRequest) → moves_medium q (body_of a.request) ≡ false
      → Gives a (judged k (with_list a l) a.request (Request.Scsi q)) (record { ask = a; code = 0; reply = (scsi_stepped k.session.login k.session.changer (Request.Scsi q) a).sent })
      (ended true k.session 1 (data_part k) (tape_part k) (scsi_stepped k.session.login k.session.changer (Request.Scsi q) a).part)
  unfolding judged is_close verdict outcome choose
  of_scsi_request q m =
      scsi_alike_by (Request.Scsi q) _ _ _ _ (scsi_blind k.session.tape.opened false k.session.changer q (body_of a.request) m)

  scsi_served : (q : Request) → Owned ScsiService q → is_move q (body_of a.request) ≡ false
      → Gives a (judged k (with_list a l) a.request q) (record { ask = a; code = 0; reply = (scsi_stepped k.session.login k.session.changer q a).sent })
      (ended true k.session 1 (data_part k) (tape_part k) (scsi_stepped k.session.login k.session.changer q a).part)
  unfolding judged is_close verdict outcome onto is_move choose
  scsi_served _ (of_scsi q) m = of_scsi_request q m
  scsi_served _ (unknown _) m = scsi_alike Request.Unknown (is_locked k.session.login _) [] (refuse _)
  scsi_served _ (bad _) m = scsi_alike Request.Bad (is_locked k.session.login _) [] (refuse _)

  scsi_gives : (v : Bool) (c : ℕ) → Fate v c k → Asks ScsiService a
      → Gives a (answered k (with_list a l) a.request) (turn v c (scsi_by k.session.login) k.session.changer a)
      (ended v k.session 1 (data_part k) (tape_part k) (next v c (scsi_by k.session.login) k.session.changer a))
  unfolding turn next ended counts marks choose unstamped service_number
  scsi_gives true c e h = rw (reaches true c ScsiService k (with_list a l) a e o h w) (scsi_served (request_in a.request) (own_request ScsiService refl a h) (route_is ScsiService refl a h).0)
  scsi_gives false c e h = rw (reaches false c ScsiService k (with_list a l) a e o h w) (record { what = refl; quiet = refl; next = refl })

  -- and it leaves the slot list
  settled_slots : (q : Request) (b : Bool) (shows : List ℕ) (x : Outcome Changer) → Accepts (λ _ n. n.slots ≡ k.session.changer.slots) x
      → (settled (alone_on k.session.login rest_source rest_part k.session.changer) 0 a.request q
      (judge (test b 4 ∷ []) (onto (with_changer (alone_on k.session.login rest_source rest_part k.session.changer) shows) x))).next.session.changer.slots
      ≡ k.session.changer.slots
  unfolding settled judge onto noticed Accepts choose
  settled_slots q true shows x h = refl
  settled_slots q false shows (refuse e) h = refl
  settled_slots q false shows (accept reply n) h = h

  stepped_slots : (q : Request) → Owned ScsiService q → is_move q (body_of a.request) ≡ false
      → (scsi_stepped k.session.login k.session.changer q a).part.slots ≡ k.session.changer.slots
  unfolding judged is_close verdict outcome onto is_move Accepts choose
  stepped_slots _ (of_scsi q) m =
      let c = k.session.changer in
      settled_slots (Request.Scsi q) _ (scsi_shown q (body_of a.request) c.slots) (scsi_step false c q (body_of a.request))
      (slots_stay false c q (body_of a.request) m)
  stepped_slots _ (unknown _) m = settled_slots Request.Unknown (is_locked k.session.login _) [] (refuse _) tt
  stepped_slots _ (bad _) m = settled_slots Request.Bad (is_locked k.session.login _) [] (refuse _) tt

  scsi_slots : (v : Bool) (c : ℕ) → Asks ScsiService a
      → (next v c (scsi_by k.session.login) k.session.changer a).slots ≡ k.session.changer.slots
  unfolding next choose service_number
  scsi_slots true c h = stepped_slots (request_in a.request) (own_request ScsiService refl a h) (route_is ScsiService refl a h).0
  scsi_slots false c h = refl

  scsi_valid : (v : Bool) (c : ℕ) → Fate v c k → Asks ScsiService a → Fate v c
      (ended v k.session 1 (data_part k) (tape_part k) (next v c (scsi_by k.session.login) k.session.changer a))
  unfolding next ended counts marks choose
  scsi_valid true c e h = subst (Fate true c) (scsi_gives true c e h).next (fate_kept c k (with_list a l) a.request e)
  scsi_valid false c e h = e

-- ---- a service's replies: the first is its own, or another's
own : (d : Service) (g : Given) (gs : List Given) → route_of g.ask.request ≡ d → same_service d d ≡ true → replies_to d (g ∷ gs) ≡ g ∷ replies_to d gs
unfolding replies_to choose
own d g gs e t = rw (replies_to, e, t)

others : (d e : Service) (g : Given) (gs : List Given) → route_of g.ask.request ≡ e → same_service d e ≡ false → replies_to d (g ∷ gs) ≡ replies_to d gs
unfolding replies_to choose
others d e g gs q t = rw (replies_to, q, t)

-- ---- one call more, at each service
module _ (v : Bool) (c : ℕ) (k : Kept) (xs ys zs : List Ask) (ws : List Call) (a : Ask) (l : Lent) (e : Fate v c k) (o : k.session.closed ≡ false)
    (w : least_room ≤ l.room) where
  abbrev here : Call
  here = record { ask = a; lent = with_list a l }

  abbrev data_next : Kept
  data_next = ended v k.session 1 (next v c (data_by k.session.login) (data_part k) a) (tape_part k) k.session.changer

  data_more : Asks DataService a → Ends v c data_next xs ys zs (length ws) (run data_next ws) → Ends v c k (a ∷ xs) ys zs (suc (length ws)) (run k (here ∷ ws))
  unfolding turns last ended counts marks after turn same_service service_number
  data_more h ih =
      rw (first_call k here ws _ data_next (data_gives k l a o w v c e h))
      (record {
        data_replies = own DataService _ _ h.service refl ∙ ap (turn v c (data_by k.session.login) (data_part k) a ∷◌) ih.data_replies;
        tape_replies = others TapeService DataService _ _ h.service refl ∙ ih.tape_replies;
        scsi_replies = others ScsiService DataService _ _ h.service refl ∙ ih.scsi_replies;
        codes = (refl, ih.codes);
        quiet = ih.quiet;
        end = ih.end;
      })

  abbrev tape_next : Kept
  tape_next = ended v k.session 1 (data_part k) (next v c (tape_by k.session.login k.session.changer.slots) (tape_part k) a) k.session.changer

  tape_more : Asks TapeService a → Ends v c tape_next xs ys zs (length ws) (run tape_next ws) → Ends v c k xs (a ∷ ys) zs (suc (length ws)) (run k (here ∷ ws))
  unfolding turns last ended counts marks after turn same_service service_number
  tape_more h ih =
      rw (first_call k here ws _ tape_next (tape_gives k l a o w v c e h))
      (record {
        data_replies = others DataService TapeService _ _ h.service refl ∙ ih.data_replies;
        tape_replies = own TapeService _ _ h.service refl ∙ ap (turn v c (tape_by k.session.login k.session.changer.slots) (tape_part k) a ∷◌) ih.tape_replies;
        scsi_replies = others ScsiService TapeService _ _ h.service refl ∙ ih.scsi_replies;
        codes = (refl, ih.codes);
        quiet = ih.quiet;
        end = ih.end;
      })

  abbrev scsi_next : Kept
  scsi_next = ended v k.session 1 (data_part k) (tape_part k) (next v c (scsi_by k.session.login) k.session.changer a)

  scsi_more : Asks ScsiService a → Ends v c scsi_next xs ys zs (length ws) (run scsi_next ws) → Ends v c k xs ys (a ∷ zs) (suc (length ws)) (run k (here ∷ ws))
  unfolding turns last ended counts marks after turn same_service service_number
  scsi_more h ih =
      let g = k.session.login in
      let same = scsi_slots k l a o w v c h in
      rw (first_call k here ws _ scsi_next (scsi_gives k l a o w v c e h))
      (record {
        data_replies = others DataService ScsiService _ _ h.service refl ∙ ih.data_replies;
        tape_replies =
            others TapeService ScsiService _ _ h.service refl ∙ ih.tape_replies ∙ ap (λ (slots : List ℕ). turns v c (tape_by g slots) (tape_part k) ys) same;
        scsi_replies = own ScsiService _ _ h.service refl ∙ ap (turn v c (scsi_by k.session.login) k.session.changer a ∷◌) ih.scsi_replies;
        codes = (refl, ih.codes);
        quiet = ih.quiet;
        end =
            ih.end ∙ ap (λ (slots : List ℕ). ended v scsi_next.session (length ws) (last v c (data_by g) (data_part k) xs)
            (last v c (tape_by g slots) (tape_part k) ys) (last v c (scsi_by g) scsi_next.session.changer zs)) same;
      })

-- every merge ends where the services end that serve their lists alone
ends : (v : Bool) (c : ℕ) (k : Kept) {xs ys zs : List Ask} {ws : List Call} → Merge xs ys zs ws → Fate v c k → k.session.closed ≡ false
    → Each (Asks DataService) xs → Each (Asks TapeService) ys → Each (Asks ScsiService) zs → Each Roomy ws → Ends v c k xs ys zs (length ws) (run k ws)
unfolding run turns last ended counts marks replies_to
ends v c k done e o hx hy hz hw = record { data_replies = refl; tape_replies = refl; scsi_replies = refl; codes = tt; quiet = refl; end = refl }
ends v c k (left {a = a} l {xs = xs} {ys = ys} {zs = zs} {ws = ws} m) e o hx hy hz hw =
    data_more v c k xs ys zs ws a l e o hw.0 hx.0
    (ends v c (data_next v c k xs ys zs ws a l e o hw.0) m (data_valid k l a o hw.0 v c e hx.0) o hx.1 hy hz hw.1)
ends v c k (middle {a = a} l {xs = xs} {ys = ys} {zs = zs} {ws = ws} m) e o hx hy hz hw =
    tape_more v c k xs ys zs ws a l e o hw.0 hy.0
    (ends v c (tape_next v c k xs ys zs ws a l e o hw.0) m (tape_valid k l a o hw.0 v c e hy.0) o hx hy.1 hz hw.1)
ends v c k (right {a = a} l {xs = xs} {ys = ys} {zs = zs} {ws = ws} m) e o hx hy hz hw =
    scsi_more v c k xs ys zs ws a l e o hw.0 hz.0
    (ends v c (scsi_next v c k xs ys zs ws a l e o hw.0) m (scsi_valid k l a o hw.0 v c e hz.0) o hx hy hz.1 hw.1)

merged : {xs ys zs : List Ask} {ws : List Call} → Merge xs ys zs ws → length ws ≡ length xs + length ys + length zs
merged done = refl
merged (left l m) = let h = merged m in omega arith
merged (middle l m) = let h = merged m in omega arith
merged (right l m) = let h = merged m in omega arith

pub any_order : AnyOrder
any_order k o xs ys zs hx hy hz v w mv mw rv rw' =
    let f : Fate (goes_well k) (code_of k) k = record { well = refl; code = refl } in
    let p = ends (goes_well k) (code_of k) k mv f o hx hy hz rv in
    let q = ends (goes_well k) (code_of k) k mw f o hx hy hz rw' in
    let n : length v ≡ length w = merged mv ∙ sym (merged mw) in
    record {
      data_replies = p.data_replies ∙ sym q.data_replies;
      tape_replies = p.tape_replies ∙ sym q.tape_replies;
      scsi_replies = p.scsi_replies ∙ sym q.scsi_replies;
      codes = rw (← refusal_is k) (p.codes, q.codes);
      quiet = (p.quiet, q.quiet);
      last = p.end ∙ rw n (sym q.end);
    }
