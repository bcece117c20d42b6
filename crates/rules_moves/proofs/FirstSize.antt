-- A record size stays one over any calls, since what is seen of an accepted set record size is not 0; and with one, each test that gives 26 says
-- something else. Assumes nothing.
use Prim.Native.Nat.{ℕ, ◌≤◌}
use mathlib.Core.Bool.{Bool, true, false, not}
use mathlib.Core.List.{List, [], ◌∷◌, ◌++◌}
use mathlib.Core.Path.{◌≡◌, refl, sym, ap, ◌∙◌}
use native.Mathlib.Omega.{arith}
use lib.Dec.{eqb, ltb}
use borrow.Author.Tests.{eq-eqb, eqb-true, eqb-false}
use Rattle.xdr.specs.Choose.{choose}
use Rattle.xdr.specs.Xdr.{word}
use Rattle.xdr.proofs.Tests.{by_test, yes_not, eq_not}
use Rattle.wire_frame.specs.Frame.{sequence_of, message_word, body_of}
use Rattle.wire_frame.specs.Messages.{look, row_of, message_of}
use Rattle.wire_frame.specs.declared.MoverKind.TheVariants as MoverKind
use Rattle.wire_frame.specs.declared.JointKind.TheVariants as JointKind
use Rattle.wire_frame.specs.declared.Message.TheVariants as Message
use Rattle.wire_requests.specs.Bodies.{decoded}
use Rattle.wire_requests.proofs.Laws.{decoded_has}
use Rattle.wire_requests.specs.declared.DataRequest.{DataRequest}
use Rattle.wire_requests.specs.declared.DataRequest.TheVariants as DataRequest
use Rattle.wire_requests.specs.declared.MoverRequest.{MoverRequest}
use Rattle.wire_requests.specs.declared.MoverRequest.TheVariants as MoverRequest
use Rattle.wire_requests.specs.declared.JointRequest.{JointRequest}
use Rattle.wire_requests.specs.declared.JointRequest.TheVariants as JointRequest
use Rattle.wire_requests.specs.declared.Request.{Request}
use Rattle.wire_requests.specs.declared.Request.TheVariants as Request
use Rattle.wire_replies.specs.declared.Reply.{Reply}
use Rattle.wire_replies.specs.declared.Reply.TheVariants as Reply
use Rattle.wire_replies.specs.declared.Notice.TheVariants as Notice
use Rattle.wire_replies.specs.Replies.{number_of, reply_bytes}
use Rattle.wire_replies.specs.Numbers.{place_of, number_in}
use Rattle.wire_replies.proofs.Numbers as numbers
use Rattle.rules_parts.specs.declared.types.Mover.{Mover}
use Rattle.rules_parts.specs.declared.types.Tape.{Tape}
use Rattle.rules_parts.specs.declared.types.Session.{Session}
use Rattle.rules.specs.Judge.{Test, test, Outcome, refuse, accept, judge, onto, is_accepted, Accepts, Refuses}
use Rattle.codes.specs.Codes.{other_not_listening}
use Rattle.rules.specs.MoverService.{offset_wrong, join_tests, mover_listen, mover_continue, busy, set_window, set_size, mover_step}
use Rattle.rules.specs.Addresses.{connect_wrong, listening, unmet}
use Rattle.rules.specs.Joint.{data_awaits, mover_connect, joint_step}
use Rattle.rules.specs.TapeService.{with_mover, mover_part_step}
use Rattle.rules.specs.Relation.{keeps}
use Rattle.rules.specs.Answer.{Kept, Lent, held, Answered, answered, judged, is_close, settled, halting, noticed, replying, silent, verdict, outcome}
use Rattle.rules.specs.Answer.{Done, tape_part, with_part, with_ends, request_in, needs_login, is_locked, is_unread, refusing}
use Rattle.rules.specs.Order.{is_one_of}
use Rattle.rules.specs.Calls.{opening, is_number}
use Rattle.rules_parts.proofs.Addressing.{mover_same}
use Rattle.rules.proofs.JudgeLaws.{judged_by, accepts, carried, refuses_onto}
use Rattle.rules.proofs.Kept.{mover_kept, kept_mover}
use Rattle.rules.proofs.Keeping.{clash, idle_free, size_kept}
use Rattle.rules.proofs.Services.{one_of}
use Rattle.rules.proofs.Calls.{by_call, by_opening, unopened_keeps, kept_facts, facts_kept, calls_keep}
use Rattle.rules.proofs.Leaving.{small_number, noticed_reply}
use Rattle.rules.proofs.Numbers.{refusal_right}
use Rattle.rules_moves.specs.Sequence.{Event, Asked, ToTape, FromTape, Ended, Made, Lost, Inserted, Renumbered, StoreLent, SlotsLent, step, runs, is_heard, seen}
use Rattle.rules_moves.specs.Sequence.{Seen, Sized, Windowed, Sought, MoverStopped, DataStopped, Listened, Joined, Began, Paused, Wrote, Handed, Nothing}
use Rattle.rules_moves.specs.Sequence.{Register, register_of, after, mover_asked, data_asked, joint_asked, asked}
use Rattle.rules_moves.specs.FirstSize.{asking_window, after_open, error_told, Unready, no_window, inside, Cause, at_listen, at_connect, at_continue}
use Rattle.rules_moves.specs.FirstSize.{unsized, Unsized, MayJoin, Gets26, HandedIn, FirstSize}
use Rattle.rules_moves.proofs.Sequence.{stepped, moves_keep}
use Rattle.rules_moves.proofs.Counts.{by_shown, by_made}

-- ---- a size that is seen is not 0
abbrev Sizes : Seen → Type 0
Sizes (Sized n) = 1 ≤ n
Sizes (Windowed o n) = Unit {0}
Sizes (Sought o n) = Unit {0}
Sizes MoverStopped = Unit {0}
Sizes DataStopped = Unit {0}
Sizes (Listened address) = Unit {0}
Sizes (Joined address position) = Unit {0}
Sizes (Began position) = Unit {0}
Sizes Paused = Unit {0}
Sizes (Wrote n k) = Unit {0}
Sizes (Handed k) = Unit {0}
Sizes Nothing = Unit {0}

-- what an accepted outcome says of no part
said : {A : Type 0} (X : Type 0) (o : Outcome A) → Accepts (λ _ _. X) o → is_accepted o ≡ true → X
unfolding Accepts is_accepted
said X (refuse e) a h = clash false refl h
said X (accept r p) a h = a

module _ (k : Kept) (l : Lent) (r : List ℕ) where
  some_size : (n : ℕ) → Accepts (λ _ _. 1 ≤ n) (verdict k l r (Request.Mover (MoverRequest.Size n)))
  unfolding verdict outcome mover_part_step mover_step set_size
  some_size n =
      judged_by (λ _ _. 1 ≤ n) _ _ (λ _. carried (λ _ _. 1 ≤ n) (with_part k _) _ (carried (λ _ _. 1 ≤ n) (with_mover (tape_part k)) _
      (accepts (λ _ _. 1 ≤ n) _ _ _ (λ clear. let z : n ≡ 0 → ⊥ = eqb-false n 0 (clear 1) in omega arith))))

  mover_sizes : (q : MoverRequest) → is_accepted (verdict k l r (Request.Mover q)) ≡ true → Sizes (mover_asked k.session.tape.position q)
  unfolding mover_asked
  mover_sizes (MoverRequest.Size n) h = said (1 ≤ n) _ (some_size n) h
  mover_sizes (MoverRequest.Window offset length) h = tt
  mover_sizes (MoverRequest.Read offset length) h = tt
  mover_sizes MoverRequest.Continue h = tt
  mover_sizes MoverRequest.Stop h = tt
  mover_sizes MoverRequest.State h = tt
  mover_sizes (MoverRequest.Listen mode address) h = tt

  data_sizes : (q : DataRequest) → Sizes (data_asked q)
  unfolding data_asked
  data_sizes DataRequest.Stop = tt
  data_sizes DataRequest.State = tt
  data_sizes (DataRequest.Backup method pairs) = tt
  data_sizes (DataRequest.Recover method pairs) = tt
  data_sizes DataRequest.Environment = tt
  data_sizes (DataRequest.Listen address) = tt

  joint_sizes : (q : JointRequest) → Sizes (joint_asked k.session.tape.position q)
  unfolding joint_asked
  joint_sizes (JointRequest.DataConnect address count) = by_test Sizes (eqb address 1) _ _ (λ _. tt) (λ _. tt)
  joint_sizes (JointRequest.MoverConnect mode address count) = tt
  joint_sizes JointRequest.DataAbort = tt
  joint_sizes JointRequest.MoverAbort = tt
  joint_sizes JointRequest.MoverClose = tt

  asked_sizes : (q : Request) → is_accepted (verdict k l r q) ≡ true → Sizes (asked k q)
  unfolding asked
  asked_sizes (Request.Mover q) h = mover_sizes q h
  asked_sizes (Request.Data q) h = data_sizes q
  asked_sizes (Request.Joint q) h = joint_sizes q
  asked_sizes (Request.Connect q) h = tt
  asked_sizes (Request.Config q) h = tt
  asked_sizes (Request.Scsi q) h = tt
  asked_sizes (Request.Tape q) h = tt
  asked_sizes Request.Unknown h = tt
  asked_sizes Request.Bad h = tt

seen_sizes : (e : Event) (w : Kept) → Sizes (seen e w)
unfolding seen
seen_sizes (Asked c) w =
    let r = c.ask.request in
    by_test Sizes (is_heard w c.lent r) _ _
    (λ _. by_test Sizes (is_accepted (verdict w c.lent r (request_in r))) _ _ (asked_sizes w c.lent r (request_in r)) (λ _. tt)) (λ _. tt)
seen_sizes (ToTape l stream last) w = by_shown Sizes _ _ _ _ tt tt tt
seen_sizes (FromTape l dest) w = by_shown Sizes _ _ _ _ tt tt tt
seen_sizes (Ended l ok) w = tt
seen_sizes (Made l mover) w = by_made Sizes _ _ _ tt tt
seen_sizes (Lost l mover) w = tt
seen_sizes (Inserted image) w = tt
seen_sizes (Renumbered n) w = tt
seen_sizes (StoreLent variables) w = tt
seen_sizes (SlotsLent slots) w = tt

size_after : (r : Register) (x : Seen) → Sizes x → 1 ≤ r.size → 1 ≤ (after r x).size
unfolding after
size_after r (Sized n) s h = s
size_after r (Windowed o n) s h = h
size_after r (Sought o n) s h = h
size_after r MoverStopped s h = h
size_after r DataStopped s h = h
size_after r (Listened address) s h = h
size_after r (Joined address position) s h = h
size_after r (Began position) s h = h
size_after r Paused s h = h
size_after r (Wrote n k) s h = h
size_after r (Handed k) s h = h
size_after r Nothing s h = h

size_runs : (w : Kept) → keeps w.session ≡ true → (es : List Event) → 1 ≤ w.session.mover.size → 1 ≤ (runs w es).session.mover.size
unfolding runs
size_runs w h [] n = n
size_runs w h (e ∷ es) n =
    let g = stepped w h e in
    let s = ap (λ (r : Register). r.size) g.register in
    let t = size_after (register_of w.session) (seen e w) (seen_sizes e w) n in
    size_runs (step e w) g.kept es (omega arith)

-- ---- a fresh session
record Fresh (s : Session) : Type 0 where
  size : s.mover.size ≡ 10240
  kept : keeps s ≡ true

fresh : (slots : List ℕ) (time room : ℕ) → Fresh (opening slots time room).next.session
fresh slots time room =
    by_opening (λ (a : Answered). Fresh a.next.session) slots time room (λ _ _. record { size = refl; kept = unopened_keeps })
    (λ h. record { size = refl; kept = calls_keep.opened slots h })

some : (slots : List ℕ) (time room : ℕ) (image variables : List ℕ) (es : List Event) → 1 ≤ (after_open slots time room image variables es).session.mover.size
some slots time room image variables es =
    let f = fresh slots time room in
    let n = f.size in
    size_runs (held (opening slots time room).next.session image variables) f.kept es (omega arith)

most : (slots : List ℕ) (time room : ℕ) (image variables : List ℕ) (es : List Event) → (after_open slots time room image variables es).session.mover.size ≤ 32768
most slots time room image variables es =
    let s = (after_open slots time room image variables es).session in
    (mover_kept s.mover s.tape (kept_facts s (moves_keep.kept _ es (fresh slots time room).kept)).mover).sizes

-- ---- what each test's number says, where it applies, a refusal says
abbrev Tells : (ℕ → Type 0) → List Test → Type 0
Tells P [] = Unit {0}
Tells P (test b e ∷ ts) = (b ≡ true → P e) × Tells P ts

refuses_told : {A : Type 0} (P : ℕ → Type 0) (ts : List Test) (o : Outcome A) → Tells P ts → Refuses P o → Refuses P (judge ts o)
unfolding judge Refuses choose
refuses_told P [] o t h = h
refuses_told P (test true e ∷ ts) o t h = t.0 refl
refuses_told P (test false e ∷ ts) o t h = refuses_told P ts o t.1 h

tells_more : (P : ℕ → Type 0) (ts us : List Test) → Tells P ts → Tells P us → Tells P (ts ++ us)
tells_more P [] us t u = u
tells_more P (test b e ∷ ts) us t u = (t.0, tells_more P ts us t.1 u)

accept_told : {A : Type 0} (P : ℕ → Type 0) (ts : List Test) (r : Reply) (p : A) → Tells P ts → Refuses P (judge ts (accept r p))
unfolding Refuses
accept_told P ts r p t = refuses_told P ts (accept r p) t tt

-- ---- the tests of a mover that has a record size
module _ (m : Mover) (n : 1 ≤ m.size) where
  Means : Request → ℕ → Type 0
  Means q e = e ≡ 26 → Cause m q

  -- another number
  other : (q : Request) (b : Bool) (e : ℕ) → (e ≡ 26 → ⊥) → b ≡ true → Means q e
  unfolding Means
  other q b e h _ z = absurd (h z)

  sized : {A : Type 0} → eqb m.size 0 ≡ true → A
  sized h = absurd (let z = eqb-true m.size 0 h in omega arith)

  offset_inside : (mode : ℕ) → offset_wrong mode m.offset ≡ true → Unready m mode
  unfolding offset_wrong
  offset_inside mode =
      by_test (λ (b : Bool). b ≡ true → Unready m mode) (eqb mode 0) _ _
      (λ e h. inside (eqb-true mode 0 e) (λ z. clash (not (eqb m.offset 0)) (eq_not z) h)) (λ _ h. clash false refl h)

  join_tells : (q : Request) (t : Tape) (mode : ℕ) (wrong : Bool) → (Unready m mode → Cause m q) → Tells (Means q) (join_tests m t mode wrong)
  unfolding Means
  join_tells q t mode wrong c = (
    other q _ 6 (λ z. omega arith),
    (
      other q _ 19 (λ z. omega arith),
      (
        other q _ 5 (λ z. omega arith),
        (
          λ h _. sized h,
          (
            λ h _. c (no_window (eqb-true m.length 0 h)),
            (λ h _. c (offset_inside mode h), (other q _ 9 (λ z. omega arith), (other q _ 9 (λ z. omega arith), tt))),
          ),
        ),
      ),
    ),
  )

  window_refuses : (q : Request) (offset length : ℕ) → Refuses (Means q) (set_window m offset length)
  unfolding set_window Means
  window_refuses q offset length =
      accept_told (Means q) _ _ _ (
        other q _ 19 (λ z. omega arith),
        (
          λ h _. sized h,
          (
            other q _ 9 (λ z. omega arith),
            (other q _ 9 (λ z. omega arith), (other q _ 9 (λ z. omega arith), (other q _ 9 (λ z. omega arith), tt))),
          ),
        ),
      )

-- ---- causes are of other requests
not_window : (m : Mover) (q : Request) → Cause m q → (offset length : ℕ) → q ≡ Request.Mover (MoverRequest.Window offset length) → ⊥
not_window m q (at_listen mode address u) offset length e = let z : ◌≡◌ {A = ℕ} 0 1 = cc in omega arith
not_window m q (at_connect mode address count u) offset length e = let z : ◌≡◌ {A = ℕ} 0 1 = cc in omega arith
not_window m q (at_continue u) offset length e = let z : ◌≡◌ {A = ℕ} 0 1 = cc in omega arith

not_bad : (m : Mover) (q : Request) → Cause m q → q ≡ Request.Bad → ⊥
not_bad m q (at_listen mode address u) e = let z : ◌≡◌ {A = ℕ} 0 1 = cc in omega arith
not_bad m q (at_connect mode address count u) e = let z : ◌≡◌ {A = ℕ} 0 1 = cc in omega arith
not_bad m q (at_continue u) e = let z : ◌≡◌ {A = ℕ} 0 1 = cc in omega arith

-- ---- a reply with the number first in its body
abbrev First : {A : Type 0} → Reply → A → Type 0
First reply _ = (place_of reply ≡ 0) × (number_of reply ≡ 0)

module _ (k : Kept) (l : Lent) (r : List ℕ) where
  refusal_told : (s t m c b e a : ℕ) → b ≡ 0 → is_number e ≡ true → number_in 0 (reply_bytes s t m c (Reply.Refused b e a) []) ≡ e
  unfolding place_of number_of
  refusal_told s t m c b e a h n = rw h ((numbers.numbers_told).told s t m c (Reply.Refused 0 e a) [] (small_number e n))

  refusing_told : (s : ℕ) (q : Request) (e : ℕ) → (row_of (message_word r)).before ≡ 0 → is_number e ≡ true
      → number_in 0 (reply_bytes s l.time (message_word r) (sequence_of r) (refusing q r e) []) ≡ e
  unfolding refusing place_of number_of
  refusing_told s q e h n =
      by_test (λ (reply : Reply). number_in 0 (reply_bytes s l.time (message_word r) (sequence_of r) reply []) ≡ e) (is_unread q) _ _
      (λ _. (numbers.numbers_told).told _ _ _ _ (Reply.Header e) [] (small_number e n)) (λ _. refusal_told _ _ _ _ _ e _ h n)

  accepted_told : (reply : Reply) (d : Done) → First reply d
      → error_told (halting l.time d.dwhy d.mwhy (replying r l.time reply d.shown d.kept)) ≡ 0
  accepted_told reply d f =
      let a = replying r l.time reply d.shown d.kept in
      let b = noticed l.time d.dwhy (Notice.DataHalted d.dwhy) a in
      let same = noticed_reply k l r l.time d.mwhy (Notice.MoverHalted d.mwhy) b ∙ noticed_reply k l r l.time d.dwhy (Notice.DataHalted d.dwhy) a in
      let z = f.1 in
      let told = (numbers.numbers_told).told d.kept.session.sequence l.time (message_word r) (sequence_of r) reply d.shown (omega arith) in
      ap (number_in 0) same ∙ (rw f.0 at told) ∙ z

  Explained : Request → Answered → Type 0
  Explained q a = error_told a ≡ 26 → Cause k.session.mover q

  -- a request whose refusals with 26 have a cause, and whose accepted reply has its number first
  record Asks (q : Request) : Type 0 where
    refused : Refuses (λ e. e ≡ 26 → Cause k.session.mover q) (verdict k l r q)
    accepted : Accepts First (verdict k l r q)

  settled_explained : (q : Request) (o : Outcome Done) → (row_of (message_word r)).before ≡ 0 → Refuses (λ e. is_number e ≡ true) o
      → Refuses (λ e. e ≡ 26 → Cause k.session.mover q) o → Accepts First o → Explained q (settled k l.time r q o)
  unfolding settled Refuses Accepts Explained
  settled_explained q (refuse e) h n c a z = c (sym (refusing_told _ q e h n) ∙ z)
  settled_explained q (accept reply d) h n c a z = absurd (let w = sym (accepted_told reply d a) ∙ z in omega arith)

  none_told : (q : Request) (code : ℕ) (n : Kept) → Explained q (silent code n)
  unfolding Explained number_in word choose
  none_told q code n z = absurd (omega arith)

  call_explained : (row_of (message_word r)).before ≡ 0 → Asks (request_in r) → Explained (request_in r) (answered k l r)
  unfolding judged
  call_explained h a =
      let q = request_in r in
      by_call (Explained q) k l r (λ code. none_told q code k) (none_told q 0 _)
      (by_test (Explained q) (is_close q) _ _ (λ _. none_told q 0 _)
      (λ _. settled_explained q (verdict k l r q) h (refusal_right k l r q) a.refused a.accepted))

-- what a listen answers has its number first
listening_first : (address : ℕ) → (place_of (listening address) ≡ 0) × (number_of (listening address) ≡ 0)
unfolding listening place_of number_of
listening_first address =
    by_test (λ (reply : Reply). (place_of reply ≡ 0) × (number_of reply ≡ 0)) (eqb address 1) _ _ (λ _. (refl, refl)) (λ _. (refl, refl))

-- ---- what a message's body is read as, where it decodes
module _ (P : Request → Type 0) (b : List ℕ) where
  listen_read : ((mode address : ℕ) → P (Request.Mover (MoverRequest.Listen mode address))) → P Request.Bad
      → P (decoded (Message.Mover MoverKind.Listen) b)
  listen_read h z = decoded_has P (Message.Mover MoverKind.Listen) b tt (λ _. h _ _) z

  continue_read : P (Request.Mover MoverRequest.Continue) → P Request.Bad → P (decoded (Message.Mover MoverKind.Continue) b)
  continue_read h z = decoded_has P (Message.Mover MoverKind.Continue) b tt (λ _. h) z

  window_read : ((offset length : ℕ) → P (Request.Mover (MoverRequest.Window offset length))) → P Request.Bad
      → P (decoded (Message.Mover MoverKind.Window) b)
  window_read h z = decoded_has P (Message.Mover MoverKind.Window) b tt (λ _. h _ _) z

  connect_read : ((mode address count : ℕ) → P (Request.Joint (JointRequest.MoverConnect mode address count))) → P Request.Bad
      → P (decoded (Message.Joint JointKind.MoverConnect) b)
  connect_read h z = decoded_has P (Message.Joint JointKind.MoverConnect) b tt (λ _. h _ _ _) z

-- ---- the four requests, on a session that has a record size
module _ (k : Kept) (l : Lent) (r : List ℕ) (n : 1 ≤ k.session.mover.size) where
  abbrev Mean : Request → ℕ → Type 0
  Mean q e = e ≡ 26 → Cause k.session.mover q

  -- behind the test of the login
  logged_in : (q : Request) (o : Outcome Done) (b : Bool) → Refuses (Mean q) o → Refuses (Mean q) (judge (test b 4 ∷ []) o)
  logged_in q o b h = refuses_told (Mean q) _ o (λ _ z. absurd (omega arith), tt) h

  mover_asks : (q : MoverRequest) → Refuses (Mean (Request.Mover q)) (mover_step k.session.mover k.session.tape q l.addresses)
      → Accepts First (mover_step k.session.mover k.session.tape q l.addresses) → Asks k l r (Request.Mover q)
  unfolding verdict outcome mover_part_step
  mover_asks q h a =
      record {
        refused = logged_in (Request.Mover q) _ _ (refuses_onto (Mean (Request.Mover q)) (with_part k _) _ (refuses_onto (Mean (Request.Mover q)) (with_mover (tape_part k)) _ h));
        accepted = judged_by First _ _ (λ _. carried First (with_part k _) _ (carried First (with_mover (tape_part k)) _ a));
      }

  joint_asks : (q : JointRequest) → Refuses (Mean (Request.Joint q)) (joint_step k.session.source k.session.mover k.session.tape q l.made)
      → Accepts First (joint_step k.session.source k.session.mover k.session.tape q l.made) → Asks k l r (Request.Joint q)
  unfolding verdict outcome
  joint_asks q h a =
      record {
        refused = logged_in (Request.Joint q) _ _ (refuses_onto (Mean (Request.Joint q)) (with_ends k) _ h);
        accepted = judged_by First _ _ (λ _. carried First (with_ends k) _ a);
      }

  -- a body that does not decode
  bad_asks : Asks k l r Request.Bad
  unfolding verdict outcome Refuses Accepts
  bad_asks =
      record {
        refused = logged_in Request.Bad _ _ (λ z. absurd (omega arith));
        accepted = judged_by First _ (refuse 18) (λ _. tt);
      }

  window_asks : (offset length : ℕ) → Asks k l r (Request.Mover (MoverRequest.Window offset length))
  unfolding mover_step set_window place_of number_of Means
  window_asks offset length = mover_asks _ (window_refuses k.session.mover n _ offset length) (accepts First _ _ _ (λ _. (refl, refl)))

  listen_asks : (mode address : ℕ) → Asks k l r (Request.Mover (MoverRequest.Listen mode address))
  unfolding mover_step mover_listen place_of number_of Means
  listen_asks mode address =
      mover_asks _ (accept_told (Mean _) _ _ _ (join_tells k.session.mover n _ k.session.tape mode _ (at_listen mode address)))
      (accepts First _ _ _ (λ _. listening_first address))

  continue_asks : Asks k l r (Request.Mover MoverRequest.Continue)
  unfolding mover_step mover_continue place_of number_of
  continue_asks =
      mover_asks _ (accept_told (Mean (Request.Mover MoverRequest.Continue)) _ _ _ (
        λ _ z. absurd (omega arith),
        (λ _ z. absurd (omega arith), (λ _ z. absurd (omega arith), (λ h _. at_continue (eqb-true k.session.mover.length 0 h), tt))),
      )) (accepts First _ _ _ (λ _. (refl, refl)))

  connect_asks : (mode address count : ℕ) → Asks k l r (Request.Joint (JointRequest.MoverConnect mode address count))
  unfolding joint_step mover_connect place_of number_of Means
  connect_asks mode address count =
      let q = Request.Joint (JointRequest.MoverConnect mode address count) in
      let tests = join_tests k.session.mover k.session.tape mode (connect_wrong address count) in
      let listening = test (unmet address (data_awaits k.session.source) l.made) other_not_listening ∷ [] in
      let tells = join_tells k.session.mover n q k.session.tape mode (connect_wrong address count) (at_connect mode address count) in
      joint_asks (JointRequest.MoverConnect mode address count)
      (accept_told (Mean q) (tests ++ listening) _ _ (tells_more (Mean q) tests listening tells (λ _ z. absurd (omega arith), tt)))
      (accepts First _ _ _ (λ _. (refl, refl)))

  -- by the number of the message: it has its row and, where its body decodes, its request
  AsksAs : ℕ → Type 0
  AsksAs message = ((row_of message).before ≡ 0) × ((body : List ℕ) → Asks k l r (decoded (message_of message) body))

  each_asks : (message : ℕ) → is_one_of asking_window message ≡ true → AsksAs message
  unfolding AsksAs row_of look choose
  each_asks =
      let P = Asks k l r in
      one_of AsksAs asking_window (
        (refl, λ b. listen_read P b listen_asks bad_asks),
        (
          (refl, λ b. continue_read P b continue_asks bad_asks),
          ((refl, λ b. window_read P b window_asks bad_asks), ((refl, λ b. connect_read P b connect_asks bad_asks), tt)),
        ),
      )

  explained : is_one_of asking_window (message_word r) ≡ true → error_told (answered k l r) ≡ 26 → Cause k.session.mover (request_in r)
  unfolding AsksAs Explained
  explained h z = let a = each_asks (message_word r) h in call_explained k l r a.0 (a.1 (body_of r)) z

  -- a set window has no cause, nor has a body that does not decode
  window_cause : (message : ℕ) (body : List ℕ) → message ≡ 0xA05 → Cause k.session.mover (decoded (message_of message) body) → ⊥
  unfolding row_of look choose
  window_cause message body e =
      let m = k.session.mover in
      rw e (window_read (λ (q : Request). Cause m q → ⊥) body (λ offset length c. not_window m _ c offset length refl) (λ c. not_bad m _ c refl))

  never : message_word r ≡ 0xA05 → error_told (answered k l r) ≡ 26 → ⊥
  unfolding is_one_of choose
  never e z = window_cause (message_word r) (body_of r) e (explained (rw e refl) z)

-- ---- a size 0 handed in
unsized_kept : (s : Session) → keeps s ≡ true → s.mover.state ≡ 0 → keeps (unsized s) ≡ true
unsized_kept s h i =
    let f = kept_facts s h in
    facts_kept (unsized s)
    (record {
      source = f.source;
      mover = kept_mover (unsized s).mover s.tape (size_kept s.mover s.tape 0 i (idle_free s.mover.state i) (omega arith) (mover_kept s.mover s.tape f.mover));
      drive = f.drive;
      names = f.names;
      joined = rw (mover_same s.mover (unsized s).mover refl refl) f.joined;
    })

module _ (k : Kept) (l : Lent) (r : List ℕ) (u : Unsized k l r) where
  gets : (q : Request) → request_in r ≡ q → is_unread q ≡ false → is_locked k.session.login q ≡ false → outcome k l r q ≡ refuse 26 → Gets26 k l r
  unfolding verdict judge refusing choose
  gets q e a b o =
      let v : verdict k l r (request_in r) ≡ refuse 26 = rw (e, b) o in
      let w = calls_keep.refusals.requests k l r 26 u.heard v in
      w ∙ rw (e, a) refl

  window_26 : (offset length : ℕ) → request_in r ≡ Request.Mover (MoverRequest.Window offset length) → busy k.session.mover.state ≡ false → Gets26 k l r
  unfolding is_unread is_locked needs_login outcome mover_part_step mover_step set_window judge onto choose
  window_26 offset length e b = gets _ e refl (rw u.known) (rw (b, eq-eqb k.session.mover.size 0 u.size) refl)

  module _ (mode : ℕ) (j : MayJoin k.session mode) where
    listen_26 : (address : ℕ) → request_in r ≡ Request.Mover (MoverRequest.Listen mode address) → Gets26 k l r
    unfolding is_unread is_locked needs_login outcome mover_part_step mover_step mover_listen judge onto choose
    listen_26 address e =
        gets _ e refl (rw u.known) (rw (yes_not j.opened, eq_not j.idle, j.writes, eq-eqb k.session.mover.size 0 u.size) refl)

    connect_26 : (address count : ℕ) → request_in r ≡ Request.Joint (JointRequest.MoverConnect mode address count) → Gets26 k l r
    unfolding is_unread is_locked needs_login outcome joint_step mover_connect judge onto choose
    connect_26 address count e =
        gets _ e refl (rw u.known) (rw (yes_not j.opened, eq_not j.idle, j.writes, eq-eqb k.session.mover.size 0 u.size) refl)

handed_in : HandedIn
handed_in =
    record {
      kept = unsized_kept;
      never = λ s h i image variables l r z. calls_keep.never (held (unsized s) image variables) l r (unsized_kept s h i) z;
      window = λ k l r offset length u e b. window_26 k l r u offset length e b;
      listen = λ k l r mode address u e j. listen_26 k l r u mode j address e;
      connect = λ k l r mode address count u e j. connect_26 k l r u mode j address count e;
    }

pub first_size : FirstSize
first_size =
    record {
      first = λ slots time room. (fresh slots time room).size;
      some = some;
      most = most;
      causes = λ slots time room image variables es l r h z. explained (after_open slots time room image variables es) l r (some slots time room image variables es) h z;
      windows = λ slots time room image variables es l r e z. never (after_open slots time room image variables es) l r (some slots time room image variables es) e z;
      handed_in = handed_in;
    }
