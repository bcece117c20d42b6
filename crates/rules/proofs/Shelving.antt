-- What changes the slot list, and what MOVE MEDIUM, READ ELEMENT STATUS and tape open with an empty drive are told
-- (02 No. 7). Assumes nothing.
use Prim.Native.Nat.{ℕ, zero, suc, ◌≤◌, ◌<◌}
use mathlib.Core.Bool.{Bool, true, false}
use mathlib.Core.List.{List, [], ◌∷◌, ◌++◌, append-nil}
use mathlib.Core.Path.{◌≡◌, refl, sym, ◌∙◌, ap}
use native.Mathlib.Omega.{arith}
use lib.Dec.{eqb}
use lib.ListN.{length, get_or}
use borrow.Author.Tests.{eqb-true}
use Rattle.std.specs.Prelude.{Err, Ok}
use Rattle.xdr.specs.Choose.{choose}
use Rattle.xdr.specs.Xdr.{be32, be32s, word}
use Rattle.xdr.proofs.Tests.{ltb_yes, ltb_no, no, yes}
use Rattle.xdr_opaque.specs.Opaque.{all_zero, opaque_at}
use Rattle.xdr_opaque.specs.Put.{opaque}
use Rattle.changer_elements.specs.declared.Sense.{Sense}
use Rattle.changer_elements.specs.Slots.{moved, in_drive, times}
use Rattle.changer_elements.specs.Move.{move_medium, short_cdb, slots_after}
use Rattle.changer_elements.specs.MovesHold.{Movable, MoveCall, after_move, after_moves}
use Rattle.changer_elements.specs.Status.{asked_by, read_status, status_data}
use Rattle.changer_elements.proofs.Moves.{Goes, goes, moves_hold}
use Rattle.changer_elements.proofs.MovesHold.{elements_hold}
use Rattle.changer_elements.proofs.Staying.{drive_after}
use Rattle.tape_image.specs.Image.{is_sound, count}
use Rattle.wire_frame.specs.Frame.{message_word, sequence_of, body_of}
use Rattle.wire_frame.specs.Messages.{look, row_of}
use Rattle.wire_layouts.specs.Layout.{piece_of, part_at, prepend, and_part, and_got, parts_at, times_at, single, counted, items_of, element_at, field_at, and_value, and_read, read_fields}
use Rattle.wire_layouts.specs.Scans.{put, puts, summed, scanned}
use Rattle.wire_layouts.specs.declared.Text.{Text}
use Rattle.wire_requests.specs.Bodies.{tape_body, decoded}
use Rattle.wire_requests.specs.Within.{bytes_at}
use Rattle.wire_requests.specs.declared.ScsiRequest.{ScsiRequest}
use Rattle.wire_requests.specs.declared.ScsiRequest.TheVariants as ScsiRequest
use Rattle.wire_requests.specs.declared.TapeRequest.{TapeRequest}
use Rattle.wire_requests.specs.declared.TapeRequest.TheVariants as TapeRequest
use Rattle.wire_requests.specs.declared.Request.{Request}
use Rattle.wire_requests.specs.declared.Request.TheVariants as Request
use Rattle.wire_replies.specs.declared.Reply.{Reply}
use Rattle.wire_replies.specs.declared.Reply.TheVariants as Reply
use Rattle.wire_replies.specs.Replies.{sense, opaques, body_bytes, shape_of, reply_bytes}
use Rattle.wire_replies.specs.Numbers.{body_in}
use Rattle.wire_replies.proofs.Numbers.{body_sent, numbers_told}
use Rattle.rules_parts.specs.declared.types.Changer.{Changer}
use Rattle.rules.specs.Judge.{Outcome, refuse, accept, judge, onto, Accepts}
use Rattle.rules.specs.ScsiService.{scsi_open, scsi_clear, scsi_state, checks, scsi_cdb, scsi_step, scsi_shown}
use Rattle.rules.specs.TapeService.{TapePart, tape_step, mover_part_step}
use Rattle.rules.specs.Relation.{keeps}
use Rattle.rules.specs.Changer.{changer_of, Opcode, tape_name}
use Rattle.rules.specs.Answer.{Kept, Lent, Answered, Done, refusing, is_unread, refused_in, answered, judged, is_close, settled, verdict, is_locked, needs_login, outcome, noticed, request_in}
use Rattle.rules.specs.Answer.{tape_part, with_data, with_part, with_tape, with_changer, with_login, with_ends}
use Rattle.rules.specs.Order.{Call, run}
use Rattle.rules.specs.Calls.{Heard}
use Rattle.rules.specs.Shelving.{MayWork, moved_by, Shelved, unshelved, shifted, Asked, changer_as, sense_bytes, cdb_reply, MoveAsked, StatusAsked, open_body, RunsShelve, ChangerAlone, OffTape, ShelvingHolds}
use Rattle.rules.proofs.JudgeLaws.{judged_by, accepts, accepts_any, refusal_says, carried}
use Rattle.rules.proofs.Keeping.{clash}
use Rattle.rules.proofs.Changer.{by_run}
use Rattle.rules.proofs.ChangerRules.{cdb_rules, open_rules, off_rules, unloaded}
use Rattle.rules.proofs.Environment.{logged}
use Rattle.rules.proofs.Calls.{call_judged, heard}

-- ---- what changes the slot list
module _ (k : Kept) (l : Lent) (r : List ℕ) where
  ShelvedBy : Request → Reply → Done → Type 0
  ShelvedBy q _ d = Shelved k q (body_of r) d.kept.session.changer.slots

  left : (q : Request) {A : Type 0} (place : A → Done)
      → ((p : A) → (place p).kept.session.changer.slots ≡ k.session.changer.slots)
      → (o : Outcome A) → Accepts (ShelvedBy q) (onto place o)
  unfolding ShelvedBy
  left q place f o = carried (ShelvedBy q) place o (accepts_any (λ reply p. ShelvedBy q reply (place p)) (λ _ p. unshelved (f p)) o)

  Shelves : ScsiRequest → Reply → Changer → Type 0
  Shelves q _ c = Shelved k (Request.Scsi q) (body_of r) c.slots

  scsi_shelves : (q : ScsiRequest) → k.session.login.authorized ≡ true
      → Accepts (Shelves q) (scsi_step k.session.tape.opened k.session.changer q (body_of r))
  unfolding scsi_step scsi_open scsi_clear scsi_state scsi_cdb checks Shelves Accepts
  scsi_shelves (ScsiRequest.Open name) a = accepts (Shelves (ScsiRequest.Open name)) _ _ _ (λ _. unshelved refl)
  scsi_shelves ScsiRequest.Close a = accepts (Shelves ScsiRequest.Close) _ _ _ (λ _. unshelved refl)
  scsi_shelves ScsiRequest.State a = accepts (Shelves ScsiRequest.State) _ _ _ (λ _. unshelved refl)
  scsi_shelves ScsiRequest.Reset a = accepts (Shelves ScsiRequest.Reset) _ _ _ (λ _. unshelved refl)
  scsi_shelves (ScsiRequest.Cdb cdb room) a =
      let c = k.session.changer in
      let bytes = bytes_at (body_of r) cdb in
      judged_by (Shelves (ScsiRequest.Cdb cdb room)) _ _
      (λ t. by_run (Accepts (Shelves (ScsiRequest.Cdb cdb room))) k.session.tape.opened c bytes room (unshelved refl) (unshelved refl) (λ _. unshelved refl)
      (λ from to e m.
      let g = goes bytes c.slots k.session.tape.opened from to m in
      shifted cdb room refl (record { known = a; opened = yes (t 0) }) (eqb-true _ 0xA5 e) g.moves (rw (g.source, g.destination) refl))
      (λ _ _ _. unshelved refl))

  outcome_shelves : (q : Request) → is_locked k.session.login q ≡ false → Accepts (ShelvedBy q) (outcome k l r q)
  unfolding is_locked needs_login outcome tape_step mover_part_step ShelvedBy Shelves
  outcome_shelves Request.Unknown h = refusal_says (ShelvedBy Request.Unknown) _
  outcome_shelves Request.Bad h = refusal_says (ShelvedBy Request.Bad) _
  outcome_shelves (Request.Connect q) h = left (Request.Connect q) (with_login k _) (λ _. refl) _
  outcome_shelves (Request.Config q) h = left (Request.Config q) (with_login k _) (λ _. refl) _
  outcome_shelves (Request.Scsi q) h = carried (ShelvedBy (Request.Scsi q)) (with_changer k _) _ (scsi_shelves q (logged _ h))
  outcome_shelves (Request.Tape q) h = left (Request.Tape q) (with_tape k) (λ _. refl) _
  outcome_shelves (Request.Data q) h = left (Request.Data q) (with_data k q _ _) (λ _. refl) _
  outcome_shelves (Request.Mover q) h = left (Request.Mover q) (with_part k _) (λ _. refl) _
  outcome_shelves (Request.Joint q) h = left (Request.Joint q) (with_ends k) (λ _. refl) _

  slots_kept : Shelved k (request_in r) (body_of r) (answered k l r).next.session.changer.slots
  unfolding verdict ShelvedBy
  slots_kept =
      call_judged (λ (x : Kept). Shelved k (request_in r) (body_of r) x.session.changer.slots) (λ x _ h. h) (λ x h. h) k l r (unshelved refl)
      (judged_by (ShelvedBy (request_in r)) _ _ (λ g. outcome_shelves (request_in r) (g 0)))

-- ---- over lists of calls: what is left of the slot list is what moves leave of it
-- one that is accepted leaves the list with its cartridge moved
moved_so : (cdb slots : List ℕ) (opened : Bool) → Movable cdb slots opened
    → slots_after slots (move_medium cdb slots opened) ≡ moved_by cdb slots
unfolding slots_after
moved_so cdb slots opened m = ap (slots_after slots) (moves_hold.accepts cdb slots opened m)

record ByMoves (from to : List ℕ) : Type 0 where
  calls : List MoveCall
  so : to ≡ after_moves from calls

module _ (k : Kept) (q : Request) (body : List ℕ) where
  abbrev before : List ℕ
  before = k.session.changer.slots

  one_move : (slots : List ℕ) → Shelved k q body slots → ByMoves before slots
  unfolding after_moves
  one_move slots (unshelved e) = record { calls = []; so = e }
  one_move slots (shifted cdb room _ _ _ m e) =
      let bytes = bytes_at body cdb in
      record { calls = record { cdb = bytes; opened = k.session.tape.opened } ∷ []; so = e ∙ sym (moved_so bytes before k.session.tape.opened m) }

  drive_held : (slots : List ℕ) → k.session.tape.opened ≡ true → Shelved k q body slots
      → in_drive slots ≡ in_drive before
  drive_held slots o (unshelved e) = ap in_drive e
  drive_held slots o (shifted cdb room _ _ _ m e) =
      let bytes = bytes_at body cdb in
      let h : Movable bytes before true = rw (← o) m in
      ap in_drive (e ∙ sym (moved_so bytes before true h)) ∙ drive_after bytes before

after_both : (slots : List ℕ) (a b : List MoveCall) → after_moves (after_moves slots a) b ≡ after_moves slots (a ++ b)
unfolding after_moves
after_both slots [] b = refl
after_both slots (m ∷ a) b = after_both (after_move slots m) a b

by_moves : (k : Kept) (cs : List Call) → ByMoves k.session.changer.slots (run k cs).last.session.changer.slots
unfolding run after_moves
by_moves k [] = record { calls = []; so = refl }
by_moves k (c ∷ cs) =
    let a = answered k c.lent c.ask.request in
    let one = one_move k (request_in c.ask.request) (body_of c.ask.request) _ (slots_kept k c.lent c.ask.request) in
    let rest = by_moves a.next cs in
    record {
      calls = one.calls ++ rest.calls;
      so = rest.so ∙ ap (λ (x : List ℕ). after_moves x rest.calls) one.so ∙ after_both k.session.changer.slots one.calls rest.calls;
    }

runs_shelve : (k : Kept) (cs : List Call) → RunsShelve k cs
runs_shelve k cs =
    let b = by_moves k cs in
    let before = k.session.changer.slots in
    record {
      same_times = λ n v z. ap (times v) b.so ∙ elements_hold.lists.same_times before b.calls n v z;
      in_one = λ n h v z i e. rw b.so (elements_hold.lists.in_one before b.calls n h v z i e);
    }

-- ---- what a request of the changer leaves, accepted or refused
module _ (k : Kept) (l : Lent) (r : List ℕ) (q : ScsiRequest) where
  -- what is accepted is a changer, and something that is shown
  record IsChanger (reply : Reply) (d : Done) : Type 0 where
    shown : List ℕ
    after : Changer
    is : d ≡ with_changer k shown after

  changer_outcome : (shown : List ℕ) (o : Outcome Changer) → Accepts IsChanger (onto (with_changer k shown) o)
  changer_outcome shown o =
      carried IsChanger (with_changer k shown) o
      (accepts_any (λ reply p. IsChanger reply (with_changer k shown p)) (λ reply p. record { shown = shown; after = p; is = refl }) o)

  settled_alone : (o : Outcome Done) → Accepts IsChanger o → ChangerAlone k (settled k l.time r (Request.Scsi q) o)
  unfolding settled Accepts noticed choose
  settled_alone (refuse e) a =
      record {
        closed = refl;
        login = refl;
        source = refl;
        mover = refl;
        tape = refl;
        image = refl;
        variables = refl;
        counter = refl;
        mark = refl;
        notices = refl;
      }
  settled_alone (accept reply d) a =
      rw a.is
      (record {
        closed = refl;
        login = refl;
        source = refl;
        mover = refl;
        tape = refl;
        image = refl;
        variables = refl;
        counter = refl;
        mark = refl;
        notices = refl;
      })

  verdict_alone : Accepts IsChanger (verdict k l r (Request.Scsi q))
  unfolding verdict outcome
  verdict_alone = judged_by IsChanger _ _ (λ _. changer_outcome _ _)

  judged_alone : ChangerAlone k (judged k l r (Request.Scsi q))
  unfolding judged is_close choose
  judged_alone = settled_alone (verdict k l r (Request.Scsi q)) verdict_alone

  changer_alone : Heard k l r → request_in r ≡ Request.Scsi q → ChangerAlone k (answered k l r)
  changer_alone h e = rw (heard k l r h, e) judged_alone

-- ---- an accepted request of the changer: what it leaves, and what is sent
module _ (k : Kept) (l : Lent) (r : List ℕ) (q : ScsiRequest) where
  verdict_known : k.session.login.authorized ≡ true → verdict k l r (Request.Scsi q) ≡ outcome k l r (Request.Scsi q)
  unfolding verdict is_locked judge needs_login choose
  verdict_known h = rw (verdict, is_locked, h)

  record Next (reply : Reply) (c : Changer) : Type 0 where
    changer : (answered k l r).next.session.changer ≡ c
    sent : (answered k l r).reply
        ≡ reply_bytes k.session.sequence l.time (message_word r) (sequence_of r) reply (scsi_shown q (body_of r) k.session.changer.slots)

  next_is : Heard k l r → request_in r ≡ Request.Scsi q → k.session.login.authorized ≡ true
      → (reply : Reply) (c : Changer)
      → scsi_step k.session.tape.opened k.session.changer q (body_of r) ≡ accept reply c → Next reply c
  unfolding judged is_close outcome settled onto noticed choose
  next_is h e z reply c x =
      let shown = scsi_shown q (body_of r) k.session.changer.slots in
      let a : answered k l r ≡ settled k l.time r (Request.Scsi q) (onto (with_changer k shown) (accept reply c)) =
      heard k l r h ∙ rw (e, judged, verdict_known z, x) in
      record { changer = rw a refl; sent = rw a refl }

-- ---- the bodies of replies of execute CDB
module _ (s t m c : ℕ) (shown : List ℕ) where
  done_body : body_in (reply_bytes s t m c Reply.Cdb shown) ≡ cdb_reply 0 [] []
  unfolding reply_bytes shape_of body_bytes opaques opaque be32s be32
  done_body = body_sent s t m c _ _

  check_body : (key code qualifier : ℕ)
      → body_in (reply_bytes s t m c (Reply.Check key code qualifier) shown) ≡ cdb_reply 2 [] (sense_bytes key code qualifier)
  unfolding reply_bytes shape_of body_bytes opaques opaque sense be32s be32
  check_body key code qualifier = body_sent s t m c _ _

  elements_body : body_in (reply_bytes s t m c Reply.Elements shown) ≡ cdb_reply 0 shown []
  unfolding reply_bytes shape_of body_bytes opaques opaque be32s be32
  elements_body = body_sent s t m c _ _ ∙ ap (λ (x : List ℕ). be32 0 ++ (be32 0 ++ (be32 0 ++ x))) (append-nil _)

module _ (k : Kept) (l : Lent) (r : List ℕ) (cdb : Text) (room : ℕ) where
  abbrev bytes : List ℕ
  bytes = bytes_at (body_of r) cdb

  abbrev slots : List ℕ
  slots = k.session.changer.slots

  abbrev request : ScsiRequest
  request = ScsiRequest.Cdb cdb room

  as_opcode : {code : ℕ} → Asked k l r cdb room code → Opcode k.session.changer bytes code
  as_opcode a = record { opened = a.may.opened; most = a.most; some = a.some; first = a.first }

  next : {code : ℕ} → Asked k l r cdb room code → (reply : Reply) (c : Changer)
      → scsi_step k.session.tape.opened k.session.changer request (body_of r) ≡ accept reply c
      → Next k l r request reply c
  next a reply c x = next_is k l r request a.heard a.request a.may.known reply c x

  -- status 2, with its sense
  checks_so : {code : ℕ} → Asked k l r cdb room code → (s : Sense)
      → scsi_step k.session.tape.opened k.session.changer request (body_of r)
      ≡ accept (Reply.Check s.key s.code s.qualifier) (changer_of true s.key s.code s.qualifier slots)
      → ((answered k l r).next.session.changer ≡ changer_of true s.key s.code s.qualifier slots)
      × (body_in (answered k l r).reply ≡ cdb_reply 2 [] (sense_bytes s.key s.code s.qualifier))
  checks_so a s x =
      let n = next a _ _ x in
      (n.changer, ap body_in n.sent ∙ check_body k.session.sequence l.time (message_word r) (sequence_of r) _ s.key s.code s.qualifier)

  move_asked : Asked k l r cdb room 0xA5 → MoveAsked k l r cdb
  move_asked a =
      let rules = cdb_rules k.session.tape.opened k.session.changer cdb room (body_of r) in
      record {
        done = λ m. (let n = next a _ _ (rules.moves (as_opcode a) _ _ (moves_hold.accepts bytes slots k.session.tape.opened m)) in
            (n.changer, ap body_in n.sent ∙ done_body k.session.sequence l.time (message_word r) (sequence_of r) _));
        refused = λ s h. checks_so a s (rules.unmoved (as_opcode a) s h);
      }

  long_status : 12 ≤ length bytes → read_status bytes room ≡ Ok (asked_by bytes room)
  unfolding read_status choose
  long_status h = rw (read_status, ltb_no h)

  short_status : length bytes < 12 → read_status bytes room ≡ Err short_cdb
  unfolding read_status choose
  short_status h = rw (read_status, ltb_yes h)

  status_asked : Asked k l r cdb room 0xB8 → StatusAsked k l r cdb room
  status_asked a =
      let rules = cdb_rules k.session.tape.opened k.session.changer cdb room (body_of r) in
      record {
        done = λ h. (let n = next a _ _ (rules.reports (as_opcode a) _ (long_status h)) in
            let same : changer_as k slots ≡ k.session.changer = rw (← a.may.opened) in (
              n.changer ∙ same,
              ap body_in n.sent ∙ elements_body k.session.sequence l.time (message_word r) (sequence_of r) _
                  ∙ ap (λ (x : List ℕ). cdb_reply 0 x []) (rules.shown (as_opcode a) h),
            ));
        short = λ h. checks_so a short_cdb (rules.unreported (as_opcode a) short_cdb (short_status h));
      }

-- ---- tape open with an empty drive
open_read : (r : List ℕ) (mode : ℕ) → mode ≤ 1 → message_word r ≡ 0x300 → body_of r ≡ open_body mode
    → request_in r ≡ Request.Tape (TapeRequest.Open (record { start = 4; len = 5 }) mode)
unfolding
    choose word all_zero opaque_at piece_of part_at prepend and_part and_got parts_at times_at single counted items_of element_at field_at and_value and_read read_fields
    put puts summed scanned tape_body decoded row_of look be32
open_read r zero h m b = rw (m, b)
open_read r (suc zero) h m b = rw (m, b)
open_read r (suc (suc n)) h m b = absurd (omega arith)

name_read : (mode : ℕ) → bytes_at (open_body mode) (record { start = 4; len = 5 }) ≡ tape_name
unfolding be32
name_read mode = refl

-- a tape that is open has a cartridge in the drive
not_open : (k : Kept) → keeps k.session ≡ true → in_drive k.session.changer.slots ≡ 0
    → k.session.tape.opened ≡ false
not_open k h d = sym (no k.session.tape.opened (λ o. clash (keeps k.session) (unloaded k.session o d) h))

module _ (k : Kept) (l : Lent) (r : List ℕ) (q : TapeRequest) where
  tape_verdict : k.session.login.authorized ≡ true → verdict k l r (Request.Tape q) ≡ outcome k l r (Request.Tape q)
  unfolding verdict is_locked judge needs_login choose
  tape_verdict h = rw (verdict, is_locked, h)

  tape_refused : Heard k l r → request_in r ≡ Request.Tape q → k.session.login.authorized ≡ true → (e : ℕ)
      → tape_step (in_drive k.session.changer.slots) (tape_part k) q (body_of r) ≡ refuse e
      → (answered k l r).reply ≡ reply_bytes k.session.sequence l.time (message_word r) (sequence_of r) (refused_in r e) []
  unfolding judged is_close outcome settled onto refusing is_unread choose
  tape_refused h f z e x =
      let a : answered k l r ≡ settled k l.time r (Request.Tape q) (refuse e) = heard k l r h ∙ rw (f, judged, tape_verdict z, x) in
      rw a refl

refused_open : (s t c e : ℕ) (r : List ℕ) → message_word r ≡ 0x300
    → body_in (reply_bytes s t (message_word r) c (refused_in r e) []) ≡ be32 e
unfolding row_of look choose be32
refused_open s t c e r m =
    let told = numbers_told.refused s t (message_word r) c (row_of (message_word r)).before e (row_of (message_word r)).after [] in
    told ∙ rw m refl

empty_told : (k : Kept) (l : Lent) (r : List ℕ) (mode : ℕ) → Heard k l r → message_word r ≡ 0x300 → mode ≤ 1
    → body_of r ≡ open_body mode
    → k.session.login.authorized ≡ true → in_drive k.session.changer.slots ≡ 0
    → body_in (answered k l r).reply ≡ be32 10
empty_told k l r mode h m n b z d =
    let name : Text = record { start = 4; len = 5 } in
    let named : bytes_at (body_of r) name ≡ tape_name = ap (λ (x : List ℕ). bytes_at x name) b ∙ name_read mode in
    let rules = open_rules (in_drive k.session.changer.slots) (tape_part k) name mode (body_of r) in
    let refused = rules.empty n named (not_open k h.valid d) d in
    ap body_in (tape_refused k l r (TapeRequest.Open name mode) h (open_read r mode n m b) z 10 refused)
    ∙ refused_open k.session.sequence l.time (sequence_of r) 10 r m

tape_accepted : (k : Kept) (l : Lent) (r : List ℕ) (q : TapeRequest) → Heard k l r → request_in r ≡ Request.Tape q
    → k.session.login.authorized ≡ true
    → (p : TapePart) → tape_step (in_drive k.session.changer.slots) (tape_part k) q (body_of r) ≡ accept Reply.Plain p
    → (body_in (answered k l r).reply ≡ be32 0) × ((answered k l r).next.session.tape ≡ p.tape)
unfolding judged is_close outcome settled onto noticed reply_bytes shape_of body_bytes opaques be32s be32 choose
tape_accepted k l r q h f z p x =
    let a : answered k l r ≡ settled k l.time r (Request.Tape q) (onto (with_tape k) (accept Reply.Plain p)) =
    heard k l r h ∙ rw (f, judged, tape_verdict k l r q z, x) in
    (ap (λ (y : Answered). body_in y.reply) a ∙ body_sent k.session.sequence l.time (message_word r) (sequence_of r) _ _, ap (λ (y : Answered). y.next.session.tape) a)

loaded_opens : (k : Kept) (l : Lent) (r : List ℕ) (mode : ℕ) → Heard k l r → message_word r ≡ 0x300 → mode ≤ 1
    → body_of r ≡ open_body mode
    → k.session.login.authorized ≡ true → (in_drive k.session.changer.slots ≡ 0 → ⊥)
    → k.session.tape.opened ≡ false → is_sound k.image ≡ true
    → (body_in (answered k l r).reply ≡ be32 0) × ((answered k l r).next.session.tape ≡ record { opened = true; writable = eqb mode 1; position = 0 })
loaded_opens k l r mode h m n b z d o s =
    let name : Text = record { start = 4; len = 5 } in
    let named : bytes_at (body_of r) name ≡ tape_name = ap (λ (x : List ℕ). bytes_at x name) b ∙ name_read mode in
    let rules = open_rules (in_drive k.session.changer.slots) (tape_part k) name mode (body_of r) in
    tape_accepted k l r (TapeRequest.Open name mode) h (open_read r mode n m b) z _ (rules.opens n named o d s)

-- ---- MTIO 6
off_told : (k : Kept) (l : Lent) (r : List ℕ) (often : ℕ) → Heard k l r
    → request_in r ≡ Request.Tape (TapeRequest.Mtio 6 often)
    → k.session.login.authorized ≡ true → k.session.tape.opened ≡ true
    → (k.session.mover.state ≡ 1 → ⊥) → (k.session.mover.state ≡ 2 → ⊥)
    → is_sound k.image ≡ true → k.session.tape.position ≤ count k.image
    → OffTape k (answered k l r)
unfolding judged is_close outcome settled onto noticed choose
off_told k l r often h f z o n m s p =
    let q : TapeRequest = TapeRequest.Mtio 6 often in
    let rules = off_rules (in_drive k.session.changer.slots) (tape_part k) often (body_of r) in
    let done = rules.off (record { opened = o; not_listening = n; not_active = m }) s p in
    let closed : TapePart = record { mover = k.session.mover; tape = record { opened = false; writable = false; position = 0 }; image = k.image } in
    let a : answered k l r ≡ settled k l.time r (Request.Tape q) (onto (with_tape k) (accept (Reply.Mtio 0 0) closed)) =
    heard k l r h ∙ rw (f, judged, tape_verdict k l r q z, done) in
    rw a
    (record {
      body = numbers_told.spaced k.session.sequence l.time (message_word r) (sequence_of r) 0 0 k.image;
      notices = refl;
      tape = refl;
      login = refl;
      source = refl;
      mover = refl;
      changer = refl;
      image = refl;
      variables = refl;
    })

pub shelving_holds : ShelvingHolds
shelving_holds =
    record {
      alone = changer_alone;
      shelved = slots_kept;
      in_drive_lem = λ k l r o. drive_held k (request_in r) (body_of r) _ o (slots_kept k l r);
      runs = runs_shelve;
      shelves = move_asked;
      status = status_asked;
      empty = empty_told;
      loaded = loaded_opens;
      off = off_told;
    }
