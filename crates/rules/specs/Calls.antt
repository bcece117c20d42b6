-- What holds of every request call, and of every list of calls, for any session, image and store.
use Rattle.std.specs.Prelude.{ℕ, ◌≤◌, ◌<◌, Bool, true, false, not, List, [], ◌∷◌, ◌≡◌, length, replicate, eqb, ltb}
use Rattle.codes.specs.Codes.{errors, not_supported, not_authorized, illegal_arguments, undecodable, short_output, broken_session, store_length}
use Rattle.xdr.specs.Choose.{choose}
use Rattle.changer_elements.specs.Elements.{places}
use Rattle.changer_elements.specs.Slots.{names_none_twice}
use Rattle.tape_image.specs.Image.{is_sound}
use Rattle.wire_pairs.specs.Store.{is_laid}
use Rattle.wire_frame.specs.Frame.{well_framed, kind_of, body_of}
use Rattle.wire_frame.specs.declared.Message.TheVariants as Message
use Rattle.wire_requests.specs.Within.{bytes_at}
use Rattle.wire_requests.specs.declared.ConnectRequest.TheVariants as ConnectRequest
use Rattle.wire_requests.specs.declared.TapeRequest.{TapeRequest}
use Rattle.wire_requests.specs.declared.TapeRequest.TheVariants as TapeRequest
use Rattle.wire_requests.specs.declared.Request.{Request}
use Rattle.wire_requests.specs.declared.Request.TheVariants as Request
use Rattle.wire_layouts.specs.declared.Text.{Text}
use Rattle.wire_replies.specs.declared.Reply.TheVariants as Reply
use Rattle.wire_replies.specs.declared.Notice.TheVariants as Notice
use Rattle.wire_replies.specs.Replies.{number_of, notice_bytes}
use Rattle.rules_parts.specs.declared.types.Session.{Session}
use Rattle.rules_parts.specs.Names.{least_room}
use Rattle.rules.specs.Judge.{refuse, Accepts, Refuses}
use Rattle.rules_parts.specs.Parts.{new_session}
use Rattle.tape_ops.specs.Answers.{is_refusal}
use Rattle.rules.specs.Connection.{right_digest}
use Rattle.rules.specs.Relation.{keeps}
use Rattle.rules.specs.Answer.{Kept, Lent, held, Answered, answered, silent, closing, replying, message_in, request_in, verdict, refusing, refused_in}
use Rattle.rules.specs.Order.{is_one_of, Call, run}

-- the session after `open`, whose notice of the connection status was message number 1, with the slot list that it was given
abbrev pub opened_session : List ℕ → Session
opened_session slots = new_session false 2 slots

-- a session that was never opened: it is closed, so that nothing is answered on it, and has no cartridge
abbrev pub unopened_session : Session
unopened_session = new_session true 1 (replicate places 0)

-- "Opening a session sends connection status (connected 0, version 4, empty text) as number 1." No image and no store is handed to it. 02 No. 7: a slot
-- list that names one twice is refused with 1002
unfoldable pub opening : List ℕ → ℕ → ℕ → Answered
opening slots time room =
    choose (ltb room least_room) (silent short_output (held unopened_session [] []))
    (choose (not (names_none_twice slots)) (silent broken_session (held unopened_session [] []))
    (record { code = 0; reply = []; notices = notice_bytes 1 time Notice.Connected; next = held (opened_session slots) [] [] }))

-- a refused opening: nothing is sent, and a closed session with no cartridge comes back
pub record Unopened (code : ℕ) (a : Answered) : Type 0 where
  pub number : a.code ≡ code
  pub reply : a.reply ≡ []
  pub notices : a.notices ≡ []
  pub closed : a.next.session.closed ≡ true
  pub slots : a.next.session.changer.slots ≡ 0 ∷ 0 ∷ 0 ∷ 0 ∷ 0 ∷ 0 ∷ 0 ∷ 0 ∷ 0 ∷ []

-- an accepted one: the notice is sent, and the session has the slot list, with neither device open
pub record Opens (slots : List ℕ) (time : ℕ) (a : Answered) : Type 0 where
  pub number : a.code ≡ 0
  pub reply : a.reply ≡ []
  pub notices : a.notices ≡ notice_bytes 1 time Notice.Connected
  pub closed : a.next.session.closed ≡ false
  pub shelf : a.next.session.changer.slots ≡ slots
  pub changer : a.next.session.changer.opened ≡ false
  pub tape : a.next.session.tape.opened ≡ false

-- "1001 if the output is under 36,864 bytes", and then 02 No. 7: "from one that names none twice (else 1002)"
pub record OpeningHolds (slots : List ℕ) (time room : ℕ) : Type 0 where
  pub short : room < least_room → Unopened short_output (opening slots time room)
  pub twice : least_room ≤ room → names_none_twice slots ≡ false → Unopened broken_session (opening slots time room)
  pub opens : least_room ≤ room → names_none_twice slots ≡ true → Opens slots time (opening slots time room)
  -- what comes back keeps the relation, refused or not
  pub keeps_it : keeps (opening slots time room).next.session ≡ true

-- nothing is sent, and session, image and store are as they were
pub record Unmoved (k : Kept) (a : Answered) : Type 0 where
  pub reply : a.reply ≡ []
  pub notices : a.notices ≡ []
  pub next : a.next ≡ k

-- a well-framed request on an open session, with room: it is judged
pub record Heard (k : Kept) (l : Lent) (r : List ℕ) : Type 0 where
  pub roomy : least_room ≤ l.room
  pub stored : length k.variables ≡ store_length
  pub valid : keeps k.session ≡ true
  pub opened : k.session.closed ≡ false
  pub framed : well_framed r ≡ true
  pub request : kind_of r ≡ 0

-- the numbers of an accepted request's reply: of MTIO, write and read 12 and 13 too
unfoldable pub is_run : TapeRequest → ℕ → Bool
is_run (TapeRequest.Mtio op times) e = not (is_refusal e)
is_run (TapeRequest.Write bytes) e = not (is_refusal e)
is_run (TapeRequest.Read times) e = not (is_refusal e)
is_run (TapeRequest.Open name mode) e = eqb e 0
is_run TapeRequest.Close e = eqb e 0
is_run TapeRequest.State e = eqb e 0

unfoldable pub is_done : Request → ℕ → Bool
is_done (Request.Tape q) e = is_run q e
is_done (Request.Connect q) e = eqb e 0
is_done (Request.Config q) e = eqb e 0
is_done (Request.Scsi q) e = eqb e 0
is_done (Request.Data q) e = eqb e 0
is_done (Request.Mover q) e = eqb e 0
is_done (Request.Joint q) e = eqb e 0
is_done Request.Unknown e = false
is_done Request.Bad e = false

-- the number of a refusal: one of the table's, and no outcome of the tape
unfoldable pub is_number : ℕ → Bool
is_number e = choose (is_one_of errors e) (is_refusal e) false

-- "1001 if the output is under 36,864 bytes"; 02 No. 3, of the store: "1001 for one of another length"
unfoldable pub is_mislent : Kept → Lent → Bool
is_mislent k l = choose (ltb l.room least_room) true (not (eqb (length k.variables) store_length))

pub record RefusalsOfCalls : Type 0 where
  -- 1001 for an output that is too short and for a store of another length, before 1002 for a broken session; no other code but 0
  pub codes : (k : Kept) (l : Lent) (r : List ℕ)
      → (answered k l r).code ≡ choose (is_mislent k l) short_output (choose (keeps k.session) 0 broken_session)
  pub refused : (k : Kept) (l : Lent) (r : List ℕ) → ((answered k l r).code ≡ 0 → ⊥)
      → Unmoved k (answered k l r)
  pub over : (k : Kept) (l : Lent) (r : List ℕ) → k.session.closed ≡ true → Unmoved k (answered k l r)
  -- a badly framed record closes and changes nothing else
  pub broken : (k : Kept) (l : Lent) (r : List ℕ) → least_room ≤ l.room → length k.variables ≡ store_length → keeps k.session ≡ true → k.session.closed ≡ false
      → well_framed r ≡ false
      → answered k l r ≡ closing k
  -- a message that is no request is ignored
  pub ignored : (k : Kept) (l : Lent) (r : List ℕ) → well_framed r ≡ true → (kind_of r ≡ 0 → ⊥)
      → Unmoved k (answered k l r)
  -- what any refusal of a request leaves: a reply with its number, and of the session only the counter and the "first request" mark change
  pub requests : (k : Kept) (l : Lent) (r : List ℕ) (e : ℕ) → Heard k l r → verdict k l r (request_in r) ≡ refuse e
      → answered k l r ≡ replying r l.time (refusing (request_in r) r e) [] k
  -- the reply of an accepted request has the number 0, or an outcome of the tape
  pub accepted : (k : Kept) (l : Lent) (r : List ℕ) (q : Request) → Accepts (λ reply _. is_done q (number_of reply) ≡ true) (verdict k l r q)
  -- and that of a refused one is a refusal of the table: not 0, and no outcome of the tape
  pub refusing : (k : Kept) (l : Lent) (r : List ℕ) (q : Request) → Refuses (λ e. is_number e ≡ true) (verdict k l r q)
  -- 1 and 18 in the header, 4 at a wrong login by MD5, and 9 at one of another type, whatever is behind it
  pub unhandled : (k : Kept) (l : Lent) (r : List ℕ) → Heard k l r → message_in r ≡ Message.Unknown
      → answered k l r ≡ replying r l.time (Reply.Header not_supported) [] k
  pub undecoded : (k : Kept) (l : Lent) (r : List ℕ) → Heard k l r → request_in r ≡ Request.Bad
      → answered k l r ≡ replying r l.time (Reply.Header undecodable) [] k
  pub undigested : (k : Kept) (l : Lent) (r : List ℕ) (id digest : Text) → Heard k l r
      → request_in r ≡ Request.Connect (ConnectRequest.Md5Auth id digest)
      → right_digest k.session.login l.accounts (bytes_at (body_of r) id) (bytes_at (body_of r) digest) ≡ false
      → answered k l r ≡ replying r l.time (refused_in r not_authorized) [] k
  pub untyped : (k : Kept) (l : Lent) (r : List ℕ) → Heard k l r → request_in r ≡ Request.Connect ConnectRequest.OtherAuth
      → answered k l r ≡ replying r l.time (refused_in r illegal_arguments) [] k

pub record CallsKeep : Type 0 where
  pub opening : (slots : List ℕ) (time room : ℕ) → OpeningHolds slots time room
  -- the relation holds of a new session, every call keeps it, and no call on a session that has it is refused with 1002
  pub opened : (slots : List ℕ) → names_none_twice slots ≡ true → keeps (opened_session slots) ≡ true
  pub kept : (k : Kept) (l : Lent) (r : List ℕ) → keeps k.session ≡ true → keeps (answered k l r).next.session ≡ true
  pub never : (k : Kept) (l : Lent) (r : List ℕ) → keeps k.session ≡ true → (answered k l r).code ≡ broken_session → ⊥
  -- a sound image stays sound
  pub sound : (k : Kept) (l : Lent) (r : List ℕ) → is_sound k.image ≡ true → is_sound (answered k l r).next.image ≡ true
  -- a store keeps its length, and one that is laid out so stays laid out so
  pub lengths : (k : Kept) (l : Lent) (r : List ℕ) → length (answered k l r).next.variables ≡ length k.variables
  pub laid : (k : Kept) (l : Lent) (r : List ℕ) → is_laid k.variables ≡ true → is_laid (answered k l r).next.variables ≡ true
  -- the same of calls one after the other
  pub runs : (k : Kept) (cs : List Call) → keeps k.session ≡ true → keeps (run k cs).last.session ≡ true
  pub runs_sound : (k : Kept) (cs : List Call) → is_sound k.image ≡ true → is_sound (run k cs).last.image ≡ true
  pub runs_lengths : (k : Kept) (cs : List Call) → length (run k cs).last.variables ≡ length k.variables
  pub runs_laid : (k : Kept) (cs : List Call) → is_laid k.variables ≡ true → is_laid (run k cs).last.variables ≡ true
  pub refusals : RefusalsOfCalls
