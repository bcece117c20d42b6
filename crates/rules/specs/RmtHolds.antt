-- What holds of every command of the remote tape protocol (02 No. 5), for any session, image and store. Statements: the definitions are in Rmt.antt.
use Rattle.std.specs.Prelude.{ℕ, ◌≤◌, true, false, List, [], ◌++◌, ◌≡◌, length, take, ltb, Option, Some, None}
use Rattle.codes.specs.Codes.{short_output, broken_session}
use Rattle.xdr.specs.Choose.{choose}
use Rattle.tape_image.specs.Image.{is_sound, entry_bytes}
use Rattle.wire_frame.specs.Frame.{body_of}
use Rattle.wire_layouts.specs.declared.Text.{Text}
use Rattle.wire_requests.specs.Within.{bytes_at}
use Rattle.wire_requests.specs.declared.TapeRequest.{TapeRequest}
use Rattle.wire_requests.specs.declared.TapeRequest.TheVariants as TapeRequest
use Rattle.wire_requests.specs.declared.Request.{Request}
use Rattle.wire_requests.specs.declared.Request.TheVariants as Request
use Rattle.wire_rmt.specs.declared.Command.{Command}
use Rattle.wire_rmt.specs.declared.Command.TheVariants as Command
use Rattle.wire_rmt.specs.Commands.{rmt_command, tape_mode, mtio_of}
use Rattle.wire_rmt.specs.Replies.{io_failed, invalid, error_of, accepted, refused}
use Rattle.rules_parts.specs.Names.{least_room}
use Rattle.rules_parts.specs.Parts.{with_parts}
use Rattle.rules.specs.Judge.{Outcome, refuse, accept}
use Rattle.rules.specs.Relation.{keeps}
use Rattle.rules.specs.TapeService.{moved_to}
use Rattle.rules.specs.Answer.{Kept, Lent, held, Answered, Done, answered, request_in, verdict}
use Rattle.rules.specs.Calls.{Unmoved, Heard, is_number}
use Rattle.rules.specs.Leaving.{Touched, AtMark, AtEnd}
use Rattle.rules.specs.Rmt.{rmt_request, rmt_reply, saying, commanded}

-- a command on an open session, with room: it is judged. Of the store nothing is asked
pub record Spoken (k : Kept) (room : ℕ) : Type 0 where
  pub roomy : least_room ≤ room
  pub valid : keeps k.session ≡ true
  pub opened : k.session.closed ≡ false

-- what no command changes: "it takes no sequence number and leaves the first-request mark"; and the parts of other services, and the mover
pub record CommandLeaves (k n : Kept) : Type 0 where
  pub closed : n.session.closed ≡ k.session.closed
  pub mark : n.session.first ≡ k.session.first
  pub login : n.session.login ≡ k.session.login
  pub counter : n.session.sequence ≡ k.session.sequence
  pub source : n.session.source ≡ k.session.source
  pub mover : n.session.mover ≡ k.session.mover
  pub changer : n.session.changer ≡ k.session.changer
  pub variables : n.variables ≡ k.variables

-- the tape at a position of which P holds, and nothing else changed
pub record TapeMoved (P : ℕ → Type 0) (k n : Kept) : Type 0 where
  pub position : ℕ
  pub is : n ≡ (let s = k.session in held (with_parts s s.login s.source s.mover (moved_to position s.tape) s.changer) k.image k.variables)
  pub holds : P position

-- the number of an accepted command, and the bytes behind it. 001: of a read "the number of bytes read and .. the actual data read", the first ones of the entry
-- that the tape stands at; of a write "the actual number of bytes written", which are all; "open, close and I reply `A0`"
pub data Tells (k : Kept) (c : List ℕ) : Request → ℕ → List ℕ → Type 0 where
  tells_read : (count n : ℕ) (bytes : List ℕ) → bytes ≡ take count (entry_bytes k.image k.session.tape.position) → n ≡ length bytes
      → Tells k c (Request.Tape (TapeRequest.Read count)) n bytes
  tells_written : (sent : Text) (n : ℕ) → n ≡ length (bytes_at c sent) → Tells k c (Request.Tape (TapeRequest.Write sent)) n []
  tells_opened : (name : Text) (mode : ℕ) → Tells k c (Request.Tape (TapeRequest.Open name mode)) 0 []
  tells_closed : Tells k c (Request.Tape TapeRequest.Close) 0 []
  tells_moved : (op count : ℕ) → Tells k c (Request.Tape (TapeRequest.Mtio op count)) 0 []

-- the one reply of a command that is judged: `A`; or `E` for a refusal of the table, which leaves all; or E5 for 12 and 13, which move the tape as NDMP says
pub data Replies (k : Kept) (c : List ℕ) (q : Request) (a : Answered) : Type 0 where
  done : (n : ℕ) (bytes : List ℕ) → Tells k c q n bytes → a.reply ≡ accepted n ++ bytes → Replies k c q a
  refusal : (e : ℕ) → is_number e ≡ true → a.reply ≡ refused (error_of e) → a.next ≡ k → Replies k c q a
  at_mark : a.reply ≡ refused io_failed → TapeMoved (AtMark k.image k.session.tape.position q) k a.next → Replies k c q a
  at_end : a.reply ≡ refused io_failed → TapeMoved (AtEnd k.image k.session.tape.position q) k a.next → Replies k c q a

-- a tape request that says the same as a command: a name or data may lie elsewhere, their bytes are the same. "Open modes 1 and 2 both are NDMP's 1"
pub data SaysSame (body c : List ℕ) : TapeRequest → Option Command → Type 0 where
  opens : (name path : Text) (mode : ℕ) → bytes_at body name ≡ bytes_at c path → SaysSame body c (TapeRequest.Open name (tape_mode mode)) (Some (Command.Open path mode))
  closes : SaysSame body c TapeRequest.Close (Some Command.Close)
  reads : (count : ℕ) → SaysSame body c (TapeRequest.Read count) (Some (Command.Read count))
  writes : (bytes sent : Text) → bytes_at body bytes ≡ bytes_at c sent → SaysSame body c (TapeRequest.Write bytes) (Some (Command.Write sent))
  operates : (op count : ℕ) → SaysSame body c (TapeRequest.Mtio (mtio_of op) count) (Some (Command.Operate op count))

-- what a record is told, as a command is told it
unfoldable pub told_as : Outcome Done → List ℕ
told_as (refuse e) = refused (error_of e)
told_as (accept reply d) = rmt_reply reply d.shown

-- a command and that record, on one session: the same tape and cartridge after them, and the reply tells the same
pub record SaidAs (k : Kept) (l : Lent) (r c : List ℕ) : Type 0 where
  pub tape : (commanded k l.room c).next.session.tape ≡ (answered k l r).next.session.tape
  pub image : (commanded k l.room c).next.image ≡ (answered k l r).next.image
  pub reply : (commanded k l.room c).reply ≡ told_as (verdict k l r (request_in r))

pub record RmtHolds : Type 0 where
  -- "1001 .. 1002", and nothing on a closed session, as of every call; but no store is lent, so that none is refused
  pub codes : (k : Kept) (room : ℕ) (c : List ℕ) → (commanded k room c).code ≡ choose (ltb room least_room) short_output (choose (keeps k.session) 0 broken_session)
  pub stopped : (k : Kept) (room : ℕ) (c : List ℕ) → ((commanded k room c).code ≡ 0 → ⊥) → Unmoved k (commanded k room c)
  pub over : (k : Kept) (room : ℕ) (c : List ℕ) → k.session.closed ≡ true → Unmoved k (commanded k room c)
  pub quiet : (k : Kept) (room : ℕ) (c : List ℕ) → (commanded k room c).notices ≡ []
  pub left : (k : Kept) (room : ℕ) (c : List ℕ) → CommandLeaves k (commanded k room c).next
  pub kept : (k : Kept) (room : ℕ) (c : List ℕ) → keeps k.session ≡ true → keeps (commanded k room c).next.session ≡ true
  pub sound : (k : Kept) (room : ℕ) (c : List ℕ) → is_sound k.image ≡ true → is_sound (commanded k room c).next.image ≡ true
  -- "E22 for what does not read so .. in 18's place": whoever says it, with a tape or without
  pub unread : (k : Kept) (room : ℕ) (c : List ℕ) → Spoken k room → rmt_command c ≡ None → commanded k room c ≡ saying (refused invalid) k
  -- then 4, which is E5
  pub stranger : (k : Kept) (room : ℕ) (c : List ℕ) → Spoken k room → (rmt_command c ≡ None → ⊥) → k.session.login.authorized ≡ false
      → commanded k room c ≡ saying (refused io_failed) k
  pub replies : (k : Kept) (room : ℕ) (c : List ℕ) → Spoken k room → Replies k c (rmt_request (rmt_command c)) (commanded k room c)
  -- "through NDMP's tape rules"
  pub as_tape : (k : Kept) (l : Lent) (r c : List ℕ) (q : TapeRequest) → Heard k l r → request_in r ≡ Request.Tape q → SaysSame (body_of r) c q (rmt_command c)
      → SaidAs k l r c
  -- no command but W and I 0 changes the image
  pub touched : (k : Kept) (room : ℕ) (c : List ℕ) → Touched k (rmt_request (rmt_command c)) c (commanded k room c).next.image
