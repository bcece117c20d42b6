-- The call of a command of the remote tape protocol (02 No. 5): "open, close, read, write, and the I operations 0 to 5 over the same cartridge, through
-- NDMP's tape rules, which decide over 001". A command is the tape request that says the same, judged as that request is; only its reply is told otherwise.
use Rattle.std.specs.Prelude.{ℕ, List, [], ◌∷◌, ◌++◌, false, take, drop, replicate, eqb, Option, Some, None}
use Rattle.xdr.specs.Choose.{choose}
use Rattle.wire_requests.specs.declared.TapeRequest.{TapeRequest}
use Rattle.wire_requests.specs.declared.TapeRequest.TheVariants as TapeRequest
use Rattle.wire_requests.specs.declared.Request.{Request}
use Rattle.wire_requests.specs.declared.Request.TheVariants as Request
use Rattle.wire_replies.specs.declared.Reply.{Reply}
use Rattle.wire_replies.specs.declared.Reply.TheVariants as Reply
use Rattle.wire_replies.specs.Replies.{number_of}
use Rattle.wire_rmt.specs.declared.Command.{Command}
use Rattle.wire_rmt.specs.declared.Command.TheVariants as Command
use Rattle.wire_rmt.specs.Commands.{rmt_command, tape_mode, mtio_of}
use Rattle.wire_rmt.specs.Replies.{error_of, accepted, refused}
use Rattle.rules.specs.Judge.{Outcome, refuse, accept}
use Rattle.rules.specs.Answer.{Kept, Lent, Answered, Done, silent, guarded, verdict}

-- the tape request that a command is
unfoldable pub tape_request : Command → TapeRequest
tape_request (Command.Open name mode) = TapeRequest.Open name (tape_mode mode)
tape_request Command.Close = TapeRequest.Close
tape_request (Command.Read count) = TapeRequest.Read count
tape_request (Command.Write bytes) = TapeRequest.Write bytes
tape_request (Command.Operate op count) = TapeRequest.Mtio (mtio_of op) count

-- what does not read is a request whose body does not decode: "E22 for what does not read so .. in 18's place"
unfoldable pub rmt_request : Option Command → Request
rmt_request (Some q) = Request.Tape (tape_request q)
rmt_request None = Request.Bad

-- a command as the body of a record: a path and data lie in it, and of a record nothing but its body is judged
abbrev pub in_record : List ℕ → List ℕ
in_record c = replicate 28 0 ++ c

-- a tape request is lent nothing that it looks at
abbrev pub bare : Lent
bare = record { accounts = []; challenge = []; time = 0; room = 0; addresses = []; made = false }

-- what a command comes to: "through NDMP's tape rules", 4 among them: 001 has no login
abbrev pub said : Kept → List ℕ → Outcome Done
said k c = verdict k bare (in_record c) (rmt_request (rmt_command c))

-- ---- the reply
-- "`A` with the number", a read's bytes behind it; 12 and 13, the outcomes of a tape, are of "every other"
unfoldable pub told : ℕ → ℕ → List ℕ → List ℕ
told e n bytes = choose (eqb e 0) (accepted n ++ bytes) (refused (error_of e))

-- the number of a reply, and which of the lent bytes stand behind it
pub record Counted : Type 0 where
  pub count : ℕ
  pub start : ℕ
  pub len : ℕ

abbrev pub alone : ℕ → Counted
alone n = record { count = n; start = 0; len = 0 }

-- 001: "the <retval> is the number of bytes read and [<opt-data>] is the actual data read", "the actual number of bytes written"; "open, close and I reply
-- `A0`". The replies of other services are none of a command's
unfoldable pub counted_in : Reply → Counted
counted_in (Reply.Read e start len) = record { count = len; start = start; len = len }
counted_in (Reply.Wrote e count) = alone count
counted_in (Reply.Header e) = alone 0
counted_in (Reply.Refused b e a) = alone 0
counted_in Reply.Plain = alone 0
counted_in Reply.Listening = alone 0
counted_in Reply.ListeningTcp = alone 0
counted_in Reply.ConnectionTypes = alone 0
counted_in Reply.Challenge = alone 0
counted_in (Reply.ServerInfo known) = alone 0
counted_in Reply.ScsiState = alone 0
counted_in Reply.Cdb = alone 0
counted_in (Reply.Sense n key code qualifier) = alone 0
counted_in (Reply.Check key code qualifier) = alone 0
counted_in Reply.Elements = alone 0
counted_in (Reply.TapeState file block) = alone 0
counted_in (Reply.Mtio e residue) = alone 0
counted_in (Reply.DataState v) = alone 0
counted_in Reply.Environment = alone 0
counted_in (Reply.MoverState v) = alone 0

unfoldable pub rmt_reply : Reply → List ℕ → List ℕ
rmt_reply reply shown = let x = counted_in reply in told (number_of reply) x.count (take x.len (drop x.start shown))

-- "it takes no sequence number and leaves the first-request mark": what is passed on is as the tape left it
abbrev pub saying : List ℕ → Kept → Answered
saying reply k = record { code = 0; reply = reply; notices = []; next = k }

unfoldable pub replied : Kept → Outcome Done → Answered
replied k (refuse e) = saying (refused (error_of e)) k
replied k (accept reply d) = saying (rmt_reply reply d.shown) d.kept

-- the call: what is passed on, the length of the output, and "one whole command, W with its data". No store is lent, and none is looked at.
unfoldable pub commanded : Kept → ℕ → List ℕ → Answered
commanded k room c = guarded k.session room (λ code. silent code k) (replied k (said k c))
