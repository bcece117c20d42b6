-- What each number of a reply leaves, what a client that is not logged in is told, and what writes to the cartridge and to the store. It is said by
-- the fields of the session, by the image and by what is sent, and not by the definitions of a call, so that these are held against it.
use Rattle.std.specs.Prelude.{ℕ, ◌+◌, ◌%◌, ◌^◌, ◌≤◌, Bool, true, false, List, [], ◌∷◌, ◌++◌, ◌≡◌, length, eqb}
use Rattle.codes.specs.Codes.{longest_record, not_supported, not_authorized, io_error, illegal_arguments, illegal_state, undecodable, version_four, md5_auth, at_mark_code, at_end_code, write_marks}
use Rattle.xdr.specs.Choose.{choose}
use Rattle.xdr.specs.Xdr.{be32, word}
use Rattle.tape_image.specs.Image.{capacity, count, entry_len, faulty}
use Rattle.tape_spacing.specs.Spacing.{goes_forward, PassedMark, end_of}
use Rattle.tape_writing.specs.Writing.{room_for, written, with_marks}
use Rattle.tape_ops.specs.Promises.{Refused}
use Rattle.wire_pairs.specs.Pairs.{pairs_from, pair_bytes}
use Rattle.wire_pairs.specs.Store.{fits, storing, emptied, is_laid, environment_of}
use Rattle.wire_frame.specs.Frame.{sequence_of, message_word, body_of}
use Rattle.wire_requests.specs.Within.{bytes_at}
use Rattle.wire_layouts.specs.declared.Text.{Text}
use Rattle.wire_requests.specs.declared.ConnectRequest.TheVariants as ConnectRequest
use Rattle.wire_requests.specs.declared.ConfigRequest.TheVariants as ConfigRequest
use Rattle.wire_requests.specs.declared.Pairs.{Pairs}
use Rattle.wire_requests.specs.declared.DataRequest.{DataRequest}
use Rattle.wire_requests.specs.declared.DataRequest.TheVariants as DataRequest
use Rattle.wire_requests.specs.declared.TapeRequest.TheVariants as TapeRequest
use Rattle.wire_requests.specs.declared.Request.{Request}
use Rattle.wire_requests.specs.declared.Request.TheVariants as Request
use Rattle.wire_replies.specs.declared.Reply.{Reply}
use Rattle.wire_replies.specs.declared.Reply.TheVariants.{ServerInfo}
use Rattle.wire_replies.specs.Replies.{number_of, header_error, body_bytes, shape_of, reply_bytes}
use Rattle.wire_replies.specs.Numbers.{place_of, number_in, body_in, bare}
use Rattle.rules_parts.specs.declared.types.Session.{Session}
use Rattle.rules_parts.specs.Names.{data_halted, data_connected, mover_listening, mover_active}
use Rattle.rules.specs.Connection.{right_digest}
use Rattle.rules.specs.Environment.{dump_bytes, Starts, Answering}
use Rattle.rules.specs.Answer.{Kept, Lent, held, Answered, answered, request_in}
use Rattle.rules.specs.Order.{is_one_of}
use Rattle.rules.specs.Calls.{Heard}
use Rattle.rules.specs.Shelving.{ShelvingHolds}
use Rattle.rules.specs.Login.{LoginHolds, OfControl, ControlLeaves, AttributesAsked, WithdrawnAsked}

-- ---- what a number leaves
-- n is k after one message more, with the "first request" mark gone and the tape at a position of which P holds, and nothing else changed
pub record Leaving (P : ℕ → Type 0) (k n : Kept) : Type 0 where
  pub closed : n.session.closed ≡ k.session.closed
  pub login : n.session.login ≡ k.session.login
  pub source : n.session.source ≡ k.session.source
  pub mover : n.session.mover ≡ k.session.mover
  pub changer : n.session.changer ≡ k.session.changer
  pub opened : n.session.tape.opened ≡ k.session.tape.opened
  pub writable : n.session.tape.writable ≡ k.session.tape.writable
  pub position : P n.session.tape.position
  pub image : n.image ≡ k.image
  pub variables : n.variables ≡ k.variables
  pub counter : n.session.sequence ≡ (k.session.sequence + 1) % 2 ^ 32
  pub mark : n.session.first ≡ false

-- 12: only a read and MTIO give it; the tape at p was moved past a mark, to q
pub data AtMark (l : List ℕ) (p : ℕ) : Request → ℕ → Type 0 where
  mark_read : (times q : ℕ) → q ≡ p + 1 → entry_len l p ≡ 0 → AtMark l p (Request.Tape (TapeRequest.Read times)) q
  mark_spaced : (op times q : ℕ) → PassedMark (goes_forward op) l p q → AtMark l p (Request.Tape (TapeRequest.Mtio op times)) q

-- 13: the tape is at the end that was met, or where it was
pub data AtEnd (l : List ℕ) (p : ℕ) : Request → ℕ → Type 0 where
  end_read : (times q : ℕ) → q ≡ p → p ≡ count l → AtEnd l p (Request.Tape (TapeRequest.Read times)) q
  end_written : (bytes : Text) (q : ℕ) → q ≡ p → AtEnd l p (Request.Tape (TapeRequest.Write bytes)) q
  end_spaced : (op times q : ℕ) → q ≡ choose (eqb op write_marks) p (end_of (goes_forward op) (count l)) → AtEnd l p (Request.Tape (TapeRequest.Mtio op times)) q

-- "other reply fields are zero or empty, except the residue at 12 and 13": the body of a reply with a number other than 0
pub data OtherFields (q : Request) (e : ℕ) (body : List ℕ) : Type 0 where
  no_body : body ≡ [] → OtherFields q e body
  zero_words : (before after : ℕ) → body ≡ bare before e after → OtherFields q e body
  residue_word : (op times n : ℕ) → q ≡ Request.Tape (TapeRequest.Mtio op times) → (Refused e → ⊥) → body ≡ be32 e ++ be32 n → OtherFields q e body

-- "An unknown message's 1, and 18, stand in the header"
pub data InHeader : Request → ℕ → Type 0 where
  unknown_message : InHeader Request.Unknown not_supported
  bad_body : InHeader Request.Bad undecodable

-- "4: before auth, all but CONNECT and 0x108", and 0x103 of 02 No. 2: the number of each request before login, 1 and 18 first
unfoldable pub before_login : Kept → Lent → List ℕ → Request → ℕ
before_login k l r Request.Unknown = not_supported
before_login k l r Request.Bad = undecodable
before_login k l r (Request.Connect (ConnectRequest.Open version)) =
    choose k.session.first (choose (eqb version version_four) 0 illegal_arguments) illegal_state
before_login k l r (Request.Connect (ConnectRequest.Md5Auth id digest)) =
    choose (right_digest k.session.login l.accounts (bytes_at (body_of r) id) (bytes_at (body_of r) digest)) 0 not_authorized
before_login k l r (Request.Connect ConnectRequest.OtherAuth) = illegal_arguments
before_login k l r (Request.Connect ConnectRequest.Close) = 0
before_login k l r (Request.Config ConfigRequest.ConnectionType) = not_authorized
before_login k l r (Request.Config (ConfigRequest.AuthAttributes type)) = choose (eqb type md5_auth) 0 illegal_arguments
before_login k l r (Request.Config ConfigRequest.ServerInfo) = 0
before_login k l r (Request.Scsi q) = not_authorized
before_login k l r (Request.Tape q) = not_authorized
before_login k l r (Request.Data q) = not_authorized
before_login k l r (Request.Mover q) = not_authorized
before_login k l r (Request.Joint q) = not_authorized

-- a request's one reply: what is sent, and what its number says of what is left
pub record Replied (k : Kept) (l : Lent) (r : List ℕ) (q : Request) (a : Answered) : Type 0 where
  pub reply : Reply
  pub shown : List ℕ
  pub sent : a.reply ≡ reply_bytes k.session.sequence l.time (message_word r) (sequence_of r) reply shown
  -- the error word of what is sent
  pub told : number_in (place_of reply) a.reply ≡ number_of reply
  pub header : (header_error reply ≡ 0 → ⊥) → InHeader q (header_error reply)
  pub fields : (number_of reply ≡ 0 → ⊥) → OtherFields q (number_of reply) (body_in a.reply)
  pub quiet : (number_of reply ≡ 0 → ⊥) → a.notices ≡ []
  -- "A refusal changes only the vault's counter and the "first request" mark; 12 and 13 also do what is said below."
  pub refused : Refused (number_of reply) → Leaving (λ p. p ≡ k.session.tape.position) k a.next
  pub at_mark : number_of reply ≡ at_mark_code → Leaving (AtMark k.image k.session.tape.position q) k a.next
  pub at_end : number_of reply ≡ at_end_code → Leaving (AtEnd k.image k.session.tape.position q) k a.next
  pub stranger : k.session.login.authorized ≡ false → number_of reply ≡ before_login k l r q

-- "Each request but an accepted CONNECT close gets one reply"; "Closing changes nothing else"
pub record Closes (k : Kept) (a : Answered) : Type 0 where
  pub reply : a.reply ≡ []
  pub notices : a.notices ≡ []
  pub closed : a.next.session.closed ≡ true
  pub first : a.next.session.first ≡ k.session.first
  pub login : a.next.session.login ≡ k.session.login
  pub counter : a.next.session.sequence ≡ k.session.sequence
  pub source : a.next.session.source ≡ k.session.source
  pub mover : a.next.session.mover ≡ k.session.mover
  pub tape : a.next.session.tape ≡ k.session.tape
  pub changer : a.next.session.changer ≡ k.session.changer
  pub image : a.next.image ≡ k.image
  pub variables : a.next.variables ≡ k.variables

-- ---- what writes to the cartridge
-- a client that is logged in, with the tape open for writing and the mover neither in LISTEN nor ACTIVE
pub record MayWrite (s : Session) : Type 0 where
  pub known : s.login.authorized ≡ true
  pub opened : s.tape.opened ≡ true
  pub writable : s.tape.writable ≡ true
  pub not_listening : s.mover.state ≡ mover_listening → ⊥
  pub not_active : s.mover.state ≡ mover_active → ⊥

-- the image after a request: as it was, or with the record of a TAPE write, or with the marks of MTIO 5, at the tape's position
pub data Touched (k : Kept) (q : Request) (body : List ℕ) (image : List ℕ) : Type 0 where
  untouched : image ≡ k.image → Touched k q body image
  wrote : (bytes : Text) → q ≡ Request.Tape (TapeRequest.Write bytes) → MayWrite k.session
      → room_for k.image k.session.tape.position (length (bytes_at body bytes)) ≡ true
      → image ≡ written k.image k.session.tape.position (bytes_at body bytes) → Touched k q body image
  marked : (times : ℕ) → q ≡ Request.Tape (TapeRequest.Mtio write_marks times) → MayWrite k.session
      → image ≡ with_marks k.image k.session.tape.position times → Touched k q body image

-- and who may write does: a record for which there is room, marks that fit
pub record Writes : Type 0 where
  pub write : (k : Kept) (l : Lent) (r : List ℕ) (bytes : Text) → Heard k l r → request_in r ≡ Request.Tape (TapeRequest.Write bytes) → MayWrite k.session
      → faulty k.image k.session.tape.position ≡ false → (length (bytes_at (body_of r) bytes) ≡ 0 → ⊥) → length (bytes_at (body_of r) bytes) ≤ longest_record
      → room_for k.image k.session.tape.position (length (bytes_at (body_of r) bytes)) ≡ true
      → (answered k l r).next.image ≡ written k.image k.session.tape.position (bytes_at (body_of r) bytes)
  pub marks : (k : Kept) (l : Lent) (r : List ℕ) (times : ℕ) → Heard k l r → request_in r ≡ Request.Tape (TapeRequest.Mtio write_marks times) → MayWrite k.session
      → faulty k.image k.session.tape.position ≡ false → k.session.tape.position + times ≤ capacity k.image
      → (answered k l r).next.image ≡ with_marks k.image k.session.tape.position times

-- ---- what writes to the store of the environment
-- the store after a request: as it was; or with the pairs of a start, of a client that is logged in, on a data end in CONNECTED; or with the count 0
pub data Stored (k : Kept) (q : Request) (body : List ℕ) (variables : List ℕ) : Type 0 where
  unstored : variables ≡ k.variables → Stored k q body variables
  started : (p : DataRequest) (method : Text) (place : Pairs) → Starts p method place → q ≡ Request.Data p → k.session.login.authorized ≡ true
      → k.session.source.state ≡ data_connected → bytes_at body method ≡ dump_bytes → fits (pairs_from body place.count place.start) ≡ true
      → variables ≡ storing (pairs_from body place.count place.start) k.variables → Stored k q body variables
  stopped : q ≡ Request.Data DataRequest.Stop → k.session.login.authorized ≡ true → k.session.source.state ≡ data_halted
      → variables ≡ emptied k.variables → Stored k q body variables

-- and a start that is accepted does, and a stop
pub record Stores : Type 0 where
  pub start : (k : Kept) (l : Lent) (r : List ℕ) (p : DataRequest) (method : Text) (place : Pairs) → Starts p method place → Heard k l r
      → request_in r ≡ Request.Data p → k.session.login.authorized ≡ true → k.session.source.state ≡ data_connected
      → bytes_at (body_of r) method ≡ dump_bytes → fits (pairs_from (body_of r) place.count place.start) ≡ true
      → (answered k l r).next.variables ≡ storing (pairs_from (body_of r) place.count place.start) k.variables
  pub stop : (k : Kept) (l : Lent) (r : List ℕ) → Heard k l r → request_in r ≡ Request.Data DataRequest.Stop → k.session.login.authorized ≡ true
      → k.session.source.state ≡ data_halted → (answered k l r).next.variables ≡ emptied k.variables

-- 0x404 of a client that is logged in, by its bytes: from the store as it lies, whoever wrote it
pub record EnvironmentAsked (k : Kept) (l : Lent) (r : List ℕ) : Type 0 where
  pub early : (Answering k.session.source → ⊥) → body_in (answered k l r).reply ≡ be32 illegal_state ++ be32 0
  pub unlaid : Answering k.session.source → is_laid k.variables ≡ false → body_in (answered k l r).reply ≡ be32 io_error ++ be32 0
  pub given : Answering k.session.source → is_laid k.variables ≡ true
      → let ps = environment_of k.variables in body_in (answered k l r).reply ≡ be32 0 ++ (be32 (length ps) ++ pair_bytes ps)

-- the same is told, and the same session and image are passed on
pub record SameTold (a b : Answered) : Type 0 where
  pub code : a.code ≡ b.code
  pub reply : a.reply ≡ b.reply
  pub notices : a.notices ≡ b.notices
  pub session : a.next.session ≡ b.next.session
  pub image : a.next.image ≡ b.next.image

pub record CallsLeave : Type 0 where
  -- every request that is heard, but a close, has one reply, and its number says what is left
  pub replied : (k : Kept) (l : Lent) (r : List ℕ) → Heard k l r → (request_in r ≡ Request.Connect ConnectRequest.Close → ⊥)
      → Replied k l r (request_in r) (answered k l r)
  pub closes : (k : Kept) (l : Lent) (r : List ℕ) → Heard k l r → request_in r ≡ Request.Connect ConnectRequest.Close → Closes k (answered k l r)
  pub login : LoginHolds
  -- CONNECT and CONFIG, accepted or refused, change the login at most, the counter and the mark, and send no notice
  pub control : (k : Kept) (l : Lent) (r : List ℕ) → Heard k l r → OfControl (request_in r) → ControlLeaves k (answered k l r)
  -- 0x108, of any client: "Server info gives empty strings before auth"
  pub info : (k : Kept) (l : Lent) (r : List ℕ) → Heard k l r → message_word r ≡ 0x108 → length (body_of r) ≡ 0
      → body_in (answered k l r).reply ≡ body_bytes (shape_of (ServerInfo k.session.login.authorized) [])
  -- 0x103, of any client, by its bytes
  pub attributes : (k : Kept) (l : Lent) (r : List ℕ) → Heard k l r → message_word r ≡ 0x103 → AttributesAsked k l r
  -- and so 0x901 of every type but 2, "Text login is withdrawn"
  pub withdrawn : (k : Kept) (l : Lent) (r : List ℕ) → Heard k l r → message_word r ≡ 0x901 → 4 ≤ length (body_of r) → (word (body_of r) 0 ≡ 2 → ⊥) → WithdrawnAsked k l r
  -- no request but TAPE write and MTIO 5 changes the image
  pub touched : (k : Kept) (l : Lent) (r : List ℕ) → Touched k (request_in r) (body_of r) (answered k l r).next.image
  pub writes : Writes
  -- no request but an accepted start or data stop changes the store
  pub stored : (k : Kept) (l : Lent) (r : List ℕ) → Stored k (request_in r) (body_of r) (answered k l r).next.variables
  pub stores : Stores
  pub environment : (k : Kept) (l : Lent) (r : List ℕ) → Heard k l r → message_word r ≡ 0x404 → length (body_of r) ≡ 0
      → k.session.login.authorized ≡ true → EnvironmentAsked k l r
  -- 02 No. 7: what changes the slot list, and what the changer's client is told
  pub shelving : ShelvingHolds
  -- no other request looks at the store
  pub unseen : (k : Kept) (l : Lent) (r other : List ℕ) → length other ≡ length k.variables → (request_in r ≡ Request.Data DataRequest.Environment → ⊥)
      → SameTold (answered k l r) (answered (held k.session k.image other) l r)
