-- What one request call does: what is sent, and what is passed on (paper 01, "A record on the wire", "Refusals and their order").
use Rattle.std.specs.Prelude.{ℕ, Bool, true, false, not, List, [], ◌∷◌, ◌++◌, length, ltb, eqb}
use Rattle.codes.specs.Codes.{not_supported, not_authorized, undecodable, short_output, broken_session, store_length}
use Rattle.xdr.specs.Choose.{choose}
use Rattle.changer_elements.specs.Slots.{in_drive}
use Rattle.wire_frame.specs.Frame.{well_framed, sequence_of, kind_of, message_word, body_of}
use Rattle.wire_frame.specs.Messages.{row_of, message_of}
use Rattle.wire_frame.specs.declared.Message.{Message}
use Rattle.wire_requests.specs.Bodies.{decoded}
use Rattle.wire_requests.specs.declared.ConnectRequest.{ConnectRequest}
use Rattle.wire_requests.specs.declared.ConnectRequest.TheVariants as ConnectRequest
use Rattle.wire_requests.specs.declared.ConfigRequest.{ConfigRequest}
use Rattle.wire_requests.specs.declared.ConfigRequest.TheVariants as ConfigRequest
use Rattle.wire_requests.specs.declared.DataRequest.{DataRequest}
use Rattle.wire_requests.specs.declared.Request.{Request}
use Rattle.wire_requests.specs.declared.Request.TheVariants as Request
use Rattle.wire_replies.specs.declared.Reply.{Reply}
use Rattle.wire_replies.specs.declared.Reply.TheVariants as Reply
use Rattle.wire_replies.specs.declared.Notice.{Notice}
use Rattle.wire_replies.specs.declared.Notice.TheVariants as Notice
use Rattle.wire_replies.specs.Replies.{reply_bytes, notice_bytes}
use Rattle.rules_parts.specs.declared.types.Data.{Data}
use Rattle.rules_parts.specs.declared.types.Changer.{Changer}
use Rattle.rules_parts.specs.declared.types.Login.{Login}
use Rattle.rules_parts.specs.declared.types.Session.{Session}
use Rattle.rules_parts.specs.Names.{least_room}
use Rattle.rules.specs.Judge.{test, Outcome, refuse, accept, judge, onto}
use Rattle.rules_parts.specs.Parts.{with_parts, after_message, shut}
use Rattle.rules.specs.DataService.{data_step, variables_after, data_shown}
use Rattle.rules.specs.TapeService.{TapePart, tape_step, mover_part_step}
use Rattle.rules.specs.ScsiService.{scsi_step, scsi_shown}
use Rattle.rules.specs.declared.Ends.{Ends}
use Rattle.rules.specs.Joint.{joint_step}
use Rattle.rules.specs.Connection.{connect_step, config_step}
use Rattle.rules.specs.Relation.{keeps}

-- what calls pass on: the session, the cartridge, and the store of the data end's environment
pub record Kept : Type 0 where
  pub session : Session
  pub image : List ℕ
  pub variables : List ℕ

-- what is lent with one call: the accounts, and the challenge that 0x103 gives; the time stamp, and the length of the output; the list that a listen by
-- TCP answers; and whether the connection of a connect by TCP was made
pub record Lent : Type 0 where
  pub accounts : List ℕ
  pub challenge : List ℕ
  pub time : ℕ
  pub room : ℕ
  pub addresses : List ℕ
  pub made : Bool

abbrev pub held : Session → List ℕ → List ℕ → Kept
held s image variables = record { session = s; image = image; variables = variables }

-- ---- what a call gives: 0, or 1001 or 1002 where it is refused; what is sent; what is passed on
pub record Answered : Type 0 where
  pub code : ℕ
  pub reply : List ℕ
  pub notices : List ℕ
  pub next : Kept

-- nothing is sent and nothing changes
abbrev pub silent : ℕ → Kept → Answered
silent code k = record { code = code; reply = []; notices = []; next = k }

abbrev pub closing : Kept → Answered
closing k = silent 0 (held (shut k.session) k.image k.variables)

-- "Before all else the call is refused, and nothing written or changed: 1001 .. 1002"; "after it [closing] nothing is answered or changed".
-- For every call: what it comes to with a code and nothing done, and what it comes to else
unfoldable pub guarded : {A : Type 0} → Session → ℕ → (ℕ → A) → A → A
guarded s room idle x =
    choose (ltb room least_room) (idle short_output)
    (choose (not (keeps s)) (idle broken_session)
    (choose s.closed (idle 0)
    x))

-- "1001 for one of another length": a request call that is lent such a store is refused as one whose output has no room
unfoldable pub room_of : Kept → Lent → ℕ
room_of k l = choose (eqb (length k.variables) store_length) l.room 0

-- a reply to the record r, whose lent bytes, those of a read, a list of addresses, a challenge, a store or a status of elements, lie in `shown`; k has the session with its next parts
abbrev pub replying : List ℕ → ℕ → Reply → List ℕ → Kept → Answered
replying r time reply shown k =
    record {
      code = 0;
      reply = reply_bytes k.session.sequence time (message_word r) (sequence_of r) reply shown;
      notices = [];
      next = held (after_message k.session false) k.image k.variables;
    }

-- an answer, and behind it a notice, where there is a reason for one
unfoldable pub noticed : ℕ → ℕ → Notice → Answered → Answered
noticed time why n a =
    choose (eqb why 0) a
    (record {
      code = a.code;
      reply = a.reply;
      notices = a.notices ++ notice_bytes a.next.session.sequence time n;
      next = held (after_message a.next.session a.next.session.first) a.next.image a.next.variables;
    })

-- why each end halted, or 0: "its notices: data first, mover second"
abbrev pub halting : ℕ → ℕ → ℕ → Answered → Answered
halting time dwhy mwhy a = noticed time mwhy (Notice.MoverHalted mwhy) (noticed time dwhy (Notice.DataHalted dwhy) a)

-- ---- what an accepted request comes to: what is passed on, what its reply shows bytes of, and why each end halted, or 0
pub record Done : Type 0 where
  pub kept : Kept
  pub shown : List ℕ
  pub dwhy : ℕ
  pub mwhy : ℕ

abbrev pub quietly : Kept → List ℕ → Done
quietly k shown = record { kept = k; shown = shown; dwhy = 0; mwhy = 0 }

-- the part of a service, and what is passed on with its next part
abbrev pub tape_part : Kept → TapePart
tape_part k = record { mover = k.session.mover; tape = k.session.tape; image = k.image }

abbrev pub with_data : Kept → DataRequest → List ℕ → List ℕ → Data → Done
with_data k q body list d =
    let s = k.session in
    quietly
    (held (with_parts s s.login d s.mover s.tape s.changer) k.image (variables_after q body k.variables))
    (data_shown q list k.variables)

abbrev pub with_part : Kept → List ℕ → TapePart → Done
with_part k shown p = let s = k.session in quietly (held (with_parts s s.login s.source p.mover p.tape s.changer) p.image k.variables) shown

abbrev pub with_tape : Kept → TapePart → Done
with_tape k p = with_part k p.image p

abbrev pub with_changer : Kept → List ℕ → Changer → Done
with_changer k shown c = let s = k.session in quietly (held (with_parts s s.login s.source s.mover s.tape c) k.image k.variables) shown

abbrev pub with_login : Kept → List ℕ → Login → Done
with_login k shown g = let s = k.session in quietly (held (with_parts s g s.source s.mover s.tape s.changer) k.image k.variables) shown

abbrev pub with_ends : Kept → Ends → Done
with_ends k e =
    let s = k.session in
    record { kept = held (with_parts s s.login e.source e.mover s.tape s.changer) k.image k.variables; shown = []; dwhy = e.dwhy; mwhy = e.mwhy }

-- ---- a request
abbrev pub message_in : List ℕ → Message
message_in r = message_of (message_word r)

-- the request that a record is
abbrev pub request_in : List ℕ → Request
request_in r = decoded (message_in r) (body_of r)

-- what each request comes to, by its service: "1: message number not listed above as handled", "18: body doesn't decode"
unfoldable pub outcome : Kept → Lent → List ℕ → Request → Outcome Done
outcome k l r Request.Unknown = refuse not_supported
outcome k l r Request.Bad = refuse undecodable
outcome k l r (Request.Connect q) = onto (with_login k []) (connect_step k.session.first k.session.login l.accounts q (body_of r))
outcome k l r (Request.Config q) = onto (with_login k l.challenge) (config_step k.session.login l.challenge q)
outcome k l r (Request.Scsi q) =
    onto (with_changer k (scsi_shown q (body_of r) k.session.changer.slots)) (scsi_step k.session.tape.opened k.session.changer q (body_of r))
outcome k l r (Request.Tape q) = onto (with_tape k) (tape_step (in_drive k.session.changer.slots) (tape_part k) q (body_of r))
outcome k l r (Request.Data q) =
    onto (with_data k q (body_of r) l.addresses) (data_step k.session.source q (body_of r) l.addresses k.variables)
outcome k l r (Request.Mover q) = onto (with_part k l.addresses) (mover_part_step (tape_part k) q l.addresses)
outcome k l r (Request.Joint q) = onto (with_ends k) (joint_step k.session.source k.session.mover k.session.tape q l.made)

-- "4: before auth, all but CONNECT and 0x108"; 02 No. 2: "0x103 is answered before auth too"
unfoldable pub needs_login : Request → Bool
needs_login Request.Unknown = false
needs_login Request.Bad = false
needs_login (Request.Connect q) = false
needs_login (Request.Config ConfigRequest.ConnectionType) = true
needs_login (Request.Config (ConfigRequest.AuthAttributes type)) = false
needs_login (Request.Config ConfigRequest.ServerInfo) = false
needs_login (Request.Scsi q) = true
needs_login (Request.Tape q) = true
needs_login (Request.Data q) = true
needs_login (Request.Mover q) = true
needs_login (Request.Joint q) = true

unfoldable pub is_locked : Login → Request → Bool
is_locked g q = choose g.authorized false (needs_login q)

unfoldable pub verdict : Kept → Lent → List ℕ → Request → Outcome Done
verdict k l r q = judge (test (is_locked k.session.login q) not_authorized ∷ []) (outcome k l r q)

-- "An unknown message's 1, and 18, stand in the header with no body; all others in the body, header error 0; other reply fields are zero or
-- empty": the row of the message says how many zero words stand before and after the number
unfoldable pub is_unread : Request → Bool
is_unread Request.Unknown = true
is_unread Request.Bad = true
is_unread (Request.Connect q) = false
is_unread (Request.Config q) = false
is_unread (Request.Scsi q) = false
is_unread (Request.Tape q) = false
is_unread (Request.Data q) = false
is_unread (Request.Mover q) = false
is_unread (Request.Joint q) = false

abbrev pub refused_in : List ℕ → ℕ → Reply
refused_in r e = Reply.Refused (row_of (message_word r)).before e (row_of (message_word r)).after

unfoldable pub refusing : Request → List ℕ → ℕ → Reply
refusing q r e = choose (is_unread q) (Reply.Header e) (refused_in r e)

-- "A refusal changes only the vault's counter and the first-request mark"; "Each request .. gets one reply, then its notices: data first, mover second."
unfoldable pub settled : Kept → ℕ → List ℕ → Request → Outcome Done → Answered
settled k time r q (refuse e) = replying r time (refusing q r e) [] k
settled k time r q (accept reply d) = halting time d.dwhy d.mwhy (replying r time reply d.shown d.kept)

-- "Each request but an accepted CONNECT close gets one reply"
unfoldable pub is_close : Request → Bool
is_close Request.Unknown = false
is_close Request.Bad = false
is_close (Request.Connect (ConnectRequest.Open version)) = false
is_close (Request.Connect (ConnectRequest.Md5Auth id digest)) = false
is_close (Request.Connect ConnectRequest.OtherAuth) = false
is_close (Request.Connect ConnectRequest.Close) = true
is_close (Request.Config q) = false
is_close (Request.Scsi q) = false
is_close (Request.Tape q) = false
is_close (Request.Data q) = false
is_close (Request.Mover q) = false
is_close (Request.Joint q) = false

unfoldable pub judged : Kept → Lent → List ℕ → Request → Answered
judged k l r q = choose (is_close q) (closing k) (settled k l.time r q (verdict k l r q))

-- a well-framed record. "Type other than 0: ignored, nothing changes."
unfoldable pub requested : Kept → Lent → List ℕ → Answered
requested k l r = choose (not (eqb (kind_of r) 0)) (silent 0 k) (judged k l r (request_in r))

-- a request call: what is passed on, what is lent, and the record. A record that breaks the rules of framing "closes the session without a reply"
unfoldable pub answered : Kept → Lent → List ℕ → Answered
answered k l r = guarded k.session (room_of k l) (λ code. silent code k) (choose (well_framed r) (requested k l r) (closing k))
