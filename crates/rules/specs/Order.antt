-- The three services commute (demand 3): lists of data, tape-with-mover and SCSI requests, the joint ones set aside, give the same answers and the
-- same closing state, the store of the environment with it, in whatever order they are merged. One statement; its proof is proofs/Order.antt.
use Rattle.std.specs.Prelude.{ℕ, ◌/◌, ◌≤◌, ◌≡◌, Bool, true, false, List, [], ◌∷◌, ◌++◌, length, take, drop, get_or, eqb, leb}
use Rattle.codes.specs.Codes.{short_output, broken_session, store_length}
use Rattle.xdr.specs.Choose.{choose}
use Rattle.xdr_opaque.specs.Put.{Each}
use Rattle.wire_frame.specs.Frame.{well_framed, kind_of, message_word, body_of}
use Rattle.wire_frame.specs.Messages.{message_of}
use Rattle.wire_frame.specs.declared.Message.{Message}
use Rattle.wire_frame.specs.declared.Message.TheVariants as Message
use Rattle.wire_layouts.specs.declared.Text.{Text}
use Rattle.wire_requests.specs.Within.{bytes_at}
use Rattle.wire_requests.specs.declared.ScsiRequest.TheVariants as ScsiRequest
use Rattle.wire_requests.specs.declared.Request.{Request}
use Rattle.wire_requests.specs.declared.Request.TheVariants as Request
use Rattle.rules_parts.specs.Names.{least_room}
use Rattle.rules.specs.Relation.{keeps}
use Rattle.rules.specs.ScsiService.{moves_medium}
use Rattle.rules.specs.Answer.{Kept, Lent, Answered, answered, request_in}

-- ---- the services ("Desks go by message number: DATA; TAPE and MOVER; SCSI")
pub data Service : Type 0 where
  DataService : Service
  TapeService : Service
  ScsiService : Service
  JointService : Service
  ControlService : Service

-- a number that is not handled belongs to the interface of its range
unfoldable pub range_of : ℕ → Service
range_of n =
    choose (eqb (n / 256) 4) DataService
    (choose (eqb (n / 256) 3) TapeService
    (choose (eqb (n / 256) 10) TapeService
    (choose (eqb (n / 256) 2) ScsiService
    ControlService)))

-- the joint messages are set apart
unfoldable pub service_of : Message → ℕ → Service
service_of (Message.Connect k) n = ControlService
service_of (Message.Config k) n = ControlService
service_of (Message.Scsi k) n = ScsiService
service_of (Message.Tape k) n = TapeService
service_of (Message.Data k) n = DataService
service_of (Message.Mover k) n = TapeService
service_of (Message.Joint k) n = JointService
service_of Message.Unknown n = range_of n

-- 02 No. 7: "MOVE MEDIUM joins the set-aside requests of demand 3"
unfoldable pub is_move : Request → List ℕ → Bool
is_move (Request.Scsi q) body = moves_medium q body
is_move Request.Unknown body = false
is_move Request.Bad body = false
is_move (Request.Connect q) body = false
is_move (Request.Config q) body = false
is_move (Request.Tape q) body = false
is_move (Request.Data q) body = false
is_move (Request.Mover q) body = false
is_move (Request.Joint q) body = false

unfoldable pub route_of : List ℕ → Service
route_of r = choose (is_move (request_in r) (body_of r)) JointService (service_of (message_of (message_word r)) (message_word r))

-- The same by the numbers of 004 alone, for `ServicesAre`. Joint are data abort and data connect; mover abort, mover close and mover connect
abbrev pub joint_numbers : List ℕ
joint_numbers = 0x403 ∷ 0x40A ∷ 0xA03 ∷ 0xA07 ∷ 0xA09 ∷ []

unfoldable pub is_one_of : List ℕ → ℕ → Bool
is_one_of [] n = false
is_one_of (k ∷ ks) n = choose (eqb n k) true (is_one_of ks n)

unfoldable pub within : ℕ → ℕ → ℕ → Bool
within low high n = choose (leb low n) (leb n high) false

unfoldable pub service_by : ℕ → Service
service_by n =
    choose (is_one_of joint_numbers n) JointService
    (choose (within 0x400 0x4FF n) DataService
    (choose (within 0x300 0x3FF n) TapeService
    (choose (within 0xA00 0xAFF n) TapeService
    (choose (within 0x200 0x2FF n) ScsiService
    ControlService))))

-- an execute CDB whose bytes decode, the first byte of the CDB being A5h
pub record IsMoveMedium (r : List ℕ) : Type 0 where
  pub cdb : Text
  pub room : ℕ
  pub request : request_in r ≡ Request.Scsi (ScsiRequest.Cdb cdb room)
  pub opcode : get_or (bytes_at (body_of r) cdb) 0 0 ≡ 0xA5

pub record ServicesAre : Type 0 where
  -- of the numbers only those five are set aside: every other number of the three ranges, handled or not, is its service's, and no number else is
  pub numbers : (n : ℕ) → service_of (message_of n) n ≡ service_by n
  -- and MOVE MEDIUM, whatever it comes to; no other record
  pub aside : (r : List ℕ) → IsMoveMedium r → route_of r ≡ JointService
  pub others : (r : List ℕ) → (IsMoveMedium r → ⊥) → route_of r ≡ service_by (message_word r)

unfoldable pub service_number : Service → ℕ
service_number DataService = 0
service_number TapeService = 1
service_number ScsiService = 2
service_number JointService = 3
service_number ControlService = 4

unfoldable pub same_service : Service → Service → Bool
same_service d e = eqb (service_number d) (service_number e)

-- what is fixed of a call before the first one: the request's record, and the list of addresses that it is lent, which belongs to it as its record does
pub record Ask : Type 0 where
  pub request : List ℕ
  pub addresses : List ℕ

-- one call: what is asked, and what is lent with it
pub record Call : Type 0 where
  pub ask : Ask
  pub lent : Lent

-- "In demand 3 each listen is lent the same list in every order": what is lent with a call, and the list that its request has
abbrev pub with_list : Ask → Lent → Lent
with_list a l = record { accounts = l.accounts; challenge = l.challenge; time = l.time; room = l.room; addresses = a.addresses; made = l.made }

-- ws is made of the requests of xs, ys and zs, each list in its own order; each call is lent something of its own, but for the list of addresses
pub data Merge : List Ask → List Ask → List Ask → List Call → Type 0 where
  done : Merge [] [] [] []
  left : {a : Ask} (l : Lent) {xs ys zs : List Ask} {ws : List Call} → Merge xs ys zs ws → Merge (a ∷ xs) ys zs (record { ask = a; lent = with_list a l } ∷ ws)
  middle : {a : Ask} (l : Lent) {xs ys zs : List Ask} {ws : List Call} → Merge xs ys zs ws → Merge xs (a ∷ ys) zs (record { ask = a; lent = with_list a l } ∷ ws)
  right : {a : Ask} (l : Lent) {xs ys zs : List Ask} {ws : List Call} → Merge xs ys zs ws → Merge xs ys (a ∷ zs) (record { ask = a; lent = with_list a l } ∷ ws)

-- a well-framed request of a service, and no joint one: those have a service of their own. Its message may be unknown in the service's
-- range, its body may not decode, and the session need not be authorized.
pub record Asks (d : Service) (a : Ask) : Type 0 where
  pub framed : well_framed a.request ≡ true
  pub request : kind_of a.request ≡ 0
  pub service : route_of a.request ≡ d

abbrev pub Roomy : Call → Type 0
Roomy c = least_room ≤ c.lent.room

-- a message's bytes without its sequence and time stamp
unfoldable pub unstamped : List ℕ → List ℕ
unstamped m = take 4 m ++ drop 12 m

-- what a call gave: what was asked, the code, and the reply but for its sequence and time stamp
pub record Given : Type 0 where
  pub ask : Ask
  pub code : ℕ
  pub reply : List ℕ

abbrev pub given : Ask → Answered → Given
given q a = record { ask = q; code = a.code; reply = unstamped a.reply }

pub record Run : Type 0 where
  pub replies : List Given
  pub notices : List ℕ
  pub last : Kept

-- calls one after the other, each on what the one before passed on
unfoldable pub run : Kept → List Call → Run
run k [] = record { replies = []; notices = []; last = k }
run k (c ∷ cs) =
    let a = answered k c.lent c.ask.request in
    let rest = run a.next cs in
    record { replies = given c.ask a ∷ rest.replies; notices = a.notices ++ rest.notices; last = rest.last }

-- those of a service's requests, in order
unfoldable pub replies_to : Service → List Given → List Given
replies_to d [] = []
replies_to d (g ∷ gs) = choose (same_service d (route_of g.ask.request)) (g ∷ replies_to d gs) (replies_to d gs)

-- every call was refused with 1001, as the store is of another length, or with 1002, or every call was answered
unfoldable pub refusal : Kept → ℕ
refusal k = choose (eqb (length k.variables) store_length) (choose (keeps k.session) 0 broken_session) short_output

pub record SameEnd (code : ℕ) (v w : Run) : Type 0 where
  pub data_replies : replies_to DataService v.replies ≡ replies_to DataService w.replies
  pub tape_replies : replies_to TapeService v.replies ≡ replies_to TapeService w.replies
  pub scsi_replies : replies_to ScsiService v.replies ≡ replies_to ScsiService w.replies
  pub codes : Each (λ g. g.code ≡ code) v.replies × Each (λ g. g.code ≡ code) w.replies
  pub quiet : (v.notices ≡ []) × (w.notices ≡ [])
  pub last : v.last ≡ w.last

abbrev pub AnyOrder : Type 0
AnyOrder =
    (k : Kept) → k.session.closed ≡ false
    → (xs ys zs : List Ask) → Each (Asks DataService) xs → Each (Asks TapeService) ys → Each (Asks ScsiService) zs
    → (v w : List Call) → Merge xs ys zs v → Merge xs ys zs w → Each Roomy v → Each Roomy w
    → SameEnd (refusal k) (run k v) (run k w)
