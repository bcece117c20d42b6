-- 02 No. 3 over lists of calls: the pairs of an accepted start come back, in order, whatever calls come between that are no start and no stop.
use Rattle.std.specs.Prelude.{ℕ, true, List, [], ◌∷◌, ◌++◌, ◌≡◌, length}
use Rattle.xdr.specs.Xdr.{be32}
use Rattle.wire_pairs.specs.Pairs.{Pair, pair, pairs_from, pair_bytes, separator_name, separator, with_separator}
use Rattle.wire_pairs.specs.Store.{storing, is_laid}
use Rattle.wire_frame.specs.Frame.{body_of}
use Rattle.wire_layouts.specs.declared.Text.{Text}
use Rattle.wire_requests.specs.declared.Pairs.{Pairs}
use Rattle.wire_requests.specs.declared.DataRequest.{DataRequest}
use Rattle.wire_requests.specs.declared.DataRequest.TheVariants as DataRequest
use Rattle.wire_requests.specs.declared.Request.{Request}
use Rattle.wire_requests.specs.declared.Request.TheVariants as Request
use Rattle.wire_replies.specs.Numbers.{body_in}
use Rattle.rules.specs.Judge.{is_accepted}
use Rattle.rules.specs.Environment.{Starts, Answering}
use Rattle.rules.specs.Answer.{Kept, verdict, answered, request_in}
use Rattle.rules.specs.Order.{Call}
use Rattle.rules.specs.Calls.{Heard}
use Rattle.rules_moves.specs.Sequence.{Event, Asked, ToTape, FromTape, Ended, Made, Lost, Inserted, Renumbered, StoreLent, SlotsLent, step, runs}

-- ---- the calls
-- a start, backup or recover, that was heard on k and accepted, and its pairs: those that were sent, by `RequestsBack`
pub record Started (k : Kept) (c : Call) (ps : List Pair) : Type 0 where
  pub heard : Heard k c.lent c.ask.request
  pub request : DataRequest
  pub method : Text
  pub place : Pairs
  pub starts : Starts request method place
  pub is : request_in c.ask.request ≡ Request.Data request
  pub accepted : is_accepted (verdict k c.lent c.ask.request (Request.Data request)) ≡ true
  pub pairs : pairs_from (body_of c.ask.request) place.count place.start ≡ ps

-- a data stop that was heard on k and accepted
pub record Stopped (k : Kept) (c : Call) : Type 0 where
  pub heard : Heard k c.lent c.ask.request
  pub is : request_in c.ask.request ≡ Request.Data DataRequest.Stop
  pub accepted : is_accepted (verdict k c.lent c.ask.request (Request.Data DataRequest.Stop)) ≡ true

-- a request for the environment that is heard on k
pub record AsksFor (k : Kept) (c : Call) : Type 0 where
  pub heard : Heard k c.lent c.ask.request
  pub is : request_in c.ask.request ≡ Request.Data DataRequest.Environment

-- ---- what comes between
-- a request that is no start; and one that is no stop either
abbrev pub NoStart : Request → Type 0
NoStart (Request.Data (DataRequest.Backup method place)) = ⊥
NoStart (Request.Data (DataRequest.Recover method place)) = ⊥
NoStart (Request.Data DataRequest.State) = Unit {0}
NoStart (Request.Data DataRequest.Environment) = Unit {0}
NoStart (Request.Data DataRequest.Stop) = Unit {0}
NoStart (Request.Data (DataRequest.Listen address)) = Unit {0}
NoStart (Request.Connect q) = Unit {0}
NoStart (Request.Config q) = Unit {0}
NoStart (Request.Scsi q) = Unit {0}
NoStart (Request.Tape q) = Unit {0}
NoStart (Request.Mover q) = Unit {0}
NoStart (Request.Joint q) = Unit {0}
NoStart Request.Unknown = Unit {0}
NoStart Request.Bad = Unit {0}

abbrev pub Between : Request → Type 0
Between q = NoStart q × (q ≡ Request.Data DataRequest.Stop → ⊥)

-- one that is of no data interface at all
abbrev pub NoData : Request → Type 0
NoData q = (p : DataRequest) → q ≡ Request.Data p → ⊥

-- any call on k, with any cartridge, where what is asked of requests is asked of those that are accepted; the store is the one that calls pass on
abbrev pub Quiet : (Request → Type 0) → Kept → Event → Type 0
Quiet P k (Asked c) =
    is_accepted (verdict k c.lent c.ask.request (request_in c.ask.request)) ≡ true → P (request_in c.ask.request)
Quiet P k (ToTape l stream last) = Unit {0}
Quiet P k (FromTape l dest) = Unit {0}
Quiet P k (Ended l ok) = Unit {0}
Quiet P k (Made l mover) = Unit {0}
Quiet P k (Lost l mover) = Unit {0}
Quiet P k (Inserted image) = Unit {0}
Quiet P k (Renumbered n) = Unit {0}
Quiet P k (StoreLent variables) = ⊥
Quiet P k (SlotsLent slots) = Unit {0}

abbrev pub Along : (Request → Type 0) → Kept → List Event → Type 0
Along P k [] = Unit {0}
Along P k (e ∷ es) = Quiet P k e × Along P (step e k) es

-- ---- the theorem
-- the body of a reply that gives these pairs: error 0, how many, and each
abbrev pub giving : List Pair → List ℕ
giving ps = be32 0 ++ (be32 (length ps) ++ pair_bytes ps)

abbrev pub body_answered : Kept → Call → List ℕ
body_answered k c = body_in (answered k c.lent c.ask.request).reply

-- what is passed on after the call c and those that follow
abbrev pub after : Kept → Call → List Event → Kept
after k c es = runs k (Asked c ∷ es)

pub record VariablesHold : Type 0 where
  -- "Answer 0x404 from it in ACTIVE and HALTED, with PATHNAME_SEPARATOR as `/` added, last, when the client gave none": it is answered, and with these
  pub given : (k : Kept) (c : Call) (ps : List Pair) → Started k c ps → (es : List Event) → Along Between (step (Asked c) k) es
      → (a : Call) → AsksFor (after k c es) a → body_answered (after k c es) a ≡ giving (with_separator ps)
  -- every byte of the store is as the start left it
  pub stored : (k : Kept) (c : Call) (ps : List Pair) → Started k c ps → (es : List Event) → Along Between (step (Asked c) k) es
      → (after k c es).variables ≡ storing ps k.variables
  pub laid : (k : Kept) (c : Call) (ps : List Pair) → Started k c ps → (es : List Event) → Along Between (step (Asked c) k) es
      → is_laid (after k c es).variables ≡ true
  -- "data stop makes the count 0": until the next start 0x404 gives the separator's pair alone, in the states in which it is answered
  pub emptied : (k : Kept) (c : Call) → Stopped k c → (es : List Event) → Along NoStart (step (Asked c) k) es
      → (a : Call) → AsksFor (after k c es) a → Answering (after k c es).session.source
      → body_answered (after k c es) a ≡ giving (pair separator_name separator ∷ [])
  -- "The store belongs to the data desk": calls of no data interface, joint ones too, and another cartridge leave it
  pub others : (k : Kept) (es : List Event) → Along NoData k es → (runs k es).variables ≡ k.variables
