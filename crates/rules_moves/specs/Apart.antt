-- 02 No. 14: "A vault end joined by TCP has no local partner": what happens to one end by TCP never changes the other, over any calls of that end. That a
-- connect by TCP leaves the other end is said in `TcpRules` of rules, and that a listen does by its type: it sees its own end alone.
use Rattle.std.specs.Prelude.{ℕ, Bool, true, false, List, [], ◌∷◌, ◌≡◌}
use Rattle.codes.specs.Codes.{tcp_address}
use Rattle.wire_requests.specs.declared.JointRequest.{JointRequest}
use Rattle.wire_requests.specs.declared.JointRequest.TheVariants as JointRequest
use Rattle.wire_requests.specs.declared.Request.{Request}
use Rattle.wire_requests.specs.declared.Request.TheVariants as Request
use Rattle.rules.specs.Relation.{keeps}
use Rattle.rules.specs.Answer.{Kept, request_in}
use Rattle.rules_moves.specs.FirstSize.{after_open}
use Rattle.rules_moves.specs.Sequence.{Event, Asked, ToTape, FromTape, Ended, Made, Lost, Inserted, Renumbered, StoreLent, SlotsLent, step, runs}

-- ---- whose a call is
unfoldable pub joint_of_mover : JointRequest → Bool
joint_of_mover JointRequest.DataAbort = false
joint_of_mover (JointRequest.DataConnect address count) = false
joint_of_mover JointRequest.MoverAbort = true
joint_of_mover JointRequest.MoverClose = true
joint_of_mover (JointRequest.MoverConnect mode address count) = true

-- requests of the mover and of the data end, the joint ones with them
abbrev pub MoverAsks : Request → Type 0
MoverAsks (Request.Mover q) = Unit {0}
MoverAsks (Request.Joint q) = joint_of_mover q ≡ true
MoverAsks (Request.Data q) = ⊥
MoverAsks (Request.Connect q) = ⊥
MoverAsks (Request.Config q) = ⊥
MoverAsks (Request.Scsi q) = ⊥
MoverAsks (Request.Tape q) = ⊥
MoverAsks Request.Unknown = ⊥
MoverAsks Request.Bad = ⊥

abbrev pub SourceAsks : Request → Type 0
SourceAsks (Request.Data q) = Unit {0}
SourceAsks (Request.Joint q) = joint_of_mover q ≡ false
SourceAsks (Request.Mover q) = ⊥
SourceAsks (Request.Connect q) = ⊥
SourceAsks (Request.Config q) = ⊥
SourceAsks (Request.Scsi q) = ⊥
SourceAsks (Request.Tape q) = ⊥
SourceAsks Request.Unknown = ⊥
SourceAsks Request.Bad = ⊥

-- the moves are the mover's, the method's end is the data end's
abbrev pub OfMover : Event → Type 0
OfMover (Asked c) = MoverAsks (request_in c.ask.request)
OfMover (ToTape l stream last) = Unit {0}
OfMover (FromTape l dest) = Unit {0}
OfMover (Made l mover) = mover ≡ true
OfMover (Lost l mover) = mover ≡ true
OfMover (Ended l ok) = ⊥
OfMover (Inserted image) = ⊥
OfMover (Renumbered n) = ⊥
OfMover (StoreLent variables) = ⊥
OfMover (SlotsLent slots) = ⊥

abbrev pub OfSource : Event → Type 0
OfSource (Asked c) = SourceAsks (request_in c.ask.request)
OfSource (Ended l ok) = Unit {0}
OfSource (Made l mover) = mover ≡ false
OfSource (Lost l mover) = mover ≡ false
OfSource (ToTape l stream last) = ⊥
OfSource (FromTape l dest) = ⊥
OfSource (Inserted image) = ⊥
OfSource (Renumbered n) = ⊥
OfSource (StoreLent variables) = ⊥
OfSource (SlotsLent slots) = ⊥

-- ---- calls of one end, each while that end is by TCP
abbrev pub MoverAlong : Kept → List Event → Type 0
MoverAlong w [] = Unit {0}
MoverAlong w (e ∷ es) = OfMover e × (w.session.mover.address ≡ tcp_address) × MoverAlong (step e w) es

abbrev pub SourceAlong : Kept → List Event → Type 0
SourceAlong w [] = Unit {0}
SourceAlong w (e ∷ es) = OfSource e × (w.session.source.address ≡ tcp_address) × SourceAlong (step e w) es

-- any calls, while the data end is by TCP
abbrev pub StaysTcp : Kept → List Event → Type 0
StaysTcp w [] = w.session.source.address ≡ tcp_address
StaysTcp w (e ∷ es) = (w.session.source.address ≡ tcp_address) × StaysTcp (step e w) es

-- the mover, the tape and the cartridge are as they were
pub record MoverLeft (w v : Kept) : Type 0 where
  pub mover : v.session.mover ≡ w.session.mover
  pub tape : v.session.tape ≡ w.session.tape
  pub image : v.image ≡ w.image

pub record TcpApart : Type 0 where
  pub source_left : (w : Kept) → keeps w.session ≡ true → (es : List Event) → MoverAlong w es → (runs w es).session.source ≡ w.session.source
  pub mover_left : (w : Kept) → keeps w.session ≡ true → (es : List Event) → SourceAlong w es → MoverLeft w (runs w es)
  -- "a data end so joined has no moves, its processed count stays 0": of any session it stays what it was, and from `open` on it is 0, after any calls
  pub uncounted : (w : Kept) → keeps w.session ≡ true → (es : List Event) → StaysTcp w es
      → (runs w es).session.source.processed ≡ w.session.source.processed
  pub zero : (slots : List ℕ) (time room : ℕ) (image variables : List ℕ) (es : List Event) → (after_open slots time room image variables es).session.source.address ≡ tcp_address
      → (after_open slots time room image variables es).session.source.processed ≡ 0
