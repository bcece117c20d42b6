-- Calls that leave the tape alone (paper 02, No. 12: "nothing else touches the tape"), and moves at one record size.
use Rattle.std.specs.Prelude.{ℕ, List, [], ◌∷◌, ◌≡◌}
use Rattle.wire_requests.specs.declared.Request.{Request}
use Rattle.wire_requests.specs.declared.Request.TheVariants as Request
use Rattle.rules.specs.Answer.{Kept, request_in}
use Rattle.rules_moves.specs.Events.{Moving, moved_to_tape, moved_from_tape}
use Rattle.rules_moves.specs.Sequence.{Event, Asked, ToTape, FromTape, Ended, Made, Lost, Inserted, Renumbered, StoreLent, SlotsLent, step}

-- the tape stands where it stood, and the cartridge is as it was
pub record Untouched (w v : Kept) : Type 0 where
  pub position : v.session.tape.position ≡ w.session.tape.position
  pub image : v.image ≡ w.image

-- A TAPE request may stand where it leaves both: get state, one that is refused, an open of a tape that stands at its start. Of every other
-- request nothing is asked: that it leaves them is shown.
abbrev pub AsideRequest : Request → Kept → Kept → Type 0
AsideRequest (Request.Tape q) w v = Untouched w v
AsideRequest (Request.Connect q) w v = Unit {0}
AsideRequest (Request.Config q) w v = Unit {0}
AsideRequest (Request.Scsi q) w v = Unit {0}
AsideRequest (Request.Data q) w v = Unit {0}
AsideRequest (Request.Mover q) w v = Unit {0}
AsideRequest (Request.Joint q) w v = Unit {0}
AsideRequest Request.Unknown w v = Unit {0}
AsideRequest Request.Bad w v = Unit {0}

-- a call that is no move of the backup or the recover: a move may stand where it moves nothing, and an image may be handed in if it is the one
-- that is there; the number of the next message may be set to any
abbrev pub Aside : Event → Kept → Type 0
Aside (Asked c) w = AsideRequest (request_in c.ask.request) w (step (Asked c) w)
Aside (Ended l ok) w = Unit {0}
Aside (Made l mover) w = Unit {0}
Aside (Lost l mover) w = Unit {0}
Aside (ToTape l part last) w = (moved_to_tape w l part last).count ≡ 0
Aside (FromTape l dest) w = ((moved_from_tape w l dest).count ≡ 0) × Untouched w (step (FromTape l dest) w)
Aside (Inserted image) w = image ≡ w.image
Aside (Renumbered n) w = Unit {0}
Aside (StoreLent variables) w = Unit {0}
Aside (SlotsLent slots) w = Unit {0}

abbrev pub Asides : Kept → List Event → Type 0
Asides w [] = Unit {0}
Asides w (e ∷ es) = Aside e w × Asides (step e w) es

-- "at one record size": where a move takes anything, the record size in force is this one
abbrev pub AtSize : ℕ → Kept → Moving → Type 0
AtSize size w e = (e.count ≡ 0 → ⊥) → w.session.mover.size ≡ size
