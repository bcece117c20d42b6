-- What went in comes out (paper 02, No. 12), as one statement over whole lists of calls.
use Rattle.std.specs.Prelude.{ℕ, ◌+◌, ◌-◌, ◌%◌, ◌≤◌, true, List, [], ◌∷◌, ◌++◌, ◌≡◌, length, take, drop, replicate}
use Rattle.codes.specs.Codes.{rewind_tape}
use Rattle.xdr.specs.Choose.{choose}
use Rattle.tape_image.specs.Image.{count}
use Rattle.wire_requests.specs.declared.MoverRequest.{MoverRequest}
use Rattle.wire_requests.specs.declared.MoverRequest.TheVariants as MoverRequest
use Rattle.wire_requests.specs.declared.TapeRequest.TheVariants as TapeRequest
use Rattle.wire_requests.specs.declared.Request.{Request}
use Rattle.wire_requests.specs.declared.Request.TheVariants as Request
use Rattle.rules.specs.Judge.{is_accepted}
use Rattle.rules_parts.specs.Parts.{rest_mover, mover_window, window_end}
use Rattle.rules.specs.Relation.{keeps}
use Rattle.rules.specs.Answer.{Kept, verdict, request_in}
use Rattle.rules.specs.Order.{Call}
use Rattle.rules_moves.specs.Events.{moved_to_tape, moved_from_tape}
use Rattle.rules_moves.specs.Sequence.{Event, Asked, ToTape, FromTape, Ended, Made, Lost, Inserted, Renumbered, StoreLent, SlotsLent, step, runs, is_heard}
use Rattle.rules_annex.specs.Aside.{Aside, Asides, AtSize}

-- ---- "the stream, followed only by the zeros that fill its last record"
-- the zeros that fill the last record of n bytes
unfoldable pub padding : ℕ → ℕ → ℕ
padding size n = (size - n % size) % size

unfoldable pub filled_up : ℕ → List ℕ → List ℕ
filled_up size s = s ++ replicate (padding size (length s)) 0

-- ---- the backup: "a stream, only its end marked last, written to that end by any windows, pauses and continues"
-- `rest` is what is left of the stream. Each part that is lent is the next of it, a part is marked last only where it reaches its end, and what a
-- move tells as taken is gone from it; at the end of the calls nothing is left.
abbrev pub Backs : ℕ → List ℕ → Kept → List Event → Type 0
Backs size rest w [] = rest ≡ []
Backs size rest w (ToTape l part last ∷ es) =
    (part ≡ take (length part) rest)
    × (last ≡ true → part ≡ rest)
    × AtSize size w (moved_to_tape w l part last)
    × Backs size (drop (moved_to_tape w l part last).count rest) (step (ToTape l part last) w) es
Backs size rest w (Asked c ∷ es) = Aside (Asked c) w × Backs size rest (step (Asked c) w) es
Backs size rest w (Ended l ok ∷ es) = Aside (Ended l ok) w × Backs size rest (step (Ended l ok) w) es
Backs size rest w (Made l mover ∷ es) = Aside (Made l mover) w × Backs size rest (step (Made l mover) w) es
Backs size rest w (Lost l mover ∷ es) = Aside (Lost l mover) w × Backs size rest (step (Lost l mover) w) es
Backs size rest w (FromTape l dest ∷ es) = Aside (FromTape l dest) w × Backs size rest (step (FromTape l dest) w) es
Backs size rest w (Inserted image ∷ es) = Aside (Inserted image) w × Backs size rest (step (Inserted image) w) es
Backs size rest w (Renumbered n ∷ es) = Aside (Renumbered n) w × Backs size rest (step (Renumbered n) w) es
Backs size rest w (StoreLent variables ∷ es) = Aside (StoreLent variables) w × Backs size rest (step (StoreLent variables) w) es
Backs size rest w (SlotsLent slots ∷ es) = Aside (SlotsLent slots) w × Backs size rest (step (SlotsLent slots) w) es

-- ---- "then rewind": an accepted MTIO 4
pub record Rewinds (w : Kept) (c : Call) (times : ℕ) : Type 0 where
  pub heard : is_heard w c.lent c.ask.request ≡ true
  pub request : request_in c.ask.request ≡ Request.Tape (TapeRequest.Mtio rewind_tape times)
  pub accepted : is_accepted (verdict w c.lent c.ask.request (request_in c.ask.request)) ≡ true

-- ---- what a recover goes by: the windows and the mover reads that were accepted
pub data Noted : Type 0 where
  Window : ℕ → ℕ → Noted
  Read : ℕ → ℕ → Noted
  -- a mover stop or a set record size: the recover is over
  Reset : Noted
  Other : Noted

unfoldable pub mover_note : MoverRequest → Noted
mover_note (MoverRequest.Window offset length) = Window offset length
mover_note (MoverRequest.Read offset length) = Read offset length
mover_note (MoverRequest.Size size) = Reset
mover_note MoverRequest.Stop = Reset
mover_note MoverRequest.State = Other
mover_note (MoverRequest.Listen mode address) = Other
mover_note MoverRequest.Continue = Other

unfoldable pub note : Request → Noted
note (Request.Mover q) = mover_note q
note (Request.Data q) = Other
note (Request.Connect q) = Other
note (Request.Config q) = Other
note (Request.Scsi q) = Other
note (Request.Tape q) = Other
note (Request.Joint q) = Other
note Request.Unknown = Other
note Request.Bad = Other

unfoldable pub noted : Kept → Call → Noted
noted w c =
    let r = c.ask.request in
    let q = request_in r in
    choose (is_heard w c.lent r) (choose (is_accepted (verdict w c.lent r q)) (note q) Other) Other

-- "windows that abut from 0 .., each set when the one before is used up, its mover reads asking for exactly the written records in order":
-- `asked` is where the last mover read ended, `end` where the last window ended, `given` the bytes handed over so far; each is 0 at first (`end` is
-- the first window's, where that is set already)
abbrev pub InTurn : ℕ → ℕ → ℕ → Noted → Type 0
InTurn asked end given (Window offset length) = (offset ≡ end) × (end ≡ given)
InTurn asked end given (Read offset length) = offset ≡ asked
InTurn asked end given Reset = ⊥
InTurn asked end given Other = Unit {0}

unfoldable pub asked_after : ℕ → Noted → ℕ
asked_after asked (Read offset length) = asked + length
asked_after asked (Window offset length) = asked
asked_after asked Reset = asked
asked_after asked Other = asked

unfoldable pub end_after : ℕ → Noted → ℕ
end_after end (Window offset length) = window_end offset length
end_after end (Read offset length) = end
end_after end Reset = end
end_after end Other = end

-- the recover: at its end `total` bytes have been asked for and nothing is left to read
abbrev pub Recovers : ℕ → ℕ → ℕ → ℕ → Kept → List Event → Type 0
Recovers total asked end given w [] = (asked ≡ total) × (w.session.mover.left ≡ 0)
Recovers total asked end given w (FromTape l dest ∷ es) = Recovers total asked end (given + (moved_from_tape w l dest).count) (step (FromTape l dest) w) es
Recovers total asked end given w (Asked c ∷ es) =
    Aside (Asked c) w
    × InTurn asked end given (noted w c)
    × Recovers total (asked_after asked (noted w c)) (end_after end (noted w c)) given (step (Asked c) w) es
Recovers total asked end given w (Ended l ok ∷ es) = Aside (Ended l ok) w × Recovers total asked end given (step (Ended l ok) w) es
Recovers total asked end given w (Made l mover ∷ es) = Aside (Made l mover) w × Recovers total asked end given (step (Made l mover) w) es
Recovers total asked end given w (Lost l mover ∷ es) = Aside (Lost l mover) w × Recovers total asked end given (step (Lost l mover) w) es
Recovers total asked end given w (ToTape l part last ∷ es) = Aside (ToTape l part last) w × Recovers total asked end given (step (ToTape l part last) w) es
Recovers total asked end given w (Inserted image ∷ es) = Aside (Inserted image) w × Recovers total asked end given (step (Inserted image) w) es
Recovers total asked end given w (Renumbered n ∷ es) = Aside (Renumbered n) w × Recovers total asked end given (step (Renumbered n) w) es
Recovers total asked end given w (StoreLent variables ∷ es) = Aside (StoreLent variables) w × Recovers total asked end given (step (StoreLent variables) w) es
Recovers total asked end given w (SlotsLent slots ∷ es) = Aside (SlotsLent slots) w × Recovers total asked end given (step (SlotsLent slots) w) es

-- ---- "the bytes handed over": of each move from tape so many bytes of its destination as it told
abbrev pub handed_by : Event → Kept → List ℕ
handed_by (FromTape l dest) w = take (moved_from_tape w l dest).count (moved_from_tape w l dest).dest
handed_by (Asked c) w = []
handed_by (ToTape l part last) w = []
handed_by (Ended l ok) w = []
handed_by (Made l mover) w = []
handed_by (Lost l mover) w = []
handed_by (Inserted image) w = []
handed_by (Renumbered n) w = []
handed_by (StoreLent variables) w = []
handed_by (SlotsLent slots) w = []

unfoldable pub handed_over : Kept → List Event → List ℕ
handed_over w [] = []
handed_over w (e ∷ es) = handed_by e w ++ handed_over (step e w) es

-- ---- the premises
pub record Trip (w : Kept) (size : ℕ) (stream : List ℕ) (backup : List Event) (rewind : Call) (times : ℕ) (between : List Event) (first : ℕ) (recover : List Event) : Type 0 where
  -- "a session", and a record size
  pub session : keeps w.session ≡ true
  pub some : 1 ≤ size
  -- "an empty cartridge". Not asked for: that it is sound, that the tape stands at its start, "with room". A move writes nothing where one of them
  -- fails, and a tape that is not sound or that stands past its end is not rewound
  pub empty : count w.image ≡ 0
  pub backs : Backs size stream w backup
  pub rewinds : Rewinds (runs w backup) rewind times
  -- the mover is stopped, before the rewind or after it: the recover finds it at rest "at the same record size". The first window may be set
  -- already: `first` is its length, or 0.
  pub aside : Asides (step (Asked rewind) (runs w backup)) between
  pub rests : (runs (step (Asked rewind) (runs w backup)) between).session.mover ≡ mover_window 0 first (rest_mover size)
  pub recovers : Recovers (length (filled_up size stream)) 0 (window_end 0 first) 0 (runs (step (Asked rewind) (runs w backup)) between) recover

-- all calls, in their order
abbrev pub calls : List Event → Call → List Event → List Event → List Event
calls backup rewind between recover = backup ++ (Asked rewind ∷ (between ++ recover))

-- "Then the bytes handed over are the stream, followed only by the zeros that fill its last record."
abbrev pub ComesOut : Type 0
ComesOut =
    (w : Kept) (size : ℕ) (stream : List ℕ) (backup : List Event) (rewind : Call) (times : ℕ) (between : List Event) (first : ℕ) (recover : List Event)
    → Trip w size stream backup rewind times between first recover
    → handed_over w (calls backup rewind between recover) ≡ filled_up size stream
