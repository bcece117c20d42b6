-- The body bytes in use (paper 02, No. 12): "from a tape standing at the end of its entries, over any sequence of moves to tape, pauses, windows
-- and continues at one record size, body bytes used less those at the start equal the records written times their size."
use Rattle.std.specs.Prelude.{ℕ, ◌+◌, ◌*◌, true, List, [], ◌∷◌, ◌≡◌}
use Rattle.tape_image.specs.Image.{count, used}
use Rattle.rules.specs.Relation.{keeps}
use Rattle.rules.specs.Answer.{Kept}
use Rattle.rules_moves.specs.Events.{moved_to_tape}
use Rattle.rules_moves.specs.Sequence.{Event, Asked, ToTape, FromTape, Ended, Made, Lost, Inserted, Renumbered, StoreLent, SlotsLent, step, runs}
use Rattle.rules_moves.specs.Counts.{trace, records_in, sum}
use Rattle.rules_annex.specs.Aside.{Aside, AtSize}

-- "any sequence of moves to tape, pauses, windows and continues at one record size", among any calls that leave the tape alone
abbrev pub Feeds : ℕ → Kept → List Event → Type 0
Feeds size w [] = Unit {0}
Feeds size w (ToTape l part last ∷ es) = AtSize size w (moved_to_tape w l part last) × Feeds size (step (ToTape l part last) w) es
Feeds size w (Asked c ∷ es) = Aside (Asked c) w × Feeds size (step (Asked c) w) es
Feeds size w (Ended l ok ∷ es) = Aside (Ended l ok) w × Feeds size (step (Ended l ok) w) es
Feeds size w (Made l mover ∷ es) = Aside (Made l mover) w × Feeds size (step (Made l mover) w) es
Feeds size w (Lost l mover ∷ es) = Aside (Lost l mover) w × Feeds size (step (Lost l mover) w) es
Feeds size w (FromTape l dest ∷ es) = Aside (FromTape l dest) w × Feeds size (step (FromTape l dest) w) es
Feeds size w (Inserted image ∷ es) = Aside (Inserted image) w × Feeds size (step (Inserted image) w) es
Feeds size w (Renumbered n ∷ es) = Aside (Renumbered n) w × Feeds size (step (Renumbered n) w) es
Feeds size w (StoreLent variables ∷ es) = Aside (StoreLent variables) w × Feeds size (step (StoreLent variables) w) es
Feeds size w (SlotsLent slots ∷ es) = Aside (SlotsLent slots) w × Feeds size (step (SlotsLent slots) w) es

-- The cartridge may be any, also an unsound one: then nothing is written. Records written are those that `seen` shows.
abbrev pub UsedGrows : Type 0
UsedGrows =
    (w : Kept) (size : ℕ) → keeps w.session ≡ true → w.session.tape.position ≡ count w.image
    → (es : List Event) → Feeds size w es
    → used (runs w es).image ≡ used w.image + sum records_in (trace w es) * size
