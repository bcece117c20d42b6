-- The counts over any sequence of moves. "Bytes moved counts whole records to tape, bytes handed over from tape; the joined data end's processed
-- count is the same, but to tape it leaves the fill out. Both are taken modulo 2^64; record number is bytes moved divided by record size (0 if
-- unset), modulo 2^32."
use Rattle.std.specs.Prelude.{ℕ, ◌+◌, ◌*◌, ◌/◌, ◌%◌, true, List, [], ◌∷◌, ◌≡◌, eqb}
use Rattle.codes.specs.Codes.{tcp_address}
use Rattle.xdr.specs.Choose.{choose}
use Rattle.xdr_opaque.specs.Put.{Each}
use Rattle.rules_parts.specs.Parts.{wrapped}
use Rattle.rules.specs.MoverService.{record_number}
use Rattle.rules.specs.Relation.{keeps}
use Rattle.rules.specs.Answer.{Kept}
use Rattle.rules_moves.specs.Sequence.{Event, Asked, ToTape, FromTape, Ended, Made, Lost, Inserted, Renumbered, StoreLent, SlotsLent, step, runs}
use Rattle.rules_moves.specs.Sequence.{Seen, Sized, Windowed, Sought, MoverStopped, DataStopped, Listened, Joined, Began, Paused, Wrote, Handed, Nothing, Register, register_of, after, seen, count_of}

-- what is seen of a list of calls, and the register that is replayed from it
unfoldable pub trace : Kept → List Event → List Seen
trace w [] = []
trace w (e ∷ es) = seen e w ∷ trace (step e w) es

unfoldable pub replay : Register → List Seen → Register
replay r [] = r
replay r (x ∷ xs) = replay (after r x) xs

-- whole records to tape, bytes from tape. Not `count_of`, which has of a record to tape the stream's bytes in it
unfoldable pub moved_by : Seen → ℕ
moved_by (Wrote n k) = n
moved_by (Handed k) = k
moved_by (Sized n) = 0
moved_by (Windowed o n) = 0
moved_by (Sought o n) = 0
moved_by MoverStopped = 0
moved_by DataStopped = 0
moved_by (Listened address) = 0
moved_by (Joined address position) = 0
moved_by (Began position) = 0
moved_by Paused = 0
moved_by Nothing = 0

unfoldable pub records_in : Seen → ℕ
records_in (Wrote n k) = 1
records_in (Handed k) = 0
records_in (Sized n) = 0
records_in (Windowed o n) = 0
records_in (Sought o n) = 0
records_in MoverStopped = 0
records_in DataStopped = 0
records_in (Listened address) = 0
records_in (Joined address position) = 0
records_in (Began position) = 0
records_in Paused = 0
records_in Nothing = 0

unfoldable pub sum : (Seen → ℕ) → List Seen → ℕ
sum f [] = 0
sum f (x ∷ xs) = f x + sum f xs

abbrev pub IsMove : Event → Type 0
IsMove (ToTape l stream last) = Unit {0}
IsMove (FromTape l dest) = Unit {0}
IsMove (Asked c) = ⊥
IsMove (Ended l ok) = ⊥
IsMove (Made l mover) = Unit {0}
IsMove (Lost l mover) = Unit {0}
IsMove (Inserted image) = Unit {0}
IsMove (Renumbered n) = Unit {0}
IsMove (StoreLent variables) = Unit {0}
IsMove (SlotsLent slots) = Unit {0}

abbrev pub IsToTape : Event → Type 0
IsToTape (ToTape l stream last) = Unit {0}
IsToTape (FromTape l dest) = ⊥
IsToTape (Asked c) = ⊥
IsToTape (Ended l ok) = ⊥
IsToTape (Made l mover) = Unit {0}
IsToTape (Lost l mover) = Unit {0}
IsToTape (Inserted image) = Unit {0}
IsToTape (Renumbered n) = Unit {0}
IsToTape (StoreLent variables) = Unit {0}
IsToTape (SlotsLent slots) = Unit {0}

-- of n bytes moved, those that the data end has processed: none by a mover joined by TCP
unfoldable pub fed_of : ℕ → ℕ → ℕ
fed_of address n = choose (eqb address tcp_address) 0 n

-- after moves either way, and connections made and lost: `count_of` is what each call told as taken or handed over
pub record CountsOfMoves (w : Kept) (es : List Event) : Type 0 where
  pub moved : wrapped (runs w es).session.mover.moved ≡ wrapped (w.session.mover.moved + sum moved_by (trace w es))
  pub processed : wrapped (runs w es).session.source.processed ≡ wrapped (w.session.source.processed + fed_of w.session.mover.address (sum count_of (trace w es)))

-- after moves to tape: no count wraps, and the record number goes up by one a record
pub record CountsOfRecords (w : Kept) (es : List Event) : Type 0 where
  pub size : (runs w es).session.mover.size ≡ w.session.mover.size
  pub moved : (runs w es).session.mover.moved ≡ w.session.mover.moved + sum records_in (trace w es) * w.session.mover.size
  pub number : (w.session.mover.size ≡ 0 → ⊥)
      → record_number (runs w es).session.mover.moved (runs w es).session.mover.size
      ≡ (w.session.mover.moved / w.session.mover.size + sum records_in (trace w es)) % 4294967296

pub record CountsHold : Type 0 where
  -- of any sequence of calls, the closing register is what is replayed from what was seen
  pub replayed : (w : Kept) → keeps w.session ≡ true → (es : List Event) → register_of (runs w es).session ≡ replay (register_of w.session) (trace w es)
  pub totalled : (w : Kept) → keeps w.session ≡ true → (es : List Event) → Each IsMove es → CountsOfMoves w es
  pub recorded : (w : Kept) → keeps w.session ≡ true → (es : List Event) → Each IsToTape es → CountsOfRecords w es
