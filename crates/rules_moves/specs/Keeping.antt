-- What moves and the method's end keep: the relation and a sound image; and what a call leaves that is refused.
use Rattle.std.specs.Prelude.{ℕ, Bool, true, List, [], ◌≡◌, ltb}
use Rattle.codes.specs.Codes.{short_output, broken_session}
use Rattle.xdr.specs.Choose.{choose}
use Rattle.xdr_opaque.specs.Put.{Each}
use Rattle.tape_image.specs.Image.{is_sound}
use Rattle.rules_parts.specs.Names.{least_room}
use Rattle.rules.specs.Relation.{keeps}
use Rattle.rules.specs.Answer.{Kept, Lent}
use Rattle.rules.specs.Calls.{Unmoved}
use Rattle.rules_moves.specs.Events.{Moving, moved_to_tape, moved_from_tape, method_ended, connection_made, connection_lost}
use Rattle.rules_moves.specs.Sequence.{Event, Asked, ToTape, FromTape, Ended, Made, Lost, Inserted, Renumbered, StoreLent, SlotsLent, runs}

-- nothing is sent or moved, and session, image, store and destination are as they were
pub record Idle (k : Kept) (dest : List ℕ) (e : Moving) : Type 0 where
  pub answer : Unmoved k e.answer
  pub none : e.count ≡ 0
  pub dest_end : e.dest ≡ dest

-- 1001 for an output that is too short, before 1002 for a broken session, and no other but 0
abbrev pub code_told : Kept → Lent → ℕ
code_told k l = choose (ltb l.room least_room) short_output (choose (keeps k.session) 0 broken_session)

-- the code that is told; what is refused, and a closed session, leaves everything, which is Left
pub record Guards (k : Kept) (l : Lent) (told : ℕ) (Left : Type 0) : Type 0 where
  pub code : told ≡ code_told k l
  pub refused : (told ≡ 0 → ⊥) → Left
  pub over : k.session.closed ≡ true → Left

-- the image that is handed in is a sound one
abbrev pub Sounds : Event → Type 0
Sounds (Inserted image) = is_sound image ≡ true
Sounds (Asked c) = Unit {0}
Sounds (ToTape l stream last) = Unit {0}
Sounds (FromTape l dest) = Unit {0}
Sounds (Ended l ok) = Unit {0}
Sounds (Made l mover) = Unit {0}
Sounds (Lost l mover) = Unit {0}
Sounds (Renumbered n) = Unit {0}
Sounds (StoreLent variables) = Unit {0}
Sounds (SlotsLent slots) = Unit {0}

pub record MovesKeep : Type 0 where
  pub to_tape_lem : (k : Kept) (l : Lent) (stream : List ℕ) (last : Bool)
      → Guards k l (moved_to_tape k l stream last).answer.code (Idle k [] (moved_to_tape k l stream last))
  pub from_tape_lem : (k : Kept) (l : Lent) (dest : List ℕ) → Guards k l (moved_from_tape k l dest).answer.code (Idle k dest (moved_from_tape k l dest))
  pub method : (k : Kept) (l : Lent) (ok : Bool) → Guards k l (method_ended k l ok).code (Unmoved k (method_ended k l ok))
  pub made : (k : Kept) (l : Lent) (mover : Bool) → Guards k l (connection_made k l mover).code (Unmoved k (connection_made k l mover))
  pub lost : (k : Kept) (l : Lent) (mover : Bool) → Guards k l (connection_lost k l mover).code (Unmoved k (connection_lost k l mover))
  -- every call keeps the relation, so that none is refused with 1002 after it, and leaves a sound image sound; and so do lists of calls
  pub kept : (w : Kept) (es : List Event) → keeps w.session ≡ true → keeps (runs w es).session ≡ true
  pub sound : (w : Kept) (es : List Event) → keeps w.session ≡ true → is_sound w.image ≡ true → Each Sounds es → is_sound (runs w es).image ≡ true
