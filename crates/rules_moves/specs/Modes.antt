-- Two movers (paper 02, No. 8): "let there be two: stream to tape, lent no destination, and tape to stream, lent no stream. Each does nothing in
-- the other's mode."
use Rattle.std.specs.Prelude.{ℕ, Bool, true, List, [], ◌≡◌}
use Rattle.rules_parts.specs.declared.types.Session.{Session}
use Rattle.rules_parts.specs.Names.{mover_active, to_tape_mode, from_tape_mode}
use Rattle.rules.specs.Answer.{Kept, Lent}
use Rattle.rules_moves.specs.Events.{Moving, moved_to_tape, moved_from_tape}
use Rattle.rules_moves.specs.Keeping.{Idle, code_told}

-- the mover is in IDLE, LISTEN, PAUSED or HALTED; or in the other call's mode, or in none; or the session is closed
pub data OutOfTurn (mode : ℕ) (s : Session) : Type 0 where
  resting : (s.mover.state ≡ mover_active → ⊥) → OutOfTurn mode s
  other_mode : (s.mover.mode ≡ mode → ⊥) → OutOfTurn mode s
  over : s.closed ≡ true → OutOfTurn mode s

-- nothing is taken, handed over or sent, and session, image and destination are as they were; 1001 and 1002 come all the same, "before all else"
pub record DoesNothing (k : Kept) (l : Lent) (dest : List ℕ) (e : Moving) : Type 0 where
  pub nothing : Idle k dest e
  pub code : e.answer.code ≡ code_told k l

-- for every session, also one that breaks the relation, every image, and all that is lent
pub record EachItsMode : Type 0 where
  pub to_tape_lem : (k : Kept) (l : Lent) (stream : List ℕ) (last : Bool) → OutOfTurn to_tape_mode k.session
      → DoesNothing k l [] (moved_to_tape k l stream last)
  pub from_tape_lem : (k : Kept) (l : Lent) (dest : List ℕ) → OutOfTurn from_tape_mode k.session → DoesNothing k l dest (moved_from_tape k l dest)
  -- in any state, to tape nothing is handed over, and from tape nothing is written to the image
  pub none_handed : (k : Kept) (l : Lent) (stream : List ℕ) (last : Bool) → (moved_to_tape k l stream last).dest ≡ []
  pub only_read : (k : Kept) (l : Lent) (dest : List ℕ) → (moved_from_tape k l dest).answer.next.image ≡ k.image
