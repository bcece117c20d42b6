-- Windows with no end (02 No. 1): what rule (4) comes to in them and in every other window, and that no count wraps.
use Rattle.std.specs.Prelude.{ℕ, ◌+◌, ◌*◌, ◌≤◌, ◌<◌, Bool, true, false, List, ◌≡◌, length, eqb}
use Rattle.xdr_opaque.specs.Put.{Each}
use Rattle.tape_image.specs.Image.{faulty}
use Rattle.tape_writing.specs.Writing.{room_for}
use Rattle.tape_ops.specs.Step.{keeping}
use Rattle.rules_parts.specs.declared.types.Data.{Data}
use Rattle.rules_parts.specs.declared.types.Mover.{Mover}
use Rattle.rules_parts.specs.declared.types.Tape.{Tape}
use Rattle.rules_parts.specs.Names.{mover_active, to_tape_mode, backup_operation, end_of_window, top, endless}
use Rattle.rules.specs.Relation.{keeps, Legal, InWindow}
use Rattle.rules.specs.Answer.{Kept}
use Rattle.rules_moves.specs.Moves.{pauses, idle, stream_ends, scant, writing, window_used, to_tape}
use Rattle.rules_moves.specs.Sequence.{Event, runs}
use Rattle.rules_moves.specs.Counts.{trace, records_in, sum, IsToTape}

-- a move to tape in a window with no end that comes to rule (4)
pub record AtFour (d : Data) (m : Mover) (t : Tape) (l s : List ℕ) (last : Bool) : Type 0 where
  pub window : m.length ≡ endless
  pub runs : idle to_tape_mode backup_operation d m ≡ false
  pub sound : faulty l t.position ≡ false
  pub goes_on : stream_ends last (length s) ≡ false

pub record EndlessMoves : Type 0 where
  -- "rule (4) pauses EOW also where a whole record more would pass that end"
  pub pauses_there : (d : Data) (m : Mover) (t : Tape) (l s : List ℕ) (last : Bool) → AtFour d m t l s last → top < m.moved + m.size
      → to_tape d m t l s last ≡ keeping l (pauses end_of_window d m t)
  -- "until I pause you": nowhere before
  pub writes_before : (d : Data) (m : Mover) (t : Tape) (l s : List ℕ) (last : Bool) → AtFour d m t l s last → 1 ≤ m.size → m.moved + m.size ≤ top
      → scant last (length s) m.size ≡ false → room_for l t.position m.size ≡ true → to_tape d m t l s last ≡ writing d m t l s
  -- in every other window rule (4) is what it was: there bytes moved are at a record's bound, as the end is
  pub others : (size offset length moved : ℕ) → (length ≡ endless → ⊥) → Legal size offset length → InWindow size offset length moved
      → window_used size offset length moved ≡ eqb moved (offset + length)
  -- over any sequence of moves to tape, no byte at or above 2^64 - 1 is moved, so nothing wraps
  pub unwrapped : (w : Kept) → keeps w.session ≡ true → w.session.mover.state ≡ mover_active → w.session.mover.mode ≡ to_tape_mode
      → w.session.mover.length ≡ endless → (es : List Event) → Each IsToTape es
      → w.session.mover.moved + sum records_in (trace w es) * w.session.mover.size ≤ top
