-- What rules (4) to (7) of a move to tape lean on: a record of the mover's size can be written, the bytes moved are not past the window's end,
-- which is a number of 64 bits, and the tape stands at a position of a sound image.
use Rattle.std.specs.Prelude.{ℕ, ◌≤◌, List}
use Rattle.tape_image.specs.Sound.{Placed}
use Rattle.rules_parts.specs.declared.types.Mover.{Mover}
use Rattle.rules_parts.specs.Names.{largest_size, top}
use Rattle.rules_parts.specs.Parts.{window_end}

pub record Fillable (m : Mover) (l : List ℕ) (p : ℕ) : Type 0 where
  pub small : m.size ≤ largest_size
  pub to : m.moved ≤ window_end m.offset m.length
  pub fits : window_end m.offset m.length ≤ top
  pub place : Placed l p
