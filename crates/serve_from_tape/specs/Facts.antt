-- What the parts of a move from tape lean on, as facts.
use Rattle.std.specs.Prelude.{ℕ, ◌+◌, ◌≤◌, List}
use Rattle.tape_image.specs.Image.{count}
use Rattle.tape_image.specs.Sound.{Sound}
use Rattle.rules_parts.specs.declared.types.Mover.{Mover}
use Rattle.rules_parts.specs.Names.{largest_size, top}
use Rattle.rules_parts.specs.Parts.{window_end}

-- a mover with a window in force, whose walk begins in the tape of a sound image
pub record Seekable (m : Mover) (l : List ℕ) : Type 0 where
  pub ok : Sound l
  pub some : 1 ≤ m.size
  pub small : m.size ≤ largest_size
  pub fits : window_end m.offset m.length ≤ top
  pub seeks : m.seek + m.left ≤ top
  pub begins : m.origin ≤ count l
