-- What the parts of a move from tape give, as facts.
use Rattle.std.specs.Prelude.{ℕ, ◌+◌, ◌≤◌, List, ◌≡◌, length}
use Rattle.tape_image.specs.Image.{entry_len, entry_start, body_at}
use Rattle.rules_parts.specs.declared.types.Mover.{Mover}
use Rattle.rules_moves.specs.Moves.{in_record, amount}

-- r is where the bytes of record i begin, and they lie in the image
pub record Start (l : List ℕ) (i r : ℕ) : Type 0 where
  pub is : r ≡ body_at l + entry_start l i
  pub fits : r + entry_len l i ≤ length l

-- r is how much is handed over: what is left, what there is room for and what the record has
pub record Amount (m : Mover) (room r : ℕ) : Type 0 where
  pub is : r ≡ amount m room
  pub owed : r ≤ m.left
  pub roomy : r ≤ room
  pub rest : in_record m + r ≤ m.size
