-- What a call promises: the value that is returned, the image, the store and the output.
use Rattle.std.specs.Prelude.{ℕ, ◌≤◌, List, ◌++◌, ◌≡◌, length}
use Rattle.xdr.specs.Xdr.{overlay}
use Rattle.rules_parts.specs.Names.{least_room}
use Rattle.rules.specs.Answer.{Answered}
use Rattle.rules_parts.specs.declared.types.Answer.{Answer}

-- "Bytes of the output after the answer stay": what is sent is written at the output's start, and nothing else
pub record CallTold (a : Answered) (r : Answer) (image' variables' out out' : List ℕ) : Type 0 where
  pub code : r.code ≡ a.code
  pub len : r.len ≡ length (a.reply ++ a.notices)
  pub next : r.session ≡ a.next.session
  pub image : image' ≡ a.next.image
  pub variables : variables' ≡ a.next.variables
  pub output : out' ≡ overlay 0 (a.reply ++ a.notices) out

-- what the functions below the calls lean on: a record with its header, and an output with room
pub record Ready (r out : List ℕ) : Type 0 where
  pub long : 28 ≤ length r
  pub room : least_room ≤ length out
