-- What a move promises: the value that is returned, the image, the store, the destination and the output; and what every other event gives.
use Rattle.std.specs.Prelude.{ℕ, List, ◌≡◌}
use Rattle.rules_parts.specs.declared.types.Answer.{Answer}
use Rattle.rules_parts.specs.declared.types.Moved.{Moved}
use Rattle.rules.specs.Answer.{Kept, Lent, Answered, silent, guarded}
use Rattle.call_sending.specs.Call.{CallTold}
use Rattle.rules_moves.specs.declared.Move.{Move}
use Rattle.rules_moves.specs.Events.{Moving, announced}

-- what every call returns of it
abbrev pub answer_of : Moved → Answer
answer_of r = record { code = r.code; len = r.len; session = r.session }

pub record MoveTold (e : Moving) (r : Moved) (image' variables' dest' out out' : List ℕ) : Type 0 where
  pub call : CallTold e.answer (answer_of r) image' variables' out out'
  pub count : r.count ≡ e.count
  pub dest : dest' ≡ e.dest

-- an event that moves no bytes: stopped as any call, else what it comes to, announced. It is handed no image and no store, and leaves both
abbrev pub event : Kept → Lent → Move → Answered
event k l mv = guarded k.session l.room (λ code. silent code k) (announced k l mv k.image)
