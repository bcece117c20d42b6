use Rattle.rules_moves.specs.Events.{connection_lost}
use Rattle.call_moves.proofs.lost.Goals as goal

pub returns : goal.returns
unfolding connection_lost
returns c = λ image variables. rw (c.lost_at.ensures, c.of.ensures.source, c.of.ensures.mover, c.of.ensures.tape) at
    (c.tell.ensures image variables)
