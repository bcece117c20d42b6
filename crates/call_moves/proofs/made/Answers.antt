use Rattle.rules_moves.specs.Events.{connection_made}
use Rattle.call_moves.proofs.made.Goals as goal

pub returns : goal.returns
unfolding connection_made
returns c = λ image variables. rw (c.made_at.ensures, c.of.ensures.source, c.of.ensures.mover, c.of.ensures.tape) at
    (c.tell.ensures image variables)
