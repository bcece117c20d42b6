use Rattle.rules_moves.specs.Events.{method_ended}
use Rattle.call_moves.proofs.end_method.Goals as goal

pub returns : goal.returns
unfolding method_ended
returns c = λ image variables. rw (c.method_end.ensures, c.of.ensures.source, c.of.ensures.mover, c.of.ensures.tape) at
    (c.tell.ensures image variables)
