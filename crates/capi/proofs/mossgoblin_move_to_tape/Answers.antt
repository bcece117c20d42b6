use Rattle.capi.proofs.mossgoblin_move_to_tape.Goals as goal

pub returns : goal.returns
returns c = c.move_to_tape.ensures
