use Rattle.capi.proofs.mossgoblin_rmt.Goals as goal

pub returns : goal.returns
returns c = c.rmt.ensures
