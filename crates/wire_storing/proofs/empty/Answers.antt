use Rattle.wire_pairs.specs.Store.{emptied}
use Rattle.wire_storing.proofs.empty.Goals as goal

pub returns : goal.returns
unfolding emptied
returns c = c.write_word.ensures
