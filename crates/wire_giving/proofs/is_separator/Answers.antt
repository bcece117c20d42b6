use Rattle.wire_pairs.specs.Pairs.{separator_name}
use Rattle.wire_giving.proofs.is_separator.Goals as goal

pub returns : goal.returns
unfolding separator_name
returns c = c.same.ensures
