use Rattle.wire_layouts.proofs.Spelling as law
use Rattle.wire_layouts.proofs.one_spelling.Goals as goal

-- The law of every layout, proved in Spelling.
pub returns : goal.returns
returns c = law.one_spelling
