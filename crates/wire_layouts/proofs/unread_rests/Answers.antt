use Rattle.wire_layouts.proofs.Unread as law
use Rattle.wire_layouts.proofs.unread_rests.Goals as goal

-- The law of every layout, proved in Unread.
pub returns : goal.returns
returns c = law.unread_rests
