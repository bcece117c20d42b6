use Rattle.wire_layouts.proofs.Back as law
use Rattle.wire_layouts.proofs.round_trip.Goals as goal

-- The law of every layout, proved in Back.
pub returns : goal.returns
returns c = law.round_trip
