use Rattle.wire_layouts.proofs.AddressLists as law
use Rattle.wire_layouts.proofs.addresses_given.Goals as goal

-- Proved in AddressLists.
pub returns : goal.returns
returns c = law.addresses_given
