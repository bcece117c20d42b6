use Rattle.wire_pairs.proofs.Back.{start_leaves}
use Rattle.wire_pairs.proofs.Only.{only}
use Rattle.wire_pairs.proofs.Stopped.{stop_leaves, given_one, given_none}
use Rattle.wire_pairs.proofs.store_holds.Goals as goal

-- By the laws of proofs/Back.antt, proofs/Only.antt and proofs/Stopped.antt.
pub returns : goal.returns
returns c = record { stored = start_leaves; written = only; stopped = stop_leaves; given_one = given_one; given_none = given_none }
