use Rattle.rules_annex.proofs.Trip as laws
use Rattle.rules_annex.proofs.comes_out.Goals as goal

-- The round trip is a theorem of `Trip`, over any lists of calls that meet the premises.
pub returns : goal.returns
returns c = laws.comes_out
