use Rattle.rules_annex.proofs.Used as laws
use Rattle.rules_annex.proofs.used_grows.Goals as goal

-- The growth is a theorem of `Used`, over any sequence of calls that feed the tape.
pub returns : goal.returns
returns c = laws.used_grows
