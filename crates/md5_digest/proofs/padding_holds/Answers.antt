use Rattle.md5_digest.proofs.Laws.{padding_congruent, padding_most, padding_whole}
use Rattle.md5_digest.proofs.padding_holds.Goals as goal

pub returns : goal.returns
returns c = record { congruent = padding_congruent; most = padding_most; whole = padding_whole }
