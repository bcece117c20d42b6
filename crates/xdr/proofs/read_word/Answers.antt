use Rattle.xdr.specs.Xdr.{word}
use Rattle.xdr.proofs.read_word.Goals as goal

pub returns : goal.returns
unfolding word
returns c = c.from_be_bytes.ensures
