use Rattle.xdr.specs.Xdr.{hyper}
use Rattle.xdr.proofs.read_hyper.Goals as goal

pub returns : goal.returns
unfolding hyper
returns c = cc
