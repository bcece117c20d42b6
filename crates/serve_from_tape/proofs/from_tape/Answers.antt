use Rattle.xdr.proofs.Tests.{asked}
use Rattle.serve_from_tape.proofs.Handing.{seekable}
use Rattle.serve_from_tape.proofs.from_tape.Goals as goal

pub seek_back-requires : goal.seek_back-requires
seek_back-requires c = let p = c.args.p in
    seekable p.source p.mover p.tape _ c.requires (asked c.is_idle.ensures c.if-is_idle.false) (asked c.is_faulty.ensures c.if-is_faulty.false)
