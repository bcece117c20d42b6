use Rattle.serve_seeking.proofs.Walk.{target_in}
use Rattle.serve_from_tape.proofs.walk_back.Goals as goal

pub read_record-requires : goal.read_record-requires
read_record-requires c = (c.requires.0, c.requires.1, target_in c.args.image.now c.args.p.mover c.in-Target.i c.requires.0.begins (cc))
