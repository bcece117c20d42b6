use Rattle.serve_to_tape.proofs.Laws.{fillable}
use Rattle.serve_to_tape.proofs.to_tape.Goals as goal

pub fill_tape-requires : goal.fill_tape-requires
fill_tape-requires c = fillable _ _ _ _ _ _ c.requires c.is_idle.ensures c.if-is_idle.false c.is_faulty.ensures c.if-is_faulty.false
