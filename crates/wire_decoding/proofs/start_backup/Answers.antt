use native.Mathlib.Omega.{arith}
use Rattle.wire_decoding.proofs.Laws.{kept_within}
use Rattle.wire_decoding.proofs.start_backup.Goals as goal

pub pairs_behind-requires : goal.pairs_behind-requires
pairs_behind-requires c = let h = kept_within _ _ _ 0 c.in_ok-s.ensures in omega (arith, h)
