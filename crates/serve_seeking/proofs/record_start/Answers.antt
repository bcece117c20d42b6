use native.Mathlib.Omega.{arith}
use Rattle.tape_ops.proofs.Reading.{entry_within}
use Rattle.serve_seeking.proofs.record_start.Goals as goal

pub returns : goal.returns
returns c = let s = c in
    let l = s.args.image.now in
    let f = entry_within l s.args.i (record { ok = s.requires.0; within = omega arith }) (λ e. omega arith) in
    record { is = omega arith; fits = omega arith }
