use Prim.Native.Nat.{◌+◌}
use native.Mathlib.Omega.{arith}
use Rattle.serve_from_tape.proofs.Handing.{read_wrong, read_right}
use Rattle.serve_from_tape.proofs.read_record.Goals as goal

pub returns-then-len-p : goal.returns-then-len-p
returns-then-len-p c = read_wrong _ _ _ _ _ _ _ (λ e. c.if-len-p.true (omega arith)) c.halt.ensures

pub returns : goal.returns
returns c = let a = c.args in
    let n = c.amount-n in
    let begin = c.record_start.result + c.into_record-into.result in
    let copied = c.copy_bytes.ensures in
    let handed = c.hand_over.ensures in
    read_right a.i a.p.source a.p.mover a.p.tape a.image.now a.dest.now _ _ n.result begin (omega arith) n.ensures.is n.ensures.rest (omega arith)
    copied handed
