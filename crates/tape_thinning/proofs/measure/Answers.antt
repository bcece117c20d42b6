use native.Mathlib.Omega.{arith}
use Rattle.xdr.specs.Choose.{choose}
use Rattle.tape_thinning.proofs.Laws.{measure_start, measure_on, measure_end, begun_is}
use Rattle.tape_thinning.proofs.measure.Goals as goal
use Rattle.tape_thinning.proofs.measure.Goals.{then-named, else-named}

pub loop-i-init : goal.loop-i-init
loop-i-init c = measure_start _ _ c.requires

pub loop-i-preserved : goal.loop-i-preserved
unfolding choose
loop-i-preserved c = elim c.if-named.branch [
  | then-named w ↦ measure_on _ _ _ _ _ _ _ _ _ _ _ _ _ (omega arith) c.entry_len-len.ensures.is c.is_named-named.ensures c.after-walk.ensures
      (begun_is _) (rw w.if-named.true w.entries-is) (rw w.if-named.true w.bytes-is) c.loop-i.invariant
  | else-named w ↦ measure_on _ _ _ _ _ _ _ _ _ _ _ _ _ (omega arith) c.entry_len-len.ensures.is c.is_named-named.ensures c.after-walk.ensures
      (begun_is _) (rw w.if-named.false (omega arith)) (rw w.if-named.false (omega arith)) c.loop-i.invariant
]

pub returns : goal.returns
returns c = rw c.from.ensures (measure_end _ _ _ _ _ _ _ _ (omega arith) c.loop-i.invariant)
