use native.Mathlib.Omega.{arith}
use Rattle.xdr.specs.Choose.{choose}
use Rattle.tape_thinning.proofs.Laws.{copy_start, copy_on, copy_allowed, copy_end}
use Rattle.tape_thinning.proofs.copy_files.Goals as goal
use Rattle.tape_thinning.proofs.copy_files.Goals.{then-named, else-named}

pub loop-i-init : goal.loop-i-init
loop-i-init c = copy_start _ _ _ c.requires.0 c.requires.1

pub copy_entry-requires : goal.copy_entry-requires
copy_entry-requires c = copy_allowed _ _ _ _ _ _ _ _ _ (omega arith) c.is_named-named.ensures c.loop-i.invariant c.if-named.true

pub loop-i-preserved : goal.loop-i-preserved
unfolding choose
loop-i-preserved c = elim c.if-named.branch [
  | then-named w ↦ copy_on _ _ _ _ _ _ _ _ _ _ _ _ (omega arith) c.entry_len.ensures.is c.is_named-named.ensures c.after-walk.ensures
      (rw w.if-named.true (cc)) (rw w.if-named.true w.at-is) c.loop-i.invariant
  | else-named w ↦ copy_on _ _ _ _ _ _ _ _ _ _ _ _ (omega arith) c.entry_len.ensures.is c.is_named-named.ensures c.after-walk.ensures
      (rw w.if-named.false w.image-is) (rw w.if-named.false (omega arith)) c.loop-i.invariant
]

pub returns : goal.returns
returns c = copy_end _ _ _ _ _ _ _ _ (omega arith) c.loop-i.invariant
