use native.Mathlib.Omega.{arith}
use Rattle.call_accounts.proofs.Laws.{going_first, fewer, going_on, going_end}
use Rattle.call_accounts.proofs.put_lines.Goals as goal

pub loop-account-init : goal.loop-account-init
loop-account-init c = rw c.into_iter-account-iterator.ensures.into_iter_gives (going_first c.requires.1)

pub put_line-next-requires : goal.put_line-next-requires
put_line-next-requires c =
    let i = c.loop-account.invariant in
    let f = fewer i c.in-Some.ensures.steps in
    (omega (arith, i.room, f), omega (arith, f))

pub overflow_add-number : goal.overflow_add-number
overflow_add-number c = omega (arith, fewer c.loop-account.invariant c.in-Some.ensures.steps)

pub loop-account-preserved : goal.loop-account-preserved
loop-account-preserved c = going_on c.loop-account.invariant c.in-Some.ensures.steps c.put_line-next.ensures

pub returns : goal.returns
returns c = going_end c.loop-account.invariant c.in-None.ensures.steps.0
