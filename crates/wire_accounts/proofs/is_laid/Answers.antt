use Prim.Native.Nat.{◌+◌, ◌-◌}
use mathlib.Core.Path.{◌≡◌, sym, ap, ◌∙◌}
use native.Mathlib.Omega.{arith}
use Rattle.xdr_opaque.proofs.Laws.{word_within, word_missing}
use Rattle.wire_accounts.specs.Accounts.{are_laid}
use Rattle.wire_accounts.proofs.Laws.{laid_short, laid_many, laid_few, laid_none, laid_next, laid_end}
use Rattle.wire_accounts.proofs.is_laid.Goals as goal

pub returns-in_default : goal.returns-in_default
returns-in_default c = sym (laid_short _ (word_missing _ _ c.in_default.ensures))

pub loop-i-init : goal.loop-i-init
loop-i-init c =
    let w = word_within _ _ _ c.in-Some.ensures in
    let e : c.in-Some.count - 0 ≡ c.in-Some.count = omega arith in
    (w.0, rw e (ap are_laid (laid_few _ _ w.1 w.0 (omega arith))))

pub returns-then-count-gt-MOST_ACCOUNTS : goal.returns-then-count-gt-MOST_ACCOUNTS
returns-then-count-gt-MOST_ACCOUNTS c = let w = word_within _ _ _ c.in-Some.ensures in sym (laid_many _ _ w.1 w.0 c.if-count-gt-MOST_ACCOUNTS.true)

pub returns-in_default-account_at : goal.returns-in_default-account_at
returns-in_default-account_at c =
    let k = c.loop-i in
    sym (k.invariant.1 ∙ laid_none _ _ (c.in-Some.count - k.i) (omega arith) c.in_default-account_at.ensures.read)

pub loop-i-preserved : goal.loop-i-preserved
loop-i-preserved c =
    let k = c.loop-i in
    let r = c.in-Some-account_at.ensures in
    let e : c.in-Some.count - k.i - 1 ≡ c.in-Some.count - (k.i + 1) = omega arith in
    (r.within, rw e at (k.invariant.1 ∙ laid_next _ _ r.read (c.in-Some.count - k.i) (omega arith)))

pub returns : goal.returns
returns c = sym (c.loop-i.invariant.1 ∙ laid_end _ _ _ (omega arith))
