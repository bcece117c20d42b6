use mathlib.Core.Path.{sym, ◌∙◌}
use native.Mathlib.Omega.{arith}
use Rattle.serve_seeking.proofs.Walk.{walk_end, walk_mark, walk_hit, walk_pass}
use Rattle.serve_seeking.proofs.find_record.Goals as goal

pub loop-at-preserved : goal.loop-at-preserved
loop-at-preserved c = c.loop-at.invariant ∙ walk_pass _ _ _ _ _ (omega arith) (λ e. c.if-entry_len-eq0.false (omega arith)) c.if-left-eq0.false

pub returns-then-entry_len-eq0 : goal.returns-then-entry_len-eq0
returns-then-entry_len-eq0 c = sym (c.loop-at.invariant ∙ walk_mark _ _ _ _ (omega arith) (omega arith))

pub returns-then-left-eq0 : goal.returns-then-left-eq0
returns-then-left-eq0 c = sym (c.loop-at.invariant ∙ walk_hit _ _ _ _ (omega arith) (λ e. c.if-entry_len-eq0.false (omega arith)) c.if-left-eq0.true)

pub returns : goal.returns
returns c = sym (c.loop-at.invariant ∙ walk_end _ _ _ _ (omega arith))
