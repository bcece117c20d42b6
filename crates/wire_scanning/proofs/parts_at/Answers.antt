use mathlib.Core.Path.{sym, ◌∙◌}
use native.Mathlib.Omega.{arith}
use Rattle.wire_scanning.proofs.Cases.{parts_past, parts_short, parts_none}
use Rattle.wire_scanning.proofs.parts_at.Goals as goal

pub returns-in_err-pos : goal.returns-in_err-pos
returns-in_err-pos c = c.from_residual.ensures ∙ sym (c.loop-part.invariant ∙ parts_short c.args.parts.now c.args.body.now c.loop-part.part-index c.loop-part.pos _ c.part_at.result (omega arith) c.in_err-pos.was c.part_at.ensures)

pub loop-part-preserved : goal.loop-part-preserved
loop-part-preserved c = c.loop-part.invariant ∙ parts_past c.args.parts.now c.args.body.now c.loop-part.part-index c.loop-part.pos _ c.part_at.result _ (omega arith) c.in_ok-pos.was c.part_at.ensures

pub returns : goal.returns
returns c = parts_none c.args.parts.now c.args.body.now c.loop-part.part-index c.loop-part.pos (omega arith) ∙ sym c.loop-part.invariant
