use Prim.Native.Nat.{◌-◌, ◌+◌}
use mathlib.Core.Path.{◌≡◌, refl, sym, ◌∙◌}
use native.Mathlib.Omega.{arith}
use Rattle.std.proofs.Common.{rules}
use Rattle.wire_scanning.proofs.Cases.{times_past, times_short, times_none}
use Rattle.wire_scanning.proofs.times_at.Goals as goal

pub loop-init : goal.loop-init
loop-init g c = (search rules, λ e p. let z : c.args.count - 0 ≡ c.args.count = omega arith in rw z refl)

pub returns-in_err-pos : goal.returns-in_err-pos
returns-in_err-pos g c = λ e p.
    c.from_residual.ensures
    ∙ sym (c.loop.invariant.1 e p ∙ times_short e c.loop.pos _ c.element.result (omega arith) c.in_err-pos.was (p c.loop.pos c.element.result c.loop.invariant.0 c.element.ensures))

pub loop-preserved : goal.loop-preserved
loop-preserved g c = (
  search rules,
  λ e p. c.loop.invariant.1 e p
      ∙ times_past e c.loop.pos _ (c.args.count - (c.loop.counter + 1)) c.element.result _ (omega arith) c.in_ok-pos.was
      (p c.loop.pos c.element.result c.loop.invariant.0 c.element.ensures),
)

pub returns : goal.returns
returns g c = λ e p. times_none e c.loop.pos _ (omega arith) ∙ sym (c.loop.invariant.1 e p)
