use Rattle.std.proofs.Common.{◌≡◌, ℕ, ◌-◌, ◌^◌, ◌<◌}
use Rattle.wire_layouts.specs.Layout.{Got, times_at}
use Rattle.wire_layouts.specs.Scans.{forget}
use Rattle.wire_scanning.specs.Elements.{Passes}
use Rattle.wire_scanning.proofs.times_at.Given as goal

-- the elements that are left, read from where the loop stands, come to what all come to
abbrev pub invariant-loop : goal.invariant-loop
invariant-loop g l =
    (l.pos < 2 ^ 64)
    × ((e : ℕ → Got) → Passes (goal.F-post g l.element) e → forget (times_at e l.count l.at) ≡ forget (times_at e (l.count - l.counter) l.pos))
