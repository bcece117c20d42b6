use Prim.Native.Nat.{◌≤◌}
use mathlib.Core.Path.{◌≡◌}
use Rattle.tape_spacing.specs.Spacing.{walk, ahead_of, spacing}
use Rattle.tape_spacing.specs.Direction.{is_forward}
use Rattle.tape_walking.proofs.space.Given as goal

-- What is left of the walk, from where it stands, and the entries ahead get fewer.
abbrev pub invariant-loop-left : goal.invariant-loop-left
invariant-loop-left l =
    (l.at ≤ l.n) × (l.rest ≡ ahead_of (is_forward l.direction) l.n l.at)
    × (spacing l.image l.op l.position l.times ≡ walk (is_forward l.direction) l.marks l.image l.rest l.at l.left)

abbrev pub decreases-loop-left : goal.decreases-loop-left
decreases-loop-left l = l.rest
