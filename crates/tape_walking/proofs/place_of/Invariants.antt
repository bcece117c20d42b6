use Prim.Native.Nat.{◌≤◌}
use mathlib.Core.Path.{◌≡◌}
use Rattle.tape_image.specs.Place.{place_at}
use Rattle.tape_walking.proofs.place_of.Given as goal

-- The marks and the records since the last, up to entry i.
abbrev pub invariant-loop-i : goal.invariant-loop-i
invariant-loop-i l = (l.place ≡ place_at l.image l.i) × (l.place.file ≤ l.i) × (l.place.block ≤ l.i)
