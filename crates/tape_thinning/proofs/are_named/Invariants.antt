use mathlib.Core.Path.{◌≡◌}
use Prim.Native.Nat.{◌≤◌}
use Rattle.tape_files.specs.Thinning.{are_named}
use Rattle.tape_thinning.specs.Walk.{named_at}
use Rattle.tape_thinning.proofs.are_named.Given as goal

-- What is left of the numbers is judged as the whole is.
abbrev pub invariant-loop-n : goal.invariant-loop-n
invariant-loop-n l = (l.from ≤ 4294967296) × (are_named 0 l.files l.numbers ≡ named_at l.numbers l.n-index l.from l.files)
