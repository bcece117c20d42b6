-- The lesser of two numbers. Assumes nothing.
use Prim.Native.Nat.{ℕ, ◌≤◌, ◌<◌}
use mathlib.Core.Path.{◌≡◌}
use lib.Dec.{ltb}
use borrow.Author.Tests.{ltb-true, ltb-false}
use native.Mathlib.Omega.{arith}
use Rattle.std.specs.Prelude.{min}
use Rattle.xdr.proofs.Tests.{by_test}
use Rattle.xdr.specs.Choose.{least}

-- as the definitions have it, and as std has it
pub least_min : (a b : ℕ) → least a b ≡ min b a
unfolding least
least_min a b = by_test (λ (k : ℕ). k ≡ min b a) (ltb a b) a b (λ h. let z : a < b = ltb-true a b h in grind arith) (λ h. let z : b ≤ a = ltb-false a b h in grind arith)
