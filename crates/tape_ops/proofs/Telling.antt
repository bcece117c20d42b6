-- From the tests on the way to a `return` to what a step says there. Assumes nothing.
use Prim.Native.Nat.{ℕ}
use mathlib.Core.Bool.{Bool, true, false}
use mathlib.Core.List.{List}
use mathlib.Core.Path.{◌≡◌, refl}
use Rattle.xdr.specs.Choose.{choose}
use Rattle.xdr.proofs.Tests.{asked, asked_not, tests}
use Rattle.tape_ops.specs.Step.{Step, Told, keeping}

pub told_if : {A : Type 0} {b : Bool} {x : Step A} (y : Step A) {r : A} {l : List ℕ} → b ≡ true → Told x r l → Told (choose b x y) r l
unfolding choose
told_if y h t = rw h t

pub told_else : {A : Type 0} {b : Bool} (x : Step A) {y : Step A} {r : A} {l : List ℕ} → b ≡ false → Told y r l → Told (choose b x y) r l
unfolding choose
told_else x h t = rw h t

pub told_same : {A : Type 0} {q r : A} {l : List ℕ} → r ≡ q → Told (keeping l q) r l
told_same h = record { is = h; image = refl }

pub ruleset telling = (told_if, told_else, told_same, asked, asked_not, tests)
