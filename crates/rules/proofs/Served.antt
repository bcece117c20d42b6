-- The laws of what the code of a service hands back: a refusal has a number, and tests that two requests share are judged first. Assumes nothing.
use Prim.Native.Nat.{ℕ}
use mathlib.Core.Bool.{Bool, true, false}
use mathlib.Core.List.{List, [], ◌∷◌, ◌++◌}
use mathlib.Core.Path.{◌≡◌, refl}
use native.Mathlib.Omega.{arith}
use lib.Dec.{eqb}
use Rattle.std.specs.Prelude.{Result, Ok, Err}
use Rattle.codes.specs.Errors.{number_of}
use Rattle.codes.specs.declared.NdmpError.{NdmpError}
use Rattle.xdr.specs.Choose.{choose}
use Rattle.rules.specs.Judge.{Test, test, first, Outcome, refuse, judge}
use Rattle.rules.proofs.JudgeLaws.{numbered, judge_first}

-- no error has the number 0
pub some_number : (e : NdmpError) → eqb (number_of e) 0 ≡ false
some_number e = grind arith

-- an error of tests that requests share is the refusal
pub refused_by : {A : Type 0} (ts us : List Test) (o : Outcome A) (e : NdmpError) → numbered ts ≡ true → number_of e ≡ first ts
    → refuse (number_of e) ≡ judge (ts ++ us) o
unfolding choose
refused_by ts us o e n h = rw (judge_first ts us o n, ← h, some_number e) refl

-- where they have none, the rest is judged
pub passed_by : {A : Type 0} (ts us : List Test) (o : Outcome A) {r : Outcome A} → numbered ts ≡ true → 0 ≡ first ts → r ≡ judge us o
    → r ≡ judge (ts ++ us) o
unfolding choose
passed_by ts us o n h t = rw (judge_first ts us o n, ← h) t

-- a test that a request has of its own, behind those
pub applies : {A : Type 0} {b : Bool} {e : ℕ} (ts : List Test) (o : Outcome A) → b ≡ true → refuse e ≡ judge (test b e ∷ ts) o
unfolding judge choose
applies ts o h = rw h

pub passes : {A : Type 0} {b : Bool} (e : ℕ) (ts : List Test) {r : Outcome A} (o : Outcome A) → b ≡ false → r ≡ judge ts o → r ≡ judge (test b e ∷ ts) o
unfolding judge choose
passes e ts o h t = rw h t

-- behind the last test
pub judged : {A : Type 0} {r o : Outcome A} → r ≡ o → r ≡ judge [] o
unfolding judge
judged t = t
