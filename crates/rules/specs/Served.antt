-- What the code of a service hands back, as the definitions have it.
use Rattle.std.specs.Prelude.{ℕ, Result, Ok, Err}
use Rattle.codes.specs.Errors.{number_of}
use Rattle.codes.specs.declared.NdmpError.{NdmpError}
use Rattle.rules.specs.Judge.{Outcome, refuse, accept}
use Rattle.rules.specs.declared.Accepted.{Accepted}

-- the error of a refusal, or what was accepted
abbrev pub Served : Type 0 → Type 0
Served A = Result (Accepted A) NdmpError

-- the number of a refusal, or 0
abbrev pub error_told : {A : Type 0} → Result A NdmpError → ℕ
error_told (Ok x) = 0
error_told (Err e) = number_of e

abbrev pub outcome_of : {A : Type 0} → Served A → Outcome A
outcome_of (Err e) = refuse (number_of e)
outcome_of (Ok a) = accept a.reply a.next
