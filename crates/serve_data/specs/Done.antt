-- What the code of a data request hands back and leaves in the store, as the definitions have it.
use Rattle.std.specs.Prelude.{ℕ, List, Ok, Err, ◌≡◌}
use Rattle.codes.specs.Errors.{number_of}
use Rattle.rules_parts.specs.declared.types.Data.{Data}
use Rattle.rules.specs.Judge.{Outcome, refuse, accept}
use Rattle.rules.specs.Served.{Served}

-- the code's answer is the definition's outcome, and the store after it is the one that an accepted request leaves; a
-- refusal leaves the store as it was
abbrev pub Tells : Outcome Data → Served Data → List ℕ → List ℕ → List ℕ → Type 0
Tells o (Err e) after v v' = (refuse (number_of e) ≡ o) × (v' ≡ v)
Tells o (Ok a) after v v' = (accept a.reply a.next ≡ o) × (v' ≡ after)
