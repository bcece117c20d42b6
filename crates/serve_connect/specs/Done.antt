-- What the code of a CONFIG request hands back, as the definitions have it.
use Rattle.std.specs.Prelude.{ℕ, List}
use Rattle.rules_parts.specs.declared.types.Login.{Login}
use Rattle.rules_parts.specs.Parts.{challenged_by}
use Rattle.rules.specs.Judge.{Outcome, onto}
use Rattle.rules.specs.Served.{Served, outcome_of}
use Rattle.serve_connect.specs.declared.LoginChange.{LoginChange}
use Rattle.serve_connect.specs.declared.LoginChange.TheVariants as LoginChange

-- the login after a change, with the challenge that is lent
abbrev pub changed : Login → List ℕ → LoginChange → Login
changed g challenge LoginChange.Nothing = g
changed g challenge LoginChange.Challenged = challenged_by challenge g

abbrev pub outcome_with : Login → List ℕ → Served LoginChange → Outcome Login
outcome_with g challenge done = onto (changed g challenge) (outcome_of done)
