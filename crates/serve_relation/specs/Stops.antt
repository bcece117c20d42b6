-- Why a call stops before all else, and what it returns then. The definitions of `rules` have the number.
use Rattle.std.specs.Prelude.{ℕ, ⊤, Option, Some, None, Result, Ok, Err}
use Rattle.codes.specs.Codes.{short_output, broken_session}
use Rattle.serve_relation.specs.declared.Stop.{Stop}
use Rattle.serve_relation.specs.declared.Stop.TheVariants.{ShortOutput, BrokenSession, Closed}

abbrev pub code_of : Stop → ℕ
code_of ShortOutput = short_output
code_of BrokenSession = broken_session
code_of Closed = 0

-- the code of a call that stops, and none of one that goes on
abbrev pub stopped_by : Result ⊤ Stop → Option ℕ
stopped_by (Ok t) = None
stopped_by (Err stop) = Some (code_of stop)
