use Rattle.changer_status.proofs.Laws.{Reporting}
use Rattle.changer_status.proofs.report.Given as goal

-- The list has what is reported of the elements that were looked at, and the rest is still to come.
abbrev pub invariant-loop-element : goal.invariant-loop-element
invariant-loop-element l = Reporting l.asked l.list l.count l.element-index
