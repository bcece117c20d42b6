use Rattle.std.proofs.Common.{◌≡◌, not, ◌-◌, ◌≤◌}
use Rattle.changer_elements.specs.Slots.{names_none_twice, some_again}
use Rattle.changer_moves.proofs.names_none_twice.Given as goal

abbrev pub invariant-loop-place : goal.invariant-loop-place
invariant-loop-place l = (l.place ≤ 9) × (names_none_twice l.fn.slots ≡ not (some_again (9 - l.place) l.place l.fn.slots))
