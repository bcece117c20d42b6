use Rattle.std.proofs.Common.{◌≡◌, ◌-◌}
use Rattle.wire_rmt.specs.Numbers.{digits_on}
use Rattle.wire_rmt_reading.proofs.digits_at.Given as goal

-- Invariant: what is left of the digits, behind the value so far, is the whole.
abbrev pub invariant-loop-i : goal.invariant-loop-i
invariant-loop-i l = digits_on 10 0 l.s l.from ≡ digits_on (10 - l.i) l.value l.s l.at
