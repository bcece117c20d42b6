use native.Mathlib.Omega.{arith}
use Rattle.wire_scanning.proofs.Cases.{sees_port, no_port}
use Rattle.wire_scanning.proofs.one_port.Goals as goal

pub returns-then-v-gt-MOST_PORT : goal.returns-then-v-gt-MOST_PORT
returns-then-v-gt-MOST_PORT c = no_port _ _ _ c.in_ok-v.ensures (omega arith)

pub returns : goal.returns
returns c = sees_port _ _ _ c.in_ok-v.ensures (omega arith)
