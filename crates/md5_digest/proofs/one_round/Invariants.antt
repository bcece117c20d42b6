use Rattle.std.proofs.Common.{◌≡◌, ◌+◌, ◌-◌, ◌*◌}
use Rattle.md5_digest.specs.Md5.{operations}
use Rattle.md5_digest.proofs.one_round.Given as goal

-- The operations up to i are done.
abbrev pub invariant-loop-i : goal.invariant-loop-i
invariant-loop-i g l = operations 16 (16 * l.round) l.block l.fn.start ≡ operations (16 * l.round + 16 - l.i) l.i l.block l.q
