use Rattle.std.proofs.Common.{◌≡◌, ◌-◌, ◌*◌, drop}
use Rattle.md5_digest.specs.Md5.{processed}
use Rattle.md5_digest.proofs.process.Given as goal

-- The blocks before k are done.
abbrev pub invariant-loop-k : goal.invariant-loop-k
invariant-loop-k l = processed l.count l.m l.fn.start ≡ processed (l.count - l.k) (drop (64 * l.k) l.m) l.q
