use Rattle.std.specs.Prelude.{◌≡◌, ◌-◌}
use Rattle.rules_moves.specs.Moves.{seek_from}
use Rattle.serve_seeking.proofs.find_record.Given as goal

-- What is left of the walk from the origin is invariant.
abbrev pub invariant-loop-at : goal.invariant-loop-at
invariant-loop-at l = seek_from l.image (l.n - l.origin) l.origin l.k ≡ seek_from l.image (l.n - l.at) l.at l.left
