use Prim.Native.Nat.{◌-◌, ◌*◌, ◌≤◌}
use mathlib.Core.Path.{◌≡◌}
use Rattle.codes.specs.Codes.{longest_record}
use Rattle.tape_image.specs.Image.{table_ok}
use Rattle.tape_sound.proofs.table_sound.Given as goal

-- The table from entry i on is what is left to judge, with the sum so far; each way out is a law of `table_ok`.
abbrev pub invariant-loop-i : goal.invariant-loop-i
invariant-loop-i l = (l.sum ≤ l.i * longest_record) × (table_ok l.image l.total l.entries 0 0 ≡ table_ok l.image l.total (l.entries - l.i) l.i l.sum)
