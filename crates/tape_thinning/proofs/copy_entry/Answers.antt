use native.Mathlib.Omega.{arith}
use mathlib.Core.Path.{refl}
use Prim.Native.Nat.{◌+◌}
use Rattle.tape_thinning.proofs.Laws.{part_within, part_short, copied}
use borrow.Author.Rules.{rules}
use Rattle.tape_thinning.proofs.copy_entry.Goals as goal

pub slice_bounds-write_filled-end : goal.slice_bounds-write_filled-end
slice_bounds-write_filled-end c = let w = part_within _ _ _ _ c.requires in omega arith

pub write_filled-requires : goal.write_filled-requires
write_filled-requires c = let s = part_short _ _ _ _ c.requires in (search rules, search rules, omega arith)

pub returns : goal.returns
returns c = copied _ _ _ _ c.requires (c.body_at.result + c.entry_start.result) ((c.body_at.result + c.entry_start.result) + c.entry_len-len.result) c.entry_len-len.result _ _ c.write_filled.ensures (omega arith) refl (omega arith)
