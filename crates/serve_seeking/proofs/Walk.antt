-- The walk to a record, case by case. Assumes nothing.
use Prim.Native.Nat.{ℕ, suc, ◌+◌, ◌-◌, ◌≤◌, ◌<◌}
use mathlib.Core.List.{List}
use mathlib.Core.Path.{◌≡◌}
use native.Mathlib.Omega.{arith}
use borrow.Author.Tests.{eq-eqb, ne_eqb}
use Rattle.xdr.specs.Choose.{choose}
use Rattle.tape_image.specs.Image.{count, entry_len}
use Rattle.rules_parts.specs.declared.types.Mover.{Mover}
use Rattle.rules_moves.specs.declared.Found.{Found}
use Rattle.rules_moves.specs.Moves.{seek_from, sought, ordinal}
use Rattle.rules_moves.proofs.Moving.{target_at}

-- with m entries ahead from entry i on, and k records to pass
module _ (l : List ℕ) (m i k : ℕ) where
  pub walk_end : m ≡ 0 → seek_from l m i k ≡ Found.End
  unfolding seek_from
  walk_end e = rw e

  pub walk_mark : (0 < m) → entry_len l i ≡ 0 → seek_from l m i k ≡ Found.Mark (i + 1)
  unfolding seek_from choose
  walk_mark on q =
      let more : m ≡ suc (m - 1) = omega arith in
      rw (more, eq-eqb _ _ q)

  pub walk_hit : (0 < m) → (entry_len l i ≡ 0 → ⊥) → k ≡ 0 → seek_from l m i k ≡ Found.Target i
  unfolding seek_from choose
  walk_hit on q z =
      let more : m ≡ suc (m - 1) = omega arith in
      rw (more, ne_eqb _ _ q, eq-eqb _ _ z)

  pub walk_pass : (j : ℕ) → m ≡ suc j → (entry_len l i ≡ 0 → ⊥) → (k ≡ 0 → ⊥) → seek_from l m i k ≡ seek_from l j (i + 1) (k - 1)
  unfolding seek_from choose
  walk_pass j more q z = rw (more, ne_eqb _ _ q, ne_eqb _ _ z)

-- a target is an entry of the table
pub target_in : (l : List ℕ) (m : Mover) (i : ℕ) → m.origin ≤ count l → sought m l ≡ Found.Target i → i < count l
target_in l m i h e = let b = (target_at l (count l - m.origin) m.origin (ordinal m) i e).1 in omega arith
