-- Which case of each definition of specs/Commands.antt holds, by plain facts. Assumes nothing.
use Prim.Native.Nat.{ℕ, ◌+◌, ◌-◌, ◌≤◌, ◌<◌}
use mathlib.Core.Bool.{true, false}
use mathlib.Core.List.{List, ◌∷◌}
use mathlib.Core.Path.{◌≡◌, refl, sym}
use native.Mathlib.Omega.{arith}
use lib.Dec.{ltb}
use lib.ListN.{length, get_or}
use Rattle.std.specs.Prelude.{◌==◌}
use Rattle.std.specs.List.{position_or_len}
use Rattle.wire_rmt.proofs.Laws.{by_cases}
use borrow.Author.Tests.{ltb-true}
use Rattle.xdr.specs.Choose.{choose}
use Rattle.xdr.proofs.Tests.{eqb_yes, eqb_no, ltb_yes, leb_yes}
use Rattle.wire_layouts.specs.Layout.{place}
use Rattle.std.specs.Prelude.{Option, Some, None}
use Rattle.wire_rmt.specs.declared.Command.{Command}
use Rattle.wire_rmt.specs.Numbers.{line_feed, number, number_at}
use Rattle.wire_rmt.specs.Commands.{
  last_operation,
  open_letter,
  close_letter,
  read_letter,
  write_letter,
  operate_letter,
  path_length,
  at_end,
  last_number,
  opened,
  open_behind,
  open_in,
  close_behind,
  close_in,
  reading,
  read_in,
  writing,
  write_in,
  operating,
  operation,
  operate_in,
  rmt_command,
}

-- ---- lines
-- how many bytes stand before the first line feed, or all
abbrev pub line_length : List ℕ → ℕ
line_length l = position_or_len (λ b. b == line_feed) l

pub line_feed_lem : (x : ℕ) (l : List ℕ) → x ≡ line_feed → line_length (x ∷ l) ≡ 0
line_feed_lem x l e = rw (eqb_yes e) refl

pub line_more : (x : ℕ) (l : List ℕ) → (x ≡ line_feed → ⊥) → line_length (x ∷ l) ≡ line_length l + 1
line_more x l e = rw (eqb_no e) (omega arith)

pub path_there : (x : ℕ) (r : List ℕ) → line_length r < length r → Some (line_length r) ≡ path_length (x ∷ r)
unfolding path_length
path_there x r h = rw (ltb_yes h) refl

-- the length of a path that was found
pub path_says : (x : ℕ) (r : List ℕ) (n : ℕ) → path_length (x ∷ r) ≡ Some n → (n ≡ line_length r) × (n < length r)
unfolding path_length
path_says x r n e = by_cases (ltb (line_length r) (length r))
    (λ (t : ltb (line_length r) (length r) ≡ true).
    let f : Some (line_length r) ≡ Some n = rw t at e in
    let g : line_length r ≡ n = cc in (sym g, let h = ltb-true _ _ t in omega arith))
    (λ (t : ltb (line_length r) (length r) ≡ false).
    let f : None ≡ Some n = rw t at e in
    let z : ◌≡◌ {A = ℕ} 0 1 = cc in absurd (omega arith))

module _ (l : List ℕ) where
  -- ---- a number that ends the command
  pub last_whole : (at v x : ℕ) → Some (number v x) ≡ number_at l at → x ≡ length l → Some v ≡ last_number l at
  unfolding last_number at_end choose
  last_whole at v x m k = rw (← m, eqb_yes k)

  -- ---- a command in full
  pub open_whole : (n : ℕ) → Some n ≡ path_length l → (v : ℕ) → Some v ≡ last_number l (n + 2) → Some (Command.Open (place 1 n) v) ≡ open_in l
  unfolding open_in open_behind opened
  open_whole n e v m = rw (← e, ← m)

  pub close_whole : (n : ℕ) → Some n ≡ path_length l → n + 2 ≡ length l → Some Command.Close ≡ close_in l
  unfolding close_in close_behind choose
  close_whole n e k = rw (← e, eqb_yes k)

  pub read_whole : (v : ℕ) → Some v ≡ last_number l 1 → Some (Command.Read v) ≡ read_in l
  unfolding read_in reading
  read_whole v m = rw (← m)

  pub write_whole : (v x : ℕ) → Some (number v x) ≡ number_at l 1 → length l - x ≡ v → Some (Command.Write (place x v)) ≡ write_in l
  unfolding write_in writing choose
  write_whole v x m k = rw (← m, eqb_yes k)

  pub operate_whole : (v x : ℕ) → Some (number v x) ≡ number_at l 1 → v ≤ last_operation → (w : ℕ) → Some w ≡ last_number l x
      → Some (Command.Operate v w) ≡ operate_in l
  unfolding operate_in operation operating choose
  operate_whole v x m h w k = rw (← m, leb_yes h, ← k)

  -- ---- by the letter
  module _ (x : ℕ) (e : x ≡ get_or l 0 0) (r : Option Command) where
    pub is_open : x ≡ open_letter → r ≡ open_in l → r ≡ rmt_command l
    unfolding rmt_command choose
    is_open h k = rw (← e, eqb_yes h) k

    pub is_close : x ≡ close_letter → r ≡ close_in l → r ≡ rmt_command l
    unfolding rmt_command choose
    is_close h k = rw (← e, h) k

    pub is_read : x ≡ read_letter → r ≡ read_in l → r ≡ rmt_command l
    unfolding rmt_command choose
    is_read h k = rw (← e, h) k

    pub is_write : x ≡ write_letter → r ≡ write_in l → r ≡ rmt_command l
    unfolding rmt_command choose
    is_write h k = rw (← e, h) k

    pub is_operate : x ≡ operate_letter → r ≡ operate_in l → r ≡ rmt_command l
    unfolding rmt_command choose
    is_operate h k = rw (← e, h) k
