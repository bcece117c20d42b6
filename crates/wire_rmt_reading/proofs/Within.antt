-- A path and data lie within the command that was read. Assumes nothing.
use Prim.Native.Nat.{ℕ, ◌+◌, ◌≤◌}
use mathlib.Core.List.{List, [], ◌∷◌, ◌++◌}
use mathlib.Core.Path.{◌≡◌, refl}
use native.Mathlib.Omega.{arith}
use lib.ListN.{length}
use Rattle.std.specs.Prelude.{Option, Some, None}
use Rattle.wire_layouts.specs.Layout.{place}
use Rattle.wire_layouts.specs.declared.Text.{Text}
use Rattle.wire_rmt.specs.declared.Command.{Command}
use Rattle.wire_rmt.specs.Commands.{rmt_command}
use Rattle.wire_rmt.specs.Sent.{Sent, open_path, close_path, read_count, write_data, operate_count, command_bytes, Fits, meaning}
use Rattle.wire_rmt.proofs.Commands.{size_of, commands}

-- the text that a command holds, or none
unfoldable pub text_in : Option Command → Text
text_in (Some (Command.Open name mode)) = name
text_in (Some Command.Close) = place 0 0
text_in (Some (Command.Read count)) = place 0 0
text_in (Some (Command.Write bytes)) = bytes
text_in (Some (Command.Operate op count)) = place 0 0
text_in None = place 0 0

abbrev Lies : Text → List ℕ → Type 0
Lies t l = t.start + t.len ≤ length l

sent_within : (s : Sent) → Fits s → Lies (text_in (Some (meaning s))) (command_bytes s)
unfolding text_in Fits meaning command_bytes
sent_within (open_path name mode) f = omega (arith, size_of 79 name (mode ++ (10 ∷ [])))
sent_within (close_path name) f = omega arith
sent_within (read_count count) f = omega arith
sent_within (write_data count bytes) f = omega (arith, size_of 87 count bytes, f.1)
sent_within (operate_count op count) f = omega arith

-- a command was read or not
by_read : {A : Type 0} (q : Option Command) → (q ≡ None → A) → ((q ≡ None → ⊥) → A) → A
by_read (Some c) f g = g (λ e. let z : ◌≡◌ {A = ℕ} 0 1 = cc in omega arith)
by_read None f g = f refl

read_within : (l : List ℕ) → (rmt_command l ≡ None → ⊥) → Lies (text_in (rmt_command l)) l
read_within l n = let t = commands.spelled l n in rw (t.bytes, commands.back t.sent t.fits) (sent_within t.sent t.fits)

pub command_within : (l : List ℕ) → (text_in (rmt_command l)).start + (text_in (rmt_command l)).len ≤ length l
unfolding text_in
command_within l = by_read (rmt_command l) (λ e. rw e (omega arith)) (read_within l)
