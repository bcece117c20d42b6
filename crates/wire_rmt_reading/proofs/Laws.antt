-- Laws of the readers. Assumes nothing.
use Prim.Native.Nat.{ℕ, ◌≤◌}
use mathlib.Core.List.{List, ◌∷◌}
use mathlib.Core.Path.{◌≡◌, sym, ap, ◌∙◌}
use native.Mathlib.Omega.{arith}
use lib.ListN.{length, drop, length-append, length-drop}
use Rattle.std.specs.Prelude.{Some}
use Rattle.wire_rmt.specs.Numbers.{number_at}
use Rattle.wire_rmt.specs.declared.Number.{Number}
use Rattle.wire_rmt.proofs.Numbers.{says}

-- a number that was read ends within the list
pub number_within : (l : List ℕ) (at : ℕ) (n : Number) → Some n ≡ number_at l at → n.next ≤ length l
number_within l at n e =
    let t = says l at n.value n.next (sym e) in
    let s = sym (length-drop at l) ∙ ap (λ (k : List ℕ). length k) t.there ∙ length-append t.digits (10 ∷ drop n.next l) in
    let d = length-drop n.next l in
    omega (arith, s, d, t.end)
