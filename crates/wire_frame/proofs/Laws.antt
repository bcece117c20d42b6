-- The laws of frames and of the table of messages. Assumes nothing.
use Prim.Native.Nat.{ℕ, ◌+◌, ◌≤◌}
use mathlib.Core.Path.{◌≡◌, refl}
use mathlib.Core.Bool.{Bool, true, ◌&&◌}
use mathlib.Core.List.{List, [], ◌∷◌}
use native.Mathlib.Omega.{arith}
use lib.ListN.{length, length-append}
use lib.Dec.{leb, eqb}
use borrow.Author.Tests.{le-leb, eq-eqb, leb-true}
use Rattle.xdr.specs.Choose.{all_of}
use Rattle.xdr.proofs.Laws.{length_be32s}
use Rattle.xdr.proofs.Tests.{and_l, and_r, by_test}
use Rattle.wire_frame.specs.Frame.{well_framed, Well, record_bytes}
use Rattle.wire_frame.specs.Messages.{Line, is, look, table, row_of}
use Rattle.wire_frame.specs.declared.Row.{Row}

module _ (l : List ℕ) where
  pub well : Well l → true ≡ well_framed l
  unfolding well_framed all_of
  well w = simp (le-leb _ _ w.long, le-leb _ _ w.low, le-leb _ _ w.high, eq-eqb _ _ w.size)

-- ---- the zero words of a refusal: a test of every line, computed once for the table
abbrev all_small : List Line → Bool
all_small [] = true
all_small (is k m b a ∷ t) = leb (b + a) 17 && all_small t

abbrev Small : Row → Type 0
Small r = r.before + r.after ≤ 17

look_small : (t : List Line) (n : ℕ) → all_small t ≡ true → Small (look t n)
unfolding look
look_small [] n h = omega arith
look_small (is k m b a ∷ t) n h =
    by_test Small (eqb n k) _ _ (λ _. leb-true (b + a) 17 (and_l _ (all_small t) h))
    (λ _. look_small t n (and_r (leb (b + a) 17) (all_small t) h))

pub around_small : (n : ℕ) → (row_of n).before + (row_of n).after ≤ 17
unfolding row_of
around_small n = look_small table n refl

pub length_record : (a b c d e f : ℕ) (body : List ℕ) → length (record_bytes a b c d e f body) ≡ 28 + length body
unfolding record_bytes
length_record a b c d e f body = simp (length-append, length_be32s)
