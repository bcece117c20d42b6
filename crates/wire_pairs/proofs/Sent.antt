-- Pairs that stand in a body, as XDR writes them, are those that are read from it. Assumes nothing.
use Prim.Native.Nat.{ℕ, ◌+◌, ◌^◌, ◌<◌}
use mathlib.Core.Path.{◌≡◌, refl, ap₂}
use mathlib.Core.List.{List, [], ◌∷◌, ◌++◌}
use lib.ListN.{length}
use Rattle.xdr_opaque.specs.Put.{opaque, Each}
use Rattle.xdr_opaque.proofs.Fields.{From, past, grouped, opaque_found, opaque_bytes}
use Rattle.wire_pairs.specs.Pairs.{Pair, pair, text_in, behind, text_at, next_at, pairs_from, pair_bytes}

-- lengths that a word has room for
abbrev pub PairFits : Pair → Type 0
PairFits p = (length p.name < 2 ^ 32) × (length p.value < 2 ^ 32)

module _ {b : List ℕ} {at : ℕ} (s q : List ℕ) (f : From b at (opaque s ++ q)) (h : length s < 2 ^ 32) where
  text_is : text_at b at ≡ s
  unfolding text_in
  text_is = rw (← opaque_found q s f h) (opaque_bytes q s f h)

  next_is : next_at b at ≡ at + length (opaque s)
  unfolding behind
  next_is = rw (← opaque_found q s f h)

  behind_it : From b (next_at b at) q
  behind_it = rw next_is (past (opaque s) f)

pub pairs_sent : {b : List ℕ} (ps : List Pair) (at : ℕ) (q : List ℕ) → From b at (pair_bytes ps ++ q) → Each PairFits ps → pairs_from b (length ps) at ≡ ps
unfolding pairs_from pair_bytes
pairs_sent [] at q f h = refl
pairs_sent {b} (p ∷ ps) at q f ((n, v), h) =
    let r = opaque p.value ++ pair_bytes ps in
    let f₁ = grouped q (opaque p.name) r f in
    let f₂ = grouped q (opaque p.value) (pair_bytes ps) (behind_it p.name (r ++ q) f₁ n) in
    let f₃ = behind_it p.value (pair_bytes ps ++ q) f₂ v in
    ap₂ ◌∷◌ (ap₂ pair (text_is p.name (r ++ q) f₁ n) (text_is p.value (pair_bytes ps ++ q) f₂ v)) (pairs_sent ps (next_at b (next_at b at)) q f₃ h)
