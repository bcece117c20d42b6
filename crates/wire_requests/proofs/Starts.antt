-- The pairs of a start request: a list's pairs stand behind its count, and a backup's list behind its method, which is the first field, so that
-- its place is known. Assumes nothing.
use Prim.Native.Nat.{ℕ, ◌+◌, ◌^◌, ◌<◌}
use mathlib.Core.Path.{◌≡◌, refl, sym, ◌∙◌}
use mathlib.Core.List.{List, [], ◌∷◌, ◌++◌, flat_map, append_assoc}
use native.Mathlib.Omega.{arith}
use lib.ListN.{length}
use Rattle.xdr.specs.Xdr.{be32}
use Rattle.xdr.proofs.Laws.{length_be32}
use Rattle.xdr_opaque.specs.Opaque.{filled}
use Rattle.xdr_opaque.specs.Put.{opaque, Each}
use Rattle.xdr_opaque.proofs.Laws.{length_opaque_filled}
use Rattle.xdr_opaque.proofs.Fields.{From, past, grouped, opaque_found}
use Rattle.wire_pairs.specs.Pairs.{Pair, pairs_from, pair_bytes}
use Rattle.wire_pairs.proofs.Sent.{pairs_sent}
use Rattle.wire_layouts.specs.Layout.{Field, one, bytes, Value, value, place, piece_of, part_at, single, field_at, Read, whole, before, broken, and_value, and_read, read_fields}
use Rattle.wire_layouts.specs.declared.Part.TheVariants.{Text as text}
use Rattle.wire_layouts.specs.declared.Text.{Text}
use Rattle.wire_requests.specs.Sent.{pval_bytes, PvalFits, pvals, arg_bytes}

-- ---- pairs, as they were sent
as_pairs : (ps : List Pair) → flat_map pval_bytes ps ≡ pair_bytes ps
unfolding flat_map pair_bytes
as_pairs [] = refl
as_pairs (p ∷ ps) = rw (append_assoc, as_pairs ps)

pub listed_back : {b : List ℕ} {at : ℕ} (ps : List Pair) (q : List ℕ) → From b at (arg_bytes (pvals ps) ++ q) → Each PvalFits ps
    → pairs_from b (length ps) (at + 4) ≡ ps
listed_back {b} {at} ps q f h =
    let g = past (be32 (length ps)) (grouped q (be32 (length ps)) (flat_map pval_bytes ps) f) in
    pairs_sent ps (at + 4) q (rw (length_be32, as_pairs ps) at g) h

-- behind a text that is the first field
pub behind_text_lem : {b : List ℕ} (s q : List ℕ) → From b 0 (opaque s ++ q) → From b (4 + filled (length s)) q
behind_text_lem s q f =
    let e : 0 + length (opaque s) ≡ 4 + filled (length s) = omega (arith, length_opaque_filled s) in
    rw e at (past (opaque s) f)

-- ---- the place of a text that is the first field
pub record After (v : Value Text) (ws : List (Value Text)) : Type 0 where
  pub others : List (Value Text)
  pub same : ws ≡ v ∷ others

and_whole : (v : Value Text) (r : Read) (ws : List (Value Text)) → and_value v r ≡ whole ws → After v ws
unfolding and_value
and_whole v (whole us) ws e = record { others = us; same = cc }
and_whole v (before us) ws e = let z : ◌≡◌ {A = ℕ} 0 1 = cc in absurd (omega arith)
and_whole v broken ws e = let z : ◌≡◌ {A = ℕ} 0 1 = cc in absurd (omega arith)

pub first_text : {b : List ℕ} (s q : List ℕ) (fs : List Field) (ws : List (Value Text)) → From b 0 (opaque s ++ q) → length s < 2 ^ 32
    → read_fields (one text ∷ fs) b 0 ≡ whole ws → After (value (bytes (place 4 (length s))) []) ws
unfolding read_fields field_at and_read single part_at piece_of
first_text {b} s q fs ws f h e =
    let d : read_fields (one text ∷ fs) b 0 ≡ and_value (value (bytes (place 4 (length s))) []) (read_fields fs b (0 + length (opaque s))) = rw (← opaque_found q s f h) in
    and_whole _ _ ws (sym d ∙ e)
