-- Opaque data that was written is read back. Assumes nothing.
use Prim.Native.Nat.{ℕ, ◌+◌, ◌-◌, ◌^◌, ◌≤◌, ◌<◌}
use mathlib.Core.Bool.{true}
use mathlib.Core.Path.{◌≡◌, sym}
use mathlib.Core.List.{List, ◌++◌, append_assoc}
use native.Mathlib.Omega.{arith}
use lib.ListN.{length, take, drop, replicate, length-append, length-replicate}
use lib.Seq.{drop-append_seam, drop-append-add, drop_at, take-append_seam, take_at, drop-drop}
use Rattle.std.specs.Prelude.{Some}
use Rattle.xdr.specs.Xdr.{be32, word}
use Rattle.xdr.proofs.Laws.{length_be32, word_be32, word_drop}
use Rattle.xdr_opaque.specs.Opaque.{all_zero, between, filled, opaque_at}
use Rattle.xdr_opaque.specs.Put.{fill, opaque}
use Rattle.xdr_opaque.specs.RoundTrip.{OpaqueRoundTrip}
use Rattle.xdr_opaque.proofs.Laws.{word_there, opaque_whole, length_opaque_filled, filled_fill, zero_replicate}

module _ (p s q : List ℕ) where
  -- what stands after the length word
  tail : List ℕ
  tail = s ++ (replicate (fill (length s)) 0 ++ q)

  parts : opaque s ++ q ≡ be32 (length s) ++ tail
  unfolding opaque tail
  parts = simp append_assoc

  length_back : length s < 2 ^ 32 → length s ≡ word (p ++ (opaque s ++ q)) (length p)
  length_back h = sym (rw (word_drop (p ++ (opaque s ++ q)) (length p), drop-append_seam p (opaque s ++ q), parts) (word_be32 (length s) tail h))

  within : length p + 4 + filled (length s) ≤ length (p ++ (opaque s ++ q))
  within = let e = length_opaque_filled s in simp length-append (omega arith)

  -- what stands from its fill on
  filling : between (length p + 4 + length s) (length p + 4 + filled (length s)) (p ++ (opaque s ++ q)) ≡ replicate (fill (length s)) 0
  unfolding tail
  filling =
      let f = filled_fill (length s) in
      let e : length p + 4 + filled (length s) - (length p + 4 + length s) ≡ fill (length s) = omega arith in
      let g : length p + 4 + length s ≡ length p + (4 + length s) = omega arith in
      rw (
        e,
        g,
        drop-append-add p (opaque s ++ q) (4 + length s),
        parts,
        ← drop-drop (length s) 4 (be32 (length s) ++ tail),
        drop_at (be32 (length s)) tail 4
            (length_be32 (length s)),
        drop-append_seam s (replicate (fill (length s)) 0 ++ q),
      )
      (take_at (replicate (fill (length s)) 0) q (fill (length s)) (length-replicate (fill (length s)) 0))

  zeroes : all_zero (between (length p + 4 + length s) (length p + 4 + filled (length s)) (p ++ (opaque s ++ q))) ≡ true
  zeroes = rw filling (zero_replicate (fill (length s)))

  found : length s < 2 ^ 32 → Some (record { start = length p + 4; len = length s; next = length p + length (opaque s) }) ≡ opaque_at (p ++ (opaque s ++ q)) (length p)
  found h =
      let e : length p + length (opaque s) ≡ length p + 4 + filled (length s) = omega (arith, length_opaque_filled s) in
      let w : length p + 4 ≤ length (p ++ (opaque s ++ q)) = omega (arith, within) in
      let v = word_there (p ++ (opaque s ++ q)) (length p) (length s) w (length_back h) in
      rw e (opaque_whole (p ++ (opaque s ++ q)) (length p) (length s) v within zeroes)

  bytes : take (length s) (drop (length p + 4) (p ++ (opaque s ++ q))) ≡ s
  unfolding tail
  bytes = rw (drop-append-add p (opaque s ++ q) 4, parts, drop_at (be32 (length s)) tail 4 (length_be32 (length s))) (take-append_seam s (replicate (fill (length s)) 0 ++ q))

pub opaque_back : OpaqueRoundTrip
opaque_back p s q h = record { found = found p s q h; bytes = bytes p s q }
