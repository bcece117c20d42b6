-- Bodies and records by the writes that make them. Assumes nothing.
use Prim.Native.Nat.{ℕ, ◌+◌, ◌-◌, ◌*◌, ◌≤◌}
use mathlib.Core.Path.{◌≡◌, sym, ◌∙◌}
use mathlib.Core.List.{List, [], ◌∷◌, ◌++◌}
use native.Mathlib.Omega.{arith}
use native.Mathlib.Nat.{add-zero}
use lib.ListN.{length, take, drop, replicate, length-append, length-replicate}
use lib.Seq.{length-take-le}
use Rattle.xdr.specs.Xdr.{be32s, overlay}
use Rattle.xdr.proofs.Laws.{length_be32s, be32s_append, overlay_none, overlay_front}
use Rattle.xdr_opaque.specs.Put.{Put, opaque}
use Rattle.xdr_opaque.proofs.Laws.{then}
use Rattle.wire_pairs.specs.Pairs.{pair_bytes}
use Rattle.wire_pairs.specs.Store.{environment_of}
use Rattle.wire_frame.specs.Frame.{record_bytes}
use Rattle.wire_replies.specs.declared.Reply.{Reply}
use Rattle.wire_replies.specs.declared.Reply.TheVariants.{Refused}
use Rattle.wire_replies.specs.declared.Reply.TheVariants.{Environment}
use Rattle.wire_replies.specs.Replies.{Body, opaques, body_bytes, words_only, sense, shape_of, header_error, reply_bytes}
use Rattle.wire_replies.specs.Fit.{Sendable}
use Rattle.wire_replies.specs.Writers.{PutUpTo, header_words}
use Rattle.wire_replies.proofs.Laws.{length_sense, opaques_texts, body_small}

-- ---- a body by its writes
pub none : {at : ℕ} {l : List ℕ} → Put at [] l at l
none {at} {l} = record { end = sym (add-zero at); wrote = overlay_none at l }

pub no_words : {at : ℕ} {l : List ℕ} → Put at (be32s []) l at l
unfolding be32s
no_words = none

pub no_texts : {at : ℕ} {l : List ℕ} → Put at (opaques []) l at l
unfolding opaques
no_texts = none

pub text : {at next last : ℕ} {l m m' : List ℕ} (t : List ℕ) (ts : List (List ℕ)) → Put at (opaque t) l next m → Put next (opaques ts) m last m'
    → Put at (opaques (t ∷ ts)) l last m'
unfolding opaques
text t ts p q = then p q

pub whole : {at next past last end : ℕ} {l m m₁ m' m'' : List ℕ} (b : Body) → Put at (be32s b.words) l next m
    → Put next b.raw m past m₁ → Put past (opaques b.texts) m₁ last m' → Put last (be32s b.tail) m' end m''
    → Put at (body_bytes b) l end m''
unfolding body_bytes
whole b p s q r = then p (then s (then q r))

-- words alone
pub only : {at next : ℕ} {l m : List ℕ} (ws : List ℕ) → Put at (be32s ws) l next m
    → Put at (body_bytes (words_only ws)) l next m
only ws p = whole (words_only ws) p none no_texts no_words

-- words that are put one after another
pub more_words : {at next last : ℕ} {l m m' : List ℕ} (a b : List ℕ) → Put at (be32s a) l next m
    → Put next (be32s b) m last m' → Put at (be32s (a ++ b)) l last m'
more_words a b p q = rw (be32s_append a b) (then p q)

pub no_body : {at : ℕ} {l : List ℕ} → Put at (body_bytes (words_only [])) l at l
no_body = only [] no_words

-- a refusal's number and the zero words around it
pub length_zeros : (n : ℕ) → length (be32s (replicate n 0)) ≡ 4 * n
length_zeros n = rw (length_be32s, length-replicate)

pub refused : {at next last end : ℕ} {l m m' m'' : List ℕ} (b e a : ℕ) → Put at (be32s (replicate b 0)) l next m
    → Put next (be32s (e ∷ [])) m last m' → Put last (be32s (replicate a 0)) m' end m''
    → Put at (body_bytes (shape_of (Refused b e a) [])) l end m''
unfolding shape_of
refused b e a p q r =
    only _ (more_words (replicate b 0) (e ∷ replicate a 0) p (more_words (e ∷ []) (replicate a 0) q r))

-- the error 0, a count, and so many pairs
pub counted : {at next last : ℕ} {l m m' : List ℕ} (n : ℕ) (store : List ℕ) → n ≡ length (environment_of store)
    → Put at (be32s (0 ∷ n ∷ [])) l next m → Put next (pair_bytes (environment_of store)) m last m'
    → Put at (body_bytes (shape_of Environment store)) l last m'
unfolding shape_of
counted n store e p q = whole _ (rw e at p) none (rw opaques_texts q) no_words

-- the first bytes of the sense
pub sense_length_lem : (n key code qualifier : ℕ) (l : List ℕ) → l ≡ sense key code qualifier → n ≤ 18 → length (take n l) ≡ n
sense_length_lem n key code qualifier l e h =
    let k : n ≤ length (sense key code qualifier) = omega (arith, length_sense key code qualifier) in
    rw (e, length-take-le n (sense key code qualifier) k)

-- a part of the image, as a slice of it is told
pub part : (start len : ℕ) (l : List ℕ) → take (start + len - start) (drop start l) ≡ take len (drop start l)
part start len l = let e : start + len - start ≡ len = omega arith in rw e

-- ---- a record: the mark and the header, written in front of a body
pub seal : (at next n s t k m e err : ℕ) (b l x y : List ℕ) → Put (at + 28) b l next x → at + 28 ≤ length l → n ≡ length b
    → y ≡ overlay at (be32s (header_words n s t k m e err)) x → Put at (record_bytes s t k m e err b) l next y
unfolding record_bytes
seal at next n s t k m e err b l x y p h f w =
    record {
      end = simp (length-append, length_be32s) (omega (arith, p.end));
      wrote = w ∙ rw (f, p.wrote) (overlay_front at (at + 28) (be32s (header_words (length b) s t k m e err)) b l (rw length_be32s) h);
    }

pub reply_sent : (next n s t m e err : ℕ) (r : Reply) (image l x y : List ℕ) → Put 28 (body_bytes (shape_of r image)) l next x → Sendable r image → 28 ≤ length l
    → n ≡ next - 28 → err ≡ header_error r → y ≡ overlay 0 (be32s (header_words n s t 1 m e err)) x
    → PutUpTo 32804 0 (reply_bytes s t m e r image) l next y
unfolding reply_bytes
reply_sent next n s t m e err r image l x y p c h f g w =
    record {
      put = seal 0 next n s t 1 m e (header_error r) (body_bytes (shape_of r image)) l x y p h (omega (arith, p.end)) (rw (← g) w);
      small = omega (arith, p.end, body_small r image c);
    }

pub notice_sent : (at next s t m : ℕ) (ws l x y : List ℕ) → Put (at + 28) (be32s ws) l next x → at + 40 ≤ length l → length ws ≤ 3
    → y ≡ overlay at (be32s (header_words (4 * length ws) s t 0 m 0 0)) x → PutUpTo (at + 40) at (record_bytes s t 0 m 0 0 (be32s ws)) l next y
notice_sent at next s t m ws l x y p h k w =
    record {
      put = seal at next (4 * length ws) s t 0 m 0 0 (be32s ws) l x y p (omega arith) (omega (arith, length_be32s ws)) w;
      small = omega (arith, p.end, length_be32s ws);
    }
