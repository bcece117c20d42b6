-- What is sent is read back. Assumes nothing.
use Prim.{tt}
use Prim.Native.Nat.{ℕ, zero, suc, ◌+◌, ◌*◌, ◌^◌, ◌≤◌, ◌<◌}
use mathlib.Core.Path.{◌≡◌, refl, sym, ap, ◌∙◌, subst}
use mathlib.Core.List.{List, [], ◌∷◌, ◌++◌, append_assoc, append-nil}
use native.Mathlib.Omega.{arith}
use native.Mathlib.Nat.{not-suc-le-zero, add-zero}
use lib.ListN.{length, take, drop, length-append}
use lib.Seq.{drop-append_seam, take_at, drop_at}
use Rattle.codes.specs.Codes.{largest_message}
use Rattle.xdr.specs.Xdr.{be32, be32s, word}
use Rattle.xdr.proofs.Laws.{length_be32, length_be32s, word_be32, word_drop}
use Rattle.xdr_opaque.specs.Put.{opaque}
use Rattle.xdr_opaque.proofs.Laws.{length_opaque}
use Rattle.xdr_opaque.proofs.RoundTrip.{opaque_back}
use Rattle.wire_frame.specs.Frame.{record_bytes}
use Rattle.wire_frame.proofs.Laws.{well, length_record}
use Rattle.wire_replies.specs.declared.Notice.{Notice}
use Rattle.wire_replies.specs.declared.Notice.TheVariants.{DataHalted, Connected, MoverHalted, MoverPaused}
use Rattle.wire_replies.specs.Replies.{Body, opaques, body_bytes, shape_of, header_error, reply_bytes, notice_number, notice_words, notice_bytes}
use Rattle.wire_replies.specs.Writers.{header_words}
use Rattle.wire_replies.specs.RoundTrip.{Words32, Texts32, WordsAt, TextAt, TextsAt, BodyAt, RecordAt, RepliesBack}
use Rattle.wire_replies.proofs.Laws.{body_small, length_body, notice_short}

shift : (p a b q : List ℕ) → p ++ ((a ++ b) ++ q) ≡ (p ++ a) ++ (b ++ q)
shift p a b q = simp append_assoc

-- ---- words and texts, after p and before q
words_at : (p ws q : List ℕ) → Words32 ws → WordsAt (p ++ (be32s ws ++ q)) (length p) ws
unfolding Words32 be32s
words_at p [] q h i k = absurd (not-suc-le-zero k)
words_at p (w ∷ ws) q h zero k =
    ap (λ (n : ℕ). word (p ++ ((be32 w ++ be32s ws) ++ q)) n) (add-zero (length p))
    ∙ word_drop (p ++ ((be32 w ++ be32s ws) ++ q)) (length p)
    ∙ ap (λ (l : List ℕ). word l 0) (drop-append_seam p ((be32 w ++ be32s ws) ++ q) ∙ append_assoc (be32 w) (be32s ws) q)
    ∙ word_be32 w (be32s ws ++ q) h.0
words_at p (w ∷ ws) q h (suc i) k =
    let e : length p + 4 * suc i ≡ length (p ++ be32 w) + 4 * i = simp (length-append, length_be32) (omega arith) in
    ap (λ (n : ℕ). word (p ++ ((be32 w ++ be32s ws) ++ q)) n) e
    ∙ ap (λ (l : List ℕ). word l (length (p ++ be32 w) + 4 * i)) (shift p (be32 w) (be32s ws) q)
    ∙ words_at (p ++ be32 w) ws q h.1 i (omega arith)

texts_at : (p : List ℕ) (ts : List (List ℕ)) (tail : List ℕ) → Texts32 ts → Words32 tail → TextsAt (p ++ (opaques ts ++ be32s tail)) (length p) ts tail
unfolding Texts32 opaques TextsAt
texts_at p [] tail h k = λ i j. ap (λ (l : List ℕ). word (p ++ l) (length p + 4 * i)) (sym (append-nil (be32s tail))) ∙ words_at p tail [] k i j
texts_at p (t ∷ ts) tail h k =
    let q : List ℕ = opaques ts ++ be32s tail in
    let o = opaque_back p t q h.0 in
    let f : TextAt (p ++ (opaque t ++ q)) (length p) t (length p + length (opaque t)) = record { found = o.found; bytes = o.bytes } in
    let r : TextsAt ((p ++ opaque t) ++ q) (length (p ++ opaque t)) ts tail = texts_at (p ++ opaque t) ts tail h.1 k in
    let s : TextsAt ((p ++ opaque t) ++ q) (length p + length (opaque t)) ts tail =
    subst (λ (n : ℕ). TextsAt ((p ++ opaque t) ++ q) n ts tail) (length-append p (opaque t)) r in
    (rw (append_assoc (opaque t) (opaques ts) (be32s tail)) f, subst (λ (l : List ℕ). TextsAt l (length p + length (opaque t)) ts tail) (sym (shift p (opaque t) (opaques ts) (be32s tail))) s)

body_at : (b : Body) → Words32 b.words → Texts32 b.texts → Words32 b.tail → BodyAt (body_bytes b) b
unfolding body_bytes
body_at b h j k =
    let front : List ℕ = be32s b.words ++ b.raw in
    let e : length front ≡ 4 * length b.words + length b.raw = simp (length-append, length_be32s) in
    record {
      words = λ i n. words_at [] b.words (b.raw ++ (opaques b.texts ++ be32s b.tail)) h i n;
      raw = rw (drop_at (be32s b.words) _ _ (length_be32s b.words)) (take_at b.raw _ _ refl);
      rest = rw (← e, ← append_assoc (be32s b.words) b.raw _) (texts_at front b.texts b.tail j k);
    }

-- ---- a record
record_at : (s t k m e err : ℕ) (body : List ℕ) → Words32 (s ∷ t ∷ k ∷ m ∷ e ∷ err ∷ []) → 24 + length body ≤ largest_message
    → RecordAt (record_bytes s t k m e err body) s t k m e err body
unfolding record_bytes Words32
record_at s t k m e err body h n =
    let header : List ℕ = header_words (length body) s t k m e err in
    let w : WordsAt (be32s header ++ body) 0 header = words_at [] header body (omega arith, h) in
    let mark : word (be32s header ++ body) 0 ≡ 0x8000_0000 + (24 + length body) = w 0 (omega arith) in
    let size : length (be32s header ++ body) ≡ 28 + length body = length_record s t k m e err body in
    record {
      framed = sym (well _ (record { long = omega arith; low = omega arith; high = omega arith; size = omega arith }));
      sequence_back = w 1 (omega arith);
      time_back = w 2 (omega arith);
      kind_back = w 3 (omega arith);
      message_back = w 4 (omega arith);
      echo_back = w 5 (omega arith);
      error_back = w 6 (omega arith);
      body_back = drop_at (be32s header) body 28 (length_be32s header);
    }

-- ---- replies and notices
number_fits : (n : Notice) → notice_number n < 2 ^ 32
unfolding notice_number
number_fits (DataHalted reason) = omega arith
number_fits Connected = omega arith
number_fits (MoverHalted reason) = omega arith
number_fits (MoverPaused reason seek) = omega arith

-- a text is not longer than the body that holds it
texts_fit : (ts : List (List ℕ)) → length (opaques ts) < 2 ^ 32 → Texts32 ts
unfolding Texts32 opaques
texts_fit [] h = tt
texts_fit (t ∷ ts) h =
    let n : length (opaque t) + length (opaques ts) < 2 ^ 32 = rw (length-append (opaque t) (opaques ts)) at h in
    (omega (arith, length_opaque t), texts_fit ts (omega arith))

notice_words_lem : (s t : ℕ) (n : Notice) → Words32 (s ∷ t ∷ []) → Words32 (s ∷ t ∷ 0 ∷ notice_number n ∷ 0 ∷ 0 ∷ [])
unfolding Words32
notice_words_lem s t n h = (h.0, (h.1.0, (omega arith, (number_fits n, (omega arith, (omega arith, tt))))))

pub back : RepliesBack
unfolding reply_bytes notice_bytes
back =
    record {
      bodies = body_at;
      records = record_at;
      replies =
          λ s t m e r image c h j k.
          let n = body_small r image c in (
            record_at s t 1 m e (header_error r) (body_bytes (shape_of r image)) h (omega arith),
            body_at (shape_of r image) j (texts_fit _ (omega (arith, length_body (shape_of r image)))) k,
          );
      notices =
          λ s t n h j. (
            record_at s t 0 (notice_number n) 0 0 (be32s (notice_words n)) (notice_words_lem s t n h)
                (omega (arith, length_be32s (notice_words n), notice_short n)),
            λ i l. ap (λ (b : List ℕ). word b (0 + 4 * i)) (sym (append-nil (be32s (notice_words n)))) ∙ words_at [] (notice_words n) [] j i l,
          );
    }
