-- The error word of what is sent is the reply's number; what else a refusal's body has. Assumes nothing.
use Prim.Native.Nat.{ℕ, zero, suc, ◌+◌, ◌-◌, ◌*◌, ◌^◌, ◌<◌}
use mathlib.Core.Path.{◌≡◌, refl, sym, ap, ◌∙◌}
use mathlib.Core.List.{List, [], ◌∷◌, ◌++◌, append_assoc, append-nil}
use native.Mathlib.Omega.{arith}
use lib.ListN.{length, drop, get_or, replicate, length-append, length-replicate}
use lib.Seq.{drop_at, drop-drop, drop-append-add, get_or-append-add}
use lib.Dec.{eqb}
use borrow.Author.Tests.{eq-eqb, eqb-true}
use Rattle.xdr.specs.Choose.{choose}
use Rattle.xdr.specs.Xdr.{word, be32, be32s}
use Rattle.xdr.proofs.Laws.{length_be32, length_be32s, be32s_append, be32s_zeros, word_be32, word_drop}
use Rattle.xdr.proofs.Tests.{by_test}
use Rattle.xdr_opaque.specs.Put.{opaque}
use Rattle.wire_frame.specs.Frame.{record_bytes}
use Rattle.wire_frame.specs.Messages.{look, row_of}
use Rattle.wire_replies.specs.declared.Reply.{Reply}
use Rattle.wire_replies.specs.declared.Reply.TheVariants.{Header, Refused, Plain, Listening, ListeningTcp, ConnectionTypes, Challenge, ServerInfo, ScsiState, Cdb}
use Rattle.wire_replies.specs.declared.Reply.TheVariants.{Sense, Check, Elements, TapeState, Mtio, Wrote, Read, DataState, Environment, MoverState}
use Rattle.wire_replies.specs.Replies.{body_bytes, opaques, shape_of, number_of, header_error, reply_bytes}
use Rattle.wire_replies.specs.Writers.{header_words}
use Rattle.wire_replies.specs.Numbers.{place_of, number_in, body_in, bare, NumbersTold}

-- the i-th of words that are written one after another
word_at : (ws q : List ℕ) (i : ℕ) → i < length ws → get_or ws i 0 < 2 ^ 32 → word (be32s ws ++ q) (4 * i) ≡ get_or ws i 0
unfolding be32s
word_at [] q i h n = absurd (omega arith)
word_at (w ∷ ws) q zero h n = ap (λ (l : List ℕ). word l 0) (append_assoc (be32 w) (be32s ws) q) ∙ word_be32 w (be32s ws ++ q) n
word_at (w ∷ ws) q (suc i) h n =
    let e : 4 * suc i ≡ length (be32 w) + 4 * i = (let z = length_be32 w in omega arith) in
    let l : List ℕ = be32 w ++ (be32s ws ++ q) in
    ap (λ (k : ℕ). word ((be32 w ++ be32s ws) ++ q) k) e
    ∙ ap (λ (l : List ℕ). word l (length (be32 w) + 4 * i)) (append_assoc (be32 w) (be32s ws) q)
    ∙ word_drop l (length (be32 w) + 4 * i)
    ∙ ap (λ (l : List ℕ). word l 0) (drop-append-add (be32 w) (be32s ws ++ q) (4 * i))
    ∙ sym (word_drop (be32s ws ++ q) (4 * i))
    ∙ word_at ws q i (omega arith) n

module _ (s t m c e : ℕ) (body : List ℕ) where
  abbrev header : List ℕ
  header = header_words (length body) s t 1 m c e

  pub body_sent : body_in (record_bytes s t 1 m c e body) ≡ body
  unfolding record_bytes
  body_sent = drop_at (be32s header) body 28 (length_be32s header)

  error_sent : e < 2 ^ 32 → word (record_bytes s t 1 m c e body) 24 ≡ e
  unfolding record_bytes
  error_sent h = word_at header body 6 (omega arith) h

  word_sent : (k : ℕ) → word (record_bytes s t 1 m c e body) (28 + k) ≡ word body k
  word_sent k =
      let l : List ℕ = record_bytes s t 1 m c e body in
      word_drop l (28 + k) ∙ ap (λ (x : List ℕ). word x 0) (sym (drop-drop k 28 l))
      ∙ sym (word_drop (drop 28 l) k) ∙ ap (λ (x : List ℕ). word x k) body_sent

-- ---- where the number stands in a body's words
pub record Numbered (r : Reply) (image : List ℕ) : Type 0 where
  pub there : place_of r < length (shape_of r image).words
  pub is : get_or (shape_of r image).words (place_of r) 0 ≡ number_of r

refused_there : (b e a : ℕ) → b < length (replicate b 0 ++ (e ∷ replicate a 0))
refused_there b e a = rw (length-append, length-replicate) (omega arith)

refused_is : (b e a : ℕ) → get_or (replicate b 0 ++ (e ∷ replicate a 0)) b 0 ≡ e
refused_is b e a =
    let z : b ≡ length {A = ℕ} (replicate b 0) + 0 = rw length-replicate (omega arith) in
    ap (λ (k : ℕ). get_or (replicate b 0 ++ (e ∷ replicate a 0)) k 0) z ∙ get_or-append-add (replicate b 0) (e ∷ replicate a 0) 0 0

in_body : {A : Type 0} (r : Reply) (image : List ℕ) → (header_error r ≡ 0 → Numbered r image → A) → ((e : ℕ) → Header e ≡ r → A) → A
unfolding place_of shape_of number_of header_error
in_body (Header e) image f g = g e refl
in_body (Refused b e a) image f g = f refl (record { there = refused_there b e a; is = refused_is b e a })
in_body Plain image f g = f refl (record { there = omega arith; is = refl })
in_body Listening image f g = f refl (record { there = omega arith; is = refl })
in_body ListeningTcp image f g = f refl (record { there = omega arith; is = refl })
in_body ConnectionTypes image f g = f refl (record { there = omega arith; is = refl })
in_body Challenge image f g = f refl (record { there = omega arith; is = refl })
in_body (ServerInfo known) image f g = f refl (record { there = omega arith; is = refl })
in_body ScsiState image f g = f refl (record { there = omega arith; is = refl })
in_body Cdb image f g = f refl (record { there = omega arith; is = refl })
in_body (Sense n key code qualifier) image f g = f refl (record { there = omega arith; is = refl })
in_body (Check key code qualifier) image f g = f refl (record { there = omega arith; is = refl })
in_body Elements image f g = f refl (record { there = omega arith; is = refl })
in_body (TapeState file block) image f g = f refl (record { there = omega arith; is = refl })
in_body (Mtio e residue) image f g = f refl (record { there = omega arith; is = refl })
in_body (Wrote e count) image f g = f refl (record { there = omega arith; is = refl })
in_body (Read e start len) image f g = f refl (record { there = omega arith; is = refl })
in_body (DataState v) image f g = f refl (record { there = omega arith; is = refl })
in_body Environment image f g = f refl (record { there = omega arith; is = refl })
in_body (MoverState v) image f g = f refl (record { there = omega arith; is = refl })

module _ (s t m c : ℕ) (image : List ℕ) where
  abbrev sent : Reply → List ℕ
  sent r = reply_bytes s t m c r image

  told_body : (r : Reply) → number_of r < 2 ^ 32 → header_error r ≡ 0 → Numbered r image → number_in (place_of r) (sent r) ≡ number_of r
  unfolding number_in reply_bytes body_bytes choose
  told_body r h z n =
      let body : List ℕ = body_bytes (shape_of r image) in
      let low : word (record_bytes s t 1 m c (header_error r) body) 24 ≡ 0 = error_sent s t m c (header_error r) body (omega arith) ∙ z in
      let ws : List ℕ = (shape_of r image).words in
      let small : get_or ws (place_of r) 0 < 2 ^ 32 = (let e = n.is in omega arith) in
      rw (eq-eqb _ _ low) (word_sent s t m c (header_error r) body (4 * place_of r) ∙ word_at ws _ (place_of r) n.there small ∙ n.is)

  told_header : (e : ℕ) → e < 2 ^ 32 → number_in 0 (sent (Header e)) ≡ e
  unfolding number_in reply_bytes shape_of header_error body_bytes be32s opaques word
  told_header e h =
      let head : word (record_bytes s t 1 m c e []) 24 ≡ e = error_sent s t m c e [] h in
      by_test (λ (k : ℕ). k ≡ e) (eqb (word (record_bytes s t 1 m c e []) 24) 0) _ _
      (λ z. word_sent s t m c e [] 0 ∙ sym (sym head ∙ eqb-true _ _ z)) (λ _. head)

  told : (r : Reply) → number_of r < 2 ^ 32 → number_in (place_of r) (sent r) ≡ number_of r
  unfolding place_of number_of
  told r h = in_body r image (told_body r h) (λ e z. rw (← z) (told_header e (rw (← z) at h)))

  -- ---- what a body has beside its number
  headed : (e : ℕ) → body_in (sent (Header e)) ≡ []
  unfolding reply_bytes shape_of body_bytes be32s opaques
  headed e = body_sent s t m c _ []

  zeros : (n : ℕ) → be32s (replicate n 0) ≡ replicate (4 * n) 0
  zeros n = sym (be32s_zeros n)

  refused : (b e a : ℕ) → body_in (sent (Refused b e a)) ≡ bare b e a
  unfolding reply_bytes shape_of body_bytes opaques be32s
  refused b e a =
      body_sent s t m c _ _ ∙ append-nil (be32s (replicate b 0 ++ (e ∷ replicate a 0))) ∙ be32s_append (replicate b 0) (e ∷ replicate a 0)
      ∙ rw (zeros b, zeros a)

  wrote : (e : ℕ) → body_in (sent (Wrote e 0)) ≡ bare 0 e 1
  unfolding reply_bytes shape_of body_bytes opaques be32s be32
  wrote e = body_sent s t m c _ _

  read : (e start : ℕ) → body_in (sent (Read e start 0)) ≡ bare 0 e 1
  unfolding reply_bytes shape_of body_bytes opaques opaque be32s be32
  read e start = body_sent s t m c _ _

  spaced : (e residue : ℕ) → body_in (sent (Mtio e residue)) ≡ be32 e ++ be32 residue
  unfolding reply_bytes shape_of body_bytes opaques be32s be32
  spaced e residue = body_sent s t m c _ _

pub numbers_told : NumbersTold
unfolding place_of row_of look choose
numbers_told =
    record {
      told = λ s t m c r image h. told s t m c image r h;
      headed = λ s t m c e image. headed s t m c image e;
      refused = λ s t m c b e a image. refused s t m c image b e a;
      wrote = λ s t m c e image. wrote s t m c image e;
      read = λ s t m c e start image. read s t m c image e start;
      spaced = λ s t m c e residue image. spaced s t m c image e residue;
      in_place = refl;
    }
