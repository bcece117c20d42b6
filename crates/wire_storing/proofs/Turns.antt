-- One pair more: its size, its words and its texts. Assumes nothing.
use Prim.Native.Nat.{ℕ, ◌+◌}
use mathlib.Core.List.{List, [], ◌∷◌, ◌++◌, append_assoc}
use mathlib.Core.Path.{◌≡◌, sym, ◌∙◌}
use native.Mathlib.Omega.{arith}
use lib.ListN.{length}
use Rattle.xdr.specs.Xdr.{be32s, overlay}
use Rattle.xdr.proofs.Laws.{then_at, be32s_append}
use Rattle.xdr_opaque.specs.Put.{Put}
use Rattle.xdr_opaque.proofs.Laws.{then}
use Rattle.wire_pairs.specs.Pairs.{Pair, pair}
use Rattle.wire_pairs.specs.Store.{pair_words, pair_texts, text_bytes}
use Rattle.wire_pairs.proofs.Storing.{size_cons, words_cons, texts_cons}

-- what is to be written, with its front written
rest_on : {to next : ℕ} {a w out m : List ℕ} (b : List ℕ) → w ≡ overlay to (a ++ b) out → Put to a out next m → w ≡ overlay next b m
rest_on {to} {next} {a} {w} {out} {m} b e p = e ∙ sym (rw p.wrote (then_at to next a b out (sym p.end)))

module _ {n v : List ℕ} {ps qs : List Pair} (e : ps ≡ pair n v ∷ qs) where
  pub size_next : text_bytes ps ≡ length n + length v + text_bytes qs
  size_next = rw (e, size_cons)

  pub count_next : length ps ≡ 1 + length qs
  count_next = rw e (omega arith)

  pub words_next : {to next : ℕ} (from : ℕ) {w out m : List ℕ} → w ≡ overlay to (be32s (pair_words from ps)) out
      → Put to (be32s (from ∷ length n ∷ (from + length n) ∷ length v ∷ [])) out next m
      → w ≡ overlay next (be32s (pair_words (from + length n + length v) qs)) m
  words_next {to} {next} from {w} {out} {m} f p =
      let ws = from ∷ length n ∷ (from + length n) ∷ length v ∷ [] in
      let r = pair_words (from + length n + length v) qs in
      let d : be32s (pair_words from ps) ≡ be32s ws ++ be32s r = rw (e, words_cons) (be32s_append ws r) in
      rest_on (be32s r) (rw d at f) p

  pub texts_next : {to next last : ℕ} {w out m m' : List ℕ} → w ≡ overlay to (pair_texts ps) out
      → Put to n out next m → Put next v m last m' → w ≡ overlay last (pair_texts qs) m'
  texts_next {to} {next} {last} {w} {out} {m} {m'} f p q =
      let d : pair_texts ps ≡ (n ++ v) ++ pair_texts qs = rw (e, texts_cons) (sym (append_assoc n v (pair_texts qs))) in
      rest_on (pair_texts qs) (rw d at f) (then p q)
