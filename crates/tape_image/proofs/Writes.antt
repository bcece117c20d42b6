-- The words of the image after an entry, or bytes of the body, are written. Assumes nothing.
use Prim.Native.Nat.{ℕ, ◌+◌, ◌≤◌, ◌<◌}
use mathlib.Core.List.{List, [], ◌∷◌}
use mathlib.Core.Path.{◌≡◌, ◌∙◌}
use native.Mathlib.Omega.{arith}
use lib.ListN.{length, get_or}
use Rattle.xdr.specs.Xdr.{word, be32s, overlay}
use Rattle.xdr.proofs.Laws.{length_be32s, length_overlay}
use Rattle.xdr.proofs.Places.{word_before, word_after, byte_after, first_back, second_back}
use Rattle.tape_image.specs.Image.{capacity, count, used, entry_at, entry_len, entry_start, body_at, Table, with_entry}

pair_length : (a b : ℕ) → length (be32s (a ∷ b ∷ [])) ≡ 8
pair_length a b = length_be32s (a ∷ b ∷ [])

module _ (l : List ℕ) (p k m : ℕ) (there : Table l (p + 1)) (bytes : k + m < 4294967296) where
  counts : List ℕ
  counts = overlay 8 (be32s ((p + 1) ∷ (k + m) ∷ [])) l

  counts_length : length counts ≡ length l
  unfolding counts
  counts_length = let e = pair_length (p + 1) (k + m) in length_overlay 8 (be32s ((p + 1) ∷ (k + m) ∷ [])) l (omega arith)

  table_at : entry_at l p ≤ length counts
  table_at = let e = counts_length in omega arith

  pub entry_length : length (with_entry l p k m) ≡ length l
  unfolding with_entry counts
  entry_length =
      let e = pair_length m k in
      let f = counts_length in
      length_overlay (entry_at l p) (be32s (m ∷ k ∷ [])) counts (omega arith) ∙ f

  -- a word before the entry
  front : (i : ℕ) → i + 4 ≤ entry_at l p → word (with_entry l p k m) i ≡ word counts i
  unfolding with_entry counts
  front i h = word_before (entry_at l p) (be32s (m ∷ k ∷ [])) counts table_at i h

  -- the first word and the capacity
  head : (i : ℕ) → i + 4 ≤ 8 → word (with_entry l p k m) i ≡ word l i
  unfolding counts
  head i h = front i (omega arith) ∙ word_before 8 (be32s ((p + 1) ∷ (k + m) ∷ [])) l (omega arith) i h

  -- the words of the entries before p
  table : (i : ℕ) → entry_at l 0 ≤ i → i + 4 ≤ entry_at l p → word (with_entry l p k m) i ≡ word l i
  unfolding counts
  table i a h =
      let e = pair_length (p + 1) (k + m) in
      front i h ∙ word_after 8 (be32s ((p + 1) ∷ (k + m) ∷ [])) l (omega arith) i (omega arith)

  pub entry_first : word (with_entry l p k m) 0 ≡ word l 0
  entry_first = head 0 (omega arith)

  pub entry_capacity : capacity (with_entry l p k m) ≡ capacity l
  entry_capacity = head 4 (omega arith)

  pub entry_count : count (with_entry l p k m) ≡ p + 1
  unfolding counts
  entry_count = front 8 (omega arith) ∙ first_back 8 (p + 1) (k + m) l (omega arith) (omega arith)

  pub entry_used : used (with_entry l p k m) ≡ k + m
  unfolding counts
  entry_used = front 12 (omega arith) ∙ second_back 8 (p + 1) (k + m) l (omega arith) (omega arith)

  pub entry_len_lem : entry_len (with_entry l p k m) p ≡ m
  unfolding with_entry counts
  entry_len_lem = first_back (entry_at l p) m k counts table_at (omega arith)

  pub entry_start_lem : entry_start (with_entry l p k m) p ≡ k
  unfolding with_entry counts
  entry_start_lem = second_back (entry_at l p) m k counts table_at (omega arith)

  -- the entries before p
  pub before_len : (i : ℕ) → i < p → entry_len (with_entry l p k m) i ≡ entry_len l i
  before_len i h = table (entry_at l i) (omega arith) (omega arith)

  pub before_start : (i : ℕ) → i < p → entry_start (with_entry l p k m) i ≡ entry_start l i
  before_start i h = table (entry_at l i + 4) (omega arith) (omega arith)

  -- a byte past the entry
  pub entry_byte : (i : ℕ) → entry_at l (p + 1) ≤ i → get_or (with_entry l p k m) i 0 ≡ get_or l i 0
  unfolding with_entry counts
  entry_byte i h =
      let e = pair_length m k in
      let f = pair_length (p + 1) (k + m) in
      byte_after (entry_at l p) (be32s (m ∷ k ∷ [])) counts table_at i (omega arith)
      ∙ byte_after 8 (be32s ((p + 1) ∷ (k + m) ∷ [])) l (omega arith) i (omega arith)

-- bytes that are written to the body leave the four words and the table
module _ (l : List ℕ) (at : ℕ) (b : List ℕ) (after : body_at l ≤ at) (within : at ≤ length l) where
  body_word : (i : ℕ) → i + 4 ≤ body_at l → word (overlay at b l) i ≡ word l i
  body_word i h = word_before at b l within i (omega arith)

  pub body_first : word (overlay at b l) 0 ≡ word l 0
  body_first = body_word 0 (omega arith)

  pub body_capacity : capacity (overlay at b l) ≡ capacity l
  body_capacity = body_word 4 (omega arith)

  pub body_count : count (overlay at b l) ≡ count l
  body_count = body_word 8 (omega arith)

  pub body_used : used (overlay at b l) ≡ used l
  body_used = body_word 12 (omega arith)

  pub body_len_lem : (i : ℕ) → i < capacity l → entry_len (overlay at b l) i ≡ entry_len l i
  body_len_lem i h = body_word (entry_at l i) (omega arith)

  pub body_start : (i : ℕ) → i < capacity l → entry_start (overlay at b l) i ≡ entry_start l i
  body_start i h = body_word (entry_at l i + 4) (omega arith)
