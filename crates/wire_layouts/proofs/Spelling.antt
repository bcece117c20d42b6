-- A body that decodes to its end is what its fields are written as, so that it has no second spelling. Assumes nothing.
use Prim.Native.Nat.{ℕ, zero, suc, ◌+◌, ◌-◌, ◌*◌, ◌/◌, ◌%◌, ◌^◌, ◌≤◌, ◌<◌}
use mathlib.Core.Path.{◌≡◌, refl, sym, ap, ◌∙◌}
use mathlib.Core.List.{List, [], ◌∷◌, ◌++◌, map, flat_map, append_assoc, append-nil}
use native.Mathlib.Omega.{arith}
use lib.ListN.{length, take, drop, get_or, replicate, length-drop, take-append-drop, drop_of_length-le}
use lib.Seq.{drop-cons, drop-drop, length-take-le}
use lib.Dec.{eqb, leb}
use borrow.Author.Tests.{leb-true, eqb-true}
use Rattle.codes.specs.Codes.{most_port, digest_length}
use Rattle.xdr.specs.Xdr as xdr
use Rattle.xdr.proofs.Tests.{by_test}
use Rattle.std.specs.Prelude.{Option, Some, None}
use Rattle.xdr_opaque.specs.Opaque.{opaque_at, between}
use Rattle.xdr_opaque.specs.Put.{opaque, fill}
use Rattle.xdr_opaque.specs.declared.Opaque.{Opaque}
use Rattle.xdr_opaque.proofs.Laws.{Found, opaque_read, zero_is, filled_fill}
use Rattle.wire_layouts.specs.Layout.{Part, word, hyper, text, port, digest, Field, one, many, lists, tag, Item, value, item_bytes, write_as}
use Rattle.wire_layouts.specs.Layout.{Piece, piece, short, piece_of, part_at, Got, got, cut, prepend, and_part, and_got, parts_at, times_at, FieldGot, field_got, stop, bad}
use Rattle.wire_layouts.specs.Layout.{single, counted, list_at, items_of, element_at, field_at, Read, whole, before, broken, and_value, and_read, read_fields}
use Rattle.wire_layouts.specs.Laws.{Bytes, content, contents, Spelled, FieldsOneSpelling}
use Rattle.wire_layouts.specs.declared.Text.{Text}

-- ---- a word, a hyper and opaque data are what they are written as
module _ (a b c d : ℕ) (ha : a < 256) (hb : b < 256) (hc : c < 256) (hd : d < 256) where
  digit_0 : (a * 16777216 + b * 65536 + c * 256 + d) / 16777216 % 256 ≡ a
  digit_0 = omega arith

  digit_1 : (a * 16777216 + b * 65536 + c * 256 + d) / 65536 % 256 ≡ b
  digit_1 = omega arith

  digit_2 : (a * 16777216 + b * 65536 + c * 256 + d) / 256 % 256 ≡ c
  digit_2 = omega arith

  digit_3 : (a * 16777216 + b * 65536 + c * 256 + d) % 256 ≡ d
  digit_3 = omega arith

  be32_digits : xdr.be32 (a * 16777216 + b * 65536 + c * 256 + d) ≡ a ∷ b ∷ c ∷ d ∷ []
  unfolding xdr.be32
  be32_digits = rw (digit_0, digit_1, digit_2, digit_3)

split : (n k : ℕ) (l : List ℕ) → drop n l ≡ take k (drop n l) ++ drop (n + k) l
split n k l = rw (← drop-drop k n l) (sym (take-append-drop k (drop n l)))

four_drop : (l : List ℕ) (at : ℕ) → at + 4 ≤ length l → drop at l ≡ get_or l at 0 ∷ get_or l (at + 1) 0 ∷ get_or l (at + 2) 0 ∷ get_or l (at + 3) 0 ∷ drop (at + 4) l
four_drop l at h =
    let e₁ : at + 1 ≡ suc at = omega arith in
    let e₂ : at + 2 ≡ suc (suc at) = omega arith in
    let e₃ : at + 3 ≡ suc (suc (suc at)) = omega arith in
    let e₄ : at + 4 ≡ suc (suc (suc (suc at))) = omega arith in
    rw (e₁, e₂, e₃, e₄, drop-cons l at 0 (omega arith), drop-cons l (suc at) 0 (omega arith), drop-cons l (suc (suc at)) 0 (omega arith), drop-cons l (suc (suc (suc at))) 0 (omega arith))

module _ (l : List ℕ) (h : Bytes l) (at : ℕ) where
  word_small : xdr.word l at < 2 ^ 32
  unfolding xdr.word
  word_small = omega (arith, h at, h (at + 1), h (at + 2), h (at + 3))

  word_spelled : at + 4 ≤ length l → drop at l ≡ xdr.be32 (xdr.word l at) ++ drop (at + 4) l
  unfolding xdr.word
  word_spelled k = rw (be32_digits _ _ _ _ (h at) (h (at + 1)) (h (at + 2)) (h (at + 3))) (four_drop l at k)

hyper_spelled : (l : List ℕ) → Bytes l → (at : ℕ) → at + 8 ≤ length l → drop at l ≡ xdr.be64 (xdr.hyper l at) ++ drop (at + 8) l
unfolding xdr.hyper xdr.be64
hyper_spelled l h at k =
    let s = word_small l h (at + 4) in
    let e₁ : (xdr.word l at * 4294967296 + xdr.word l (at + 4)) / 4294967296 ≡ xdr.word l at = omega arith in
    let e₂ : (xdr.word l at * 4294967296 + xdr.word l (at + 4)) % 4294967296 ≡ xdr.word l (at + 4) = omega arith in
    let f : at + 4 + 4 ≡ at + 8 = omega arith in
    let k₁ : at + 4 ≤ length l = omega arith in
    let k₂ : at + 4 + 4 ≤ length l = omega arith in
    rw (e₁, e₂, append_assoc, ← f, ← word_spelled l h (at + 4) k₂) (word_spelled l h at k₁)

text_spelled : (l : List ℕ) → Bytes l → (at : ℕ) (o : Opaque) → Found l at o → drop at l ≡ opaque (take o.len (drop o.start l)) ++ drop o.next l
unfolding opaque
text_spelled l h at o w =
    let g = filled_fill o.len in
    let k : at + 4 ≤ length l = omega (arith, w.start, w.len, w.next, w.within) in
    let m : length (take o.len (drop o.start l)) ≡ o.len = length-take-le o.len (drop o.start l) (simp length-drop (omega (arith, w.start, w.next, w.within))) in
    let e : o.next - (o.start + o.len) ≡ fill o.len = omega (arith, w.start, w.next) in
    let i : length (between (o.start + o.len) o.next l) ≡ fill o.len = length-take-le (o.next - (o.start + o.len)) (drop (o.start + o.len) l) (simp length-drop (omega (arith, w.start, w.next, w.within))) ∙ e in
    let z : between (o.start + o.len) o.next l ≡ replicate (fill o.len) 0 = zero_is (between (o.start + o.len) o.next l) w.zero ∙ ap (λ (j : ℕ). replicate j 0) i in
    let y : o.start + o.len + (o.next - (o.start + o.len)) ≡ o.next = omega (arith, w.start, w.next) in
    let p₁ : drop at l ≡ xdr.be32 o.len ++ drop o.start l = rw (w.len, w.start) (word_spelled l h at k) in
    let p₂ : drop o.start l ≡ take o.len (drop o.start l) ++ drop (o.start + o.len) l = split o.start o.len l in
    let p₃ : drop (o.start + o.len) l ≡ replicate (fill o.len) 0 ++ drop o.next l = split (o.start + o.len) (o.next - (o.start + o.len)) l ∙ rw (y, z) in
    p₁ ∙ ap (λ (r : List ℕ). xdr.be32 o.len ++ r) (p₂ ∙ ap (λ (r : List ℕ). take o.len (drop o.start l) ++ r) p₃) ∙ sym (rw (m) (simp append_assoc))

-- ---- what a result of the reader says of the body: from `at` on stand the items as they are written, and then what follows
module _ (b : List ℕ) where
  written : List (Item Text) → List ℕ
  written is = flat_map item_bytes (map (content b) is)

  PieceSpelled : ℕ → Piece → Type 0
  PieceSpelled at (piece i x) = drop at b ≡ item_bytes (content b i) ++ drop x b
  PieceSpelled at short = Unit

  GotSpelled : ℕ → Got → Type 0
  GotSpelled at (got is x) = drop at b ≡ written is ++ drop x b
  GotSpelled at cut = Unit

  GivenSpelled : ℕ → FieldGot → Type 0
  GivenSpelled at (field_got i is x) = drop at b ≡ (item_bytes (content b i) ++ written is) ++ drop x b
  GivenSpelled at (stop v) = Unit
  GivenSpelled at bad = Unit

  ReadSpelled : ℕ → Read → Type 0
  ReadSpelled at (whole vs) = drop at b ≡ write_as (map (contents b) vs)
  ReadSpelled at (before vs) = Unit
  ReadSpelled at broken = Unit

  written_append : (is js : List (Item Text)) → written (is ++ js) ≡ written is ++ written js
  unfolding written flat_map
  written_append [] js = refl
  written_append (i ∷ is) js = ap (λ (r : List ℕ). item_bytes (content b i) ++ r) (written_append is js) ∙ sym (append_assoc (item_bytes (content b i)) (written is) (written js))

  module _ (h : Bytes b) where
    found_spelled : (at : ℕ) (r : Option Opaque) → r ≡ opaque_at b at → PieceSpelled at (piece_of r)
    unfolding PieceSpelled piece_of
    found_spelled at (Some o) e = text_spelled b h at o (opaque_read b at o e)
    found_spelled at None e = tt

    part_spelled : (p : Part) (at : ℕ) → PieceSpelled at (part_at p b at)
    unfolding PieceSpelled part_at
    part_spelled word at = by_test (PieceSpelled at) (leb (at + 4) (length b)) _ _ (λ e. word_spelled b h at (leb-true _ _ e)) (λ e. tt)
    part_spelled hyper at = by_test (PieceSpelled at) (leb (at + 8) (length b)) _ _ (λ e. hyper_spelled b h at (leb-true _ _ e)) (λ e. tt)
    part_spelled text at = found_spelled at (opaque_at b at) refl
    part_spelled port at =
        by_test (PieceSpelled at) (leb (at + 4) (length b)) _ _
        (λ e. by_test (PieceSpelled at) (leb (xdr.word b at) most_port) _ _ (λ _. word_spelled b h at (leb-true _ _ e)) (λ _. tt))
        (λ e. tt)
    part_spelled digest at = by_test (PieceSpelled at) (leb (at + digest_length) (length b)) _ _ (λ e. split at digest_length b) (λ e. tt)

  prepend_spelled : (at mid : ℕ) (is : List (Item Text)) (g : Got) → drop at b ≡ written is ++ drop mid b → GotSpelled mid g → GotSpelled at (prepend is g)
  unfolding GotSpelled prepend
  prepend_spelled at mid is (got js x) e k = e ∙ rw (k, written_append is js) (sym (append_assoc (written is) (written js) (drop x b)))
  prepend_spelled at mid is cut e k = tt

  and_part_spelled : (at : ℕ) (r : Piece) (f : ℕ → Got) → PieceSpelled at r → ((x : ℕ) → GotSpelled x (f x)) → GotSpelled at (and_part r f)
  unfolding PieceSpelled GotSpelled and_part written flat_map
  and_part_spelled at (piece i x) f e k = prepend_spelled at x (i ∷ []) (f x) (rw append-nil e) (k x)
  and_part_spelled at short f e k = tt

  and_got_spelled : (at : ℕ) (g : Got) (f : ℕ → Got) → GotSpelled at g → ((x : ℕ) → GotSpelled x (f x)) → GotSpelled at (and_got g f)
  unfolding GotSpelled and_got
  and_got_spelled at (got is x) f e k = prepend_spelled at x is (f x) e (k x)
  and_got_spelled at cut f e k = tt

  single_spelled : (at : ℕ) (r : Piece) → PieceSpelled at r → GivenSpelled at (single r)
  unfolding PieceSpelled GivenSpelled single written flat_map
  single_spelled at (piece i x) e = rw append-nil e
  single_spelled at short e = tt

  counted_spelled : (at n : ℕ) (g : Got) → drop at b ≡ xdr.be32 n ++ drop (at + 4) b → GotSpelled (at + 4) g → GivenSpelled at (counted n g)
  unfolding GotSpelled GivenSpelled counted
  counted_spelled at n (got is x) e k = e ∙ rw k (sym (append_assoc (xdr.be32 n) (written is) (drop x b)))
  counted_spelled at n cut e k = tt

  items_spelled : (at : ℕ) (g : FieldGot) → GivenSpelled at g → GotSpelled at (items_of g)
  unfolding GotSpelled GivenSpelled items_of written flat_map
  items_spelled at (field_got i is x) e = e
  items_spelled at (stop v) e = tt
  items_spelled at bad e = tt

  first_spelled : (at mid : ℕ) (i : Item Text) (is : List (Item Text)) (r : Read) → drop at b ≡ (item_bytes (content b i) ++ written is) ++ drop mid b → ReadSpelled mid r
      → ReadSpelled at (and_value (value i is) r)
  unfolding ReadSpelled and_value write_as written flat_map
  first_spelled at mid i is (whole vs) e k = e ∙ rw k
  first_spelled at mid i is (before vs) e k = tt
  first_spelled at mid i is broken e k = tt

  and_read_spelled : (at : ℕ) (g : FieldGot) (f : ℕ → Read) → GivenSpelled at g → ((x : ℕ) → ReadSpelled x (f x)) → ReadSpelled at (and_read g f)
  unfolding GivenSpelled ReadSpelled and_read
  and_read_spelled at (field_got i is x) f e k = first_spelled at x i is (f x) e (k x)
  and_read_spelled at (stop v) f e k = tt
  and_read_spelled at bad f e k = tt

  module _ (h : Bytes b) where
    parts_spelled : (ps : List Part) (at : ℕ) → GotSpelled at (parts_at ps b at)
    unfolding GotSpelled parts_at written flat_map
    parts_spelled [] at = refl
    parts_spelled (p ∷ ps) at = and_part_spelled at (part_at p b at) (parts_at ps b) (part_spelled h p at) (parts_spelled ps)

    -- lists of elements that are spelled wherever they stand
    module _ (element : ℕ → Got) (each : (x : ℕ) → GotSpelled x (element x)) where
      times_spelled : (n at : ℕ) → GotSpelled at (times_at element n at)
      unfolding GotSpelled times_at written flat_map
      times_spelled zero at = refl
      times_spelled (suc n) at = and_got_spelled at (element at) (times_at element n) (each at) (times_spelled n)

      list_spelled : (most at : ℕ) → GivenSpelled at (list_at most element b at)
      unfolding GivenSpelled
      list_spelled most at =
          by_test (GivenSpelled at) (leb (at + 4) (length b)) _ _
          (λ e. by_test (GivenSpelled at) (leb (xdr.word b at) most) _ _
          (λ k. counted_spelled at (xdr.word b at) (times_at element (xdr.word b at) (at + 4)) (word_spelled b h at (leb-true _ _ e)) (times_spelled (xdr.word b at) (at + 4)))
          (λ k. tt))
          (λ e. tt)

    element_spelled : (ps : List Part) (inner : ℕ) (qs : List Part) (at : ℕ) → GotSpelled at (element_at ps inner qs b at)
    unfolding element_at
    element_spelled ps inner qs at =
        and_got_spelled at (parts_at ps b at) (λ (x : ℕ). items_of (list_at inner (parts_at qs b) b x)) (parts_spelled ps at)
        (λ x. items_spelled x (list_at inner (parts_at qs b) b x) (list_spelled (parts_at qs b) (parts_spelled qs) inner x))

    field_spelled : (f : Field) (at : ℕ) → GivenSpelled at (field_at f b at)
    unfolding GivenSpelled field_at written flat_map
    field_spelled (one p) at = single_spelled at (part_at p b at) (part_spelled h p at)
    field_spelled (many most ps) at = list_spelled (parts_at ps b) (parts_spelled ps) most at
    field_spelled (lists most ps inner qs) at = list_spelled (element_at ps inner qs b) (element_spelled ps inner qs) most at
    field_spelled (tag k) at =
        by_test (GivenSpelled at) (leb (at + 4) (length b)) _ _
        (λ e. by_test (GivenSpelled at) (eqb (xdr.word b at) k) _ _ (λ i. rw append-nil (word_spelled b h at (leb-true _ _ e))) (λ i. tt))
        (λ e. tt)

    read_spelled : (fs : List Field) (at : ℕ) → ReadSpelled at (read_fields fs b at)
    unfolding ReadSpelled read_fields write_as flat_map
    read_spelled [] at =
        by_test (ReadSpelled at) (eqb at (length b)) _ _ (λ e. let k : length b ≤ at = omega (arith, eqb-true at (length b) e) in drop_of_length-le b k) (λ e. tt)
    read_spelled (f ∷ fs) at = and_read_spelled at (field_at f b at) (read_fields fs b) (field_spelled f at) (read_spelled fs)

pub spelled : Spelled
unfolding ReadSpelled
spelled fs b ws h e = rw e at (read_spelled b h fs 0)

pub one_spelling : FieldsOneSpelling
one_spelling fs b d ws us h k e f s = spelled fs b ws h e ∙ rw s (sym (spelled fs d us k f))
