-- The texts that a scan keeps lie within the body. Assumes nothing.
use Prim.Native.Nat.{ℕ, zero, suc, ◌+◌}
use mathlib.Core.Path.{◌≡◌, refl}
use mathlib.Core.List.{List, [], ◌∷◌}
use native.Mathlib.Omega.{arith}
use lib.ListN.{length, get_or, set, replicate}
use lib.Dec.{eqb, leb}
use borrow.Author.Tests.{leb-true}
use Rattle.codes.specs.Codes.{most_port, digest_length}
use Rattle.xdr.specs.Xdr as xdr
use Rattle.xdr.proofs.Tests.{by_test}
use Rattle.std.specs.Prelude.{Option, Some, None}
use Rattle.xdr_opaque.specs.Opaque.{opaque_at}
use Rattle.xdr_opaque.specs.declared.Opaque.{Opaque}
use Rattle.xdr_opaque.proofs.Laws.{opaque_within}
use Rattle.wire_layouts.specs.Layout.{place, Part, word, hyper, text, port, digest, Field, one, many, lists, tag, Item, four, eight, bytes, fixed, Value, value, Piece, piece, short, piece_of, part_at}
use Rattle.wire_layouts.specs.Layout.{Got, got, cut, parts_at, times_at, FieldGot, field_got, stop, bad, single, counted, list_at, element_at, field_at, Read, whole, before, broken, and_value, and_read, read_fields}
use Rattle.wire_layouts.specs.Scans.{empty_scan, put, puts, summed, scanned}
use Rattle.wire_layouts.specs.Texts.{Within}
use Rattle.wire_layouts.specs.declared.Text.{Text}
use Rattle.wire_layouts.specs.declared.Scan.{Scan}

-- of a list of which each element has a property, and a value that has it, what is set has it
set_has : {A : Type 0} (P : A → Type 0) (d x : A) → P x → (l : List A) → ((j : ℕ) → P (get_or l j d)) → (i j : ℕ) → P (get_or (set l i x) j d)
set_has P d x p [] h i j = h j
set_has P d x p (y ∷ ys) h zero zero = p
set_has P d x p (y ∷ ys) h zero (suc j) = h (suc j)
set_has P d x p (y ∷ ys) h (suc i) zero = h zero
set_has P d x p (y ∷ ys) h (suc i) (suc j) = set_has P d x p ys (λ a. h (suc a)) i j

replicate_has : {A : Type 0} (P : A → Type 0) (d : A) → P d → (n i : ℕ) → P (get_or (replicate n d) i d)
replicate_has P d p zero i = p
replicate_has P d p (suc n) zero = p
replicate_has P d p (suc n) (suc i) = replicate_has P d p n i

-- each text of a scan lies within the body
abbrev pub TextsIn : List ℕ → Scan → Type 0
TextsIn b k = (i : ℕ) → Within b (get_or k.texts i (place 0 0))

module _ (b : List ℕ) where
  ItemIn : Item Text → Type 0
  ItemIn (four v) = Unit
  ItemIn (eight v) = Unit
  ItemIn (bytes t) = Within b t
  ItemIn (fixed t) = Within b t

  AllIn : List (Value Text) → Type 0
  AllIn [] = Unit
  AllIn (v ∷ vs) = ItemIn v.first × AllIn vs

  PieceIn : Piece → Type 0
  PieceIn (piece i x) = ItemIn i
  PieceIn short = Unit

  GivenIn : FieldGot → Type 0
  GivenIn (field_got i is x) = ItemIn i
  GivenIn (stop v) = Unit
  GivenIn bad = Unit

  ReadIn : Read → Type 0
  ReadIn (whole vs) = AllIn vs
  ReadIn (before vs) = AllIn vs
  ReadIn broken = Unit

  put_in : (i : ℕ) (x : Item Text) (k : Scan) → ItemIn x → TextsIn b k → TextsIn b (put i x k)
  unfolding put ItemIn
  put_in i (four v) k h t = t
  put_in i (eight v) k h t = t
  put_in i (bytes x) k h t = set_has (Within b) (place 0 0) x h k.texts t i
  put_in i (fixed x) k h t = set_has (Within b) (place 0 0) x h k.texts t i

  puts_in : (i : ℕ) (vs : List (Value Text)) (k : Scan) → AllIn vs → TextsIn b k → TextsIn b (puts i vs k)
  unfolding puts AllIn
  puts_in i [] k h t = t
  puts_in i (v ∷ vs) k h t = puts_in (suc i) vs (put i v.first k) h.1 (put_in i v.first k h.0 t)

  found_in : (at : ℕ) (r : Option Opaque) → r ≡ opaque_at b at → PieceIn (piece_of r)
  unfolding PieceIn ItemIn piece_of
  found_in at (Some o) e = let w = opaque_within b at o e in omega arith
  found_in at None e = tt

  part_in : (p : Part) (at : ℕ) → PieceIn (part_at p b at)
  unfolding PieceIn ItemIn part_at
  part_in word at = by_test PieceIn (leb (at + 4) (length b)) _ _ (λ e. tt) (λ e. tt)
  part_in hyper at = by_test PieceIn (leb (at + 8) (length b)) _ _ (λ e. tt) (λ e. tt)
  part_in text at = found_in at (opaque_at b at) refl
  part_in port at = by_test PieceIn (leb (at + 4) (length b)) _ _ (λ e. by_test PieceIn (leb (xdr.word b at) most_port) _ _ (λ k. tt) (λ k. tt)) (λ e. tt)
  part_in digest at = by_test PieceIn (leb (at + digest_length) (length b)) _ _ (λ e. leb-true _ _ e) (λ e. tt)

  single_in : (r : Piece) → PieceIn r → GivenIn (single r)
  unfolding PieceIn GivenIn single
  single_in (piece i x) h = h
  single_in short h = tt

  counted_in : (n : ℕ) (g : Got) → GivenIn (counted n g)
  unfolding GivenIn ItemIn counted
  counted_in n (got is x) = tt
  counted_in n cut = tt

  list_in : (most : ℕ) (element : ℕ → Got) (at : ℕ) → GivenIn (list_at most element b at)
  unfolding GivenIn
  list_in most element at =
      by_test GivenIn (leb (at + 4) (length b)) _ _ (λ e. by_test GivenIn (leb (xdr.word b at) most) _ _
      (λ k. counted_in (xdr.word b at) (times_at element (xdr.word b at) (at + 4))) (λ k. tt)) (λ e. tt)

  field_in : (f : Field) (at : ℕ) → GivenIn (field_at f b at)
  unfolding GivenIn ItemIn field_at
  field_in (one p) at = single_in (part_at p b at) (part_in p at)
  field_in (many most ps) at = list_in most (parts_at ps b) at
  field_in (lists most ps inner qs) at = list_in most (element_at ps inner qs b) at
  field_in (tag k) at = by_test GivenIn (leb (at + 4) (length b)) _ _ (λ e. by_test GivenIn (eqb (xdr.word b at) k) _ _ (λ i. tt) (λ i. tt)) (λ e. tt)

  first_in : (v : Value Text) (r : Read) → ItemIn v.first → ReadIn r → ReadIn (and_value v r)
  unfolding ReadIn AllIn and_value
  first_in v (whole vs) h k = (h, k)
  first_in v (before vs) h k = (h, k)
  first_in v broken h k = tt

  and_read_in : (g : FieldGot) (f : ℕ → Read) → GivenIn g → ((x : ℕ) → ReadIn (f x)) → ReadIn (and_read g f)
  unfolding GivenIn ReadIn AllIn ItemIn and_read
  and_read_in (field_got i is x) f h k = first_in (value i is) (f x) h (k x)
  and_read_in (stop v) f h k = (tt, tt)
  and_read_in bad f h k = tt

  read_in : (fs : List Field) (at : ℕ) → ReadIn (read_fields fs b at)
  unfolding ReadIn AllIn read_fields
  read_in [] at = by_test ReadIn (eqb at (length b)) _ _ (λ e. tt) (λ e. tt)
  read_in (f ∷ fs) at = and_read_in (field_at f b at) (read_fields fs b) (field_in f at) (read_in fs)

  KeptIn : Option Scan → Type 0
  KeptIn (Some k) = TextsIn b k
  KeptIn None = Unit

  summed_in : (r : Read) → ReadIn r → KeptIn (summed 0 empty_scan r)
  unfolding ReadIn KeptIn summed
  summed_in (whole vs) h = puts_in 0 vs empty_scan h (replicate_has (Within b) (place 0 0) (omega arith) 5)
  summed_in (before vs) h = puts_in 0 vs empty_scan h (replicate_has (Within b) (place 0 0) (omega arith) 5)
  summed_in broken h = tt

  kept_some : (o : Option Scan) (k : Scan) → o ≡ Some k → KeptIn o → TextsIn b k
  unfolding KeptIn
  kept_some o k e h = rw e at h

pub texts_in : (fs : List Field) (b : List ℕ) (k : Scan) → scanned fs b ≡ Some k → TextsIn b k
unfolding scanned
texts_in fs b k e = kept_some b (summed 0 empty_scan (read_fields fs b 0)) k e (summed_in b (read_fields fs b 0) (read_in b fs 0))

-- what was read to its end was kept
pub whole_kept : (fs : List Field) (b : List ℕ) (vs : List (Value Text)) → read_fields fs b 0 ≡ whole vs → scanned fs b ≡ Some (puts 0 vs empty_scan)
unfolding scanned summed
whole_kept fs b vs e = rw e

pub broken_kept : (fs : List Field) (b : List ℕ) → read_fields fs b 0 ≡ broken → scanned fs b ≡ None
unfolding scanned summed
broken_kept fs b e = rw e
