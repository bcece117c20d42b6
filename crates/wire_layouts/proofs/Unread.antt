-- A body whose rest is not read has a tag of another word: by induction over the fields, what a result that is cut short by a tag says. Assumes nothing.
use Prim.Native.Nat.{ℕ, ◌+◌}
use mathlib.Core.Path.{◌≡◌, refl}
use mathlib.Core.List.{List, [], ◌∷◌}
use mathlib.Core.Logic.{◌⊎◌, inl, inr}
use lib.ListN.{length}
use lib.Dec.{eqb, leb}
use borrow.Author.Tests.{eqb-false}
use Rattle.codes.specs.Codes.{most_port, digest_length}
use Rattle.xdr.specs.Xdr as xdr
use Rattle.xdr.proofs.Tests.{by_test}
use Rattle.wire_layouts.specs.Layout.{Part, word, hyper, text, port, digest, Field, one, many, lists, tag, Value, value, Piece, piece, short, part_at, Got, got, cut}
use Rattle.wire_layouts.specs.Layout.{parts_at, times_at, FieldGot, field_got, stop, bad, single, counted, list_at, element_at}
use Rattle.wire_layouts.specs.Layout.{field_at, Read, whole, before, broken, and_value, and_read, read_fields}
use Rattle.wire_layouts.specs.Laws.{HasTag, Stops, UnreadRests}
use Rattle.wire_layouts.specs.declared.Text.{Text}

-- S holds where the rest is not read
Unread : Type 0 → Read → Type 0
Unread S (whole vs) = Unit
Unread S (before vs) = S
Unread S broken = Unit

first_unread : (S : Type 0) (v : Value Text) (r : Read) → Unread S r → Unread S (and_value v r)
unfolding Unread and_value
first_unread S v (whole vs) h = tt
first_unread S v (before vs) h = h
first_unread S v broken h = tt

-- a field behind which is read on, wherever it ends
OnAt : ℕ → FieldGot → Type 0
OnAt x (field_got i is y) = y ≡ x
OnAt x (stop v) = ⊥
OnAt x bad = Unit

On : FieldGot → Type 0
On (field_got i is y) = Unit
On (stop v) = ⊥
On bad = Unit

on_at : (S : Type 0) (x : ℕ) (g : FieldGot) (f : ℕ → Read) → OnAt x g → Unread S (f x) → Unread S (and_read g f)
unfolding OnAt and_read Unread
on_at S x (field_got i is y) f e h = rw e (first_unread S (value i is) (f x) h)
on_at S x (stop v) f e h = absurd e
on_at S x bad f e h = tt

on_anywhere : (S : Type 0) (g : FieldGot) (f : ℕ → Read) → On g → ((x : ℕ) → Unread S (f x)) → Unread S (and_read g f)
unfolding On and_read Unread
on_anywhere S (field_got i is y) f e h = first_unread S (value i is) (f y) (h y)
on_anywhere S (stop v) f e h = absurd e
on_anywhere S bad f e h = tt

right : (A B : Type 0) (r : Read) → Unread B r → Unread (A ⊎ B) r
unfolding Unread
right A B (whole vs) h = tt
right A B (before vs) h = inr h
right A B broken h = tt

any : (r : Read) → Unread Unit r
unfolding Unread
any (whole vs) = tt
any (before vs) = tt
any broken = tt

-- ---- the fields but a tag
single_on : (r : Piece) → On (single r)
unfolding On single
single_on (piece i x) = tt
single_on short = tt

counted_on : (n : ℕ) (g : Got) → On (counted n g)
unfolding On counted
counted_on n (got is x) = tt
counted_on n cut = tt

module _ (b : List ℕ) where
  one_on : (p : Part) (at : ℕ) → On (field_at (one p) b at)
  unfolding field_at
  one_on p at = single_on (part_at p b at)

  list_on : (most : ℕ) (element : ℕ → Got) (at : ℕ) → On (list_at most element b at)
  unfolding On
  list_on most element at =
      by_test On (leb (at + 4) (length b)) _ _
      (λ _. by_test On (leb (xdr.word b at) most) _ _ (λ _. counted_on (xdr.word b at) (times_at element (xdr.word b at) (at + 4))) (λ _. tt))
      (λ _. tt)

  word_on : (at : ℕ) → OnAt (at + 4) (field_at (one word) b at)
  unfolding field_at OnAt part_at single
  word_on at = by_test (λ (r : Piece). OnAt (at + 4) (single r)) (leb (at + 4) (length b)) _ _ (λ _. refl) (λ _. tt)

  hyper_on : (at : ℕ) → OnAt (at + 8) (field_at (one hyper) b at)
  unfolding field_at OnAt part_at single
  hyper_on at = by_test (λ (r : Piece). OnAt (at + 8) (single r)) (leb (at + 8) (length b)) _ _ (λ _. refl) (λ _. tt)

  port_on : (at : ℕ) → OnAt (at + 4) (field_at (one port) b at)
  unfolding field_at OnAt part_at single
  port_on at =
      let P : Piece → Type 0 = λ r. OnAt (at + 4) (single r) in
      by_test P (leb (at + 4) (length b)) _ _ (λ _. by_test P (leb (xdr.word b at) most_port) _ _ (λ _. refl) (λ _. tt)) (λ _. tt)

  digest_on : (at : ℕ) → OnAt (at + digest_length) (field_at (one digest) b at)
  unfolding field_at OnAt part_at single
  digest_on at = by_test (λ (r : Piece). OnAt (at + digest_length) (single r)) (leb (at + digest_length) (length b)) _ _ (λ _. refl) (λ _. tt)

  -- ---- all fields
  any_unread : (fs : List Field) (at : ℕ) → Unread (HasTag fs) (read_fields fs b at)
  unfolding read_fields Unread field_at and_read
  any_unread [] at = by_test (Unread ⊥) (eqb at (length b)) _ _ (λ _. tt) (λ _. tt)
  any_unread (one p ∷ fs) at = on_anywhere (HasTag fs) (field_at (one p) b at) (read_fields fs b) (one_on p at) (any_unread fs)
  any_unread (many most ps ∷ fs) at = on_anywhere (HasTag fs) (field_at (many most ps) b at) (read_fields fs b) (list_on most (parts_at ps b) at) (any_unread fs)
  any_unread (lists most ps inner qs ∷ fs) at =
      on_anywhere (HasTag fs) (field_at (lists most ps inner qs) b at) (read_fields fs b) (list_on most (element_at ps inner qs b) at) (any_unread fs)
  any_unread (tag k ∷ fs) at = any (read_fields (tag k ∷ fs) b at)

  tag_unread : (S : Type 0) (k at : ℕ) (f : ℕ → Read) → Unread S (f (at + 4))
      → Unread ((xdr.word b at ≡ k → ⊥) ⊎ S) (and_read (field_at (tag k) b at) f)
  unfolding field_at and_read Unread
  tag_unread S k at f h =
      let P : FieldGot → Type 0 = λ g. Unread ((xdr.word b at ≡ k → ⊥) ⊎ S) (and_read g f) in
      by_test P (leb (at + 4) (length b)) _ _
      (λ _. by_test P (eqb (xdr.word b at) k) _ _ (λ _. first_unread _ _ (f (at + 4)) (right _ S (f (at + 4)) h)) (λ e. inl (eqb-false (xdr.word b at) k e)))
      (λ _. tt)

  read_unread : (fs : List Field) (at : ℕ) → Unread (Stops fs b at) (read_fields fs b at)
  unfolding read_fields Unread field_at and_read
  read_unread [] at = by_test (Unread ⊥) (eqb at (length b)) _ _ (λ _. tt) (λ _. tt)
  read_unread (one word ∷ fs) at = on_at (Stops fs b (at + 4)) (at + 4) (field_at (one word) b at) (read_fields fs b) (word_on at) (read_unread fs (at + 4))
  read_unread (one hyper ∷ fs) at = on_at (Stops fs b (at + 8)) (at + 8) (field_at (one hyper) b at) (read_fields fs b) (hyper_on at) (read_unread fs (at + 8))
  read_unread (one text ∷ fs) at = on_anywhere (HasTag fs) (field_at (one text) b at) (read_fields fs b) (one_on text at) (any_unread fs)
  read_unread (one port ∷ fs) at = on_at (Stops fs b (at + 4)) (at + 4) (field_at (one port) b at) (read_fields fs b) (port_on at) (read_unread fs (at + 4))
  read_unread (one digest ∷ fs) at =
      on_at (Stops fs b (at + digest_length)) (at + digest_length) (field_at (one digest) b at) (read_fields fs b) (digest_on at) (read_unread fs (at + digest_length))
  read_unread (many most ps ∷ fs) at = any_unread (many most ps ∷ fs) at
  read_unread (lists most ps inner qs ∷ fs) at = any_unread (lists most ps inner qs ∷ fs) at
  read_unread (tag k ∷ fs) at = tag_unread (Stops fs b (at + 4)) k at (read_fields fs b) (read_unread fs (at + 4))

pub unread_rests : UnreadRests
unfolding Unread
unread_rests fs b ws e = rw e at (read_unread b fs 0)
