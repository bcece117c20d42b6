-- Which case of a field holds, by what the code found. Assumes nothing.
use Prim.Native.Nat.{ℕ, zero, suc, ◌+◌, ◌≤◌, ◌<◌}
use mathlib.Core.Bool.{true, false}
use mathlib.Core.Path.{◌≡◌, refl, sym, ap, ◌∙◌}
use mathlib.Core.List.{List, [], ◌∷◌}
use native.Mathlib.Nat.{not-suc-le-zero}
use native.Mathlib.Numerals.{add-one}
use lib.ListN.{length, drop, get_or, drop_of_length-le}
use lib.Seq.{drop-cons}
use lib.Dec.{eqb, leb}
use borrow.Author.Tests.{le-leb, lt-leb, eq-eqb, ne_eqb}
use Rattle.std.specs.Prelude.{Option, Some, None, option_and_then}
use Rattle.std.specs.Option.{option_eq}
use Rattle.codes.specs.Codes.{most_port, digest_length, tcp_address}
use Rattle.xdr.specs.Choose.{choose}
use Rattle.xdr.specs.Xdr as xdr
use Rattle.xdr_opaque.specs.Opaque as o
use Rattle.xdr_opaque.specs.declared.Opaque.{Opaque}
use Rattle.xdr_opaque.proofs.Laws.{word_within, word_missing}
use Rattle.wire_layouts.specs.Layout.{one, tag, Item, four, eight, bytes, fixed, place, Piece, piece, short, piece_of}
use Rattle.wire_layouts.specs.Layout.{part_at, Got, got, cut, prepend, and_part, and_got, parts_at, times_at, FieldGot, field_got, stop, bad, single, counted, list_at, items_of, element_at, field_at}
use Rattle.wire_layouts.specs.Scans.{past, forget, field_seen, after_seen}
use Rattle.wire_layouts.specs.AddressLists.{is_tcp}
use Rattle.wire_layouts.proofs.AddressTypes.{type_found, type_missing}
use Rattle.wire_layouts.specs.declared.Part.{Part}
use Rattle.wire_layouts.specs.declared.Part.TheVariants.{Word as word, Hyper as hyper, Text as text, Port as port, Digest as digest}
use Rattle.wire_layouts.specs.declared.Text.{Text}
use Rattle.wire_layouts.specs.declared.Seen.{Seen}

-- ---- the code passes over the elements of a list
forget_prepend : (is : List (Item Text)) (g : Got) → forget (prepend is g) ≡ forget g
unfolding forget prepend
forget_prepend is (got js x) = refl
forget_prepend is cut = refl

-- what comes behind a part or an element, where it was there
forget_part : (p : Piece) (f : ℕ → Got) → forget (and_part p f) ≡ option_and_then (λ x. forget (f x)) (past p)
unfolding and_part past
forget_part (piece i y) f = forget_prepend (i ∷ []) (f y)
forget_part short f = unfold forget in refl

pub forget_got : (g : Got) (f : ℕ → Got) → forget (and_got g f) ≡ option_and_then (λ x. forget (f x)) (forget g)
unfolding and_got forget
forget_got (got is y) f = forget_prepend is (f y)
forget_got cut f = refl

-- the parts from number i on
module _ (l : List Part) (b : List ℕ) (i at : ℕ) where
  parts_more : (d : Part) → i < length l → forget (parts_at (drop i l) b at) ≡ option_and_then (λ x. forget (parts_at (drop (i + 1) l) b x)) (past (part_at (get_or l i d) b at))
  unfolding parts_at
  parts_more d h = rw (add-one, drop-cons l i d h) (forget_part (part_at (get_or l i d) b at) (parts_at (drop (suc i) l) b))

  pub parts_past : (d : Part) (r : Option ℕ) (x : ℕ) → i < length l → r ≡ Some x → r ≡ past (part_at (get_or l i d) b at)
      → forget (parts_at (drop i l) b at) ≡ forget (parts_at (drop (i + 1) l) b x)
  parts_past d r x h f g = parts_more d h ∙ ap (option_and_then (λ y. forget (parts_at (drop (i + 1) l) b y))) (sym g ∙ f)

  pub parts_short : (d : Part) (r : Option ℕ) → i < length l → r ≡ None → r ≡ past (part_at (get_or l i d) b at) → forget (parts_at (drop i l) b at) ≡ None
  parts_short d r h f g = parts_more d h ∙ ap (option_and_then (λ y. forget (parts_at (drop (i + 1) l) b y))) (sym g ∙ f)

  pub parts_none : length l ≤ i → Some at ≡ forget (parts_at (drop i l) b at)
  unfolding parts_at forget
  parts_none h = rw (drop_of_length-le l h)

-- the elements that are left
module _ (element : ℕ → Got) (at : ℕ) where
  times_more : (n : ℕ) → forget (times_at element (suc n) at) ≡ option_and_then (λ x. forget (times_at element n x)) (forget (element at))
  unfolding times_at
  times_more n = forget_got (element at) (times_at element n)

  pub times_past : (n m : ℕ) (r : Option ℕ) (x : ℕ) → n ≡ suc m → r ≡ Some x → r ≡ forget (element at) → forget (times_at element n at) ≡ forget (times_at element m x)
  times_past n m r x e f g = rw e (times_more m ∙ ap (option_and_then (λ y. forget (times_at element m y))) (sym g ∙ f))

  pub times_short : (n : ℕ) (r : Option ℕ) → 0 < n → r ≡ None → r ≡ forget (element at) → forget (times_at element n at) ≡ None
  times_short zero r h f g = absurd (not-suc-le-zero h)
  times_short (suc n) r h f g = times_more n ∙ ap (option_and_then (λ y. forget (times_at element n y))) (sym g ∙ f)

  pub times_none : (n : ℕ) → n ≤ 0 → Some at ≡ forget (times_at element n at)
  unfolding times_at forget
  times_none zero h = refl
  times_none (suc n) h = absurd (not-suc-le-zero h)

-- a list whose elements were passed over
seen_counted : (n : ℕ) (g : Got) (r : Option ℕ) → r ≡ forget g → option_and_then (λ x. Some (Seen.Word n x)) r ≡ field_seen (counted n g)
unfolding field_seen counted forget
seen_counted n (got is y) r e = rw e
seen_counted n cut r e = rw e

module _ (b : List ℕ) (at : ℕ) where
  -- ---- one field
  pub sees_word : (v : ℕ) → Some v ≡ o.word_at b at → Some (Seen.Word v (at + 4)) ≡ field_seen (field_at (one word) b at)
  unfolding field_seen field_at single part_at choose
  sees_word v e = let w = word_within b at v e in rw (le-leb (at + 4) (length b) w.0, w.1)

  pub misses_word : None ≡ o.word_at b at → None ≡ field_seen (field_at (one word) b at)
  unfolding field_seen field_at single part_at choose
  misses_word e = rw (lt-leb (at + 4) (length b) (word_missing b at e))

  pub sees_hyper : (v : ℕ) → v ≡ xdr.hyper b at → leb (at + 8) (length b) ≡ true → Some (Seen.Hyper v (at + 8)) ≡ field_seen (field_at (one hyper) b at)
  unfolding field_seen field_at single part_at choose
  sees_hyper v e h = rw (h, e)

  pub misses_hyper : leb (at + 8) (length b) ≡ false → None ≡ field_seen (field_at (one hyper) b at)
  unfolding field_seen field_at single part_at choose
  misses_hyper h = rw h

  pub sees_text : (t : Opaque) → Some t ≡ o.opaque_at b at → Some (Seen.Place (place t.start t.len) t.next) ≡ field_seen (field_at (one text) b at)
  unfolding field_seen field_at single part_at piece_of
  sees_text t e = rw (← e)

  pub misses_text : None ≡ o.opaque_at b at → None ≡ field_seen (field_at (one text) b at)
  unfolding field_seen field_at single part_at piece_of
  misses_text e = rw (← e)

  pub sees_port : (v : ℕ) → Some v ≡ o.word_at b at → v ≤ most_port → Some (Seen.Word v (at + 4)) ≡ field_seen (field_at (one port) b at)
  unfolding field_seen field_at single part_at choose
  sees_port v e h = let w = word_within b at v e in rw (le-leb (at + 4) (length b) w.0, ← w.1, le-leb v most_port h)

  pub misses_port : None ≡ o.word_at b at → None ≡ field_seen (field_at (one port) b at)
  unfolding field_seen field_at single part_at choose
  misses_port e = rw (lt-leb (at + 4) (length b) (word_missing b at e))

  pub no_port : (v : ℕ) → Some v ≡ o.word_at b at → most_port < v → None ≡ field_seen (field_at (one port) b at)
  unfolding field_seen field_at single part_at choose
  no_port v e h = let w = word_within b at v e in rw (le-leb (at + 4) (length b) w.0, ← w.1, lt-leb v most_port h)

  pub sees_digest : leb (at + digest_length) (length b) ≡ true → Some (Seen.Place (place at digest_length) (at + digest_length)) ≡ field_seen (field_at (one digest) b at)
  unfolding field_seen field_at single part_at choose
  sees_digest h = rw h

  pub misses_digest : leb (at + digest_length) (length b) ≡ false → None ≡ field_seen (field_at (one digest) b at)
  unfolding field_seen field_at single part_at choose
  misses_digest h = rw h

  pub sees_tag : (k v : ℕ) → Some v ≡ o.word_at b at → v ≡ k → Some (Seen.Word v (at + 4)) ≡ field_seen (field_at (tag k) b at)
  unfolding field_seen field_at choose
  sees_tag k v e h = let w = word_within b at v e in rw (le-leb (at + 4) (length b) w.0, ← w.1, eq-eqb v k h)

  pub stops : (k v : ℕ) → Some v ≡ o.word_at b at → (v ≡ k → ⊥) → Some (Seen.Stop v) ≡ field_seen (field_at (tag k) b at)
  unfolding field_seen field_at choose
  stops k v e h = let w = word_within b at v e in rw (le-leb (at + 4) (length b) w.0, ← w.1, ne_eqb v k h)

  pub misses_tag : (k : ℕ) → None ≡ o.word_at b at → None ≡ field_seen (field_at (tag k) b at)
  unfolding field_seen field_at choose
  misses_tag k e = rw (lt-leb (at + 4) (length b) (word_missing b at e))

  -- ---- a counted list
  module _ (most : ℕ) (element : ℕ → Got) where
    pub misses_count : None ≡ o.word_at b at → None ≡ field_seen (list_at most element b at)
    unfolding field_seen choose
    misses_count e = rw (lt-leb (at + 4) (length b) (word_missing b at e))

    pub too_many : (n : ℕ) → Some n ≡ o.word_at b at → most < n → None ≡ field_seen (list_at most element b at)
    unfolding field_seen choose
    too_many n e h = let w = word_within b at n e in rw (le-leb (at + 4) (length b) w.0, ← w.1, lt-leb n most h)

    pub list_seen : (n : ℕ) (r : Option ℕ) → Some n ≡ o.word_at b at → n ≤ most → r ≡ forget (times_at element n (at + 4))
        → option_and_then (λ x. Some (Seen.Word n x)) r ≡ field_seen (list_at most element b at)
    unfolding choose
    list_seen n r e h k = let w = word_within b at n e in rw (le-leb (at + 4) (length b) w.0, ← w.1, le-leb n most h) (seen_counted n (times_at element n (at + 4)) r k)

-- ---- what was seen, passed over
after_single : (r : Piece) → option_and_then after_seen (field_seen (single r)) ≡ past r
unfolding after_seen field_seen single past
after_single (piece (four v) x) = refl
after_single (piece (eight v) x) = refl
after_single (piece (bytes t) x) = refl
after_single (piece (fixed t) x) = refl
after_single short = refl

after_items : (g : FieldGot) → option_and_then after_seen (field_seen g) ≡ forget (items_of g)
unfolding after_seen field_seen forget items_of
after_items (field_got (four v) is x) = refl
after_items (field_got (eight v) is x) = refl
after_items (field_got (bytes t) is x) = refl
after_items (field_got (fixed t) is x) = refl
after_items (stop v) = refl
after_items bad = refl

pub after_part : (b : List ℕ) (at : ℕ) (p : Part) (r : Option Seen) → r ≡ field_seen (field_at (one p) b at) → option_and_then after_seen r ≡ past (part_at p b at)
unfolding field_at
after_part b at p r e = ap (λ s. option_and_then after_seen s) e ∙ after_single (part_at p b at)

pub after_list : (ps : List Part) (inner : ℕ) (qs : List Part) (b : List ℕ) (at x : ℕ) (r : Option Seen) → Some x ≡ forget (parts_at ps b at)
    → r ≡ field_seen (list_at inner (parts_at qs b) b x) → option_and_then after_seen r ≡ forget (element_at ps inner qs b at)
unfolding element_at
after_list ps inner qs b at x r e f =
    ap (λ s. option_and_then after_seen s) f ∙ after_items (list_at inner (parts_at qs b) b x)
    ∙ sym (forget_got (parts_at ps b at) (λ (y : ℕ). items_of (list_at inner (parts_at qs b) b y)) ∙ ap (λ s. option_and_then (λ y. forget (items_of (list_at inner (parts_at qs b) b y))) s) (sym e))

pub no_element : (ps : List Part) (inner : ℕ) (qs : List Part) (b : List ℕ) (at : ℕ) → None ≡ forget (parts_at ps b at) → None ≡ forget (element_at ps inner qs b at)
unfolding element_at
no_element ps inner qs b at e =
    sym (forget_got (parts_at ps b at) (λ (y : ℕ). items_of (list_at inner (parts_at qs b) b y)) ∙ ap (λ s. option_and_then (λ y. forget (items_of (list_at inner (parts_at qs b) b y))) s) (sym e))

-- the type of an address
pub tcp_word : (b : List ℕ) (at : ℕ) (r : Option ℕ) → r ≡ o.word_at b at → option_eq eqb r (Some tcp_address) ≡ is_tcp b at
tcp_word b at (Some v) e = type_found b at v e
tcp_word b at None e = type_missing b at e
