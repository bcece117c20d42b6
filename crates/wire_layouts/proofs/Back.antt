-- A body that was written is read back, and what follows it is left over. Assumes nothing.
use Prim.Native.Nat.{ℕ, ◌+◌, ◌≤◌}
use mathlib.Core.Bool.{Bool, true, false}
use mathlib.Core.Path.{◌≡◌, refl, sym, ap, ◌∙◌}
use mathlib.Core.List.{List, [], ◌∷◌, ◌++◌, map, flat_map, append_assoc, append-nil}
use native.Mathlib.Omega.{arith}
use native.Mathlib.Nat.{add-zero, add_assoc}
use lib.ListN.{length, take, drop, length-append}
use lib.Seq.{drop-append_seam, take_at}
use lib.Dec.{eqb}
use borrow.Author.Tests.{le-leb, eq-eqb}
use Rattle.xdr.specs.Choose.{choose}
use Rattle.codes.specs.Codes.{most_port, digest_length}
use Rattle.xdr.specs.Xdr as xdr
use Rattle.xdr.proofs.Laws.{length_be32, length_be64}
use Rattle.xdr_opaque.proofs.Fields.{From, all_of, from_length, past, grouped, word_is, opaque_found, opaque_bytes, hyper_is}
use Rattle.wire_layouts.specs.Layout.{Part, Field, Item, four, eight, bytes, fixed, Value, value, item_bytes, value_bytes, write_as, Piece}
use Rattle.wire_layouts.specs.Layout.{piece, place, piece_of, part_at, Got, got, prepend, and_part, and_got, parts_at, times_at, FieldGot, field_got, single, counted, list_at, items_of, element_at}
use Rattle.wire_layouts.specs.Layout.{field_at}
use Rattle.wire_layouts.specs.Layout.{Read, whole, broken, and_value, and_read, read_fields}
use Rattle.wire_layouts.specs.Laws.{content, contents, PartFits, is_word, is_hyper, is_text, is_port, is_digest, PartsFit, no_part, part_on, TimesFit, no_time, time_on, ListFits, is_list}
use Rattle.wire_layouts.specs.Laws.{ElementFits, is_element, FieldFits, is_one, is_many, is_lists, is_tag, FieldsFit, no_field, field_on, FieldsRoundTrip}
use Rattle.wire_layouts.specs.declared.Text.{Text}

abbrev pub items_bytes : List (Item (List ℕ)) → List ℕ
items_bytes is = flat_map item_bytes is

pub bytes_append : (is js : List (Item (List ℕ))) → items_bytes (is ++ js) ≡ items_bytes is ++ items_bytes js
unfolding flat_map
bytes_append [] js = refl
bytes_append (i ∷ is) js = ap (λ (r : List ℕ). item_bytes i ++ r) (bytes_append is js) ∙ sym (append_assoc (item_bytes i) (items_bytes is) (items_bytes js))

content_append : (b : List ℕ) (is js : List (Item Text)) → map (content b) (is ++ js) ≡ map (content b) is ++ map (content b) js
content_append b [] js = refl
content_append b (i ∷ is) js = ap (λ (r : List (Item (List ℕ))). content b i ∷ r) (content_append b is js)

-- so many bytes with no length before them
fixed_bytes : {b : List ℕ} {at : ℕ} (q s : List ℕ) (n : ℕ) → From b at (s ++ q) → length s ≡ n → take n (drop at b) ≡ s
fixed_bytes q s n f h = rw (f.whole, f.place, drop-append_seam f.front (s ++ q)) (take_at s q n h)

module _ (b : List ℕ) where
  record PartBack (at : ℕ) (i : Item (List ℕ)) (r : Piece) : Type 0 where
    at_place : Item Text
    read : r ≡ piece at_place (at + length (item_bytes i))
    same : content b at_place ≡ i

  record GotBack (at : ℕ) (is : List (Item (List ℕ))) (g : Got) : Type 0 where
    places : List (Item Text)
    read : g ≡ got places (at + length (items_bytes is))
    same : map (content b) places ≡ is

  record FieldBack (at : ℕ) (v : Value (List ℕ)) (g : FieldGot) : Type 0 where
    places : Value Text
    read : g ≡ field_got places.first places.others (at + length (value_bytes v))
    same : contents b places ≡ v

  -- to the end of what was written: whole where the body ends there
  record AllBack (at : ℕ) (vs : List (Value (List ℕ))) (r : Read) : Type 0 where
    places : List (Value Text)
    read : r ≡ choose (eqb (at + length (write_as vs)) (length b)) (whole places) broken
    same : map (contents b) places ≡ vs

  part_back : {p : Part} {i : Item (List ℕ)} → PartFits p i → (at : ℕ) (q : List ℕ) → From b at (item_bytes i ++ q) → PartBack at i (part_at p b at)
  unfolding part_at choose piece_of
  part_back (is_word {v = v} h) at q f =
      let n : at + 4 ≤ length b = rw (from_length f, length-append, length_be32) (omega arith) in
      record { at_place = four v; read = rw (le-leb (at + 4) (length b) n, ← word_is q v f h, length_be32); same = refl }
  part_back (is_hyper {v = v} h) at q f =
      let n : at + 8 ≤ length b = rw (from_length f, length-append, length_be64) (omega arith) in
      record { at_place = eight v; read = rw (le-leb (at + 8) (length b) n, ← hyper_is q v f h, length_be64); same = refl }
  part_back (is_text {s = s} h) at q f =
      record { at_place = bytes (place (at + 4) (length s)); read = rw (← opaque_found q s f h); same = rw (opaque_bytes q s f h) }
  part_back (is_port {v = v} h) at q f =
      let n : at + 4 ≤ length b = rw (from_length f, length-append, length_be32) (omega arith) in
      record { at_place = four v; read = rw (le-leb (at + 4) (length b) n, ← word_is q v f (omega arith), le-leb v most_port h, length_be32); same = refl }
  part_back (is_digest {s = s} h) at q f =
      let n : at + digest_length ≤ length b = rw (from_length f, length-append, h) (omega arith) in
      record { at_place = fixed (place at digest_length); read = rw (le-leb (at + digest_length) (length b) n, h); same = ap fixed (fixed_bytes q s digest_length f h) }

  parts_back : {ps : List Part} {is : List (Item (List ℕ))} → PartsFit ps is → (at : ℕ) (q : List ℕ) → From b at (items_bytes is ++ q) → GotBack at is (parts_at ps b at)
  unfolding parts_at and_part prepend flat_map
  parts_back no_part at q f = record { places = []; read = rw add-zero; same = refl }
  parts_back (part_on {i = i} {is = is} h hs) at q f =
      let f₁ = grouped q (item_bytes i) (items_bytes is) f in
      let r = part_back h at (items_bytes is ++ q) f₁ in
      let s = parts_back hs (at + length (item_bytes i)) q (past (item_bytes i) f₁) in
      record { places = r.at_place ∷ s.places; read = rw (r.read, s.read, length-append, ← add_assoc); same = cc (r.same, s.same) }

  -- one behind another
  and_back : (at : ℕ) (is js : List (Item (List ℕ))) {g : Got} (F : ℕ → Got) → GotBack at is g
      → GotBack (at + length (items_bytes is)) js (F (at + length (items_bytes is))) → GotBack at (is ++ js) (and_got g F)
  unfolding and_got prepend
  and_back at is js F r s =
      record {
        places =
            r.places ++ s.places;
        read = rw (r.read, s.read, bytes_append is js, length-append, ← add_assoc);
        same = content_append b r.places s.places ∙ rw (r.same, s.same);
      }

  -- what an element reads back wherever it stands
  abbrev Back : (List (Item (List ℕ)) → Type 0) → (ℕ → Got) → Type 0
  Back Fits element = (is : List (Item (List ℕ))) → Fits is → (at : ℕ) (q : List ℕ) → From b at (items_bytes is ++ q) → GotBack at is (element at)

  times_back : (Fits : List (Item (List ℕ)) → Type 0) (element : ℕ → Got) → Back Fits element → {n : ℕ} {is : List (Item (List ℕ))} → TimesFit Fits n is
      → (at : ℕ) (q : List ℕ) → From b at (items_bytes is ++ q) → GotBack at is (times_at element n at)
  unfolding times_at flat_map
  times_back Fits element each no_time at q f = record { places = []; read = rw add-zero; same = refl }
  times_back Fits element each (time_on {n = n} {is = is} {js = js} h hs) at q f =
      let f₁ = grouped q (items_bytes is) (items_bytes js) (rw (bytes_append is js) at f) in
      and_back at is js (times_at element n) (each is h at (items_bytes js ++ q) f₁)
      (times_back Fits element each hs (at + length (items_bytes is)) q (past (items_bytes is) f₁))

  list_back : (most : ℕ) (Fits : List (Item (List ℕ)) → Type 0) (element : ℕ → Got) → Back Fits element → {v : Value (List ℕ)} → ListFits most Fits v
      → (at : ℕ) (q : List ℕ) → From b at (value_bytes v ++ q) → FieldBack at v (list_at most element b at)
  unfolding counted choose
  list_back most Fits element each (is_list {n = n} {is = is} m h hs) at q f =
      let f₁ = grouped q (xdr.be32 n) (items_bytes is) f in
      let k : at + 4 ≤ length b = rw (from_length f₁, length-append, length_be32) (omega arith) in
      let e : n ≡ xdr.word b at = word_is (items_bytes is ++ q) n f₁ (omega arith) in
      let r = times_back Fits element each hs (at + 4) q (rw length_be32 at (past (xdr.be32 n) f₁)) in
      record { places = value (four n) r.places; read = rw (le-leb (at + 4) (length b) k, ← e, le-leb n most h, r.read, length-append, length_be32, ← add_assoc); same = cc r.same }

  items_back : (at : ℕ) (v : Value (List ℕ)) {g : FieldGot} → FieldBack at v g → GotBack at (v.first ∷ v.others) (items_of g)
  unfolding items_of flat_map
  items_back at v r = record { places = r.places.first ∷ r.places.others; read = rw r.read; same = cc r.same }

  element_back : (ps : List Part) (inner : ℕ) (qs : List Part) → Back (ElementFits ps inner qs) (element_at ps inner qs b)
  unfolding element_at flat_map
  element_back ps inner qs _ (is_element {is = is} {v = v} h hs) at q f =
      let f₁ = grouped q (items_bytes is) (value_bytes v) (rw (bytes_append is (v.first ∷ v.others)) at f) in
      and_back at is (v.first ∷ v.others) (λ (x : ℕ). items_of (list_at inner (parts_at qs b) b x)) (parts_back h at (value_bytes v ++ q) f₁)
      (items_back (at + length (items_bytes is)) v
      (list_back inner (PartsFit qs) (parts_at qs b) (λ _ k. parts_back k) hs (at + length (items_bytes is)) q (past (items_bytes is) f₁)))

  one_back : (at : ℕ) (i : Item (List ℕ)) {r : Piece} → PartBack at i r → FieldBack at (value i []) (single r)
  unfolding single flat_map
  one_back at i p =
      record { places = value p.at_place []; read = ap single p.read ∙ ap (λ (j : List ℕ). field_got p.at_place [] (at + length j)) (sym (append-nil (item_bytes i))); same = cc p.same }

  field_back : {f : Field} {v : Value (List ℕ)} → FieldFits f v → (at : ℕ) (q : List ℕ) → From b at (value_bytes v ++ q) → FieldBack at v (field_at f b at)
  unfolding field_at single counted choose flat_map
  field_back (is_one {i = i} h) at q f = one_back at i (part_back h at q (rw (← append-nil (item_bytes i)) f))
  field_back (is_many {most = most} {ps = ps} h) at q f = list_back most (PartsFit ps) (parts_at ps b) (λ _ k. parts_back k) h at q f
  field_back (is_lists {most = most} {inner = inner} {ps = ps} {qs = qs} h) at q f =
      list_back most (ElementFits ps inner qs) (element_at ps inner qs b) (element_back ps inner qs) h at q f
  field_back (is_tag {k = k} h) at q f =
      let f₁ : From b at (xdr.be32 k ++ q) = rw (← append-nil (xdr.be32 k)) f in
      let n : at + 4 ≤ length b = rw (from_length f₁, length-append, length_be32) (omega arith) in
      let e : k ≡ xdr.word b at = word_is q k f₁ h in
      let m : at + 4 ≡ at + length (xdr.be32 k ++ []) = rw (append-nil, length_be32) in
      record { places = value (four k) []; read = rw (le-leb (at + 4) (length b) n, ← e, eq-eqb k k refl, m); same = refl }

  first_end : (v : Value Text) (t : Bool) (vs : List (Value Text)) → and_value v (choose t (whole vs) broken) ≡ choose t (whole (v ∷ vs)) broken
  unfolding and_value choose
  first_end v true vs = refl
  first_end v false vs = refl

  step_back : (at : ℕ) (v : Value (List ℕ)) (vs : List (Value (List ℕ))) {g : FieldGot} (F : ℕ → Read)
      → FieldBack at v g → AllBack (at + length (value_bytes v)) vs (F (at + length (value_bytes v))) → AllBack at (v ∷ vs) (and_read g F)
  unfolding and_read write_as flat_map
  step_back at v vs F r s =
      let e : at + length (value_bytes v) + length (write_as vs) ≡ at + length (value_bytes v ++ write_as vs) = omega (arith, length-append (value_bytes v) (write_as vs)) in
      record { places = r.places ∷ s.places; read = rw (r.read, s.read, e) (first_end r.places _ s.places); same = cc (r.same, s.same) }

  all_back : {fs : List Field} {vs : List (Value (List ℕ))} → FieldsFit fs vs → (at : ℕ) (q : List ℕ) → From b at (write_as vs ++ q) → AllBack at vs (read_fields fs b at)
  unfolding read_fields and_read write_as flat_map
  all_back no_field at q f = record { places = []; read = rw add-zero; same = refl }
  all_back (field_on {v = v} {vs = vs} h hs) at q f =
      let f₁ = grouped q (value_bytes v) (write_as vs) f in
      step_back at v vs _ (field_back h at (write_as vs ++ q) f₁) (all_back hs (at + length (value_bytes v)) q (past (value_bytes v) f₁))

pub round_trip : FieldsRoundTrip
unfolding choose
round_trip fs vs h =
    let w = write_as vs in
    let r = all_back w h 0 [] (rw append-nil (all_of w)) in
    record { places = r.places; reads = r.read ∙ rw (eq-eqb (0 + length w) (length w) (omega arith)); same = r.same }
