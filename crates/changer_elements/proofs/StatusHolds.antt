-- What holds of every status: by the laws of lists and bytes. Assumes nothing.
use Prim.Native.Nat.{ℕ, suc, ◌+◌, ◌*◌, ◌/◌, ◌%◌, ◌≤◌, ◌<◌}
use mathlib.Core.Bool.{true}
use mathlib.Core.List.{List, [], ◌∷◌}
use mathlib.Core.Path.{◌≡◌, refl, sym, ◌∙◌}
use native.Mathlib.Omega.{arith}
use lib.Dec.{eqb}
use lib.ListN.{length, get_or, length-take}
use lib.Seq.{take_all}
use Rattle.std.specs.Prelude.{Ok}
use Rattle.xdr.specs.Choose.{choose, least}
use Rattle.xdr.proofs.Tests.{pick_if, pick_else, ltb_no}
use Rattle.xdr_opaque.specs.Put.{Each}
use Rattle.changer_elements.specs.Elements.{has_place, place_of, is_full, half}
use Rattle.changer_elements.specs.declared.Asked.{Asked}
use Rattle.changer_elements.specs.Status.{elements, type_of, allocation, asked_by, read_status, is_asked, those, reported, be16, be24, flags_of, descriptor}
use Rattle.changer_elements.specs.Status.{descriptors, of_type, page_of, pages, first_of, status_of, status_data}
use Rattle.changer_elements.specs.StatusHolds.{RisingFrom, WhichHold, BytesHold, StatusHolds}
use Rattle.changer_elements.proofs.Lists.{each_map, rising_each, reported_asked, asked_kind}
use Rattle.changer_elements.proofs.Lists.{reported_rise, reported_first, reported_few, reported_small}
use Rattle.changer_elements.proofs.Lists.{reported_most, reported_in_order, reported_types}
use Rattle.changer_elements.proofs.Bytes.{descriptors_length, status_length, pages_most, status_most}
use Rattle.changer_elements.proofs.Bytes.{least_min, cut_length, asked_is}
use Rattle.changer_elements.proofs.Laws.{by_cases, full_yes, full_no}
use Rattle.changer_elements.proofs.Moves.{drive_or_slot, places_hold}

-- ---- which elements
all : (a : Asked) → length (those (is_asked a) elements) ≤ a.number → reported a ≡ those (is_asked a) elements
unfolding reported
all a h = take_all a.number (those (is_asked a) elements) h

as_many : (a : Asked) → length (reported a) ≡ least a.number (length (those (is_asked a) elements))
unfolding reported
as_many a =
    length-take a.number (those (is_asked a) elements) ∙ least_min a.number (length (those (is_asked a) elements))

-- an element is of one of three types
three_types : {A : Type 0} (e k : ℕ) → type_of e ≡ k → (k ≡ 1 → A) → (k ≡ 4 → A) → (k ≡ 2 → A) → A
unfolding type_of choose
three_types e k h f g s =
    by_cases (eqb e 0)
    (λ p. f (sym h ∙ rw p))
    (λ p. by_cases (eqb e 1) (λ q. g (sym h ∙ rw (p, q))) (λ q. s (sym h ∙ rw (p, q))))

none_has : (P : ℕ → Type 0) (es : List ℕ) → ((e : ℕ) → P e → ⊥) → Each P es → es ≡ []
none_has P [] f h = refl
none_has P (e ∷ es) f h = absurd (f e h.0)

of_kind : (a : Asked) → (a.kind ≡ 0 → ⊥) → Each (λ (e : ℕ). type_of e ≡ a.kind) (reported a)
of_kind a n = each_map (λ (e : ℕ). is_asked a e ≡ true) (λ (e : ℕ). type_of e ≡ a.kind) (reported a) (asked_kind a n) (reported_asked a)

unknown : (a : Asked) → (a.kind ≡ 0 → ⊥) → (a.kind ≡ 1 → ⊥) → (a.kind ≡ 2 → ⊥) → (a.kind ≡ 4 → ⊥) → reported a ≡ []
unknown a n t s d =
    none_has (λ (e : ℕ). type_of e ≡ a.kind) (reported a) (λ e h. three_types e a.kind h t d s) (of_kind a n)

-- of a rising list the first is the smallest
first_least : (b : ℕ) (es : List ℕ) → RisingFrom b es → Each (λ (e : ℕ). first_of es ≤ e) es
unfolding first_of
first_least b [] h = tt
first_least b (e ∷ es) h =
    (omega arith, each_map (λ (f : ℕ). suc e ≤ f) (λ (f : ℕ). e ≤ f) es (λ f k. omega arith) (rising_each (suc e) es h.1))

which : WhichHold
which =
    record {
      rising = reported_rise;
      asked = reported_asked;
      of_kind = of_kind;
      at_most = reported_most;
      all = all;
      as_many = as_many;
      earlier = reported_first;
      unknown = unknown;
      smallest = λ a. first_least a.start (reported a) (reported_rise a);
    }

-- ---- the bytes
-- the three fields of the header, where each fits its place
module _ (slots es : List ℕ) where
  head_first : first_of es < 65536 → half (status_of slots es) 0 ≡ first_of es
  unfolding status_of be16 be24 half
  head_first h = omega arith

  head_number : length es < 65536 → half (status_of slots es) 2 ≡ length es
  unfolding status_of be16 be24 half
  head_number h = omega arith

  head_bytes : length (pages slots es) < 16777216 →
      get_or (status_of slots es) 5 0 * 65536 + half (status_of slots es) 6 ≡ length (pages slots es)
  unfolding status_of be16 be24 half
  head_bytes h = omega arith

each_first : (P : ℕ → Type 0) (es : List ℕ) → P 0 → Each P es → P (first_of es)
unfolding first_of
each_first P [] z h = z
each_first P (e ∷ es) z h = h.0

first_small : (a : Asked) → first_of (reported a) < 65536
first_small a = let z = each_first (λ (e : ℕ). e < 24) (reported a) (omega arith) (reported_small a) in omega arith

-- the address of an element that has a place fits a byte
low_address : (e : ℕ) → has_place e ≡ true → e < 256
low_address e h = drive_or_slot e h (λ d p. omega arith) (λ l m p. omega arith)

told : (slots : List ℕ) (e flags : ℕ) → e < 256 → flags_of slots e ≡ flags →
    descriptor slots e ≡ 0 ∷ e ∷ flags ∷ 0 ∷ 0 ∷ 0 ∷ 0 ∷ 0 ∷ 0 ∷ 0 ∷ 0 ∷ 0 ∷ []
unfolding descriptor be16
told slots e flags h k =
    let high : e / 256 % 256 ≡ 0 = omega arith in
    let low : e % 256 ≡ e = omega arith in
    rw (high, low, k)

module _ (slots : List ℕ) (e : ℕ) (h : has_place e ≡ true) where
  empty_flags : get_or slots (place_of e) 0 ≡ 0 → flags_of slots e ≡ 8
  unfolding flags_of
  empty_flags z = sym (pick_if _ h (pick_else _ (full_no e _ slots refl z) refl))

  full_flags : (get_or slots (place_of e) 0 ≡ 0 → ⊥) → flags_of slots e ≡ 9
  unfolding flags_of
  full_flags z = sym (pick_if _ h (pick_if _ (full_yes e _ slots refl z) refl))

transport_flags : (slots : List ℕ) → flags_of slots 0 ≡ 0
unfolding flags_of
transport_flags slots = sym (pick_else _ places_hold.no_transport refl)

bytes : BytesHold
bytes =
    record {
      in_order = reported_in_order;
      twelve = descriptors_length;
      whole = status_length;
      most = status_most;
      first = λ a slots. head_first slots (reported a) (first_small a);
      number = λ a slots. head_number slots (reported a) (omega (arith, reported_few a));
      bytes = λ a slots. head_bytes slots (reported a) (omega (arith, pages_most slots (reported a) (reported_types a)));
      cut = cut_length;
      of_empty = λ slots e h z. told slots e 8 (low_address e h) (empty_flags slots e h z);
      of_full = λ slots e h z. told slots e 9 (low_address e h) (full_flags slots e h z);
      of_transport = λ slots. told slots 0 0 (omega arith) (transport_flags slots);
    }

-- ---- what they hang on
module _ (s t : List ℕ) (h : (e : ℕ) → is_full s e ≡ is_full t e) where
  same_flags : (e : ℕ) → flags_of s e ≡ flags_of t e
  unfolding flags_of
  same_flags e = rw (h e)

  same_descriptors : (es : List ℕ) → descriptors s es ≡ descriptors t es
  unfolding descriptors descriptor
  same_descriptors [] = refl
  same_descriptors (e ∷ es) = rw (same_flags e, same_descriptors es)

  same_page : (k : ℕ) (es : List ℕ) → page_of s k es ≡ page_of t k es
  unfolding page_of
  same_page k [] = refl
  same_page k (e ∷ es) = rw (same_descriptors (e ∷ es))

  same_pages : (es : List ℕ) → pages s es ≡ pages t es
  unfolding pages
  same_pages es = rw (same_page 1 (of_type 1 es), same_page 4 (of_type 4 es), same_page 2 (of_type 2 es))

  by_full : (a : Asked) → status_data a s ≡ status_data a t
  unfolding status_data status_of
  by_full a = rw (same_pages (reported a))

same_half : (x y : List ℕ) (at : ℕ) → get_or x at 0 ≡ get_or y at 0 → get_or x (at + 1) 0 ≡ get_or y (at + 1) 0 → half x at ≡ half y at
unfolding half
same_half x y at h k = cc

long_asks : (cdb : List ℕ) (room : ℕ) → 12 ≤ length cdb → read_status cdb room ≡ Ok (asked_by cdb room)
unfolding read_status
long_asks cdb room h = sym (pick_else _ (ltb_no h) refl)

by_fields : (x y : List ℕ) (room : ℕ) → 12 ≤ length x → 12 ≤ length y → get_or x 1 0 % 16 ≡ get_or y 1 0 % 16 →
    ((i : ℕ) → 2 ≤ i → i < 6 → get_or x i 0 ≡ get_or y i 0) → ((i : ℕ) → 7 ≤ i → i < 10 → get_or x i 0 ≡ get_or y i 0) →
    read_status x room ≡ read_status y room
unfolding asked_by allocation
by_fields x y room h k t m n =
    let start : half x 2 ≡ half y 2 = same_half x y 2 (m 2 (omega arith) (omega arith)) (m 3 (omega arith) (omega arith)) in
    let number : half x 4 ≡ half y 4 = same_half x y 4 (m 4 (omega arith) (omega arith)) (m 5 (omega arith) (omega arith)) in
    let high : get_or x 7 0 ≡ get_or y 7 0 = n 7 (omega arith) (omega arith) in
    let low : half x 8 ≡ half y 8 = same_half x y 8 (n 8 (omega arith) (omega arith)) (n 9 (omega arith) (omega arith)) in
    long_asks x room h ∙ asked_is t start number (cc) ∙ sym (long_asks y room k)

pub status_holds : StatusHolds
status_holds = record { which = which; bytes = bytes; hangs_on = record { by_full = λ a s t h. by_full s t h a; by_fields = by_fields } }
