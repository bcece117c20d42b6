-- What holds of every READ ELEMENT STATUS: which elements it tells of and in which order, what its header counts, and what it
-- hangs on.
use Rattle.std.specs.Prelude.{ℕ, suc, ◌+◌, ◌*◌, ◌%◌, ◌≤◌, ◌<◌, true, List, [], ◌∷◌, ◌++◌, ◌≡◌, length, get_or}
use Rattle.xdr.specs.Choose.{least}
use Rattle.xdr_opaque.specs.Put.{Each}
use Rattle.changer_elements.specs.Elements.{transport, has_place, place_of, is_full, half, cdb_bytes}
use Rattle.changer_elements.specs.declared.Asked.{Asked}
use Rattle.changer_elements.specs.Status.{elements, all_types, transport_type, slot_type, drive_type, type_of, read_status, is_asked, those, reported}
use Rattle.changer_elements.specs.Status.{descriptor_bytes, descriptor, descriptors, of_type, pages}
use Rattle.changer_elements.specs.Status.{first_of, status_of, status_data}

-- a rising list of numbers from one on
abbrev pub RisingFrom : ℕ → List ℕ → Type 0
RisingFrom b [] = Unit
RisingFrom b (e ∷ es) = (b ≤ e) × RisingFrom (suc e) es

-- a number is one of a list
pub record Among (f : ℕ) (es : List ℕ) : Type 0 where
  pub place : ℕ
  pub within : place < length es
  pub there : get_or es place 0 ≡ f

pub record WhichHold : Type 0 where
  -- "by rising address from any start"
  pub rising : (a : Asked) → RisingFrom a.start (reported a)
  pub asked : (a : Asked) → Each (λ (e : ℕ). is_asked a e ≡ true) (reported a)
  pub of_kind : (a : Asked) → (a.kind ≡ all_types → ⊥) → Each (λ (e : ℕ). type_of e ≡ a.kind) (reported a)
  pub at_most : (a : Asked) → length (reported a) ≤ a.number
  -- none is left out while the number allows it
  pub all : (a : Asked) → length (those (is_asked a) elements) ≤ a.number → reported a ≡ those (is_asked a) elements
  -- where it does not, as many as it allows are told, and they are the first: none is passed over for a later one
  pub as_many : (a : Asked) → length (reported a) ≡ least a.number (length (those (is_asked a) elements))
  pub earlier : (a : Asked) (e f : ℕ) → Among e (reported a) → Among f elements → is_asked a f ≡ true → f < e →
      Among f (reported a)
  -- "unknown types have no elements"
  pub unknown : (a : Asked) → (a.kind ≡ all_types → ⊥) → (a.kind ≡ transport_type → ⊥) → (a.kind ≡ slot_type → ⊥) →
      (a.kind ≡ drive_type → ⊥) → reported a ≡ []
  -- the header's address is the smallest
  pub smallest : (a : Asked) → Each (λ (e : ℕ). first_of (reported a) ≤ e) (reported a)

pub record BytesHold : Type 0 where
  -- "12-byte descriptors by rising address": those of the pages, one page after another, are those of the elements in their order
  pub in_order : (a : Asked) →
      of_type transport_type (reported a) ++ (of_type drive_type (reported a) ++ of_type slot_type (reported a)) ≡ reported a
  pub twelve : (slots es : List ℕ) → length (descriptors slots es) ≡ descriptor_bytes * length es
  pub whole : (slots es : List ℕ) → length (status_of slots es) ≡ 8 + length (pages slots es)
  pub most : (a : Asked) (slots : List ℕ) → length (status_of slots (reported a)) ≤ 152
  -- the header, read back: the first address, the number of elements, and the bytes of all pages
  pub first : (a : Asked) (slots : List ℕ) → half (status_of slots (reported a)) 0 ≡ first_of (reported a)
  pub number : (a : Asked) (slots : List ℕ) → half (status_of slots (reported a)) 2 ≡ length (reported a)
  pub bytes : (a : Asked) (slots : List ℕ) →
      get_or (status_of slots (reported a)) 5 0 * 65536 + half (status_of slots (reported a)) 6 ≡ length (pages slots (reported a))
  -- "cut to allocation and data-in length"
  pub cut : (a : Asked) (slots : List ℕ) → length (status_data a slots) ≡ least a.cut (length (status_of slots (reported a)))
  -- a descriptor, written out: the address, the flags, "no volume tags or source". Full (1) where its place names a
  -- cartridge; Access (8): "access bits 1 but at the transport"
  pub of_empty : (slots : List ℕ) (e : ℕ) → has_place e ≡ true → get_or slots (place_of e) 0 ≡ 0 →
      descriptor slots e ≡ 0 ∷ e ∷ 8 ∷ 0 ∷ 0 ∷ 0 ∷ 0 ∷ 0 ∷ 0 ∷ 0 ∷ 0 ∷ 0 ∷ []
  pub of_full : (slots : List ℕ) (e : ℕ) → has_place e ≡ true → (get_or slots (place_of e) 0 ≡ 0 → ⊥) →
      descriptor slots e ≡ 0 ∷ e ∷ 9 ∷ 0 ∷ 0 ∷ 0 ∷ 0 ∷ 0 ∷ 0 ∷ 0 ∷ 0 ∷ 0 ∷ []
  pub of_transport : (slots : List ℕ) → descriptor slots transport ≡ 0 ∷ 0 ∷ 0 ∷ 0 ∷ 0 ∷ 0 ∷ 0 ∷ 0 ∷ 0 ∷ 0 ∷ 0 ∷ 0 ∷ []

pub record HangsOn : Type 0 where
  -- of the slot list only on which places are full: a cartridge's number is never told
  pub by_full : (a : Asked) (s t : List ℕ) → ((e : ℕ) → is_full s e ≡ is_full t e) → status_data a s ≡ status_data a t
  -- of the CDB only on the type code, the start, the number and the allocation length: "ignore flag and reserved bits"
  pub by_fields : (x y : List ℕ) (room : ℕ) → cdb_bytes ≤ length x → cdb_bytes ≤ length y → get_or x 1 0 % 16 ≡ get_or y 1 0 % 16 →
      ((i : ℕ) → 2 ≤ i → i < 6 → get_or x i 0 ≡ get_or y i 0) → ((i : ℕ) → 7 ≤ i → i < 10 → get_or x i 0 ≡ get_or y i 0) →
      read_status x room ≡ read_status y room

pub record StatusHolds : Type 0 where
  pub which : WhichHold
  pub bytes : BytesHold
  pub hangs_on : HangsOn
