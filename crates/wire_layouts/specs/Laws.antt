-- What holds of every layout: a body that was written is read back; a body that decodes to its end has no second spelling; the texts
-- lie within the body; what is left over does not decode.
use Rattle.std.specs.Prelude.{ℕ, suc, ◌+◌, ◌^◌, ◌≤◌, ◌<◌, ◌≡◌, List, [], ◌∷◌, ◌++◌, map, ◌⊎◌, length, take, drop, get_or}
use Rattle.codes.specs.Codes.{most_port, digest_length}
use Rattle.xdr.specs.Xdr as xdr
use Rattle.wire_layouts.specs.Layout.{Part, word, hyper, text, port, digest, Field, one, many, lists, tag, Item, four, eight, bytes, fixed, Value, value, write_as, whole, before, read_fields}
use Rattle.wire_layouts.specs.declared.Text.{Text}

-- each byte of a body is below 256
abbrev pub Bytes : List ℕ → Type 0
Bytes b = (k : ℕ) → get_or b k 0 < 256

-- what stands at the places that were read
abbrev pub content : List ℕ → Item Text → Item (List ℕ)
content b (four v) = four v
content b (eight v) = eight v
content b (bytes t) = bytes (take t.len (drop t.start b))
content b (fixed t) = fixed (take t.len (drop t.start b))

abbrev pub contents : List ℕ → Value Text → Value (List ℕ)
contents b v = value (content b v.first) (map (content b) v.others)

-- ---- values that a layout has room for
pub data PartFits : Part → Item (List ℕ) → Type 0 where
  is_word : {v : ℕ} → v < 2 ^ 32 → PartFits word (four v)
  is_hyper : {v : ℕ} → v < 2 ^ 64 → PartFits hyper (eight v)
  is_text : {s : List ℕ} → length s < 2 ^ 32 → PartFits text (bytes s)
  is_port : {v : ℕ} → v ≤ most_port → PartFits port (four v)
  is_digest : {s : List ℕ} → length s ≡ digest_length → PartFits digest (fixed s)

pub data PartsFit : List Part → List (Item (List ℕ)) → Type 0 where
  no_part : PartsFit [] []
  part_on : {p : Part} {i : Item (List ℕ)} {ps : List Part} {is : List (Item (List ℕ))} → PartFits p i → PartsFit ps is → PartsFit (p ∷ ps) (i ∷ is)

-- so many elements, each of which fits
pub data TimesFit (Fits : List (Item (List ℕ)) → Type 0) : ℕ → List (Item (List ℕ)) → Type 0 where
  no_time : TimesFit Fits 0 []
  time_on : {n : ℕ} {is js : List (Item (List ℕ))} → Fits is → TimesFit Fits n js → TimesFit Fits (suc n) (is ++ js)

pub data ListFits (most : ℕ) (Fits : List (Item (List ℕ)) → Type 0) : Value (List ℕ) → Type 0 where
  is_list : {n : ℕ} {is : List (Item (List ℕ))} → most < 2 ^ 32 → n ≤ most → TimesFit Fits n is → ListFits most Fits (value (four n) is)

pub data ElementFits (ps : List Part) (inner : ℕ) (qs : List Part) : List (Item (List ℕ)) → Type 0 where
  is_element : {is : List (Item (List ℕ))} {v : Value (List ℕ)} → PartsFit ps is → ListFits inner (PartsFit qs) v → ElementFits ps inner qs (is ++ v.first ∷ v.others)

pub data FieldFits : Field → Value (List ℕ) → Type 0 where
  is_one : {p : Part} {i : Item (List ℕ)} → PartFits p i → FieldFits (one p) (value i [])
  is_many : {most : ℕ} {ps : List Part} {v : Value (List ℕ)} → ListFits most (PartsFit ps) v → FieldFits (many most ps) v
  is_lists : {most inner : ℕ} {ps qs : List Part} {v : Value (List ℕ)} → ListFits most (ElementFits ps inner qs) v → FieldFits (lists most ps inner qs) v
  is_tag : {k : ℕ} → k < 2 ^ 32 → FieldFits (tag k) (value (four k) [])

pub data FieldsFit : List Field → List (Value (List ℕ)) → Type 0 where
  no_field : FieldsFit [] []
  field_on : {f : Field} {v : Value (List ℕ)} {fs : List Field} {vs : List (Value (List ℕ))} → FieldFits f v → FieldsFit fs vs → FieldsFit (f ∷ fs) (v ∷ vs)

-- ---- where a rest is not read: behind a tag whose word is another. What stands behind a text or a list lies where the body says, and of a
-- tag there no place is told.
abbrev pub HasTag : List Field → Type 0
HasTag [] = ⊥
HasTag (one p ∷ fs) = HasTag fs
HasTag (many most ps ∷ fs) = HasTag fs
HasTag (lists most ps inner qs ∷ fs) = HasTag fs
HasTag (tag k ∷ fs) = Unit

abbrev pub Stops : List Field → List ℕ → ℕ → Type 0
Stops [] b at = ⊥
Stops (one word ∷ fs) b at = Stops fs b (at + 4)
Stops (one hyper ∷ fs) b at = Stops fs b (at + 8)
Stops (one text ∷ fs) b at = HasTag fs
Stops (one port ∷ fs) b at = Stops fs b (at + 4)
Stops (one digest ∷ fs) b at = Stops fs b (at + digest_length)
Stops (many most ps ∷ fs) b at = HasTag fs
Stops (lists most ps inner qs ∷ fs) b at = HasTag fs
Stops (tag k ∷ fs) b at = (xdr.word b at ≡ k → ⊥) ⊎ Stops fs b (at + 4)

-- ---- the laws
pub record FieldsBack (fs : List Field) (vs : List (Value (List ℕ))) : Type 0 where
  pub places : List (Value Text)
  pub reads : read_fields fs (write_as vs) 0 ≡ whole places
  pub same : map (contents (write_as vs)) places ≡ vs

abbrev pub FieldsRoundTrip : Type 0
FieldsRoundTrip = (fs : List Field) (vs : List (Value (List ℕ))) → FieldsFit fs vs → FieldsBack fs vs

-- decoding and writing again gives the body
abbrev pub Spelled : Type 0
Spelled = (fs : List Field) (b : List ℕ) (ws : List (Value Text)) → Bytes b → read_fields fs b 0 ≡ whole ws → b ≡ write_as (map (contents b) ws)

-- two bodies of equal fields are equal
abbrev pub FieldsOneSpelling : Type 0
FieldsOneSpelling =
    (fs : List Field) (b d : List ℕ) (ws us : List (Value Text)) → Bytes b → Bytes d
    → read_fields fs b 0 ≡ whole ws → read_fields fs d 0 ≡ whole us → map (contents b) ws ≡ map (contents d) us → b ≡ d

-- a body whose rest is not read has a tag of another word
abbrev pub UnreadRests : Type 0
UnreadRests = (fs : List Field) (b : List ℕ) (ws : List (Value Text)) → read_fields fs b 0 ≡ before ws → Stops fs b 0
