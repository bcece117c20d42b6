-- Writing to the cartridge (paper 01, "The cartridge").
use Rattle.std.specs.Prelude.{ℕ, zero, suc, ◌+◌, ◌-◌, ◌≤◌, ◌<◌, List, [], ◌∷◌, ◌++◌, Bool, ◌≡◌, length, replicate, ltb, leb}
use Rattle.xdr.specs.Choose.{choose, all_of}
use Rattle.xdr.specs.Xdr.{overlay}
use Rattle.tape_image.specs.Image.{capacity, count, used, entry_start, body_at, body_len, with_entry}

-- "Writing cuts the list at the position and uses the room again": the bytes before position p are kept
unfoldable pub kept : List ℕ → ℕ → ℕ
kept l p = choose (ltb p (count l)) (entry_start l p) (used l)

-- "There is room if the position is below C and the kept bytes plus the record fit in B."
abbrev pub room_tests : List ℕ → ℕ → ℕ → List Bool
room_tests l p m = ltb p (capacity l) ∷ leb (kept l p + m) (body_len l) ∷ []

unfoldable pub room_for : List ℕ → ℕ → ℕ → Bool
room_for l p m = all_of (room_tests l p m)

-- the same, as facts
pub record Room (l : List ℕ) (p m : ℕ) : Type 0 where
  pub slot : p < capacity l
  pub fits : kept l p + m ≤ body_len l

-- the image with the record b written at position p. "Old entries and bytes past the end stay": nothing else is written.
unfoldable pub written : List ℕ → ℕ → List ℕ → List ℕ
written l p b = overlay (body_at l + kept l p) b (with_entry l p (kept l p) (length b))

-- a part of a record, "filled with zeros" to n bytes
unfoldable pub fill_to : List ℕ → ℕ → List ℕ
fill_to s n = s ++ replicate (n - length s) 0

-- the image with k marks written from position p on; a mark is an entry of no bytes
unfoldable pub with_marks : List ℕ → ℕ → ℕ → List ℕ
with_marks l p zero = l
with_marks l p (suc k) = with_marks (written l p []) (p + 1) k

-- what `kept_bytes` gives
pub record KeptBytes (l : List ℕ) (p r : ℕ) : Type 0 where
  pub is : r ≡ kept l p
  pub fits : r ≤ body_len l

-- what a write of a record of n bytes, the part s and then zeros, gives: whether there was room, and the image after it
pub record FilledWrite (l : List ℕ) (p : ℕ) (s : List ℕ) (n : ℕ) (r : Bool) (l' : List ℕ) : Type 0 where
  pub room : r ≡ room_for l p n
  pub image : l' ≡ choose (room_for l p n) (written l p (fill_to s n)) l
