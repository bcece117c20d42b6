-- What holds of the slot list and of every move (02 No. 7): "from one that names none twice .., passed on from call to call, each
-- cartridge is in exactly one slot or in the drive".
use Rattle.std.specs.Prelude.{ℕ, ◌+◌, ◌≤◌, ◌<◌, Bool, true, false, List, [], ◌∷◌, ◌≡◌, length, get_or, Err}
use Rattle.changer_elements.specs.Elements.{transport, drive, first_slot, last_slot, places, has_place, place_of, cdb_bytes}
use Rattle.changer_elements.specs.Slots.{names_none_twice, in_drive, times}
use Rattle.changer_elements.specs.Move.{from_to, transport_field, source_field, destination_field, move_medium, slots_after}

-- a cartridge is in one place, and in no other
pub record InOnePlace (v : ℕ) (slots : List ℕ) : Type 0 where
  pub place : ℕ
  pub within : place < places
  pub there : get_or slots place 0 ≡ v
  pub only : (i : ℕ) → get_or slots i 0 ≡ v → i ≡ place

-- the elements that have places, and the places, which are all different
pub record PlacesHold : Type 0 where
  pub of_drive : (has_place drive ≡ true) × (place_of drive ≡ 0)
  pub of_slots : (k : ℕ) → k < 8 → (has_place (first_slot + k) ≡ true) × (place_of (first_slot + k) ≡ k + 1)
  pub no_transport : has_place transport ≡ false
  pub no_more : (e : ℕ) → last_slot < e → has_place e ≡ false
  pub no_between : (e : ℕ) → drive < e → e < first_slot → has_place e ≡ false
  pub within : (e : ℕ) → has_place e ≡ true → place_of e < places
  pub apart : (e f : ℕ) → has_place e ≡ true → has_place f ≡ true → place_of e ≡ place_of f → e ≡ f

-- what a list that names none twice is
pub record NamesHold : Type 0 where
  pub once : (slots : List ℕ) → length slots ≡ places → names_none_twice slots ≡ true → (v : ℕ) → (v ≡ 0 → ⊥) → times v slots ≤ 1
  pub so : (slots : List ℕ) → length slots ≡ places → ((v : ℕ) → (v ≡ 0 → ⊥) → times v slots ≤ 1) → names_none_twice slots ≡ true
  pub in_one : (slots : List ℕ) → length slots ≡ places → names_none_twice slots ≡ true → (v : ℕ) → (v ≡ 0 → ⊥) →
      (i : ℕ) → get_or slots i 0 ≡ v → InOnePlace v slots

-- when a move is accepted
pub record Movable (cdb slots : List ℕ) (opened : Bool) : Type 0 where
  pub long : cdb_bytes ≤ length cdb
  pub by : transport_field cdb ≡ transport
  pub source : has_place (source_field cdb) ≡ true
  pub destination : has_place (destination_field cdb) ≡ true
  pub empty : get_or slots (place_of (destination_field cdb)) 0 ≡ 0
  pub full : get_or slots (place_of (source_field cdb)) 0 ≡ 0 → ⊥
  pub free : opened ≡ true → (source_field cdb ≡ drive → ⊥) × (destination_field cdb ≡ drive → ⊥)

-- a call that moves: its CDB, and whether the tape is open
pub record MoveCall : Type 0 where
  pub cdb : List ℕ
  pub opened : Bool

-- the slot list after a call, and after a list of them
abbrev pub after_move : List ℕ → MoveCall → List ℕ
after_move slots m = slots_after slots (move_medium m.cdb slots m.opened)

unfoldable pub after_moves : List ℕ → List MoveCall → List ℕ
after_moves slots [] = slots
after_moves slots (m ∷ ms) = after_moves (after_move slots m) ms

pub record MovesHold : Type 0 where
  -- it is accepted where the paper says so, and nowhere else; the cartridge goes from the source's place to the destination's
  pub accepts : (cdb slots : List ℕ) (opened : Bool) → Movable cdb slots opened →
      move_medium cdb slots opened ≡ from_to (place_of (source_field cdb)) (place_of (destination_field cdb))
  pub only_so : (cdb slots : List ℕ) (opened : Bool) (from to : ℕ) → move_medium cdb slots opened ≡ from_to from to → Movable cdb slots opened
  pub within : (cdb slots : List ℕ) (opened : Bool) (from to : ℕ) → move_medium cdb slots opened ≡ from_to from to →
      (from < places) × (to < places)
  -- the destination then has the cartridge, the source is empty, and every other place is as it was
  pub arrives : (cdb slots : List ℕ) (opened : Bool) (from to : ℕ) → length slots ≡ places → move_medium cdb slots opened ≡ from_to from to →
      (get_or (slots_after slots (move_medium cdb slots opened)) to 0 ≡ get_or slots from 0)
      × (get_or (slots_after slots (move_medium cdb slots opened)) from 0 ≡ 0)
  pub others : (cdb slots : List ℕ) (opened : Bool) (from to i : ℕ) → move_medium cdb slots opened ≡ from_to from to →
      (i ≡ from → ⊥) → (i ≡ to → ⊥) →
      get_or (slots_after slots (move_medium cdb slots opened)) i 0 ≡ get_or slots i 0
  -- never from an element to itself
  pub not_itself : (cdb slots : List ℕ) (opened : Bool) (from to : ℕ) → move_medium cdb slots opened ≡ from_to from to →
      source_field cdb ≡ destination_field cdb → ⊥
  -- "ignore flag and reserved bits": bytes 2 to 7 and no others are looked at
  pub by_fields : (a b slots : List ℕ) (opened : Bool) → cdb_bytes ≤ length a → cdb_bytes ≤ length b →
      ((i : ℕ) → 2 ≤ i → i < 8 → get_or a i 0 ≡ get_or b i 0) → move_medium a slots opened ≡ move_medium b slots opened

-- a CDB that is long enough, and names the transport and two elements that have places
pub record Named (cdb : List ℕ) : Type 0 where
  pub long : 12 ≤ length cdb
  pub by : transport_field cdb ≡ transport
  pub source : has_place (source_field cdb) ≡ true
  pub destination : has_place (destination_field cdb) ≡ true

-- a move that is refused, with its sense's key, code and qualifier
abbrev pub RefusedWith : ℕ → ℕ → ℕ → List ℕ → List ℕ → Bool → Type 0
RefusedWith key code qualifier cdb slots opened =
    move_medium cdb slots opened ≡ Err (record { key = key; code = code; qualifier = qualifier })

-- which sense a refused move gets, "in that order": each whatever else is at fault behind it. The senses are numbers
-- here, so that the names of `Move` are held to the paper too
pub record SensesHold : Type 0 where
  -- "05h/24h/00h for a CDB under 12 bytes"
  pub short : (cdb slots : List ℕ) (opened : Bool) → length cdb < 12 → RefusedWith 5 0x24 0 cdb slots opened
  -- "05h/21h/01h for an unknown element, the transport or a transport field other than 0"
  pub by_other : (cdb slots : List ℕ) (opened : Bool) → 12 ≤ length cdb → (transport_field cdb ≡ 0 → ⊥) →
      RefusedWith 5 0x21 1 cdb slots opened
  pub source : (cdb slots : List ℕ) (opened : Bool) → 12 ≤ length cdb → has_place (source_field cdb) ≡ false →
      RefusedWith 5 0x21 1 cdb slots opened
  pub destination : (cdb slots : List ℕ) (opened : Bool) → 12 ≤ length cdb → has_place (destination_field cdb) ≡ false →
      RefusedWith 5 0x21 1 cdb slots opened
  -- "05h/3Bh/0Dh for a full destination"
  pub full : (cdb slots : List ℕ) (opened : Bool) → Named cdb →
      (get_or slots (place_of (destination_field cdb)) 0 ≡ 0 → ⊥) → RefusedWith 5 0x3B 0x0D cdb slots opened
  -- "05h/3Bh/0Eh for an empty source"
  pub empty : (cdb slots : List ℕ) (opened : Bool) → Named cdb → get_or slots (place_of (destination_field cdb)) 0 ≡ 0 →
      get_or slots (place_of (source_field cdb)) 0 ≡ 0 → RefusedWith 5 0x3B 0x0E cdb slots opened
  -- "05h/53h/02h for a move from or to the drive while the tape is open"
  pub from_drive : (cdb slots : List ℕ) → Named cdb → get_or slots (place_of (destination_field cdb)) 0 ≡ 0 →
      (get_or slots (place_of (source_field cdb)) 0 ≡ 0 → ⊥) → source_field cdb ≡ drive →
      RefusedWith 5 0x53 2 cdb slots true
  pub to_drive : (cdb slots : List ℕ) → Named cdb → get_or slots (place_of (destination_field cdb)) 0 ≡ 0 →
      (get_or slots (place_of (source_field cdb)) 0 ≡ 0 → ⊥) → destination_field cdb ≡ drive →
      RefusedWith 5 0x53 2 cdb slots true

-- over lists of calls
pub record ListHolds : Type 0 where
  pub long : (slots : List ℕ) (ms : List MoveCall) → length (after_moves slots ms) ≡ length slots
  -- no cartridge is lost, and none doubled
  pub same_times : (slots : List ℕ) (ms : List MoveCall) → length slots ≡ places → (v : ℕ) → (v ≡ 0 → ⊥) →
      times v (after_moves slots ms) ≡ times v slots
  -- a list of any length that names none twice names none twice afterwards: after a list of calls, and after one
  pub none_twice : (slots : List ℕ) (ms : List MoveCall) → names_none_twice slots ≡ true →
      names_none_twice (after_moves slots ms) ≡ true
  pub after : (cdb slots : List ℕ) (opened : Bool) → names_none_twice slots ≡ true →
      names_none_twice (slots_after slots (move_medium cdb slots opened)) ≡ true
  pub in_one : (slots : List ℕ) (ms : List MoveCall) → length slots ≡ places → names_none_twice slots ≡ true → (v : ℕ) → (v ≡ 0 → ⊥) →
      (i : ℕ) → get_or slots i 0 ≡ v → InOnePlace v (after_moves slots ms)
  -- while the tape is open the cartridge in the drive stays there, and an empty drive stays empty
  pub drive_stays : (slots cdb : List ℕ) →
      get_or (slots_after slots (move_medium cdb slots true)) (place_of drive) 0 ≡ get_or slots (place_of drive) 0
  pub held : (cdb slots : List ℕ) → in_drive (slots_after slots (move_medium cdb slots true)) ≡ in_drive slots
  -- what is in the drive is what its place holds
  pub in_drive_lem : (slots : List ℕ) → in_drive slots ≡ get_or slots (place_of drive) 0

pub record ElementsHold : Type 0 where
  pub elements : PlacesHold
  pub names : NamesHold
  pub moves : MovesHold
  pub senses : SensesHold
  pub lists : ListHolds
