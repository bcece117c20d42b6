-- The slot list over all calls (02 No. 7): requests, moves, the method's end, connections made and lost, any images, numbers and stores between them. "from
-- one that names none twice .., passed on from call to call, each cartridge is in exactly one slot or in the drive." It is said by the list alone, and not by
-- the definitions of a request, so that these are held against it. Where a host sets the list between two calls, to what another session left, it is
-- another's from there on: `OneSession` are lists of calls without that.
use Rattle.std.specs.Prelude.{ℕ, true, List, [], ◌∷◌, ◌≡◌, length, get_or}
use Rattle.changer_elements.specs.Elements.{places}
use Rattle.changer_elements.specs.Slots.{names_none_twice, in_drive, times}
use Rattle.changer_elements.specs.MovesHold.{InOnePlace}
use Rattle.rules.specs.Answer.{Kept}
use Rattle.rules.specs.Relation.{keeps}
use Rattle.rules.specs.Calls.{opening}
use Rattle.rules_moves.specs.Sequence.{Event, Asked, ToTape, FromTape, Ended, Made, Lost, Inserted, Renumbered, StoreLent, SlotsLent, step, runs}
use Rattle.rules_moves.specs.FirstSize.{after_open}

abbrev pub slots_in : Kept → List ℕ
slots_in k = k.session.changer.slots

-- the tape is open before each of the calls
pub data OpenAlong : Kept → List Event → Type 0 where
  open_end : {k : Kept} → OpenAlong k []
  open_on : {k : Kept} {e : Event} {es : List Event} → k.session.tape.opened ≡ true → OpenAlong (step e k) es → OpenAlong k (e ∷ es)

-- the host does not set the slot list between two of the calls
abbrev pub IsOwn : Event → Type 0
IsOwn (Asked c) = Unit {0}
IsOwn (ToTape l stream last) = Unit {0}
IsOwn (FromTape l dest) = Unit {0}
IsOwn (Ended l ok) = Unit {0}
IsOwn (Made l mover) = Unit {0}
IsOwn (Lost l mover) = Unit {0}
IsOwn (Inserted image) = Unit {0}
IsOwn (Renumbered n) = Unit {0}
IsOwn (StoreLent variables) = Unit {0}
IsOwn (SlotsLent slots) = ⊥

abbrev pub OneSession : List Event → Type 0
OneSession [] = Unit {0}
OneSession (e ∷ es) = IsOwn e × OneSession es

pub record SlotsAlong : Type 0 where
  pub long : (k : Kept) (es : List Event) → OneSession es → length (slots_in (runs k es)) ≡ length (slots_in k)
  -- no cartridge is lost, none is doubled, and none is new: each is named as often as before
  pub same_times : (k : Kept) (es : List Event) → OneSession es → length (slots_in k) ≡ places → (v : ℕ) → (v ≡ 0 → ⊥) → times v (slots_in (runs k es)) ≡ times v (slots_in k)
  -- over any calls, and with any list set that may be
  pub none_twice : (k : Kept) (es : List Event) → names_none_twice (slots_in k) ≡ true → names_none_twice (slots_in (runs k es)) ≡ true
  -- "each cartridge is in exactly one slot or in the drive"
  pub in_one : (k : Kept) (es : List Event) → OneSession es → length (slots_in k) ≡ places → names_none_twice (slots_in k) ≡ true → (v : ℕ) → (v ≡ 0 → ⊥) → (i : ℕ)
      → get_or (slots_in k) i 0 ≡ v → InOnePlace v (slots_in (runs k es))
  -- from `open` on, with the list that it is given and takes
  pub from_open : (slots : List ℕ) (time room : ℕ) (image variables : List ℕ) (es : List Event) → OneSession es → length slots ≡ places → (opening slots time room).code ≡ 0
      → (v : ℕ) → (v ≡ 0 → ⊥) → (i : ℕ) → get_or slots i 0 ≡ v → InOnePlace v (slots_in (after_open slots time room image variables es))
  -- while the tape is open the drive does not change: "the image that the session names as being in the drive" is the same from open to close
  pub drive_stays : (k : Kept) (es : List Event) → OpenAlong k es → in_drive (slots_in (runs k es)) ≡ in_drive (slots_in k)
  -- and a tape that is open has a cartridge
  pub loaded : (k : Kept) (es : List Event) → keeps k.session ≡ true → (runs k es).session.tape.opened ≡ true → in_drive (slots_in (runs k es)) ≡ 0 → ⊥
