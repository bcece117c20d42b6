-- 02 No. 3: moves, the method's end and connections made and lost are not lent the store, and leave it.
use Rattle.std.specs.Prelude.{List, ◌≡◌}
use Rattle.rules.specs.Answer.{Kept}
use Rattle.rules_moves.specs.Sequence.{Event, Asked, ToTape, FromTape, Ended, Made, Lost, Inserted, Renumbered, StoreLent, SlotsLent, step}

-- all but requests and another store
abbrev pub IsUnlent : Event → Type 0
IsUnlent (Asked c) = ⊥
IsUnlent (ToTape l stream last) = Unit {0}
IsUnlent (FromTape l dest) = Unit {0}
IsUnlent (Ended l ok) = Unit {0}
IsUnlent (Made l mover) = Unit {0}
IsUnlent (Lost l mover) = Unit {0}
IsUnlent (Inserted image) = Unit {0}
IsUnlent (Renumbered n) = Unit {0}
IsUnlent (StoreLent variables) = ⊥
IsUnlent (SlotsLent slots) = Unit {0}

abbrev pub StoreLeft : Type 0
StoreLeft = (k : Kept) (e : Event) → IsUnlent e → (step e k).variables ≡ k.variables
