-- What the calls without a request leave of the session, whatever they are lent: the closed mark, the first-request mark, the login with its challenge,
-- the changer with its slot list, and whether the tape is open, and for what. So none of them lets anybody in, logs out, or moves a cartridge.
use Rattle.std.specs.Prelude.{◌≡◌}
use Rattle.rules.specs.Answer.{Kept}
use Rattle.rules_moves.specs.Sequence.{Event, Asked, ToTape, FromTape, Ended, Made, Lost, Inserted, Renumbered, StoreLent, SlotsLent, step}

-- all but requests, and but a slot list that is set, which changes that list and nothing else (`LentLeaves`)
abbrev pub IsUnasked : Event → Type 0
IsUnasked (Asked c) = ⊥
IsUnasked (ToTape l stream last) = Unit {0}
IsUnasked (FromTape l dest) = Unit {0}
IsUnasked (Ended l ok) = Unit {0}
IsUnasked (Made l mover) = Unit {0}
IsUnasked (Lost l mover) = Unit {0}
IsUnasked (Inserted image) = Unit {0}
IsUnasked (Renumbered n) = Unit {0}
IsUnasked (StoreLent variables) = Unit {0}
IsUnasked (SlotsLent slots) = ⊥

-- all of the session but the number of the next message, the two ends and the tape's position
pub record SameRest (k n : Kept) : Type 0 where
  pub closed : n.session.closed ≡ k.session.closed
  pub first : n.session.first ≡ k.session.first
  pub login : n.session.login ≡ k.session.login
  pub changer : n.session.changer ≡ k.session.changer
  pub opened : n.session.tape.opened ≡ k.session.tape.opened
  pub writable : n.session.tape.writable ≡ k.session.tape.writable

abbrev pub SessionLeft : Type 0
SessionLeft = (k : Kept) (e : Event) → IsUnasked e → SameRest k (step e k)
