-- A move puts back the session with other ends and the tape at another position, and a notice changes its number alone. Assumes nothing.
use Prim.Native.Nat.{ℕ}
use mathlib.Core.List.{List}
use mathlib.Core.Path.{◌≡◌, refl}
use lib.Dec.{eqb}
use Rattle.xdr.proofs.Tests.{by_test}
use Rattle.wire_replies.specs.declared.Notice.{Notice}
use Rattle.rules.specs.Answer.{Kept, Lent, Answered, noticed}
use Rattle.rules.specs.Order.{Call}
use Rattle.rules_moves.specs.declared.Move.{Move}
use Rattle.rules_moves.specs.Events.{announced}
use Rattle.rules_moves.specs.Sequence.{Event, Asked, ToTape, FromTape, Ended, Made, Lost, Inserted, Renumbered, StoreLent, SlotsLent, step}
use Rattle.rules_moves.specs.SessionLeft.{IsUnasked, SameRest, SessionLeft}
use Rattle.rules_moves.proofs.Opened.{SameOpen}
use Rattle.rules_moves.proofs.Unasked.{to_tape_holds, from_tape_holds, ended_holds, made_holds, lost_holds}

module _ (k : Kept) where
  abbrev Left : Kept → Type 0
  Left n = SameRest k n

  same : Left k
  same = record { closed = refl; first = refl; login = refl; changer = refl; opened = refl; writable = refl }

  noticed_left : (time why : ℕ) (n : Notice) (a : Answered) → Left a.next → Left (noticed time why n a).next
  unfolding noticed
  noticed_left time why n a h =
      by_test (λ (x : Answered). Left x.next) (eqb why 0) _ _ (λ _. h)
      (λ _. record { closed = h.closed; first = h.first; login = h.login; changer = h.changer; opened = h.opened; writable = h.writable })

  pub announced_left : (l : Lent) (mv : Move) (image : List ℕ) → SameOpen k.session.tape mv → Left (announced k l mv image).next
  announced_left l mv image o =
      let told = noticed_left l.time in
      told _ _ _ (told _ _ _ (told _ _ _ (record { closed = refl; first = refl; login = refl; changer = refl; opened = o.opened; writable = o.writable })))

  left : (e : Event) → IsUnasked e → Left (step e k)
  unfolding step
  left (Asked c) o = absurd o
  left (ToTape l stream last) o = to_tape_holds Left k same announced_left l stream last
  left (FromTape l dest) o = from_tape_holds Left k same announced_left l dest
  left (Ended l ok) o = ended_holds Left k same announced_left l ok
  left (Made l mover) o = made_holds Left k same announced_left l mover
  left (Lost l mover) o = lost_holds Left k same announced_left l mover
  left (Inserted image) o = record { closed = refl; first = refl; login = refl; changer = refl; opened = refl; writable = refl }
  left (Renumbered n) o = record { closed = refl; first = refl; login = refl; changer = refl; opened = refl; writable = refl }
  left (StoreLent variables) o = record { closed = refl; first = refl; login = refl; changer = refl; opened = refl; writable = refl }
  left (SlotsLent slots) o = absurd o

pub session_left : SessionLeft
session_left k e o = left k e o

-- an event is a request, a slot list that is set, or neither
pub by_asked : (P : Event → Type 0) → ((c : Call) → P (Asked c)) → ((slots : List ℕ) → P (SlotsLent slots)) → ((e : Event) → IsUnasked e → P e) → (e : Event) → P e
by_asked P asked lent rest (Asked c) = asked c
by_asked P asked lent rest (ToTape l stream last) = rest (ToTape l stream last) tt
by_asked P asked lent rest (FromTape l dest) = rest (FromTape l dest) tt
by_asked P asked lent rest (Ended l ok) = rest (Ended l ok) tt
by_asked P asked lent rest (Made l mover) = rest (Made l mover) tt
by_asked P asked lent rest (Lost l mover) = rest (Lost l mover) tt
by_asked P asked lent rest (Inserted image) = rest (Inserted image) tt
by_asked P asked lent rest (Renumbered number) = rest (Renumbered number) tt
by_asked P asked lent rest (StoreLent variables) = rest (StoreLent variables) tt
by_asked P asked lent rest (SlotsLent slots) = lent slots
