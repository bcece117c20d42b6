-- What is announced of a move passes the store on. Assumes nothing.
use Prim.Native.Nat.{ℕ}
use mathlib.Core.List.{List}
use mathlib.Core.Path.{◌≡◌, refl}
use Rattle.rules.specs.Answer.{Kept, Lent}
use Rattle.rules.proofs.Calls.{noticed_holds}
use Rattle.rules_moves.specs.declared.Move.{Move}
use Rattle.rules_moves.specs.Events.{announced}
use Rattle.rules_moves.specs.Sequence.{Event, Asked, ToTape, FromTape, Ended, Made, Lost, Inserted, Renumbered, StoreLent, SlotsLent, step}
use Rattle.rules_moves.specs.StoreLeft.{IsUnlent, StoreLeft}
use Rattle.rules_moves.proofs.Opened.{SameOpen}
use Rattle.rules_moves.proofs.Unasked.{to_tape_holds, from_tape_holds, ended_holds, made_holds, lost_holds}

module _ (k : Kept) where
  Left : Kept → Type 0
  Left n = n.variables ≡ k.variables

  announced_left : (l : Lent) (mv : Move) (image : List ℕ) → SameOpen k.session.tape mv → Left (announced k l mv image).next
  unfolding Left
  announced_left l mv image _ =
      let told = noticed_holds Left (λ x _ h. h) (λ x h. h) l.time in
      told _ _ _ (told _ _ _ (told _ _ _ refl))

  left : (e : Event) → IsUnlent e → Left (step e k)
  unfolding step Left
  left (Asked c) o = absurd o
  left (ToTape l stream last) o = to_tape_holds Left k refl announced_left l stream last
  left (FromTape l dest) o = from_tape_holds Left k refl announced_left l dest
  left (Ended l ok) o = ended_holds Left k refl announced_left l ok
  left (Made l mover) o = made_holds Left k refl announced_left l mover
  left (Lost l mover) o = lost_holds Left k refl announced_left l mover
  left (Inserted image) o = refl
  left (Renumbered n) o = refl
  left (StoreLent variables) o = absurd o
  left (SlotsLent slots) o = refl

pub store_left : StoreLeft
unfolding Left
store_left k e o = left k e o
