-- `LoginHolds` of rules, over all calls: requests, moves, the method's end, connections made and lost, any images, numbers and stores between them. The
-- newest challenge is again said by the calls alone.
use Rattle.std.specs.Prelude.{true, false, List, [], ◌∷◌, ◌≡◌}
use Rattle.rules.specs.Answer.{Kept}
use Rattle.rules.specs.Order.{Call}
use Rattle.rules.specs.Login.{Newest, newest_of, is_heard, newer, LogsIn, authorized}
use Rattle.rules_moves.specs.Sequence.{Event, Asked, ToTape, FromTape, Ended, Made, Lost, Inserted, Renumbered, StoreLent, SlotsLent, step, runs}

-- the newest challenge after an event, with one before it: only a request can give one
unfoldable pub newer_by : Newest → Kept → Event → Newest
newer_by n k (Asked c) = newer n k c
newer_by n k (ToTape l stream last) = n
newer_by n k (FromTape l dest) = n
newer_by n k (Ended l ok) = n
newer_by n k (Made l mover) = n
newer_by n k (Lost l mover) = n
newer_by n k (Inserted image) = n
newer_by n k (Renumbered number) = n
newer_by n k (StoreLent variables) = n
newer_by n k (SlotsLent slots) = n

unfoldable pub newest_along : Newest → Kept → List Event → Newest
newest_along n k [] = n
newest_along n k (e ∷ es) = newest_along (newer_by n k e) (step e k) es

-- a request that logs in
pub data EntersBy (n : Newest) (k : Kept) : Event → Type 0 where
  by_request : {c : Call} → is_heard k c ≡ true → LogsIn n c → EntersBy n k (Asked c)

pub data EntersAlong : Newest → Kept → List Event → Type 0 where
  along_here : {n : Newest} {k : Kept} {e : Event} {es : List Event} → EntersBy n k e → EntersAlong n k (e ∷ es)
  along_later : {n : Newest} {k : Kept} {e : Event} {es : List Event} → EntersAlong (newer_by n k e) (step e k) es → EntersAlong n k (e ∷ es)

pub record LoginAlong : Type 0 where
  pub only : (k : Kept) (es : List Event) → authorized k ≡ false → authorized (runs k es) ≡ true → EntersAlong (newest_of k.session.login) k es
  pub stays : (k : Kept) (es : List Event) → authorized k ≡ true → authorized (runs k es) ≡ true
  pub newest_held : (k : Kept) (es : List Event) → newest_of (runs k es).session.login ≡ newest_along (newest_of k.session.login) k es
