-- Every call without a request leaves the login, and so what rules says of requests holds over all calls. Assumes nothing.
use Prim.Native.Nat.{ℕ}
use mathlib.Core.Bool.{Bool, true, false}
use mathlib.Core.List.{List, [], ◌∷◌}
use mathlib.Core.Path.{◌≡◌, refl, sym, ap, ◌∙◌}
use native.Mathlib.Omega.{arith}
use Rattle.rules_parts.specs.declared.types.Login.{Login}
use Rattle.rules.specs.Answer.{Kept}
use Rattle.rules.specs.Order.{Call}
use Rattle.rules.specs.Login.{Newest, newest_of, newer, authorized}
use Rattle.rules.proofs.Login.{newest_next, call_only, call_stays}
use Rattle.rules_moves.specs.Sequence.{Event, Asked, ToTape, FromTape, Ended, Made, Lost, Inserted, Renumbered, StoreLent, SlotsLent, step, runs}
use Rattle.rules_moves.specs.SessionLeft.{IsUnasked}
use Rattle.rules_moves.proofs.SessionLeft.{by_asked, session_left}
use Rattle.rules_login.specs.Along.{newer_by, newest_along, EntersBy, by_request, EntersAlong, along_here, along_later, LoginAlong}

clash : {A : Type 0} → false ≡ true → A
clash h = absurd (let z : ◌≡◌ {A = ℕ} 0 1 = cc in omega arith)

abbrev flag : Login → Bool
flag g = g.authorized

module _ (k : Kept) where
  abbrev Left : Event → Type 0
  Left e = (step e k).session.login ≡ k.session.login

  left : (e : Event) → IsUnasked e → Left e
  left e o = (session_left k e o).login

  -- a client that becomes authorized by an event does so by a request
  abbrev Enters : Event → Type 0
  Enters e = authorized k ≡ false → authorized (step e k) ≡ true → EntersBy (newest_of k.session.login) k e

  enters : (e : Event) → Enters e
  unfolding step
  enters e =
      by_asked Enters (λ c n t. let z = call_only k c n t in by_request z.0 z.1) (λ slots n t. clash (sym n ∙ t))
      (λ e o n t. clash (sym n ∙ sym (ap flag (left e o)) ∙ t)) e

  stays_once : (e : Event) → authorized k ≡ true → authorized (step e k) ≡ true
  unfolding step
  stays_once e =
      by_asked (λ (e : Event). authorized k ≡ true → authorized (step e k) ≡ true) (λ c h. call_stays k c h) (λ slots h. h)
      (λ e o h. ap flag (left e o) ∙ h) e

  newest_once : (e : Event) → newest_of (step e k).session.login ≡ newer_by (newest_of k.session.login) k e
  unfolding step newer_by
  newest_once (Asked c) = newest_next k c
  newest_once (ToTape l stream last) = ap newest_of (left (ToTape l stream last) tt)
  newest_once (FromTape l dest) = ap newest_of (left (FromTape l dest) tt)
  newest_once (Ended l ok) = ap newest_of (left (Ended l ok) tt)
  newest_once (Made l mover) = ap newest_of (left (Made l mover) tt)
  newest_once (Lost l mover) = ap newest_of (left (Lost l mover) tt)
  newest_once (Inserted image) = ap newest_of (left (Inserted image) tt)
  newest_once (Renumbered number) = ap newest_of (left (Renumbered number) tt)
  newest_once (StoreLent variables) = ap newest_of (left (StoreLent variables) tt)
  newest_once (SlotsLent slots) = refl

now_or_later : (k : Kept) (e : Event) (es : List Event) → authorized k ≡ false → (b : Bool) → authorized (step e k) ≡ b
    → (authorized (step e k) ≡ false → EntersAlong (newest_of (step e k).session.login) (step e k) es)
    → EntersAlong (newest_of k.session.login) k (e ∷ es)
now_or_later k e es n true a f = along_here (enters k e n a)
now_or_later k e es n false a f = along_later (rw (newest_once k e) at (f a))

only : (k : Kept) (es : List Event) → authorized k ≡ false → authorized (runs k es) ≡ true → EntersAlong (newest_of k.session.login) k es
unfolding runs
only k [] n t = clash (sym n ∙ t)
only k (e ∷ es) n t = now_or_later k e es n (authorized (step e k)) refl (λ a. only (step e k) es a t)

stays : (k : Kept) (es : List Event) → authorized k ≡ true → authorized (runs k es) ≡ true
unfolding runs
stays k [] h = h
stays k (e ∷ es) h = stays (step e k) es (stays_once k e h)

newest_held : (k : Kept) (es : List Event) → newest_of (runs k es).session.login ≡ newest_along (newest_of k.session.login) k es
unfolding runs newest_along
newest_held k [] = refl
newest_held k (e ∷ es) = newest_held (step e k) es ∙ ap (λ (n : Newest). newest_along n (step e k) es) (newest_once k e)

pub login_along : LoginAlong
login_along = record { only = only; stays = stays; newest_held = newest_held }
