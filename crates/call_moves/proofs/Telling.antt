-- A call without a request, by what its guard found and by what its move came to. Assumes nothing.
use Prim.Native.Nat.{ℕ}
use Rattle.std.specs.Prelude.{Option, Some, None}
use mathlib.Core.Bool.{Bool, false}
use mathlib.Core.List.{List, []}
use mathlib.Core.Path.{◌≡◌}
use Rattle.rules_parts.specs.declared.types.Answer.{Answer}
use Rattle.rules_parts.specs.declared.types.Moved.{Moved}
use Rattle.rules.specs.Answer.{Kept, Lent, Answered, silent, guarded}
use Rattle.rules_parts.specs.declared.types.Mover.{Mover}
use Rattle.rules_parts.specs.declared.types.Tape.{Tape}
use Rattle.rules_parts.specs.declared.types.Session.{Session}
use Rattle.rules.specs.Relation.{mover_wrong}
use Rattle.rules.proofs.Calls.{kept_facts}
use Rattle.rules.proofs.Guarding.{when_stopped, when_goes, guard_goes}
use Rattle.call_sending.specs.Call.{CallTold}
use Rattle.rules_moves.specs.declared.Move.{Move}
use Rattle.rules_moves.specs.Events.{Moving, idling, announced, moved, feeding, handing, moved_to_tape, moved_from_tape}
use Rattle.call_moves.specs.Told.{MoveTold, event}

module _ (k : Kept) (l : Lent) {image variables dest out out' : List ℕ} where
  module _ (stream : List ℕ) (last : Bool) {r : Moved} where
    pub to_stopped : (code : ℕ) → Some code ≡ guarded k.session l.room Some None
        → MoveTold (idling code k []) r image variables dest out out'
        → MoveTold (moved_to_tape k l stream last) r image variables dest out out'
    unfolding moved_to_tape
    to_stopped code h t = when_stopped (λ (e : Moving). MoveTold e r image variables dest out out') k.session l.room code _ _ h t

    pub to_goes : ◌≡◌ {A = Option ℕ} None (guarded k.session l.room Some None) → MoveTold (feeding k l stream last) r image variables dest out out'
        → MoveTold (moved_to_tape k l stream last) r image variables dest out out'
    unfolding moved_to_tape
    to_goes h t = when_goes (λ (e : Moving). MoveTold e r image variables dest out out') k.session l.room _ _ h t

  module _ (into : List ℕ) {r : Moved} where
    pub from_stopped : (code : ℕ) → Some code ≡ guarded k.session l.room Some None
        → MoveTold (idling code k into) r image variables dest out out'
        → MoveTold (moved_from_tape k l into) r image variables dest out out'
    unfolding moved_from_tape
    from_stopped code h t = when_stopped (λ (e : Moving). MoveTold e r image variables dest out out') k.session l.room code _ _ h t

    pub from_goes : ◌≡◌ {A = Option ℕ} None (guarded k.session l.room Some None) → MoveTold (handing k l into) r image variables dest out out'
        → MoveTold (moved_from_tape k l into) r image variables dest out out'
    unfolding moved_from_tape
    from_goes h t = when_goes (λ (e : Moving). MoveTold e r image variables dest out out') k.session l.room _ _ h t

module _ (k : Kept) (l : Lent) (mv : Move) {r : Answer} {image variables out out' : List ℕ} where
  pub event_stopped : (code : ℕ) → Some code ≡ guarded k.session l.room Some None → CallTold (silent code k) r image variables out out'
      → CallTold (event k l mv) r image variables out out'
  event_stopped code h t = when_stopped (λ (a : Answered). CallTold a r image variables out out') k.session l.room code _ _ h t

  pub event_goes : ◌≡◌ {A = Option ℕ} None (guarded k.session l.room Some None) → CallTold (announced k l mv k.image) r image variables out out'
      → CallTold (event k l mv) r image variables out out'
  event_goes h t = when_goes (λ (a : Answered). CallTold a r image variables out out') k.session l.room _ _ h t

-- the same move, image and destination, whatever they are made of
pub moved_as : (k : Kept) (l : Lent) (mv mv₂ : Move) (i i₂ b b₂ : List ℕ) (r : Moved)
    (image variables dest out out' : List ℕ) → mv ≡ mv₂ → i ≡ i₂ → b ≡ b₂
    → MoveTold (moved k l mv i b) r image variables dest out out' → MoveTold (moved k l mv₂ i₂ b₂) r image variables dest out out'
moved_as k l mv mv₂ i i₂ b b₂ r image variables dest out out' e f g h = rw (e, f, g) at h

-- the parts of a session that is not stopped are in order
pub movable : (s : Session) (room : ℕ) (m : Mover) (t : Tape) → ◌≡◌ {A = Option ℕ} None (guarded s room Some None) → m ≡ s.mover → t ≡ s.tape → mover_wrong m t ≡ false
movable s room m t g em et = rw (em, et) (kept_facts s (guard_goes s room g).valid).mover
