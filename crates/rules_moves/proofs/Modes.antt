-- Each call in the other's mode: the first test of its move stops it, so that it comes to nothing behind the guard too. Assumes nothing.
use Prim.Native.Nat.{ℕ}
use mathlib.Core.Bool.{Bool, true, not}
use mathlib.Core.List.{List, []}
use mathlib.Core.Path.{◌≡◌, refl}
use lib.Dec.{eqb}
use Rattle.xdr.specs.Choose.{choose}
use Rattle.xdr.proofs.Tests.{by_test, ne_not}
use Rattle.rules_parts.specs.Names.{mover_active, to_tape_mode, from_tape_mode, backup_operation, recover_operation}
use Rattle.rules.specs.Answer.{Kept, Lent, noticed}
use Rattle.rules.proofs.Keeping.{clash}
use Rattle.rules.proofs.Guarding.{by_guard, Goes}
use Rattle.rules_moves.specs.Moves.{idle, still, to_tape, from_tape}
use Rattle.rules_moves.specs.Events.{Moving, moved, moved_to_tape, moved_from_tape}
use Rattle.rules_moves.specs.Keeping.{Idle}
use Rattle.rules_moves.specs.Modes.{OutOfTurn, resting, other_mode, over, EachItsMode}
use Rattle.rules_moves.proofs.Sequence.{idles, moves_keep, announced_carries}

-- a call that goes on out of turn finds its first test true
stopped : (mode operation : ℕ) (k : Kept) (room : ℕ) → Goes k.session room → OutOfTurn mode k.session
    → idle mode operation k.session.source k.session.mover ≡ true
unfolding idle choose
stopped mode operation k room g (resting n) = rw (ne_not n) refl
stopped mode operation k room g (other_mode n) =
    by_test (λ b. b ≡ true) (not (eqb k.session.mover.state mover_active)) _ _ (λ _. refl) (λ _. rw (ne_not n) refl)
stopped mode operation k room g (over o) = clash k.session.closed g.opened o

-- a move that comes to nothing is no move
still_idle : (k : Kept) (l : Lent) (dest : List ℕ) → let s = k.session in Idle k dest (moved k l (still s.source s.mover s.tape) k.image dest)
unfolding noticed choose
still_idle k l dest = idles 0 k dest

to_idle : (k : Kept) (l : Lent) (stream : List ℕ) (last : Bool) → OutOfTurn to_tape_mode k.session → Idle k [] (moved_to_tape k l stream last)
unfolding moved_to_tape to_tape choose
to_idle k l stream last o =
    by_guard (Idle k []) k.session l.room _ _ (λ code. idles code k []) (λ g. rw (stopped to_tape_mode backup_operation k l.room g o) (still_idle k l []))

from_idle : (k : Kept) (l : Lent) (dest : List ℕ) → OutOfTurn from_tape_mode k.session → Idle k dest (moved_from_tape k l dest)
unfolding moved_from_tape from_tape choose
from_idle k l dest o =
    by_guard (Idle k dest) k.session l.room _ _ (λ code. idles code k dest)
    (λ g. rw (stopped from_tape_mode recover_operation k l.room g o) (still_idle k l dest))

none_handed : (k : Kept) (l : Lent) (stream : List ℕ) (last : Bool) → (moved_to_tape k l stream last).dest ≡ []
unfolding moved_to_tape
none_handed k l stream last = by_guard (λ (e : Moving). e.dest ≡ []) k.session l.room _ _ (λ _. refl) (λ _. refl)

only_read : (k : Kept) (l : Lent) (dest : List ℕ) → (moved_from_tape k l dest).answer.next.image ≡ k.image
unfolding moved_from_tape
only_read k l dest =
    let s = k.session in
    by_guard (λ (e : Moving). e.answer.next.image ≡ k.image) s l.room _ _ (λ _. refl)
    (λ _. (announced_carries k l (from_tape s.source s.mover s.tape k.image dest).move k.image).image_end)

pub each_its_mode : EachItsMode
each_its_mode =
    record {
      to_tape_lem = λ k l stream last o. record { nothing = to_idle k l stream last o; code = (moves_keep.to_tape_lem k l stream last).code };
      from_tape_lem = λ k l dest o. record { nothing = from_idle k l dest o; code = (moves_keep.from_tape_lem k l dest).code };
      none_handed = none_handed;
      only_read = only_read;
    }
