-- What holds of the slot list over lists of moves: one move leaves it so, and then each. Assumes nothing.
use Prim.Native.Nat.{ℕ}
use mathlib.Core.Bool.{true}
use mathlib.Core.List.{List, [], ◌∷◌}
use mathlib.Core.Path.{◌≡◌, refl, ◌∙◌}
use native.Mathlib.Omega.{arith}
use lib.ListN.{length, get_or}
use Rattle.changer_elements.specs.Slots.{names_none_twice, times}
use Rattle.changer_elements.specs.Move.{move_medium}
use Rattle.changer_elements.specs.MovesHold.{InOnePlace, MoveCall, after_move, after_moves, ListHolds, ElementsHold}
use Rattle.changer_elements.proofs.Counts.{moved_length, in_one_place, times_some, names_hold}
use Rattle.changer_elements.proofs.Moves.{places_hold, goes, goes_times, moves_hold, by_outcome}
use Rattle.changer_elements.proofs.Senses.{senses_hold}
use Rattle.changer_elements.proofs.Staying.{none_twice_after, drive_stays, drive_after, in_drive_lem}

one_length : (slots : List ℕ) (m : MoveCall) → length (after_move slots m) ≡ length slots
one_length slots m =
    by_outcome (λ (l : List ℕ). length l ≡ length slots) slots (move_medium m.cdb slots m.opened) refl
    (λ from to h. moved_length from to slots)

one_times : (slots : List ℕ) (m : MoveCall) → length slots ≡ 9 → (v : ℕ) → (v ≡ 0 → ⊥) → times v (after_move slots m) ≡ times v slots
one_times slots m n v z =
    by_outcome (λ (l : List ℕ). times v l ≡ times v slots) slots (move_medium m.cdb slots m.opened) refl
    (λ from to h. goes_times m.cdb slots m.opened from to n (goes m.cdb slots m.opened from to h) v z)

long : (slots : List ℕ) (ms : List MoveCall) → length (after_moves slots ms) ≡ length slots
unfolding after_moves
long slots [] = refl
long slots (m ∷ ms) = long (after_move slots m) ms ∙ one_length slots m

same_times : (slots : List ℕ) (ms : List MoveCall) → length slots ≡ 9 → (v : ℕ) → (v ≡ 0 → ⊥) →
    times v (after_moves slots ms) ≡ times v slots
unfolding after_moves
same_times slots [] n v z = refl
same_times slots (m ∷ ms) n v z = same_times (after_move slots m) ms (one_length slots m ∙ n) v z ∙ one_times slots m n v z

none_twice : (slots : List ℕ) (ms : List MoveCall) → names_none_twice slots ≡ true →
    names_none_twice (after_moves slots ms) ≡ true
unfolding after_moves
none_twice slots [] e = e
none_twice slots (m ∷ ms) e = none_twice (after_move slots m) ms (none_twice_after m.cdb slots m.opened e)

in_one : (slots : List ℕ) (ms : List MoveCall) → length slots ≡ 9 → names_none_twice slots ≡ true → (v : ℕ) → (v ≡ 0 → ⊥) →
    (i : ℕ) → get_or slots i 0 ≡ v → InOnePlace v (after_moves slots ms)
in_one slots ms n e v z i q =
    in_one_place v (after_moves slots ms) (long slots ms ∙ n) z
    (omega (arith, same_times slots ms n v z, names_hold.once slots n e v z, times_some v i slots z q))

lists_hold : ListHolds
lists_hold =
    record {
      long = long;
      same_times = same_times;
      none_twice = none_twice;
      after = none_twice_after;
      in_one = in_one;
      drive_stays = drive_stays;
      held = drive_after;
      in_drive_lem = in_drive_lem;
    }

pub elements_hold : ElementsHold
elements_hold =
    record {
      elements = places_hold;
      names = names_hold;
      moves = moves_hold;
      senses = senses_hold;
      lists = lists_hold;
    }
