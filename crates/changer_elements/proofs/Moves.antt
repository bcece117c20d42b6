-- What holds of elements and of one move: each refusal's test is taken off in turn, and an accepted move goes from a full
-- place to an empty one. Assumes nothing.
use Prim.Native.Nat.{ℕ, ◌+◌, ◌-◌, ◌≤◌, ◌<◌}
use mathlib.Core.Bool.{Bool, true, false, not}
use mathlib.Core.List.{List}
use mathlib.Core.Path.{◌≡◌, refl, sym, ap, ◌∙◌}
use native.Mathlib.Omega.{arith}
use lib.ListN.{length, get_or}
use lib.Dec.{eqb, ltb}
use borrow.Author.Tests.{eqb-true, ltb-false, not-true}
use Rattle.std.specs.Prelude.{Err, Result, Ok}
use Rattle.xdr.specs.Choose.{choose}
use Rattle.xdr.proofs.Tests.{pick_if, pick_else, eqb_yes, eqb_no, leb_yes, leb_no, ltb_no, yes_not, yes, none, none_of, if_so, when, is, isnt}
use Rattle.changer_elements.specs.declared.Sense.{Sense}
use Rattle.changer_elements.specs.declared.Places.{Places}
use Rattle.changer_elements.specs.Elements.{has_place, place_of, is_full, half}
use Rattle.changer_elements.specs.Slots.{moved, times}
use Rattle.changer_elements.specs.Move.{is_movable, is_held, from_to, judge_move, move_medium, slots_after}
use Rattle.changer_elements.specs.MovesHold.{PlacesHold, Movable, MovesHold}
use Rattle.changer_elements.proofs.Laws.{both, by_cases, slot_between, place_drive, place_slot, full_yes, full_no, fields_are}
use Rattle.changer_elements.proofs.Counts.{moved_times, moved_to, moved_from, moved_other}

-- ---- elements
of_slots : (k : ℕ) → k < 8 → (has_place (16 + k) ≡ true) × (place_of (16 + k) ≡ k + 1)
unfolding has_place
of_slots k h =
    let other : 16 + k ≡ 1 → ⊥ = λ e. omega arith in
    let low : 16 ≤ 16 + k = omega arith in
    let high : 16 + k ≤ 23 = omega arith in
    let place : 16 + k - 15 ≡ k + 1 = omega arith in
    (sym (pick_else _ (eqb_no other) (pick_if _ (leb_yes low) (sym (leb_yes high)))), sym (place_slot (16 + k) other) ∙ place)

no_more : (e : ℕ) → 23 < e → has_place e ≡ false
unfolding has_place
no_more e h =
    let low : 16 ≤ e = omega arith in
    sym (pick_else _ (eqb_no (λ (q : e ≡ 1). omega arith)) (pick_if _ (leb_yes low) (sym (leb_no h))))

no_between : (e : ℕ) → 1 < e → e < 16 → has_place e ≡ false
unfolding has_place
no_between e h k = sym (pick_else _ (eqb_no (λ (q : e ≡ 1). omega arith)) (pick_else _ (leb_no k) refl))

-- the place of the drive is 0, and that of a slot is not
pub drive_or_slot : {A : Type 0} (e : ℕ) → has_place e ≡ true → (e ≡ 1 → place_of e ≡ 0 → A) →
    (16 ≤ e → e ≤ 23 → place_of e ≡ e - 15 → A) → A
drive_or_slot e h f g =
    by_cases (eqb e 1)
    (λ p. let d = eqb-true e 1 p in f d (sym (place_drive e d)))
    (λ p. let b = slot_between e h (isnt p) in g b.0 b.1 (sym (place_slot e (isnt p))))

within : (e : ℕ) → has_place e ≡ true → place_of e < 9
within e h = drive_or_slot e h (λ d p. omega arith) (λ l m p. omega arith)

pub apart : (e f : ℕ) → has_place e ≡ true → has_place f ≡ true → place_of e ≡ place_of f → e ≡ f
apart e f h k q =
    drive_or_slot e h
    (λ d p. drive_or_slot f k (λ d' p'. omega arith) (λ l m p'. absurd (omega arith)))
    (λ l m p. drive_or_slot f k (λ d' p'. absurd (omega arith)) (λ l' m' p'. omega arith))

pub places_hold : PlacesHold
unfolding has_place place_of choose
places_hold =
    record {
      of_drive = (refl, refl);
      of_slots = of_slots;
      no_transport = refl;
      no_more = no_more;
      no_between = no_between;
      within = within;
      apart = apart;
    }

-- ---- one move
-- a test that does not refuse, whatever its sense
passes : (b : Bool) (s : Sense) {o : Result Places Sense} {from to : ℕ} → choose b (Err s) o ≡ from_to from to → (b ≡ false) × (o ≡ from_to from to)
unfolding choose
passes true s h = absurd (let z : ◌≡◌ {A = ℕ} 0 1 = cc in omega arith)
passes false s h = (refl, h)

is_empty : (e : ℕ) (slots : List ℕ) → is_full slots e ≡ false → get_or slots (place_of e) 0 ≡ 0
unfolding is_full
is_empty e slots h = is h

is_full_lem : (e : ℕ) (slots : List ℕ) → is_full slots e ≡ true → get_or slots (place_of e) 0 ≡ 0 → ⊥
unfolding is_full
is_full_lem e slots h = isnt (not-true _ h)

is_free : (opened : Bool) (source destination : ℕ) → is_held opened source destination ≡ false → opened ≡ true →
    (source ≡ 1 → ⊥) × (destination ≡ 1 → ⊥)
unfolding is_held
is_free opened source destination h o =
    let k = none_of (eqb source 1) (when opened false h o) in
    (isnt k.0, isnt k.1)

only_so : (cdb slots : List ℕ) (opened : Bool) (from to : ℕ) → move_medium cdb slots opened ≡ from_to from to → Movable cdb slots opened
unfolding move_medium judge_move is_movable
only_so cdb slots opened from to h =
    let first = passes (ltb (length cdb) 12) _ h in
    let second = passes (not (is_movable (half cdb 2) (half cdb 4) (half cdb 6))) _ first.1 in
    let third = passes (is_full slots (half cdb 6)) _ second.1 in
    let fourth = passes (not (is_full slots (half cdb 4))) _ third.1 in
    let fifth = passes (is_held opened (half cdb 4) (half cdb 6)) _ fourth.1 in
    let named = both (eqb (half cdb 2) 0) (yes second.0) in
    let ends = both (has_place (half cdb 4)) named.1 in
    record {
      long = ltb-false (length cdb) 12 first.0;
      by = eqb-true (half cdb 2) 0 named.0;
      source = ends.0;
      destination = ends.1;
      empty = is_empty (half cdb 6) slots third.0;
      full = is_full_lem (half cdb 4) slots (yes fourth.0);
      free = is_free opened (half cdb 4) (half cdb 6) fifth.0;
    }

accepts : (cdb slots : List ℕ) (opened : Bool) → Movable cdb slots opened →
    move_medium cdb slots opened ≡ from_to (place_of (half cdb 4)) (place_of (half cdb 6))
unfolding move_medium judge_move is_movable is_held
accepts cdb slots opened m =
    let named : is_movable (half cdb 2) (half cdb 4) (half cdb 6) ≡ true = sym (pick_if _ (eqb_yes m.by) (pick_if _ m.source (sym m.destination))) in
    let free : is_held opened (half cdb 4) (half cdb 6) ≡ false = if_so opened (λ o. none (eqb_no (m.free o).0) (eqb_no (m.free o).1)) in
    sym
    (pick_else _ (ltb_no m.long)
    (pick_else _ (yes_not named)
    (pick_else _ (full_no (half cdb 6) _ slots refl m.empty)
    (pick_else _ (yes_not (full_yes (half cdb 4) _ slots refl m.full))
    (pick_else _ free refl)))))

abbrev from_of : Result Places Sense → ℕ
from_of (Ok p) = p.from
from_of (Err s) = 0

abbrev to_of : Result Places Sense → ℕ
to_of (Ok p) = p.to
to_of (Err s) = 0

-- what an accepted move is: its places are those of its fields
pub record Goes (cdb slots : List ℕ) (opened : Bool) (from to : ℕ) : Type 0 where
  pub moves : Movable cdb slots opened
  pub source : place_of (half cdb 4) ≡ from
  pub destination : place_of (half cdb 6) ≡ to

pub goes : (cdb slots : List ℕ) (opened : Bool) (from to : ℕ) → move_medium cdb slots opened ≡ from_to from to → Goes cdb slots opened from to
goes cdb slots opened from to h =
    let m = only_so cdb slots opened from to h in
    let same : ◌≡◌ {A = Result Places Sense} (from_to (place_of (half cdb 4)) (place_of (half cdb 6))) (from_to from to) = sym (accepts cdb slots opened m) ∙ h in
    record { moves = m; source = ap from_of same; destination = ap to_of same }

after_is : (slots : List ℕ) (o : Result Places Sense) (from to : ℕ) → o ≡ from_to from to → slots_after slots o ≡ moved from to slots
unfolding slots_after
after_is slots o from to h = ap (slots_after slots) h

module _ (cdb slots : List ℕ) (opened : Bool) (from to : ℕ) (g : Goes cdb slots opened from to) where
  pub source_within : from < 9
  source_within = omega (arith, within (half cdb 4) g.moves.source, g.source)

  destination_within : to < 9
  destination_within = omega (arith, within (half cdb 6) g.moves.destination, g.destination)

  pub source_full : get_or slots from 0 ≡ 0 → ⊥
  source_full z = g.moves.full (ap (λ (k : ℕ). get_or slots k 0) g.source ∙ z)

  pub destination_empty : get_or slots to 0 ≡ 0
  destination_empty = ap (λ (k : ℕ). get_or slots k 0) (sym g.destination) ∙ g.moves.empty

pub moves_within : (cdb slots : List ℕ) (opened : Bool) (from to : ℕ) → move_medium cdb slots opened ≡ from_to from to → (from < 9) × (to < 9)
moves_within cdb slots opened from to h =
    let g = goes cdb slots opened from to h in
    (source_within cdb slots opened from to g, destination_within cdb slots opened from to g)

module _ (cdb slots : List ℕ) (opened : Bool) (from to : ℕ) (n : length slots ≡ 9) (g : Goes cdb slots opened from to) where
  source_in : from < length slots
  source_in = omega (arith, source_within cdb slots opened from to g)

  destination_in : to < length slots
  destination_in = omega (arith, destination_within cdb slots opened from to g)

  full : get_or slots from 0 ≡ 0 → ⊥
  full = source_full cdb slots opened from to g

  empty : get_or slots to 0 ≡ 0
  empty = destination_empty cdb slots opened from to g

  pub goes_times : (v : ℕ) → (v ≡ 0 → ⊥) → times v (moved from to slots) ≡ times v slots
  goes_times = moved_times from to slots source_in destination_in full empty

  goes_there : (get_or (moved from to slots) to 0 ≡ get_or slots from 0) × (get_or (moved from to slots) from 0 ≡ 0)
  goes_there = (
    moved_to from to slots source_in destination_in full empty,
    moved_from from to slots source_in destination_in full empty,
  )

arrives : (cdb slots : List ℕ) (opened : Bool) (from to : ℕ) → length slots ≡ 9 → move_medium cdb slots opened ≡ from_to from to →
    (get_or (slots_after slots (move_medium cdb slots opened)) to 0 ≡ get_or slots from 0)
    × (get_or (slots_after slots (move_medium cdb slots opened)) from 0 ≡ 0)
arrives cdb slots opened from to n h =
    rw (after_is slots (move_medium cdb slots opened) from to h)
    (goes_there cdb slots opened from to n (goes cdb slots opened from to h))

others : (cdb slots : List ℕ) (opened : Bool) (from to i : ℕ) → move_medium cdb slots opened ≡ from_to from to →
    (i ≡ from → ⊥) → (i ≡ to → ⊥) →
    get_or (slots_after slots (move_medium cdb slots opened)) i 0 ≡ get_or slots i 0
others cdb slots opened from to i h p q = rw (after_is slots (move_medium cdb slots opened) from to h) (moved_other from to i slots p q)

not_itself : (cdb slots : List ℕ) (opened : Bool) (from to : ℕ) → move_medium cdb slots opened ≡ from_to from to → half cdb 4 ≡ half cdb 6 → ⊥
not_itself cdb slots opened from to h e =
    let m = only_so cdb slots opened from to h in
    m.full (ap (λ (f : ℕ). get_or slots (place_of f) 0) e ∙ m.empty)

-- a field of two bytes hangs on these
same_field : (a b : List ℕ) (at : ℕ) → get_or a at 0 ≡ get_or b at 0 → get_or a (at + 1) 0 ≡ get_or b (at + 1) 0 → half a at ≡ half b at
unfolding half
same_field a b at h k = cc

long_is : (cdb slots : List ℕ) (opened : Bool) → 12 ≤ length cdb →
    move_medium cdb slots opened ≡ judge_move (half cdb 2) (half cdb 4) (half cdb 6) slots opened
unfolding move_medium
long_is cdb slots opened h = sym (pick_else _ (ltb_no h) refl)

by_fields : (a b slots : List ℕ) (opened : Bool) → 12 ≤ length a → 12 ≤ length b → ((i : ℕ) → 2 ≤ i → i < 8 → get_or a i 0 ≡ get_or b i 0) →
    move_medium a slots opened ≡ move_medium b slots opened
by_fields a b slots opened h k e =
    let same : (at : ℕ) → 2 ≤ at → at < 7 → half a at ≡ half b at = λ at l m. same_field a b at (e at l (omega arith)) (e (at + 1) (omega arith) (omega arith)) in
    long_is a slots opened h
    ∙ fields_are slots opened (same 2 (omega arith) (omega arith)) (same 4 (omega arith) (omega arith)) (same 6 (omega arith) (omega arith))
    ∙ sym (long_is b slots opened k)

pub moves_hold : MovesHold
moves_hold =
    record {
      accepts = accepts;
      only_so = only_so;
      within = moves_within;
      arrives = arrives;
      others = others;
      not_itself = not_itself;
      by_fields = by_fields;
    }

-- what holds of the list as it was and of every accepted move holds of the list afterwards
pub by_outcome : (P : List ℕ → Type 0) (slots : List ℕ) (o : Result Places Sense) → P slots →
    ((from to : ℕ) → o ≡ from_to from to → P (moved from to slots)) → P (slots_after slots o)
unfolding slots_after
by_outcome P slots (Err s) p f = p
by_outcome P slots (Ok q) p f = f q.from q.to refl
