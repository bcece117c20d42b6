-- The counts over any sequence of moves: what one call adds, from what is seen of it, and by induction what a list adds. Assumes nothing.
use Prim.Native.Nat.{ℕ, ◌+◌, ◌*◌, ◌/◌, ◌%◌}
use mathlib.Core.Bool.{Bool, true, false, not}
use mathlib.Core.List.{List, [], ◌∷◌}
use mathlib.Core.Path.{◌≡◌, refl, sym, ap, ◌∙◌}
use native.Mathlib.Omega.{arith}
use native.Mathlib.Nat.{add-zero, add_assoc, add-mul, zero-mul, one-mul, mod-eq_of_lt, add-mul-div_right}
use lib.Dec.{eqb}
use borrow.Author.Tests.{ne_eqb}
use Rattle.xdr.specs.Choose.{choose}
use Rattle.xdr.proofs.Tests.{by_test}
use Rattle.xdr_opaque.specs.Put.{Each}
use Rattle.rules_parts.specs.declared.types.Mover.{Mover}
use Rattle.rules_parts.specs.Parts.{wrapped}
use Rattle.rules.specs.MoverService.{record_number}
use Rattle.rules.specs.Relation.{keeps}
use Rattle.rules.specs.Answer.{Kept}
use Rattle.rules_moves.specs.Sequence.{Event, Asked, ToTape, FromTape, Ended, Made, Lost, Inserted, Renumbered, StoreLent, SlotsLent, step, runs}
use Rattle.rules_moves.specs.Sequence.{Seen, Sized, Windowed, Sought, MoverStopped, DataStopped, Listened, Joined, Began, Paused, Wrote, Handed, Nothing}
use Rattle.rules_moves.specs.Sequence.{Register, register_of, after, seen, FitsRegister, Legitimate, move_shown, made_shown, processed_by, count_of}
use Rattle.rules_moves.specs.Counts.{trace, replay, moved_by, records_in, sum, fed_of, IsMove, IsToTape, CountsOfMoves, CountsOfRecords, CountsHold}
use Rattle.rules_moves.proofs.Sequence.{stepped, legitimate}

replayed : (w : Kept) → keeps w.session ≡ true → (es : List Event) → register_of (runs w es).session ≡ replay (register_of w.session) (trace w es)
unfolding runs trace replay
replayed w h [] = refl
replayed w h (e ∷ es) =
    let g = stepped w h e in
    replayed (step e w) g.kept es ∙ ap (λ (r : Register). replay r (trace (step e w) es)) g.register

-- ---- what is seen of a move
abbrev Moves : Seen → Type 0
Moves (Wrote n k) = Unit {0}
Moves (Handed k) = Unit {0}
Moves Paused = Unit {0}
Moves Nothing = Unit {0}
Moves (Sized n) = ⊥
Moves (Windowed o n) = ⊥
Moves (Sought o n) = ⊥
Moves MoverStopped = ⊥
Moves DataStopped = ⊥
Moves (Began position) = Unit {0}
Moves (Listened address) = ⊥
Moves (Joined address position) = ⊥

abbrev pub Writes : Seen → Type 0
Writes (Wrote n k) = Unit {0}
Writes Paused = Unit {0}
Writes Nothing = Unit {0}
Writes (Handed k) = ⊥
Writes (Sized n) = ⊥
Writes (Windowed o n) = ⊥
Writes (Sought o n) = ⊥
Writes MoverStopped = ⊥
Writes DataStopped = ⊥
Writes (Began position) = Unit {0}
Writes (Listened address) = ⊥
Writes (Joined address position) = ⊥

pub by_shown : (P : Seen → Type 0) (m next : Mover) (n : ℕ) (what : Seen) → P what → P Paused → P Nothing → P (move_shown m next n what)
unfolding move_shown
by_shown P m next n what a b c =
    by_test P (not (eqb n 0)) _ _ (λ _. a) (λ _. by_test P (not (eqb m.state 2)) _ _ (λ _. c) (λ _. by_test P (eqb next.state 3) _ _ (λ _. b) (λ _. c)))

pub by_made : (P : Seen → Type 0) (m next : Mover) (position : ℕ) → P (Began position) → P Nothing → P (made_shown m next position)
unfolding made_shown
by_made P m next position a b = by_test P (eqb m.state 2) _ _ (λ _. b) (λ _. by_test P (eqb next.state 2) _ _ (λ _. a) (λ _. b))

moves : (e : Event) (w : Kept) → IsMove e → Moves (seen e w)
unfolding seen
moves (ToTape l stream last) w i = by_shown Moves _ _ _ _ tt tt tt
moves (FromTape l dest) w i = by_shown Moves _ _ _ _ tt tt tt
moves (Inserted image) w i = tt
moves (Renumbered n) w i = tt
moves (StoreLent variables) w i = tt
moves (SlotsLent slots) w i = tt
moves (Asked c) w i = absurd i
moves (Ended l ok) w i = absurd i
moves (Made l mover) w i = by_made Moves _ _ _ tt tt
moves (Lost l mover) w i = tt

pub writes : (e : Event) (w : Kept) → IsToTape e → Writes (seen e w)
unfolding seen
writes (ToTape l stream last) w i = by_shown Writes _ _ _ _ tt tt tt
writes (Inserted image) w i = tt
writes (Renumbered n) w i = tt
writes (StoreLent variables) w i = tt
writes (SlotsLent slots) w i = tt
writes (FromTape l dest) w i = absurd i
writes (Asked c) w i = absurd i
writes (Ended l ok) w i = absurd i
writes (Made l mover) w i = by_made Writes _ _ _ tt tt
writes (Lost l mover) w i = tt

-- ---- modulo 2^64
wrap_more : (a b c : ℕ) → wrapped (wrapped (a + b) + c) ≡ wrapped (a + (b + c))
wrap_more a b c = omega arith

wrap_none : (a b : ℕ) → wrapped (a + b) ≡ wrapped (a + (0 + b))
wrap_none a b = omega arith

-- what the data end has processed, b: the mover is joined by TCP
fed_more : (b : Bool) (p i k : ℕ) → wrapped (choose b p (wrapped (p + i)) + choose b 0 k) ≡ wrapped (p + choose b 0 (i + k))
unfolding choose
fed_more true p i k = refl
fed_more false p i k = wrap_more p i k

fed_none : (b : Bool) (p k : ℕ) → wrapped (p + choose b 0 k) ≡ wrapped (p + choose b 0 (0 + k))
unfolding choose
fed_none true p k = refl
fed_none false p k = wrap_none p k

-- one more seen, before what is still to be added
counts_after : (r : Register) (x : Seen) (j k : ℕ) → Moves x
    → (wrapped ((after r x).moved + j) ≡ wrapped (r.moved + (moved_by x + j)))
    × (wrapped ((after r x).processed + fed_of (after r x).address k) ≡ wrapped (r.processed + fed_of r.address (count_of x + k)))
unfolding after moved_by count_of processed_by fed_of
counts_after r (Wrote n i) j k m = (wrap_more r.moved n j, fed_more (eqb r.address 1) r.processed i k)
counts_after r (Handed i) j k m = (wrap_more r.moved i j, fed_more (eqb r.address 1) r.processed i k)
counts_after r Paused j k m = (wrap_none r.moved j, fed_none (eqb r.address 1) r.processed k)
counts_after r Nothing j k m = (wrap_none r.moved j, fed_none (eqb r.address 1) r.processed k)
counts_after r (Began position) j k m = (wrap_none r.moved j, fed_none (eqb r.address 1) r.processed k)
counts_after r (Sized n) j k m = absurd m
counts_after r (Windowed o n) j k m = absurd m
counts_after r (Sought o n) j k m = absurd m
counts_after r MoverStopped j k m = absurd m
counts_after r DataStopped j k m = absurd m
counts_after r (Listened address) j k m = absurd m
counts_after r (Joined address position) j k m = absurd m

nothing_fed : (address p : ℕ) → wrapped p ≡ wrapped (p + fed_of address 0)
unfolding fed_of
nothing_fed address p = by_test (λ (n : ℕ). wrapped p ≡ wrapped (p + n)) (eqb address 1) 0 0 (λ _. ap wrapped (sym (add-zero p))) (λ _. ap wrapped (sym (add-zero p)))

totalled : (w : Kept) → keeps w.session ≡ true → (es : List Event) → Each IsMove es → CountsOfMoves w es
unfolding runs trace sum
totalled w h [] is = record { moved = ap wrapped (sym (add-zero _)); processed = nothing_fed w.session.mover.address w.session.source.processed }
totalled w h (e ∷ es) is =
    let g = stepped w h e in
    let x = moves e w is.0 in
    let c = totalled (step e w) g.kept es is.1 in
    let n = counts_after (register_of w.session) (seen e w) (sum moved_by (trace (step e w) es)) (sum count_of (trace (step e w) es)) x in
    let a = ap (λ (r : Register). wrapped (r.moved + sum moved_by (trace (step e w) es))) g.register in
    let b = ap (λ (r : Register). wrapped (r.processed + fed_of r.address (sum count_of (trace (step e w) es)))) g.register in
    record {
      moved = c.moved ∙ a ∙ n.0;
      processed = c.processed ∙ b ∙ n.1;
    }

-- ---- records to tape
record Written (r : Register) (x : Seen) : Type 0 where
  size : (after r x).size ≡ r.size
  moved : (after r x).moved ≡ r.moved + records_in x * r.size

one_record : (r : Register) (x : Seen) → Writes x → FitsRegister r x → Legitimate r → Written r x
unfolding after records_in
one_record r (Wrote n k) i f l =
    let e = f.exact in
    let w = (l f.window).fits in
    let t = f.to in
    let u : wrapped (r.moved + n) ≡ r.moved + n = mod-eq_of_lt (omega arith) in
    record { size = refl; moved = u ∙ rw e (ap (λ (k : ℕ). r.moved + k) (sym (one-mul r.size))) }
one_record r Paused i f l = record { size = refl; moved = sym (ap (λ (k : ℕ). r.moved + k) (zero-mul r.size) ∙ add-zero r.moved) }
one_record r (Began position) i f l = record { size = refl; moved = sym (ap (λ (k : ℕ). r.moved + k) (zero-mul r.size) ∙ add-zero r.moved) }
one_record r Nothing i f l = record { size = refl; moved = sym (ap (λ (k : ℕ). r.moved + k) (zero-mul r.size) ∙ add-zero r.moved) }
one_record r (Handed k) i f l = absurd i
one_record r (Sized n) i f l = absurd i
one_record r (Windowed o n) i f l = absurd i
one_record r (Sought o n) i f l = absurd i
one_record r MoverStopped i f l = absurd i
one_record r DataStopped i f l = absurd i
one_record r (Listened address) i f l = absurd i
one_record r (Joined address position) i f l = absurd i

number_of : (moved size k : ℕ) → (size ≡ 0 → ⊥) → record_number (moved + k * size) size ≡ (moved / size + k) % 4294967296
unfolding record_number choose
number_of moved size k h = rw (ne_eqb size 0 h) (ap (λ (n : ℕ). n % 4294967296) (add-mul-div_right moved k {z = size} (omega (arith, h))))

record Grown (w v : Kept) (k : ℕ) : Type 0 where
  size : v.session.mover.size ≡ w.session.mover.size
  moved : v.session.mover.moved ≡ w.session.mover.moved + k * w.session.mover.size

grown_more : (w u v : Kept) (j k : ℕ) → Grown w u j → Grown u v k → Grown w v (j + k)
grown_more w u v j k a b =
    let n = w.session.mover.moved in
    let z = w.session.mover.size in
    let sums = add_assoc n (j * z) (k * z) ∙ ap (λ (i : ℕ). n + i) (sym (add-mul j k z)) in
    record { size = b.size ∙ a.size; moved = b.moved ∙ rw (a.size, a.moved) sums }

grown : (w : Kept) → keeps w.session ≡ true → (es : List Event) → Each IsToTape es → Grown w (runs w es) (sum records_in (trace w es))
unfolding runs trace sum
grown w h [] is = record { size = refl; moved = sym (ap (λ (k : ℕ). w.session.mover.moved + k) (zero-mul w.session.mover.size) ∙ add-zero w.session.mover.moved) }
grown w h (e ∷ es) is =
    let g = stepped w h e in
    let R = register_of w.session in
    let o = one_record R (seen e w) (writes e w is.0) g.fits (legitimate w.session h) in
    let a = ap (λ (r : Register). r.size) g.register in
    let b = ap (λ (r : Register). r.moved) g.register in
    grown_more w (step e w) (runs (step e w) es) (records_in (seen e w)) _ (record { size = a ∙ o.size; moved = b ∙ o.moved }) (grown (step e w) g.kept es is.1)

recorded : (w : Kept) → keeps w.session ≡ true → (es : List Event) → Each IsToTape es → CountsOfRecords w es
recorded w h es is =
    let g = grown w h es is in
    record { size = g.size; moved = g.moved; number = λ n. rw (g.size, g.moved) (number_of w.session.mover.moved w.session.mover.size (sum records_in (trace w es)) n) }

pub counts_hold : CountsHold
counts_hold = record { replayed = replayed; totalled = totalled; recorded = recorded }
