-- Rule (4) in a window with no end and in every other, and the counts. Assumes nothing.
use Prim.Native.Nat.{ℕ, ◌+◌, ◌*◌, ◌/◌, ◌%◌, ◌≤◌, ◌<◌}
use mathlib.Core.Bool.{Bool, true, false, not}
use mathlib.Core.List.{List, [], ◌∷◌}
use mathlib.Core.Path.{◌≡◌, refl, sym, ap, ◌∙◌}
use native.Mathlib.Omega.{arith}
use lib.ListN.{length}
use lib.Dec.{eqb, ltb}
use borrow.Author.Tests.{eq-eqb, ne_eqb, lt-ltb, le-ltb, eqb-true, eqb-false}
use Rattle.xdr.specs.Choose.{choose}
use Rattle.xdr.proofs.Tests.{by_test}
use Rattle.xdr_opaque.specs.Put.{Each}
use Rattle.tape_writing.specs.Writing.{room_for}
use Rattle.tape_ops.specs.Step.{Step, keeping}
use Rattle.rules_parts.specs.declared.types.Data.{Data}
use Rattle.rules_parts.specs.declared.types.Mover.{Mover}
use Rattle.rules_parts.specs.declared.types.Tape.{Tape}
use Rattle.rules_parts.specs.Names.{end_of_window, top, endless}
use Rattle.rules_parts.specs.Parts.{window_end}
use Rattle.rules.specs.Relation.{keeps, Legal, InWindow, MoverKept}
use Rattle.rules.specs.Answer.{Kept}
use Rattle.rules_parts.proofs.Ending.{end_endless, end_other}
use Rattle.rules.proofs.Kept.{mover_kept}
use Rattle.rules.proofs.Calls.{kept_facts}
use Rattle.rules_moves.specs.declared.Move.{Move}
use Rattle.rules_moves.specs.Moves.{pauses, idle, stream_ends, scant, writing, window_used, filling, to_tape}
use Rattle.rules_moves.specs.Sequence.{Event, step, runs}
use Rattle.rules_moves.specs.Sequence.{Seen, Sized, Windowed, Sought, MoverStopped, DataStopped, Listened, Joined, Began, Paused, Wrote, Handed, Nothing, Register, after, seen, register_of}
use Rattle.rules_moves.specs.Counts.{trace, records_in, sum, IsToTape}
use Rattle.rules_moves.specs.Endless.{AtFour, EndlessMoves}
use Rattle.rules_moves.proofs.Moving.{times, whole_more}
use Rattle.rules_moves.proofs.Sequence.{stepped}
use Rattle.rules_moves.proofs.Counts.{Writes, writes, counts_hold}

-- ---- rule (4)
past_used : (size offset length moved : ℕ) → length ≡ endless → top < moved + size → window_used size offset length moved ≡ true
unfolding window_used
past_used size offset length moved e h =
    let z = end_endless offset length e in
    by_test (λ (b : Bool). b ≡ true) (eqb moved (window_end offset length)) _ _ (λ _. refl) (λ _. lt-ltb (window_end offset length) (moved + size) (omega arith))

not_used : (size offset length moved : ℕ) → length ≡ endless → 1 ≤ size → moved + size ≤ top → window_used size offset length moved ≡ false
unfolding window_used choose
not_used size offset length moved e s h =
    let z = end_endless offset length e in
    let n : moved ≡ window_end offset length → ⊥ = λ q. omega arith in
    rw (ne_eqb moved (window_end offset length) n) (le-ltb (window_end offset length) (moved + size) (omega arith))

module _ (d : Data) (m : Mover) (t : Tape) (l s : List ℕ) (last : Bool) (a : AtFour d m t l s last) where
  at_four : to_tape d m t l s last ≡ filling d m t l s last
  unfolding to_tape choose
  at_four = rw (a.runs, a.sound, a.goes_on) refl

  pauses_there : top < m.moved + m.size → to_tape d m t l s last ≡ keeping l (pauses end_of_window d m t)
  unfolding filling choose
  pauses_there h = at_four ∙ rw (past_used m.size m.offset m.length m.moved a.window h) refl

  writes_before : 1 ≤ m.size → m.moved + m.size ≤ top → scant last (length s) m.size ≡ false → room_for l t.position m.size ≡ true
      → to_tape d m t l s last ≡ writing d m t l s
  unfolding filling choose
  writes_before some h c r = at_four ∙ rw (not_used m.size m.offset m.length m.moved a.window some h, c, r) refl

-- in every other window one record more fits wherever bytes moved are not at its end
bound_more : (s o n v : ℕ) → v % s ≡ 0 → o % s ≡ 0 → n % s ≡ 0 → v ≤ o + n → (v ≡ o + n → ⊥) → v + s ≤ o + n
bound_more s o n v a b c le ne =
    let x = times v s a in
    let y = times o s b in
    let z = times n s c in
    let lt : v / s * s < o / s * s + n / s * s = omega (arith, ne) in
    let g = whole_more s (v / s) (o / s) (n / s) lt in
    omega arith

at_end_only : (v e s : ℕ) → ((v ≡ e → ⊥) → v + s ≤ e) → choose (eqb v e) true (ltb e (v + s)) ≡ eqb v e
at_end_only v e s f =
    by_test (λ (b : Bool). b ≡ eqb v e) (eqb v e) _ _ (λ h. sym h) (λ h. le-ltb e (v + s) (f (eqb-false v e h)) ∙ sym h)

others : (size offset length moved : ℕ) → (length ≡ endless → ⊥) → Legal size offset length → InWindow size offset length moved
    → window_used size offset length moved ≡ eqb moved (offset + length)
unfolding window_used
others size offset length moved n l w =
    let e = end_other offset length n in
    let to = w.to in
    rw e (at_end_only moved (offset + length) size (bound_more size offset length moved w.records l.offsets (l.lengths n) (omega arith)))

-- ---- the counts
below_after : (r : Register) (x : Seen) → Writes x → r.moved ≤ top → (after r x).moved ≤ top
unfolding after
below_after r (Wrote n k) i h = omega arith
below_after r Paused i h = h
below_after r Nothing i h = h
below_after r (Handed k) i h = absurd i
below_after r (Sized n) i h = absurd i
below_after r (Windowed o n) i h = absurd i
below_after r (Sought o n) i h = absurd i
below_after r MoverStopped i h = absurd i
below_after r DataStopped i h = absurd i
below_after r (Began position) i h = h
below_after r (Listened address) i h = absurd i
below_after r (Joined address position) i h = absurd i

below_top : (w : Kept) → keeps w.session ≡ true → w.session.mover.moved ≤ top → (es : List Event) → Each IsToTape es → (runs w es).session.mover.moved ≤ top
unfolding runs
below_top w h b [] is = b
below_top w h b (e ∷ es) is =
    let g = stepped w h e in
    let m = ap (λ (r : Register). r.moved) g.register in
    let z = below_after (register_of w.session) (seen e w) (writes e w is.0) b in
    below_top (step e w) g.kept (rw m z) es is.1

unwrapped : (w : Kept) → keeps w.session ≡ true → w.session.mover.state ≡ 2 → w.session.mover.mode ≡ 0 → w.session.mover.length ≡ endless
    → (es : List Event) → Each IsToTape es → w.session.mover.moved + sum records_in (trace w es) * w.session.mover.size ≤ top
unwrapped w h s o e es is =
    let m = w.session.mover in
    let k = ((mover_kept m w.session.tape (kept_facts w.session h).mover).runs o s).to in
    let z = end_endless m.offset m.length e in
    let b = below_top w h (omega arith) es is in
    rw (← (counts_hold.recorded w h es is).moved) b

pub endless_moves : EndlessMoves
endless_moves = record { pauses_there = pauses_there; writes_before = writes_before; others = others; unwrapped = unwrapped }
