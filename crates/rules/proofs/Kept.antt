-- The relation's tests and its facts. Assumes nothing.
use Prim.Native.Nat.{ℕ, ◌+◌, ◌%◌, ◌≤◌}
use mathlib.Core.Bool.{Bool, true, false, not}
use mathlib.Core.Path.{◌≡◌}
use native.Mathlib.Omega.{arith}
use lib.Dec.{eqb, ltb}
use borrow.Author.Tests.{eq-eqb, ne_eqb, le-ltb, ltb-false, eqb-true}
use Rattle.xdr.specs.Choose.{choose}
use Rattle.xdr.proofs.Tests.{by_test, when, unless, none_of, none, if_not, if_so, is, isnt, yes, eq_not, yes_not}
use Rattle.rules_parts.specs.declared.types.Mover.{Mover}
use Rattle.rules_parts.specs.declared.types.Tape.{Tape}
use Rattle.rules_parts.specs.Names.{top}
use Rattle.rules_parts.specs.Parts.{holds_tape, unwritable, window_end, length_wrong}
use Rattle.rules.specs.Relation.{numbers_wrong, window_wrong, start_wrong, hold_wrong, strays, resume_wrong, place_wrong, origin_wrong, mover_wrong, Legal, Held, InWindow, MoverKept}
use Rattle.rules_parts.proofs.Ending.{past_top, no_past, LengthRight, length_right, right_length}

-- ---- a window in force is a legal one
pub legal_by : (size offset length : ℕ) → 1 ≤ size → offset % size ≡ 0 → length_wrong size offset length ≡ false → Legal size offset length
legal_by size offset length s o h =
    let r = length_right size offset length h in
    record { some = s; offsets = o; lengths = r.whole; starts = r.starts; fits = r.fits }

module _ (size offset length : ℕ) where
  legal : window_wrong size offset length ≡ false → (length ≡ 0 → ⊥) → Legal size offset length
  unfolding window_wrong
  legal h some =
      let a = unless (eqb length 0) _ h (ne_eqb length 0 some) in
      let b = none_of _ a in
      let c = none_of _ b.1 in
      let z : size ≡ 0 → ⊥ = isnt b.0 in
      let s : 1 ≤ size = omega arith in
      legal_by size offset length s (is c.0) c.1

  not_wrong : Legal size offset length → choose (eqb size 0) true (choose (not (eqb (offset % size) 0)) true (length_wrong size offset length)) ≡ false
  not_wrong l =
      let n : size ≡ 0 → ⊥ = λ z. (let s = l.some in omega arith) in
      none (ne_eqb size 0 n) (none (eq_not l.offsets) (right_length size offset length (record { whole = l.lengths; starts = l.starts; fits = l.fits })))

  no_window_wrong : ((length ≡ 0 → ⊥) → Legal size offset length) → window_wrong size offset length ≡ false
  unfolding window_wrong
  no_window_wrong f = if_not (eqb length 0) (λ e. not_wrong (f (isnt e)))

-- ---- within the window
module _ (size offset length moved : ℕ) where
  within : strays size offset length moved ≡ false → InWindow size offset length moved
  unfolding strays
  within h =
      let z = none_of _ h in
      let a = none_of _ z.1 in
      let b = none_of _ a.1 in
      let n : size ≡ 0 → ⊥ = isnt z.0 in
      let s : 1 ≤ size = omega arith in
      record { some = s; from = ltb-false moved offset a.0; to = ltb-false (window_end offset length) moved b.0; records = is b.1 }

  no_stray : InWindow size offset length moved → strays size offset length moved ≡ false
  unfolding strays
  no_stray w =
      let n : size ≡ 0 → ⊥ = λ z. (let s = w.some in omega arith) in
      none (ne_eqb size 0 n)
      (none (le-ltb moved offset w.from) (none (le-ltb (window_end offset length) moved w.to) (eq_not w.records)))

-- ---- the tape is held
pub writes : (mode : ℕ) (writable : Bool) → unwritable mode writable ≡ false → mode ≡ 0 → writable ≡ true
unfolding unwritable
writes mode writable h e = yes (when (eqb mode 0) _ h (eq-eqb mode 0 e))

no_unwritable : (mode : ℕ) (writable : Bool) → (mode ≡ 0 → writable ≡ true) → unwritable mode writable ≡ false
unfolding unwritable
no_unwritable mode writable f = if_so (eqb mode 0) (λ e. yes_not (f (eqb-true mode 0 e)))

module _ (m : Mover) (t : Tape) where
  held : hold_wrong m t ≡ false → holds_tape m.state ≡ true → Held m t
  unfolding hold_wrong
  held h e =
      let a = none_of _ (when (holds_tape m.state) _ h e) in
      let b = none_of _ a.1 in
      record { window = isnt a.0; opened = yes b.0; writes = writes m.mode t.writable b.1 }

  no_hold_wrong : (holds_tape m.state ≡ true → Held m t) → hold_wrong m t ≡ false
  unfolding hold_wrong
  no_hold_wrong f =
      if_so (holds_tape m.state)
      (λ e. let g = f e in none (ne_eqb m.length 0 g.window) (none (yes_not g.opened) (no_unwritable m.mode t.writable g.writes)))

-- ---- the mover's place on the stream, in mode 0
module _ (m : Mover) where
  at_zero : place_wrong m ≡ false → m.mode ≡ 0
      → choose (eqb m.state 1) (not (eqb m.offset 0))
      (choose (eqb m.state 2) (strays m.size m.offset m.length m.moved) (choose (eqb m.state 3) (resume_wrong m.length m.offset m.moved) false)) ≡ false
  unfolding place_wrong
  at_zero h e = unless (not (eqb m.mode 0)) _ h (eq_not e)

  place_listens : place_wrong m ≡ false → m.mode ≡ 0 → m.state ≡ 1 → m.offset ≡ 0
  place_listens h e s = is (when (eqb m.state 1) _ (at_zero h e) (eq-eqb m.state 1 s))

  place_runs : place_wrong m ≡ false → m.mode ≡ 0 → m.state ≡ 2 → InWindow m.size m.offset m.length m.moved
  place_runs h e s =
      let n : m.state ≡ 1 → ⊥ = λ z. omega arith in
      within m.size m.offset m.length m.moved (when (eqb m.state 2) _ (unless (eqb m.state 1) _ (at_zero h e) (ne_eqb m.state 1 n)) (eq-eqb m.state 2 s))

  place_resumes : place_wrong m ≡ false → m.mode ≡ 0 → m.state ≡ 3 → (m.length ≡ 0 → ⊥) → m.offset ≡ m.moved
  unfolding resume_wrong
  place_resumes h e s k =
      let n : m.state ≡ 1 → ⊥ = λ z. omega arith in
      let o : m.state ≡ 2 → ⊥ = λ z. omega arith in
      let a = unless (eqb m.state 2) _ (unless (eqb m.state 1) _ (at_zero h e) (ne_eqb m.state 1 n)) (ne_eqb m.state 2 o) in
      is (unless (eqb m.length 0) _ (when (eqb m.state 3) _ a (eq-eqb m.state 3 s)) (ne_eqb m.length 0 k))

  no_place_wrong : (m.mode ≡ 0 → m.state ≡ 1 → m.offset ≡ 0)
      → (m.mode ≡ 0 → m.state ≡ 2 → InWindow m.size m.offset m.length m.moved)
      → (m.mode ≡ 0 → m.state ≡ 3 → (m.length ≡ 0 → ⊥) → m.offset ≡ m.moved) → place_wrong m ≡ false
  unfolding place_wrong resume_wrong
  no_place_wrong f g h =
      if_not (not (eqb m.mode 0)) (λ e.
      let z = is e in
      by_test (λ (b : Bool). b ≡ false) (eqb m.state 1) _ _ (λ s. eq_not (f z (eqb-true m.state 1 s)))
      (λ _. by_test (λ (b : Bool). b ≡ false) (eqb m.state 2) _ _ (λ s. no_stray m.size m.offset m.length m.moved (g z (eqb-true m.state 2 s)))
      (λ _. if_so (eqb m.state 3) (λ s. if_not (eqb m.length 0) (λ k. eq_not (h z (eqb-true m.state 3 s) (isnt k)))))))

-- ---- the whole
module _ (m : Mover) (t : Tape) where
  pub mover_kept : mover_wrong m t ≡ false → MoverKept m t
  unfolding mover_wrong numbers_wrong start_wrong origin_wrong
  mover_kept h =
      let a = none_of _ h in
      let b = none_of _ a.1 in
      let c = none_of _ b.1 in
      let d = none_of _ c.1 in
      let e = none_of _ d.1 in
      let n = none_of _ a.0 in
      let o = none_of _ n.1 in
      let x = none_of _ o.1 in
      record {
        states = ltb-false 4 m.state n.0;
        sizes = ltb-false 32768 m.size o.0;
        types = x.0;
        seeks = past_top m.seek m.left x.1;
        window = legal m.size m.offset m.length b.0;
        start = λ s. is (unless (ltb 1 m.state) _ c.0 (le-ltb 1 m.state s));
        hold = held m t d.0;
        listens = place_listens m e.0;
        runs = place_runs m e.0;
        resumes = place_resumes m e.0;
        origins = λ s. ltb-false t.position m.origin (when (eqb m.state 2) _ e.1 (eq-eqb m.state 2 s));
      }

  pub kept_mover : MoverKept m t → mover_wrong m t ≡ false
  unfolding mover_wrong numbers_wrong start_wrong origin_wrong
  kept_mover k =
      none (none (le-ltb 4 m.state k.states) (none (le-ltb 32768 m.size k.sizes) (none k.types (no_past m.seek m.left k.seeks))))
      (none (no_window_wrong m.size m.offset m.length k.window)
      (none (if_not (ltb 1 m.state) (λ s. eq_not (k.start (ltb-false 1 m.state s))))
      (none (no_hold_wrong m t k.hold)
      (none (no_place_wrong m k.listens k.runs k.resumes)
      (if_so (eqb m.state 2) (λ s. le-ltb t.position m.origin (k.origins (eqb-true m.state 2 s))))))))
