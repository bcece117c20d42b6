-- What rules (4) to (7) lean on, from the tests before them, and what rule (7) says, from what the write gave. Assumes nothing.
use Rattle.std.specs.Prelude.{min}
use Prim.Native.Nat.{ℕ}
use mathlib.Core.Bool.{Bool, true, false, not}
use mathlib.Core.List.{List}
use mathlib.Core.Path.{◌≡◌, sym, ap, ◌∙◌}
use native.Mathlib.Omega.{arith}
use lib.ListN.{length, take}
use lib.Dec.{ltb}
use borrow.Author.Tests.{ltb-true, ltb-false, not-false}
use Rattle.xdr.proofs.Tests.{by_test}
use Rattle.xdr.specs.Choose.{choose, least}
use Rattle.tape_image.specs.Image.{faulty}
use Rattle.tape_image.proofs.Laws.{placed}
use Rattle.tape_writing.specs.Writing.{room_for, FilledWrite}
use Rattle.tape_ops.specs.Step.{Step, Told}
use Rattle.rules_parts.specs.declared.types.Data.{Data}
use Rattle.rules_parts.specs.declared.types.Mover.{Mover}
use Rattle.rules_parts.specs.declared.types.Tape.{Tape}
use Rattle.rules_parts.specs.Names.{to_tape_mode, backup_operation}
use Rattle.rules.specs.Relation.{mover_wrong}
use Rattle.rules.proofs.Kept.{mover_kept}
use Rattle.rules.proofs.Keeping.{active_holds}
use Rattle.rules_moves.proofs.Moving.{running}
use Rattle.rules_moves.specs.declared.Move.{Move}
use Rattle.rules_moves.specs.Moves.{idle, takes, writing}
use Rattle.serve_to_tape.specs.Fillable.{Fillable}

-- where the mover is in order and runs, and the tape has no fault, records can go to it
pub fillable : (d : Data) (m : Mover) (t : Tape) (l : List ℕ) (r f : Bool) → mover_wrong m t ≡ false → r ≡ idle to_tape_mode backup_operation d m → r ≡ false
    → f ≡ faulty l t.position → f ≡ false → Fillable m l t.position
fillable d m t l r f w e h g k =
    let q = mover_kept m t w in
    let run = running to_tape_mode backup_operation d m (sym e ∙ h) in
    let held = q.hold (active_holds m.state run.active) in
    record {
      small = q.sizes;
      to = (q.runs run.moded run.active).to;
      fits = (q.window held.window).fits;
      place = placed l t.position (sym g ∙ k);
    }

least_min : (a b : ℕ) → min a b ≡ least a b
unfolding least
least_min a b =
    by_test (λ (k : ℕ). min a b ≡ k) (ltb a b) a b (λ h. let z = ltb-true a b h in omega arith) (λ h. let z = ltb-false a b h in omega arith)

-- rule (7), from what the write gave
pub told_wrote : (d : Data) (m : Mover) (t : Tape) (s : List ℕ) {l l' : List ℕ} {part : ℕ} {r : Bool} {got : Move} (x : Step Move)
    → FilledWrite l t.position (take part s) m.size r l' → not r ≡ false → part ≡ min (length s) m.size → got ≡ takes part d m t
    → Told (choose (not (room_for l t.position m.size)) x (writing d m t l s)) got l'
unfolding choose
told_wrote d m t s {l} {l'} {part} {r} {got} x w h k e =
    let yes : room_for l t.position m.size ≡ true = sym w.room ∙ not-false r h in
    let q = k ∙ least_min (length s) m.size in
    rw yes (record { is = e ∙ ap (λ (j : ℕ). takes j d m t) q; image = rw q at (rw yes at w.image) })
