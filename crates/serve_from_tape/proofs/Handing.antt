-- From what callees give to what a move from tape says of a record, and the facts that the tests leave. Assumes nothing.
use Prim.Native.Nat.{ℕ, ◌+◌, ◌-◌, ◌≤◌}
use mathlib.Core.List.{List}
use mathlib.Core.Bool.{false}
use mathlib.Core.Path.{◌≡◌, refl, sym, ap, ◌∙◌}
use native.Mathlib.Omega.{arith}
use lib.ListN.{length, take, drop}
use borrow.Author.Tests.{ltb-false, eq-eqb, ne_eqb}
use Rattle.xdr.specs.Choose.{choose}
use Rattle.xdr.specs.Xdr.{overlay}
use Rattle.xdr.proofs.Tests.{none_of}
use Rattle.tape_image.specs.Image.{entry_len, entry_start, entry_bytes, body_at, faulty}
use Rattle.tape_image.proofs.Laws.{placed}
use Rattle.tape_ops.proofs.Reading.{entry_part_lem}
use Rattle.rules_parts.specs.declared.types.Data.{Data}
use Rattle.rules_parts.specs.declared.types.Mover.{Mover}
use Rattle.rules_parts.specs.declared.types.Tape.{Tape}
use Rattle.rules_parts.specs.Names.{from_tape_mode, recover_operation, data_connect_error, mover_media_error}
use Rattle.rules.specs.Relation.{mover_wrong}
use Rattle.rules.proofs.Kept.{mover_kept}
use Rattle.rules.proofs.Keeping.{active_holds}
use Rattle.rules_moves.proofs.Moving.{running}
use Rattle.rules_moves.specs.declared.Move.{Move}
use Rattle.rules_moves.specs.Moves.{idle, outside, halts_with, hands, in_record, amount, reading, untouched, HandedAs}
use Rattle.serve_from_tape.specs.Facts.{Seekable}

handed_same : {q r : Move} {l : List ℕ} → r ≡ q → HandedAs (untouched l q) r l
handed_same h = record { is = h; dest = refl }

-- ---- what is read of a record: nothing where its length is another, else the bytes from the place in it on
module _ (i : ℕ) (d : Data) (m : Mover) (t : Tape) (l b : List ℕ) where
  pub read_wrong : (r : Move) → (entry_len l i ≡ m.size → ⊥) → r ≡ halts_with data_connect_error mover_media_error d m t → HandedAs (reading i d m t l b) r b
  unfolding reading choose
  read_wrong r ne e = rw (ne_eqb _ _ ne) (handed_same e)

  pub read_right : (r : Move) (b' : List ℕ) (n begin : ℕ) → entry_len l i ≡ m.size → n ≡ amount m (length b) → in_record m + n ≤ m.size
      → begin ≡ body_at l + entry_start l i + in_record m → b' ≡ overlay 0 (take (begin + n - begin) (drop begin l)) b → r ≡ hands n i d m t
      → HandedAs (reading i d m t l b) r b'
  unfolding reading choose
  read_right r b' n begin same en fits eb q e =
      let len : begin + n - begin ≡ n = omega arith in
      let part : take n (drop (in_record m) (entry_bytes l i)) ≡ take n (drop begin l) = entry_part_lem l i (in_record m) n (omega arith) ∙ ap (λ (k : ℕ). take n (drop k l)) (sym eb) in
      rw (eq-eqb _ _ same) (rw (← en) (record { is = e; dest = rw (part) (rw len at q) }))

-- ---- the facts that the tests leave
pub inside : (seek offset length : ℕ) → outside seek offset length ≡ false → offset ≤ seek
unfolding outside
inside seek offset length h = ltb-false seek offset (none_of _ h).0

pub seekable : (d : Data) (m : Mover) (t : Tape) (l : List ℕ) → mover_wrong m t ≡ false → idle from_tape_mode recover_operation d m ≡ false → faulty l t.position ≡ false → Seekable m l
seekable d m t l h i f =
    let k = mover_kept m t h in
    let active = (running from_tape_mode recover_operation d m i).active in
    let p = placed l t.position f in
    let w = k.window (k.hold (active_holds m.state active)).window in
    let o = k.origins active in
    let g = p.within in
    record { ok = p.ok; some = w.some; small = k.sizes; fits = w.fits; seeks = k.seeks; begins = omega arith }
