use Prim.Native.Nat.{suc, ◌-◌, ◌<◌}
use mathlib.Core.Path.{◌≡◌, sym, ◌∙◌}
use native.Mathlib.Omega.{arith}
use Rattle.xdr.proofs.Tests.{ltb_yes, ltb_no}
use Rattle.tape_spacing.specs.Spacing.{spacing}
use Rattle.tape_spacing.proofs.Laws.{passes_below, after_within, after_ahead, walk_done, walk_end, walk_stop, walk_mark, walk_pass, walk_record}
use Rattle.tape_walking.proofs.space.Goals as goal

pub loop-left-init : goal.loop-left-init
unfolding spacing
loop-left-init c = grind arith

-- the entry passed is in the table
pub entry_len-len-requires : goal.entry_len-len-requires
entry_len-len-requires c =
    let b : c.entry_passed.result < c.count-n.result =
    rw c.entry_passed.ensures (passes_below _ _ _ c.if-rest-eq0.false _ c.loop-left.invariant.0 c.loop-left.invariant.1) in
    record { few = omega arith; whole = omega arith }

pub loop-left-preserved-then-len-eq0 : goal.loop-left-preserved-then-len-eq0
loop-left-preserved-then-len-eq0 c = let more : c.loop-left.rest ≡ suc (c.loop-left.rest - 1) = omega arith in (
  rw c.position_after-at.ensures (after_within _ _ _ c.if-rest-eq0.false _ c.loop-left.invariant.0 c.loop-left.invariant.1),
  rw c.position_after-at.ensures (after_ahead _ _ _ c.if-rest-eq0.false _ c.loop-left.invariant.0 c.loop-left.invariant.1),
  c.loop-left.invariant.2
      ∙ walk_mark _ _ _ _ _ _ _ c.if-left-eq0.false more (ltb_yes c.if-not-marks.false) (cc) ∙ (cc),
)

pub loop-left-preserved-then-not-marks-2 : goal.loop-left-preserved-then-not-marks-2
loop-left-preserved-then-not-marks-2 c = let more : c.loop-left.rest ≡ suc (c.loop-left.rest - 1) = omega arith in (
  rw c.position_after-at.ensures (after_within _ _ _ c.if-rest-eq0.false _ c.loop-left.invariant.0 c.loop-left.invariant.1),
  rw c.position_after-at.ensures (after_ahead _ _ _ c.if-rest-eq0.false _ c.loop-left.invariant.0 c.loop-left.invariant.1),
  c.loop-left.invariant.2
      ∙ walk_record _ _ _ _ _ _ _ c.if-left-eq0.false more (ltb_no c.if-not-marks-2.true) (λ e. c.if-len-eq0.false (cc)) ∙ (cc),
)

pub loop-left-preserved : goal.loop-left-preserved
loop-left-preserved c = let more : c.loop-left.rest ≡ suc (c.loop-left.rest - 1) = omega arith in (
  rw c.position_after-at.ensures (after_within _ _ _ c.if-rest-eq0.false _ c.loop-left.invariant.0 c.loop-left.invariant.1),
  rw c.position_after-at.ensures (after_ahead _ _ _ c.if-rest-eq0.false _ c.loop-left.invariant.0 c.loop-left.invariant.1),
  c.loop-left.invariant.2
      ∙ walk_pass _ _ _ _ _ _ _ c.if-left-eq0.false more (ltb_yes c.if-not-marks-2.false) (λ e. c.if-len-eq0.false (cc)) ∙ (cc),
)

pub returns-then-left-eq0 : goal.returns-then-left-eq0
returns-then-left-eq0 c = c.ended.ensures ∙ sym (c.loop-left.invariant.2 ∙ walk_done _ _ _ _ _ _ c.if-left-eq0.true)

pub returns-then-rest-eq0 : goal.returns-then-rest-eq0
returns-then-rest-eq0 c =
    c.ended-then-rest-eq0.ensures
    ∙ sym (c.loop-left.invariant.2 ∙ walk_end _ _ _ _ _ _ c.if-left-eq0.false c.if-rest-eq0.true)

pub returns-then-not-marks : goal.returns-then-not-marks
returns-then-not-marks c =
    c.ended-then-not-marks.ensures
    ∙ sym (c.loop-left.invariant.2 ∙ walk_stop _ _ _ _ _ _ c.if-left-eq0.false c.if-rest-eq0.false (ltb_no c.if-not-marks.true) (cc) ∙ (cc))
