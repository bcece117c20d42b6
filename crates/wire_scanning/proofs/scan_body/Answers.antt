use mathlib.Core.Path.{sym, ap, ◌∙◌}
use native.Mathlib.Omega.{arith}
use Rattle.std.specs.Prelude.{Some}
use Rattle.wire_layouts.specs.Scans.{put}
use Rattle.wire_scanning.proofs.Scan.{starts, next_word, next_hyper, next_place, last_stop, last_bad, last_over, last_end}
use Rattle.wire_scanning.proofs.scan_body.Goals.{in-Word, in-Hyper, in-Place}
use Rattle.wire_scanning.proofs.scan_body.Goals as goal

pub loop-i-init : goal.loop-i-init
loop-i-init c = (c.requires, starts _ _ _ c.nothing-k.ensures)

pub returns-in_err-v : goal.returns-in_err-v
returns-in_err-v c =
    c.from_residual.ensures
    ∙ last_bad c.args.layout.now c.loop-i.i c.args.body.now c.loop-i.at c.loop-i.k _ (omega arith) c.in_err-v.ensures ∙ sym c.loop-i.invariant.1

pub returns-in-Stop : goal.returns-in-Stop
unfolding put
returns-in-Stop c =
    last_stop c.args.layout.now c.loop-i.i c.args.body.now c.loop-i.at c.loop-i.k _ (omega arith) _ (ap Some (sym c.in-Stop.is) ∙ c.in_ok-v.ensures)
    ∙ sym c.loop-i.invariant.1

pub loop-i-preserved : goal.loop-i-preserved
unfolding put
loop-i-preserved c = (
  c.loop-i.invariant.0,
  elim c.match-branch-2.branch [
    | in-Word w ↦ rw (w.k-is, w.at-is)
        (c.loop-i.invariant.1
        ∙ next_word c.args.layout.now c.loop-i.i c.args.body.now c.loop-i.at c.loop-i.k _ (omega arith) _ _ (ap Some (sym w.in-Word.is) ∙ c.in_ok-v.ensures))
    | in-Hyper w ↦ rw (w.k-is, w.at-is)
        (c.loop-i.invariant.1
        ∙ next_hyper c.args.layout.now c.loop-i.i c.args.body.now c.loop-i.at c.loop-i.k _ (omega arith) _ _ (ap Some (sym w.in-Hyper.is) ∙ c.in_ok-v.ensures))
    | in-Place w ↦ rw (w.k-is, w.at-is)
        (c.loop-i.invariant.1
        ∙ next_place c.args.layout.now c.loop-i.i c.args.body.now c.loop-i.at c.loop-i.k _ (omega arith) _ _ (ap Some (sym w.in-Place.is) ∙ c.in_ok-v.ensures))
  ],
)

pub returns-then-at-body : goal.returns-then-at-body
returns-then-at-body c = last_over c.args.layout.now c.loop-i.i c.args.body.now c.loop-i.at c.loop-i.k (omega arith) c.if-at-body.true ∙ sym c.loop-i.invariant.1

pub returns : goal.returns
returns c = last_end c.args.layout.now c.loop-i.i c.args.body.now c.loop-i.at c.loop-i.k (omega arith) c.if-at-body.false ∙ sym c.loop-i.invariant.1
