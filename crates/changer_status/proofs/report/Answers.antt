use Rattle.std.proofs.Common.{refl, sym, ◌∙◌, rules}
use Rattle.changer_status.proofs.Laws.{reporting_start, reporting_more, reporting_full, reporting_other, reporting_end}
use Rattle.changer_status.proofs.report.Goals as goal
use Rattle.changer_status.proofs.report.Goals.{then-count-asked+then-is_asked, else-count-asked, else-count-asked-via-then-count-asked+else-is_asked, else-count-asked-via-else-count-asked}

pub loop-element-init : goal.loop-element-init
loop-element-init c = reporting_start _ _

pub loop-element-preserved : goal.loop-element-preserved
loop-element-preserved c =
    let r = c.loop-element.invariant in
    let on = c.loop-element-test.true in
    elim c.if-count-asked.branch [
      | then-count-asked+then-is_asked w ↦
          rw (w.list-is, w.count-is)
          (reporting_more _ _ _ _ _ r on refl (search rules) w.if-count-asked.true (sym w.is_asked.ensures ∙ w.if-is_asked.true))
      | else-count-asked w ↦
          rw (w.list-is, w.count-is)
          (elim w.else-count-asked.branch [
            | else-count-asked-via-then-count-asked+else-is_asked v ↦ reporting_other _ _ _ _ _ r on refl (sym v.is_asked.ensures ∙ v.if-is_asked.false)
            | else-count-asked-via-else-count-asked v ↦ reporting_full _ _ _ _ _ r on refl v.if-count-asked.false
          ])
    ]

pub returns : goal.returns
returns c = reporting_end _ _ _ _ c.loop-element.invariant c.loop-element-test.false
