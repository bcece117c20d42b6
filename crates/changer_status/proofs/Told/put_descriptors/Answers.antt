use Rattle.std.proofs.Common.{sym, ◌∙◌}
use Rattle.changer_status.proofs.Laws.{putting_fits, putting_one, putting_other, putting_end, descriptors_end}
use Rattle.changer_status.proofs.Told.put_descriptors.Goals as goal
use Rattle.changer_status.proofs.Told.put_descriptors.Goals.{then-type_of-kind, else-type_of-kind}

pub put_descriptor-next-requires : goal.put_descriptor-next-requires
put_descriptor-next-requires c =
    putting_fits _ _ _ _ _ _ _ _ _ c.loop-element.invariant c.loop-element-test.true (sym c.type_of.ensures ∙ c.if-type_of-kind.true) c.requires

pub loop-element-preserved : goal.loop-element-preserved
loop-element-preserved c =
    let p = c.loop-element.invariant in
    let on = c.loop-element-test.true in
    elim c.if-type_of-kind.branch [
      | then-type_of-kind w ↦
          rw (w.out-is, w.next-is)
          (putting_one _ _ _ _ _ _ _ _ _ p on (sym c.type_of.ensures ∙ w.if-type_of-kind.true) _ _ w.put_descriptor-next.ensures
          w.put_descriptor-next.auto.out)
      | else-type_of-kind w ↦
          rw (w.out-is, w.next-is)
          (putting_other _ _ _ _ _ _ _ _ _ p on (λ e. w.if-type_of-kind.false (c.type_of.ensures ∙ e)))
    ]

pub returns : goal.returns
returns c = putting_end _ _ _ _ _ _ c.loop-element.invariant (descriptors_end _ _ _ _ c.loop-element-test.false)
