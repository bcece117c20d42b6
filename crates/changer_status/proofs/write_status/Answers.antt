use Rattle.std.proofs.Common.{◌∙◌, rules}
use Rattle.changer_elements.proofs.Bytes.{least_min}
use Rattle.changer_status.proofs.Laws.{few_reported, handed_over}
use Rattle.changer_status.proofs.write_status.Goals as goal

pub put_status-whole-requires : goal.put_status-whole-requires
put_status-whole-requires c = (search rules, rw c.report-es.ensures (few_reported c.args.asked))

pub returns : goal.returns
returns c =
    handed_over _ _ _ _ _ _ (rw c.report-es.ensures at c.put_status-whole.ensures) (c.min.ensures ∙ least_min _ _)
