use mathlib.Core.Path.{sym, ◌∙◌}
use Rattle.xdr.proofs.Laws.{rest}
use Rattle.call_addresses.specs.Reading.{of_frame}
use Rattle.call_addresses.proofs.Reading.{by_frame, none_by_frame}
use Rattle.call_addresses.proofs.read_addresses.Goals as goal

pub returns-in-Ok : goal.returns-in-Ok
unfolding of_frame
returns-in-Ok c = let k = c in
    by_frame _ (sym k.in-Ok.is ∙ k.read_frame.ensures.read) (rw rest at c.of_request.ensures)

pub returns-in-Err : goal.returns-in-Err
returns-in-Err c = c.empty.ensures ∙ none_by_frame _ _ (sym c.in-Err.is ∙ c.read_frame.ensures.read)
