use mathlib.Core.Path.{refl}
use Rattle.xdr.proofs.Tests.{pick_if, pick_else, ltb_yes, ltb_no}
use Rattle.wire_layouts.specs.AddressLists.{lendable}
use Rattle.std.proofs.Common.{rules}
use Rattle.wire_scanning.proofs.is_lendable.Goals as goal

-- the tests are those of the definition, of what the scan kept
pub returns-then-list-gt-MOST_LENT : goal.returns-then-list-gt-MOST_LENT
unfolding lendable
returns-then-list-gt-MOST_LENT c = pick_if _ (ltb_yes c.if-list-gt-MOST_LENT.true) refl

pub returns : goal.returns
unfolding lendable
returns c = pick_else _ (ltb_no c.if-list-gt-MOST_LENT.false) (rw (← c.scan_body.ensures) (search rules))
