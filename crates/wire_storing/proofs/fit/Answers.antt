use mathlib.Core.Path.{sym}
use native.Mathlib.Omega.{arith}
use Rattle.wire_pairs.proofs.Storing.{fits_many, fits_not, fits_end}
use Rattle.wire_storing.proofs.Turns.{size_next}
use Rattle.wire_storing.proofs.fit.Goals as goal

pub returns-then-count-gt-MOST_LISTED : goal.returns-then-count-gt-MOST_LISTED
returns-then-count-gt-MOST_LISTED c = sym (fits_many _ _ _ (omega arith))

pub loop-name-init : goal.loop-name-init
loop-name-init c = rw (c.into_iter-name-iterator.ensures.into_iter_gives, c.of-name-items.ensures) (omega arith, omega arith)

pub returns-then-room-name : goal.returns-then-room-name
returns-then-room-name c = let e = size_next c.in-Some.ensures.steps in sym (fits_not _ _ _ (omega arith))

pub returns-then-room-value : goal.returns-then-room-value
returns-then-room-value c = let e = size_next c.in-Some.ensures.steps in sym (fits_not _ _ _ (omega arith))

pub loop-name-preserved : goal.loop-name-preserved
loop-name-preserved c = let e = size_next c.in-Some.ensures.steps in (omega arith, omega arith)

pub returns : goal.returns
returns c = let i = c.loop-name.invariant in sym (fits_end _ _ _ _ _ i.0 i.1 c.in-None.ensures.steps.0)
