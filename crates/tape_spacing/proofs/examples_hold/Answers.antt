use mathlib.Core.Path.{refl}
use Rattle.xdr.specs.Choose.{choose}
use Rattle.xdr.specs.Xdr.{be32, be32s, word}
use Rattle.tape_spacing.specs.Spacing.{spacing, walk, ahead_of, passes, position_after, left_after, stops}
use Rattle.tape_spacing.specs.Examples.{sample}
use Rattle.tape_spacing.proofs.examples_hold.Goals as goal

pub returns : goal.returns
unfolding sample spacing walk ahead_of passes position_after left_after stops choose word be32 be32s
returns c = refl
