use mathlib.Core.Path.{◌∙◌, refl}
use Rattle.std.proofs.Common.{rules}
use Rattle.xdr.specs.Xdr.{be32s}
use Rattle.xdr.proofs.Laws.{overlay_none, overlay_word}
use Rattle.xdr.proofs.write_words.Goals as goal

pub loop-i-init : goal.loop-i-init
unfolding be32s
loop-i-init c = (refl, overlay_none _ _)

pub loop-i-preserved : goal.loop-i-preserved
loop-i-preserved c = (search rules, c.write_word.ensures ∙ rw c.loop-i.invariant.1 (overlay_word _ _ _ _ c.loop-i-test.true))
