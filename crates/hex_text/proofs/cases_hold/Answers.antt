use mathlib.Core.Path.{refl}
use Rattle.xdr.specs.Choose.{choose}
use Rattle.hex_text.specs.Hex.{digit_of, joined, pair_of, blank_of, put_before, held_first, hex_held}
use Rattle.hex_text.proofs.cases_hold.Goals as goal

-- Each case is computed: the definitions unfold, and both sides are one term.
pub returns : goal.returns
unfolding choose digit_of joined pair_of blank_of put_before held_first hex_held
returns c = record { digit = refl; none = refl; pairs = refl; empty = refl; parted = refl; half = refl; not = refl; room = refl }
