use mathlib.Core.Path.{refl}
use native.Mathlib.Nat.{mod-lt}
use Rattle.serve_seeking.proofs.into_record.Goals as goal

pub returns : goal.returns
returns c = (refl, mod-lt _ c.requires.0)
