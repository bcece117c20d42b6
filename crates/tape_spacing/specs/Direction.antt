-- The way that a walk goes, as the definitions have it: whether it is forward.
use Rattle.std.specs.Prelude.{Bool, true, false}
use Rattle.tape_spacing.specs.declared.Direction.{Direction}
use Rattle.tape_spacing.specs.declared.Direction.TheVariants.{Forward, Back}

abbrev pub is_forward : Direction → Bool
is_forward Forward = true
is_forward Back = false
