use Rattle.std.proofs.Common.{◌≡◌, drop}
use Rattle.wire_layouts.specs.Layout.{parts_at}
use Rattle.wire_layouts.specs.Scans.{forget}
use Rattle.wire_scanning.proofs.parts_at.Given as goal

-- what is left of the parts, read from where the loop stands, comes to what the whole comes to
abbrev pub invariant-loop-part : goal.invariant-loop-part
invariant-loop-part l = forget (parts_at l.parts l.body l.at) ≡ forget (parts_at (drop l.part-index l.parts) l.body l.pos)
