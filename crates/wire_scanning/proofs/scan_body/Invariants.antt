use Rattle.std.proofs.Common.{◌≡◌, ◌≤◌, map, length}
use Rattle.wire_layouts.specs.Scans.{field_of, scanned}
use Rattle.wire_scanning.proofs.Scan.{left}
use Rattle.wire_scanning.proofs.scan_body.Given as goal

-- the scan of the whole is what was kept so far with what is left of the layout
abbrev pub invariant-loop-i : goal.invariant-loop-i
invariant-loop-i l = (length l.layout ≤ 5) × (scanned (map field_of l.layout) l.body ≡ left l.layout l.i l.body l.at l.k)
