use Rattle.std.proofs.Common.{◌≡◌, ◌-◌, ◌≤◌}
use Rattle.codes.specs.Codes.{most_addresses}
use Rattle.wire_layouts.specs.AddressLists.{addresses_from, addresses_at}
use Rattle.wire_scanning.proofs.addresses_at.Given as goal

-- the addresses that are left, kept from where the loop stands, come to what all come to
abbrev pub invariant-loop-i : goal.invariant-loop-i
invariant-loop-i l = (l.count ≤ most_addresses) × (addresses_at l.body l.at ≡ addresses_from (l.count - l.i) l.i l.body l.pos l.k)
