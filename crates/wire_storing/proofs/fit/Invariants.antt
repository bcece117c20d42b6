use Prim.Native.Nat.{◌+◌, ◌*◌, ◌≤◌}
use mathlib.Core.Path.{◌≡◌}
use Rattle.codes.specs.Codes.{most_listed, store_length}
use Rattle.wire_pairs.specs.Pairs.{pairs_from}
use Rattle.wire_pairs.specs.Store.{text_bytes}
use Rattle.wire_storing.specs.Sent.{sent}
use Rattle.wire_storing.proofs.fit.Given as goal

-- Invariant: the room that is left, and all that the pairs take, is the store and what the pairs that are left take.
abbrev pub invariant-loop-name : goal.invariant-loop-name
invariant-loop-name l =
    (l.count ≤ most_listed) × (l.room + (4 + 16 * l.count + text_bytes (pairs_from l.body l.count l.start)) ≡ store_length + text_bytes (sent l.name-iterator))
