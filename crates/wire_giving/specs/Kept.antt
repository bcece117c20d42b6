-- The walk through the pairs of a store.
use Rattle.std.specs.Prelude.{◌+◌, ◌*◌, List}
use Rattle.xdr.specs.Xdr.{word}
use Rattle.wire_pairs.specs.Pairs.{Pair}
use Rattle.wire_pairs.specs.Store.{kept_from}
use Rattle.wire_giving.specs.declared.KeptPairs.{KeptPairs}

-- the pairs that are still to come
abbrev pub to_come : KeptPairs → List Pair
to_come k = kept_from k.store.now (4 + 16 * word k.store.now 0) k.left k.at
