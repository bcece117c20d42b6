-- The walk through the pairs of a body.
use Rattle.std.specs.Prelude.{List}
use Rattle.wire_pairs.specs.Pairs.{Pair, pairs_from}
use Rattle.wire_storing.specs.declared.SentPairs.{SentPairs}

-- the pairs that are still to come
abbrev pub sent : SentPairs → List Pair
sent s = pairs_from s.body.now s.left s.at
