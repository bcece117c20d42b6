use Prim.Native.Nat.{◌+◌, ◌*◌, ◌≤◌}
use mathlib.Core.Path.{◌≡◌}
use lib.ListN.{length}
use Rattle.codes.specs.Codes.{store_length}
use Rattle.xdr.specs.Xdr.{be32s, overlay}
use Rattle.wire_pairs.specs.Store.{pair_words, text_bytes}
use Rattle.wire_storing.specs.Sent.{sent}
use Rattle.wire_storing.proofs.keep_words.Given as goal

-- Invariant: the words that are left, written from where the loop stands, leave what all leave.
abbrev pub invariant-loop-name : goal.invariant-loop-name
invariant-loop-name l =
    record {
      room : l.to + 16 * length (sent l.name-iterator) ≤ length l.initial.store;
      texts : l.from + text_bytes (sent l.name-iterator) ≤ store_length;
      wrote : overlay 4 (be32s (pair_words 0 (sent l.fn.pairs))) l.initial.store ≡ overlay l.to (be32s (pair_words l.from (sent l.name-iterator))) l.store;
    }
