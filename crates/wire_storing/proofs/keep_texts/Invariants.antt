use Prim.Native.Nat.{◌+◌, ◌≤◌}
use mathlib.Core.Path.{◌≡◌}
use lib.ListN.{length}
use Rattle.xdr.specs.Xdr.{overlay}
use Rattle.wire_pairs.specs.Store.{pair_texts, text_bytes}
use Rattle.wire_storing.specs.Sent.{sent}
use Rattle.wire_storing.proofs.keep_texts.Given as goal

-- Invariant: the texts that are left, written from where the loop stands, leave what all leave.
abbrev pub invariant-loop-name : goal.invariant-loop-name
invariant-loop-name l =
    record {
      room : l.to + text_bytes (sent l.name-iterator) ≤ length l.initial.store;
      wrote : overlay l.first (pair_texts (sent l.fn.pairs)) l.initial.store ≡ overlay l.to (pair_texts (sent l.name-iterator)) l.store;
    }
