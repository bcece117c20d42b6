use Prim.Native.Nat.{◌+◌}
use mathlib.Core.Path.{refl}
use native.Mathlib.Omega.{arith}
use Rattle.xdr.specs.Xdr.{word}
use Rattle.wire_pairs.proofs.Giving.{left_within, left_next, left_value, left_ends, left_kept, left_none}
use Rattle.wire_giving.proofs.KeptPairsIterator.next.Goals as goal

pub returns-then-self-eq0-clause-steps : goal.returns-then-self-eq0-clause-steps
returns-then-self-eq0-clause-steps c = (left_none _ _ _ _ (omega arith), left_none _ _ _ _ (omega arith))

-- The words stand before the first text, and the texts within the store.
pub read_word-requires : goal.read_word-requires
read_word-requires c = let w = c.args.self.now.walk in omega (arith, left_within w, w.words, w.texts)

pub read_word-requires-2 : goal.read_word-requires-2
read_word-requires-2 c = let w = c.args.self.now.walk in omega (arith, left_within w, w.words, w.texts)

pub overflow_add-value : goal.overflow_add-value
overflow_add-value c = let s = c.args.self.now in
    let v = s.text + c.read_word.result in
    let k = left_value v (v + word s.store.now (s.at + 12)) s.walk (omega arith) (omega arith) refl in
    omega arith

pub overflow_add-end : goal.overflow_add-end
overflow_add-end c = let s = c.args.self.now in
    let v = s.text + c.read_word.result in
    let k = left_ends v (v + c.read_word-2.result) s.walk (omega arith) (omega arith) (omega arith) in
    omega arith

pub slice_bounds-pair-end : goal.slice_bounds-pair-end
slice_bounds-pair-end c = let s = c.args.self.now in
    left_value (s.text + c.read_word.result) (s.text + c.read_word.result + c.read_word-2.result) s.walk (omega arith) (omega arith) (omega arith)

pub slice_bounds-pair-end-2 : goal.slice_bounds-pair-end-2
slice_bounds-pair-end-2 c = let s = c.args.self.now in
    left_ends (s.text + c.read_word.result) (s.text + c.read_word.result + c.read_word-2.result) s.walk (omega arith) (omega arith) (omega arith)

pub invariant_of-self : goal.invariant_of-self
invariant_of-self c = let s = c.args.self.now in
    record { walk = left_next (s.text + c.read_word.result) _ s.walk (omega arith) (omega arith) (omega arith) }

pub returns-clause-steps : goal.returns-clause-steps
returns-clause-steps c = let s = c.args.self.now in
    left_kept (s.text + c.read_word.result) _ s.walk (omega arith) (omega arith) (omega arith)
