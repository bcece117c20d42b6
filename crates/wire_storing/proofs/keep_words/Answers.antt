use mathlib.Core.Path.{refl, sym, ◌∙◌}
use native.Mathlib.Omega.{arith}
use Rattle.xdr.proofs.Laws.{length_be32s}
use Rattle.wire_pairs.proofs.Storing.{words_none}
use Rattle.wire_storing.proofs.Turns.{size_next, count_next, words_next}
use Rattle.wire_storing.proofs.keep_words.Goals as goal

pub loop-name-init : goal.loop-name-init
loop-name-init c =
    let p = c.requires in
    rw c.into_iter-name-iterator.ensures.into_iter_gives (record { room = p.0; texts = omega (arith, p.1); wrote = refl })

pub overflow_add-second : goal.overflow_add-second
overflow_add-second c = let e = size_next c.in-Some.ensures.steps in omega (arith, c.loop-name.invariant.texts)

pub overflow_cast-words-in-loop-name : goal.overflow_cast-words-in-loop-name
overflow_cast-words-in-loop-name c = let e = size_next c.in-Some.ensures.steps in omega (arith, c.loop-name.invariant.texts)

pub overflow_cast-words-in-loop-name-2 : goal.overflow_cast-words-in-loop-name-2
overflow_cast-words-in-loop-name-2 c = let e = size_next c.in-Some.ensures.steps in omega (arith, c.loop-name.invariant.texts)

pub overflow_cast-words-in-loop-name-3 : goal.overflow_cast-words-in-loop-name-3
overflow_cast-words-in-loop-name-3 c = let e = size_next c.in-Some.ensures.steps in omega (arith, c.loop-name.invariant.texts)

pub overflow_add-from : goal.overflow_add-from
overflow_add-from c = let e = size_next c.in-Some.ensures.steps in omega (arith, c.loop-name.invariant.texts)

pub loop-name-preserved : goal.loop-name-preserved
loop-name-preserved c =
    let i = c.loop-name.invariant in
    let s = c.in-Some.ensures.steps in
    let e = size_next s in
    let n = count_next s in
    record {
      room = omega (arith, i.room, simp length_be32s at c.put_words-to.ensures.end);
      texts = omega (arith, i.texts);
      wrote = words_next s _ i.wrote c.put_words-to.ensures;
    }

pub returns : goal.returns
returns c = sym (c.loop-name.invariant.wrote ∙ words_none _ c.in-None.ensures.steps.0 _ _ _)
