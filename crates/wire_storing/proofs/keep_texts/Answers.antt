use mathlib.Core.Path.{refl, sym, ◌∙◌}
use native.Mathlib.Omega.{arith}
use Rattle.wire_pairs.proofs.Storing.{texts_none}
use Rattle.wire_storing.proofs.Turns.{size_next, texts_next}
use Rattle.wire_storing.proofs.keep_texts.Goals as goal

pub loop-name-init : goal.loop-name-init
loop-name-init c = rw c.into_iter-name-iterator.ensures.into_iter_gives (record { room = c.requires; wrote = refl })

pub put_bytes-to-requires : goal.put_bytes-to-requires
put_bytes-to-requires c = let e = size_next c.in-Some.ensures.steps in omega (arith, c.loop-name.invariant.room)

pub put_bytes-to-requires-in-loop-name : goal.put_bytes-to-requires-in-loop-name
put_bytes-to-requires-in-loop-name c = let e = size_next c.in-Some.ensures.steps in omega (arith, c.loop-name.invariant.room, c.put_bytes-to.ensures.end)

pub loop-name-preserved : goal.loop-name-preserved
loop-name-preserved c =
    let i = c.loop-name.invariant in
    let s = c.in-Some.ensures.steps in
    let e = size_next s in
    let p = c.put_bytes-to.ensures in
    let q = c.put_bytes-to-in-loop-name.ensures in
    record { room = omega (arith, i.room, p.end, q.end); wrote = texts_next s i.wrote p q }

pub returns : goal.returns
returns c = sym (c.loop-name.invariant.wrote ∙ texts_none _ c.in-None.ensures.steps.0 _ _)
