use native.Mathlib.Omega.{arith}
use Rattle.wire_pairs.proofs.Storing.{fits_room, length_pairs, stored}
use Rattle.wire_storing.proofs.keep.Goals as goal

pub keep_words-requires : goal.keep_words-requires
keep_words-requires c = let p = c.requires in
    let r = fits_room _ _ _ p.1 in
    let n = length_pairs c.args.body.now c.args.count c.args.start in
    rw c.of-pairs.ensures (omega (arith, p.0, r.1, n), omega (arith, r.1))

pub keep_texts-requires : goal.keep_texts-requires
keep_texts-requires c = let p = c.requires in
    let r = fits_room _ _ _ p.1 in
    rw c.of-pairs.ensures (omega (arith, p.0, r.1))

pub returns : goal.returns
returns c = let e = c.of-pairs.ensures in stored _ _ _ _ _ _ _ c.write_word.ensures (rw e at c.keep_words.ensures) (rw e at c.keep_texts.ensures)
