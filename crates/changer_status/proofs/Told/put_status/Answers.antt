use Rattle.changer_status.proofs.Laws.{pages_end, status_put}
use Rattle.changer_elements.proofs.Bytes.{pages_most}
use native.Mathlib.Omega.{arith}
use Rattle.changer_status.proofs.Told.put_status.Goals as goal

pub overflow_cast-end : goal.overflow_cast-end
overflow_cast-end c = let three = c in
    let two = three in
    let one = two in
    let start = one in
    let p = start.requires in
    omega (
      arith,
      pages_end _ _ _ _ _ _ _ _ _ p.1 p.0 one.put_page-second.ensures two.put_page-third.ensures three.put_page-end.ensures,
      pages_most start.args.self.slots start.args.self.es.now p.1.types,
    )

pub returns : goal.returns
returns c = let three = c in
    let two = three in
    let one = two in
    let p = one.requires in
    let first = c.first-first.ensures in
    status_put _ _ _ _ _ _ _ _ _ p.1 p.0 one.put_page-second.ensures two.put_page-third.ensures three.put_page-end.ensures _ _
    first.0 first.1 (pages_most _ _ p.1.types) c.write_words.ensures
