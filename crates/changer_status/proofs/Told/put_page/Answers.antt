use Rattle.changer_status.proofs.Laws.{page_left, page_put}
use Rattle.changer_status.proofs.Told.put_page.Goals as goal

pub returns-then-end-start : goal.returns-then-end-start
returns-then-end-start c = page_left _ _ _ _ _ _ _ c.put_descriptors-end.ensures c.if-end-start.true

pub returns : goal.returns
returns c = let put = c in
    let p = put.requires in
    page_put _ _ _ _ _ _ _ put.put_descriptors-end.ensures _ c.if-end-start.false p.2 p.0 p.1
    c.write_words.ensures
