use Rattle.std.proofs.Common.{◌≡◌, ◌-◌, refl, sym, ◌∙◌, rules, arith}
use Rattle.changer_elements.specs.Slots.{names_none_twice, some_again}
use Rattle.changer_moves.proofs.Laws.{empty_next, twice_here, once_next}
use Rattle.changer_moves.proofs.names_none_twice.Goals as goal
use Rattle.changer_moves.proofs.names_none_twice.Goals.{else-cartridge-ne0-via-then-cartridge-ne0+else-contains, else-cartridge-ne0-via-else-cartridge-ne0}

pub loop-place-init : goal.loop-place-init
unfolding names_none_twice
loop-place-init c = (omega arith, refl)

pub returns-then-contains : goal.returns-then-contains
returns-then-contains c =
    twice_here _ _ c.loop-place.invariant.1 c.loop-place-test.true (search rules) c.if-cartridge-ne0.true _ c.contains.ensures.value c.if-contains.true

pub loop-place-preserved : goal.loop-place-preserved
loop-place-preserved c = (
  omega arith,
  elim c.else-cartridge-ne0.branch [
    | else-cartridge-ne0-via-then-cartridge-ne0+else-contains w ↦
        once_next _ _ c.loop-place.invariant.1 c.loop-place-test.true (search rules) w.if-cartridge-ne0.true _ w.contains.ensures.value w.if-contains.false
    | else-cartridge-ne0-via-else-cartridge-ne0 w ↦
        empty_next _ _ c.loop-place.invariant.1 c.loop-place-test.true w.if-cartridge-ne0.false
  ],
)

pub returns : goal.returns
unfolding some_again
returns c =
    let none : 9 - c.loop-place.place ≡ 0 = omega arith in
    sym (c.loop-place.invariant.1 ∙ rw none)
