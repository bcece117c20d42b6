use mathlib.Core.Path.{sym, ap, ◌∙◌}
use native.Mathlib.Omega.{arith}
use Rattle.wire_layouts.specs.AddressLists.{keep, count_seen, addresses_from}
use Rattle.wire_layouts.proofs.AddressLists.{from_more, from_short, from_none, few_addresses, some_addresses, first_of, starts_with}
use Rattle.wire_scanning.proofs.addresses_at.Goals as goal

pub returns-then-count-eq0 : goal.returns-then-count-eq0
unfolding addresses_from
returns-then-count-eq0 c = c.empty.ensures ∙ sym (first_of _ _ 0 (sym c.if-count-eq0.true ∙ c.count_of-count.ensures ∙ ap count_seen c.address_list.ensures))

pub overflow_add-pos : goal.overflow_add-pos
overflow_add-pos c = omega (arith, some_addresses _ _ _ (c.count_of-count.ensures ∙ ap count_seen c.address_list.ensures) (omega arith))

pub loop-i-init : goal.loop-i-init
loop-i-init c = let e = c.count_of-count.ensures ∙ ap count_seen c.address_list.ensures in (few_addresses _ _ _ e, starts_with _ _ _ e _ c.empty-k.ensures)

pub returns-in_default : goal.returns-in_default
returns-in_default c =
    c.empty-in_default.ensures
    ∙ sym (c.loop-i.invariant.1 ∙ from_short c.args.body.now c.loop-i.pos c.loop-i.i c.loop-i.k _ (omega arith) c.in_default.ensures)

pub loop-i-preserved : goal.loop-i-preserved
unfolding keep
loop-i-preserved c = (
  c.loop-i.invariant.0,
  c.loop-i.invariant.1
      ∙ from_more c.args.body.now c.loop-i.pos c.loop-i.i c.loop-i.k _ _ _ _ _ (omega arith) c.in-Some.ensures c.read_word.ensures c.read_word-in-loop-i.ensures,
)

pub returns : goal.returns
returns c = sym (c.loop-i.invariant.1 ∙ from_none c.args.body.now c.loop-i.pos c.loop-i.i c.loop-i.k _ (omega arith))
