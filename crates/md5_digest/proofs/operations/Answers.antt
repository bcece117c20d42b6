use Rattle.std.proofs.Common.{refl, arith, rules}
use Rattle.xdr.specs.Choose.{choose}
use Rattle.md5_digest.specs.Md5.{auxiliary_of, index_of}
use Rattle.md5_digest.proofs.Laws.{operations_rounds}
use Rattle.md5_digest.proofs.operations.Goals as goal

pub one_round-q-requires-clause-own : goal.one_round-q-requires-clause-own
unfolding auxiliary_of index_of choose
one_round-q-requires-clause-own c = record {
  one = omega arith;
  rotates = refl;
  mixes = λ x y z r p. search rules;
  orders = λ i r h p. record { is = search rules; small = search rules };
}

pub one_round-q-requires-2-clause-own : goal.one_round-q-requires-2-clause-own
unfolding auxiliary_of index_of choose
one_round-q-requires-2-clause-own c = record {
  one = omega arith;
  rotates = refl;
  mixes = λ x y z r p. search rules;
  orders = λ i r h p. record { is = search rules; small = search rules };
}

pub one_round-q-requires-3-clause-own : goal.one_round-q-requires-3-clause-own
unfolding auxiliary_of index_of choose
one_round-q-requires-3-clause-own c = record {
  one = omega arith;
  rotates = refl;
  mixes = λ x y z r p. search rules;
  orders = λ i r h p. record { is = search rules; small = search rules };
}

pub one_round-requires-clause-own : goal.one_round-requires-clause-own
unfolding auxiliary_of index_of choose
one_round-requires-clause-own c = record {
  one = omega arith;
  rotates = refl;
  mixes = λ x y z r p. search rules;
  orders = λ i r h p. record { is = search rules; small = search rules };
}

pub returns : goal.returns
returns c = operations_rounds _ _ _ _ _ _ c.one_round-q.ensures c.one_round-q-2.ensures c.one_round-q-3.ensures c.one_round.ensures
