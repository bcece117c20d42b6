use Rattle.std.proofs.Common.{◌∙◌, rules, tests}
use Rattle.std.proofs.lemmas.Iterator.Consumers.{YieldsList-from_first}
use Rattle.std.proofs.lemmas.Iterator.Search.{any_from_yields_List}
use Rattle.xdr.specs.Xdr.{same_bytes}
use Rattle.wire_pairs.specs.Pairs.{Pair, pair, separator_name}
use Rattle.wire_pairs.proofs.Giving.{named_any}
use Rattle.wire_giving.specs.Kept.{to_come}
use Rattle.wire_giving.proofs.Store.is_named.Goals as goal

pub returns : goal.returns
returns c =
    any_from_yields_List (λ (p : Pair). same_bytes p.name separator_name) c.any.new.self _ _ c.any.ensures.ran
    (YieldsList-from_first (λ p. pair p.0.now p.1.now) to_come {s = c.pairs.result} _ c.pairs.ensures) (λ x b q k. search (rules, tests)) ∙ named_any _
