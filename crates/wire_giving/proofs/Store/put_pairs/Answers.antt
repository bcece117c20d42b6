use native.Mathlib.Omega.{arith}
use Rattle.xdr.proofs.Tests.{asked}
use Rattle.wire_pairs.specs.Pairs.{separator_name, separator}
use Rattle.wire_pairs.proofs.Sizes.{pairs_size, separator_size}
use Rattle.wire_pairs.proofs.Giving.{put_kept, put_separator}
use Rattle.wire_giving.proofs.Store.put_pairs.Goals as goal

pub returns-then-is_named : goal.returns-then-is_named
returns-then-is_named c = put_kept _ c.put_kept-next.ensures (asked c.is_named.ensures c.if-is_named.true)

pub put_pair-requires-clause-room : goal.put_pair-requires-clause-room
unfolding separator_name separator
put_pair-requires-clause-room c = omega (arith, pairs_size _ c.args.self.laid, c.args.self.short, c.put_kept-next.ensures.end, separator_size)

pub returns : goal.returns
unfolding separator_name separator
returns c = let no = asked c.is_named.ensures c.if-is_named.false in
    put_separator _ c.put_kept-next.ensures no c.put_pair.ensures
