use Prim.Native.Nat.{◌+◌, ◌-◌}
use mathlib.Core.Path.{◌≡◌, refl, sym, ◌∙◌}
use native.Mathlib.Omega.{arith}
use Rattle.wire_pairs.proofs.Storing.{laid_name, laid_value, laid_next, laid_end}
use Rattle.wire_storing.proofs.pairs_laid.Goals as goal

pub loop-i-init : goal.loop-i-init
loop-i-init c =
    let e : c.args.count - 0 ≡ c.args.count = omega arith in
    record { words = refl; texts = omega arith; judged = rw e refl }

pub returns-then-read_word-sum : goal.returns-then-read_word-sum
returns-then-read_word-sum c = sym (c.loop-i.invariant.judged ∙ laid_name _ _ _ _ (omega arith) (λ e. c.if-read_word-sum.true (cc)))

pub returns-then-read_word-sum-2 : goal.returns-then-read_word-sum-2
returns-then-read_word-sum-2 c = sym (c.loop-i.invariant.judged ∙ laid_value _ _ _ _ (omega arith) (cc) (λ e. c.if-read_word-sum-2.true (cc)))

pub loop-i-preserved : goal.loop-i-preserved
loop-i-preserved c =
    let k = c.loop-i in
    let i = k.invariant in
    let e : c.args.count - k.i - 1 ≡ c.args.count - (k.i + 1) = omega arith in
    record {
      words = omega (arith, i.words);
      texts = omega (arith, i.texts);
      judged = rw e at (i.judged ∙ laid_next _ _ _ _ _ _ (omega arith) (cc) (cc) c.read_word-name.ensures c.read_word-value.ensures);
    }

pub returns : goal.returns
returns c = sym (c.loop-i.invariant.judged ∙ laid_end _ _ _ _ (omega arith))
