-- Two reads give the bytes of the first and then those of the second, and they lie so in the buffer.
use Rattle.std.proofs.Common.{List, ℕ, ◌≡◌, ◌≤◌, ◌+◌, ◌-◌, ◌++◌, length, take, drop, rules, arith, append_assoc, length-take, length-drop, length-append, sym, ap, subst, ◌∙◌}
use Rattle.std.proofs.Math.Seq.{take-append-add}
use Rattle.std.proofs.lemmas.List.{take-append-le}
use Rattle.std.specs.Prelude.{Option, None, Some}
use Rattle.std.specs.Io.KnownBytes.{Consumes}
use borrow.Rule.Slice.PartMut.{put_mid}
use Rattle.run_reading.proofs.read_full.Goals as goal

two : (x y z : Option (List ℕ)) (a b : List ℕ) → Consumes x y a → Consumes y z b → Consumes x z (a ++ b)
two None y z a b h k = tt
two (Some xs) None z a b h k = absurd h
two (Some xs) (Some ys) None a b h k = k
two (Some xs) (Some ys) (Some zs) a b h k = h ∙ ap (λ (l : List ℕ). a ++ l) k ∙ sym (append_assoc a b zs)

front : (p n k : ℕ) (b part : List ℕ) → p ≤ length b → n ≤ length part → take (p + n) (put_mid p k b part) ≡ take p b ++ take n part
front p n k b part h j =
    let e : length (take p b) ≡ p = omega (arith, length-take p b) in
    ap (λ (i : ℕ). take (i + n) (take p b ++ (part ++ drop k (drop p b)))) (sym e)
    ∙ take-append-add (take p b) (part ++ drop k (drop p b)) n
    ∙ ap (λ (l : List ℕ). take p b ++ l) (take-append-le n part (drop k (drop p b)) j)

fits : (p n k : ℕ) (b part : List ℕ) → p ≤ length b → n ≤ length part → p + n ≤ length (put_mid p k b part)
fits p n k b part h j = simp (length-append, length-take) (omega arith)

pub loop-done-preserved : goal.loop-done-preserved
loop-done-preserved g c =
    let i = c.loop-done.invariant in
    let r = c.in_ok-n.ensures in
    let f = front c.loop-done.done c.in_ok-n.n (length c.loop-done.buf - c.loop-done.done) c.loop-done.buf c.read.new.buf i.within r.bound.0 in
    record { within = fits _ _ _ _ _ i.within r.bound.0; bytes = subst (Consumes _ _) (sym f) (two _ _ _ _ _ i.bytes r.bytes.0) }
