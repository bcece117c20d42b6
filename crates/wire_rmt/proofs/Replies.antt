-- The statements on replies, of specs/Holds.antt. Assumes nothing.
use Prim.Native.Nat.{ℕ, ◌+◌, ◌≤◌, ◌<◌, ◌^◌}
use mathlib.Core.List.{List, [], ◌∷◌, ◌++◌, append_assoc}
use mathlib.Core.Path.{◌≡◌, sym, ap, ◌∙◌}
use native.Mathlib.Omega.{arith}
use lib.ListN.{length, drop, length-append}
use Rattle.std.specs.Prelude.{Some}
use Rattle.wire_rmt.specs.Numbers.{line_feed, number, number_at, decimal}
use Rattle.wire_rmt.specs.Replies.{error_text, headed, accepted, refused}
use Rattle.wire_rmt.specs.Holds.{RepliesHold}
use Rattle.wire_rmt.proofs.Numbers as Numbers

-- a head, and what stands behind it
head_back : (letter n : ℕ) (r : List ℕ) → n < 2 ^ 32 → number_at (headed letter n ++ r) 1 ≡ Some (number n (1 + length (decimal n) + 1))
unfolding headed
head_back letter n r h =
    let w = Numbers.written n h in
    let e : drop 1 ((letter ∷ (decimal n ++ (line_feed ∷ []))) ++ r) ≡ decimal n ++ (line_feed ∷ r) = append_assoc (decimal n) (line_feed ∷ []) r in
    Numbers.back _ 1 (decimal n) r e w.0 ∙ ap (λ (v : ℕ). Some (number v (1 + length (decimal n) + 1))) w.1

pub head_length : (letter n : ℕ) → length (headed letter n) ≡ 1 + length (decimal n) + 1
unfolding headed
head_length letter n = let e = length-append (decimal n) (line_feed ∷ []) in omega arith

accepted_back : (n : ℕ) (bytes : List ℕ) → n < 2 ^ 32 → number_at (accepted n ++ bytes) 1 ≡ Some (number n (length (accepted n)))
unfolding accepted
accepted_back n bytes h = head_back 65 n bytes h ∙ ap (λ (k : ℕ). Some (number n k)) (sym (head_length 65 n))

refused_back : (n : ℕ) → n < 2 ^ 32 → number_at (refused n) 1 ≡ Some (number n (1 + length (decimal n) + 1))
unfolding refused
refused_back n h = head_back 69 n (error_text n ++ (line_feed ∷ [])) h

pub accepted_fits : (n : ℕ) → length (accepted n) ≤ 12
unfolding accepted
accepted_fits n = omega (arith, head_length 65 n, Numbers.decimal_length n, Numbers.count_few 9 n)

pub replies : RepliesHold
replies = record { accepted_back = accepted_back; refused_back = refused_back; accepted_fits = accepted_fits }
