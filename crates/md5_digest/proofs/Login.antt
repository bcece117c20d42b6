-- Laws of the string of a login.
-- Assumes nothing.
use Rattle.std.proofs.Common.{◌≡◌, ℕ, ◌+◌, ◌-◌, ◌*◌, ◌≤◌, List, ◌++◌, length, take, sym, ap, ◌∙◌, arith, length-append, take_all}
use lib.ListN.{length-replicate}
use Rattle.xdr.specs.Xdr.{overlay}
use Rattle.xdr.proofs.Laws.{more, length_overlay}
use Rattle.md5_digest.specs.Login.{login_string}
use Rattle.md5_digest.proofs.Laws.{none, padded_front}

gap : (n : ℕ) → (64 - n) - n ≡ 64 - 2 * n
gap n = omega arith

fill : (n : ℕ) → n ≤ 32 → n + ((64 - 2 * n) + (64 + n)) ≡ 128
fill n h = omega arith

pub length_login : (p c : List ℕ) → length p ≤ 32 → length c ≡ 64 → length (login_string p c) ≡ 128
unfolding login_string
length_login p c h k = simp (length-append, length-replicate) (rw k (fill (length p) h))

-- the three writes into a string of zeros, one after the other
module _ (p c l₀ l₁ l₂ l₃ : List ℕ) where
  pub login_told : length p ≤ 32 → length c ≡ 64 → l₀ ≡ none 128 → l₁ ≡ overlay 0 p l₀ → l₂ ≡ overlay (64 - length p) c l₁
      → l₃ ≡ overlay (128 - length p) p l₂ → l₃ ≡ login_string p c
  unfolding login_string
  login_told short given zeroed first second third =
      let n : ℕ = length p in
      let x : List ℕ = overlay 0 p (none 128) in
      let first' : l₁ ≡ x = first ∙ ap (overlay 0 p) zeroed in
      let seam : (64 - n) + length c ≡ 128 - n = omega arith in
      let told : l₃ ≡ overlay (64 - n) (c ++ p) x =
      more (64 - n) (128 - n) c p x l₂ l₃ (second ∙ ap (overlay (64 - n) c) first') third seam in
      let long₀ : length (none 128) ≡ 128 = length-replicate {A = ℕ} 128 0 in
      let long : length x ≡ 128 = length_overlay 0 p (none 128) (omega arith) ∙ long₀ in
      let ends : (64 - n) + length (c ++ p) ≡ 128 = omega (arith, length-append c p) in
      let long₃ : length l₃ ≡ 128 = ap length told ∙ length_overlay (64 - n) (c ++ p) x (omega arith) ∙ long in
      let all : take 128 l₃ ≡ l₃ = take_all 128 l₃ (omega arith) in
      sym all ∙ padded_front (64 - n) 128 p (c ++ p) l₃ told (omega arith) ends (omega arith) ∙ rw (gap n)
