-- Where a window ends, and which lengths set window accepts. Assumes nothing.
use Rattle.std.proofs.Common.{◌≡◌, ℕ, ◌+◌, ◌%◌, ◌≤◌, Bool, true, false, eqb, refl, arith, ltb-false, le-ltb, eq-eqb, ne_eqb, eqb-true}
use borrow.Author.Tests.{eqb-false}
use Rattle.xdr.specs.Choose.{choose}
use Rattle.xdr.proofs.Tests.{by_test, when, unless, none_of, none, is, eq_not}
use Rattle.rules_parts.specs.Names.{top, endless}
use Rattle.rules_parts.specs.Parts.{window_end, is_past_top, length_wrong}

pub past_top : (a b : ℕ) → is_past_top a b ≡ false → a + b ≤ top
unfolding is_past_top
past_top a b h = ltb-false top (a + b) h

pub no_past : (a b : ℕ) → a + b ≤ top → is_past_top a b ≡ false
unfolding is_past_top
no_past a b h = le-ltb top (a + b) h

pub end_endless : (offset length : ℕ) → length ≡ endless → window_end offset length ≡ top
unfolding window_end choose
end_endless offset length e = rw (eq-eqb length endless e) refl

pub end_other : (offset length : ℕ) → (length ≡ endless → ⊥) → window_end offset length ≡ offset + length
unfolding window_end choose
end_other offset length n = rw (ne_eqb length endless n) refl

-- ---- a length that set window accepts
pub record LengthRight (size offset length : ℕ) : Type 0 where
  pub whole : (length ≡ endless → ⊥) → length % size ≡ 0
  pub starts : offset ≤ window_end offset length
  pub fits : window_end offset length ≤ top

module _ (size offset length : ℕ) where
  by_length : length_wrong size offset length ≡ false → (b : Bool) → eqb length endless ≡ b → LengthRight size offset length
  unfolding length_wrong
  by_length h true e =
      let z = eqb-true length endless e in
      let o = ltb-false top offset (when (eqb length endless) _ h e) in
      record { whole = λ n. absurd (n z); starts = rw (end_endless offset length z) o; fits = rw (end_endless offset length z) (omega arith) }
  by_length h false e =
      let n = eqb-false length endless e in
      let a = none_of _ (unless (eqb length endless) _ h e) in
      record { whole = λ _. is a.0; starts = rw (end_other offset length n) (omega arith); fits = rw (end_other offset length n) (past_top offset length a.1) }

  pub length_right : length_wrong size offset length ≡ false → LengthRight size offset length
  length_right h = by_length h (eqb length endless) refl

  pub right_length : LengthRight size offset length → length_wrong size offset length ≡ false
  unfolding length_wrong
  right_length r =
      by_test (λ (b : Bool). b ≡ false) (eqb length endless) _ _
      (λ e. le-ltb top offset (rw (end_endless offset length (eqb-true length endless e)) at r.starts))
      (λ e. let n = eqb-false length endless e in none (eq_not (r.whole n)) (no_past offset length (rw (end_other offset length n) at r.fits)))
