-- What the search comes to, from what each step of it gave: the cases of a jump. Assumes nothing.
use Prim.Native.Nat.{ℕ, ◌-◌, ◌≤◌, ◌<◌}
use mathlib.Core.Bool.{Bool}
use mathlib.Core.List.{List}
use mathlib.Core.Path.{◌≡◌, sym, ap, ◌∙◌}
use native.Mathlib.Omega.{arith}
use lib.ListN.{length, get_or}
use Rattle.tape_spacing.specs.Spacing.{ended, end_of, ahead_of}
use Rattle.tape_marks.specs.Marks.{before, count_th, stops_at, jump}
use Rattle.tape_marks.proofs.Jump.{ahead_by, jump_end, jump_found}

-- of m marks `passed` lie before position p and `ahead` ahead of it
module _ (f : Bool) (ms : List ℕ) (n p times m passed ahead : ℕ)
    (long : length ms ≡ m) (b : passed ≡ before ms p) (a : ahead ≡ ahead_of f m passed) where
  ahead_is : ahead ≡ ahead_by f ms p
  ahead_is = a ∙ ap (λ (k : ℕ). ahead_of f k passed) (sym long) ∙ ap (ahead_of f (length ms)) b

  pub found_end : (end : ℕ) → end ≡ end_of f n → ahead < times → ended 13 end (times - ahead) ≡ jump f ms n p times
  found_end end e less =
      let i = ahead_is in
      ap (λ (q : ℕ). ended 13 q (times - ahead)) e ∙ ap (λ (k : ℕ). ended 13 (end_of f n) (times - k)) i ∙ sym (jump_end f ms n p times (omega arith))

  pub found_mark : (index mark stop : ℕ) → (times ≡ 0 → ⊥) → times ≤ ahead → index ≡ count_th f passed times → mark ≡ get_or ms index 0 → stop ≡ stops_at f mark
      → ended 0 stop 0 ≡ jump f ms n p times
  found_mark index mark stop some enough at is s =
      let i = ahead_is in
      ap (λ (q : ℕ). ended 0 q 0) (s ∙ ap (stops_at f) (is ∙ ap (λ (j : ℕ). get_or ms j 0) (at ∙ ap (λ (k : ℕ). count_th f k times) b)))
      ∙ sym (jump_found f ms n p times some (omega arith))
