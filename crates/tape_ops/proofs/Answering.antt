-- What an operation gives where it refuses nothing is an outcome. Assumes nothing.
use Prim.Native.Nat.{ℕ, ◌+◌}
use mathlib.Core.Bool.{Bool, false}
use mathlib.Core.List.{List}
use mathlib.Core.Path.{◌≡◌, refl}
use native.Mathlib.Omega.{arith}
use lib.Dec.{ltb, eqb}
use Rattle.xdr.specs.Choose.{choose}
use Rattle.xdr.proofs.Tests.{by_test}
use Rattle.tape_image.specs.Image.{capacity, count, entry_len}
use Rattle.tape_spacing.specs.declared.Spaced.{Spaced}
use Rattle.tape_spacing.specs.Spacing.{spacing}
use Rattle.tape_spacing.proofs.Laws.{spaced_error}
use Rattle.tape_ops.specs.declared.Part.{Part}
use Rattle.tape_ops.specs.Step.{Step}
use Rattle.tape_ops.specs.Operations.{entry_part, mark_step}
use Rattle.tape_ops.specs.Answers.{is_refusal}

-- the outcomes are no refusals
done : is_refusal 0 ≡ false
unfolding is_refusal choose
done = refl

at_mark : is_refusal 12 ≡ false
unfolding is_refusal choose
at_mark = refl

at_end : is_refusal 13 ≡ false
unfolding is_refusal choose
at_end = refl

-- an error that is none other than an outcome
outcome : (e : ℕ) → ((e ≡ 0 → ⊥) × (e ≡ 12 → ⊥) × (e ≡ 13 → ⊥) → ⊥) → is_refusal e ≡ false
unfolding is_refusal choose
outcome e h = by_test (λ (b : Bool). b ≡ false) (eqb e 0) false _ (λ _. refl)
    (λ a. by_test (λ (b : Bool). b ≡ false) (eqb e 12) false _ (λ _. refl) (λ b. grind (arith, h)))

module _ (l : List ℕ) (p : ℕ) where
  pub part_outcome : (times : ℕ) → is_refusal (entry_part l p times).error ≡ false
  unfolding entry_part
  part_outcome times =
      let P : Part → Type 0 = λ s. is_refusal s.error ≡ false in
      by_test P (eqb p (count l)) _ _ (λ _. at_end) (λ _. by_test P (eqb (entry_len l p) 0) _ _ (λ _. at_mark) (λ _. done))

  pub mark_outcome : (times : ℕ) → is_refusal (mark_step l p times).gives.error ≡ false
  unfolding mark_step
  mark_outcome times =
      by_test (λ (s : Step Spaced). is_refusal s.gives.error ≡ false) (ltb (capacity l) (p + times)) _ _ (λ _. at_end) (λ _. done)

  pub space_outcome : (op times : ℕ) → is_refusal (spacing l op p times).error ≡ false
  space_outcome op times = outcome _ (spaced_error l op p times)
