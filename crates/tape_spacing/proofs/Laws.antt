-- The laws of spacing. Assumes nothing.
use Prim.Native.Nat.{ℕ, zero, suc, ◌+◌, ◌-◌, ◌≤◌, ◌<◌}
use mathlib.Core.List.{List}
use mathlib.Core.Bool.{Bool, true, false}
use mathlib.Core.Path.{◌≡◌, refl, sym, ◌∙◌}
use native.Mathlib.Omega.{arith}
use lib.Dec.{eqb}
use borrow.Author.Tests.{eq-eqb, ne_eqb, eqb-true}
use Rattle.xdr.specs.Choose.{choose}
use Rattle.xdr.proofs.Tests.{by_test}
use Rattle.tape_image.specs.Image.{count, entry_len}
use Rattle.tape_spacing.specs.declared.Spaced.{Spaced}
use Rattle.tape_spacing.specs.Spacing.{ended, walk, spacing, ahead_of, passes, position_after, left_after, stops, goes_forward, counts_marks, PassedMark, end_of}

-- a step stays within the table
module _ (n i rest : ℕ) (some : rest ≡ 0 → ⊥) where
  pub passes_below : (f : Bool) → i ≤ n → rest ≡ ahead_of f n i → passes f i < n
  unfolding ahead_of passes position_after
  passes_below true h e = omega arith
  passes_below false h e = omega arith

  pub after_within : (f : Bool) → i ≤ n → rest ≡ ahead_of f n i → position_after f i ≤ n
  unfolding ahead_of passes position_after
  after_within true h e = omega arith
  after_within false h e = omega arith

  pub after_ahead : (f : Bool) → i ≤ n → rest ≡ ahead_of f n i → rest - 1 ≡ ahead_of f n (position_after f i)
  unfolding ahead_of passes position_after
  after_ahead true h e = omega arith
  after_ahead false h e = omega arith

module _ (f marks : Bool) (l : List ℕ) where
  pub walk_done : (k i left : ℕ) → left ≡ 0 → walk f marks l k i left ≡ ended 0 i 0
  unfolding walk choose
  walk_done zero i left h = rw (eq-eqb _ _ h)
  walk_done (suc k) i left h = rw (eq-eqb _ _ h)

  pub walk_end : (k i left : ℕ) → (left ≡ 0 → ⊥) → k ≡ 0 → walk f marks l k i left ≡ ended 13 i left
  unfolding walk choose
  walk_end k i left h e = rw (e, ne_eqb _ _ h)

  pub walk_stop : (m i left : ℕ) → (left ≡ 0 → ⊥) → (m ≡ 0 → ⊥) → marks ≡ false → entry_len l (passes f i) ≡ 0 → walk f marks l m i left ≡ ended 12
      (position_after f i) left
  unfolding walk stops left_after choose
  walk_stop m i left some on by q =
      let more : m ≡ suc (m - 1) = omega arith in
      rw (more, ne_eqb _ _ some, eq-eqb _ _ q, by)

  -- one entry ahead, and k after it
  module _ (m k i left : ℕ) (some : left ≡ 0 → ⊥) (more : m ≡ suc k) where
    pub walk_mark : marks ≡ true → entry_len l (passes f i) ≡ 0 → walk f marks l m i left ≡ walk f marks l k (position_after f i) (left - 1)
    unfolding walk stops left_after choose
    walk_mark by q = rw (by, more, ne_eqb _ _ some, eq-eqb _ _ q)

    pub walk_pass : marks ≡ true → (entry_len l (passes f i) ≡ 0 → ⊥) → walk f marks l m i left ≡ walk f marks l k (position_after f i) left
    unfolding walk stops left_after choose
    walk_pass by q = rw (by, more, ne_eqb _ _ some, ne_eqb _ _ q)

    pub walk_record : marks ≡ false → (entry_len l (passes f i) ≡ 0 → ⊥) → walk f marks l m i left ≡ walk f marks l k (position_after f i) (left - 1)
    unfolding walk stops left_after choose
    walk_record by q = rw (by, more, ne_eqb _ _ some, ne_eqb _ _ q)

-- ---- where a walk ends: within the table, and with no more left than was asked
pub record Walked (n times : ℕ) (s : Spaced) : Type 0 where
  pub within : s.position ≤ n
  pub least : s.residue ≤ times

counted_less : (marks mark : Bool) (left : ℕ) → left_after marks mark left ≤ left
unfolding left_after
counted_less true true left = omega arith
counted_less true false left = omega arith
counted_less false true left = omega arith
counted_less false false left = omega arith

module _ (f marks : Bool) (l : List ℕ) (n : ℕ) where
  walked : (k i left : ℕ) → i ≤ n → k ≡ ahead_of f n i → Walked n left (walk f marks l k i left)
  unfolding walk
  walked zero i left h e =
      by_test (Walked n left) (eqb left 0) (ended 0 i 0) (ended 13 i left) (λ _. record { within = h; least = omega arith })
      (λ _. record { within = h; least = omega arith })
  walked (suc k) i left h e =
      let mark = eqb (entry_len l (passes f i)) 0 in
      let some : suc k ≡ 0 → ⊥ = λ z. omega arith in
      let step = after_within n i (suc k) some f h e in
      let pred : suc k - 1 ≡ k = omega arith in
      let ahead : k ≡ ahead_of f n (position_after f i) = sym pred ∙ after_ahead n i (suc k) some f h e in
      let rest = walked k (position_after f i) (left_after marks mark left) step ahead in
      let less = counted_less marks mark left in
      by_test (Walked n left) (eqb left 0) (ended 0 i 0) _ (λ _. record { within = h; least = omega arith })
      (λ _. by_test (Walked n left) (stops marks mark) (ended 12 (position_after f i) left) _ (λ _. record { within = step; least = omega arith })
      (λ _. record { within = rest.within; least = omega arith }))

pub spaced_within : (l : List ℕ) (op p times : ℕ) → p ≤ count l → Walked (count l) times (spacing l op p times)
unfolding spacing
spaced_within l op p times h = walked (goes_forward op) (counts_marks op) l (count l) _ p times h refl

-- a walk ends with 0, 12 or 13
abbrev pub Other : ℕ → Type 0
Other e = (e ≡ 0 → ⊥) × (e ≡ 12 → ⊥) × (e ≡ 13 → ⊥)

module _ (f marks : Bool) (l : List ℕ) where
  no_other : (k i left : ℕ) → Other (walk f marks l k i left).error → ⊥
  unfolding walk
  no_other zero i left =
      by_test (λ (s : Spaced). Other s.error → ⊥) (eqb left 0) (ended 0 i 0) (ended 13 i left) (λ _ o. o.0 refl) (λ _ o. o.2 refl)
  no_other (suc k) i left =
      let mark = eqb (entry_len l (passes f i)) 0 in
      by_test (λ (s : Spaced). Other s.error → ⊥) (eqb left 0) (ended 0 i 0) _ (λ _ o. o.0 refl)
      (λ _. by_test (λ (s : Spaced). Other s.error → ⊥) (stops marks mark) (ended 12 (position_after f i) left) _ (λ _ o. o.1 refl)
      (λ _. no_other k (position_after f i) (left_after marks mark left)))

pub spaced_error : (l : List ℕ) (op p times : ℕ) → Other (spacing l op p times).error → ⊥
unfolding spacing
spaced_error l op p times = no_other (goes_forward op) (counts_marks op) l _ p times

-- ---- where a walk leaves the tape that ends with 12 or 13
-- a step more before
mark_step_before : (f : Bool) (l : List ℕ) (n i k q : ℕ) → i ≤ n → suc k ≡ ahead_of f n i → PassedMark f l (position_after f i) q → PassedMark f l i q
unfolding ahead_of position_after
mark_step_before true l n i k q h e m = (let z = m.0 in omega arith, m.1)
mark_step_before false l n i k q h e m = (let z = m.0 in omega arith, m.1)

mark_here : (f : Bool) (l : List ℕ) (n i k : ℕ) → i ≤ n → suc k ≡ ahead_of f n i → entry_len l (passes f i) ≡ 0 → PassedMark f l i (position_after f i)
unfolding ahead_of position_after passes
mark_here true l n i k h e m = (omega arith, let z : i + 1 - 1 ≡ i = omega arith in rw z m)
mark_here false l n i k h e m = (omega arith, m)

end_here : (f : Bool) (n i : ℕ) → i ≤ n → 0 ≡ ahead_of f n i → i ≡ end_of f n
unfolding ahead_of
end_here true n i h e = omega arith
end_here false n i h e = omega arith

stops_mark : (marks mark : Bool) → stops marks mark ≡ true → mark ≡ true
unfolding stops
stops_mark true mark h = absurd (let z : ◌≡◌ {A = ℕ} 0 1 = cc in omega arith)
stops_mark false mark h = h

module _ (f marks : Bool) (l : List ℕ) (n : ℕ) where
  -- where the walk that began at i stands, by its error
  pub record Stands (i : ℕ) (s : Spaced) : Type 0 where
    pub mark : s.error ≡ 12 → PassedMark f l i s.position
    pub end : s.error ≡ 13 → s.position ≡ end_of f n

  stands_done : (i j : ℕ) → Stands i (ended 0 j 0)
  stands_done i j = record { mark = λ e. absurd (omega arith); end = λ e. absurd (omega arith) }

  stands : (k i left : ℕ) → i ≤ n → k ≡ ahead_of f n i → Stands i (walk f marks l k i left)
  unfolding walk
  stands zero i left h e =
      by_test (Stands i) (eqb left 0) (ended 0 i 0) (ended 13 i left) (λ _. stands_done i i)
      (λ _. record { mark = λ z. absurd (omega arith); end = λ _. end_here f n i h e })
  stands (suc k) i left h e =
      let mark = eqb (entry_len l (passes f i)) 0 in
      let some : suc k ≡ 0 → ⊥ = λ z. omega arith in
      let step = after_within n i (suc k) some f h e in
      let pred : suc k - 1 ≡ k = omega arith in
      let ahead : k ≡ ahead_of f n (position_after f i) = sym pred ∙ after_ahead n i (suc k) some f h e in
      let rest = stands k (position_after f i) (left_after marks mark left) step ahead in
      by_test (Stands i) (eqb left 0) (ended 0 i 0) _ (λ _. stands_done i i)
      (λ _. by_test (Stands i) (stops marks mark) (ended 12 (position_after f i) left) _
      (λ s. record {
        mark = λ _. mark_here f l n i k h e (eqb-true (entry_len l (passes f i)) 0 (stops_mark marks mark s));
        end = λ z. absurd (omega arith);
      })
      (λ _. record { mark = λ z. mark_step_before f l n i k _ h e (rest.mark z); end = rest.end }))

pub spaced_stands : (l : List ℕ) (op p times : ℕ) → p ≤ count l → Stands (goes_forward op) (counts_marks op) l (count l) p (spacing l op p times)
unfolding spacing
spaced_stands l op p times h = stands (goes_forward op) (counts_marks op) l (count l) _ p times h refl
