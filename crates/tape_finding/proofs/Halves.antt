-- A search by halves: what a turn leaves is at most half of what it found, so 4,096 marks are searched in 13 turns at the most. Assumes nothing.
use Prim.Native.Nat.{ℕ, zero, suc, ◌+◌, ◌-◌, ◌*◌, ◌/◌, ◌≤◌, ◌<◌}
use mathlib.Core.List.{List}
use mathlib.Core.Path.{◌≡◌}
use native.Mathlib.Omega.{arith}
use lib.ListN.{length, get_or}
use lib.Dec.{eqb}
use borrow.Author.Tests.{eqb-true, eqb-false, eq-eqb, ne_eqb}
use Rattle.xdr.specs.Choose.{choose}
use Rattle.xdr.proofs.Tests.{by_test}
use Rattle.tape_image.specs.Image.{most_entries}
use Rattle.tape_marks.specs.Marks.{before}
use Rattle.tape_marks.specs.Holds.{RisingFrom}
use Rattle.tape_marks.proofs.Marks.{by_cases}
use Rattle.tape_marks.proofs.Words.{before_most, low_half, high_half}

-- ---- how often a number can be halved before it is 0, counted up to f
unfoldable pub halvings : ℕ → ℕ → ℕ
halvings zero d = 0
halvings (suc f) d = choose (eqb d 0) 0 (halvings f (d / 2) + 1)

-- the numbers that f halvings bring to 0 are below this
unfoldable pub within : ℕ → ℕ
within zero = 1
within (suc f) = within f * 2

halvings_some : (f d : ℕ) → (d ≡ 0 → ⊥) → halvings (suc f) d ≡ halvings f (d / 2) + 1
unfolding halvings choose
halvings_some f d h = rw (ne_eqb d 0 h)

halvings_none : (f d : ℕ) → d ≡ 0 → halvings (suc f) d ≡ 0
unfolding halvings choose
halvings_none f d h = rw (eq-eqb d 0 h)

pub halvings_most : (f d : ℕ) → halvings f d ≤ f
unfolding halvings
halvings_most zero d = omega arith
halvings_most (suc f) d =
    let rest = halvings_most f (d / 2) in
    by_test (λ (k : ℕ). k ≤ suc f) (eqb d 0) _ _ (λ _. omega arith) (λ _. omega arith)

pub halvings_less : (f d e : ℕ) → d < within f → (d ≡ 0 → ⊥) → e ≤ d / 2 → halvings f e < halvings f d
unfolding within
halvings_less zero d e h some less = absurd (some (omega arith))
halvings_less (suc f) d e h some less =
    let one = halvings_some f d some in
    by_cases (eqb e 0)
    (λ z. let none = halvings_none f e (eqb-true e 0 z) in omega arith)
    (λ z. let more = eqb-false e 0 z in
    let two = halvings_some f e more in
    let rest = halvings_less f (d / 2) (e / 2) (omega arith) (λ n. more (omega arith)) (omega arith) in
    omega arith)

-- ---- a turn: what is asked for lies from low to high
pub record Between (ms : List ℕ) (p low high : ℕ) : Type 0 where
  pub low_most : low ≤ before ms p
  pub high_least : before ms p ≤ high
  pub within_list : high ≤ length ms

-- turns that are left, at the most
abbrev pub turns : ℕ → ℕ → ℕ
turns low high = halvings 13 (high - low)

abbrev pub middle : ℕ → ℕ → ℕ
middle low high = low + (high - low) / 2

pub start : (ms : List ℕ) (p m : ℕ) → length ms ≡ m → Between ms p 0 m
start ms p m e =
    let most = before_most ms p in
    record { low_most = omega arith; high_least = omega arith; within_list = omega arith }

module _ (low high : ℕ) (less : low < high) where
  module _ (few : high ≤ most_entries) where
    pub upper_less : turns (middle low high + 1) high < turns low high
    unfolding within
    upper_less = halvings_less 13 (high - low) (high - (middle low high + 1)) (omega arith) (λ e. omega arith) (omega arith)

    pub lower_less : turns low (middle low high) < turns low high
    unfolding within
    lower_less = halvings_less 13 (high - low) (middle low high - low) (omega arith) (λ e. omega arith) (omega arith)

  module _ (ms : List ℕ) (p : ℕ) (rising : RisingFrom 0 ms) (b : Between ms p low high) where
    pub upper : get_or ms (middle low high) 0 < p → Between ms p (middle low high + 1) high
    upper h =
        let i = b.within_list in
        record {
          low_most = low_half p 0 ms (middle low high) rising (omega arith) h;
          high_least = b.high_least;
          within_list = i;
        }

    pub lower : p ≤ get_or ms (middle low high) 0 → Between ms p low (middle low high)
    lower h =
        let i = b.within_list in
        record {
          low_most = b.low_most;
          high_least = high_half p 0 ms (middle low high) rising (omega arith) h;
          within_list = omega arith;
        }

pub found : (ms : List ℕ) (p low high : ℕ) → high ≤ low → Between ms p low high → low ≡ before ms p
found ms p low high h b =
    let i = b.low_most in
    let j = b.high_least in
    omega arith

pub ruleset halves = (start, upper_less, lower_less, upper, lower, found)
