-- Words that are judged entry by entry: before each turn what is left decides. Assumes nothing.
use Prim.Native.Nat.{ℕ, ◌+◌, ◌-◌, ◌≤◌, ◌<◌}
use mathlib.Core.Bool.{false}
use mathlib.Core.List.{List}
use mathlib.Core.Path.{◌≡◌, sym, ap, ◌∙◌}
use native.Mathlib.Omega.{arith}
use native.Mathlib.Nat.{sub-zero}
use lib.ListN.{length, get_or}
use lib.Dec.{eqb}
use Rattle.tape_image.specs.Image.{entry_len}
use Rattle.tape_marks.specs.Marks.{names_marks, is_mark_list}
use Rattle.tape_marks.proofs.Marks.{names_end, names_pass, names_short, names_other, names_next}

-- i of n entries are judged, and j words were among them
pub record Judged (words l : List ℕ) (n i j : ℕ) : Type 0 where
  pub within : i ≤ n
  pub behind : j ≤ i
  pub rest : is_mark_list words l n ≡ names_marks words l (n - i) i j

pub judged_start : (words l : List ℕ) (n : ℕ) → Judged words l n 0 0
unfolding is_mark_list
judged_start words l n =
    record { within = omega arith; behind = omega arith; rest = ap (λ (k : ℕ). names_marks words l k 0 0) (sym (sub-zero n)) }

-- of m words
module _ (words l : List ℕ) (n i j m : ℕ) (long : length words ≡ m) (s : Judged words l n i j) where
  pub judged_end : n ≤ i → eqb j m ≡ is_mark_list words l n
  judged_end h = ap (eqb j) (sym long) ∙ sym (s.rest ∙ names_end words l n i j h)

  module _ (h : i < n) where
    pub judged_pass : (entry_len l i ≡ 0 → ⊥) → Judged words l n (i + 1) j
    judged_pass q =
        let b = s.behind in
        record { within = omega arith; behind = omega arith; rest = s.rest ∙ names_pass words l n i j h q }

    module _ (q : entry_len l i ≡ 0) where
      pub judged_short : m ≤ j → false ≡ is_mark_list words l n
      judged_short b = sym (s.rest ∙ names_short words l n i j h q (omega arith))

      module _ (b : j < m) where
        pub judged_other : (get_or words j 0 ≡ i → ⊥) → false ≡ is_mark_list words l n
        judged_other w = sym (s.rest ∙ names_other words l n i j h q (omega arith) w)

        pub judged_next : get_or words j 0 ≡ i → Judged words l n (i + 1) (j + 1)
        judged_next w =
            let z = s.behind in
            record { within = omega arith; behind = omega arith; rest = s.rest ∙ names_next words l n i j h q (omega arith) w }

pub ruleset judged = (judged_end, judged_pass, judged_short, judged_other, judged_next)
