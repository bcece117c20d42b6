-- A store whose count was made 0, and what is added for the answer. Assumes nothing.
use Prim.Native.Nat.{ℕ, ◌≤◌}
use mathlib.Core.Bool.{Bool, true, false}
use mathlib.Core.Path.{◌≡◌, refl}
use mathlib.Core.List.{List, [], ◌∷◌, ◌++◌}
use native.Mathlib.Omega.{arith}
use lib.ListN.{length, drop}
use borrow.Author.Tests.{le-leb}
use Rattle.xdr.specs.Choose.{choose}
use Rattle.xdr.specs.Xdr.{be32, word, overlay, same_bytes}
use Rattle.xdr.proofs.Tests.{by_test, no}
use Rattle.xdr.proofs.Comparing.{is_same, same_is}
use Rattle.xdr_opaque.specs.Put.{Each}
use Rattle.xdr.proofs.Laws.{length_be32, length_overlay, word_overlay}
use Rattle.wire_pairs.specs.Pairs.{Pair, pair, is_named, separator_name, separator, with_separator}
use Rattle.wire_pairs.specs.Store.{emptied, laid_from, is_laid, kept_from, kept_pairs, environment_of}
use Rattle.wire_pairs.specs.Holds.{Emptied}

-- ---- what is added for the answer
pub named_same : (ps : List Pair) → is_named separator_name ps ≡ true → with_separator ps ≡ ps
unfolding with_separator choose
named_same ps h = rw h

pub unnamed_added : (ps : List Pair) → is_named separator_name ps ≡ false
    → with_separator ps ≡ ps ++ (pair separator_name separator ∷ [])
unfolding with_separator choose
unnamed_added ps h = rw h

named_in : (n v : List ℕ) (ps qs : List Pair) → is_named n (ps ++ (pair n v ∷ qs)) ≡ true
unfolding is_named choose
named_in n v [] qs = rw (is_same n)
named_in n v (p ∷ ps) qs = by_test (λ (b : Bool). b ≡ true) (same_bytes p.name n) true _ (λ _. refl) (λ _. named_in n v ps qs)

named_not : (n : List ℕ) (ps : List Pair) → Each (λ (p : Pair). p.name ≡ n → ⊥) ps → is_named n ps ≡ false
unfolding is_named choose
named_not n [] h = refl
named_not n (p ∷ ps) h = rw (← no (same_bytes p.name n) (λ e. h.0 (same_is p.name n e))) (named_not n ps h.1)

pub given_one : (ps qs : List Pair) (v : List ℕ)
    → with_separator (ps ++ (pair separator_name v ∷ qs)) ≡ ps ++ (pair separator_name v ∷ qs)
given_one ps qs v = named_same _ (named_in separator_name v ps qs)

pub given_none : (ps : List Pair) → Each (λ (p : Pair). p.name ≡ separator_name → ⊥) ps
    → with_separator ps ≡ ps ++ (pair separator_name separator ∷ [])
given_none ps h = unnamed_added ps (named_not separator_name ps h)

-- ---- a count of 0
module _ (store : List ℕ) where
  pub emptied_past : drop 4 (emptied store) ≡ drop 4 store
  unfolding emptied overlay be32
  emptied_past = refl

  module _ (h : 4 ≤ length store) where
    pub emptied_length : length (emptied store) ≡ length store
    unfolding emptied
    emptied_length = length_overlay 0 (be32 0) store (rw length_be32 h)

    count_none : word (emptied store) 0 ≡ 0
    unfolding emptied
    count_none = word_overlay 0 0 store (omega arith) (omega arith)

    pub emptied_kept : kept_pairs (emptied store) ≡ []
    unfolding kept_pairs kept_from
    emptied_kept = rw count_none

    pub emptied_laid : is_laid (emptied store) ≡ true
    unfolding is_laid laid_from choose
    emptied_laid = rw (count_none, emptied_length) (le-leb 4 (length store) h)

    pub emptied_given : environment_of (emptied store) ≡ pair separator_name separator ∷ []
    unfolding environment_of is_named
    emptied_given = rw emptied_kept (unnamed_added [] refl)

    pub stop_leaves : Emptied store
    stop_leaves = record { laid = emptied_laid; none = emptied_kept; long = emptied_length; past = emptied_past; given = emptied_given }
