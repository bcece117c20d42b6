-- How long what 0x404 gives can be: the pairs of a store that is laid out so, and the separator's pair. Assumes nothing.
use Prim.Native.Nat.{ℕ, zero, suc, ◌+◌, ◌*◌, ◌≤◌}
use mathlib.Core.Bool.{Bool, true, false}
use mathlib.Core.Path.{◌≡◌, refl, ap}
use mathlib.Core.List.{List, [], ◌∷◌, ◌++◌}
use native.Mathlib.Omega.{arith}
use lib.Dec.{eqb, leb}
use lib.ListN.{length, take, drop, length-append, length-take}
use borrow.Author.Tests.{leb-true, eqb-true}
use Rattle.codes.specs.Codes.{most_listed}
use Rattle.xdr.specs.Choose.{choose}
use Rattle.xdr.specs.Xdr.{word, be32}
use Rattle.xdr.proofs.Tests.{by_test}
use Rattle.xdr_opaque.specs.Put.{opaque}
use Rattle.xdr_opaque.proofs.Laws.{length_opaque}
use Rattle.wire_pairs.specs.Pairs.{Pair, pair, separator_name, separator, is_named, with_separator, pair_bytes}
use Rattle.wire_pairs.specs.Store.{laid_from, is_laid, kept_from, kept_pairs, environment_of}

-- both of two tests hold
pub both : (t : Bool) {r : Bool} → choose t r false ≡ true → (t ≡ true) × (r ≡ true)
unfolding choose
both true h = (refl, h)
both false h = cc

-- ---- what a store that is laid out so says
pub record Laid (store : List ℕ) (n at sum : ℕ) : Type 0 where
  pub name_starts : word store at ≡ sum
  pub value_starts : word store (at + 8) ≡ sum + word store (at + 4)
  pub others : laid_from store n (at + 16) (sum + word store (at + 4) + word store (at + 12)) ≡ true

pub laid_one : (store : List ℕ) (n at sum : ℕ) → laid_from store (suc n) at sum ≡ true → Laid store n at sum
unfolding laid_from
laid_one store n at sum h =
    let p = both (eqb (word store at) sum) h in
    let q = both (eqb (word store (at + 8)) (sum + word store (at + 4))) p.1 in
    record { name_starts = eqb-true _ _ p.0; value_starts = eqb-true _ _ q.0; others = q.1 }

pub laid_none : (store : List ℕ) (at sum : ℕ) → laid_from store 0 at sum ≡ true → at + sum ≤ length store
unfolding laid_from
laid_none store at sum h = leb-true _ _ h

pub laid_count : (store : List ℕ) → is_laid store ≡ true → word store 0 ≤ most_listed
unfolding is_laid
laid_count store h = leb-true _ _ (both (leb (word store 0) most_listed) h).0

pub laid_pairs : (store : List ℕ) → is_laid store ≡ true → laid_from store (word store 0) 4 0 ≡ true
unfolding is_laid
laid_pairs store h = (both (leb (word store 0) most_listed) h).1

-- ---- how many pairs
pub length_kept : (store : List ℕ) (first n at : ℕ) → length (kept_from store first n at) ≡ n
unfolding kept_from
length_kept store first zero at = refl
length_kept store first (suc n) at = ap suc (length_kept store first n (at + 16))

pub length_kept_pairs : (store : List ℕ) → length (kept_pairs store) ≡ word store 0
unfolding kept_pairs
length_kept_pairs store = length_kept store _ (word store 0) 4

-- "65 pairs": with the separator's
pub most_pairs : (store : List ℕ) → is_laid store ≡ true → length (environment_of store) ≤ most_listed + 1
unfolding environment_of with_separator
most_pairs store h =
    let n = length_kept_pairs store in
    let k = laid_count store h in
    by_test (λ (ps : List Pair). length ps ≤ most_listed + 1) (is_named separator_name (kept_pairs store)) _ _
    (λ _. omega arith) (λ _. rw length-append (omega arith))

-- ---- how many bytes
-- in the store a pair takes 16 bytes and its texts, in a reply 8, its texts and at most 6 of fill
pair_size : (n m : ℕ) (a b : List ℕ) → length (opaque (take n a)) + length (opaque (take m b)) ≤ 14 + n + m
pair_size n m a b =
    let x : length (take n a) ≤ n = simp length-take (omega arith) in
    let y : length (take m b) ≤ m = simp length-take (omega arith) in
    omega (arith, length_opaque (take n a), length_opaque (take m b))

pub kept_size : (store : List ℕ) (first n at sum : ℕ) → laid_from store n at sum ≡ true
    → length (pair_bytes (kept_from store first n at)) + 2 * n + (at + sum) ≤ length store
unfolding kept_from pair_bytes
kept_size store first zero at sum h = omega (arith, laid_none store at sum h)
kept_size store first (suc n) at sum h =
    let k = laid_one store n at sum h in
    let r = kept_size store first n (at + 16) _ k.others in
    let p =
    pair_size (word store (at + 4)) (word store (at + 12)) (drop (first + word store at) store) (drop (first + word store (at + 8)) store) in
    rw (length-append, length-append) (omega arith)

pub pairs_size : (store : List ℕ) → is_laid store ≡ true → length (pair_bytes (kept_pairs store)) + 2 * word store 0 + 4 ≤ length store
unfolding kept_pairs
pairs_size store h = kept_size store _ (word store 0) 4 0 (laid_pairs store h)

pub pair_bytes_append : (ps qs : List Pair) → length (pair_bytes (ps ++ qs)) ≡ length (pair_bytes ps) + length (pair_bytes qs)
unfolding pair_bytes
pair_bytes_append [] qs = omega arith
pair_bytes_append (p ∷ ps) qs = let e = pair_bytes_append ps qs in simp length-append (omega arith)

-- the separator's pair
pub separator_size : length (pair_bytes (pair separator_name separator ∷ [])) ≡ 32
unfolding pair_bytes separator_name separator opaque be32
separator_size = refl

-- 28 is 32 for the separator's pair, without the 4 of the store's count
pub environment_size : (store : List ℕ) → is_laid store ≡ true → length (pair_bytes (environment_of store)) ≤ length store + 28
unfolding environment_of with_separator
environment_size store h =
    let n = pairs_size store h in
    by_test (λ (ps : List Pair). length (pair_bytes ps) ≤ length store + 28) (is_named separator_name (kept_pairs store)) _ _
    (λ _. omega arith) (λ _. rw pair_bytes_append (omega (arith, separator_size)))
