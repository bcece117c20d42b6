-- A walk through the pairs of a store that is laid out so, and what comes of them in a reply. Assumes nothing.
use Prim.Native.Nat.{ℕ, zero, suc, ◌+◌, ◌-◌, ◌*◌, ◌≤◌, ◌<◌}
use mathlib.Core.Bool.{true, false}
use mathlib.Core.Path.{◌≡◌, refl, sym, ◌∙◌}
use mathlib.Core.List.{List, [], ◌∷◌, ◌++◌, append_assoc, append-nil}
use native.Mathlib.Omega.{arith}
use lib.ListN.{length, take, drop, length-append}
use Rattle.std.specs.Prelude.{◌||◌}
use Rattle.std.specs.List.{list_any}
use Rattle.xdr.specs.Choose.{choose}
use Rattle.xdr.specs.Xdr.{word, same_bytes}
use Rattle.xdr.proofs.Laws.{overlay_none}
use Rattle.xdr_opaque.specs.Put.{Put, opaque}
use Rattle.xdr_opaque.proofs.Laws.{then, put}
use Rattle.wire_pairs.specs.Pairs.{Pair, pair, separator_name, separator, is_named, with_separator, pair_bytes}
use Rattle.wire_pairs.specs.Store.{laid_from, is_laid, Left, kept_from, kept_pairs, environment_of}
use Rattle.wire_pairs.proofs.Sizes.{laid_one, laid_none, laid_pairs, length_kept_pairs}

-- ---- a walk
laid_within : (store : List ℕ) (n at sum : ℕ) → laid_from store n at sum ≡ true → at + 16 * n + sum ≤ length store
laid_within store zero at sum h = omega (arith, laid_none store at sum h)
laid_within store (suc n) at sum h =
    let k = laid_one store n at sum h in
    omega (arith, laid_within store n (at + 16) _ k.others)

pub left_within : {store : List ℕ} {first left at text : ℕ} → Left store first left at text → text ≤ length store
left_within {store} {first} {left} {at} {text} w = omega (arith, laid_within store left at _ w.laid, w.words, w.texts)

-- before the first pair
module _ (store : List ℕ) (n : ℕ) (e : n ≡ word store 0) where
  pub left_all : is_laid store ≡ true → Left store (4 + 16 * word store 0) n 4 (4 + 16 * n)
  left_all h =
      let z : 4 + 16 * n - (4 + 16 * word store 0) ≡ 0 = omega arith in
      record { laid = rw (z, e) (laid_pairs store h); words = omega arith; texts = omega arith }

  pub all_kept : kept_pairs store ≡ kept_from store (4 + 16 * word store 0) n 4
  unfolding kept_pairs
  all_kept = rw e

pub laid_long : (store : List ℕ) → is_laid store ≡ true → 4 + 16 * word store 0 ≤ length store
laid_long store h = left_within (left_all store (word store 0) refl h)

-- a pair of the walk: its name begins at `text`, its value behind the name, and the next pair's texts behind the value
module _ (store : List ℕ) (first n at text : ℕ) (w : Left store first (suc n) at text) where
  one_next : Left store first n (at + 16) (text + word store (at + 4) + word store (at + 12))
  one_next =
      let k = laid_one store n at _ w.laid in
      let t = w.texts in
      let g : text - first + word store (at + 4) + word store (at + 12) ≡ text + word store (at + 4) + word store (at + 12) - first = omega arith in
      record { laid = rw (← g) k.others; words = omega (arith, w.words); texts = omega arith }

  one_kept : kept_from store first (suc n) at
      ≡ pair (take (word store (at + 4)) (drop text store))
      (take (word store (at + 12)) (drop (text + word store (at + 4)) store)) ∷ kept_from store first n (at + 16)
  unfolding kept_from
  one_kept =
      let k = laid_one store n at _ w.laid in
      let t = w.texts in
      let e : first + word store at ≡ text = omega (arith, k.name_starts) in
      let f : first + word store (at + 8) ≡ text + word store (at + 4) = omega (arith, k.value_starts) in
      rw (e, f)

module _ {store : List ℕ} {first left at text : ℕ} (value end : ℕ) (w : Left store first left at text) (h : 0 < left)
    (v : value ≡ text + word store (at + 4)) (e : end ≡ value + word store (at + 12)) where
  less : suc (left - 1) ≡ left
  less = omega arith

  before : Left store first (suc (left - 1)) at text
  before = rw less w

  pub left_next : Left store first (left - 1) (at + 16) end
  left_next =
      let g : text + word store (at + 4) + word store (at + 12) ≡ end = omega arith in
      rw g at (one_next store first (left - 1) at text before)

  pub left_ends : end ≤ length store
  left_ends = left_within left_next

  pub left_value : value ≤ length store
  left_value = omega (arith, left_ends)

  pub left_kept : kept_from store first left at
      ≡ pair (take (value - text) (drop text store)) (take (end - value) (drop value store)) ∷ kept_from store first (left - 1) (at + 16)
  left_kept =
      let a : word store (at + 4) ≡ value - text = omega arith in
      let b : word store (at + 12) ≡ end - value = omega arith in
      let o = one_kept store first (left - 1) at text before in
      rw (less, ← v, a, b) at o

-- behind the last pair
pub left_none : (store : List ℕ) (first left at : ℕ) → left ≤ 0 → kept_from store first left at ≡ []
unfolding kept_from
left_none store first left at h = let e : left ≡ 0 = omega arith in rw e

-- ---- the separator's name
pub named_any : (ps : List Pair) → list_any (λ p. same_bytes p.name separator_name) ps ≡ is_named separator_name ps
unfolding is_named choose
named_any [] = refl
named_any (p ∷ ps) =
    elim (same_bytes p.name separator_name) as (λ b. (b || list_any (λ q. same_bytes q.name separator_name) ps) ≡ choose b true (is_named separator_name ps)) [
      | true ↦ refl
      | false ↦ named_any ps
    ]

-- ---- what is given
module _ (store : List ℕ) where
  module _ (h : is_named separator_name (kept_pairs store) ≡ true) where
    pub as_kept : environment_of store ≡ kept_pairs store
    unfolding environment_of with_separator choose
    as_kept = rw h

    pub count_kept : word store 0 ≡ length (environment_of store)
    count_kept = sym (rw as_kept (length_kept_pairs store))

  module _ (h : is_named separator_name (kept_pairs store) ≡ false) where
    pub and_separator : environment_of store ≡ kept_pairs store ++ (pair separator_name separator ∷ [])
    unfolding environment_of with_separator choose
    and_separator = rw h

    pub count_more : word store 0 + 1 ≡ length (environment_of store)
    count_more = sym (rw (and_separator, length-append, length_kept_pairs store))

-- ---- written
pub pair_bytes_join : (ps qs : List Pair) → pair_bytes (ps ++ qs) ≡ pair_bytes ps ++ pair_bytes qs
unfolding pair_bytes
pair_bytes_join [] qs = refl
pair_bytes_join (p ∷ ps) qs = rw (pair_bytes_join ps qs, append_assoc, append_assoc)

pub put_pair : {at next last : ℕ} {l m m' : List ℕ} (name value : List ℕ) → Put at (opaque name) l next m → Put next (opaque value) m last m'
    → Put at (pair_bytes (pair name value ∷ [])) l last m'
unfolding pair_bytes
put_pair name value p q = rw append-nil (then p q)

pub length_pair : (n v : List ℕ) → length (pair_bytes (pair n v ∷ [])) ≡ length (opaque n) + length (opaque v)
unfolding pair_bytes
length_pair n v = simp length-append (omega arith)

-- of the pairs so many are written, and the rest is left
pub record Given (at : ℕ) (all rest : List Pair) (l : List ℕ) (next : ℕ) (m : List ℕ) : Type 0 where
  pub done : List Pair
  pub whole : all ≡ done ++ rest
  pub wrote : Put at (pair_bytes done) l next m

pub given_none : {at : ℕ} {all : List Pair} {l : List ℕ} → Given at all all l at l
unfolding pair_bytes
given_none {at} {all} {l} = record { done = []; whole = refl; wrote = put at (overlay_none at l) (omega arith) }

pub given_more : {at next last : ℕ} {p : Pair} {all rest : List Pair} {l m m' : List ℕ} → Given at all (p ∷ rest) l next m
    → Put next (pair_bytes (p ∷ [])) m last m' → Given at all rest l last m'
given_more {p = p} {rest = rest} g q =
    record {
      done = g.done ++ (p ∷ []);
      whole = g.whole ∙ sym (append_assoc g.done (p ∷ []) rest);
      wrote = rw pair_bytes_join (then g.wrote q);
    }

-- what the next pair takes ends within what all take
pub given_room : {at next : ℕ} {p : Pair} {all rest : List Pair} {l m : List ℕ} → Given at all (p ∷ rest) l next m
    → next + length (pair_bytes (p ∷ [])) ≤ at + length (pair_bytes all)
given_room {p = p} {rest = rest} g =
    rw (g.whole, pair_bytes_join, length-append, pair_bytes_join (p ∷ []) rest, length-append) (omega (arith, g.wrote.end))

pub given_all : {at next : ℕ} {all rest : List Pair} {l m : List ℕ} → Given at all rest l next m → rest ≡ [] → Put at (pair_bytes all) l next m
given_all g e = rw (g.whole, e, append-nil) g.wrote

-- the kept pairs, and behind them the separator's where no name is that
module _ (store : List ℕ) {at next : ℕ} {l m : List ℕ} (p : Put at (pair_bytes (kept_pairs store)) l next m) where
  pub put_kept : is_named separator_name (kept_pairs store) ≡ true → Put at (pair_bytes (environment_of store)) l next m
  put_kept h = rw (as_kept store h) p

  pub put_separator : {last : ℕ} {m' : List ℕ} → is_named separator_name (kept_pairs store) ≡ false
      → Put next (pair_bytes (pair separator_name separator ∷ [])) m last m' → Put at (pair_bytes (environment_of store)) l last m'
  put_separator h q = rw (and_separator store h, pair_bytes_join) (then p q)
