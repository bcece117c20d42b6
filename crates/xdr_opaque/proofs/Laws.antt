-- Which case of each definition of specs/Opaque.antt holds, by plain facts on numbers and on what the parts give; and one write
-- after another. Assumes nothing.
use Prim.Native.Nat.{ℕ, zero, suc, ◌+◌, ◌≤◌, ◌<◌}
use mathlib.Core.Bool.{Bool, true, false}
use mathlib.Core.Path.{◌≡◌, refl, sym}
use mathlib.Core.List.{List, [], ◌∷◌, ◌++◌}
use native.Mathlib.Omega.{arith}
use lib.Dec.{eqb, leb}
use lib.ListN.{length, replicate, length-append, length-replicate}
use borrow.Author.Tests.{le-leb, lt-leb, leb-true, leb-false, eqb-true}
use Rattle.std.specs.Prelude.{Some, None, ◌&&◌}
use Rattle.std.specs.List.{list_all}
use Rattle.xdr.specs.Choose.{choose}
use Rattle.xdr.specs.Xdr.{be32, word, overlay}
use Rattle.xdr.proofs.Laws.{more, length_be32}
use Rattle.xdr_opaque.specs.Opaque.{word_at, all_zero, between, filled, opaque_at}
use Rattle.xdr_opaque.specs.Put.{Put, fill, opaque}
use Rattle.xdr_opaque.specs.declared.Opaque.{Opaque}

-- what a choice that gave something says
record Chosen (a b d : Bool) (o o' : Opaque) : Type 0 where
  first : a ≡ true
  test : b ≡ true
  zero : d ≡ true
  same : o ≡ o'

chosen : (a b d : Bool) (o o' : Opaque) → Some o ≡ choose a (choose b (choose d (Some o') None) None) None → Chosen a b d o o'
unfolding choose
chosen true true true o o' e = record { first = refl; test = refl; zero = refl; same = cc }
chosen true true false o o' e = cc
chosen true false d o o' e = cc
chosen false b d o o' e = cc

-- what a choice that gave a word says
word_chosen : (a : Bool) (v v' : ℕ) → Some v ≡ choose a (Some v') None → (a ≡ true) × (v ≡ v')
unfolding choose
word_chosen true v v' e = (refl, cc)
word_chosen false v v' e = cc

none_chosen : (a : Bool) (v : ℕ) → None ≡ choose a (Some v) None → a ≡ false
unfolding choose
none_chosen true v e = cc
none_chosen false v e = refl

-- opaque data that was found at an offset: its length word, its end within the list, and its fill
pub record Found (l : List ℕ) (at : ℕ) (o : Opaque) : Type 0 where
  pub start : o.start ≡ at + 4
  pub len : o.len ≡ word l at
  pub next : o.next ≡ at + 4 + filled o.len
  pub within : o.next ≤ length l
  pub zero : all_zero (between (o.start + o.len) o.next l) ≡ true

both : (a b : Bool) → choose a b false ≡ true → (a ≡ true) × (b ≡ true)
unfolding choose
both true b e = (refl, e)
both false b e = let z : ◌≡◌ {A = ℕ} 0 1 = cc in absurd (omega arith)

-- ---- bytes that are all zero
pub zero_all : (xs : List ℕ) → list_all (λ x. eqb x 0) xs ≡ all_zero xs
unfolding all_zero choose
zero_all [] = refl
zero_all (x ∷ xs) = elim (eqb x 0) as (λ b. (b && list_all (λ y. eqb y 0) xs) ≡ choose b (all_zero xs) false) [ true ↦ zero_all xs | false ↦ refl ]

pub zero_replicate : (n : ℕ) → all_zero (replicate n 0) ≡ true
unfolding all_zero choose
zero_replicate zero = refl
zero_replicate (suc n) = zero_replicate n

zero_first : (x : ℕ) (xs : List ℕ) → choose (eqb x 0) (all_zero xs) false ≡ true → (eqb x 0 ≡ true) × (all_zero xs ≡ true)
unfolding choose
zero_first x xs e = both (eqb x 0) (all_zero xs) e

pub zero_is : (xs : List ℕ) → all_zero xs ≡ true → xs ≡ replicate (length xs) 0
unfolding all_zero
zero_is [] e = refl
zero_is (x ∷ xs) e =
    let p = zero_first x xs e in
    let h : x ≡ 0 = eqb-true x 0 p.0 in
    cc (zero_is xs p.1)

module _ (l : List ℕ) (at : ℕ) where
  -- a word that may be missing
  pub word_short : length l < at + 4 → None ≡ word_at l at
  unfolding word_at choose
  word_short h = rw (lt-leb (at + 4) (length l) h)

  pub word_there : (v : ℕ) → at + 4 ≤ length l → v ≡ word l at → Some v ≡ word_at l at
  unfolding word_at choose
  word_there v h e = rw (le-leb (at + 4) (length l) h, e)

  -- where a word was found, it is within the list
  pub word_within : (v : ℕ) → Some v ≡ word_at l at → (at + 4 ≤ length l) × (v ≡ word l at)
  unfolding word_at
  word_within v e = let w = word_chosen (leb (at + 4) (length l)) v (word l at) e in (leb-true _ _ w.0, w.1)

  pub word_missing : None ≡ word_at l at → length l < at + 4
  unfolding word_at
  word_missing e = leb-false _ _ (none_chosen (leb (at + 4) (length l)) (word l at) e)

  -- opaque data
  pub opaque_short : None ≡ word_at l at → None ≡ opaque_at l at
  unfolding opaque_at choose
  opaque_short e = rw (lt-leb (at + 4) (length l) (word_missing e))

  pub opaque_cut : (n : ℕ) → Some n ≡ word_at l at → length l < at + 4 + filled n → None ≡ opaque_at l at
  unfolding opaque_at choose
  opaque_cut n e k =
      let w = word_within n e in
      rw (le-leb (at + 4) (length l) w.0, ← w.1, lt-leb (at + 4 + filled n) (length l) k)

  -- the fill that n bytes at an offset have
  pub opaque_rubbish : (n : ℕ) → Some n ≡ word_at l at → at + 4 + filled n ≤ length l → all_zero (between (at + 4 + n) (at + 4 + filled n) l) ≡ false → None ≡ opaque_at l at
  unfolding opaque_at choose
  opaque_rubbish n e k z =
      let w = word_within n e in
      rw (le-leb (at + 4) (length l) w.0, ← w.1, le-leb (at + 4 + filled n) (length l) k, z)

  pub opaque_whole : (n : ℕ) → Some n ≡ word_at l at → at + 4 + filled n ≤ length l → all_zero (between (at + 4 + n) (at + 4 + filled n) l) ≡ true → Some
      (record { start = at + 4; len = n; next = at + 4 + filled n }) ≡ opaque_at l at
  unfolding opaque_at choose
  opaque_whole n e k z =
      let w = word_within n e in
      rw (le-leb (at + 4) (length l) w.0, ← w.1, le-leb (at + 4 + filled n) (length l) k, z)

  -- where opaque data was found: its length word, its end, and its fill
  pub opaque_read : (o : Opaque) → Some o ≡ opaque_at l at → Found l at o
  unfolding opaque_at
  opaque_read o e =
      let w = chosen _ _ _ o _ e in
      let k : at + 4 + filled (word l at) ≤ length l = leb-true _ _ w.test in
      rw w.same (record { start = refl; len = refl; next = refl; within = k; zero = w.zero })

  -- where opaque data was found, its bytes and its fill are within the list
  pub opaque_within : (o : Opaque) → Some o ≡ opaque_at l at → (o.start + o.len ≤ o.next) × (o.next ≤ length l)
  opaque_within o e =
      let w = opaque_read o e in
      (omega (arith, w.start, w.next), w.within)

-- a write, and a write where it ends, are one write
pub then : {at next last : ℕ} {a b l m m' : List ℕ} → Put at a l next m → Put next b m last m' → Put at (a ++ b) l last m'
then {at} {next} {last} {a} {b} {l} {m} {m'} p q =
    record { end = simp length-append (omega (arith, p.end, q.end)); wrote = more at next a b l m m' p.wrote q.wrote (sym p.end) }

-- what a call that hands back no offset leaves
pub put : {at : ℕ} {b l m : List ℕ} (next : ℕ) → m ≡ overlay at b l → next ≡ at + length b → Put at b l next m
put next e f = record { end = f; wrote = e }

pub length_opaque : (s : List ℕ) → length (opaque s) ≡ 4 + length s + fill (length s)
unfolding opaque
length_opaque s = simp (length-append, length_be32, length-replicate)

-- the three writes of opaque data, by what each call ensures
pub put_opaque : (at z next : ℕ) (s l m m' m'' : List ℕ) → m ≡ overlay at (be32 (length s)) l → m' ≡ overlay (at + 4) s m
    → m'' ≡ overlay (at + 4 + length s) (replicate z 0) m' → z ≡ fill (length s) → next ≡ at + 4 + length s + z → Put at (opaque s) l next m''
unfolding opaque
put_opaque at z next s l m m' m'' p q r e f =
    rw (← e) (then (then (put (at + 4) p (rw length_be32)) (put (at + 4 + length s) q refl)) (put next r (rw length-replicate f)))

-- bytes and their fill are what the reader asks for
pub filled_fill : (n : ℕ) → n + fill n ≡ filled n
filled_fill n = omega arith

pub length_opaque_filled : (s : List ℕ) → length (opaque s) ≡ 4 + filled (length s)
length_opaque_filled s =
    let e = length_opaque s in
    let f = filled_fill (length s) in
    omega arith
