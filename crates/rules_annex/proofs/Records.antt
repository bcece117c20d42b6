-- A tape of records of one size, and the bytes on it one after the other. Assumes nothing.
use Prim.Native.Nat.{ℕ, zero, suc, ◌+◌, ◌-◌, ◌*◌, ◌%◌, ◌≤◌, ◌<◌}
use mathlib.Core.Bool.{Bool, true, false}
use mathlib.Core.List.{List, [], ◌++◌}
use mathlib.Core.Path.{◌≡◌, refl, sym, ap, ◌∙◌}
use native.Mathlib.Omega.{arith}
use native.Mathlib.Numerals.{add-one}
use native.Mathlib.Nat.{zero-mul, mod-eq_of_lt, mod_self, mul-mod_left, mul-add-mod_self_right, mul-le-mul_right}
use lib.ListN.{length, take, drop, length-append, length-drop}
use lib.Seq.{take-append-le, drop-append-le, drop-append-add}
use lib.Dec.{ltb}
use borrow.Author.Count.{below_more}
use borrow.Author.Tests.{ltb-true, ltb-false}
use Rattle.tape_image.specs.Image.{count, entry_len, entry_bytes}
use Rattle.tape_image.specs.Sound.{Placed}
use Rattle.tape_writing.specs.Writing.{Room, written}
use Rattle.tape_writing.proofs.Theorems.{written_placed, written_count, written_len, written_there, same_len, same_bytes}
use Rattle.rules_annex.specs.RoundTrip.{padding}

-- the bytes of the first k entries
unfoldable pub tape_bytes : List ℕ → ℕ → List ℕ
tape_bytes l zero = []
tape_bytes l (suc k) = tape_bytes l k ++ entry_bytes l k

pub bytes_next : (l : List ℕ) (k : ℕ) → tape_bytes l (k + 1) ≡ tape_bytes l k ++ entry_bytes l k
unfolding tape_bytes
bytes_next l k = rw (add-one k)

pub bytes_same : (l m : List ℕ) (k : ℕ) → ((i : ℕ) → i < k → entry_bytes m i ≡ entry_bytes l i) → tape_bytes m k ≡ tape_bytes l k
unfolding tape_bytes
bytes_same l m zero f = refl
bytes_same l m (suc k) f = rw (bytes_same l m k (λ i h. f i (omega arith)), f k (omega arith)) refl

module _ (size : ℕ) (l : List ℕ) where
  pub bytes_length : (k : ℕ) → ((i : ℕ) → i < k → length (entry_bytes l i) ≡ size) → length (tape_bytes l k) ≡ k * size
  unfolding tape_bytes
  bytes_length zero f = sym (zero-mul size)
  bytes_length (suc k) f =
      let a = bytes_length k (λ i h. f i (omega arith)) in
      let b = f k (omega arith) in
      let c = length-append (tape_bytes l k) (entry_bytes l k) in
      omega arith

  -- a part of the last of two lists, and a part of the first
  last_part : (xs ys : List ℕ) (at j n : ℕ) → length xs ≡ at → take n (drop (at + j) (xs ++ ys)) ≡ take n (drop j ys)
  last_part xs ys at j n e = ap (take n) (rw (← e) (drop-append-add xs ys j))

  first_part : (xs ys : List ℕ) (at n : ℕ) → at + n ≤ length xs → take n (drop at (xs ++ ys)) ≡ take n (drop at xs)
  first_part xs ys at n h =
      let a : at ≤ length xs = omega arith in
      let b : n ≤ length (drop at xs) = rw length-drop (omega arith) in
      ap (take n) (drop-append-le at xs ys a) ∙ take-append-le n (drop at xs) ys b

  -- a part of record i is a part of the whole
  module _ (j n : ℕ) (fits : j + n ≤ size) where
    part_at : (k i : ℕ) → length (tape_bytes l k) ≡ k * size → i < suc k → (b : Bool) → ltb i k ≡ b
        → (i < k → take n (drop (i * size + j) (tape_bytes l k)) ≡ take n (drop j (entry_bytes l i)))
        → take n (drop (i * size + j) (tape_bytes l k ++ entry_bytes l k)) ≡ take n (drop j (entry_bytes l i))
    part_at k i long h true e before =
        let lt : i < k = ltb-true i k e in
        let le : (i + 1) * size ≤ k * size = mul-le-mul_right size (omega arith) in
        first_part (tape_bytes l k) (entry_bytes l k) (i * size + j) n (omega arith) ∙ before lt
    part_at k i long h false e before =
        let ge : k ≤ i = ltb-false i k e in
        let same : i ≡ k = omega arith in
        rw same (last_part (tape_bytes l k) (entry_bytes l k) (k * size) j n long)

    pub bytes_part : (k i : ℕ) → ((i : ℕ) → i < k → length (entry_bytes l i) ≡ size) → i < k
        → take n (drop (i * size + j) (tape_bytes l k)) ≡ take n (drop j (entry_bytes l i))
    unfolding tape_bytes
    bytes_part zero i f h = absurd (omega arith)
    bytes_part (suc k) i f h =
        part_at k i (bytes_length k (λ a q. f a (omega arith))) h (ltb i k) refl (λ g. bytes_part k i (λ a q. f a (omega arith)) g)

-- ---- the tape's records, all of one size
pub record Holds (size : ℕ) (l : List ℕ) (n : ℕ) (bytes : List ℕ) : Type 0 where
  pub here : Placed l n
  pub all : count l ≡ n
  pub lens : (i : ℕ) → i < n → entry_len l i ≡ size
  pub longs : (i : ℕ) → i < n → length (entry_bytes l i) ≡ size
  pub are : tape_bytes l n ≡ bytes

pub holds_none : (size : ℕ) (l : List ℕ) (n : ℕ) → Placed l n → count l ≡ n → n ≡ 0 → Holds size l n []
unfolding tape_bytes
holds_none size l n at e z = record { here = at; all = e; lens = λ i h. absurd (omega arith); longs = λ i h. absurd (omega arith); are = rw z refl }

module _ (size : ℕ) (l : List ℕ) (n : ℕ) (bytes b : List ℕ) (h : Holds size l n bytes) (exact : length b ≡ size) (small : length b ≤ 32768) (room : Room l n (length b)) where
  old_len : (i : ℕ) → i < n → entry_len (written l n b) i ≡ size
  old_len i k = same_len l n b h.here small room i k ∙ h.lens i k

  new_len : entry_len (written l n b) n ≡ size
  new_len = written_len l n b h.here small room ∙ exact

  old_long : (i : ℕ) → i < n → length (entry_bytes (written l n b) i) ≡ size
  old_long i k = ap length (same_bytes l n b h.here small room i k) ∙ h.longs i k

  new_long : length (entry_bytes (written l n b) n) ≡ size
  new_long = ap length (written_there l n b h.here small room) ∙ exact

  -- one record more
  pub holds_more : Holds size (written l n b) (n + 1) (bytes ++ b)
  holds_more =
      record {
        here = written_placed l n b h.here small room;
        all = written_count l n b h.here small room;
        lens = λ i k. below_more (λ (j : ℕ). entry_len (written l n b) j ≡ size) n old_len new_len i (omega arith);
        longs = λ i k. below_more (λ (j : ℕ). length (entry_bytes (written l n b) j) ≡ size) n old_long new_long i (omega arith);
        are = bytes_next (written l n b) n
            ∙ rw (bytes_same l (written l n b) n (same_bytes l n b h.here small room), written_there l n b h.here small room, h.are) refl;
      }

-- ---- the fill of the last record
pub pad_whole : (size k n : ℕ) → n ≡ k * size → padding size n ≡ 0
unfolding padding
pad_whole size k n e =
    let a : n % size ≡ 0 = rw e (mul-mod_left k size) in
    let z : size - 0 ≡ size = omega arith in
    rw (a, z) (mod_self size)

pad_by : (size k n j : ℕ) → n ≡ k * size + j → 1 ≤ j → j ≤ size → (b : Bool) → ltb j size ≡ b → (size - n % size) % size ≡ size - j
pad_by size k n j e some fits true h =
    let lt : j < size = ltb-true j size h in
    let a : n % size ≡ j = rw e (mul-add-mod_self_right k size j ∙ mod-eq_of_lt lt) in
    rw a (mod-eq_of_lt (omega arith))
pad_by size k n j e some fits false h =
    let z : size ≤ j = ltb-false j size h in
    let q : j ≡ size = omega arith in
    let a : n % size ≡ 0 = rw e (mul-add-mod_self_right k size j ∙ rw q (mod_self size)) in
    let d : size - j ≡ 0 = omega arith in
    let y : size - 0 ≡ size = omega arith in
    rw (a, d, y) (mod_self size)

pub pad_part : (size k n j : ℕ) → n ≡ k * size + j → 1 ≤ j → j ≤ size → padding size n ≡ size - j
unfolding padding
pad_part size k n j e some fits = pad_by size k n j e some fits (ltb j size) refl
