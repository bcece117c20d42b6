-- The laws of room, of kept bytes and of filled records. Assumes nothing.
use Prim.Native.Nat.{ℕ, ◌+◌, ◌-◌, ◌≤◌, ◌<◌}
use mathlib.Core.List.{List, [], ◌++◌, append-nil}
use mathlib.Core.Bool.{Bool, true, false}
use mathlib.Core.Path.{◌≡◌, refl, sym, ap, ◌∙◌}
use native.Mathlib.Omega.{arith}
use lib.ListN.{length, get_or, replicate, length-append, length-replicate}
use lib.Dec.{ltb}
use borrow.Author.Tests.{ltb-true, ltb-false, leb-true, lt-ltb, le-ltb, le-leb}
use Rattle.xdr.specs.Choose.{choose, all_of}
use Rattle.xdr.specs.Xdr.{overlay}
use Rattle.xdr.proofs.Tests.{all_get}
use Rattle.xdr.proofs.Laws.{overlay_none, overlay_then}
use Rattle.tape_image.specs.Image.{count, used, entry_start, body_at, with_entry}
use Rattle.tape_image.specs.Sound.{Placed, sum_before}
use Rattle.tape_image.proofs.Laws.{sum_used}
use Rattle.tape_writing.specs.Writing.{kept, room_tests, room_for, Room, written, fill_to, KeptBytes}

module _ (l : List ℕ) (p : ℕ) where
  pub kept_cut : p < count l → kept l p ≡ entry_start l p
  unfolding kept choose
  kept_cut h = rw (lt-ltb p (count l) h)

  pub kept_end : count l ≤ p → kept l p ≡ used l
  unfolding kept choose
  kept_end h = rw (le-ltb p (count l) h)

  -- the bytes kept are those of the entries before the position
  sum_at : (b : Bool) → ltb p (count l) ≡ b → Placed l p → kept l p ≡ sum_before l p
  sum_at true e f = let h = ltb-true p (count l) e in kept_cut h ∙ (f.ok.entry p h).start
  sum_at false e f =
      let h = f.within in
      let g : count l ≤ p = ltb-false p (count l) e in
      let s : count l ≡ p = omega arith in
      kept_end g ∙ f.ok.total ∙ ap (sum_before l) s

  pub kept_sum : Placed l p → kept l p ≡ sum_before l p
  kept_sum f = sum_at (ltb p (count l)) refl f

  pub kept_used : Placed l p → kept l p ≤ used l
  kept_used f =
      let e = kept_sum f in
      let u = sum_used l p f.ok f.within in
      omega arith

  -- what the code read
  pub keeps_cut : (r : ℕ) → Placed l p → p < count l → r ≡ entry_start l p → KeptBytes l p r
  keeps_cut r f h e =
      let k = kept_cut h in
      let u = kept_used f in
      let b = f.ok.header.bytes in
      record { is = e ∙ sym k; fits = omega arith }

  pub keeps_end : (r : ℕ) → Placed l p → count l ≤ p → r ≡ used l → KeptBytes l p r
  keeps_end r f h e =
      let k = kept_end h in
      let b = f.ok.header.bytes in
      record { is = e ∙ sym k; fits = omega arith }

module _ (l : List ℕ) (p m : ℕ) where
  pub room_facts : room_for l p m ≡ true → Room l p m
  unfolding room_for
  room_facts h =
      let g : (k : ℕ) → get_or (room_tests l p m) k true ≡ true = all_get (room_tests l p m) h in
      record { slot = ltb-true _ _ (g 0); fits = leb-true _ _ (g 1) }

  pub room_holds : Room l p m → true ≡ room_for l p m
  unfolding room_for all_of
  room_holds f = simp (lt-ltb _ _ f.slot, le-leb _ _ f.fits)

pub length_fill : (s : List ℕ) (n : ℕ) → length s ≤ n → length (fill_to s n) ≡ n
unfolding fill_to
length_fill s n h = simp (length-append, length-replicate) (omega arith)

-- a whole record wants no fill
pub fill_whole : (s : List ℕ) → fill_to s (length s) ≡ s
unfolding fill_to
fill_whole s = let e : length s - length s ≡ 0 = omega arith in rw e (append-nil s)

-- the entry, a part and then zeros are one record
pub filled_is : (l : List ℕ) (p : ℕ) (s : List ℕ) (n : ℕ) → length s ≤ n
    → overlay (body_at l + kept l p + length s) (replicate (n - length s) 0) (overlay (body_at l + kept l p) s (with_entry l p (kept l p) n)) ≡ written l p (fill_to s n)
unfolding written fill_to
filled_is l p s n h =
    let len : length (s ++ replicate (n - length s) 0) ≡ n = length_fill s n h in
    rw len (overlay_then (body_at l + kept l p) s (replicate (n - length s) 0) (with_entry l p (kept l p) n))

-- a mark is its entry
pub mark_is : (l : List ℕ) (p : ℕ) → with_entry l p (kept l p) 0 ≡ written l p []
unfolding written
mark_is l p = overlay_none (body_at l + kept l p) (with_entry l p (kept l p) 0)
