-- The laws of the image's definitions. Assumes nothing.
use Prim.Native.Nat.{ℕ, zero, suc, ◌+◌, ◌-◌, ◌≤◌, ◌<◌}
use mathlib.Core.List.{List}
use mathlib.Core.Bool.{Bool, true, false, ◌&&◌}
use mathlib.Core.Path.{◌≡◌, refl, sym, ap, ◌∙◌}
use native.Mathlib.Omega.{arith}
use native.Mathlib.Nat.{zero-add, add-zero}
use native.Mathlib.Numerals.{add-one}
use lib.ListN.{get_or}
use lib.Dec.{leb, ltb, eqb}
use borrow.Author.Tests.{leb-true, eqb-true, le-leb, eq-eqb, ltb-false, le-ltb}
use Rattle.codes.specs.Codes.{longest_record}
use Rattle.xdr.specs.Choose.{choose, all_of}
use Rattle.xdr.proofs.Tests.{and_l, and_r, all_get}
use Rattle.tape_image.specs.Image.{capacity, count, used, entry_len, entry_start, Table}
use Rattle.tape_image.specs.Image.{header_tests, header_ok, table_ok, is_sound, faulty}
use Rattle.tape_image.specs.Sound.{Header, Entry, Sound, Placed, sum_before}

pub header_facts : (l : List ℕ) → header_ok l ≡ true → Header l
unfolding header_ok
header_facts l h =
    let g : (k : ℕ) → get_or (header_tests l) k true ≡ true = all_get (header_tests l) h in
    record {
      whole = leb-true _ _ (g 0);
      first = eqb-true _ _ (g 1);
      some = leb-true _ _ (g 2);
      few = leb-true _ _ (g 3);
      table = leb-true _ _ (g 4);
      body = leb-true _ _ (g 5);
      entries = leb-true _ _ (g 6);
      bytes = leb-true _ _ (g 7);
    }

header_holds : (l : List ℕ) → Header l → true ≡ header_ok l
unfolding header_ok all_of
header_holds l f =
    simp (le-leb _ _ f.whole, eq-eqb _ _ f.first, le-leb _ _ f.some, le-leb _ _ f.few, le-leb _ _ f.table, le-leb _ _ f.body, le-leb _ _ f.entries, le-leb _ _ f.bytes)

-- one entry of the table, where the code counts i up to n
pub table_step : (l : List ℕ) (total n i s : ℕ) → i < n
    → table_ok l total (n - i) i s ≡ (leb (entry_len l i) longest_record && eqb (entry_start l i) s && table_ok l total (n - (i + 1)) (i + 1) (s + entry_len l i))
unfolding table_ok
table_step l total n i s h =
    let e : n - i ≡ suc (n - (i + 1)) = omega arith in
    rw e

pub table_end : (l : List ℕ) (total n i s : ℕ) → n ≤ i → table_ok l total (n - i) i s ≡ eqb s total
unfolding table_ok
table_end l total n i s h =
    let e : n - i ≡ 0 = omega arith in
    rw e

sound_table : (l : List ℕ) → header_ok l ≡ true → is_sound l ≡ table_ok l (used l) (count l) 0 0
unfolding is_sound
sound_table l h = rw h

-- the first of the entries that are left, as facts
record Row (l : List ℕ) (total k i s : ℕ) : Type 0 where
  short : entry_len l i ≤ longest_record
  start : entry_start l i ≡ s
  rest : table_ok l total k (i + 1) (s + entry_len l i) ≡ true

table_head : (l : List ℕ) (total k i s : ℕ) → table_ok l total (suc k) i s ≡ true → Row l total k i s
unfolding table_ok
table_head l total k i s h =
    let a = leb (entry_len l i) longest_record in
    let b = eqb (entry_start l i) s in
    let r = table_ok l total k (i + 1) (s + entry_len l i) in
    let ab = and_l (a && b) r h in
    record { short = leb-true _ _ (and_l a b ab); start = eqb-true _ _ (and_r a b ab); rest = and_r (a && b) r h }

table_cons : (l : List ℕ) (total k i s : ℕ) → Row l total k i s → table_ok l total (suc k) i s ≡ true
unfolding table_ok
table_cons l total k i s r = rw (le-leb _ _ r.short, eq-eqb _ _ r.start) r.rest

table_nil : (l : List ℕ) (total i s : ℕ) → table_ok l total 0 i s ≡ true → s ≡ total
unfolding table_ok
table_nil l total i s h = eqb-true s total h

nil_table : (l : List ℕ) (total i s : ℕ) → s ≡ total → table_ok l total 0 i s ≡ true
unfolding table_ok
nil_table l total i s e = eq-eqb s total e

-- ---- the decided test and the paper's words
pub sum_next : (l : List ℕ) (i : ℕ) → sum_before l (i + 1) ≡ sum_before l i + entry_len l i
unfolding sum_before
sum_next l i = rw (add-one i)

shifted : (l : List ℕ) (i m : ℕ) → Entry l (i + suc m) → Entry l (i + 1 + m)
shifted l i m f = let g : i + suc m ≡ i + 1 + m = omega arith in rw g at f

module _ (l : List ℕ) (total : ℕ) where
  table_entries : (k i s : ℕ) → table_ok l total k i s ≡ true → s ≡ sum_before l i → (m : ℕ) → m < k → Entry l (i + m)
  table_entries zero i s h e m b = absurd (omega arith)
  table_entries (suc k) i s h e zero b =
      let r = table_head l total k i s h in
      rw (add-zero i) (record { short = r.short; start = r.start ∙ e })
  table_entries (suc k) i s h e (suc m) b =
      let r = table_head l total k i s h in
      let f : s + entry_len l i ≡ sum_before l (i + 1) = ap (λ (x : ℕ). x + entry_len l i) e ∙ sym (sum_next l i) in
      let g : i + 1 + m ≡ i + suc m = omega arith in
      rw g at (table_entries k (i + 1) (s + entry_len l i) r.rest f m (omega arith))

  table_total : (k i s : ℕ) → table_ok l total k i s ≡ true → s ≡ sum_before l i → total ≡ sum_before l (i + k)
  table_total zero i s h e = rw (add-zero i) (sym (table_nil l total i s h) ∙ e)
  table_total (suc k) i s h e =
      let r = table_head l total k i s h in
      let f : s + entry_len l i ≡ sum_before l (i + 1) = ap (λ (x : ℕ). x + entry_len l i) e ∙ sym (sum_next l i) in
      let g : i + 1 + k ≡ i + suc k = omega arith in
      rw g at (table_total k (i + 1) (s + entry_len l i) r.rest f)

  entries_table : (k i s : ℕ) → s ≡ sum_before l i → ((m : ℕ) → m < k → Entry l (i + m)) → total ≡ sum_before l (i + k) → table_ok l total k i s ≡ true
  entries_table zero i s e f t = nil_table l total i s (e ∙ sym (rw (add-zero i) at t))
  entries_table (suc k) i s e f t =
      let h : Entry l i = rw (add-zero i) at (f 0 (omega arith)) in
      let e' : s + entry_len l i ≡ sum_before l (i + 1) = ap (λ (x : ℕ). x + entry_len l i) e ∙ sym (sum_next l i) in
      let g : i + suc k ≡ i + 1 + k = omega arith in
      table_cons l total k i s
      (record {
        short = h.short;
        start = h.start ∙ sym e;
        rest = entries_table k (i + 1) (s + entry_len l i) e' (λ m b. shifted l i m (f (suc m) (omega arith))) (rw g at t);
      })

pub sound_facts : (l : List ℕ) → is_sound l ≡ true → Sound l
unfolding is_sound sum_before
sound_facts l h =
    let t : table_ok l (used l) (count l) 0 0 ≡ true = and_r (header_ok l) (table_ok l (used l) (count l) 0 0) h in
    record {
      header = header_facts l (and_l (header_ok l) (table_ok l (used l) (count l) 0 0) h);
      entry = λ i b. rw (zero-add i) at (table_entries l (used l) (count l) 0 0 t refl i b);
      total = rw (zero-add (count l)) at (table_total l (used l) (count l) 0 0 t refl);
    }

pub sound_holds : (l : List ℕ) → Sound l → is_sound l ≡ true
unfolding sum_before
sound_holds l s =
    sound_table l (sym (header_holds l s.header))
    ∙ entries_table l (used l) (count l) 0 0 refl (λ m b. rw (zero-add m) (s.entry m b)) (rw (zero-add (count l)) s.total)

-- the place of an entry of a sound image
pub entry_there : (l : List ℕ) (i : ℕ) → Sound l → i < capacity l → Table l (i + 1)
entry_there l i ok h =
    let f = ok.header in
    record { few = omega arith; whole = omega arith }

-- ---- sums
pub sum_mono : (l : List ℕ) (i k : ℕ) → sum_before l i ≤ sum_before l (i + k)
sum_mono l i zero = rw (add-zero i) (omega arith)
sum_mono l i (suc k) =
    let h = sum_mono l i k in
    let e = sum_next l (i + k) in
    let g : i + suc k ≡ i + k + 1 = omega arith in
    rw g (omega arith)

-- what lies before a position of a sound image is part of what is used
pub sum_used : (l : List ℕ) (p : ℕ) → Sound l → p ≤ count l → sum_before l p ≤ used l
sum_used l p ok h =
    let e : p + (count l - p) ≡ count l = omega arith in
    let m : sum_before l p ≤ sum_before l (count l) = rw e at (sum_mono l p (count l - p)) in
    let t = ok.total in
    omega arith

-- two tables that agree before entry i have the same sums up to it
pub sum_same : (l m : List ℕ) (i : ℕ) → ((j : ℕ) → j < i → entry_len m j ≡ entry_len l j) → sum_before m i ≡ sum_before l i
unfolding sum_before
sum_same l m zero f = refl
sum_same l m (suc i) f =
    let a = sum_same l m i (λ j h. f j (omega arith)) in
    let b = f i (omega arith) in
    omega arith

-- ---- faults
module _ (l : List ℕ) (p : ℕ) where
  pub fault_unsound : is_sound l ≡ false → true ≡ faulty l p
  unfolding faulty choose
  fault_unsound h = rw h

  pub fault_none : is_sound l ≡ true → p ≤ count l → false ≡ faulty l p
  unfolding faulty choose
  fault_none h k = rw h (sym (le-ltb (count l) p k))

chosen : (b c : Bool) → choose b c true ≡ false → (b ≡ true) × (c ≡ false)
unfolding choose
chosen true c h = (refl, h)
chosen false c h = absurd (let z : ◌≡◌ {A = ℕ} 0 1 = cc in omega arith)

pub placed : (l : List ℕ) (p : ℕ) → faulty l p ≡ false → Placed l p
unfolding faulty
placed l p h =
    let f = chosen (is_sound l) (ltb (count l) p) h in
    record { ok = sound_facts l f.0; within = ltb-false (count l) p f.1 }

pub no_fault : (l : List ℕ) (p : ℕ) → Placed l p → false ≡ faulty l p
no_fault l p f = fault_none l p (sound_holds l f.ok) f.within
