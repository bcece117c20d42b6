-- The scan, one field on. Assumes nothing.
use Prim.Native.Nat.{ℕ, suc, ◌+◌, ◌≤◌, ◌<◌}
use mathlib.Core.Path.{◌≡◌, refl, sym}
use mathlib.Core.List.{List, map}
use native.Mathlib.Numerals.{add-one}
use lib.ListN.{length, drop, get_or, drop_of_length-le}
use lib.Seq.{drop-cons}
use borrow.Author.Tests.{eq-eqb, ne_eqb}
use Rattle.std.specs.Prelude.{Option, Some, None}
use Rattle.xdr.specs.Choose.{choose}
use Rattle.wire_layouts.specs.Layout.{four, eight, bytes, fixed, Value, value, FieldGot, field_got, stop, bad, field_at, Read, whole, before, broken, and_value, and_read, read_fields}
use Rattle.wire_layouts.specs.Scans.{field_of, field_seen, empty_scan, put, puts, summed, scanned}
use Rattle.wire_layouts.specs.declared.Field as code
use Rattle.wire_layouts.specs.declared.Text.{Text}
use Rattle.wire_layouts.specs.declared.Scan.{Scan}
use Rattle.wire_layouts.specs.declared.Seen.{Seen}

summed_first : (i : ℕ) (k : Scan) (v : Value Text) (r : Read) → summed i k (and_value v r) ≡ summed (suc i) (put i v.first k) r
unfolding summed and_value puts
summed_first i k v (whole vs) = refl
summed_first i k v (before vs) = refl
summed_first i k v broken = refl

-- what a field that was seen makes of the scan
carried : ℕ → Scan → (ℕ → Read) → Option Seen → Option Scan
carried i k F (Some (Seen.Word v x)) = summed (suc i) (put i (four v) k) (F x)
carried i k F (Some (Seen.Hyper v x)) = summed (suc i) (put i (eight v) k) (F x)
carried i k F (Some (Seen.Place t x)) = summed (suc i) (put i (bytes t) k) (F x)
carried i k F (Some (Seen.Stop v)) = Some (put i (four v) k)
carried i k F None = None

carries : (i : ℕ) (k : Scan) (F : ℕ → Read) (g : FieldGot) → summed i k (and_read g F) ≡ carried i k F (field_seen g)
unfolding field_seen and_read carried summed puts put
carries i k F (field_got (four w) is y) = summed_first i k (value (four w) is) (F y)
carries i k F (field_got (eight w) is y) = summed_first i k (value (eight w) is) (F y)
carries i k F (field_got (bytes t) is y) = summed_first i k (value (bytes t) is) (F y)
carries i k F (field_got (fixed t) is y) = summed_first i k (value (fixed t) is) (F y)
carries i k F (stop w) = refl
carries i k F bad = refl

-- what is left of a scan: the fields from number i on, at an offset, with what was kept
unfoldable pub left : List code.Field → ℕ → List ℕ → ℕ → Scan → Option Scan
left l i b at k = summed i k (read_fields (map field_of (drop i l)) b at)

pub starts : (l : List code.Field) (b : List ℕ) (k : Scan) → k ≡ empty_scan → scanned (map field_of l) b ≡ left l 0 b 0 k
unfolding scanned left
starts l b k e = rw e

module _ (l : List code.Field) (i : ℕ) (b : List ℕ) (at : ℕ) (k : Scan) (d : code.Field) (h : i < length l) where
  left_more : (s : Option Seen) → s ≡ field_seen (field_at (field_of (get_or l i d)) b at) → left l i b at k ≡ carried i k (read_fields (map field_of (drop (suc i) l)) b) s
  unfolding left read_fields
  left_more s e = rw (drop-cons l i d h, e) (carries i k (read_fields (map field_of (drop (suc i) l)) b) (field_at (field_of (get_or l i d)) b at))

  pub next_word : (v x : ℕ) → Some (Seen.Word v x) ≡ field_seen (field_at (field_of (get_or l i d)) b at) → left l i b at k ≡ left l (i + 1) b x (put i (four v) k)
  unfolding left carried
  next_word v x e = rw add-one (left_more (Some (Seen.Word v x)) e)

  pub next_hyper : (v x : ℕ) → Some (Seen.Hyper v x) ≡ field_seen (field_at (field_of (get_or l i d)) b at) → left l i b at k ≡ left l (i + 1) b x (put i (eight v) k)
  unfolding left carried
  next_hyper v x e = rw add-one (left_more (Some (Seen.Hyper v x)) e)

  pub next_place : (t : Text) (x : ℕ) → Some (Seen.Place t x) ≡ field_seen (field_at (field_of (get_or l i d)) b at) → left l i b at k ≡ left l (i + 1) b x (put i (bytes t) k)
  unfolding left carried
  next_place t x e = rw add-one (left_more (Some (Seen.Place t x)) e)

  pub last_stop : (v : ℕ) → Some (Seen.Stop v) ≡ field_seen (field_at (field_of (get_or l i d)) b at) → Some (put i (four v) k) ≡ left l i b at k
  unfolding carried
  last_stop v e = sym (left_more (Some (Seen.Stop v)) e)

  pub last_bad : None ≡ field_seen (field_at (field_of (get_or l i d)) b at) → None ≡ left l i b at k
  unfolding carried
  last_bad e = sym (left_more None e)

module _ (l : List code.Field) (i : ℕ) (b : List ℕ) (at : ℕ) (k : Scan) (h : length l ≤ i) where
  pub last_end : at ≡ length b → Some k ≡ left l i b at k
  unfolding left read_fields summed puts choose
  last_end e = rw (drop_of_length-le l h, eq-eqb at (length b) e)

  pub last_over : (at ≡ length b → ⊥) → None ≡ left l i b at k
  unfolding left read_fields summed choose
  last_over e = rw (drop_of_length-le l h, ne_eqb at (length b) e)
