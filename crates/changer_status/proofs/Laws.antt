-- Laws for the proofs of functions: a loop that reports, one that writes from the front, and what the parts of a status come to.
-- Assumes nothing.
use Prim.Native.Nat.{ℕ, suc, ◌+◌, ◌-◌, ◌*◌, ◌≤◌, ◌<◌}
use mathlib.Core.Bool.{true, false}
use mathlib.Core.List.{List, [], ◌∷◌, ◌++◌, append-nil, append_assoc}
use mathlib.Core.Path.{◌≡◌, refl, sym, ap, ◌∙◌}
use native.Mathlib.Omega.{arith}
use native.Mathlib.Numerals.{add-one}
use lib.ListN.{length, take, drop, get_or, set, length-append, drop_of_length-le}
use lib.Seq.{take-nil, take-length, take-append-le, take-suc-set, drop-cons, append_snoc}
use Rattle.xdr.specs.Choose.{least}
use Rattle.xdr.specs.Xdr.{be32s, overlay}
use Rattle.xdr.proofs.Tests.{eqb_yes, eqb_no, least_right, least_take}
use Rattle.xdr.proofs.Laws.{more, then_at, overlay_none, overlay_front, length_be32s}
use Rattle.xdr_opaque.specs.Put.{Put}
use Rattle.changer_elements.specs.declared.Asked.{Asked}
use Rattle.changer_elements.specs.Status.{elements, type_of, is_asked, those, reported, be16, descriptor, descriptors, is_type, of_type}
use Rattle.changer_elements.specs.Status.{page, pages, first_of, status_of, status_data}
use Rattle.changer_status.specs.Writers.{Few, HandsOver}
use Rattle.changer_elements.proofs.Lists.{those_nil, those_yes, those_no, those_append, reported_few, reported_types}
use Rattle.changer_elements.proofs.Bytes.{descriptors_length, descriptors_append, page_none, page_some, status_is, status_most, cut_length}

-- ---- the elements to report, while i of ten are looked at: those that stand at the front of the list, and those still to come
pub record Reporting (a : Asked) (list : List ℕ) (count i : ℕ) : Type 0 where
  pub done : i ≤ 10
  pub few : count ≤ i
  pub so_far : reported a ≡ take count list ++ take (a.number - count) (those (is_asked a) (drop i elements))

pub reporting_start : (a : Asked) (list : List ℕ) → Reporting a list 0 0
unfolding reported
reporting_start a list = let all : a.number - 0 ≡ a.number = omega arith in record { done = omega arith; few = omega arith; so_far = rw all refl }

module _ (a : Asked) (list : List ℕ) (count i e : ℕ) (r : Reporting a list count i) (on : i < 10) (is : e ≡ get_or elements i 0) where
  next_is : drop i elements ≡ e ∷ drop (i + 1) elements
  next_is = drop-cons elements i 0 on ∙ rw (add-one, ← is)

  pub reporting_more : length list ≡ 10 → count < a.number → is_asked a e ≡ true → Reporting a (set list count e) (count + 1) (i + 1)
  reporting_more long some asked =
      let left : ℕ = a.number - (count + 1) in
      let k : a.number - count ≡ suc left = omega arith in
      let fits : count < length list = (let f = r.few in omega arith) in
      let rest : List ℕ = those (is_asked a) (drop (i + 1) elements) in
      let come : take (a.number - count) (those (is_asked a) (drop i elements)) ≡ e ∷ take left rest =
      ap (λ (l : List ℕ). take (a.number - count) (those (is_asked a) l)) next_is
      ∙ ap (take (a.number - count)) (those_yes (is_asked a) e (drop (i + 1) elements) asked)
      ∙ ap (λ (n : ℕ). take n (e ∷ rest)) k in
      let front : take (count + 1) (set list count e) ≡ take count list ++ (e ∷ []) = ap (λ (n : ℕ). take n (set list count e)) (add-one count) ∙ take-suc-set list count e fits in
      record {
        done = omega arith;
        few = (let f = r.few in omega arith);
        so_far =
            r.so_far ∙ ap (λ (l : List ℕ). take count list ++ l) come
            ∙ sym (append_snoc (take count list) e (take left rest))
            ∙ ap (λ (l : List ℕ). l ++ take left rest) (sym front);
      }

  skipped : take (a.number - count) (those (is_asked a) (drop i elements)) ≡ take (a.number - count) (those (is_asked a) (drop (i + 1) elements)) →
      Reporting a list count (i + 1)
  skipped come =
      record {
        done = omega arith;
        few = (let f = r.few in omega arith);
        so_far = r.so_far ∙ ap (λ (l : List ℕ). take count list ++ l) come;
      }

  -- as many as the number allows are there
  pub reporting_full : a.number ≤ count → Reporting a list count (i + 1)
  reporting_full h = let none : a.number - count ≡ 0 = omega arith in skipped (rw none)

  pub reporting_other : is_asked a e ≡ false → Reporting a list count (i + 1)
  reporting_other h =
      skipped
      (ap (λ (l : List ℕ). take (a.number - count) (those (is_asked a) l)) next_is
      ∙ ap (take (a.number - count)) (those_no (is_asked a) e (drop (i + 1) elements) h))

pub reporting_end : (a : Asked) (list : List ℕ) (count i : ℕ) → Reporting a list count i → 10 ≤ i → take count list ≡ reported a
reporting_end a list count i r h =
    let none : take (a.number - count) (those (is_asked a) (drop i elements)) ≡ [] =
    ap (λ (l : List ℕ). take (a.number - count) (those (is_asked a) l)) (drop_of_length-le elements h)
    ∙ ap (take (a.number - count)) (those_nil (is_asked a)) ∙ take-nil (a.number - count) in
    sym (r.so_far ∙ ap (λ (l : List ℕ). take count list ++ l) none ∙ append-nil (take count list))

-- ---- a loop that writes a list of bytes from its front: what is left to write makes the whole of what stands there
pub record Putting (at : ℕ) (whole rest l m : List ℕ) (next : ℕ) : Type 0 where
  pub ends : next + length rest ≡ at + length whole
  pub goes : overlay at whole l ≡ overlay next rest m
  pub long : length m ≡ length l

pub putting_more : (at next next' : ℕ) (whole rest x rest' l m m' : List ℕ) → Putting at whole rest l m next → rest ≡ x ++ rest' →
    Put next x m next' m' → length m' ≡ length m → Putting at whole rest' l m' next'
putting_more at next next' whole rest x rest' l m m' p e q n =
    record {
      ends = omega (arith, p.ends, q.end, simp length-append at (ap length e));
      goes =
          p.goes ∙ ap (λ (b : List ℕ). overlay next b m) e ∙ sym (then_at next next' x rest' m (sym q.end))
          ∙ ap (λ (k : List ℕ). overlay next' rest' k) (sym q.wrote);
      long = n ∙ p.long;
    }

pub putting_end : (at next : ℕ) (whole rest l m : List ℕ) → Putting at whole rest l m next → rest ≡ [] → Put at whole l next m
putting_end at next whole rest l m p e =
    record {
      end = omega (arith, p.ends, ap length e);
      wrote = overlay_none next m ∙ ap (λ (b : List ℕ). overlay next b m) (sym e) ∙ sym p.goes;
    }

-- ---- descriptors
module _ (slots : List ℕ) (k e : ℕ) where
  pub one_yes : type_of e ≡ k → descriptors slots (of_type k (e ∷ [])) ≡ descriptor slots e
  unfolding of_type is_type descriptors
  one_yes h =
      ap (descriptors slots) (those_yes (is_type k) e [] (eqb_yes h) ∙ ap (λ (l : List ℕ). e ∷ l) (those_nil (is_type k)))
      ∙ append-nil (descriptor slots e)

  pub one_no : (type_of e ≡ k → ⊥) → descriptors slots (of_type k (e ∷ [])) ≡ []
  unfolding of_type is_type descriptors
  one_no h = ap (descriptors slots) (those_no (is_type k) e [] (eqb_no h) ∙ those_nil (is_type k))

-- the first of those that are left, and the rest
pub descriptors_next : (slots es : List ℕ) (k i : ℕ) → i < length es →
    descriptors slots (of_type k (drop i es)) ≡ descriptors slots (of_type k (get_or es i 0 ∷ [])) ++ descriptors slots (of_type k (drop (i + 1) es))
unfolding of_type
descriptors_next slots es k i h =
    let e : ℕ = get_or es i 0 in
    let split : drop i es ≡ (e ∷ []) ++ drop (i + 1) es = drop-cons es i 0 h ∙ rw add-one in
    ap (λ (l : List ℕ). descriptors slots (those (is_type k) l)) split
    ∙ ap (descriptors slots) (those_append (is_type k) (e ∷ []) (drop (i + 1) es))
    ∙ descriptors_append slots (those (is_type k) (e ∷ [])) (those (is_type k) (drop (i + 1) es))

pub descriptors_end : (slots es : List ℕ) (k i : ℕ) → length es ≤ i → descriptors slots (of_type k (drop i es)) ≡ []
unfolding of_type descriptors
descriptors_end slots es k i h = ap (λ (l : List ℕ). descriptors slots (those (is_type k) l)) (drop_of_length-le es h) ∙ ap (descriptors slots) (those_nil (is_type k))

-- a loop that writes the descriptors of a type, at an element that is of it, and at one that is not
module _ (slots es : List ℕ) (k i at next : ℕ) (whole l m : List ℕ) (p : Putting at whole (descriptors slots (of_type k (drop i es))) l m next)
    (on : i < length es) where
  is_next : type_of (get_or es i 0) ≡ k →
      descriptors slots (of_type k (drop i es)) ≡ descriptor slots (get_or es i 0) ++ descriptors slots (of_type k (drop (i + 1) es))
  is_next h = descriptors_next slots es k i on ∙ ap (λ (l : List ℕ). l ++ descriptors slots (of_type k (drop (i + 1) es))) (one_yes slots k (get_or es i 0) h)

  pub putting_fits : type_of (get_or es i 0) ≡ k → at + length whole ≤ length l → next + 12 ≤ length m
  unfolding descriptor be16
  putting_fits h f = omega (arith, p.ends, p.long, ap length (is_next h))

  pub putting_one : type_of (get_or es i 0) ≡ k → (next' : ℕ) (m' : List ℕ) → Put next (descriptor slots (get_or es i 0)) m next' m' →
      length m' ≡ length m → Putting at whole (descriptors slots (of_type k (drop (i + 1) es))) l m' next'
  putting_one h next' m' q n = putting_more at next next' whole _ (descriptor slots (get_or es i 0)) _ l m m' p (is_next h) q n

  pub putting_other : (type_of (get_or es i 0) ≡ k → ⊥) → Putting at whole (descriptors slots (of_type k (drop (i + 1) es))) l m next
  putting_other h =
      let e : descriptors slots (of_type k (drop i es)) ≡ descriptors slots (of_type k (drop (i + 1) es)) =
      descriptors_next slots es k i on ∙ ap (λ (l : List ℕ). l ++ descriptors slots (of_type k (drop (i + 1) es))) (one_no slots k (get_or es i 0) h) in
      rw e at p

-- ---- a page
nil_of : (l : List ℕ) → length l ≡ 0 → l ≡ []
nil_of [] h = refl
nil_of (x ∷ xs) h = absurd (omega arith)

module _ (slots es : List ℕ) (k at end : ℕ) (l m : List ℕ) (p : Put (at + 8) (descriptors slots (of_type k es)) l end m) where
  pub page_left : end ≡ at + 8 → Put at (page slots k es) l at m
  page_left e =
      let count = descriptors_length slots (of_type k es) in
      let empty : of_type k es ≡ [] = nil_of (of_type k es) (omega (arith, p.end)) in
      let bare : page slots k es ≡ [] = page_none slots (of_type k es) k empty in
      let none : descriptors slots (of_type k es) ≡ [] = nil_of (descriptors slots (of_type k es)) (omega (arith, p.end)) in
      record {
        end = omega (arith, ap length bare);
        wrote =
            p.wrote ∙ ap (λ (b : List ℕ). overlay (at + 8) b l) none ∙ sym (overlay_none (at + 8) l)
            ∙ overlay_none at l ∙ ap (λ (b : List ℕ). overlay at b l) (sym bare);
      }

  pub page_put : (m' : List ℕ) → (end ≡ at + 8 → ⊥) → k < 256 → at + 8 + 12 * length (of_type k es) ≤ length l → length (of_type k es) ≤ 10 →
      m' ≡ overlay at (be32s ((k * 16777216 + 12) ∷ (end - (at + 8)) ∷ [])) m → Put at (page slots k es) l end m'
  page_put m' some small fits few w =
      let d : List ℕ = descriptors slots (of_type k es) in
      let count : length d ≡ 12 * length (of_type k es) = descriptors_length slots (of_type k es) in
      let long : end - (at + 8) ≡ length d = omega (arith, p.end) in
      let full : of_type k es ≡ [] → ⊥ = λ e. some (omega (arith, p.end, ap length e)) in
      let head : List ℕ = be32s ((k * 16777216 + 12) ∷ length d ∷ []) in
      let eight : length head ≡ 8 = length_be32s ((k * 16777216 + 12) ∷ length d ∷ []) in
      let is : page slots k es ≡ head ++ d = page_some slots (of_type k es) k full small (omega arith) in
      record {
        end = omega (arith, p.end, ap length is, length-append head d);
        wrote =
            w ∙ ap (λ (n : ℕ). overlay at (be32s ((k * 16777216 + 12) ∷ n ∷ [])) m) long ∙ ap (λ (x : List ℕ). overlay at head x) p.wrote
            ∙ overlay_front at (at + 8) head d l (omega arith) (omega arith) ∙ ap (λ (b : List ℕ). overlay at b l) (sym is);
      }

-- ---- the whole status
module _ (slots es l m₁ m₂ m₃ : List ℕ) (second third end : ℕ) (few : Few es) (fits : 152 ≤ length l)
    (p : Put 8 (page slots 1 es) l second m₁) (q : Put second (page slots 4 es) m₁ third m₂) (r : Put third (page slots 2 es) m₂ end m₃) where
  pages_put : m₃ ≡ overlay 8 (pages slots es) l
  unfolding pages
  pages_put =
      let a : List ℕ = page slots 1 es in
      let b : List ℕ = page slots 4 es in
      let c : List ℕ = page slots 2 es in
      let two : m₂ ≡ overlay 8 (a ++ b) l = more 8 second a b l m₁ m₂ p.wrote q.wrote (sym p.end) in
      let ends : 8 + length (a ++ b) ≡ third = omega (arith, length-append a b, p.end, q.end) in
      more 8 third (a ++ b) c l m₂ m₃ two r.wrote ends ∙ ap (λ (x : List ℕ). overlay 8 x l) (append_assoc a b c)

  pub pages_end : end ≡ 8 + length (pages slots es)
  unfolding pages
  pages_end =
      let a : List ℕ = page slots 1 es in
      let b : List ℕ = page slots 4 es in
      let c : List ℕ = page slots 2 es in
      omega (arith, length-append a (b ++ c), length-append b c, p.end, q.end, r.end)

  pub status_put : (first : ℕ) (m : List ℕ) → first ≡ first_of es → first < 65536 → length (pages slots es) ≤ 144 →
      m ≡ overlay 0 (be32s ((first * 65536 + length es) ∷ (end - 8) ∷ [])) m₃ → Put 0 (status_of slots es) l end m
  status_put first m f small most w =
      let ended : end ≡ 8 + length (pages slots es) = pages_end in
      let long : end - 8 ≡ length (pages slots es) = omega arith in
      let head : List ℕ = be32s ((first_of es * 65536 + length es) ∷ length (pages slots es) ∷ []) in
      let eight : length head ≡ 8 = length_be32s ((first_of es * 65536 + length es) ∷ length (pages slots es) ∷ []) in
      let is : status_of slots es ≡ head ++ pages slots es = status_is slots es (omega arith) (omega (arith, few.all)) (omega arith) in
      record {
        end = omega (arith, ap length is, length-append head (pages slots es));
        wrote =
            w ∙ ap (λ (n : ℕ). overlay 0 (be32s ((first * 65536 + length es) ∷ n ∷ [])) m₃) long
            ∙ ap (λ (n : ℕ). overlay 0 (be32s ((n * 65536 + length es) ∷ length (pages slots es) ∷ [])) m₃) f
            ∙ ap (λ (x : List ℕ). overlay 0 head x) pages_put
            ∙ overlay_front 0 8 head (pages slots es) l (omega arith) (omega arith) ∙ ap (λ (b : List ℕ). overlay 0 b l) (sym is);
      }

pub few_reported : (a : Asked) → Few (reported a)
few_reported a = record { all = reported_few a; types = reported_types a }

-- ---- what is handed over
pub handed_over : (a : Asked) (slots out m : List ℕ) (whole n : ℕ) → Put 0 (status_of slots (reported a)) out whole m →
    n ≡ least a.cut whole →
    HandsOver a slots n m
unfolding status_data overlay
handed_over a slots out m whole n p h =
    let s : List ℕ = status_of slots (reported a) in
    let ends : whole ≡ length s = omega (arith, p.end) in
    let same : n ≡ least a.cut (length s) = h ∙ ap (least a.cut) ends in
    let within : least a.cut (length s) ≤ length s = least_right a.cut (length s) in
    record {
      end = same ∙ sym (cut_length a slots);
      bytes =
          ap (λ (k : ℕ). take k m) same ∙ ap (take (least a.cut (length s))) p.wrote
          ∙ take-append-le (least a.cut (length s)) s (drop (0 + length s) out) within
          ∙ least_take a.cut (length s) s ∙ ap (take a.cut) (take-length s);
      few = omega (arith, status_most a slots);
    }

-- a write of the same bytes, and one of none
pub put_same : {at next : ℕ} {a b l m : List ℕ} → a ≡ b → Put at a l next m → Put at b l next m
put_same e p = rw e at p
