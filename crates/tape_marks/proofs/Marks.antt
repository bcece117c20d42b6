-- The marks' numbers, and the words that name them: by induction over the entries. Assumes nothing.
use Prim.Native.Nat.{ℕ, zero, suc, ◌+◌, ◌-◌, ◌≤◌, ◌<◌}
use mathlib.Core.List.{List, [], ◌∷◌, ◌++◌}
use mathlib.Core.Bool.{Bool, true, false, ◌&&◌}
use mathlib.Core.Path.{◌≡◌, refl, sym, ap, ◌∙◌}
use native.Mathlib.Omega.{arith}
use native.Mathlib.Nat.{zero-add, add-zero, suc-add}
use native.Mathlib.Numerals.{add-one}
use lib.ListN.{length, get_or, drop, length-append, length-drop, drop_of_length-le}
use lib.Seq.{drop-cons, get_or-append_seam}
use lib.Dec.{eqb, ltb}
use borrow.Author.Tests.{ltb-true, lt-ltb, le-ltb, eqb-true, eq-eqb, ne_eqb}
use Rattle.xdr.specs.Choose.{choose}
use Rattle.xdr.proofs.Tests.{and_l, and_r, by_test, by_both}
use Rattle.tape_image.specs.Image.{entry_len}
use Rattle.tape_image.specs.Place.{marks_before}
use Rattle.tape_spacing.specs.Alike.{is_mark}
use Rattle.tape_marks.specs.Marks.{marks_from, names_marks, is_mark_list, before}
use Rattle.tape_marks.specs.Holds.{RisingFrom, MarksHold, NamesExactly}

pub by_cases : {A : Type 0} (b : Bool) → (b ≡ true → A) → (b ≡ false → A) → A
by_cases true f g = f refl
by_cases false f g = g refl

-- ---- rising lists
pub rising_lower : (a b : ℕ) (ms : List ℕ) → a ≤ b → RisingFrom b ms → RisingFrom a ms
rising_lower a b [] h r = tt
rising_lower a b (m ∷ ms) h r = (let z = r.0 in omega arith, r.1)

pub rising_least : (b : ℕ) (ms : List ℕ) (j : ℕ) → RisingFrom b ms → j < length ms → b ≤ get_or ms j 0
rising_least b [] j r h = absurd (omega arith)
rising_least b (m ∷ ms) zero r h = r.0
rising_least b (m ∷ ms) (suc j) r h =
    let z = r.0 in
    let more = rising_least (m + 1) ms j r.1 (omega arith) in
    omega arith

module _ (p m : ℕ) (ms : List ℕ) where
  pub before_yes : m < p → before (m ∷ ms) p ≡ before ms p + 1
  unfolding before choose
  before_yes h = rw (lt-ltb m p h)

  pub before_no : p ≤ m → before (m ∷ ms) p ≡ before ms p
  unfolding before choose
  before_no h = rw (le-ltb m p h)

-- none lies before a position that all are at or after
pub before_none : (b p : ℕ) (ms : List ℕ) → RisingFrom b ms → p ≤ b → before ms p ≡ 0
unfolding before
before_none b p [] r h = refl
before_none b p (m ∷ ms) r h =
    let z = r.0 in
    before_no p m ms (omega arith) ∙ before_none (m + 1) p ms r.1 (omega arith)

pub before_append : (p : ℕ) (ms ns : List ℕ) → before (ms ++ ns) p ≡ before ms p + before ns p
unfolding before
before_append p [] ns = sym (zero-add (before ns p))
before_append p (m ∷ ms) ns =
    let rest = before_append p ms ns in
    by_both (λ (x y : ℕ). x ≡ y + before ns p) (ltb m p) _ _ _ _ (λ _. omega arith) (λ _. rest)

-- ---- the marks among some entries
module _ (l : List ℕ) where
  -- each of a list is a mark below entry n
  abbrev Are : ℕ → List ℕ → Type 0
  Are n ms = (j : ℕ) → j < length ms → (get_or ms j 0 < n) × (is_mark l (get_or ms j 0) ≡ true)

  are_first : (n i : ℕ) (ms : List ℕ) → i < n → is_mark l i ≡ true → Are n ms → Are n (i ∷ ms)
  are_first n i ms h q rest zero b = (h, q)
  are_first n i ms h q rest (suc j) b = rest j (omega arith)

  pub marks_split : (a i b : ℕ) → marks_from l i (a + b) ≡ marks_from l i a ++ marks_from l (i + a) b
  unfolding marks_from
  marks_split zero i b = rw (zero-add b, add-zero i) refl
  marks_split (suc a) i b =
      let g : i + 1 + a ≡ i + suc a = omega arith in
      let rest : marks_from l (i + 1) (a + b) ≡ marks_from l (i + 1) a ++ marks_from l (i + suc a) b = rw g at (marks_split a (i + 1) b) in
      rw (suc-add a b)
      (by_both (λ (x y : List ℕ). x ≡ y ++ marks_from l (i + suc a) b) (is_mark l i) _ _ _ _ (λ _. ap (λ (r : List ℕ). i ∷ r) rest) (λ _. rest))

  pub marks_rising : (k i : ℕ) → RisingFrom i (marks_from l i k)
  unfolding marks_from
  marks_rising zero i = tt
  marks_rising (suc k) i =
      let rest = marks_rising k (i + 1) in
      by_test (RisingFrom i) (is_mark l i) _ _ (λ _. (omega arith, rest)) (λ _. rising_lower i (i + 1) (marks_from l (i + 1) k) (omega arith) rest)

  -- all of those before a position lie before it
  marks_low : (p k i : ℕ) → i + k ≤ p → before (marks_from l i k) p ≡ length (marks_from l i k)
  unfolding marks_from before
  marks_low p zero i h = refl
  marks_low p (suc k) i h =
      let rest = marks_low p k (i + 1) (omega arith) in
      by_test (λ (ms : List ℕ). before ms p ≡ length ms) (is_mark l i) _ _
      (λ _. before_yes p i (marks_from l (i + 1) k) (omega arith) ∙ (let z = rest in omega arith)) (λ _. rest)

  -- each is a mark
  marks_are : (k i : ℕ) → Are (i + k) (marks_from l i k)
  unfolding marks_from
  marks_are zero i = λ j h. absurd (omega arith)
  marks_are (suc k) i =
      let g : i + 1 + k ≡ i + suc k = omega arith in
      let rest : Are (i + suc k) (marks_from l (i + 1) k) = rw g at (marks_are k (i + 1)) in
      by_test (Are (i + suc k)) (is_mark l i) _ _ (λ q. are_first (i + suc k) i (marks_from l (i + 1) k) (omega arith) q rest) (λ _. rest)

  -- the marks from a mark on, or from a record, and the marks before the entry after it
  module _ (i : ℕ) (q : is_mark l i ≡ true) where
    marks_here : (k : ℕ) → marks_from l i (suc k) ≡ i ∷ marks_from l (i + 1) k
    unfolding marks_from choose
    marks_here k = rw q

    pub file_mark : marks_before l (i + 1) ≡ marks_before l i + 1
    unfolding marks_before choose
    file_mark = rw (add-one i, q)

  module _ (i : ℕ) (q : is_mark l i ≡ false) where
    marks_later : (k : ℕ) → marks_from l i (suc k) ≡ marks_from l (i + 1) k
    unfolding marks_from choose
    marks_later k = rw q

    pub file_record : marks_before l (i + 1) ≡ marks_before l i
    unfolding marks_before choose
    file_record = rw (add-one i, q)

  -- one entry more
  number_next : (i : ℕ) → length (marks_from l 0 i) ≡ marks_before l i → length (marks_from l 0 (i + 1)) ≡ marks_before l (i + 1)
  unfolding marks_from
  number_next i e =
      let s : marks_from l 0 (i + 1) ≡ marks_from l 0 i ++ marks_from l i 1 = rw (zero-add i) at (marks_split i 0 1) in
      let long = ap length s ∙ length-append (marks_from l 0 i) (marks_from l i 1) in
      by_cases (is_mark l i)
      (λ q. let a = ap length (marks_here i q 0) in let b = file_mark i q in omega arith)
      (λ q. let a = ap length (marks_later i q 0) in let b = file_record i q in omega arith)

  number_none : length (marks_from l 0 0) ≡ marks_before l 0
  unfolding marks_from marks_before
  number_none = refl

  pub number_marks : (i : ℕ) → length (marks_from l 0 i) ≡ marks_before l i
  number_marks zero = number_none
  number_marks (suc i) = rw (add-one i) at (number_next i (number_marks i))

  module _ (n : ℕ) where
    pub marks_at : (p : ℕ) → p ≤ n → marks_from l 0 n ≡ marks_from l 0 p ++ marks_from l p (n - p)
    marks_at p h =
        let e : p + (n - p) ≡ n = omega arith in
        rw (e, zero-add p) at (marks_split p 0 (n - p))

    pub before_marks : (p : ℕ) → p ≤ n → before (marks_from l 0 n) p ≡ marks_before l p
    before_marks p h =
        let low = marks_low p p 0 (omega arith) in
        let high = before_none p p (marks_from l p (n - p)) (marks_rising (n - p) p) (omega arith) in
        let e = number_marks p in
        ap (λ (ms : List ℕ). before ms p) (marks_at p h) ∙ before_append p (marks_from l 0 p) (marks_from l p (n - p)) ∙ omega arith

    pub mark_named : (i : ℕ) → i < n → is_mark l i ≡ true
        → (marks_before l i < length (marks_from l 0 n)) × (get_or (marks_from l 0 n) (marks_before l i) 0 ≡ i)
    mark_named i h q =
        let k : n - i ≡ suc (n - i - 1) = omega arith in
        let s : marks_from l 0 n ≡ marks_from l 0 i ++ i ∷ marks_from l (i + 1) (n - i - 1) = marks_at i (omega arith)
        ∙ ap (λ (ms : List ℕ). marks_from l 0 i ++ ms) (ap (marks_from l i) k ∙ marks_here i q (n - i - 1)) in
        let long = ap length s ∙ length-append (marks_from l 0 i) (i ∷ marks_from l (i + 1) (n - i - 1)) in
        let e = number_marks i in (
          omega arith,
          rw (s, ← e) (get_or-append_seam (marks_from l 0 i) i (marks_from l (i + 1) (n - i - 1)) 0),
        )

    pub marks_hold : MarksHold l n
    marks_hold =
        record {
          rising = marks_rising n 0;
          number = number_marks n;
          file = before_marks;
          marks = rw (zero-add n) at (marks_are n 0);
          all = mark_named;
          split = marks_at;
        }

-- ---- words that name the marks
-- the entries from entry i on are named by the words from word j on
module _ (words l : List ℕ) where
  -- one mark, as facts
  record Named (k i j : ℕ) : Type 0 where
    there : j < length words
    is : get_or words j 0 ≡ i
    rest : names_marks words l k (i + 1) (j + 1) ≡ true

  module _ (k i j : ℕ) (q : is_mark l i ≡ true) where
    mark_names : names_marks words l (suc k) i j ≡ true → Named k i j
    unfolding names_marks choose
    mark_names h =
        let a = ltb j (length words) in
        let b = eqb (get_or words j 0) i in
        let r = names_marks words l k (i + 1) (j + 1) in
        let all : (a && b && r) ≡ true = rw q at h in
        let ab = and_l (a && b) r all in
        record { there = ltb-true _ _ (and_l a b ab); is = eqb-true _ _ (and_r a b ab); rest = and_r (a && b) r all }

    names_mark : Named k i j → names_marks words l (suc k) i j ≡ true
    unfolding names_marks choose
    names_mark r = rw (q, lt-ltb _ _ r.there, eq-eqb _ _ r.is) r.rest

  record_names : (k i j : ℕ) → is_mark l i ≡ false → names_marks words l (suc k) i j ≡ names_marks words l k (i + 1) j
  unfolding names_marks choose
  record_names k i j q = rw q

  names_none : (i j : ℕ) → names_marks words l 0 i j ≡ eqb j (length words)
  unfolding names_marks
  names_none i j = refl

  marks_none : (i : ℕ) → marks_from l i 0 ≡ []
  unfolding marks_from
  marks_none i = refl

  names_are : (k i j : ℕ) → names_marks words l k i j ≡ true → drop j words ≡ marks_from l i k
  names_are zero i j h =
      let e : j ≡ length words = eqb-true j (length words) (sym (names_none i j) ∙ h) in
      drop_of_length-le words {i = j} (omega arith) ∙ sym (marks_none i)
  names_are (suc k) i j h =
      by_cases (is_mark l i)
      (λ q. let r = mark_names k i j q h in
      drop-cons words j 0 r.there
      ∙ ap (λ (e : ℕ). e ∷ drop (suc j) words) r.is
      ∙ ap (λ (ms : List ℕ). i ∷ ms) (ap (λ (m : ℕ). drop m words) (sym (add-one j)) ∙ names_are k (i + 1) (j + 1) r.rest)
      ∙ sym (marks_here l i q k))
      (λ q. names_are k (i + 1) j (sym (record_names k i j q) ∙ h) ∙ sym (marks_later l i q k))

  are_named : (k i j : ℕ) → j ≤ length words → drop j words ≡ marks_from l i k → names_marks words l k i j ≡ true
  are_named zero i j b h =
      let long : length words - j ≡ 0 = sym (length-drop j words) ∙ ap length (h ∙ marks_none i) in
      names_none i j ∙ eq-eqb j (length words) (omega arith)
  are_named (suc k) i j b h =
      by_cases (is_mark l i)
      (λ q. let s : drop j words ≡ i ∷ marks_from l (i + 1) k = h ∙ marks_here l i q k in
      let long : length words - j ≡ suc (length (marks_from l (i + 1) k)) = sym (length-drop j words) ∙ ap length s in
      let there : j < length words = omega arith in
      let first : get_or words j 0 ∷ drop (suc j) words ≡ i ∷ marks_from l (i + 1) k = sym (drop-cons words j 0 there) ∙ s in
      let rest : drop (j + 1) words ≡ marks_from l (i + 1) k = ap (λ (m : ℕ). drop m words) (add-one j) ∙ ap (λ (ms : List ℕ). drop 1 ms) first in
      names_mark k i j q
      (record { there = there; is = ap (λ (ms : List ℕ). get_or ms 0 0) first; rest = are_named k (i + 1) (j + 1) (omega arith) rest }))
      (λ q. record_names k i j q ∙ are_named k (i + 1) j b (h ∙ marks_later l i q k))

  pub names_exactly : (n : ℕ) → NamesExactly words l n
  unfolding is_mark_list
  names_exactly n = record { are = names_are n 0 0; named = are_named n 0 0 (omega arith) }

-- ---- the same, where a loop counts i up to n
module _ (words l : List ℕ) (n i j : ℕ) where
  pub names_end : n ≤ i → names_marks words l (n - i) i j ≡ eqb j (length words)
  names_end h =
      let e : n - i ≡ 0 = omega arith in
      rw e (names_none words l i j)

  module _ (h : i < n) where
    more : n - i ≡ suc (n - (i + 1))
    more = omega arith

    pub names_pass : (entry_len l i ≡ 0 → ⊥) → names_marks words l (n - i) i j ≡ names_marks words l (n - (i + 1)) (i + 1) j
    names_pass q = ap (λ (k : ℕ). names_marks words l k i j) more ∙ record_names words l (n - (i + 1)) i j (ne_eqb _ _ q)

    module _ (q : entry_len l i ≡ 0) where
      pub names_short : length words ≤ j → names_marks words l (n - i) i j ≡ false
      unfolding names_marks choose
      names_short b = rw (more, eq-eqb _ _ q, le-ltb _ _ b)

      module _ (b : j < length words) where
        pub names_other : (get_or words j 0 ≡ i → ⊥) → names_marks words l (n - i) i j ≡ false
        unfolding names_marks choose
        names_other w = rw (more, eq-eqb _ _ q, lt-ltb _ _ b, ne_eqb _ _ w)

        pub names_next : get_or words j 0 ≡ i → names_marks words l (n - i) i j ≡ names_marks words l (n - (i + 1)) (i + 1) (j + 1)
        unfolding names_marks choose
        names_next w = rw (more, eq-eqb _ _ q, lt-ltb _ _ b, eq-eqb _ _ w)
