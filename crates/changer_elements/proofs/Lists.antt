-- Lists of elements: those for which a test holds, what a part of a list keeps, and that the elements by types are the elements in
-- their order. Assumes nothing.
use Prim.Native.Nat.{ℕ, zero, suc, ◌+◌, ◌-◌, ◌≤◌, ◌<◌}
use mathlib.Core.Bool.{Bool, true, false}
use mathlib.Core.List.{List, [], ◌∷◌, ◌++◌, append-nil}
use mathlib.Core.Path.{◌≡◌, refl, sym, ap, ◌∙◌}
use native.Mathlib.Omega.{arith}
use native.Mathlib.Nat.{sub-zero}
use lib.Dec.{leb}
use lib.ListN.{length, get_or, take, length-append, length-take}
use borrow.Author.Tests.{leb-true, eqb-true}
use Rattle.xdr.specs.Choose.{choose}
use Rattle.xdr.proofs.Tests.{eqb_yes, eqb_no}
use Rattle.xdr_opaque.specs.Put.{Each}
use Rattle.changer_elements.specs.declared.Asked.{Asked}
use Rattle.changer_elements.specs.Status.{elements, type_of, is_asked, those, reported, is_type, of_type}
use Rattle.changer_elements.specs.StatusHolds.{RisingFrom, Among}
use Rattle.changer_elements.proofs.Laws.{both, by_cases}

-- ---- those for which a test holds
pub those_nil : (p : ℕ → Bool) → those p [] ≡ []
unfolding those
those_nil p = refl

module _ (p : ℕ → Bool) (e : ℕ) (es : List ℕ) where
  pub those_yes : p e ≡ true → those p (e ∷ es) ≡ e ∷ those p es
  unfolding those choose
  those_yes h = rw h

  pub those_no : p e ≡ false → those p (e ∷ es) ≡ those p es
  unfolding those choose
  those_no h = rw h

pub those_append : (p : ℕ → Bool) (a b : List ℕ) → those p (a ++ b) ≡ those p a ++ those p b
unfolding those
those_append p [] b = refl
those_append p (e ∷ es) b =
    by_cases (p e)
    (λ h. those_yes p e (es ++ b) h ∙ ap (λ (l : List ℕ). e ∷ l) (those_append p es b) ∙ ap (λ (l : List ℕ). l ++ those p b) (sym (those_yes p e es h)))
    (λ h. those_no p e (es ++ b) h ∙ those_append p es b ∙ ap (λ (l : List ℕ). l ++ those p b) (sym (those_no p e es h)))

pub those_have : (p : ℕ → Bool) (es : List ℕ) → Each (λ (e : ℕ). p e ≡ true) (those p es)
unfolding those choose
those_have p [] = tt
those_have p (e ∷ es) = by_cases (p e) (λ h. rw h (h, those_have p es)) (λ h. rw h (those_have p es))

pub take_append : (n : ℕ) (a b : List ℕ) → take n (a ++ b) ≡ take n a ++ take (n - length a) b
take_append zero a b = ap (λ (k : ℕ). take k b) (let z : 0 ≡ 0 - length a = omega arith in z)
take_append (suc n) [] b = ap (λ (k : ℕ). take k b) (sym (sub-zero (suc n)))
take_append (suc n) (x ∷ xs) b =
    let k : suc n - length (x ∷ xs) ≡ n - length xs = omega arith in
    ap (λ (l : List ℕ). x ∷ l) (take_append n xs b) ∙ ap (λ (m : ℕ). (x ∷ take n xs) ++ take m b) (sym k)

-- ---- what a part of a list keeps
module _ (P : ℕ → Type 0) where
  pub each_those : (p : ℕ → Bool) (es : List ℕ) → Each P es → Each P (those p es)
  unfolding those choose
  each_those p [] h = tt
  each_those p (e ∷ es) h = by_cases (p e) (λ q. rw q (h.0, each_those p es h.1)) (λ q. rw q (each_those p es h.1))

  pub each_take : (n : ℕ) (es : List ℕ) → Each P es → Each P (take n es)
  each_take zero es h = tt
  each_take (suc n) [] h = tt
  each_take (suc n) (e ∷ es) h = (h.0, each_take n es h.1)

pub each_map : (P Q : ℕ → Type 0) (es : List ℕ) → ((e : ℕ) → P e → Q e) → Each P es → Each Q es
each_map P Q [] f h = tt
each_map P Q (e ∷ es) f h = (f e h.0, each_map P Q es f h.1)

rising_lower : (b c : ℕ) (es : List ℕ) → c ≤ b → RisingFrom b es → RisingFrom c es
rising_lower b c [] l h = tt
rising_lower b c (e ∷ es) l h = (let z : b ≤ e = h.0 in omega arith, h.1)

pub rising_each : (b : ℕ) (es : List ℕ) → RisingFrom b es → Each (λ (e : ℕ). b ≤ e) es
rising_each b [] h = tt
rising_each b (e ∷ es) h = (h.0, rising_each b es (rising_lower (suc e) b es (let z : b ≤ e = h.0 in omega arith) h.1))

rising_those : (p : ℕ → Bool) (b : ℕ) (es : List ℕ) → RisingFrom b es → RisingFrom b (those p es)
unfolding those choose
rising_those p b [] h = tt
rising_those p b (e ∷ es) h =
    by_cases (p e)
    (λ q. rw q (h.0, rising_those p (suc e) es h.1))
    (λ q. rw q (rising_those p b es (rising_lower (suc e) b es (let z : b ≤ e = h.0 in omega arith) h.1)))

rising_take : (n b : ℕ) (es : List ℕ) → RisingFrom b es → RisingFrom b (take n es)
rising_take zero b es h = tt
rising_take (suc n) b [] h = tt
rising_take (suc n) b (e ∷ es) h = (h.0, rising_take n (suc e) es h.1)

-- a rising list all of which is above a number rises from it
rising_from : (b c : ℕ) (es : List ℕ) → RisingFrom b es → Each (λ (e : ℕ). c ≤ e) es → RisingFrom c es
rising_from b c [] h k = tt
rising_from b c (e ∷ es) h k = (k.0, h.1)

elements_rise : RisingFrom 0 elements
elements_rise =
    (omega arith, (omega arith, (omega arith, (omega arith, (omega arith, (omega arith, (omega arith, (omega arith, (omega arith, (omega arith, tt))))))))))

-- ---- the elements that are reported
pub reported_asked : (a : Asked) → Each (λ (e : ℕ). is_asked a e ≡ true) (reported a)
unfolding reported
reported_asked a = each_take (λ (e : ℕ). is_asked a e ≡ true) a.number (those (is_asked a) elements) (those_have (is_asked a) elements)

pub asked_from : (a : Asked) (e : ℕ) → is_asked a e ≡ true → a.start ≤ e
unfolding is_asked
asked_from a e h = leb-true a.start e (both (leb a.start e) h).0

pub asked_kind : (a : Asked) → (a.kind ≡ 0 → ⊥) → (e : ℕ) → is_asked a e ≡ true → type_of e ≡ a.kind
unfolding is_asked choose
asked_kind a n e h =
    let k = (both (leb a.start e) h).1 in
    sym (eqb-true a.kind (type_of e) (rw (eqb_no n) at k))

pub reported_rise : (a : Asked) → RisingFrom a.start (reported a)
unfolding reported
reported_rise a =
    rising_from 0 a.start (reported a) (rising_take a.number 0 (those (is_asked a) elements) (rising_those (is_asked a) 0 elements elements_rise))
    (each_map (λ (e : ℕ). is_asked a e ≡ true) (λ (e : ℕ). a.start ≤ e) (reported a) (asked_from a) (reported_asked a))

-- ---- the first of those that are asked for
among_head : (x f : ℕ) (es : List ℕ) → x ≡ f → Among f (x ∷ es)
among_head x f es q = record { place = 0; within = omega arith; there = q }

among_tail : (x f : ℕ) (es : List ℕ) → Among f es → Among f (x ∷ es)
among_tail x f es m = record { place = suc m.place; within = omega (arith, m.within); there = m.there }

-- by the place: one for which the test holds is kept
kept : (p : ℕ → Bool) (es : List ℕ) (f i : ℕ) → i < length es → get_or es i 0 ≡ f → p f ≡ true → Among f (those p es)
unfolding those choose
kept p [] f i h q t = absurd (omega arith)
kept p (x ∷ es) f zero h q t = rw (ap p q ∙ t) (among_head x f (those p es) q)
kept p (x ∷ es) f (suc i) h q t =
    let rest : Among f (those p es) = kept p es f i (omega arith) q t in
    by_cases (p x) (λ y. rw y (among_tail x f (those p es) rest)) (λ y. rw y rest)

each_at : (P : ℕ → Type 0) (es : List ℕ) (i : ℕ) → i < length es → Each P es → P (get_or es i 0)
each_at P [] i h k = absurd (omega arith)
each_at P (x ∷ es) zero h k = k.0
each_at P (x ∷ es) (suc i) h k = each_at P es i (omega arith) k.1

-- what is smaller than one of the first n of a rising list is one of them
taken : (n b : ℕ) (es : List ℕ) → RisingFrom b es → (e f i j : ℕ) → i < length (take n es) → get_or (take n es) i 0 ≡ e →
    j < length es → get_or es j 0 ≡ f → f < e → Among f (take n es)
taken zero b es r e f i j h q k m l = absurd (omega arith)
taken (suc n) b [] r e f i j h q k m l = absurd (omega arith)
taken (suc n) b (x ∷ es) r e f i zero h q k m l = among_head x f (take n es) m
taken (suc n) b (x ∷ es) r e f zero (suc j) h q k m l =
    let behind = rising_each (suc x) es r.1 in
    let above : suc x ≤ get_or es j 0 = each_at (λ (y : ℕ). suc x ≤ y) es j (omega arith) behind in
    absurd (omega arith)
taken (suc n) b (x ∷ es) r e f (suc i) (suc j) h q k m l =
    among_tail x f (take n es) (taken n (suc x) es r.1 e f i j (omega arith) q (omega arith) m l)

pub reported_first : (a : Asked) (e f : ℕ) → Among e (reported a) → Among f elements → is_asked a f ≡ true → f < e →
    Among f (reported a)
unfolding reported
reported_first a e f me mf t l =
    let es : List ℕ = those (is_asked a) elements in
    let m : Among f es = kept (is_asked a) elements f mf.place mf.within mf.there t in
    let rise : RisingFrom 0 es = rising_those (is_asked a) 0 elements elements_rise in
    taken a.number 0 es rise e f me.place m.place me.within me.there m.within m.there l

pub those_length : (p : ℕ → Bool) (es : List ℕ) → length (those p es) ≤ length es
unfolding those choose
those_length p [] = omega arith
those_length p (e ∷ es) =
    let h = those_length p es in
    by_cases (p e) (λ q. rw q (omega arith)) (λ q. rw q (omega arith))

pub reported_few : (a : Asked) → length (reported a) ≤ 10
unfolding reported
reported_few a = omega (arith, length-take a.number (those (is_asked a) elements), those_length (is_asked a) elements)

pub reported_most : (a : Asked) → length (reported a) ≤ a.number
unfolding reported
reported_most a = omega (arith, length-take a.number (those (is_asked a) elements))

-- each is an element, and so below 24
elements_small : Each (λ (e : ℕ). e < 24) elements
elements_small =
    (omega arith, (omega arith, (omega arith, (omega arith, (omega arith, (omega arith, (omega arith, (omega arith, (omega arith, (omega arith, tt))))))))))

pub reported_small : (a : Asked) → Each (λ (e : ℕ). e < 24) (reported a)
unfolding reported
reported_small a = each_take (λ (e : ℕ). e < 24) a.number (those (is_asked a) elements) (each_those (λ (e : ℕ). e < 24) (is_asked a) elements elements_small)

-- ---- by types
abbrev Typed : ℕ → ℕ → Type 0
Typed k e = type_of e ≡ k

type_all : (k : ℕ) (es : List ℕ) → Each (Typed k) es → of_type k es ≡ es
unfolding of_type is_type
type_all k [] h = those_nil (is_type k)
type_all k (e ∷ es) h = those_yes (is_type k) e es (eqb_yes h.0) ∙ ap (λ (l : List ℕ). e ∷ l) (type_all k es h.1)

type_none : (k j : ℕ) (es : List ℕ) → (k ≡ j → ⊥) → Each (Typed k) es → of_type j es ≡ []
unfolding of_type is_type
type_none k j [] d h = those_nil (is_type j)
type_none k j (e ∷ es) d h = those_no (is_type j) e es (eqb_no (λ q. d (sym h.0 ∙ q))) ∙ type_none k j es d h.1

-- a list that has first transports, then drives, then slots
record Parted (es : List ℕ) : Type 0 where
  transports : List ℕ
  drives : List ℕ
  slots : List ℕ
  is : es ≡ transports ++ (drives ++ slots)
  first : Each (Typed 1) transports
  second : Each (Typed 4) drives
  third : Each (Typed 2) slots

parted_those : (p : ℕ → Bool) (es : List ℕ) → Parted es → Parted (those p es)
parted_those p es h =
    record {
      transports = those p h.transports;
      drives = those p h.drives;
      slots = those p h.slots;
      is =
          ap (those p) h.is ∙ those_append p h.transports (h.drives ++ h.slots)
          ∙ ap (λ (l : List ℕ). those p h.transports ++ l) (those_append p h.drives h.slots);
      first = each_those (Typed 1) p h.transports h.first;
      second = each_those (Typed 4) p h.drives h.second;
      third = each_those (Typed 2) p h.slots h.third;
    }

parted_take : (n : ℕ) (es : List ℕ) → Parted es → Parted (take n es)
parted_take n es h =
    let m : ℕ = n - length h.transports in
    record {
      transports = take n h.transports;
      drives = take m h.drives;
      slots = take (m - length h.drives) h.slots;
      is =
          ap (take n) h.is ∙ take_append n h.transports (h.drives ++ h.slots)
          ∙ ap (λ (l : List ℕ). take n h.transports ++ l) (take_append m h.drives h.slots);
      first = each_take (Typed 1) n h.transports h.first;
      second = each_take (Typed 4) m h.drives h.second;
      third = each_take (Typed 2) (m - length h.drives) h.slots h.third;
    }

elements_parted : Parted elements
unfolding type_of choose
elements_parted =
    record {
      transports = 0 ∷ [];
      drives = 1 ∷ [];
      slots = 16 ∷ 17 ∷ 18 ∷ 19 ∷ 20 ∷ 21 ∷ 22 ∷ 23 ∷ [];
      is = refl;
      first = (refl, tt);
      second = (refl, tt);
      third = (refl, (refl, (refl, (refl, (refl, (refl, (refl, (refl, tt))))))));
    }

-- each type of such a list is its part
module _ (es : List ℕ) (h : Parted es) where
  part_of : (k : ℕ) → of_type k es ≡ of_type k h.transports ++ (of_type k h.drives ++ of_type k h.slots)
  unfolding of_type
  part_of k =
      ap (those (is_type k)) h.is ∙ those_append (is_type k) h.transports (h.drives ++ h.slots)
      ∙ ap (λ (l : List ℕ). those (is_type k) h.transports ++ l) (those_append (is_type k) h.drives h.slots)

  transports_are : of_type 1 es ≡ h.transports
  transports_are =
      part_of 1
      ∙ rw (type_all 1 h.transports h.first, type_none 4 1 h.drives (λ q. omega arith) h.second, type_none 2 1 h.slots (λ q. omega arith) h.third, append-nil)

  drives_are : of_type 4 es ≡ h.drives
  drives_are =
      part_of 4
      ∙ rw (type_none 1 4 h.transports (λ q. omega arith) h.first, type_all 4 h.drives h.second, type_none 2 4 h.slots (λ q. omega arith) h.third, append-nil)

  slots_are : of_type 2 es ≡ h.slots
  slots_are =
      part_of 2
      ∙ rw (type_none 1 2 h.transports (λ q. omega arith) h.first, type_none 4 2 h.drives (λ q. omega arith) h.second, type_all 2 h.slots h.third)

  in_parts : of_type 1 es ++ (of_type 4 es ++ of_type 2 es) ≡ es
  in_parts = rw (transports_are, drives_are, slots_are) (sym h.is)

pub reported_in_order : (a : Asked) → of_type 1 (reported a) ++ (of_type 4 (reported a) ++ of_type 2 (reported a)) ≡ reported a
unfolding reported
reported_in_order a =
    in_parts (reported a) (parted_take a.number (those (is_asked a) elements) (parted_those (is_asked a) elements elements_parted))

pub reported_types : (a : Asked) → length (of_type 1 (reported a)) + length (of_type 4 (reported a)) + length (of_type 2 (reported a)) ≤ 10
reported_types a =
    let r = reported a in
    omega
    (arith, simp (length-append) at (ap length (reported_in_order a)), reported_few a)
