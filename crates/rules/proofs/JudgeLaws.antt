-- The laws of judging by a list of tests, and of outcomes. Assumes nothing.
use Prim.Native.Nat.{ℕ, zero, suc}
use mathlib.Core.Bool.{Bool, true, false}
use mathlib.Core.List.{List, [], ◌∷◌, ◌++◌}
use mathlib.Core.Path.{◌≡◌, refl}
use native.Mathlib.Omega.{arith}
use lib.Dec.{eqb}
use borrow.Author.Tests.{eqb-false, ne_eqb}
use Rattle.xdr.specs.Choose.{choose}
use Rattle.wire_replies.specs.declared.Reply.{Reply}
use Rattle.rules.specs.Judge.{Test, test, first, Outcome, refuse, accept, judge, onto, Accepts, Refuses}

-- the k-th test's value
abbrev pub flag_at : List Test → ℕ → Bool
flag_at [] k = false
flag_at (test b e ∷ ts) zero = b
flag_at (test b e ∷ ts) (suc k) = flag_at ts k

-- no test applies
abbrev pub Clear : List Test → Type 0
Clear ts = (k : ℕ) → flag_at ts k ≡ false

-- a test more, that is false
before : (e : ℕ) (ts : List Test) → Clear ts → Clear (test false e ∷ ts)
before e ts g zero = refl
before e ts g (suc k) = g k

-- ---- what holds of an accepted answer
module _ {A : Type 0} (P : Reply → A → Type 0) where
  -- it is to be shown only where no test applies
  pub judged_by : (ts : List Test) (o : Outcome A) → (Clear ts → Accepts P o) → Accepts P (judge ts o)
  unfolding judge Accepts choose
  judged_by [] o h = h (λ k. refl)
  judged_by (test true e ∷ ts) o h = tt
  judged_by (test false e ∷ ts) o h = judged_by ts o (λ g. h (before e ts g))

  pub accepts : (ts : List Test) (r : Reply) (next : A) → (Clear ts → P r next) → Accepts P (judge ts (accept r next))
  unfolding Accepts
  accepts ts r next h = judged_by ts (accept r next) h

  -- of a refusal there is nothing to show
  pub refusal_says : (e : ℕ) → Accepts P (refuse e)
  unfolding Accepts
  refusal_says e = tt

  pub carried : {B : Type 0} (f : B → A) (o : Outcome B) → Accepts (λ r p. P r (f p)) o → Accepts P (onto f o)
  unfolding onto Accepts
  carried f (refuse e) h = tt
  carried f (accept r p) h = h

-- ---- what holds of a refusal's number: of that of every test
abbrev numbers_on : Bool → Bool → Bool
numbers_on true b = b
numbers_on false b = false

abbrev pub numbers_right : (ℕ → Bool) → List Test → Bool
numbers_right right [] = true
numbers_right right (test b e ∷ ts) = numbers_on (right e) (numbers_right right ts)

both_right : (a b : Bool) → numbers_on a b ≡ true → (a ≡ true) × (b ≡ true)
both_right true b h = (refl, h)
both_right false b h = absurd (let z : ◌≡◌ {A = ℕ} 0 1 = cc in omega arith)

module _ {A : Type 0} (right : ℕ → Bool) (o : Outcome A) (h : Refuses (λ e. right e ≡ true) o) where
  pub refuses_behind : (ts : List Test) → numbers_right right ts ≡ true → Refuses (λ e. right e ≡ true) (judge ts o)
  unfolding judge Refuses choose
  refuses_behind [] n = h
  refuses_behind (test true e ∷ ts) n = (both_right (right e) (numbers_right right ts) n).0
  refuses_behind (test false e ∷ ts) n = refuses_behind ts (both_right (right e) (numbers_right right ts) n).1

pub accepts_all : {A : Type 0} (right : ℕ → Bool) (ts : List Test) (r : Reply) (p : A) → numbers_right right ts ≡ true → Refuses (λ e. right e ≡ true) (judge ts (accept r p))
unfolding Refuses
accepts_all right ts r p n = refuses_behind right (accept r p) tt ts n

-- one test more before others
pub refuses_after : {A : Type 0} (right : ℕ → Bool) (b : Bool) (e : ℕ) (ts : List Test) (o : Outcome A) → right e ≡ true → Refuses (λ e. right e ≡ true) (judge ts o)
    → Refuses (λ e. right e ≡ true) (judge (test b e ∷ ts) o)
unfolding judge
refuses_after right b e ts o n h = refuses_behind right (judge ts o) h (test b e ∷ []) (rw n)

pub refuses_onto : {A B : Type 0} (P : ℕ → Type 0) (f : A → B) (o : Outcome A) → Refuses P o → Refuses P (onto f o)
unfolding onto Refuses
refuses_onto P f (refuse e) h = h
refuses_onto P f (accept r p) h = tt

-- whatever is accepted
pub accepts_any : {A : Type 0} (P : Reply → A → Type 0) → ((r : Reply) (p : A) → P r p) → (o : Outcome A) → Accepts P o
unfolding Accepts
accepts_any P h (refuse e) = tt
accepts_any P h (accept r p) = h r p

pub accepts_map : {A : Type 0} (P Q : Reply → A → Type 0) → ((r : Reply) (p : A) → P r p → Q r p) → (o : Outcome A) → Accepts P o → Accepts Q o
unfolding Accepts
accepts_map P Q f (refuse e) h = tt
accepts_map P Q f (accept r p) h = f r p h

pub accepts_both : {A : Type 0} (P Q : Reply → A → Type 0) (o : Outcome A) → Accepts P o → Accepts Q o → Accepts (λ r p. P r p × Q r p) o
unfolding Accepts
accepts_both P Q (refuse e) h g = tt
accepts_both P Q (accept r p) h g = (h, g)

-- ---- tests that two requests share: their number first, then the rest
abbrev numbered_on : Bool → Bool → Bool
numbered_on true b = false
numbered_on false b = b

-- no test has the number 0
abbrev pub numbered : List Test → Bool
numbered [] = true
numbered (test b e ∷ ts) = numbered_on (eqb e 0) (numbered ts)

pub apart : (z r : Bool) → numbered_on z r ≡ true → (z ≡ false) × (r ≡ true)
apart true r h = absurd (let z : ◌≡◌ {A = ℕ} 0 1 = cc in omega arith)
apart false r h = (refl, h)

pub judge_first : {A : Type 0} (ts us : List Test) (o : Outcome A) → numbered ts ≡ true
    → judge (ts ++ us) o ≡ choose (eqb (first ts) 0) (judge us o) (refuse (first ts))
unfolding judge first choose
judge_first [] us o n = refl
judge_first (test true e ∷ ts) us o n = rw (ne_eqb e 0 (eqb-false e 0 (apart (eqb e 0) (numbered ts) n).0))
judge_first (test false e ∷ ts) us o n = judge_first ts us o (apart (eqb e 0) (numbered ts) n).1
