-- How a request is judged: a list of tests with their numbers, in the order of paper 01's table of refusals. "The first that applies is given."
use Rattle.std.specs.Prelude.{ℕ, Bool, true, false, List, [], ◌∷◌}
use Rattle.xdr.specs.Choose.{choose}
use Rattle.wire_replies.specs.declared.Reply.{Reply}

pub data Test : Type 0 where
  test : Bool → ℕ → Test

-- what a request comes to: a refusal, which is a number and nothing else, or a reply and the part of the session after it
pub data Outcome (A : Type 0) : Type 0 where
  refuse : ℕ → Outcome A
  accept : Reply → A → Outcome A

-- an outcome behind its tests
unfoldable pub judge : {A : Type 0} → List Test → Outcome A → Outcome A
judge [] o = o
judge (test b e ∷ ts) o = choose b (refuse e) (judge ts o)

-- the number of the first test that applies, or 0: for tests that two requests share
unfoldable pub first : List Test → ℕ
first [] = 0
first (test b e ∷ ts) = choose b e (first ts)

-- the outcome of a larger part, from that of a part of it
unfoldable pub onto : {A B : Type 0} → (A → B) → Outcome A → Outcome B
onto f (refuse e) = refuse e
onto f (accept r p) = accept r (f p)

unfoldable pub is_accepted : {A : Type 0} → Outcome A → Bool
is_accepted (refuse e) = false
is_accepted (accept r p) = true

-- what holds of the number, where the request is refused
unfoldable pub Refuses : {A : Type 0} → (ℕ → Type 0) → Outcome A → Type 0
Refuses P (refuse e) = P e
Refuses P (accept r p) = Unit

-- what holds of the reply and the next part, where the request is accepted
unfoldable pub Accepts : {A : Type 0} → (Reply → A → Type 0) → Outcome A → Type 0
Accepts P (refuse e) = Unit
Accepts P (accept r p) = P r p
