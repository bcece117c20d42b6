-- Numbers of the remote tape protocol (02 No. 5): "Decimal numbers are one to ten digits, at most 4,294,967,295". 001, 4: each is "ASCII
-- decimal", with a line feed behind it. Leading zeros are digits like others; a sign or a blank is none.
use Rattle.std.specs.Prelude.{ℕ, zero, suc, ◌+◌, ◌-◌, ◌*◌, ◌/◌, ◌%◌, ◌≤◌, Bool, false, List, [], ◌∷◌, length, get_or, eqb, leb, ltb, Option, Some, None}
use Rattle.xdr.specs.Choose.{choose}
use Rattle.xdr_opaque.specs.Put.{Each}
use Rattle.wire_rmt.specs.declared.Number.{Number}

-- "one to ten digits"
abbrev pub most_digits : ℕ
most_digits = 10

-- "at most 4,294,967,295"
abbrev pub most_number : ℕ
most_number = 4294967295

-- "an ASCII LineFeed (LF, code 10 (decimal))"
abbrev pub line_feed : ℕ
line_feed = 10

-- ---- read
-- a number, and the offset behind its line feed
abbrev pub number : ℕ → ℕ → Number
number v next = record { value = v; next = next }

-- `0` to `9`
unfoldable pub is_digit : ℕ → Bool
is_digit b = choose (leb 48 b) (leb b 57) false

-- the line feed behind the last digit; past the end there is no byte, which is 0 here and no line feed
unfoldable pub ending : ℕ → List ℕ → ℕ → Option Number
ending v l i = choose (eqb (get_or l i 0) line_feed) (Some (number v (i + 1))) None

-- up to n digits more, behind those that make v
unfoldable pub digits_on : ℕ → ℕ → List ℕ → ℕ → Option Number
digits_on zero v l i = ending v l i
digits_on (suc n) v l i =
    choose (is_digit (get_or l i 0))
    (choose (ltb most_number (v * 10 + (get_or l i 0 - 48))) None (digits_on n (v * 10 + (get_or l i 0 - 48)) l (i + 1)))
    (ending v l i)

-- the number at an offset, and the offset behind its line feed
unfoldable pub number_at : List ℕ → ℕ → Option Number
number_at l at = choose (is_digit (get_or l at 0)) (digits_on most_digits 0 l at) None

-- ---- written
-- the last n digits of v, before others
unfoldable pub last_digits : ℕ → ℕ → List ℕ → List ℕ
last_digits zero v ds = ds
last_digits (suc n) v ds = last_digits n (v / 10) ((48 + v % 10) ∷ ds)

-- how many digits v has, of at most k + 1
unfoldable pub count_on : ℕ → ℕ → ℕ
count_on zero v = 1
count_on (suc k) v = choose (ltb v 10) 1 (count_on k (v / 10) + 1)

abbrev pub digit_count : ℕ → ℕ
digit_count v = count_on 9 v

-- a number in decimal, without leading zeros
unfoldable pub decimal : ℕ → List ℕ
decimal v = last_digits (digit_count v) v []

-- ---- a second time, as whoever reads digits takes them
abbrev pub Digit : ℕ → Type 0
Digit d = (48 ≤ d) × (d ≤ 57)

-- what digits come to, behind those that make v
unfoldable pub value_from : ℕ → List ℕ → ℕ
value_from v [] = v
value_from v (d ∷ ds) = value_from (v * 10 + (d - 48)) ds

abbrev pub value_of : List ℕ → ℕ
value_of ds = value_from 0 ds

-- what 02 calls a decimal number
pub record Numeral (ds : List ℕ) : Type 0 where
  pub digits : Each Digit ds
  pub some : 1 ≤ length ds
  pub few : length ds ≤ 10
  pub fits : value_of ds ≤ 4294967295
