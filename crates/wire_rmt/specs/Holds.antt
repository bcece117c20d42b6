-- What holds of numbers, commands and replies.
use Rattle.std.specs.Prelude.{ℕ, ◌+◌, ◌-◌, ◌≤◌, ◌^◌, ◌<◌, List, ◌∷◌, ◌++◌, ◌≡◌, length, take, drop, replicate, Some, None}
use Rattle.xdr_opaque.specs.Put.{Each}
use Rattle.wire_rmt.specs.Numbers.{number, number_at, decimal, Digit, value_of, Numeral}
use Rattle.wire_rmt.specs.Commands.{rmt_command}
use Rattle.wire_rmt.specs.Replies.{accepted, refused}
use Rattle.wire_rmt.specs.Sent.{Sent, open_path, write_data, command_bytes, Fits, meaning}

-- a number that was read: its digits stand there, with the line feed behind them
pub record NumberThere (l : List ℕ) (at v next : ℕ) : Type 0 where
  pub digits : List ℕ
  pub numeral : Numeral digits
  pub value : v ≡ value_of digits
  pub there : drop at l ≡ digits ++ (10 ∷ drop next l)
  pub end : next ≡ at + length digits + 1

pub record NumbersHold : Type 0 where
  -- digits, and a line feed behind them, are read as the number that they come to
  pub back : (l : List ℕ) (at : ℕ) (ds q : List ℕ) → drop at l ≡ ds ++ (10 ∷ q) → Numeral ds
      → number_at l at ≡ Some (number (value_of ds) (at + length ds + 1))
  -- and nothing else is read
  pub says : (l : List ℕ) (at v next : ℕ) → number_at l at ≡ Some (number v next) → NumberThere l at v next
  -- a number that is written in decimal is a numeral of that value
  pub written : (v : ℕ) → v < 2 ^ 32 → Numeral (decimal v) × (value_of (decimal v) ≡ v)
  -- a number has one spelling of each length
  pub one : (a b : List ℕ) → Each Digit a → Each Digit b → length a ≡ length b → value_of a ≡ value_of b → a ≡ b
  -- which is its decimal, with zeros before it
  pub leading : (ds : List ℕ) → Numeral ds → ds ≡ replicate (length ds - length (decimal (value_of ds))) 48 ++ decimal (value_of ds)

-- bytes that are read are those of a command that fits
pub record Spelled (l : List ℕ) : Type 0 where
  pub sent : Sent
  pub fits : Fits sent
  pub bytes : l ≡ command_bytes sent

pub record CommandsHold : Type 0 where
  -- what is sent is read back
  pub back : (s : Sent) → Fits s → rmt_command (command_bytes s) ≡ Some (meaning s)
  -- and the path and the data lie where the command says
  pub path : (name mode : List ℕ) → take (length name) (drop 1 (command_bytes (open_path name mode))) ≡ name
  pub bytes : (count bytes : List ℕ) → drop (1 + length count + 1) (command_bytes (write_data count bytes)) ≡ bytes
  -- nothing else is read
  pub spelled : (l : List ℕ) → (rmt_command l ≡ None → ⊥) → Spelled l

pub record RepliesHold : Type 0 where
  -- the number of a reply is read back, by the letter behind which it stands; behind its line feed are data or text
  pub accepted_back : (n : ℕ) (bytes : List ℕ) → n < 2 ^ 32
      → number_at (accepted n ++ bytes) 1 ≡ Some (number n (length (accepted n)))
  pub refused_back : (n : ℕ) → n < 2 ^ 32 → number_at (refused n) 1 ≡ Some (number n (1 + length (decimal n) + 1))
  -- the longest of them
  pub accepted_fits : (n : ℕ) → length (accepted n) ≤ 12
