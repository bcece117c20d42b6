-- Commands a second time, by what a client has to say: their bytes, and what they are to be read as.
use Rattle.std.specs.Prelude.{ℕ, ◌+◌, ◌≤◌, List, [], ◌∷◌, ◌++◌, ◌≡◌, length}
use Rattle.xdr_opaque.specs.Put.{Each}
use Rattle.wire_layouts.specs.Layout.{place}
use Rattle.wire_rmt.specs.declared.Command.{Command}
use Rattle.wire_rmt.specs.Numbers.{value_of, Numeral}

-- a path, data, and numbers by their digits
pub data Sent : Type 0 where
  open_path : List ℕ → List ℕ → Sent
  close_path : List ℕ → Sent
  read_count : List ℕ → Sent
  write_data : List ℕ → List ℕ → Sent
  operate_count : List ℕ → List ℕ → Sent

-- "O<pathname>\n<mode>\n", "C<pathname>\n", "R<count>\n", "W<count>\n<data>", "I<operation>\n<count>\n"
unfoldable pub command_bytes : Sent → List ℕ
command_bytes (open_path name mode) = 79 ∷ (name ++ (10 ∷ (mode ++ (10 ∷ []))))
command_bytes (close_path name) = 67 ∷ (name ++ (10 ∷ []))
command_bytes (read_count count) = 82 ∷ (count ++ (10 ∷ []))
command_bytes (write_data count bytes) = 87 ∷ (count ++ (10 ∷ bytes))
command_bytes (operate_count op count) = 73 ∷ (op ++ (10 ∷ (count ++ (10 ∷ []))))

-- no line feed
abbrev pub OneLine : List ℕ → Type 0
OneLine name = Each (λ (b : ℕ). b ≡ 10 → ⊥) name

-- what 02 has read
unfoldable pub Fits : Sent → Type 0
Fits (open_path name mode) = OneLine name × Numeral mode
Fits (close_path name) = OneLine name
Fits (read_count count) = Numeral count
Fits (write_data count bytes) = Numeral count × (length bytes ≡ value_of count)
Fits (operate_count op count) = Numeral op × Numeral count × (value_of op ≤ 5)

-- a path begins behind the letter, data behind the count and its line feed
unfoldable pub meaning : Sent → Command
meaning (open_path name mode) = Command.Open (place 1 (length name)) (value_of mode)
meaning (close_path name) = Command.Close
meaning (read_count count) = Command.Read (value_of count)
meaning (write_data count bytes) = Command.Write (place (1 + length count + 1) (value_of count))
meaning (operate_count op count) = Command.Operate (value_of op) (value_of count)
