-- The commands of the remote tape protocol, as 001, 4 lays them out, and of them those that 02 No. 5 asks for: "open, close, read, write,
-- and the I operations 0 to 5". "A call is lent one whole command, W with its data", so nothing stands behind it.
use Rattle.std.specs.Prelude.{ℕ, ◌+◌, ◌-◌, List, length, drop, get_or, eqb, leb, Option, Some, None, ◌==◌, position}
use Rattle.codes.specs.Codes.{write_marks, forward_files, back_files, forward_records, back_records, rewind_tape}
use Rattle.xdr.specs.Choose.{choose}
use Rattle.wire_layouts.specs.Layout.{place}
use Rattle.wire_rmt.specs.declared.Number.{Number}
use Rattle.wire_rmt.specs.declared.Command.{Command}
use Rattle.wire_rmt.specs.Numbers.{line_feed, number_at}

-- `O`, `C`, `R`, `W` and `I`
abbrev pub open_letter : ℕ
open_letter = 79

abbrev pub close_letter : ℕ
close_letter = 67

abbrev pub read_letter : ℕ
read_letter = 82

abbrev pub write_letter : ℕ
write_letter = 87

abbrev pub operate_letter : ℕ
operate_letter = 73

-- "the I operations 0 to 5"
abbrev pub last_operation : ℕ
last_operation = 5

-- how many bytes stand between the letter and the first line feed behind it, if there is one
unfoldable pub path_length : List ℕ → Option ℕ
path_length l = position (λ b. b == line_feed) (drop 1 l)

-- a number that ends the command
unfoldable pub at_end : ℕ → Option Number → Option ℕ
at_end size (Some n) = choose (eqb n.next size) (Some n.value) None
at_end size None = None

unfoldable pub last_number : List ℕ → ℕ → Option ℕ
last_number l at = at_end (length l) (number_at l at)

-- ---- "O<pathname>\n<mode>\n"
unfoldable pub opened : ℕ → Option ℕ → Option Command
opened len (Some mode) = Some (Command.Open (place 1 len) mode)
opened len None = None

unfoldable pub open_behind : List ℕ → Option ℕ → Option Command
open_behind l (Some len) = opened len (last_number l (len + 2))
open_behind l None = None

unfoldable pub open_in : List ℕ → Option Command
open_in l = open_behind l (path_length l)

-- ---- "C<pathname>\n": "The <pathname> argument is required, but currently ignored"; it may be empty
unfoldable pub close_behind : List ℕ → Option ℕ → Option Command
close_behind l (Some len) = choose (eqb (len + 2) (length l)) (Some Command.Close) None
close_behind l None = None

unfoldable pub close_in : List ℕ → Option Command
close_in l = close_behind l (path_length l)

-- ---- "R<count>\n"
unfoldable pub reading : Option ℕ → Option Command
reading (Some count) = Some (Command.Read count)
reading None = None

unfoldable pub read_in : List ℕ → Option Command
read_in l = reading (last_number l 1)

-- ---- "W<count>\n<data>": "The bytes of <data> to be written are sent immediately after the newline", as many as the count says
unfoldable pub writing : ℕ → Option Number → Option Command
writing size (Some n) = choose (eqb (size - n.next) n.value) (Some (Command.Write (place n.next n.value))) None
writing size None = None

unfoldable pub write_in : List ℕ → Option Command
write_in l = writing (length l) (number_at l 1)

-- ---- "I<operation>\n<count>\n"; a rewind's count is a number too, and "is ignored"
unfoldable pub operating : ℕ → Option ℕ → Option Command
operating op (Some count) = Some (Command.Operate op count)
operating op None = None

unfoldable pub operation : List ℕ → Option Number → Option Command
operation l (Some n) = choose (leb n.value last_operation) (operating n.value (last_number l n.next)) None
operation l None = None

unfoldable pub operate_in : List ℕ → Option Command
operate_in l = operation l (number_at l 1)

-- ---- a command: "simple one-letter ASCII commands". L, S and every other letter are none (E22), as is no byte at all
unfoldable pub rmt_command : List ℕ → Option Command
rmt_command l =
    choose (eqb (get_or l 0 0) open_letter) (open_in l)
    (choose (eqb (get_or l 0 0) close_letter) (close_in l)
    (choose (eqb (get_or l 0 0) read_letter) (read_in l)
    (choose (eqb (get_or l 0 0) write_letter) (write_in l)
    (choose (eqb (get_or l 0 0) operate_letter) (operate_in l)
    None))))

-- ---- what they are to NDMP
-- 001: "0 Read-Only, 1 Write-Only, 2 Read-and-Write"; 02: "Open modes 1 and 2 both are NDMP's 1". NDMP's rules refuse 2 and more, so
-- a mode from 3 on stays what it is, and is refused there.
unfoldable pub tape_mode : ℕ → ℕ
tape_mode mode = choose (eqb mode 2) 1 mode

-- 001: 0 "Write <count> EOF marks", 1 "Forward space over <count> EOF marks", 2 "Space backwards over <count> EOF marks",
-- 3 "Forward space over <count> records", 4 "Space backwards over <count> records", 5 "Rewind". A command has no other.
unfoldable pub mtio_of : ℕ → ℕ
mtio_of op =
    choose (eqb op 0) write_marks
    (choose (eqb op 1) forward_files
    (choose (eqb op 2) back_files
    (choose (eqb op 3) forward_records
    (choose (eqb op 4) back_records
    rewind_tape))))
