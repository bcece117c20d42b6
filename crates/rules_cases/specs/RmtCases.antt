-- Commands of the remote tape protocol at work (02 No. 5): sessions with every command and its whole reply written out, byte for byte, from 001's layouts and
-- the table of texts in docs/; and all that is passed on at the end.
use Rattle.std.specs.Prelude.{ℕ, ◌+◌, Bool, true, false, List, [], ◌∷◌, ◌++◌, ◌≡◌, replicate}
use Rattle.rules_parts.specs.declared.types.Tape.{Tape}
use Rattle.rules_parts.specs.declared.types.Mover.{Mover}
use Rattle.rules_parts.specs.declared.types.Session.{Session}
use Rattle.rules_parts.specs.Parts.{closed_tape, shut}
use Rattle.rules.specs.Answer.{Kept, held, silent}
use Rattle.rules.specs.Rmt.{commanded}
use Rattle.rules_moves.specs.Cases.{CaseLine, Insert, Shown, shows, World, Ran, calling, run_line, no_variables, fresh_session, known_session, next_number, begins, expect, says}
use Rattle.rules_moves.specs.Cases.{one_cartridge, size_line, window_line, mtio, listen, tape_is, rew, cartridge}
use Rattle.rules_cases.specs.ChangerCases.{with_slots, doubled, empty}

-- ---- a line: what goes in, and what comes of it
pub data RmtLine : Type 0 where
  -- a command, and its whole reply
  Says : List ℕ → List ℕ → RmtLine
  -- a line of the other cases, and how many messages it sends
  Does : ℕ → CaseLine → RmtLine

pub record RmtFinal : Type 0 where
  pub shown : List Shown
  pub kept : Kept

-- ---- what the definitions give, with an output of 36,864 bytes
unfoldable pub run_rmt : World → RmtLine → Ran
run_rmt w (Says c reply) = calling w (commanded w.kept 36864 c)
run_rmt w (Does n l) = run_line w l

unfoldable pub run_rmts : World → List RmtLine → RmtFinal
run_rmts w [] = record { shown = []; kept = w.kept }
run_rmts w (l ∷ ls) =
    let n = run_rmt w l in
    let f = run_rmts n.world ls in
    record { shown = n.shown ∷ f.shown; kept = f.kept }

-- ---- what they should give: n is the next number. A command takes none
unfoldable pub expect_rmts : ℕ → List RmtLine → List Shown
expect_rmts n [] = []
expect_rmts n (Says c reply ∷ ls) = shows reply 0 [] ∷ expect_rmts n ls
expect_rmts n (Does sent l ∷ ls) = expect n (l ∷ []) ++ expect_rmts (n + sent) ls

abbrev pub wanted_rmts : ℕ → List RmtLine → Kept → RmtFinal
wanted_rmts n ls k = record { shown = expect_rmts n ls; kept = k }

-- ---- replies
-- `A0\n`: "open, close and I reply `A0`"
abbrev pub done : List ℕ
done = 65 ∷ 48 ∷ 10 ∷ []

-- `E5\nI/O error\n`: "E5 for every other"
abbrev pub io_error : List ℕ
io_error = 69 ∷ 53 ∷ 10 ∷ 73 ∷ 47 ∷ 79 ∷ 32 ∷ 101 ∷ 114 ∷ 114 ∷ 111 ∷ 114 ∷ 10 ∷ []

-- `E6\nNo such device or address\n`: "no device (6, 16)"
abbrev pub no_device : List ℕ
no_device =
    69 ∷ 54 ∷ 10 ∷ 78 ∷ 111 ∷ 32 ∷ 115 ∷ 117 ∷ 99 ∷ 104 ∷ 32 ∷ 100 ∷ 101 ∷ 118 ∷ 105 ∷ 99 ∷ 101 ∷ 32 ∷ 111 ∷ 114 ∷ 32 ∷ 97 ∷ 100 ∷ 100 ∷ 114 ∷ 101 ∷ 115 ∷ 115 ∷ 10 ∷ []

-- `E22\nInvalid argument\n`: "what does not read so, other I operations, L and every other command, in 18's place, and for 9"
abbrev pub invalid : List ℕ
invalid = 69 ∷ 50 ∷ 50 ∷ 10 ∷ 73 ∷ 110 ∷ 118 ∷ 97 ∷ 108 ∷ 105 ∷ 100 ∷ 32 ∷ 97 ∷ 114 ∷ 103 ∷ 117 ∷ 109 ∷ 101 ∷ 110 ∷ 116 ∷ 10 ∷ []

-- ---- cartridges: C 4, B 12, nothing written; then `HELLO`, `abc`, a mark
abbrev pub blank_tape : List ℕ
blank_tape = cartridge (1 ∷ 4 ∷ 0 ∷ 0 ∷ replicate 8 0) (replicate 12 0xEE)

abbrev pub written_tape : List ℕ
written_tape =
    cartridge (1 ∷ 4 ∷ 3 ∷ 8 ∷ 5 ∷ 0 ∷ 3 ∷ 5 ∷ 0 ∷ 8 ∷ 0 ∷ 0 ∷ []) ((72 ∷ 69 ∷ 76 ∷ 76 ∷ 79 ∷ 97 ∷ 98 ∷ 99 ∷ []) ++ replicate 4 0xEE)

-- one record, `abcd`; "Old entries and bytes past the end stay"
abbrev pub cut_tape : List ℕ
cut_tape = cartridge (1 ∷ 4 ∷ 1 ∷ 4 ∷ 4 ∷ 0 ∷ 3 ∷ 5 ∷ 0 ∷ 8 ∷ 0 ∷ 0 ∷ []) ((97 ∷ 98 ∷ 99 ∷ 100 ∷ 79 ∷ 97 ∷ 98 ∷ 99 ∷ []) ++ replicate 4 0xEE)

-- the record `abcd`; and the same with another first word, which is not sound
abbrev pub headed_by : ℕ → List ℕ
headed_by first = cartridge (first ∷ 4 ∷ 1 ∷ 4 ∷ 4 ∷ 0 ∷ replicate 6 0) ((97 ∷ 98 ∷ 99 ∷ 100 ∷ []) ++ replicate 8 0xEE)

abbrev pub one_record : List ℕ
one_record = headed_by 1

abbrev pub unsound : List ℕ
unsound = headed_by 2

abbrev pub tape_at : Bool → ℕ → Tape
tape_at writable position = record { opened = true; writable = writable; position = position }

-- ---- at work
-- Two records and a mark. "length 0 changes nothing"; "no room: 13, nothing cut"; of marks too
abbrev pub write_lines : List RmtLine
write_lines =
    -- `Otape0\n1\n`
    Says (79 ∷ 116 ∷ 97 ∷ 112 ∷ 101 ∷ 48 ∷ 10 ∷ 49 ∷ 10 ∷ []) done
    -- `W5\nHELLO`, `A5\n`
    ∷ Says (87 ∷ 53 ∷ 10 ∷ 72 ∷ 69 ∷ 76 ∷ 76 ∷ 79 ∷ []) (65 ∷ 53 ∷ 10 ∷ [])
    -- `W003\nabc`, `A3\n`
    ∷ Says (87 ∷ 48 ∷ 48 ∷ 51 ∷ 10 ∷ 97 ∷ 98 ∷ 99 ∷ []) (65 ∷ 51 ∷ 10 ∷ [])
    -- `I0\n1\n`
    ∷ Says (73 ∷ 48 ∷ 10 ∷ 49 ∷ 10 ∷ []) done
    -- `W0\n`
    ∷ Says (87 ∷ 48 ∷ 10 ∷ []) done
    -- `W5\nLATER`: 8 bytes are used, of 12
    ∷ Says (87 ∷ 53 ∷ 10 ∷ 76 ∷ 65 ∷ 84 ∷ 69 ∷ 82 ∷ []) io_error
    -- `I0\n2\n`: one entry is left
    ∷ Says (73 ∷ 48 ∷ 10 ∷ 50 ∷ 10 ∷ []) io_error
    -- `I0\n0\n`
    ∷ Says (73 ∷ 48 ∷ 10 ∷ 48 ∷ 10 ∷ []) done
    ∷ []

-- Read and spaced, the tape at 3. "a record gives its first count bytes and is passed; a mark is passed with 12; the end gives 13"; "FSF stops after the
-- count-th mark, BSF before it; at an end 13. FSR and BSR pass records; a mark is passed, ends the walk with 12 and is not counted; at an end 13"
abbrev pub read_lines : List RmtLine
read_lines =
    -- `I5\n9\n`
    Says (73 ∷ 53 ∷ 10 ∷ 57 ∷ 10 ∷ []) done
    -- `R10\n`, `A5\nHELLO`
    ∷ Says (82 ∷ 49 ∷ 48 ∷ 10 ∷ []) (65 ∷ 53 ∷ 10 ∷ 72 ∷ 69 ∷ 76 ∷ 76 ∷ 79 ∷ [])
    -- `R2\n`, `A2\nab`
    ∷ Says (82 ∷ 50 ∷ 10 ∷ []) (65 ∷ 50 ∷ 10 ∷ 97 ∷ 98 ∷ [])
    -- `R5\n`: at the mark, which is passed
    ∷ Says (82 ∷ 53 ∷ 10 ∷ []) io_error
    -- `R5\n`: at the end
    ∷ Says (82 ∷ 53 ∷ 10 ∷ []) io_error
    -- `R0\n`
    ∷ Says (82 ∷ 48 ∷ 10 ∷ []) done
    -- `I2\n1\n`: before the mark
    ∷ Says (73 ∷ 50 ∷ 10 ∷ 49 ∷ 10 ∷ []) done
    -- `I4\n1\n`
    ∷ Says (73 ∷ 52 ∷ 10 ∷ 49 ∷ 10 ∷ []) done
    -- `R4\n`, `A3\nabc`
    ∷ Says (82 ∷ 52 ∷ 10 ∷ []) (65 ∷ 51 ∷ 10 ∷ 97 ∷ 98 ∷ 99 ∷ [])
    -- `I3\n1\n`: over the mark
    ∷ Says (73 ∷ 51 ∷ 10 ∷ 49 ∷ 10 ∷ []) io_error
    -- `I4\n1\n`: back over the mark
    ∷ Says (73 ∷ 52 ∷ 10 ∷ 49 ∷ 10 ∷ []) io_error
    -- `I4\n2\n`: at the start
    ∷ Says (73 ∷ 52 ∷ 10 ∷ 50 ∷ 10 ∷ []) done
    -- `I4\n1\n`
    ∷ Says (73 ∷ 52 ∷ 10 ∷ 49 ∷ 10 ∷ []) io_error
    -- `I3\n1\n`
    ∷ Says (73 ∷ 51 ∷ 10 ∷ 49 ∷ 10 ∷ []) done
    -- `R32768\n`, `A3\nabc`
    ∷ Says (82 ∷ 51 ∷ 50 ∷ 55 ∷ 54 ∷ 56 ∷ 10 ∷ []) (65 ∷ 51 ∷ 10 ∷ 97 ∷ 98 ∷ 99 ∷ [])
    -- `I05\n4294967295\n`
    ∷ Says (73 ∷ 48 ∷ 53 ∷ 10 ∷ 52 ∷ 50 ∷ 57 ∷ 52 ∷ 57 ∷ 54 ∷ 55 ∷ 50 ∷ 57 ∷ 53 ∷ 10 ∷ []) done
    -- `I1\n0000000001\n`: after the mark
    ∷ Says (73 ∷ 49 ∷ 10 ∷ 48 ∷ 48 ∷ 48 ∷ 48 ∷ 48 ∷ 48 ∷ 48 ∷ 48 ∷ 48 ∷ 49 ∷ 10 ∷ []) done
    -- `I1\n1\n`
    ∷ Says (73 ∷ 49 ∷ 10 ∷ 49 ∷ 10 ∷ []) io_error
    -- `I2\n2\n`: at the start, with one mark passed
    ∷ Says (73 ∷ 50 ∷ 10 ∷ 50 ∷ 10 ∷ []) io_error
    -- `R1\n`, `A1\nH`
    ∷ Says (82 ∷ 49 ∷ 10 ∷ []) (65 ∷ 49 ∷ 10 ∷ 72 ∷ [])
    ∷ []

abbrev pub close_lines : List RmtLine
close_lines =
    -- `Ctape9\n`: "required, but currently ignored"
    Says (67 ∷ 116 ∷ 97 ∷ 112 ∷ 101 ∷ 57 ∷ 10 ∷ []) done
    -- `C\n`
    ∷ Says (67 ∷ 10 ∷ []) no_device
    ∷ []

-- ---- refused
-- In 18's place, with no tape open, before 6; 9 before 16 before 3; "read-only: write, MTIO 5"
abbrev pub refused_lines : List RmtLine
refused_lines =
    -- `R1\n`
    Says (82 ∷ 49 ∷ 10 ∷ []) no_device
    -- `W1\nx`
    ∷ Says (87 ∷ 49 ∷ 10 ∷ 120 ∷ []) no_device
    -- `I5\n0\n`
    ∷ Says (73 ∷ 53 ∷ 10 ∷ 48 ∷ 10 ∷ []) no_device
    -- `C\n`
    ∷ Says (67 ∷ 10 ∷ []) no_device
    -- `R32769\n`: 6 before 9
    ∷ Says (82 ∷ 51 ∷ 50 ∷ 55 ∷ 54 ∷ 57 ∷ 10 ∷ []) no_device
    -- nothing at all
    ∷ Says [] invalid
    -- `X\n`
    ∷ Says (88 ∷ 10 ∷ []) invalid
    -- `S\n`
    ∷ Says (83 ∷ 10 ∷ []) invalid
    -- `L0\n0\n`
    ∷ Says (76 ∷ 48 ∷ 10 ∷ 48 ∷ 10 ∷ []) invalid
    -- `I6\n0\n`
    ∷ Says (73 ∷ 54 ∷ 10 ∷ 48 ∷ 10 ∷ []) invalid
    -- `W2\nabc`: one byte too many
    ∷ Says (87 ∷ 50 ∷ 10 ∷ 97 ∷ 98 ∷ 99 ∷ []) invalid
    -- `W4\nabc`: one too few
    ∷ Says (87 ∷ 52 ∷ 10 ∷ 97 ∷ 98 ∷ 99 ∷ []) invalid
    -- `R1`
    ∷ Says (82 ∷ 49 ∷ []) invalid
    -- `R1\n\n`
    ∷ Says (82 ∷ 49 ∷ 10 ∷ 10 ∷ []) invalid
    -- `R+1\n`
    ∷ Says (82 ∷ 43 ∷ 49 ∷ 10 ∷ []) invalid
    -- `R\n`
    ∷ Says (82 ∷ 10 ∷ []) invalid
    -- `R00000000001\n`: eleven digits
    ∷ Says (82 ∷ 48 ∷ 48 ∷ 48 ∷ 48 ∷ 48 ∷ 48 ∷ 48 ∷ 48 ∷ 48 ∷ 48 ∷ 49 ∷ 10 ∷ []) invalid
    -- `R4294967296\n`
    ∷ Says (82 ∷ 52 ∷ 50 ∷ 57 ∷ 52 ∷ 57 ∷ 54 ∷ 55 ∷ 50 ∷ 57 ∷ 54 ∷ 10 ∷ []) invalid
    -- `Otape0\n3\n`
    ∷ Says (79 ∷ 116 ∷ 97 ∷ 112 ∷ 101 ∷ 48 ∷ 10 ∷ 51 ∷ 10 ∷ []) invalid
    -- `Otape1\n3\n`
    ∷ Says (79 ∷ 116 ∷ 97 ∷ 112 ∷ 101 ∷ 49 ∷ 10 ∷ 51 ∷ 10 ∷ []) invalid
    -- `Otape1\n0\n`
    ∷ Says (79 ∷ 116 ∷ 97 ∷ 112 ∷ 101 ∷ 49 ∷ 10 ∷ 48 ∷ 10 ∷ []) no_device
    -- `O/dev/tape0\n0\n`
    ∷ Says (79 ∷ 47 ∷ 100 ∷ 101 ∷ 118 ∷ 47 ∷ 116 ∷ 97 ∷ 112 ∷ 101 ∷ 48 ∷ 10 ∷ 48 ∷ 10 ∷ []) no_device
    -- `O\n0\n`
    ∷ Says (79 ∷ 10 ∷ 48 ∷ 10 ∷ []) no_device
    -- `Otape0\n`: no mode
    ∷ Says (79 ∷ 116 ∷ 97 ∷ 112 ∷ 101 ∷ 48 ∷ 10 ∷ []) invalid
    -- `Otape0\n0\n`
    ∷ Says (79 ∷ 116 ∷ 97 ∷ 112 ∷ 101 ∷ 48 ∷ 10 ∷ 48 ∷ 10 ∷ []) done
    -- `Otape0\n0\n`: 3
    ∷ Says (79 ∷ 116 ∷ 97 ∷ 112 ∷ 101 ∷ 48 ∷ 10 ∷ 48 ∷ 10 ∷ []) io_error
    -- `Otape1\n0\n`
    ∷ Says (79 ∷ 116 ∷ 97 ∷ 112 ∷ 101 ∷ 49 ∷ 10 ∷ 48 ∷ 10 ∷ []) no_device
    -- `Otape0\n4\n`
    ∷ Says (79 ∷ 116 ∷ 97 ∷ 112 ∷ 101 ∷ 48 ∷ 10 ∷ 52 ∷ 10 ∷ []) invalid
    -- `W1\nx`: 5
    ∷ Says (87 ∷ 49 ∷ 10 ∷ 120 ∷ []) io_error
    -- `I0\n1\n`: 5
    ∷ Says (73 ∷ 48 ∷ 10 ∷ 49 ∷ 10 ∷ []) io_error
    -- `I0\n0\n`: 5
    ∷ Says (73 ∷ 48 ∷ 10 ∷ 48 ∷ 10 ∷ []) io_error
    -- `R32769\n`
    ∷ Says (82 ∷ 51 ∷ 50 ∷ 55 ∷ 54 ∷ 57 ∷ 10 ∷ []) invalid
    -- `R3\n`, `A3\nHEL`
    ∷ Says (82 ∷ 51 ∷ 10 ∷ []) (65 ∷ 51 ∷ 10 ∷ 72 ∷ 69 ∷ 76 ∷ [])
    ∷ []

-- "Open modes 1 and 2 both are NDMP's 1"; the cartridge is cut where it is written
abbrev pub reopen_lines : List RmtLine
reopen_lines =
    -- `Ctape0\n`
    Says (67 ∷ 116 ∷ 97 ∷ 112 ∷ 101 ∷ 48 ∷ 10 ∷ []) done
    -- `Otape0\n2\n`
    ∷ Says (79 ∷ 116 ∷ 97 ∷ 112 ∷ 101 ∷ 48 ∷ 10 ∷ 50 ∷ 10 ∷ []) done
    -- `W4\nabcd`, `A4\n`
    ∷ Says (87 ∷ 52 ∷ 10 ∷ 97 ∷ 98 ∷ 99 ∷ 100 ∷ []) (65 ∷ 52 ∷ 10 ∷ [])
    ∷ []

-- ---- beside records
-- A tape that a command opens is open for records, and the other way round; a cartridge that is not sound is 15 at open and 7 later; and 19 while the mover
-- is in LISTEN, behind 18 and 6, before 5 and 9
abbrev pub beside_lines : List RmtLine
beside_lines =
    -- `Otape0\n1\n`
    Says (79 ∷ 116 ∷ 97 ∷ 112 ∷ 101 ∷ 48 ∷ 10 ∷ 49 ∷ 10 ∷ []) done
    -- `W4\nabcd`, `A4\n`
    ∷ Says (87 ∷ 52 ∷ 10 ∷ 97 ∷ 98 ∷ 99 ∷ 100 ∷ []) (65 ∷ 52 ∷ 10 ∷ [])
    -- tape get state: file 0, block 1
    ∷ Does 1 (tape_is 0 1)
    ∷ Does 1 (mtio rew 1 0 0)
    -- `R9\n`, `A4\nabcd`
    ∷ Says (82 ∷ 57 ∷ 10 ∷ []) (65 ∷ 52 ∷ 10 ∷ 97 ∷ 98 ∷ 99 ∷ 100 ∷ [])
    -- 3 at tape open
    ∷ Does 1 (says 0x300 (5 ∷ 0x7461_7065 ∷ 0x3000_0000 ∷ 1 ∷ []) 3)
    ∷ Does 0 (Insert one_record unsound)
    -- `R4\n`: 7
    ∷ Says (82 ∷ 52 ∷ 10 ∷ []) io_error
    -- `I5\n0\n`: 7
    ∷ Says (73 ∷ 53 ∷ 10 ∷ 48 ∷ 10 ∷ []) io_error
    -- `C\n`
    ∷ Says (67 ∷ 10 ∷ []) done
    -- `Otape0\n0\n`: 15
    ∷ Says (79 ∷ 116 ∷ 97 ∷ 112 ∷ 101 ∷ 48 ∷ 10 ∷ 48 ∷ 10 ∷ []) io_error
    ∷ Does 0 (Insert unsound one_record)
    ∷ Does 1 (says 0x300 (5 ∷ 0x7461_7065 ∷ 0x3000_0000 ∷ 1 ∷ []) 0)
    -- `I3\n1\n`
    ∷ Says (73 ∷ 51 ∷ 10 ∷ 49 ∷ 10 ∷ []) done
    ∷ Does 1 (size_line 4)
    ∷ Does 1 (window_line 0 4 0)
    ∷ Does 1 (listen 0 0)
    -- `R4\n`: 19
    ∷ Says (82 ∷ 52 ∷ 10 ∷ []) io_error
    -- `W4\nabcd`
    ∷ Says (87 ∷ 52 ∷ 10 ∷ 97 ∷ 98 ∷ 99 ∷ 100 ∷ []) io_error
    -- `I5\n0\n`
    ∷ Says (73 ∷ 53 ∷ 10 ∷ 48 ∷ 10 ∷ []) io_error
    -- `C\n`
    ∷ Says (67 ∷ 10 ∷ []) io_error
    -- `R32769\n`
    ∷ Says (82 ∷ 51 ∷ 50 ∷ 55 ∷ 54 ∷ 57 ∷ 10 ∷ []) io_error
    -- `Otape0\n1\n`: 3
    ∷ Says (79 ∷ 116 ∷ 97 ∷ 112 ∷ 101 ∷ 48 ∷ 10 ∷ 49 ∷ 10 ∷ []) io_error
    -- `I6\n0\n`
    ∷ Says (73 ∷ 54 ∷ 10 ∷ 48 ∷ 10 ∷ []) invalid
    ∷ []

-- the mover in LISTEN, to tape: record size 4, window (0, 4)
abbrev pub in_listen : Mover
in_listen =
    record { state = 1; mode = 0; pause = 0; halt = 0; size = 4; address = 0; offset = 0; length = 4; moved = 0; seek = 0; left = 0; origin = 0 }

-- seven replies were sent, from number 5 on
abbrev pub beside_session : Session
beside_session =
    let s = known_session in
    record { closed = false; first = false; login = s.login; sequence = 12; source = s.source; mover = in_listen; tape = tape_at true 1; changer = s.changer }

-- ---- before a login
-- 4, which is E5, before 6, 9, 16; but E22 in 18's place comes before it
abbrev pub stranger_lines : List RmtLine
stranger_lines =
    -- `Otape0\n1\n`
    Says (79 ∷ 116 ∷ 97 ∷ 112 ∷ 101 ∷ 48 ∷ 10 ∷ 49 ∷ 10 ∷ []) io_error
    -- `R1\n`
    ∷ Says (82 ∷ 49 ∷ 10 ∷ []) io_error
    -- `Otape0\n3\n`
    ∷ Says (79 ∷ 116 ∷ 97 ∷ 112 ∷ 101 ∷ 48 ∷ 10 ∷ 51 ∷ 10 ∷ []) io_error
    -- `Otape1\n0\n`
    ∷ Says (79 ∷ 116 ∷ 97 ∷ 112 ∷ 101 ∷ 49 ∷ 10 ∷ 48 ∷ 10 ∷ []) io_error
    -- `R32769\n`
    ∷ Says (82 ∷ 51 ∷ 50 ∷ 55 ∷ 54 ∷ 57 ∷ 10 ∷ []) io_error
    -- `C\n`
    ∷ Says (67 ∷ 10 ∷ []) io_error
    -- `I6\n0\n`
    ∷ Says (73 ∷ 54 ∷ 10 ∷ 48 ∷ 10 ∷ []) invalid
    -- `X\n`
    ∷ Says (88 ∷ 10 ∷ []) invalid
    -- `W2\nabc`
    ∷ Says (87 ∷ 50 ∷ 10 ∷ 97 ∷ 98 ∷ 99 ∷ []) invalid
    -- nothing at all
    ∷ Says [] invalid
    ∷ []

-- "leaves the first-request mark": CONNECT open is accepted behind them, as number 2
abbrev pub first_lines : List RmtLine
first_lines =
    Does 1 (says 0x900 (4 ∷ []) 0)
    -- `R1\n`
    ∷ Says (82 ∷ 49 ∷ 10 ∷ []) io_error
    ∷ []

-- a session whose one request was CONNECT open
abbrev pub connected : Session
connected =
    let s = known_session in
    record {
      closed = false;
      first = false;
      login = record { authorized = false; challenged = false; challenge = replicate 64 0 };
      sequence = 3;
      source = s.source;
      mover = s.mover;
      tape = s.tape;
      changer = s.changer;
    }

-- ---- the call itself
-- `Otape0\n1\n`
abbrev pub open_command : List ℕ
open_command = 79 ∷ 116 ∷ 97 ∷ 112 ∷ 101 ∷ 48 ∷ 10 ∷ 49 ∷ 10 ∷ []

abbrev pub holding : Session → List ℕ → Kept
holding s variables = held s blank_tape variables

abbrev pub empty_lines : List RmtLine
empty_lines =
    -- `Otape0\n1\n`: 10
    Says (79 ∷ 116 ∷ 97 ∷ 112 ∷ 101 ∷ 48 ∷ 10 ∷ 49 ∷ 10 ∷ []) io_error
    -- `Otape1\n1\n`
    ∷ Says (79 ∷ 116 ∷ 97 ∷ 112 ∷ 101 ∷ 49 ∷ 10 ∷ 49 ∷ 10 ∷ []) no_device
    -- `Otape0\n3\n`
    ∷ Says (79 ∷ 116 ∷ 97 ∷ 112 ∷ 101 ∷ 48 ∷ 10 ∷ 51 ∷ 10 ∷ []) invalid
    ∷ []

pub record CommandCalls : Type 0 where
  -- 1001 and 1002 as of every call, in that order; a closed session answers nothing
  pub short : commanded (holding known_session no_variables) 36863 open_command ≡ silent 1001 (holding known_session no_variables)
  pub broken : commanded (holding (with_slots doubled closed_tape) no_variables) 36864 open_command
      ≡ silent 1002 (holding (with_slots doubled closed_tape) no_variables)
  pub short_first : commanded (holding (with_slots doubled closed_tape) no_variables) 36863 open_command
      ≡ silent 1001 (holding (with_slots doubled closed_tape) no_variables)
  pub over : commanded (holding (shut known_session) no_variables) 36864 open_command ≡ silent 0 (holding (shut known_session) no_variables)
  -- no store is lent, so that one of another length refuses nothing
  pub another_store : run_rmts (begins known_session blank_tape (7 ∷ []) []) (Says open_command done ∷ [])
      ≡ wanted_rmts next_number (Says open_command done ∷ []) (holding (with_slots one_cartridge (tape_at true 0)) (7 ∷ []))
  -- 02 No. 7: 10 with no cartridge in the drive, behind 9 and 16
  pub empty_drive : run_rmts (begins (with_slots empty closed_tape) blank_tape no_variables []) empty_lines
      ≡ wanted_rmts next_number empty_lines (holding (with_slots empty closed_tape) no_variables)

pub record RmtCasesHold : Type 0 where
  pub wrote : run_rmts (begins known_session blank_tape no_variables []) write_lines
      ≡ wanted_rmts next_number write_lines (held (with_slots one_cartridge (tape_at true 3)) written_tape no_variables)
  pub read_back : run_rmts (begins (with_slots one_cartridge (tape_at true 3)) written_tape no_variables []) read_lines
      ≡ wanted_rmts next_number read_lines (held (with_slots one_cartridge (tape_at true 1)) written_tape no_variables)
  pub closed : run_rmts (begins (with_slots one_cartridge (tape_at true 1)) written_tape no_variables []) close_lines
      ≡ wanted_rmts next_number close_lines (held known_session written_tape no_variables)
  pub refused : run_rmts (begins known_session written_tape no_variables []) refused_lines
      ≡ wanted_rmts next_number refused_lines (held (with_slots one_cartridge (tape_at false 1)) written_tape no_variables)
  pub reopened : run_rmts (begins (with_slots one_cartridge (tape_at false 1)) written_tape no_variables []) reopen_lines
      ≡ wanted_rmts next_number reopen_lines (held (with_slots one_cartridge (tape_at true 1)) cut_tape no_variables)
  pub beside_records : run_rmts (begins known_session blank_tape no_variables []) beside_lines
      ≡ wanted_rmts next_number beside_lines (held beside_session one_record no_variables)
  -- commands before a login leave all
  pub strangers : run_rmts (begins fresh_session blank_tape no_variables []) stranger_lines
      ≡ wanted_rmts 2 stranger_lines (held fresh_session blank_tape no_variables)
  pub first_request : run_rmts (begins fresh_session blank_tape no_variables []) (stranger_lines ++ first_lines)
      ≡ wanted_rmts 2 (stranger_lines ++ first_lines) (held connected blank_tape no_variables)
  pub calls : CommandCalls
