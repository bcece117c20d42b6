-- A third list of cases, beside a to j: windows with no end (02 No. 1), from a login on; and four from a session near the top of the stream, where no list
-- of calls would come in time.
use Rattle.std.specs.Prelude.{ℕ, Bool, true, false, List, [], ◌∷◌, ◌++◌, ◌≡◌, take, replicate}
use Rattle.rules_parts.specs.declared.types.Session.{Session}
use Rattle.rules_parts.specs.Parts.{closed_changer}
use Rattle.rules.specs.Relation.{keeps}
use Rattle.rules_moves.specs.Cases.{CaseLine, Feed, Fetch, Case, Final, run_case, all_played, all_wanted, to_tape_mode, from_tape_mode, no_mode, eom, eof, seek, eow}
use Rattle.rules_moves.specs.Cases.{connect_closed, successful, backup_runs, fsr, size_line, window_line, open_tape, listen, connect_line, start_backup, start_recover}
use Rattle.rules_moves.specs.Cases.{read, continue_line, pause_notices, halt_notices, mover_idle_words, active, paused_for, halted_for, counts, reads, window_words, mover_is, data_active_words, data_halted_for, data_is}
use Rattle.rules_moves.specs.Cases.{no_variables, one_cartridge, known_session, begins, wanted_from, streamed, cartridge}
use Rattle.rules_cases.specs.Examples.{prepared, blank, asking, streaming, three_records}
use Rattle.rules_moves.specs.RecoverCases.{full, recovering, recover_case, small, two_records, backing_up, backup_case}

-- "length 18446744073709551615, all ones"
abbrev pub ones : ℕ
ones = 18446744073709551615

-- a window that is set in IDLE, and what get state tells of it
abbrev pub told : ℕ → ℕ → ℕ → List CaseLine
told size offset length = window_line offset length 0 ∷ mover_is no_mode mover_idle_words (counts size 0 0) (reads 0 0) (window_words offset length) ∷ []

-- "whatever the record size; the offset must still be a multiple"; "Get state gives the length as sent"; the last offset is f's, which is
-- refused with the length 1024; a void window is 0, 0
abbrev pub asked : List CaseLine
asked =
    told 1024 0 ones
    ++ (window_line 512 ones 9 ∷ window_line 1 ones 9 ∷ window_line ones ones 9 ∷ told 1024 18446744073709550592 ones
    ++ (size_line 1024 ∷ mover_is no_mode mover_idle_words (counts 1024 0 0) (reads 0 0) (window_words 0 0) ∷ []))

-- With the first record size it may be the first that a client asks of the mover (No. 9).
abbrev pub first_asked : Case
first_asked = record { image = blank; stream = []; lines = told 10240 0 ones; last = blank; position = 0 }

-- Every other length is as it was: all ones less one, and less 1,023.
abbrev pub others : List CaseLine
others = window_line 0 18446744073709551614 9 ∷ window_line 0 18446744073709550592 0 ∷ window_line 1024 18446744073709550592 9 ∷ []

-- Mode 0 begins at 0, also in such a window.
abbrev pub from_zero : List CaseLine
from_zero = open_tape 1 ∷ window_line 1024 ones 0 ∷ listen to_tape_mode 26 ∷ window_line 0 ones 0 ∷ listen to_tape_mode 0 ∷ window_line 0 ones 19 ∷ []

-- three records, with no EOW; then the stream ends, and the window is as it was sent
abbrev pub three_written : List CaseLine
three_written =
    prepared
    ++ (open_tape 1 ∷ window_line 0 ones 0 ∷ listen to_tape_mode 0 ∷ connect_line ∷ start_backup
    ∷ Feed 3000 false 1024 [] ∷ Feed 1976 false 1024 [] ∷ Feed 952 true 952 []
    ∷ mover_is to_tape_mode active (counts 1024 3 3072) (reads 0 0) (window_words 0 ones) ∷ data_is backup_runs data_active_words 3000
    ∷ Feed 0 true 0 (halt_notices successful connect_closed)
    ∷ mover_is to_tape_mode (halted_for connect_closed) (counts 1024 3 3072) (reads 0 0) (window_words 0 ones)
    ∷ data_is backup_runs (data_halted_for successful) 3000 ∷ [])

-- A full tape pauses it, which voids the window; the next one begins at the bytes moved.
abbrev pub full_tape : List CaseLine
full_tape =
    backing_up ones
    ++ (Feed 11 false 4 [] ∷ Feed 7 false 4 [] ∷ Feed 3 true 0 (pause_notices eom 0)
    ∷ mover_is to_tape_mode (paused_for eom) (counts 4 2 8) (reads 0 0) (window_words 0 0)
    ∷ window_line 4 ones 9 ∷ window_line 12 ones 9 ∷ window_line 8 ones 0
    ∷ mover_is to_tape_mode (paused_for eom) (counts 4 2 8) (reads 0 0) (window_words 8 ones)
    ∷ continue_line ∷ Feed 3 true 0 (pause_notices eom 0) ∷ [])

-- From tape nothing but the tape pauses it: a read up to the mark comes whole; then the mark; then a seek position before the window.
abbrev pub whole_read : List CaseLine
whole_read =
    recovering 4 fsr 1 8 ones
    ++ (read 8 20 ∷ Fetch 3 (5 ∷ 6 ∷ 7 ∷ []) [] ∷ Fetch 8 (8 ∷ []) [] ∷ Fetch 8 (9 ∷ 10 ∷ 11 ∷ 12 ∷ []) []
    ∷ Fetch 8 (13 ∷ 14 ∷ 15 ∷ 16 ∷ []) [] ∷ Fetch 8 (17 ∷ 18 ∷ 19 ∷ 20 ∷ []) []
    ∷ mover_is from_tape_mode active (counts 4 4 16) (reads 24 4) (window_words 8 ones)
    ∷ Fetch 8 [] (pause_notices eof 24)
    ∷ window_line 24 ones 0 ∷ continue_line
    ∷ mover_is from_tape_mode active (counts 4 4 16) (reads 24 4) (window_words 24 ones) ∷ [])

-- At a record size that divides 2^64 - 1 the window may begin there. Then it is empty: from tape every position is outside.
abbrev pub empty_window : List CaseLine
empty_window =
    size_line 3 ∷ open_tape 0 ∷ window_line ones ones 0 ∷ listen from_tape_mode 0 ∷ connect_line ∷ start_recover
    ∷ read 18446744073709551614 1 ∷ Fetch 8 [] (pause_notices seek 18446744073709551614) ∷ []

-- A position below the end is inside, and the read is cut by 2^64 - 1 before the window is: past its last byte nothing is asked for.
abbrev pub last_bytes : List CaseLine
last_bytes =
    recovering 4 fsr 1 18446744073709551612 ones
    ++ (read 18446744073709551613 2 ∷ Fetch 8 (6 ∷ 7 ∷ []) [] ∷ Fetch 8 [] []
    ∷ mover_is from_tape_mode active (counts 4 0 2) (reads ones 0) (window_words 18446744073709551612 ones) ∷ [])

abbrev pub endless_cases : List Case
endless_cases =
    asking asked
    ∷ first_asked
    ∷ asking others
    ∷ asking from_zero
    ∷ streaming three_written three_records 3
    ∷ backup_case full_tape two_records 2
    ∷ recover_case whole_read full 6
    ∷ recover_case empty_window full 0
    ∷ recover_case last_bytes full 2
    ∷ []

-- ---- at the top
-- a backup at record size 1,024 in a window with no end, with so many bytes moved
abbrev pub near_top : ℕ → Session
near_top moved =
    record {
      closed = false;
      first = false;
      login = known_session.login;
      sequence = 9;
      source = record { state = 1; operation = backup_runs; reason = 0; address = 0; processed = moved };
      mover = record {
        state = 2;
        mode = to_tape_mode;
        pause = 0;
        halt = 0;
        size = 1024;
        address = 0;
        offset = 0;
        length = ones;
        moved = moved;
        seek = 0;
        left = 0;
        origin = 0;
      };
      tape = record { opened = true; writable = true; position = 0 };
      changer = closed_changer one_cartridge;
    }

abbrev pub ran_near : ℕ → List CaseLine → Final
ran_near moved lines = run_case (begins (near_top moved) blank no_variables (streamed 2048 0)) lines

abbrev pub wanted_near : List CaseLine → List ℕ → ℕ → Final
wanted_near lines last position = wanted_from 9 lines last position

abbrev pub last_written : List ℕ
last_written = cartridge (1 ∷ 4 ∷ 1 ∷ 1024 ∷ 1024 ∷ 0 ∷ replicate 6 0) (take 1024 (streamed 2048 0) ++ replicate 3072 0)

-- 2^64 - 2,048 bytes moved: the last whole record there is room for, and 2^64 - 1,024 are moved; a whole record more would pass 2^64 - 1: EOW
-- with nothing taken
abbrev pub last_record : List CaseLine
last_record =
    Feed 2048 false 1024 []
    ∷ mover_is to_tape_mode active (counts 1024 4294967295 18446744073709550592) (reads 0 0) (window_words 0 ones)
    ∷ Feed 1024 false 0 (pause_notices eow 0)
    ∷ mover_is to_tape_mode (paused_for eow) (counts 1024 4294967295 18446744073709550592) (reads 0 0) (window_words 0 0)
    ∷ data_is backup_runs data_active_words 18446744073709550592 ∷ []

-- (4) comes before (5), so also with an empty part; a whole record counts, also where the last part is short; (3) comes before (4)
abbrev pub empty_part : List CaseLine
empty_part = Feed 0 false 0 (pause_notices eow 0) ∷ []

abbrev pub short_part : List CaseLine
short_part = Feed 3 true 0 (pause_notices eow 0) ∷ []

abbrev pub stream_over : List CaseLine
stream_over = Feed 0 true 0 (halt_notices successful connect_closed) ∷ []

pub record EndlessCasesHold : Type 0 where
  pub cases : all_played endless_cases ≡ all_wanted endless_cases
  pub legal : (keeps (near_top 18446744073709549568) ≡ true) × (keeps (near_top 18446744073709550592) ≡ true)
  pub record_more : ran_near 18446744073709549568 last_record ≡ wanted_near last_record last_written 1
  pub empty_part_lem : ran_near 18446744073709550592 empty_part ≡ wanted_near empty_part blank 0
  pub short_part_lem : ran_near 18446744073709550592 short_part ≡ wanted_near short_part blank 0
  pub stream_over_lem : ran_near 18446744073709550592 stream_over ≡ wanted_near stream_over blank 0
