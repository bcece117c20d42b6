-- A second list of cases, beside a to j: recovers, and what moves come to at marks, ends, faults and the method's end (paper 01, "Moving bytes").
use Rattle.std.specs.Prelude.{ℕ, true, false, List, [], ◌∷◌, ◌++◌, ◌≡◌, replicate}
use Rattle.rules_moves.specs.Cases.{CaseLine, Feed, Fetch, End, Insert, Case, all_played, all_wanted, to_tape_mode, from_tape_mode, no_mode, eom, eof, seek, eow}
use Rattle.rules_moves.specs.Cases.{connect_closed, media_error, successful, internal_error, connect_error, backup_runs, recover_runs, fsf, fsr, rew}
use Rattle.rules_moves.specs.Cases.{size_line, window_line, open_tape, mtio, listen, connect_line, start_backup, start_recover, read, continue_line, stop_mover, stop_data}
use Rattle.rules_moves.specs.Cases.{pause_notices, halt_notices, close_mover, mover_idle_words, active, paused_for, halted_for, counts, reads, window_words, mover_is}
use Rattle.rules_moves.specs.Cases.{data_idle_words, data_active_words, data_halted_for, data_is, tape_is, streamed, cartridge}

-- ---- from tape
-- C 8, B 32: five records of four bytes (1 to 20), a mark, a record of three bytes (21 to 23); its first word is given
abbrev pub labelled : ℕ → List ℕ
labelled first =
    cartridge (first ∷ 8 ∷ 7 ∷ 23 ∷ 4 ∷ 0 ∷ 4 ∷ 4 ∷ 4 ∷ 8 ∷ 4 ∷ 12 ∷ 4 ∷ 16 ∷ 0 ∷ 20 ∷ 3 ∷ 20 ∷ 0 ∷ 0 ∷ [])
    (streamed 23 1 ++ replicate 9 0)

abbrev pub full : List ℕ
full = labelled 1

abbrev pub unsound : List ℕ
unsound = labelled 2

-- with room for two records of four bytes
abbrev pub small : List ℕ
small = cartridge (1 ∷ 2 ∷ 0 ∷ 0 ∷ 0 ∷ 0 ∷ 0 ∷ 0 ∷ []) (replicate 8 0xEE)

-- a recover begins: a record size, the tape spaced (an operation of MTIO and its count), a window, both ends joined
abbrev pub recovering : ℕ → ℕ → ℕ → ℕ → ℕ → List CaseLine
recovering size op n offset length =
    size_line size ∷ open_tape 0 ∷ mtio op n 0 0 ∷ window_line offset length 0 ∷ listen from_tape_mode 0 ∷ connect_line ∷ start_recover ∷ []

abbrev pub recover_case : List CaseLine → List ℕ → ℕ → Case
recover_case lines last position = record { image = full; stream = []; lines = lines; last = last; position = position }

-- The tape stands after the first record when the mover becomes ACTIVE, which stands for the window's offset, 8. A record is handed over in
-- parts. With nothing to read, no room or nothing left nothing happens. At the window's end: SEEK; a second window goes on from there.
abbrev pub two_windows : List CaseLine
two_windows =
    recovering 4 fsr 1 8 8
    ++ (Fetch 3 [] [] ∷ read 10 14 ∷ Fetch 0 [] []
    ∷ Fetch 3 (7 ∷ 8 ∷ []) [] ∷ tape_is 0 2
    ∷ Fetch 3 (9 ∷ 10 ∷ 11 ∷ []) [] ∷ Fetch 3 (12 ∷ []) [] ∷ tape_is 0 3
    ∷ mover_is from_tape_mode active (counts 4 1 6) (reads 16 8) (window_words 8 8)
    ∷ Fetch 3 [] (pause_notices seek 16)
    ∷ mover_is from_tape_mode (paused_for seek) (counts 4 1 6) (reads 16 8) (window_words 0 0)
    ∷ window_line 16 8 0 ∷ continue_line
    ∷ Fetch 8 (13 ∷ 14 ∷ 15 ∷ 16 ∷ []) [] ∷ Fetch 8 (17 ∷ 18 ∷ 19 ∷ 20 ∷ []) [] ∷ Fetch 8 [] [] ∷ tape_is 0 5
    ∷ mover_is from_tape_mode active (counts 4 3 14) (reads 24 0) (window_words 16 8) ∷ data_is recover_runs data_active_words 14
    ∷ read 4 4 ∷ Fetch 8 [] (pause_notices seek 4)
    ∷ close_mover connect_error connect_closed
    ∷ mover_is from_tape_mode (halted_for connect_closed) (counts 4 3 14) (reads 4 4) (window_words 0 0)
    ∷ data_is recover_runs (data_halted_for connect_error) 14 ∷ [])

-- The tape stands after three records, and the record three further on is sought, but two lie before the mark: EOF, the tape after the mark. There
-- the record has another length: both halt, the tape unmoved. Stop resets all but the record size.
abbrev pub mark_case : List CaseLine
mark_case =
    recovering 4 fsr 3 0 16
    ++ (read 12 4 ∷ Fetch 8 [] (pause_notices eof 12) ∷ tape_is 1 0
    ∷ mover_is from_tape_mode (paused_for eof) (counts 4 0 0) (reads 12 4) (window_words 0 0)
    ∷ window_line 12 4 0 ∷ continue_line ∷ Fetch 8 [] (halt_notices connect_error media_error) ∷ tape_is 1 0
    ∷ mover_is from_tape_mode (halted_for media_error) (counts 4 0 0) (reads 12 4) (window_words 12 4)
    ∷ data_is recover_runs (data_halted_for connect_error) 0
    ∷ stop_mover ∷ stop_data
    ∷ mover_is no_mode mover_idle_words (counts 4 0 0) (reads 0 0) (window_words 0 0) ∷ data_is 0 data_idle_words 0 ∷ [])

-- The tape stands after the mark, and the window is far out on the stream (3 * 2^32): of the one record there its last two bytes, then the end.
abbrev pub end_case : List CaseLine
end_case =
    recovering 3 fsf 1 12884901888 9
    ++ (read 12884901889 5 ∷ Fetch 8 (22 ∷ 23 ∷ []) [] ∷ Fetch 8 [] (pause_notices eom 12884901891) ∷ tape_is 1 1
    ∷ mover_is from_tape_mode (paused_for eom) (counts 3 0 2) (reads 12884901891 3) (window_words 0 0) ∷ [])

-- Another cartridge is put in, which is unsound or has fewer entries than the tape's position.
abbrev pub bad_cartridge : List ℕ → List CaseLine
bad_cartridge image =
    recovering 4 fsr 1 0 16
    ++ (read 0 4 ∷ Insert full image ∷ Fetch 8 [] (halt_notices connect_error media_error)
    ∷ mover_is from_tape_mode (halted_for media_error) (counts 4 0 0) (reads 0 4) (window_words 0 16)
    ∷ data_is recover_runs (data_halted_for connect_error) 0 ∷ [])

-- The method's end does nothing before the start; then it halts both; then it does nothing.
abbrev pub method_fails : List CaseLine
method_fails =
    size_line 4 ∷ open_tape 0 ∷ window_line 0 4 0 ∷ listen from_tape_mode 0 ∷ connect_line
    ∷ End false [] ∷ start_recover ∷ End false (halt_notices internal_error connect_closed) ∷ End true []
    ∷ data_is recover_runs (data_halted_for internal_error) 0 ∷ []

-- ---- to tape
-- two records; and the last one, of three bytes, alone
abbrev pub two_records : List ℕ
two_records = cartridge (1 ∷ 2 ∷ 2 ∷ 8 ∷ 4 ∷ 0 ∷ 4 ∷ 4 ∷ []) (streamed 8 1)

abbrev pub last_record : List ℕ
last_record = cartridge (1 ∷ 2 ∷ 1 ∷ 4 ∷ 4 ∷ 0 ∷ 0 ∷ 0 ∷ []) (9 ∷ 10 ∷ 11 ∷ 0 ∷ replicate 4 0xEE)

-- a backup begins: nothing is taken before its start
abbrev pub backing_up : ℕ → List CaseLine
backing_up length =
    size_line 4 ∷ open_tape 1 ∷ window_line 0 length 0 ∷ listen to_tape_mode 0 ∷ connect_line ∷ Feed 4 false 0 [] ∷ start_backup ∷ []

abbrev pub backup_case : List CaseLine → List ℕ → ℕ → Case
backup_case lines last position = record { image = small; stream = streamed 11 1; lines = lines; last = last; position = position }

-- Less than a record and not last: nothing, also on a full tape; the last part there: EOM, and it is not taken. On the next cartridge it is a
-- record with one zero. Then the stream ends on an unsound image: the fault comes first.
abbrev pub full_tape : List CaseLine
full_tape =
    backing_up 16
    ++ (Feed 3 false 0 [] ∷ Feed 11 false 4 [] ∷ Feed 7 false 4 [] ∷ Feed 3 false 0 [] ∷ Feed 3 true 0 (pause_notices eom 0)
    ∷ mover_is to_tape_mode (paused_for eom) (counts 4 2 8) (reads 0 0) (window_words 0 0)
    ∷ mtio rew 0 0 0 ∷ Insert two_records small ∷ window_line 8 8 0 ∷ continue_line ∷ Feed 3 true 3 [] ∷ tape_is 0 1
    ∷ mover_is to_tape_mode active (counts 4 3 12) (reads 0 0) (window_words 8 8) ∷ data_is backup_runs data_active_words 11
    ∷ Insert last_record unsound ∷ Feed 0 true 0 (halt_notices connect_error media_error)
    ∷ mover_is to_tape_mode (halted_for media_error) (counts 4 3 12) (reads 0 0) (window_words 8 8)
    ∷ data_is backup_runs (data_halted_for connect_error) 11 ∷ [])

-- The window's end comes before the tape's; and the method ends well while the mover is PAUSED.
abbrev pub full_window : List CaseLine
full_window =
    backing_up 8
    ++ (Feed 8 false 4 [] ∷ Feed 4 false 4 [] ∷ Feed 3 true 0 (pause_notices eow 0) ∷ End true (halt_notices successful connect_closed)
    ∷ mover_is to_tape_mode (halted_for connect_closed) (counts 4 2 8) (reads 0 0) (window_words 0 0)
    ∷ data_is backup_runs (data_halted_for successful) 8 ∷ [])

abbrev pub recover_cases : List Case
recover_cases =
    recover_case two_windows full 5
    ∷ recover_case mark_case full 6
    ∷ recover_case end_case full 7
    ∷ recover_case (bad_cartridge unsound) unsound 1
    ∷ recover_case (bad_cartridge small) small 1
    ∷ recover_case method_fails full 0
    ∷ backup_case full_tape unsound 1
    ∷ backup_case full_window two_records 2
    ∷ []

abbrev pub RecoverCasesHold : Type 0
RecoverCasesHold = all_played recover_cases ≡ all_wanted recover_cases
