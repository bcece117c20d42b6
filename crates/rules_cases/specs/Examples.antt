-- Paper 01, "Examples to hold": cases a to j in one list, and one statement over it. Text login is withdrawn (02 No. 10), so each begins from the session
-- that a login by MD5 gives (`KnownSession`), and its first reply is number 5, where it was 4. No other value that is expected changed.
use Rattle.std.specs.Prelude.{ℕ, true, false, List, [], ◌∷◌, ◌++◌, ◌≡◌, take, replicate}
use Rattle.rules_moves.specs.Cases.{CaseLine, Feed, Case, all_played, all_wanted, to_tape_mode, eow, connect_closed, successful, backup_runs, fsr}
use Rattle.rules_moves.specs.Cases.{size_line, window_line, open_tape, mtio, listen, connect_line, start_backup, continue_line, pause_notices, halt_notices}
use Rattle.rules_moves.specs.Cases.{active, paused_for, halted_for, counts, reads, window_words, mover_is, data_active_words, data_halted_for, data_is, streamed, cartridge}

-- "record size 1,024 where unsaid"
abbrev pub prepared : List CaseLine
prepared = size_line 1024 ∷ []

-- an empty cartridge: C 4, B 4,096
abbrev pub blank : List ℕ
blank = cartridge (1 ∷ 4 ∷ 0 ∷ 0 ∷ replicate 8 0) (replicate 4096 0)

-- a case that leaves the cartridge, with the tape at its start
abbrev pub asking : List CaseLine → Case
asking lines = record { image = blank; stream = []; lines = prepared ++ lines; last = blank; position = 0 }

-- the same of one window, and the error it is answered
abbrev pub window_case : ℕ → ℕ → ℕ → Case
window_case offset length e = asking (window_line offset length e ∷ [])

-- g: "Window (0, 2048), stream of 3,000 bytes: two records, then EOW with nothing taken."
abbrev pub lines_g : List CaseLine
lines_g =
    prepared
    ++ (open_tape 1 ∷ window_line 0 2048 0 ∷ listen to_tape_mode 0 ∷ connect_line ∷ start_backup
    ∷ Feed 3000 false 1024 []
    ∷ mover_is to_tape_mode active (counts 1024 1 1024) (reads 0 0) (window_words 0 2048) ∷ data_is backup_runs data_active_words 1024
    ∷ Feed 1976 false 1024 []
    ∷ mover_is to_tape_mode active (counts 1024 2 2048) (reads 0 0) (window_words 0 2048) ∷ data_is backup_runs data_active_words 2048
    ∷ Feed 952 false 0 (pause_notices eow 0)
    ∷ mover_is to_tape_mode (paused_for eow) (counts 1024 2 2048) (reads 0 0) (window_words 0 0) ∷ data_is backup_runs data_active_words 2048 ∷ [])

-- h: "Then (2048, 1024), continue, last 952 bytes: a record with 72 zeros; moved 3,072, processed 3,000."
abbrev pub lines_h : List CaseLine
lines_h =
    lines_g
    ++ (window_line 2048 1024 0 ∷ continue_line ∷ Feed 952 true 952 []
    ∷ mover_is to_tape_mode active (counts 1024 3 3072) (reads 0 0) (window_words 2048 1024) ∷ data_is backup_runs data_active_words 3000 ∷ [])

-- i: "Then an empty last part: halted, not EOW."
abbrev pub lines_i : List CaseLine
lines_i =
    lines_h
    ++ (Feed 0 true 0 (halt_notices successful connect_closed)
    ∷ mover_is to_tape_mode (halted_for connect_closed) (counts 1024 3 3072) (reads 0 0) (window_words 2048 1024)
    ∷ data_is backup_runs (data_halted_for successful) 3000 ∷ [])

abbrev pub streaming : List CaseLine → List ℕ → ℕ → Case
streaming lines last position = record { image = blank; stream = streamed 3000 0; lines = lines; last = last; position = position }

abbrev pub two_records : List ℕ
two_records = cartridge (1 ∷ 4 ∷ 2 ∷ 2048 ∷ 1024 ∷ 0 ∷ 1024 ∷ 1024 ∷ 0 ∷ 0 ∷ 0 ∷ 0 ∷ []) (take 2048 (streamed 3000 0) ++ replicate 2048 0)

abbrev pub three_records : List ℕ
three_records = cartridge (1 ∷ 4 ∷ 3 ∷ 3072 ∷ 1024 ∷ 0 ∷ 1024 ∷ 1024 ∷ 1024 ∷ 2048 ∷ 0 ∷ 0 ∷ []) (streamed 3000 0 ++ replicate 1096 0)

-- entries record, mark, record: C 4, B 64
abbrev pub marked : List ℕ
marked = cartridge (1 ∷ 4 ∷ 3 ∷ 3 ∷ 2 ∷ 0 ∷ 0 ∷ 2 ∷ 1 ∷ 2 ∷ 0 ∷ 0 ∷ []) (5 ∷ 6 ∷ 7 ∷ replicate 61 0)

abbrev pub cases : List Case
cases =
    -- a. "Window (0, 4096): 0." b. "(512, 4096): 9."
    window_case 0 4096 0
    ∷ window_case 512 4096 9
    -- c. "Writable tape open; window, then the same record size again, then listen: 26."
    ∷ asking (open_tape 1 ∷ window_line 0 4096 0 ∷ size_line 1024 ∷ listen to_tape_mode 26 ∷ [])
    -- d. "(0, 0) and (0, 1536): 9."
    ∷ window_case 0 0 9
    ∷ window_case 0 1536 9
    -- e. "Offset 18446744073709549568, length 1024: accepted." f. "Offset 18446744073709550592, length 1024: 9."
    ∷ window_case 18446744073709549568 1024 0
    ∷ window_case 18446744073709550592 1024 9
    ∷ streaming lines_g two_records 2
    ∷ streaming lines_h three_records 3
    ∷ streaming lines_i three_records 3
    -- j. "Entries record, mark, record; position 0; FSR 3: 12, position 2, residue 2."
    ∷ record { image = marked; stream = []; lines = open_tape 1 ∷ mtio fsr 3 12 2 ∷ []; last = marked; position = 2 }
    ∷ []

abbrev pub ExamplesHold : Type 0
ExamplesHold = all_played cases ≡ all_wanted cases
