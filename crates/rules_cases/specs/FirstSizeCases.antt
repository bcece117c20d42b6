-- Cases of the first record size (paper 02, No. 9), as those of paper 01: a client that never sends set record size; a size that is set and stays
-- over a stop; a size 0 that is handed in.
use Rattle.std.specs.Prelude.{ℕ, true, List, [], ◌∷◌, ◌++◌, ◌≡◌, replicate}
use Rattle.rules_moves.specs.Cases.{CaseLine, Ask, Feed, Case, Final, tell, all_played, all_wanted, run_case, to_tape_mode, from_tape_mode, no_mode, connect_closed, successful}
use Rattle.rules_moves.specs.Cases.{known_session, next_number, begins, wanted_from, says, size_line, window_line, open_tape, listen, connect_line, start_backup, stop_mover, stop_data, halt_notices}
use Rattle.rules_moves.specs.Cases.{no_variables, mover_idle_words, active, counts, reads, window_words, mover_is, streamed, cartridge}
use Rattle.rules_cases.specs.Examples.{blank}
use Rattle.rules_moves.specs.FirstSize.{unsized}

-- the mover at rest, with a record size and no window
abbrev pub rests : ℕ → CaseLine
rests size = mover_is no_mode mover_idle_words (counts size 0 0) (reads 0 0) (window_words 0 0)

-- mover connect at LOCAL
abbrev pub connect_mover : ℕ → ℕ → CaseLine
connect_mover mode e = says 0xA09 (mode ∷ 0 ∷ []) e

-- mover abort, of a mover in LISTEN: its reply, then its own reason, ABORTED 2
abbrev pub abort_mover : CaseLine
abort_mover = Ask 0xA03 [] (0 ∷ []) (tell 0x503 (2 ∷ []) ∷ [])

-- "Small programs never send set record size": C 1, B 10,240
abbrev pub roomy : List ℕ
roomy = cartridge (1 ∷ 1 ∷ 0 ∷ 0 ∷ 0 ∷ 0 ∷ []) (replicate 10240 0)

abbrev pub one_record : List ℕ
one_record = cartridge (1 ∷ 1 ∷ 1 ∷ 10240 ∷ 10240 ∷ 0 ∷ []) (streamed 5 0 ++ replicate 10235 0)

abbrev pub no_size_set : Case
no_size_set =
    record {
      image = roomy;
      stream = streamed 5 0;
      lines = rests 10240 ∷ open_tape 1 ∷ listen to_tape_mode 26 ∷ connect_mover from_tape_mode 26
          ∷ window_line 0 1024 9 ∷ window_line 0 10240 0 ∷ listen to_tape_mode 0 ∷ connect_line ∷ start_backup
          ∷ Feed 5 true 5 []
          ∷ mover_is to_tape_mode active (counts 10240 1 10240) (reads 0 0) (window_words 0 10240)
          ∷ Feed 0 true 0 (halt_notices successful connect_closed)
          ∷ stop_mover ∷ stop_data ∷ rests 10240 ∷ [];
      last = one_record;
      position = 1;
    }

-- "all variables of its own end reset but the record size": 512 stays 512; and "1 to 32,768 (else 9)"
abbrev pub size_stays : Case
size_stays =
    record {
      image = blank;
      stream = [];
      lines = says 0xA08 (0 ∷ []) 9 ∷ rests 10240 ∷ size_line 512 ∷ open_tape 0 ∷ window_line 0 512 0 ∷ listen from_tape_mode 0 ∷ abort_mover ∷ stop_mover
          ∷ rests 512 ∷ [];
      last = blank;
      position = 0;
    }

-- "a size 0 handed in still gets it": at set window, listen and connect, in either mode; set record size ends it
abbrev pub unsized_lines : List CaseLine
unsized_lines =
    rests 0 ∷ open_tape 1 ∷ window_line 0 1024 26 ∷ window_line 0 0 26 ∷ listen to_tape_mode 26 ∷ listen from_tape_mode 26
    ∷ connect_mover to_tape_mode 26 ∷ connect_mover from_tape_mode 26 ∷ says 0xA08 (0 ∷ []) 9 ∷ window_line 0 1024 26
    ∷ size_line 1024 ∷ window_line 0 1024 0 ∷ listen to_tape_mode 0 ∷ []

abbrev pub unsized_played : Final
unsized_played = run_case (begins (unsized known_session) blank no_variables []) unsized_lines

abbrev pub unsized_wanted : Final
unsized_wanted = wanted_from next_number unsized_lines blank 0

pub record FirstSizeCasesHold : Type 0 where
  pub fresh : all_played (no_size_set ∷ size_stays ∷ []) ≡ all_wanted (no_size_set ∷ size_stays ∷ [])
  pub handed_in : unsized_played ≡ unsized_wanted
