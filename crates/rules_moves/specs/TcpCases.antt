-- Cases of copies across the water (paper 02, No. 14), as those of paper 01: a stream that comes by TCP to tape; ends by TCP that are refused, joined and
-- lost, each alone; and a record that goes from tape by TCP.
use Rattle.std.specs.Prelude.{ℕ, true, false, List, [], ◌∷◌, ◌++◌, ◌≡◌, replicate}
use Rattle.rules_moves.specs.Cases.{CaseLine, Ask, AskLent, Make, Lose, Feed, Fetch, End, Case, tell, all_played, all_wanted, to_tape_mode, from_tape_mode, no_mode}
use Rattle.rules_moves.specs.Cases.{connect_closed, successful, connect_error, backup_runs, eow, fsr, says, size_line, window_line, open_tape, mtio, start_backup}
use Rattle.rules_moves.specs.Cases.{read, continue_line, stop_mover, stop_data, pause_notices, mover_idle_words, active, paused_for, halted_for, counts, reads, window_words}
use Rattle.rules_moves.specs.Cases.{mover_is, data_idle_words, data_active_words, data_halted_for, data_is, streamed, cartridge}

-- ---- lines
-- a list of one address, 127.0.0.1 and port 10,000, with no environment
abbrev pub one_address : List ℕ
one_address = 1 ∷ 0x7F00_0001 ∷ 10000 ∷ 0 ∷ []

-- mover listen and data listen by TCP, which is type 1, lent a list; "answers the XDR list": error, type, list
abbrev pub listen_tcp : ℕ → List ℕ → List ℕ → CaseLine
listen_tcp mode list reply = AskLent list false 0xA01 (mode ∷ 1 ∷ []) reply []

abbrev pub listen_data : List ℕ → List ℕ → CaseLine
listen_data list reply = AskLent list false 0x409 (1 ∷ []) reply []

-- the mover's and the data end's state, by TCP: the type and a list of no addresses
abbrev pub mover_tcp_is : ℕ → List ℕ → List ℕ → List ℕ → List ℕ → CaseLine
mover_tcp_is mode state counted reading in-force = Ask 0xA00 [] (0 ∷ mode ∷ state ++ (counted ++ (reading ++ (in-force ++ (1 ∷ 0 ∷ []))))) []

abbrev pub data_tcp_is : ℕ → List ℕ → CaseLine
data_tcp_is operation state = Ask 0x400 [] (3 ∷ 0 ∷ operation ∷ state ++ (0 ∷ 0 ∷ 0 ∷ 0 ∷ 0 ∷ 1 ∷ 0 ∷ 0 ∷ 0 ∷ 0 ∷ 0 ∷ [])) []

-- LISTEN is 1 of the mover and 3 of data, CONNECTED 4 of data
abbrev pub mover_listens : List ℕ
mover_listens = 1 ∷ 0 ∷ 0 ∷ []

abbrev pub data_listens : List ℕ
data_listens = 3 ∷ 0 ∷ []

abbrev pub data_connects : List ℕ
data_connects = 4 ∷ 0 ∷ []

-- ---- C 4, B 16, no entries; and with three records of 4 bytes, the last filled
abbrev pub small : List ℕ
small = cartridge (1 ∷ 4 ∷ 0 ∷ 0 ∷ replicate 8 0) (replicate 16 0)

abbrev pub three_records : List ℕ
three_records = cartridge (1 ∷ 4 ∷ 3 ∷ 12 ∷ 4 ∷ 0 ∷ 4 ∷ 4 ∷ 4 ∷ 8 ∷ 0 ∷ 0 ∷ []) (streamed 10 0 ++ replicate 6 0)

-- a stream of ten bytes comes by TCP. Before made nothing moves, and a made that names the data end does nothing; the mover's halt is its own, with
-- one notice, and the data end is at rest all the while; the type is told until stop
abbrev pub comes_by_tcp : Case
comes_by_tcp =
    record {
      image = small;
      stream = streamed 10 0;
      lines = size_line 4 ∷ open_tape 1 ∷ window_line 0 8 0 ∷ listen_tcp to_tape_mode one_address (0 ∷ 1 ∷ one_address)
          ∷ mover_tcp_is to_tape_mode mover_listens (counts 4 0 0) (reads 0 0) (window_words 0 8)
          ∷ Feed 4 false 0 [] ∷ Make false ∷ Feed 4 false 0 [] ∷ Lose true [] ∷ Make true
          ∷ Feed 4 false 4 [] ∷ Feed 4 false 4 [] ∷ Feed 2 false 0 (pause_notices eow 0)
          ∷ mover_tcp_is to_tape_mode (paused_for eow) (counts 4 2 8) (reads 0 0) (window_words 0 0)
          ∷ window_line 8 4 0 ∷ continue_line ∷ Feed 2 true 2 [] ∷ Feed 0 true 0 (tell 0x503 (connect_closed ∷ []) ∷ [])
          ∷ mover_tcp_is to_tape_mode (halted_for connect_closed) (counts 4 3 12) (reads 0 0) (window_words 8 4)
          ∷ Lose true [] ∷ Make true ∷ data_is 0 data_idle_words 0
          ∷ stop_mover ∷ mover_is no_mode mover_idle_words (counts 4 0 0) (reads 0 0) (window_words 0 0) ∷ [];
      last = three_records;
      position = 3;
    }

-- Refusals in their places; both ends by TCP, two strangers: the data end's loss, the mover's abort, the method's end are each of one end. Bytes
-- that such a mover moves are nobody's processed count.
abbrev pub two_strangers : Case
two_strangers =
    record {
      image = small;
      stream = streamed 10 0;
      lines = Ask 0x102 [] (0 ∷ 2 ∷ 0 ∷ 1 ∷ []) []
          ∷ Ask 0x409 (2 ∷ 7 ∷ []) (9 ∷ 0 ∷ []) [] ∷ listen_data [] (9 ∷ 0 ∷ []) ∷ listen_data (0 ∷ []) (9 ∷ 0 ∷ []) ∷ listen_data (one_address ++ (0 ∷ [])) (9 ∷ 0 ∷ [])
          ∷ listen_data one_address (0 ∷ 1 ∷ one_address) ∷ data_tcp_is 0 data_listens ∷ Lose false [] ∷ listen_data one_address (19 ∷ 0 ∷ [])
          ∷ size_line 4 ∷ open_tape 1 ∷ window_line 0 8 0 ∷ says 0xA09 (0 ∷ 0 ∷ []) 23
          ∷ Make true ∷ Make false ∷ data_tcp_is 0 data_connects ∷ start_backup ∷ data_tcp_is backup_runs data_active_words
          ∷ says 0xA09 (0 ∷ 1 ∷ 0 ∷ []) 9 ∷ says 0xA09 (0 ∷ 1 ∷ one_address) 23
          ∷ AskLent [] true 0xA09 (0 ∷ 1 ∷ one_address) (0 ∷ []) []
          ∷ Feed 4 false 4 [] ∷ data_tcp_is backup_runs data_active_words
          ∷ Lose false (tell 0x501 (connect_error ∷ []) ∷ []) ∷ data_tcp_is backup_runs (data_halted_for connect_error)
          ∷ mover_tcp_is to_tape_mode active (counts 4 1 4) (reads 0 0) (window_words 0 8)
          ∷ Ask 0xA03 [] (0 ∷ []) (tell 0x503 (2 ∷ []) ∷ []) ∷ stop_data
          ∷ says 0x40A (1 ∷ one_address) 23 ∷ AskLent [] true 0x40A (1 ∷ 0 ∷ []) (9 ∷ []) [] ∷ AskLent [] true 0x40A (1 ∷ one_address) (0 ∷ []) []
          ∷ start_backup ∷ End true (tell 0x501 (successful ∷ []) ∷ []) ∷ stop_mover ∷ [];
      last = cartridge (1 ∷ 4 ∷ 1 ∷ 4 ∷ 4 ∷ 0 ∷ replicate 6 0) (streamed 4 0 ++ replicate 12 0);
      position = 1;
    }

-- the second record goes by TCP: the tape's position at made stands for the window's offset; the loss halts the mover alone
abbrev pub goes_by_tcp : Case
goes_by_tcp =
    record {
      image = three_records;
      stream = [];
      lines = size_line 4 ∷ open_tape 0 ∷ mtio fsr 1 0 0 ∷ window_line 0 8 0 ∷ listen_tcp from_tape_mode one_address (0 ∷ 1 ∷ one_address) ∷ Make true
          ∷ read 0 4 ∷ Fetch 3 (4 ∷ 5 ∷ 6 ∷ []) [] ∷ Fetch 3 (7 ∷ []) [] ∷ data_is 0 data_idle_words 0
          ∷ Lose true (tell 0x503 (connect_closed ∷ []) ∷ []) ∷ Lose true [] ∷ stop_mover ∷ [];
      last = three_records;
      position = 2;
    }

abbrev pub TcpCasesHold : Type 0
TcpCasesHold = all_played (comes_by_tcp ∷ two_strangers ∷ goes_by_tcp ∷ []) ≡ all_wanted (comes_by_tcp ∷ two_strangers ∷ goes_by_tcp ∷ [])
