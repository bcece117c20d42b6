-- Cases of the environment (paper 02, No. 3), as those of paper 01: a backup whose pairs come back while it runs and after it, and not after data stop; a
-- recover whose client names a separator of its own; a request before auth; a store that is lent with rubbish or with a pair in it; and the store's bytes.
use Rattle.std.specs.Prelude.{ℕ, true, List, [], ◌∷◌, ◌++◌, ◌≡◌, take, replicate}
use Rattle.codes.specs.Codes.{store_length}
use Rattle.rules_moves.specs.Cases.{words_bytes, CaseLine, Ask, End, Case, Final, World, run_case, kept_after, tell, all_played, all_wanted}
use Rattle.rules_moves.specs.Cases.{no_variables, fresh_session, known_session, next_number, begins, wanted_from, to_tape_mode, from_tape_mode, connect_closed, successful}
use Rattle.rules_moves.specs.Cases.{says, size_line, window_line, open_tape, listen, connect_line, stop_mover, stop_data, halt_notices}
use Rattle.rules_cases.specs.Examples.{blank}

-- 0x404: the number and an empty list; the pairs in words, so many
abbrev pub unanswered : ℕ → CaseLine
unanswered e = Ask 0x404 [] (e ∷ 0 ∷ []) []

abbrev pub environment_is : ℕ → List ℕ → CaseLine
environment_is n pairs = Ask 0x404 [] (0 ∷ n ∷ pairs) []

-- `FS` is `/v`, and `E` is empty; PATHNAME_SEPARATOR is `/`, and `:`
abbrev pub two_pairs : List ℕ
two_pairs = 2 ∷ 0x4653_0000 ∷ 2 ∷ 0x2F76_0000 ∷ 1 ∷ 0x4500_0000 ∷ 0 ∷ []

abbrev pub separator_words : ℕ → List ℕ
separator_words value = 18 ∷ 0x5041_5448 ∷ 0x4E41_4D45 ∷ 0x5F53_4550 ∷ 0x4152_4154 ∷ 0x4F52_0000 ∷ 1 ∷ value ∷ []

abbrev pub slash : ℕ
slash = 0x2F00_0000

abbrev pub colon : ℕ
colon = 0x3A00_0000

-- start backup by a method, with those two pairs, and one with another; `dump` and `dumb`
abbrev pub start_with : ℕ → ℕ → CaseLine
start_with method e = says 0x401 (4 ∷ method ∷ 2 ∷ two_pairs) e

abbrev pub start_other : ℕ → ℕ → CaseLine
start_other method e = says 0x401 (4 ∷ method ∷ 1 ∷ 1 ∷ 0x5800_0000 ∷ 1 ∷ 0x5900_0000 ∷ []) e

abbrev pub dump : ℕ
dump = 0x6475_6D70

abbrev pub dumb : ℕ
dumb = 0x6475_6D62

-- start recover with the client's separator and one name, of four texts and two hypers
abbrev pub recover_with : CaseLine
recover_with = says 0x402 (1 ∷ separator_words colon ++ (1 ∷ 1 ∷ 0x6100_0000 ∷ 0 ∷ 0 ∷ 0 ∷ 0 ∷ 1 ∷ 0 ∷ 2 ∷ 4 ∷ dump ∷ [])) 0

-- data listen at LOCAL, and data abort: ABORTED 2
abbrev pub listen_data : CaseLine
listen_data = Ask 0x409 (0 ∷ []) (0 ∷ 0 ∷ []) []

abbrev pub abort_data : CaseLine
abort_data = Ask 0x403 [] (0 ∷ []) (tell 0x501 (2 ∷ []) ∷ [])

-- 19 in IDLE, CONNECTED and LISTEN; a start that is refused with 9 keeps nothing, nor does one that is refused with 19 in ACTIVE; the pairs in
-- ACTIVE and in HALTED; a data stop that is refused leaves them; after one that is accepted only the separator is left
abbrev pub come_back : Case
come_back =
    record {
      image = blank;
      stream = [];
      lines = unanswered 19
          ∷ open_tape 1 ∷ size_line 512 ∷ window_line 0 512 0 ∷ listen to_tape_mode 0 ∷ connect_line ∷ unanswered 19
          ∷ start_other dumb 9 ∷ unanswered 19 ∷ start_with dump 0 ∷ environment_is 3 (two_pairs ++ separator_words slash)
          ∷ start_other dump 19 ∷ says 0x407 [] 19 ∷ environment_is 3 (two_pairs ++ separator_words slash)
          ∷ End true (halt_notices successful connect_closed) ∷ environment_is 3 (two_pairs ++ separator_words slash)
          ∷ stop_data ∷ unanswered 19 ∷ listen_data ∷ unanswered 19 ∷ abort_data ∷ environment_is 1 (separator_words slash) ∷ [];
      last = blank;
      position = 0;
    }

-- "when the client gave none": one that it gave stays as it is
abbrev pub own_separator : Case
own_separator =
    record {
      image = blank;
      stream = [];
      lines = open_tape 0 ∷ size_line 512 ∷ window_line 0 512 0 ∷ listen from_tape_mode 0 ∷ connect_line ∷ recover_with
          ∷ environment_is 1 (separator_words colon) ∷ End true (halt_notices successful connect_closed) ∷ environment_is 1 (separator_words colon)
          ∷ stop_mover ∷ stop_data ∷ [];
      last = blank;
      position = 0;
    }

abbrev pub environment_cases : List Case
environment_cases = come_back ∷ own_separator ∷ []

-- 4 before auth: a new session, whose next message is number 2
abbrev pub locked_lines : List CaseLine
locked_lines = says 0x900 (4 ∷ []) 0 ∷ unanswered 4 ∷ []

-- ---- with another store lent first: what is sent, and the front of the store at the end
abbrev pub lent_first : List ℕ → World
lent_first variables = begins known_session blank variables []

-- the store that so many lines leave
abbrev pub store_after : World → List CaseLine → List ℕ
store_after w lines = (kept_after w lines).variables

-- rubbish: 7 in HALTED, 19 before it; a data stop makes the count 0 with no look at the layout
abbrev pub rubbish : List ℕ
rubbish = replicate store_length 7

abbrev pub rubbish_lines : List CaseLine
rubbish_lines =
    unanswered 19 ∷ listen_data ∷ unanswered 19 ∷ abort_data ∷ unanswered 7 ∷ stop_data ∷ listen_data ∷ abort_data ∷ environment_is 1 (separator_words slash) ∷ []

-- a pair that lies there: HALTED without a start gives it
abbrev pub one_kept : List ℕ
one_kept = words_bytes (1 ∷ 0 ∷ 1 ∷ 1 ∷ 2 ∷ []) ++ (0x58 ∷ 0x59 ∷ 0x5A ∷ []) ++ replicate 16361 9

abbrev pub kept_lines : List CaseLine
kept_lines = listen_data ∷ abort_data ∷ environment_is 2 (1 ∷ 0x5800_0000 ∷ 2 ∷ 0x595A_0000 ∷ separator_words slash) ∷ []

abbrev pub sent_with : List ℕ → List CaseLine → Final
sent_with variables lines = run_case (lent_first variables) lines

abbrev pub wanted_of : List CaseLine → Final
wanted_of lines = wanted_from next_number lines blank 0

-- up to an accepted start over rubbish: "a count (at most 64), four words a pair (start, from the first text on, and length of name and of value), then the texts
-- without gaps, name before value; bytes past them stay"
abbrev pub start_lines : List CaseLine
start_lines = open_tape 1 ∷ size_line 512 ∷ window_line 0 512 0 ∷ listen to_tape_mode 0 ∷ connect_line ∷ start_with dump 0 ∷ []

abbrev pub store_front : List ℕ
store_front = words_bytes (2 ∷ 0 ∷ 2 ∷ 2 ∷ 2 ∷ 4 ∷ 1 ∷ 5 ∷ 0 ∷ []) ++ (0x46 ∷ 0x53 ∷ 0x2F ∷ 0x76 ∷ 0x45 ∷ 7 ∷ 7 ∷ [])

-- all bytes sent
pub record EnvironmentCasesHold : Type 0 where
  pub cases : all_played environment_cases ≡ all_wanted environment_cases
  pub before_auth : run_case (begins fresh_session blank no_variables []) locked_lines ≡ wanted_from 2 locked_lines blank 0
  pub lent_rubbish : sent_with rubbish rubbish_lines ≡ wanted_of rubbish_lines
  pub lent_a_pair : sent_with one_kept kept_lines ≡ wanted_of kept_lines
  pub kept : take 43 (store_after (lent_first rubbish) start_lines) ≡ store_front
  pub emptied : take 8 (store_after (lent_first rubbish) rubbish_lines) ≡ 0 ∷ 0 ∷ 0 ∷ 0 ∷ 7 ∷ 7 ∷ 7 ∷ 7 ∷ []
