-- Numbers of paper 01 by name. An abbrev unfolds wherever it stands, so that no proof sees a name.
use Rattle.std.specs.Prelude.{◌≡◌, ℕ, [], ◌∷◌}
use Rattle.codes.specs.Codes.{largest_message, longest_record}

-- "Data: IDLE 0, ACTIVE 1, HALTED 2, LISTEN 3, CONNECTED 4."
abbrev pub data_idle : ℕ
data_idle = 0

abbrev pub data_active : ℕ
data_active = 1

abbrev pub data_halted : ℕ
data_halted = 2

abbrev pub data_listening : ℕ
data_listening = 3

abbrev pub data_connected : ℕ
data_connected = 4

-- "Mover: IDLE 0, LISTEN 1, ACTIVE 2, PAUSED 3, HALTED 4."
abbrev pub mover_idle : ℕ
mover_idle = 0

abbrev pub mover_listening : ℕ
mover_listening = 1

abbrev pub mover_active : ℕ
mover_active = 2

abbrev pub mover_paused : ℕ
mover_paused = 3

abbrev pub mover_halted : ℕ
mover_halted = 4

-- "Mover mode 0 goes to tape, 1 from tape"; a mover at rest has none
abbrev pub to_tape_mode : ℕ
to_tape_mode = 0

abbrev pub from_tape_mode : ℕ
from_tape_mode = 1

abbrev pub no_mode : ℕ
no_mode = 2

-- why data halts, why the mover halts
abbrev pub data_successful : ℕ
data_successful = 1

abbrev pub data_aborted_reason : ℕ
data_aborted_reason = 2

abbrev pub data_internal_error : ℕ
data_internal_error = 3

abbrev pub data_connect_error : ℕ
data_connect_error = 4

abbrev pub mover_connect_closed : ℕ
mover_connect_closed = 1

abbrev pub mover_aborted_reason : ℕ
mover_aborted_reason = 2

abbrev pub mover_media_error : ℕ
mover_media_error = 5

-- why the mover pauses
abbrev pub end_of_medium : ℕ
end_of_medium = 1

abbrev pub end_of_file : ℕ
end_of_file = 2

abbrev pub seek_outside : ℕ
seek_outside = 3

abbrev pub end_of_window : ℕ
end_of_window = 5

-- what the data end runs
abbrev pub no_operation : ℕ
no_operation = 0

abbrev pub backup_operation : ℕ
backup_operation = 1

abbrev pub recover_operation : ℕ
recover_operation = 2

-- "Tape open: mode 0 reads, 1 also writes"
abbrev pub read_write : ℕ
read_write = 1

-- ---- limits
-- "1001 if the output is under 36,864 bytes"
abbrev pub least_room : ℕ
least_room = largest_message

-- "Set record size: .. 1 to 32,768": the longest record of a cartridge
abbrev pub largest_size : ℕ
largest_size = longest_record

-- paper 02, No. 9: "The first value becomes 10,240": the record size of a new session
abbrev pub first_size : ℕ
first_size = 10240

-- "CDB length 0 or above 16: 9."
abbrev pub longest_cdb : ℕ
longest_cdb = 16

-- 2^64 - 1
abbrev pub top : ℕ
top = 18446744073709551615

-- 02 No. 1: "a window of length 18446744073709551615, all ones, meaning 'until I pause you'"
abbrev pub endless : ℕ
endless = 18446744073709551615

-- ---- that the names stand for these numbers
pub record NamesAre : Type 0 where
  -- IDLE, ACTIVE, HALTED, LISTEN, CONNECTED
  pub source_states : data_idle ∷ data_active ∷ data_halted ∷ data_listening ∷ data_connected ∷ [] ≡ 0 ∷ 1 ∷ 2 ∷ 3 ∷ 4 ∷ []
  -- IDLE, LISTEN, ACTIVE, PAUSED, HALTED
  pub mover_states : mover_idle ∷ mover_listening ∷ mover_active ∷ mover_paused ∷ mover_halted ∷ [] ≡ 0 ∷ 1 ∷ 2 ∷ 3 ∷ 4 ∷ []
  -- to tape, from tape, none; tape mode read and write
  pub modes : to_tape_mode ∷ from_tape_mode ∷ no_mode ∷ read_write ∷ [] ≡ 0 ∷ 1 ∷ 2 ∷ 1 ∷ []
  -- data: SUCCESSFUL, ABORTED, INTERNAL_ERROR, CONNECT_ERROR
  pub source_halts : data_successful ∷ data_aborted_reason ∷ data_internal_error ∷ data_connect_error ∷ [] ≡ 1 ∷ 2 ∷ 3 ∷ 4 ∷ []
  -- mover: CONNECT_CLOSED, ABORTED, MEDIA_ERROR
  pub mover_halts : mover_connect_closed ∷ mover_aborted_reason ∷ mover_media_error ∷ [] ≡ 1 ∷ 2 ∷ 5 ∷ []
  -- EOM, EOF, SEEK, EOW
  pub pauses : end_of_medium ∷ end_of_file ∷ seek_outside ∷ end_of_window ∷ [] ≡ 1 ∷ 2 ∷ 3 ∷ 5 ∷ []
  -- no action, backup, recover
  pub operations : no_operation ∷ backup_operation ∷ recover_operation ∷ [] ≡ 0 ∷ 1 ∷ 2 ∷ []
  pub limits : least_room ∷ largest_size ∷ first_size ∷ longest_cdb ∷ top ∷ endless ∷ []
      ≡ 36864 ∷ 32768 ∷ 10240 ∷ 16 ∷ 18446744073709551615 ∷ 18446744073709551615 ∷ []
