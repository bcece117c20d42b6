-- The requests of the mover that are not joint (paper 01, "Data and mover states"). They see the mover and the tape.
use Rattle.std.specs.Prelude.{ℕ, ◌/◌, ◌%◌, Bool, false, not, List, [], ◌∷◌, eqb, ltb}
use Rattle.codes.specs.Codes.{permission_denied, not_open, illegal_arguments, illegal_state, read_in_progress, precondition}
use Rattle.xdr.specs.Choose.{choose}
use Rattle.wire_requests.specs.declared.MoverRequest.{MoverRequest}
use Rattle.wire_requests.specs.declared.MoverRequest.TheVariants.{State, Listen, Continue, Stop, Window, Read, Size}
use Rattle.wire_replies.specs.declared.MoverView.{MoverView}
use Rattle.wire_replies.specs.declared.Reply.TheVariants.{Plain, MoverState}
use Rattle.rules_parts.specs.declared.types.Mover.{Mover}
use Rattle.rules_parts.specs.declared.types.Tape.{Tape}
use Rattle.rules_parts.specs.Names.{mover_idle, mover_active, mover_paused, mover_halted, to_tape_mode, from_tape_mode, largest_size}
use Rattle.rules.specs.Addresses.{listen_wrong, listening}
use Rattle.rules.specs.Judge.{Test, test, Outcome, accept, judge}
use Rattle.rules_parts.specs.Parts.{rest_mover, mover_listens, mover_runs, mover_window, mover_size, mover_seeks, unwritable, is_past_top, length_wrong, told_in}

-- "record number is bytes moved divided by record size (0 if unset), modulo 2^32"
unfoldable pub record_number : ℕ → ℕ → ℕ
record_number moved size = choose (eqb size 0) 0 (moved / size % 4294967296)

-- "reasons only in their state"
abbrev pub mover_view : Mover → MoverView
mover_view m =
    record {
      mode = m.mode;
      state = m.state;
      pause = told_in mover_paused m.state m.pause;
      halt = told_in mover_halted m.state m.halt;
      size = m.size;
      address = m.address;
      number = record_number m.moved m.size;
      moved = m.moved;
      seek = m.seek;
      left = m.left;
      offset = m.offset;
      length = m.length;
    }

unfoldable pub mover_state : Mover → Outcome Mover
mover_state m = judge [] (accept (MoverState (mover_view m)) m)

-- a mode that goes to tape begins at 0
unfoldable pub offset_wrong : ℕ → ℕ → Bool
offset_wrong mode offset = choose (eqb mode to_tape_mode) (not (eqb offset 0)) false

-- What listen and connect ask of the mover. "mover listen, connect, continue with no tape: 6"; own end IDLE; mode 0 with a tape open
-- read-only: 5; "26 if record size or window is unset, or mode 0 with offset not 0"; an address that is wrong: 9; "Mover mode 0 goes to tape, 1 from
-- tape; others: 9."
abbrev pub join_tests : Mover → Tape → ℕ → Bool → List Test
join_tests m t mode wrong =
    test (not t.opened) not_open
    ∷ test (not (eqb m.state mover_idle)) illegal_state
    ∷ test (unwritable mode t.writable) permission_denied
    ∷ test (eqb m.size 0) precondition
    ∷ test (eqb m.length 0) precondition
    ∷ test (offset_wrong mode m.offset) precondition
    ∷ test wrong illegal_arguments
    ∷ test (ltb from_tape_mode mode) illegal_arguments
    ∷ []

unfoldable pub mover_listen : Mover → Tape → ℕ → ℕ → List ℕ → Outcome Mover
mover_listen m t mode address list =
    judge (join_tests m t mode (listen_wrong address list)) (accept (listening address) (mover_listens mode address m))

-- "Continue: PAUSED only; 26 if no window was set since the pause."
unfoldable pub mover_continue : Mover → Tape → Outcome Mover
mover_continue m t =
    judge
    (test (not t.opened) not_open
    ∷ test (not (eqb m.state mover_paused)) illegal_state
    ∷ test (unwritable m.mode t.writable) permission_denied
    ∷ test (eqb m.length 0) precondition
    ∷ [])
    (accept Plain (mover_runs m.mode m.address t.position m))

-- "Stop: HALTED to IDLE, all variables of its own end reset but the record size."
unfoldable pub mover_stop : Mover → Outcome Mover
mover_stop m = judge (test (not (eqb m.state mover_halted)) illegal_state ∷ []) (accept Plain (rest_mover m.size))

-- neither IDLE nor PAUSED
unfoldable pub busy : ℕ → Bool
busy state = choose (eqb state mover_idle) false (not (eqb state mover_paused))

-- "PAUSED in mode 0 an offset other than bytes moved"
unfoldable pub elsewhere : ℕ → ℕ → ℕ → ℕ → Bool
elsewhere state mode moved offset = choose (eqb state mover_paused) (choose (eqb mode to_tape_mode) (not (eqb offset moved)) false) false

-- "Set window: IDLE or PAUSED. Record size 0: 26. 9: length 0, offset or length no multiple of the record size, offset + length above
-- 2^64 - 1, or PAUSED in mode 0 an offset other than bytes moved." 02 No. 1: of the length all ones "the offset must still be a multiple"
unfoldable pub set_window : Mover → ℕ → ℕ → Outcome Mover
set_window m offset length =
    judge
    (test (busy m.state) illegal_state
    ∷ test (eqb m.size 0) precondition
    ∷ test (eqb length 0) illegal_arguments
    ∷ test (not (eqb (offset % m.size) 0)) illegal_arguments
    ∷ test (length_wrong m.size offset length) illegal_arguments
    ∷ test (elsewhere m.state m.mode m.moved offset) illegal_arguments
    ∷ [])
    (accept Plain (mover_window offset length m))

-- "Mover read: ACTIVE in mode 1, else 19; length 0 or offset + length above 2^64 - 1: 9." "25: mover read with bytes still left to read"
unfoldable pub mover_read : Mover → ℕ → ℕ → Outcome Mover
mover_read m offset length =
    judge
    (test (not (eqb m.state mover_active)) illegal_state
    ∷ test (not (eqb m.mode from_tape_mode)) illegal_state
    ∷ test (eqb length 0) illegal_arguments
    ∷ test (is_past_top offset length) illegal_arguments
    ∷ test (not (eqb m.left 0)) read_in_progress
    ∷ [])
    (accept Plain (mover_seeks offset length m))

-- "Set record size: IDLE only, 1 to 32,768 (else 9)"
unfoldable pub set_size : Mover → ℕ → Outcome Mover
set_size m size =
    judge (test (not (eqb m.state mover_idle)) illegal_state ∷ test (eqb size 0) illegal_arguments ∷ test (ltb largest_size size) illegal_arguments ∷ [])
    (accept Plain (mover_size size m))

-- the mover step: the mover, the tape, the request, and the list that a listen by TCP is lent
unfoldable pub mover_step : Mover → Tape → MoverRequest → List ℕ → Outcome Mover
mover_step m t State list = mover_state m
mover_step m t (Listen mode address) list = mover_listen m t mode address list
mover_step m t Continue list = mover_continue m t
mover_step m t Stop list = mover_stop m
mover_step m t (Window offset length) list = set_window m offset length
mover_step m t (Read offset length) list = mover_read m offset length
mover_step m t (Size size) list = set_size m size
