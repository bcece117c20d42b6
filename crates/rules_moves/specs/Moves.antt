-- Moving bytes (paper 01, "Moving bytes"): one move to tape, one move from tape, the method's end. Each is a chain of tests in paper 01's
-- order; the first that applies decides.
use Rattle.std.specs.Prelude.{ℕ, zero, suc, ◌+◌, ◌-◌, ◌/◌, ◌%◌, Bool, true, false, not, List, ◌≡◌, length, take, drop, eqb, ltb}
use Rattle.codes.specs.Codes.{tcp_address}
use Rattle.xdr.specs.Choose.{choose, least}
use Rattle.xdr.specs.Xdr.{overlay}
use Rattle.tape_image.specs.Image.{count, entry_len, entry_bytes, faulty}
use Rattle.tape_writing.specs.Writing.{room_for, written, fill_to}
use Rattle.tape_ops.specs.Step.{Step, keeping}
use Rattle.rules_parts.specs.declared.types.Data.{Data}
use Rattle.rules_parts.specs.declared.types.Mover.{Mover}
use Rattle.rules_parts.specs.declared.types.Tape.{Tape}
use Rattle.rules_parts.specs.Names.{data_active, data_listening, data_connected, mover_listening, mover_active, to_tape_mode, from_tape_mode, backup_operation, recover_operation}
use Rattle.rules_parts.specs.Names.{data_successful, data_internal_error, data_connect_error, mover_connect_closed, mover_media_error, end_of_medium, end_of_file, seek_outside, end_of_window}
use Rattle.rules_parts.specs.Parts.{data_to, data_halts, data_fed, data_joined, mover_joined, mover_runs, mover_pauses, mover_halts, mover_records, mover_hands, window_end}
use Rattle.rules.specs.TapeService.{moved_to}
use Rattle.rules_moves.specs.declared.Move.{Move}
use Rattle.rules_moves.specs.declared.Found.{Found}

-- 02 No. 14: an end joined by TCP "has no local partner"
abbrev pub by_tcp : ℕ → Bool
by_tcp address = eqb address tcp_address

-- n bytes of the stream were processed: of the joined data end. "A vault end joined by TCP has no local partner", so that no data end's count moves with
-- such a mover
unfoldable pub fed_with : Mover → ℕ → Data → Data
fed_with m n d = choose (by_tcp m.address) d (data_fed n d)

-- ---- what a move can come to
abbrev pub still : Data → Mover → Tape → Move
still d m t = record { count = 0; dwhy = 0; mwhy = 0; pause = 0; source = d; mover = m; tape = t }

abbrev pub pauses : ℕ → Data → Mover → Tape → Move
pauses why d m t = record { count = 0; dwhy = 0; mwhy = 0; pause = why; source = d; mover = mover_pauses why m; tape = t }

abbrev pub halts : ℕ → ℕ → Data → Mover → Tape → Move
halts dwhy mwhy d m t = record { count = 0; dwhy = dwhy; mwhy = mwhy; pause = 0; source = data_halts dwhy d; mover = mover_halts mwhy m; tape = t }

-- one end alone
abbrev pub halts_source : ℕ → Data → Mover → Tape → Move
halts_source why d m t = record { count = 0; dwhy = why; mwhy = 0; pause = 0; source = data_halts why d; mover = m; tape = t }

abbrev pub halts_mover : ℕ → Data → Mover → Tape → Move
halts_mover why d m t = record { count = 0; dwhy = 0; mwhy = why; pause = 0; source = d; mover = mover_halts why m; tape = t }

-- a move's halt: of both ends, or, where the mover is joined by TCP, of the mover: "any halt is of one end"
unfoldable pub halts_with : ℕ → ℕ → Data → Mover → Tape → Move
halts_with dwhy mwhy d m t = choose (by_tcp m.address) (halts_mover mwhy d m t) (halts dwhy mwhy d m t)

-- a record to tape, n of whose bytes are the stream's: processed "leaves the fill out"
abbrev pub takes : ℕ → Data → Mover → Tape → Move
takes n d m t = record { count = n; dwhy = 0; mwhy = 0; pause = 0; source = fed_with m n d; mover = mover_records m; tape = moved_to (t.position + 1) t }

-- n bytes of record i from tape: "the tape stands after that record"
abbrev pub hands : ℕ → ℕ → Data → Mover → Tape → Move
hands n i d m t = record { count = n; dwhy = 0; mwhy = 0; pause = 0; source = fed_with m n d; mover = mover_hands n m; tape = moved_to (i + 1) t }

-- ---- to tape
-- "mover not ACTIVE in mode 0, or data not ACTIVE in a backup"; and likewise from tape, with mode 1 and a recover. 02 No. 14, of a mover joined by TCP: "a
-- move asks only that the mover be ACTIVE in its mode"
unfoldable pub idle : ℕ → ℕ → Data → Mover → Bool
idle mode operation d m =
    choose (not (eqb m.state mover_active)) true
    (choose (not (eqb m.mode mode)) true
    (choose (by_tcp m.address) false
    (choose (not (eqb d.state data_active)) true
    (not (eqb d.operation operation)))))

-- "stream part empty and marked last"
unfoldable pub stream_ends : Bool → ℕ → Bool
stream_ends last n = choose last (eqb n 0) false

-- "less than a record and not last"
unfoldable pub scant : Bool → ℕ → ℕ → Bool
scant last n size = choose last false (ltb n size)

-- "one record is taken and written, the last short one filled with zeros"
abbrev pub writing : Data → Mover → Tape → List ℕ → List ℕ → Step Move
writing d m t l s =
    record {
      gives = takes (least (length s) m.size) d m t;
      image = written l t.position (fill_to (take (least (length s) m.size) s) m.size);
    }

-- "bytes moved at the window's end"; 02 No. 1: "also where a whole record more would pass that end"
unfoldable pub window_used : ℕ → ℕ → ℕ → ℕ → Bool
window_used size offset length moved = choose (eqb moved (window_end offset length)) true (ltb (window_end offset length) (moved + size))

-- rules (4) to (7): "(4) bytes moved at the window's end: PAUSED EOW 5; (5) less than a record and not last: nothing; (6) no room: PAUSED
-- EOM 1; (7) one record is taken and written"
unfoldable pub filling : Data → Mover → Tape → List ℕ → List ℕ → Bool → Step Move
filling d m t l s last =
    choose (window_used m.size m.offset m.length m.moved) (keeping l (pauses end_of_window d m t))
    (choose (scant last (length s) m.size) (keeping l (still d m t))
    (choose (not (room_for l t.position m.size)) (keeping l (pauses end_of_medium d m t))
    (writing d m t l s)))

-- "To tape, first that applies: (1) mover not ACTIVE in mode 0, or data not ACTIVE in a backup: nothing; (2) image unsound or position
-- above n: mover halts MEDIA_ERROR 5, data CONNECT_ERROR; (3) stream part empty and marked last: data halts SUCCESSFUL 1, mover
-- CONNECT_CLOSED", then (4) to (7)
unfoldable pub to_tape : Data → Mover → Tape → List ℕ → List ℕ → Bool → Step Move
to_tape d m t l s last =
    choose (idle to_tape_mode backup_operation d m) (keeping l (still d m t))
    (choose (faulty l t.position) (keeping l (halts_with data_connect_error mover_media_error d m t))
    (choose (stream_ends last (length s)) (keeping l (halts_with data_successful mover_connect_closed d m t))
    (filling d m t l s last)))

-- ---- from tape
-- "seek position outside the window"
unfoldable pub outside : ℕ → ℕ → ℕ → Bool
outside seek offset length = choose (ltb seek offset) true (not (ltb seek (window_end offset length)))

-- the record of the window that the seek position is in, counted from the window's start, and the place in it
abbrev pub ordinal : Mover → ℕ
ordinal m = (m.seek - m.offset) / m.size

abbrev pub in_record : Mover → ℕ
in_record m = (m.seek - m.offset) % m.size

-- "Walking from there (each record passed counts one record size)": `ahead` entries from entry i on, and k records to pass
unfoldable pub seek_from : List ℕ → ℕ → ℕ → ℕ → Found
seek_from l zero i k = Found.End
seek_from l (suc ahead) i k =
    choose (eqb (entry_len l i) 0) (Found.Mark (i + 1)) (choose (eqb k 0) (Found.Target i) (seek_from l ahead (i + 1) (k - 1)))

-- "the least of bytes left, rest of that record and destination room"
unfoldable pub amount : Mover → ℕ → ℕ
amount m room = least (least m.left (m.size - in_record m)) room

-- a move's result, and the destination after it
pub record Handing : Type 0 where
  pub move : Move
  pub dest : List ℕ

abbrev pub untouched : List ℕ → Move → Handing
untouched b r = record { move = r; dest = b }

-- "a target record of another length the halt of (2), tape unmoved. Otherwise the least .. is handed over"
unfoldable pub reading : ℕ → Data → Mover → Tape → List ℕ → List ℕ → Handing
reading i d m t l b =
    choose (not (eqb (entry_len l i) m.size)) (untouched b (halts_with data_connect_error mover_media_error d m t))
    (record {
      move = hands (amount m (length b)) i d m t;
      dest = overlay 0 (take (amount m (length b)) (drop (in_record m) (entry_bytes l i))) b;
    })

-- "a mark gives PAUSED EOF 2 (tape after the mark), the end PAUSED EOM (tape at the end)"
unfoldable pub on_found : Found → Data → Mover → Tape → List ℕ → List ℕ → Handing
on_found (Found.Target i) d m t l b = reading i d m t l b
on_found (Found.Mark j) d m t l b = untouched b (pauses end_of_file d m (moved_to j t))
on_found Found.End d m t l b = untouched b (pauses end_of_medium d m (moved_to (count l) t))

-- "The tape position when the mover became ACTIVE stands for the window's offset."
abbrev pub sought : Mover → List ℕ → Found
sought m l = seek_from l (count l - m.origin) m.origin (ordinal m)

-- "seek position outside the window: PAUSED SEEK 3", then the walk
unfoldable pub seeking : Data → Mover → Tape → List ℕ → List ℕ → Handing
seeking d m t l b =
    choose (outside m.seek m.offset m.length) (untouched b (pauses seek_outside d m t))
    (on_found (sought m l) d m t l b)

-- "From tape (mover ACTIVE in mode 1, data ACTIVE in a recover; otherwise nothing): fault as (2); nothing left to read or no destination
-- room: nothing", then the seek position
unfoldable pub from_tape : Data → Mover → Tape → List ℕ → List ℕ → Handing
from_tape d m t l b =
    choose (idle from_tape_mode recover_operation d m) (untouched b (still d m t))
    (choose (faulty l t.position) (untouched b (halts_with data_connect_error mover_media_error d m t))
    (choose (eqb m.left 0) (untouched b (still d m t))
    (choose (eqb (length b) 0) (untouched b (still d m t))
    (seeking d m t l b))))

-- what it is for code to move from tape: the result and the destination are the definition's
pub record HandedAs (st : Handing) (r : Move) (b' : List ℕ) : Type 0 where
  pub is : r ≡ st.move
  pub dest : b' ≡ st.dest

-- ---- "The method's end, while data is ACTIVE, halts it SUCCESSFUL or INTERNAL_ERROR 3 and the mover CONNECT_CLOSED; otherwise it does nothing." By TCP
-- it halts data alone
unfoldable pub method_end : Bool → Data → Mover → Tape → Move
method_end ok d m t =
    let why = choose ok data_successful data_internal_error in
    choose (eqb d.state data_active) (choose (by_tcp d.address) (halts_source why d m t) (halts why mover_connect_closed d m t)) (still d m t)

-- ---- 02 No. 14: "events naming an end report made where it listens by TCP, lost where it is joined so; elsewhere they do nothing." An event names the
-- mover, or else the data end
abbrev pub source_made : Data → Mover → Tape → Move
source_made d m t = record { count = 0; dwhy = 0; mwhy = 0; pause = 0; source = data_to data_connected d.address d; mover = m; tape = t }

abbrev pub mover_made : Data → Mover → Tape → Move
mover_made d m t = record { count = 0; dwhy = 0; mwhy = 0; pause = 0; source = d; mover = mover_runs m.mode m.address t.position m; tape = t }

-- an end in a state, by TCP
unfoldable pub at_tcp : ℕ → Bool → Bool
at_tcp address there = choose (by_tcp address) there false

-- "Made joins as a connect does"
unfoldable pub made_at : Bool → Data → Mover → Tape → Move
made_at true d m t = choose (at_tcp m.address (eqb m.state mover_listening)) (mover_made d m t) (still d m t)
made_at false d m t = choose (at_tcp d.address (eqb d.state data_listening)) (source_made d m t) (still d m t)

-- "lost halts as the partner's abort": "data halts CONNECT_ERROR 4, mover halts CONNECT_CLOSED 1"
unfoldable pub lost_at : Bool → Data → Mover → Tape → Move
lost_at true d m t = choose (at_tcp m.address (mover_joined m.state)) (halts_mover mover_connect_closed d m t) (still d m t)
lost_at false d m t = choose (at_tcp d.address (data_joined d.state)) (halts_source data_connect_error d m t) (still d m t)
