-- The states and codes of the session's parts, and the states that they begin with.
use Rattle.std.specs.Prelude.{ℕ, ◌+◌, ◌-◌, ◌%◌, Bool, true, false, not, List, replicate, ◌==◌, nat_lt}
use Rattle.codes.specs.Codes.{local_address, tcp_address, challenge_length}
use Rattle.xdr.specs.Choose.{choose}
use Rattle.rules_parts.specs.declared.types.Data.{Data}
use Rattle.rules_parts.specs.declared.types.Mover.{Mover}
use Rattle.rules_parts.specs.declared.types.Tape.{Tape}
use Rattle.rules_parts.specs.declared.types.Changer.{Changer}
use Rattle.rules_parts.specs.declared.types.Login.{Login}
use Rattle.rules_parts.specs.declared.types.Session.{Session}
use Rattle.rules_parts.specs.Names.{data_idle, data_active, data_halted, data_connected, mover_idle, mover_listening, mover_active, mover_paused, mover_halted, to_tape_mode, no_mode, no_operation, first_size, top, endless}

-- the data end at rest
abbrev pub rest_data : Data
rest_data = record { state = data_idle; operation = no_operation; reason = 0; address = local_address; processed = 0 }

-- the mover at rest, with its record size
abbrev pub rest_mover : ℕ → Mover
rest_mover size =
    record { state = mover_idle; mode = no_mode; pause = 0; halt = 0; size = size; address = local_address; offset = 0; length = 0; moved = 0; seek = 0; left = 0; origin = 0 }

abbrev pub closed_tape : Tape
closed_tape = record { opened = false; writable = false; position = 0 }

-- the changer before it was ever opened, with a slot list
abbrev pub closed_changer : List ℕ → Changer
closed_changer slots = record { opened = false; key = 0; code = 0; qualifier = 0; slots = slots }

-- nobody has logged in, and no challenge was given
abbrev pub no_login : Login
no_login = record { authorized = false; challenged = false; challenge = replicate challenge_length 0 }

-- a session with nothing in it yet but the first record size and the slot list
abbrev pub new_session : Bool → ℕ → List ℕ → Session
new_session closed sequence slots =
    record { closed = closed; first = true; login = no_login; sequence = sequence; source = rest_data; mover = rest_mover first_size; tape = closed_tape; changer = closed_changer slots }

-- ---- changes of the session: other parts; and a message more. "after 4,294,967,295 comes 0"
abbrev pub with_parts : Session → Login → Data → Mover → Tape → Changer → Session
with_parts s g d m t c = record { closed = s.closed; first = s.first; login = g; sequence = s.sequence; source = d; mover = m; tape = t; changer = c }

abbrev pub after_message : Session → Bool → Session
after_message s first =
    record { closed = s.closed; first = first; login = s.login; sequence = (s.sequence + 1) % 4294967296; source = s.source; mover = s.mover; tape = s.tape; changer = s.changer }

-- "Closing changes nothing else"
abbrev pub shut : Session → Session
shut s = record { closed = true; first = s.first; login = s.login; sequence = s.sequence; source = s.source; mover = s.mover; tape = s.tape; changer = s.changer }

-- ---- changes of the login
-- a login does not use the challenge up
abbrev pub logged_in : Login → Login
logged_in g = record { authorized = true; challenged = g.challenged; challenge = g.challenge }

-- "The newest challenge is the one judged."
abbrev pub challenged_by : List ℕ → Login → Login
challenged_by challenge g = record { authorized = g.authorized; challenged = true; challenge = challenge }

-- ---- changes of the changer
-- no sense is pending, open or closed
abbrev pub clear_changer : Bool → Changer → Changer
clear_changer opened c = record { opened = opened; key = 0; code = 0; qualifier = 0; slots = c.slots }

-- a sense becomes pending
abbrev pub changer_refused : ℕ → ℕ → ℕ → Changer → Changer
changer_refused key code qualifier c = record { opened = c.opened; key = key; code = code; qualifier = qualifier; slots = c.slots }

-- 02 No. 7: a move gives the next slot list, and keeps the pending sense
abbrev pub changer_holds : List ℕ → Changer → Changer
changer_holds slots c = record { opened = c.opened; key = c.key; code = c.code; qualifier = c.qualifier; slots = slots }

-- ---- changes of the data end
-- it listens or is joined, by an address of a type
abbrev pub data_to : ℕ → ℕ → Data → Data
data_to state address d = record { state = state; operation = d.operation; reason = d.reason; address = address; processed = d.processed }

abbrev pub data_starts : ℕ → Data → Data
data_starts operation d = record { state = data_active; operation = operation; reason = d.reason; address = d.address; processed = d.processed }

abbrev pub data_halts : ℕ → Data → Data
data_halts why d = record { state = data_halted; operation = d.operation; reason = why; address = d.address; processed = d.processed }

-- ---- changes of the mover
abbrev pub mover_listens : ℕ → ℕ → Mover → Mover
mover_listens mode address m =
    record { state = mover_listening; mode = mode; pause = m.pause; halt = m.halt; size = m.size; address = address; offset = m.offset; length = m.length; moved = m.moved; seek = m.seek; left = m.left; origin = m.origin }

-- it becomes ACTIVE with the tape at a position, which "stands for the window's offset"
abbrev pub mover_runs : ℕ → ℕ → ℕ → Mover → Mover
mover_runs mode address position m =
    record { state = mover_active; mode = mode; pause = 0; halt = m.halt; size = m.size; address = address; offset = m.offset; length = m.length; moved = m.moved; seek = m.seek; left = m.left; origin = position }

-- "A pause voids the window."
abbrev pub mover_pauses : ℕ → Mover → Mover
mover_pauses why m =
    record { state = mover_paused; mode = m.mode; pause = why; halt = m.halt; size = m.size; address = m.address; offset = 0; length = 0; moved = m.moved; seek = m.seek; left = m.left; origin = m.origin }

abbrev pub mover_halts : ℕ → Mover → Mover
mover_halts why m =
    record { state = mover_halted; mode = m.mode; pause = 0; halt = why; size = m.size; address = m.address; offset = m.offset; length = m.length; moved = m.moved; seek = m.seek; left = m.left; origin = m.origin }

abbrev pub mover_window : ℕ → ℕ → Mover → Mover
mover_window offset length m =
    record { state = m.state; mode = m.mode; pause = m.pause; halt = m.halt; size = m.size; address = m.address; offset = offset; length = length; moved = m.moved; seek = m.seek; left = m.left; origin = m.origin }

-- "an accepted call voids the window, also with the same size"
abbrev pub mover_size : ℕ → Mover → Mover
mover_size size m =
    record { state = m.state; mode = m.mode; pause = m.pause; halt = m.halt; size = size; address = m.address; offset = 0; length = 0; moved = m.moved; seek = m.seek; left = m.left; origin = m.origin }

-- "It sets seek position and bytes left."
abbrev pub mover_seeks : ℕ → ℕ → Mover → Mover
mover_seeks seek left m =
    record { state = m.state; mode = m.mode; pause = m.pause; halt = m.halt; size = m.size; address = m.address; offset = m.offset; length = m.length; moved = m.moved; seek = seek; left = left; origin = m.origin }

-- ---- what moved bytes change. "Both are taken modulo 2^64"
abbrev pub wrapped : ℕ → ℕ
wrapped n = n % 18446744073709551616

-- n bytes of the stream were processed
abbrev pub data_fed : ℕ → Data → Data
data_fed n d = record { state = d.state; operation = d.operation; reason = d.reason; address = d.address; processed = wrapped (d.processed + n) }

-- "Bytes moved counts whole records to tape"
abbrev pub mover_records : Mover → Mover
mover_records m =
    record { state = m.state; mode = m.mode; pause = m.pause; halt = m.halt; size = m.size; address = m.address; offset = m.offset; length = m.length; moved = wrapped (m.moved + m.size); seek = m.seek; left = m.left; origin = m.origin }

-- "bytes handed over from tape": "handed over, added to seek position, taken off bytes left"
abbrev pub mover_hands : ℕ → Mover → Mover
mover_hands n m =
    record { state = m.state; mode = m.mode; pause = m.pause; halt = m.halt; size = m.size; address = m.address; offset = m.offset; length = m.length; moved = wrapped (m.moved + n); seek = m.seek + n; left = m.left - n; origin = m.origin }

-- where a window ends; the end itself is outside. 02 No. 1: all ones is "a window from the offset up to stream position 2^64 - 1, itself
-- outside, whatever the record size"
unfoldable pub window_end : ℕ → ℕ → ℕ
window_end offset length = choose (length == endless) top (offset + length)

-- "offset + length above 2^64 - 1"
unfoldable pub is_past_top : ℕ → ℕ → Bool
is_past_top offset length = nat_lt top (offset + length)

-- "length no multiple of the record size, offset + length above 2^64 - 1"; 02 No. 1: "9 no longer tests this length or its sum". What is
-- left of it there is that the offset is a position, as every hyper is
unfoldable pub length_wrong : ℕ → ℕ → ℕ → Bool
length_wrong size offset length =
    choose (length == endless) (nat_lt top offset)
    (choose (not (length % size == 0)) true
    (is_past_top offset length))

-- "reasons only in their state"
unfoldable pub told_in : ℕ → ℕ → ℕ → ℕ
told_in at state reason = choose (state == at) reason 0

-- "Data is CONNECTED or ACTIVE exactly when the mover is ACTIVE or PAUSED; then they are joined."
unfoldable pub data_joined : ℕ → Bool
data_joined state = choose (state == data_active) true (state == data_connected)

unfoldable pub mover_joined : ℕ → Bool
mover_joined state = choose (state == mover_active) true (state == mover_paused)

-- 02 No. 14: "A vault end joined by TCP has no local partner, so 01's rules on joined ends .. hold for LOCAL only": joined with the other end
unfoldable pub data_partnered : Data → Bool
data_partnered d = choose (d.address == local_address) (data_joined d.state) false

unfoldable pub mover_partnered : Mover → Bool
mover_partnered m = choose (m.address == local_address) (mover_joined m.state) false

-- 02 No. 14: an address type is LOCAL or TCP; and TCP is wrong where it is of no use: in a listen or connect without an address, at an end in IDLE
unfoldable pub address_wrong : ℕ → Bool → Bool
address_wrong address useless =
    choose (address == local_address) false
    (choose (address == tcp_address) useless
    true)

-- the mover holds the tape: LISTEN or ACTIVE
unfoldable pub holds_tape : ℕ → Bool
holds_tape state = choose (state == mover_listening) true (state == mover_active)

-- a mode that goes to tape, with a tape that is open read-only
unfoldable pub unwritable : ℕ → Bool → Bool
unwritable mode writable = choose (mode == to_tape_mode) (not writable) false
