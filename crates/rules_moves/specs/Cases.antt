-- What a case is: a list of calls on a session whose client has just logged in, each request a record as it stands on the wire, each line with what comes of
-- it. All that is sent is compared, byte for byte, and so are the bytes taken or handed over, the destination, the cartridge and the tape's position. What is
-- expected is written out here, from 004's structures and numbers, and not by the definitions of replies, notices and codes.
use Rattle.std.specs.Prelude.{ℕ, zero, suc, ◌+◌, ◌-◌, ◌/◌, ◌%◌, Bool, true, false, List, [], ◌∷◌, ◌++◌, length, take, drop, replicate}
use Rattle.codes.specs.Codes.{store_length}
use Rattle.rules_parts.specs.declared.types.Session.{Session}
use Rattle.rules.specs.Answer.{Kept, Lent, held, Answered, answered}
use Rattle.rules.specs.Calls.{opening}
use Rattle.rules_moves.specs.Events.{Moving, moved_to_tape, moved_from_tape, method_ended, connection_made, connection_lost}

-- ---- the bytes of a record
-- words, each of four bytes, the most significant first
unfoldable pub words_bytes : List ℕ → List ℕ
words_bytes [] = []
words_bytes (v ∷ vs) = v / 0x100_0000 ∷ v / 0x1_0000 % 0x100 ∷ v / 0x100 % 0x100 ∷ v % 0x100 ∷ words_bytes vs

-- the mark; sequence, time stamp, type (0 request, 1 reply), message, reply sequence, error 0; the body, which is words
unfoldable pub wire : ℕ → ℕ → ℕ → ℕ → ℕ → List ℕ → List ℕ
wire sequence time kind message echo body = words_bytes ((0x8000_0018 + length (words_bytes body)) ∷ sequence ∷ time ∷ kind ∷ message ∷ echo ∷ 0 ∷ body)

-- two words that are a hyper
unfoldable pub wide : ℕ → List ℕ
wide v = v / 0x1_0000_0000 ∷ v % 0x1_0000_0000 ∷ []

-- ---- a line: what goes in, and what comes of it
-- a notice: its number, and the words of its body
pub data Notified : Type 0 where
  tell : ℕ → List ℕ → Notified

pub data CaseLine : Type 0 where
  -- a request: its number and the words of its body; the words of the reply's body, and the notices behind it
  Ask : ℕ → List ℕ → List ℕ → List Notified → CaseLine
  -- a request that is lent a list of addresses, which is words, and whether a connection was made
  AskLent : List ℕ → Bool → ℕ → List ℕ → List ℕ → List Notified → CaseLine
  -- a connection that was made, of the mover or else of the data end; one that was lost, and the notices
  Make : Bool → CaseLine
  Lose : Bool → List Notified → CaseLine
  -- a move to tape: so many bytes of what is left of the stream, the last part or not; how many are taken, and the notices
  Feed : ℕ → Bool → ℕ → List Notified → CaseLine
  -- a move from tape: the length of the destination; the bytes handed over, and the notices
  Fetch : ℕ → List ℕ → List Notified → CaseLine
  -- the method's end, in success or not; the notices
  End : Bool → List Notified → CaseLine
  -- another cartridge is put in: the one taken out, as it should be by then, and the one that the calls which follow are handed
  Insert : List ℕ → List ℕ → CaseLine

pub record Case : Type 0 where
  pub image : List ℕ
  pub stream : List ℕ
  pub lines : List CaseLine
  -- the cartridge and the tape's position at the end
  pub last : List ℕ
  pub position : ℕ

-- what is seen of a call: its code, all that is sent, the bytes taken or handed over, the destination (or the cartridge that is taken out)
pub record Shown : Type 0 where
  pub code : ℕ
  pub sent : List ℕ
  pub count : ℕ
  pub dest : List ℕ

pub record Final : Type 0 where
  pub shown : List Shown
  pub image : List ℕ
  pub position : ℕ

-- ---- what the definitions give
-- what is passed on, and what is left of the stream
pub record World : Type 0 where
  pub kept : Kept
  pub stream : List ℕ

pub record Ran : Type 0 where
  pub shown : Shown
  pub world : World

-- what is lent: one account by MD5, `v` and `pw`; a challenge, in words, the bytes 1 to 64; the time stamp; an output of 36,864 bytes
abbrev pub one_account : List ℕ
one_account =
    0 ∷ 0 ∷ 0 ∷ 1 ∷ 0 ∷ 0 ∷ 0 ∷ 2 ∷ 0 ∷ 0 ∷ 0 ∷ 1 ∷ 0x76 ∷ 0 ∷ 0 ∷ 0 ∷ 0 ∷ 0 ∷ 0 ∷ 2 ∷ 0x70 ∷ 0x77 ∷ 0 ∷ 0 ∷ []

abbrev pub known_challenge : List ℕ
known_challenge =
    0x0102_0304 ∷ 0x0506_0708 ∷ 0x090A_0B0C ∷ 0x0D0E_0F10 ∷ 0x1112_1314 ∷ 0x1516_1718 ∷ 0x191A_1B1C ∷ 0x1D1E_1F20
    ∷ 0x2122_2324 ∷ 0x2526_2728 ∷ 0x292A_2B2C ∷ 0x2D2E_2F30 ∷ 0x3132_3334 ∷ 0x3536_3738 ∷ 0x393A_3B3C ∷ 0x3D3E_3F40 ∷ []

abbrev pub stamp : ℕ
stamp = 33

abbrev pub lent_with : List ℕ → Bool → Lent
lent_with list made =
    record { accounts = one_account; challenge = words_bytes known_challenge; time = stamp; room = 36864; addresses = list; made = made }

abbrev pub lending : Lent
lending = lent_with [] false

-- a destination before a move
abbrev pub unused : ℕ → List ℕ
unused n = replicate n 0xEE

abbrev pub showing : Answered → ℕ → List ℕ → Shown
showing a count dest = record { code = a.code; sent = a.reply ++ a.notices; count = count; dest = dest }

abbrev pub calling : World → Answered → Ran
calling w a = record { shown = showing a 0 []; world = record { kept = a.next; stream = w.stream } }

abbrev pub moving : Moving → List ℕ → Ran
moving e stream = record { shown = showing e.answer e.count e.dest; world = record { kept = e.answer.next; stream = stream } }

-- the sequence number of every request, which its reply echoes; its time stamp is 5
abbrev pub echoed : ℕ
echoed = 7

-- the store that is lent: 16,384 zero bytes
abbrev pub no_variables : List ℕ
no_variables = replicate store_length 0

unfoldable pub run_line : World → CaseLine → Ran
run_line w (Ask message body reply notices) = calling w (answered w.kept lending (wire echoed 5 0 message 0 body))
run_line w (AskLent list made message body reply notices) =
    calling w (answered w.kept (lent_with (words_bytes list) made) (wire echoed 5 0 message 0 body))
run_line w (Make mover) = calling w (connection_made w.kept lending mover)
run_line w (Lose mover notices) = calling w (connection_lost w.kept lending mover)
run_line w (Feed n last taken notices) =
    let e = moved_to_tape w.kept lending (take n w.stream) last in
    moving e (drop e.count w.stream)
run_line w (Fetch n handed notices) = moving (moved_from_tape w.kept lending (unused n)) w.stream
run_line w (End ok notices) = calling w (method_ended w.kept lending ok)
run_line w (Insert out image) =
    let k = w.kept in
    record { shown = record { code = 0; sent = []; count = 0; dest = k.image }; world = record { kept = held k.session image k.variables; stream = w.stream } }

unfoldable pub run_case : World → List CaseLine → Final
run_case w [] = record { shown = []; image = w.kept.image; position = w.kept.session.tape.position }
run_case w (l ∷ ls) =
    let n = run_line w l in
    let r = run_case n.world ls in
    record { shown = n.shown ∷ r.shown; image = r.image; position = r.position }

-- what is passed on after so many lines
unfoldable pub kept_after : World → List CaseLine → Kept
kept_after w [] = w.kept
kept_after w (l ∷ ls) = kept_after (run_line w l).world ls

-- ---- where a case begins
-- the slot list that it begins with: one cartridge, in the drive
abbrev pub one_cartridge : List ℕ
one_cartridge = 1 ∷ 0 ∷ 0 ∷ 0 ∷ 0 ∷ 0 ∷ 0 ∷ 0 ∷ 0 ∷ []

-- a new session, of which nothing was asked
abbrev pub fresh_session : Session
fresh_session = (opening one_cartridge lending.time lending.room).next.session

-- "The vault numbers what it sends from 1": connection status, and the replies to CONNECT open, 0x103 and auth
abbrev pub next_number : ℕ
next_number = 5

-- the session of a client that has just logged in by MD5: both ends IDLE, no mode (2), the first record size, nothing open. `KnownSessionHolds` of
-- `rules_cases` says that those calls give it
abbrev pub known_session : Session
known_session =
    record {
      closed = false;
      first = false;
      login = record { authorized = true; challenged = true; challenge = words_bytes known_challenge };
      sequence = next_number;
      source = record { state = 0; operation = 0; reason = 0; address = 0; processed = 0 };
      mover = record { state = 0; mode = 2; pause = 0; halt = 0; size = 10240; address = 0; offset = 0; length = 0; moved = 0; seek = 0; left = 0; origin = 0 };
      tape = record { opened = false; writable = false; position = 0 };
      changer = record { opened = false; key = 0; code = 0; qualifier = 0; slots = one_cartridge };
    }

-- a session, and what is handed in with it: a cartridge, a store and a stream
abbrev pub begins : Session → List ℕ → List ℕ → List ℕ → World
begins s image variables stream = record { kept = held s image variables; stream = stream }

abbrev pub played : Case → Final
played c = run_case (begins known_session c.image no_variables c.stream) c.lines

-- ---- what they should give: n is the next number
-- notices: "type 0 with reply sequence 0"
unfoldable pub notices : ℕ → List Notified → List ℕ
notices n [] = []
notices n (tell message body ∷ ts) = wire n stamp 0 message 0 body ++ notices (n + 1) ts

abbrev pub shows : List ℕ → ℕ → List ℕ → Shown
shows sent count dest = record { code = 0; sent = sent; count = count; dest = dest }

unfoldable pub expect : ℕ → List CaseLine → List Shown
expect n [] = []
expect n (Ask message body reply told ∷ ls) =
    shows (wire n stamp 1 message echoed reply ++ notices (n + 1) told) 0 [] ∷ expect (n + 1 + length told) ls
expect n (AskLent list made message body reply told ∷ ls) =
    shows (wire n stamp 1 message echoed reply ++ notices (n + 1) told) 0 [] ∷ expect (n + 1 + length told) ls
expect n (Make mover ∷ ls) = shows [] 0 [] ∷ expect n ls
expect n (Lose mover told ∷ ls) = shows (notices n told) 0 [] ∷ expect (n + length told) ls
expect n (Feed m last taken told ∷ ls) = shows (notices n told) taken [] ∷ expect (n + length told) ls
expect n (Fetch m handed told ∷ ls) =
    shows (notices n told) (length handed) (handed ++ unused (m - length handed)) ∷ expect (n + length told) ls
expect n (End ok told ∷ ls) = shows (notices n told) 0 [] ∷ expect (n + length told) ls
expect n (Insert out image ∷ ls) = shows [] 0 out ∷ expect n ls

abbrev pub wanted_from : ℕ → List CaseLine → List ℕ → ℕ → Final
wanted_from n lines last position = record { shown = expect n lines; image = last; position = position }

abbrev pub wanted : Case → Final
wanted c = wanted_from next_number c.lines c.last c.position

abbrev pub all_played : List Case → List Final
all_played [] = []
all_played (c ∷ cs) = played c ∷ all_played cs

abbrev pub all_wanted : List Case → List Final
all_wanted [] = []
all_wanted (c ∷ cs) = wanted c ∷ all_wanted cs

-- ---- 004's numbers, as paper 01 has them
-- "Mover mode 0 goes to tape, 1 from tape"; a mover at rest has none, which is 2
abbrev pub to_tape_mode : ℕ
to_tape_mode = 0

abbrev pub from_tape_mode : ℕ
from_tape_mode = 1

abbrev pub no_mode : ℕ
no_mode = 2

-- "PAUSED EOM 1", "PAUSED EOF 2", "PAUSED SEEK 3", "PAUSED EOW 5"
abbrev pub eom : ℕ
eom = 1

abbrev pub eof : ℕ
eof = 2

abbrev pub seek : ℕ
seek = 3

abbrev pub eow : ℕ
eow = 5

-- why the mover halts: "CONNECT_CLOSED 1", "MEDIA_ERROR 5"
abbrev pub connect_closed : ℕ
connect_closed = 1

abbrev pub media_error : ℕ
media_error = 5

-- why data halts: "SUCCESSFUL 1", "INTERNAL_ERROR 3", "CONNECT_ERROR 4"
abbrev pub successful : ℕ
successful = 1

abbrev pub internal_error : ℕ
internal_error = 3

abbrev pub connect_error : ℕ
connect_error = 4

-- what the data end runs
abbrev pub backup_runs : ℕ
backup_runs = 1

abbrev pub recover_runs : ℕ
recover_runs = 2

-- "MTIO ops: 0 FSF, .. 2 FSR, .. 4 REW"
abbrev pub fsf : ℕ
fsf = 0

abbrev pub fsr : ℕ
fsr = 2

abbrev pub rew : ℕ
rew = 4

-- ---- lines of the cases
-- a request that gets the error word e and no more
abbrev pub says : ℕ → List ℕ → ℕ → CaseLine
says message body e = Ask message body (e ∷ []) []

abbrev pub size_line : ℕ → CaseLine
size_line n = says 0xA08 (n ∷ []) 0

abbrev pub window_line : ℕ → ℕ → ℕ → CaseLine
window_line offset length e = says 0xA05 (wide offset ++ wide length) e

-- tape open of `tape0`: mode 0 reads, 1 also writes
abbrev pub open_tape : ℕ → CaseLine
open_tape mode = says 0x300 (5 ∷ 0x7461_7065 ∷ 0x3000_0000 ∷ mode ∷ []) 0

-- MTIO: operation and count; error and residue
abbrev pub mtio : ℕ → ℕ → ℕ → ℕ → CaseLine
mtio op n e residue = Ask 0x303 (op ∷ n ∷ []) (e ∷ residue ∷ []) []

-- mover listen at LOCAL; the address told is LOCAL
abbrev pub listen : ℕ → ℕ → CaseLine
listen mode e = Ask 0xA01 (mode ∷ 0 ∷ []) (e ∷ 0 ∷ []) []

-- data connect at LOCAL
abbrev pub connect_line : CaseLine
connect_line = says 0x40A (0 ∷ []) 0

-- start backup by `dump` with no environment; start recover with no environment and no names, by `dump`
abbrev pub start_backup : CaseLine
start_backup = says 0x401 (4 ∷ 0x6475_6D70 ∷ 0 ∷ []) 0

abbrev pub start_recover : CaseLine
start_recover = says 0x402 (0 ∷ 0 ∷ 4 ∷ 0x6475_6D70 ∷ []) 0

-- mover read, continue, stop; data stop
abbrev pub read : ℕ → ℕ → CaseLine
read offset length = says 0xA06 (wide offset ++ wide length) 0

abbrev pub continue_line : CaseLine
continue_line = says 0xA02 [] 0

abbrev pub stop_mover : CaseLine
stop_mover = says 0xA04 [] 0

abbrev pub stop_data : CaseLine
stop_data = says 0x407 [] 0

-- mover paused: reason and seek position; "data first, mover second" where both halt
abbrev pub pause_notices : ℕ → ℕ → List Notified
pause_notices why at = tell 0x504 (why ∷ wide at) ∷ []

abbrev pub halt_notices : ℕ → ℕ → List Notified
halt_notices dwhy mwhy = tell 0x501 (dwhy ∷ []) ∷ tell 0x503 (mwhy ∷ []) ∷ []

-- mover close: its reply, then why each end halts
abbrev pub close_mover : ℕ → ℕ → CaseLine
close_mover dwhy mwhy = Ask 0xA07 [] (0 ∷ []) (halt_notices dwhy mwhy)

-- the mover's state with its pause and halt reason: IDLE 0, ACTIVE 2, PAUSED 3, HALTED 4
abbrev pub mover_idle_words : List ℕ
mover_idle_words = 0 ∷ 0 ∷ 0 ∷ []

abbrev pub active : List ℕ
active = 2 ∷ 0 ∷ 0 ∷ []

abbrev pub paused_for : ℕ → List ℕ
paused_for why = 3 ∷ why ∷ 0 ∷ []

abbrev pub halted_for : ℕ → List ℕ
halted_for why = 4 ∷ 0 ∷ why ∷ []

-- record size, record number and bytes moved; seek position and bytes left; window
abbrev pub counts : ℕ → ℕ → ℕ → List ℕ
counts size number moved = size ∷ number ∷ wide moved

abbrev pub reads : ℕ → ℕ → List ℕ
reads at left = wide at ++ wide left

abbrev pub window_words : ℕ → ℕ → List ℕ
window_words offset length = wide offset ++ wide length

-- mover get state; the address is LOCAL
abbrev pub mover_is : ℕ → List ℕ → List ℕ → List ℕ → List ℕ → CaseLine
mover_is mode state counted reading in-force = Ask 0xA00 [] (0 ∷ mode ∷ state ++ (counted ++ (reading ++ (in-force ++ (0 ∷ []))))) []

-- the data end's state with its halt reason: IDLE 0, ACTIVE 1, HALTED 2
abbrev pub data_idle_words : List ℕ
data_idle_words = 0 ∷ 0 ∷ []

abbrev pub data_active_words : List ℕ
data_active_words = 1 ∷ 0 ∷ []

abbrev pub data_halted_for : ℕ → List ℕ
data_halted_for why = 2 ∷ why ∷ []

-- data get state: what runs, state, bytes processed; its two estimates are marked unsupported (3), all else is zero
abbrev pub data_is : ℕ → List ℕ → ℕ → CaseLine
data_is operation state processed = Ask 0x400 [] (3 ∷ 0 ∷ operation ∷ state ++ (wide processed ++ replicate 8 0)) []

-- tape get state: file and block number
abbrev pub tape_is : ℕ → ℕ → CaseLine
tape_is file block = Ask 0x302 [] (0 ∷ 0 ∷ 0 ∷ file ∷ 0 ∷ 0 ∷ block ∷ 0 ∷ 0 ∷ 0 ∷ 0 ∷ []) []

-- ---- streams and cartridges
-- n bytes from i on, no two near ones alike
unfoldable pub streamed : ℕ → ℕ → List ℕ
streamed zero i = []
streamed (suc n) i = i % 251 ∷ streamed n (i + 1)

-- a cartridge: its words (1, C, n, bytes used, then length and start of each of C entries) and its body
abbrev pub cartridge : List ℕ → List ℕ → List ℕ
cartridge header body = words_bytes header ++ body
