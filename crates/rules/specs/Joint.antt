-- The joint requests: those that can read or change both ends (paper 01, "Data and mover states"). They see both ends and the tape.
use Rattle.std.specs.Prelude.{ℕ, Bool, true, false, not, [], ◌∷◌, ◌++◌, eqb}
use Rattle.codes.specs.Codes.{local_address, tcp_address, illegal_arguments, illegal_state, other_not_listening}
use Rattle.xdr.specs.Choose.{choose}
use Rattle.wire_requests.specs.declared.JointRequest.{JointRequest}
use Rattle.wire_requests.specs.declared.JointRequest.TheVariants.{DataAbort, DataConnect, MoverAbort, MoverClose, MoverConnect}
use Rattle.wire_replies.specs.declared.Reply.TheVariants.{Plain}
use Rattle.rules_parts.specs.declared.types.Data.{Data}
use Rattle.rules_parts.specs.declared.types.Mover.{Mover}
use Rattle.rules_parts.specs.declared.types.Tape.{Tape}
use Rattle.rules.specs.declared.Ends.{Ends}
use Rattle.rules_parts.specs.Names.{data_idle, data_halted, data_listening, data_connected, mover_idle, mover_listening, mover_paused, mover_halted, data_aborted_reason, data_connect_error, mover_connect_closed, mover_aborted_reason}
use Rattle.rules.specs.Judge.{test, Outcome, accept, judge}
use Rattle.rules_parts.specs.Parts.{data_to, data_halts, mover_runs, mover_halts, data_partnered, mover_partnered}
use Rattle.rules.specs.Addresses.{connect_wrong, unmet}
use Rattle.rules.specs.MoverService.{join_tests}

-- both ends joined by LOCAL, at a position of the tape; neither halts. "data becomes CONNECTED, mover ACTIVE"
abbrev pub joined : Data → Mover → ℕ → ℕ → Ends
joined d m mode position =
    record { source = data_to data_connected local_address d; mover = mover_runs mode local_address position m; dwhy = 0; mwhy = 0 }

-- one end joined by TCP, and the other as it is: "A vault end joined by TCP has no local partner"
abbrev pub source_joined : Data → Mover → Ends
source_joined d m = record { source = data_to data_connected tcp_address d; mover = m; dwhy = 0; mwhy = 0 }

abbrev pub mover_joins : Data → Mover → ℕ → ℕ → Ends
mover_joins d m mode position = record { source = d; mover = mover_runs mode tcp_address position m; dwhy = 0; mwhy = 0 }

-- both ends halted, each for its reason; and one alone
abbrev pub halted : ℕ → ℕ → Data → Mover → Ends
halted dwhy mwhy d m = record { source = data_halts dwhy d; mover = mover_halts mwhy m; dwhy = dwhy; mwhy = mwhy }

abbrev pub source_alone : ℕ → Data → Mover → Ends
source_alone why d m = record { source = data_halts why d; mover = m; dwhy = why; mwhy = 0 }

abbrev pub mover_alone : ℕ → Data → Mover → Ends
mover_alone why d m = record { source = d; mover = mover_halts why m; dwhy = 0; mwhy = why }

-- an end in LISTEN by LOCAL: "23 when .. a LOCAL connect finds the other end listening by TCP"
unfoldable pub data_awaits : Data → Bool
data_awaits d = choose (eqb d.address local_address) (eqb d.state data_listening) false

unfoldable pub mover_awaits : Mover → Bool
mover_awaits m = choose (eqb m.address local_address) (eqb m.state mover_listening) false

-- "Connect: own end IDLE, other end LISTEN" "23: the other end is not in LISTEN"; by TCP the host made the connection or did not
unfoldable pub data_connect : Data → Mover → Tape → ℕ → ℕ → Bool → Outcome Ends
data_connect d m t address count made =
    judge
    (test (not (eqb d.state data_idle)) illegal_state
    ∷ test (connect_wrong address count) illegal_arguments
    ∷ test (unmet address (mover_awaits m) made) other_not_listening
    ∷ [])
    (accept Plain (choose (eqb address tcp_address) (source_joined d m) (joined d m m.mode t.position)))

unfoldable pub mover_connect : Data → Mover → Tape → ℕ → ℕ → ℕ → Bool → Outcome Ends
mover_connect d m t mode address count made =
    judge (join_tests m t mode (connect_wrong address count) ++ (test (unmet address (data_awaits d) made) other_not_listening ∷ []))
    (accept Plain (choose (eqb address tcp_address) (mover_joins d m mode t.position) (joined d m mode t.position)))

-- neither to be aborted from IDLE nor from HALTED, whose numbers differ
unfoldable pub at_rest : ℕ → ℕ → ℕ → Bool
at_rest state idle halted = choose (eqb state idle) true (eqb state halted)

-- "Abort: not from IDLE or HALTED; own reason ABORTED 2. Joined other end: data halts CONNECT_ERROR 4, mover halts CONNECT_CLOSED 1."
unfoldable pub data_aborted : Data → Mover → Ends
data_aborted d m = choose (data_partnered d) (halted data_aborted_reason mover_connect_closed d m) (source_alone data_aborted_reason d m)

unfoldable pub data_abort : Data → Mover → Outcome Ends
data_abort d m = judge (test (at_rest d.state data_idle data_halted) illegal_state ∷ []) (accept Plain (data_aborted d m))

unfoldable pub mover_aborted : Data → Mover → Ends
mover_aborted d m = choose (mover_partnered m) (halted data_connect_error mover_aborted_reason d m) (mover_alone mover_aborted_reason d m)

unfoldable pub mover_abort : Data → Mover → Outcome Ends
mover_abort d m = judge (test (at_rest m.state mover_idle mover_halted) illegal_state ∷ []) (accept Plain (mover_aborted d m))

-- "Mover close: PAUSED only; mover CONNECT_CLOSED, data CONNECT_ERROR."
unfoldable pub mover_closed : Data → Mover → Ends
mover_closed d m = choose (mover_partnered m) (halted data_connect_error mover_connect_closed d m) (mover_alone mover_connect_closed d m)

unfoldable pub mover_close : Data → Mover → Outcome Ends
mover_close d m = judge (test (not (eqb m.state mover_paused)) illegal_state ∷ []) (accept Plain (mover_closed d m))

-- the joint step: both ends, the tape, the request, and whether the connection of a connect by TCP was made
unfoldable pub joint_step : Data → Mover → Tape → JointRequest → Bool → Outcome Ends
joint_step d m t DataAbort made = data_abort d m
joint_step d m t (DataConnect address count) made = data_connect d m t address count made
joint_step d m t MoverAbort made = mover_abort d m
joint_step d m t MoverClose made = mover_close d m
joint_step d m t (MoverConnect mode address count) made = mover_connect d m t mode address count made
