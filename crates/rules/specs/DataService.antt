-- The requests of the data interface that are not joint (paper 01, "Data and mover states"). They see the data end and the store of its environment (02
-- No. 3: "The store belongs to the data desk").
use Rattle.std.specs.Prelude.{ℕ, Bool, true, not, List, [], ◌∷◌, eqb}
use Rattle.codes.specs.Codes.{io_error, illegal_arguments, illegal_state, no_memory}
use Rattle.xdr.specs.Choose.{choose}
use Rattle.xdr.specs.Xdr.{same_bytes}
use Rattle.wire_pairs.specs.Pairs.{Pair, pairs_from}
use Rattle.wire_pairs.specs.Store.{fits, storing, emptied, is_laid}
use Rattle.wire_requests.specs.Within.{bytes_at}
use Rattle.wire_requests.specs.declared.Pairs.{Pairs}
use Rattle.wire_requests.specs.declared.DataRequest.{DataRequest}
use Rattle.wire_requests.specs.declared.DataRequest.TheVariants.{State, Backup, Recover, Environment, Stop, Listen}
use Rattle.wire_replies.specs.declared.DataView.{DataView}
use Rattle.wire_replies.specs.declared.Reply.TheVariants as Reply
use Rattle.rules_parts.specs.declared.types.Data.{Data}
use Rattle.rules_parts.specs.Names.{data_idle, data_active, data_halted, data_listening, data_connected, backup_operation, recover_operation}
use Rattle.rules.specs.Addresses.{listen_wrong, listening}
use Rattle.rules.specs.Judge.{test, Outcome, accept, judge}
use Rattle.rules_parts.specs.Parts.{rest_data, data_to, data_starts, told_in}

-- the method's name, `dump`
unfoldable pub dump : List ℕ
dump = 0x64 ∷ 0x75 ∷ 0x6D ∷ 0x70 ∷ []

abbrev pub data_view : Data → DataView
data_view d =
    record { operation = d.operation; state = d.state; reason = told_in data_halted d.state d.reason; address = d.address; processed = d.processed }

-- Get state "never gives 19"
unfoldable pub data_state : Data → Outcome Data
data_state d = judge [] (accept (Reply.DataState (data_view d)) d)

-- "Listen: IDLE to LISTEN." "Address types other than LOCAL: 9.", by 02 No. 14 other than LOCAL and TCP, and TCP with a lent list that is of no use
unfoldable pub data_listen : Data → ℕ → List ℕ → Outcome Data
data_listen d address list =
    judge (test (not (eqb d.state data_idle)) illegal_state ∷ test (listen_wrong address list) illegal_arguments ∷ [])
    (accept (listening address) (data_to data_listening address d))

-- the pairs of a start request, from its body
abbrev pub pairs_of : List ℕ → Pairs → List Pair
pairs_of body ps = pairs_from body ps.count ps.start

-- "Start: CONNECTED to ACTIVE; method name other than `dump`: 9."; "22 if the pairs do not fit, after 9"
unfoldable pub data_start : Data → ℕ → Bool → Bool → Outcome Data
data_start d operation named fitting =
    judge
    (test (not (eqb d.state data_connected)) illegal_state ∷ test (not named) illegal_arguments ∷ test (not fitting) no_memory ∷ [])
    (accept Reply.Plain (data_starts operation d))

-- "Stop: HALTED to IDLE, all variables of its own end reset"
unfoldable pub data_stop : Data → Outcome Data
data_stop d = judge (test (not (eqb d.state data_halted)) illegal_state ∷ []) (accept Reply.Plain rest_data)

-- "Answer 0x404 from it in ACTIVE and HALTED": from the store, whether or not this data end has started
unfoldable pub has_run : ℕ → Bool
has_run state = choose (eqb state data_active) true (eqb state data_halted)

-- "19 in other states"; "7 at 0x404 for a store not laid out so"
unfoldable pub data_environment : Data → List ℕ → Outcome Data
data_environment d variables =
    judge (test (not (has_run d.state)) illegal_state ∷ test (not (is_laid variables)) io_error ∷ []) (accept Reply.Environment d)

-- the data step: the data end, the request, the body that its texts lie in, the list that a listen by TCP is lent, and the store
unfoldable pub data_step : Data → DataRequest → List ℕ → List ℕ → List ℕ → Outcome Data
data_step d State body list variables = data_state d
data_step d (Backup name ps) body list variables = data_start d backup_operation (same_bytes (bytes_at body name) dump) (fits (pairs_of body ps))
data_step d (Recover name ps) body list variables = data_start d recover_operation (same_bytes (bytes_at body name) dump) (fits (pairs_of body ps))
data_step d Environment body list variables = data_environment d variables
data_step d Stop body list variables = data_stop d
data_step d (Listen address) body list variables = data_listen d address list

-- the store after an accepted request: "Keep the pairs of an accepted start request, in order"; "data stop makes the count 0"
unfoldable pub variables_after : DataRequest → List ℕ → List ℕ → List ℕ
variables_after State body variables = variables
variables_after (Backup name ps) body variables = storing (pairs_of body ps) variables
variables_after (Recover name ps) body variables = storing (pairs_of body ps) variables
variables_after Environment body variables = variables
variables_after Stop body variables = emptied variables
variables_after (Listen address) body variables = variables

-- what the reply shows bytes of: an environment the store, a listen by TCP the list that it was lent; the others show nothing of it
unfoldable pub data_shown : DataRequest → List ℕ → List ℕ → List ℕ
data_shown State list variables = list
data_shown (Backup name ps) list variables = list
data_shown (Recover name ps) list variables = list
data_shown Environment list variables = variables
data_shown Stop list variables = list
data_shown (Listen address) list variables = list
