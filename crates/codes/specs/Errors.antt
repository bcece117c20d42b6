-- The errors of 004 by their names, and the number of each.
use Rattle.std.specs.Prelude.{ℕ, List, [], ◌∷◌, map, ◌≡◌}
use Rattle.codes.specs.Codes.{not_supported, device_opened, not_authorized, permission_denied, not_open, io_error, illegal_arguments, no_tape_loaded, at_mark_code, at_end_code, bad_file, no_device, undecodable, illegal_state, no_memory, other_not_listening, read_in_progress, precondition}
use Rattle.codes.specs.declared.NdmpError.{NdmpError}
use Rattle.codes.specs.declared.NdmpError.TheVariants as NdmpError

abbrev pub number_of : NdmpError → ℕ
number_of NdmpError.NotSupported = not_supported
number_of NdmpError.DeviceOpened = device_opened
number_of NdmpError.NotAuthorized = not_authorized
number_of NdmpError.PermissionDenied = permission_denied
number_of NdmpError.NotOpen = not_open
number_of NdmpError.IoError = io_error
number_of NdmpError.IllegalArguments = illegal_arguments
number_of NdmpError.NoTapeLoaded = no_tape_loaded
number_of NdmpError.AtMark = at_mark_code
number_of NdmpError.AtEnd = at_end_code
number_of NdmpError.BadFile = bad_file
number_of NdmpError.NoDevice = no_device
number_of NdmpError.Undecodable = undecodable
number_of NdmpError.IllegalState = illegal_state
number_of NdmpError.NoMemory = no_memory
number_of NdmpError.OtherNotListening = other_not_listening
number_of NdmpError.ReadInProgress = read_in_progress
number_of NdmpError.Precondition = precondition

-- all of them, in 004's order
abbrev pub all_errors : List NdmpError
all_errors =
    NdmpError.NotSupported ∷ NdmpError.DeviceOpened ∷ NdmpError.NotAuthorized ∷ NdmpError.PermissionDenied ∷ NdmpError.NotOpen
    ∷ NdmpError.IoError ∷ NdmpError.IllegalArguments ∷ NdmpError.NoTapeLoaded ∷ NdmpError.AtMark ∷ NdmpError.AtEnd
    ∷ NdmpError.BadFile ∷ NdmpError.NoDevice ∷ NdmpError.Undecodable ∷ NdmpError.IllegalState ∷ NdmpError.NoMemory
    ∷ NdmpError.OtherNotListening ∷ NdmpError.ReadInProgress ∷ NdmpError.Precondition ∷ []

-- the numbers that 004 writes
abbrev pub ErrorsNumbered : Type 0
ErrorsNumbered = map number_of all_errors ≡ 1 ∷ 3 ∷ 4 ∷ 5 ∷ 6 ∷ 7 ∷ 9 ∷ 10 ∷ 12 ∷ 13 ∷ 15 ∷ 16 ∷ 18 ∷ 19 ∷ 22 ∷ 23 ∷ 25 ∷ 26 ∷ []
