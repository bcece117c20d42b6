-- Numbers of 004 and of paper 01 by name, for every crate. An abbrev unfolds wherever it stands, so that no proof sees a name.
use Rattle.std.specs.Prelude.{ℕ, List, [], ◌∷◌, ◌≡◌}

-- ---- refusals and outcomes, as 004 names them
abbrev pub not_supported : ℕ
not_supported = 1

abbrev pub device_opened : ℕ
device_opened = 3

abbrev pub not_authorized : ℕ
not_authorized = 4

abbrev pub permission_denied : ℕ
permission_denied = 5

abbrev pub not_open : ℕ
not_open = 6

abbrev pub io_error : ℕ
io_error = 7

abbrev pub illegal_arguments : ℕ
illegal_arguments = 9

abbrev pub no_tape_loaded : ℕ
no_tape_loaded = 10

abbrev pub at_mark_code : ℕ
at_mark_code = 12

abbrev pub at_end_code : ℕ
at_end_code = 13

abbrev pub bad_file : ℕ
bad_file = 15

abbrev pub no_device : ℕ
no_device = 16

abbrev pub undecodable : ℕ
undecodable = 18

abbrev pub illegal_state : ℕ
illegal_state = 19

abbrev pub no_memory : ℕ
no_memory = 22

abbrev pub other_not_listening : ℕ
other_not_listening = 23

abbrev pub read_in_progress : ℕ
read_in_progress = 25

abbrev pub precondition : ℕ
precondition = 26

-- ---- refusals of a call: nothing is written or changed
abbrev pub short_output : ℕ
short_output = 1001

abbrev pub broken_session : ℕ
broken_session = 1002

-- ---- MTIO's operations: "0 FSF, 1 BSF, 2 FSR, 3 BSR, 4 REW, 5 write marks, 6 off"
abbrev pub forward_files : ℕ
forward_files = 0

abbrev pub back_files : ℕ
back_files = 1

abbrev pub forward_records : ℕ
forward_records = 2

abbrev pub back_records : ℕ
back_records = 3

abbrev pub rewind_tape : ℕ
rewind_tape = 4

abbrev pub write_marks : ℕ
write_marks = 5

abbrev pub off_line : ℕ
off_line = 6

-- ---- opcodes of the changer's CDBs: TEST UNIT READY, REQUEST SENSE, MOVE MEDIUM, READ ELEMENT STATUS
abbrev pub test_ready : ℕ
test_ready = 0x00

abbrev pub request_sense : ℕ
request_sense = 0x03

abbrev pub move_medium_code : ℕ
move_medium_code = 0xA5

abbrev pub element_status_code : ℕ
element_status_code = 0xB8

-- ---- limits
-- "Length, without the mark, 24 to 36,864"
abbrev pub largest_message : ℕ
largest_message = 36864

-- "length (0 is a mark, else 1 to 32,768)"
abbrev pub longest_record : ℕ
longest_record = 32768

-- the pending sense has 18 bytes
abbrev pub sense_bytes : ℕ
sense_bytes = 18

-- the status of all elements: a header, three pages and ten descriptors of 12 bytes
abbrev pub most_status : ℕ
most_status = 152

-- "At most 64 environment pairs and 64 names in a start request"
abbrev pub most_listed : ℕ
most_listed = 64

-- "lists of up to 16 addresses"
abbrev pub most_addresses : ℕ
most_addresses = 16

-- "a port above 65,535"
abbrev pub most_port : ℕ
most_port = 65535

-- "a lent one that does not decode or is above 16,384 bytes"
abbrev pub most_lent : ℕ
most_lent = 16384

-- "a lent store of 16,384 bytes"
abbrev pub store_length : ℕ
store_length = 16384

-- "The accounts grow to eight"
abbrev pub most_accounts : ℕ
most_accounts = 8

-- "an MD5 password above 32 bytes never does"
abbrev pub longest_password : ℕ
longest_password = 32

-- "a 64-byte challenge that the host lends"
abbrev pub challenge_length : ℕ
challenge_length = 64

-- the digest of an MD5 login: 004's opaque of 16 bytes, with no length before it
abbrev pub digest_length : ℕ
digest_length = 16

-- ---- what a client asks for
-- "Address types other than LOCAL"
abbrev pub local_address : ℕ
local_address = 0

-- "NDMP_ADDR_TCP", type 1
abbrev pub tcp_address : ℕ
tcp_address = 1

-- "Auth type 1 (text)"
abbrev pub text_auth : ℕ
text_auth = 1

-- "NDMP's MD5 login": NDMP_AUTH_MD5
abbrev pub md5_auth : ℕ
md5_auth = 2

-- the version that CONNECT open asks for
abbrev pub version_four : ℕ
version_four = 4

-- ---- that the names stand for these numbers
-- 004's errors, in its order
abbrev pub errors : List ℕ
errors =
    not_supported ∷ device_opened ∷ not_authorized ∷ permission_denied ∷ not_open ∷ io_error
    ∷ illegal_arguments ∷ no_tape_loaded ∷ at_mark_code ∷ at_end_code ∷ bad_file ∷ no_device ∷ undecodable
    ∷ illegal_state ∷ no_memory ∷ other_not_listening ∷ read_in_progress ∷ precondition ∷ []

-- 004's MTIO operations, in its order
abbrev pub mtio_operations : List ℕ
mtio_operations = forward_files ∷ back_files ∷ forward_records ∷ back_records ∷ rewind_tape ∷ write_marks ∷ off_line ∷ []

pub record AsWritten : Type 0 where
  pub errors_are : errors ≡ 1 ∷ 3 ∷ 4 ∷ 5 ∷ 6 ∷ 7 ∷ 9 ∷ 10 ∷ 12 ∷ 13 ∷ 15 ∷ 16 ∷ 18 ∷ 19 ∷ 22 ∷ 23 ∷ 25 ∷ 26 ∷ []
  pub calls_are : short_output ∷ broken_session ∷ [] ≡ 1001 ∷ 1002 ∷ []
  pub operations_are : mtio_operations ≡ 0 ∷ 1 ∷ 2 ∷ 3 ∷ 4 ∷ 5 ∷ 6 ∷ []
  pub opcodes_are : test_ready ∷ request_sense ∷ move_medium_code ∷ element_status_code ∷ most_status ∷ [] ≡ 0 ∷ 3 ∷ 165 ∷ 184 ∷ 152 ∷ []
  pub limits_are : largest_message ∷ longest_record ∷ sense_bytes ∷ most_listed ∷ most_addresses ∷ most_port ∷ most_lent ∷ store_length ∷ [] ≡ 36864 ∷ 32768 ∷ 18 ∷ 64 ∷ 16 ∷ 65535 ∷ 16384 ∷ 16384 ∷ []
  pub logins_are : most_accounts ∷ longest_password ∷ challenge_length ∷ digest_length ∷ [] ≡ 8 ∷ 32 ∷ 64 ∷ 16 ∷ []
  pub client_are : local_address ∷ tcp_address ∷ text_auth ∷ md5_auth ∷ version_four ∷ [] ≡ 0 ∷ 1 ∷ 1 ∷ 2 ∷ 4 ∷ []
