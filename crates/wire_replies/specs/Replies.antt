-- What is sent: replies and notices (004, Appendix C, and paper 01's narrowings), from their values to their bytes.
use Rattle.std.specs.Prelude.{ℕ, ◌+◌, ◌*◌, ◌/◌, ◌%◌, Bool, true, false, List, [], ◌∷◌, ◌++◌, length, take, drop, replicate, eqb}
use Rattle.codes.specs.Codes.{local_address, tcp_address, md5_auth, version_four}
use Rattle.xdr.specs.Choose.{choose}
use Rattle.xdr.specs.Xdr.{be32s}
use Rattle.xdr_opaque.specs.Put.{opaque}
use Rattle.wire_pairs.specs.Pairs.{texts_of}
use Rattle.wire_pairs.specs.Store.{environment_of}
use Rattle.wire_frame.specs.Frame.{record_bytes}
use Rattle.wire_replies.specs.declared.DataView.{DataView}
use Rattle.wire_replies.specs.declared.MoverView.{MoverView}
use Rattle.wire_replies.specs.declared.Reply.{Reply}
use Rattle.wire_replies.specs.declared.Reply.TheVariants.{Header, Refused, Plain, Listening, ListeningTcp, ConnectionTypes, Challenge, ServerInfo, ScsiState, Cdb, Sense, Check, Elements, TapeState, Mtio, Wrote, Read, DataState, Environment, MoverState}
use Rattle.wire_replies.specs.declared.Notice.{Notice}
use Rattle.wire_replies.specs.declared.Notice.TheVariants.{DataHalted, Connected, MoverHalted, MoverPaused}

-- a body: words, then bytes as they were lent, then texts (opaque data or strings, each with its length and fill), then
-- words
pub record Body : Type 0 where
  pub words : List ℕ
  pub raw : List ℕ
  pub texts : List (List ℕ)
  pub tail : List ℕ

abbrev pub words_only : List ℕ → Body
words_only ws = record { words = ws; raw = []; texts = []; tail = [] }

unfoldable pub opaques : List (List ℕ) → List ℕ
opaques [] = []
opaques (t ∷ ts) = opaque t ++ opaques ts

unfoldable pub body_bytes : Body → List ℕ
body_bytes b = be32s b.words ++ (b.raw ++ (opaques b.texts ++ be32s b.tail))

-- a hyper as its two words
abbrev pub high : ℕ → ℕ
high v = v / 4294967296

abbrev pub low : ℕ → ℕ
low v = v % 4294967296

-- "the sense 70 00 05 00 00 00 00 0A 00 00 00 00 20 00 00 00 00 00 .. With none pending, bytes 2 and 12 are 0.": of a key,
-- a code and, with 02 No. 7, a qualifier, which are all 0 with none pending
unfoldable pub sense : ℕ → ℕ → ℕ → List ℕ
sense key code qualifier =
    0x70 ∷ 0 ∷ key ∷ 0 ∷ 0 ∷ 0 ∷ 0 ∷ 0x0A ∷ 0 ∷ 0 ∷ 0 ∷ 0 ∷ code ∷ qualifier ∷ 0 ∷ 0 ∷ 0 ∷ 0 ∷ []

-- "Server info gives empty strings before auth, then `vault`, `tape`, `1`"
unfoldable pub server_texts : Bool → List (List ℕ)
server_texts true = (0x76 ∷ 0x61 ∷ 0x75 ∷ 0x6C ∷ 0x74 ∷ []) ∷ (0x74 ∷ 0x61 ∷ 0x70 ∷ 0x65 ∷ []) ∷ (0x31 ∷ []) ∷ []
server_texts false = [] ∷ [] ∷ [] ∷ []

-- "get state gives the type, until stop, with no addresses": an address of type LOCAL is that word, one of type TCP that
-- word and an empty list
unfoldable pub address_words : ℕ → List ℕ
address_words address = choose (eqb address tcp_address) (tcp_address ∷ 0 ∷ []) (local_address ∷ [])

-- The body of each reply, in 004's order. "other reply fields are zero or empty"; what is not kept is zero. What is
-- shown of lent bytes lies in `shown`: of a read in the image; of a listen by TCP it is the list, of a challenge its
-- bytes, of an environment the store, of the changer's elements their status.
unfoldable pub shape_of : Reply → List ℕ → Body
shape_of (Header e) shown = words_only []
shape_of (Refused b e a) shown = words_only (replicate b 0 ++ (e ∷ replicate a 0))
shape_of Plain shown = words_only (0 ∷ [])
shape_of Listening shown = words_only (0 ∷ local_address ∷ [])
-- "A listen by TCP answers the XDR list that the host lends with its call": error, type, and those bytes
shape_of ListeningTcp shown = record { words = 0 ∷ tcp_address ∷ []; raw = shown; texts = []; tail = [] }
-- "Connection types lists 0 and 1"
shape_of ConnectionTypes shown = words_only (0 ∷ 2 ∷ local_address ∷ tcp_address ∷ [])
-- ndmp_config_get_auth_attr_reply: error, and ndmp_auth_attr: the type, and behind MD5 the challenge, which has no
-- length before it
shape_of Challenge shown = record { words = 0 ∷ md5_auth ∷ []; raw = shown; texts = []; tail = [] }
-- "Server info lists 1 and 2", and with 02 No. 10 type 1 "leaves the server info list"
shape_of (ServerInfo known) shown = record { words = 0 ∷ []; raw = []; texts = server_texts known; tail = 1 ∷ md5_auth ∷ [] }
shape_of ScsiState shown = words_only (0 ∷ 0 ∷ 0 ∷ 0 ∷ [])
-- execute CDB: error, status, data-out length, data in, extended sense
shape_of Cdb shown = record { words = 0 ∷ 0 ∷ 0 ∷ []; raw = []; texts = [] ∷ [] ∷ []; tail = [] }
shape_of (Sense n key code qualifier) shown =
    record { words = 0 ∷ 0 ∷ 0 ∷ []; raw = []; texts = take n (sense key code qualifier) ∷ [] ∷ []; tail = [] }
shape_of (Check key code qualifier) shown =
    record { words = 0 ∷ 2 ∷ 0 ∷ []; raw = []; texts = [] ∷ sense key code qualifier ∷ []; tail = [] }
shape_of Elements shown = record { words = 0 ∷ 0 ∷ 0 ∷ []; raw = []; texts = shown ∷ [] ∷ []; tail = [] }
-- unsupported, error, flags, file, soft errors, block size, block, total space, space remaining
shape_of (TapeState file block) shown = words_only (0 ∷ 0 ∷ 0 ∷ file ∷ 0 ∷ 0 ∷ block ∷ 0 ∷ 0 ∷ 0 ∷ 0 ∷ [])
shape_of (Mtio e residue) shown = words_only (e ∷ residue ∷ [])
shape_of (Wrote e count) shown = words_only (e ∷ count ∷ [])
shape_of (Read e start len) shown = record { words = e ∷ []; raw = []; texts = take len (drop start shown) ∷ []; tail = [] }
-- unsupported ("DATA's two estimates are marked unsupported"), error, operation, state, reason, processed, estimated
-- bytes and time, address, read offset and length
shape_of (DataState v) shown =
    words_only
    (3 ∷ 0 ∷ v.operation ∷ v.state ∷ v.reason ∷ high v.processed ∷ low v.processed ∷ 0 ∷ 0 ∷ 0
    ∷ (address_words v.address ++ (0 ∷ 0 ∷ 0 ∷ 0 ∷ [])))
-- ndmp_data_get_env_reply: error, and the pairs: "Answer 0x404 from it"
shape_of Environment shown =
    record { words = 0 ∷ length (environment_of shown) ∷ []; raw = []; texts = texts_of (environment_of shown); tail = [] }
-- error, mode, state, pause and halt reason, record size and number, moved, seek position, bytes left, window, address
shape_of (MoverState v) shown =
    words_only
    (0 ∷ v.mode ∷ v.state ∷ v.pause ∷ v.halt ∷ v.size ∷ v.number ∷ high v.moved ∷ low v.moved ∷ high v.seek ∷ low v.seek
    ∷ high v.left ∷ low v.left ∷ high v.offset ∷ low v.offset ∷ high v.length ∷ low v.length ∷ address_words v.address)

-- the replies that show lent bytes
unfoldable pub is_showing : Reply → Bool
is_showing (Header e) = false
is_showing (Refused b e a) = false
is_showing Plain = false
is_showing Listening = false
is_showing ListeningTcp = true
is_showing ConnectionTypes = false
is_showing Challenge = true
is_showing (ServerInfo known) = false
is_showing ScsiState = false
is_showing Cdb = false
is_showing (Sense n key code qualifier) = false
is_showing (Check key code qualifier) = false
is_showing Elements = true
is_showing (TapeState file block) = false
is_showing (Mtio e residue) = false
is_showing (Wrote e count) = false
is_showing (Read e start len) = true
is_showing (DataState v) = false
is_showing Environment = true
is_showing (MoverState v) = false

-- paper 01's number of each reply: 0 where the request is accepted, 12 and 13 where the tape says so
unfoldable pub number_of : Reply → ℕ
number_of (Header e) = e
number_of (Refused b e a) = e
number_of Plain = 0
number_of Listening = 0
number_of ListeningTcp = 0
number_of ConnectionTypes = 0
number_of Challenge = 0
number_of (ServerInfo known) = 0
number_of ScsiState = 0
number_of Cdb = 0
number_of (Sense n key code qualifier) = 0
number_of (Check key code qualifier) = 0
number_of Elements = 0
number_of (TapeState file block) = 0
number_of (Mtio e residue) = e
number_of (Wrote e count) = e
number_of (Read e start len) = e
number_of (DataState v) = 0
number_of Environment = 0
number_of (MoverState v) = 0

-- "An unknown message's 1, and 18, stand in the header with no body; all others in the body, header error 0"
unfoldable pub header_error : Reply → ℕ
header_error (Header e) = e
header_error (Refused b e a) = 0
header_error Plain = 0
header_error Listening = 0
header_error ListeningTcp = 0
header_error ConnectionTypes = 0
header_error Challenge = 0
header_error (ServerInfo known) = 0
header_error ScsiState = 0
header_error Cdb = 0
header_error (Sense n key code qualifier) = 0
header_error (Check key code qualifier) = 0
header_error Elements = 0
header_error (TapeState file block) = 0
header_error (Mtio e residue) = 0
header_error (Wrote e count) = 0
header_error (Read e start len) = 0
header_error (DataState v) = 0
header_error Environment = 0
header_error (MoverState v) = 0

-- a reply as it is sent: type 1, the request's message and sequence number
unfoldable pub reply_bytes : ℕ → ℕ → ℕ → ℕ → Reply → List ℕ → List ℕ
reply_bytes sequence time message echo r image = record_bytes sequence time 1 message echo (header_error r) (body_bytes (shape_of r image))

-- ---- "Sent unasked: data halted, connection status, mover halted, mover paused."
unfoldable pub notice_number : Notice → ℕ
notice_number (DataHalted reason) = 0x501
notice_number Connected = 0x502
notice_number (MoverHalted reason) = 0x503
notice_number (MoverPaused reason seek) = 0x504

-- "connection status (connected 0, version 4, empty text)"; "mover paused carries the kept seek position"
unfoldable pub notice_words : Notice → List ℕ
notice_words (DataHalted reason) = reason ∷ []
notice_words Connected = 0 ∷ version_four ∷ 0 ∷ []
notice_words (MoverHalted reason) = reason ∷ []
notice_words (MoverPaused reason seek) = reason ∷ high seek ∷ low seek ∷ []

-- "A notice is type 0 with reply sequence 0."
unfoldable pub notice_bytes : ℕ → ℕ → Notice → List ℕ
notice_bytes sequence time n = record_bytes sequence time 0 (notice_number n) 0 0 (be32s (notice_words n))
