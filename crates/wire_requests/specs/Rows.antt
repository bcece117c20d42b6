-- One body for each message, its bytes written out after 004's Appendix C, and the request that it is; then bodies that are none. They keep
-- the two tables of `Bodies` to 004: a field that is taken from another place, or a fill byte that is not judged, is seen here.
use Rattle.std.specs.Prelude.{ℕ, zero, suc, ◌≡◌, List, [], ◌∷◌, ◌++◌, map, length, replicate}
use Rattle.wire_pairs.specs.Pairs.{Pair, pair, pairs_from}
use Rattle.wire_layouts.specs.Layout.{place}
use Rattle.wire_frame.specs.declared.ConnectKind.TheVariants as ConnectKind
use Rattle.wire_frame.specs.declared.ConfigKind.TheVariants as ConfigKind
use Rattle.wire_frame.specs.declared.ScsiKind.TheVariants as ScsiKind
use Rattle.wire_frame.specs.declared.TapeKind.TheVariants as TapeKind
use Rattle.wire_frame.specs.declared.DataKind.TheVariants as DataKind
use Rattle.wire_frame.specs.declared.MoverKind.TheVariants as MoverKind
use Rattle.wire_frame.specs.declared.JointKind.TheVariants as JointKind
use Rattle.wire_frame.specs.declared.Message.{Message}
use Rattle.wire_requests.specs.Bodies.{decoded}
use Rattle.wire_requests.specs.declared.Pairs.{Pairs}
use Rattle.wire_requests.specs.declared.ConnectRequest.TheVariants as ConnectRequest
use Rattle.wire_requests.specs.declared.ConfigRequest.TheVariants as ConfigRequest
use Rattle.wire_requests.specs.declared.ScsiRequest.TheVariants as ScsiRequest
use Rattle.wire_requests.specs.declared.TapeRequest.TheVariants as TapeRequest
use Rattle.wire_requests.specs.declared.DataRequest.TheVariants as DataRequest
use Rattle.wire_requests.specs.declared.MoverRequest.TheVariants as MoverRequest
use Rattle.wire_requests.specs.declared.JointRequest.TheVariants as JointRequest
use Rattle.wire_requests.specs.declared.Request.{Request}

-- a body of a message
pub record SampleBody : Type 0 where
  pub message : Message
  pub bytes : List ℕ

abbrev pub body : Message → List ℕ → SampleBody
body m b = record { message = m; bytes = b }

-- ---- the bytes of fields: a word below 256, a hyper of two such words, and a text with its fill
abbrev pub small : ℕ → List ℕ
small n = 0 ∷ 0 ∷ 0 ∷ n ∷ []

abbrev pub wide : ℕ → ℕ → List ℕ
wide high low = small high ++ small low

abbrev pub string : List ℕ → List ℕ → List ℕ
string s fill = small (length s) ++ s ++ fill

-- "vault", "noon", "dump", "tape0", "changer0"
abbrev pub vault : List ℕ
vault = 118 ∷ 97 ∷ 117 ∷ 108 ∷ 116 ∷ []

abbrev pub noon : List ℕ
noon = 110 ∷ 111 ∷ 111 ∷ 110 ∷ []

abbrev pub dump : List ℕ
dump = 100 ∷ 117 ∷ 109 ∷ 112 ∷ []

abbrev pub tape0 : List ℕ
tape0 = 116 ∷ 97 ∷ 112 ∷ 101 ∷ 48 ∷ []

abbrev pub changer0 : List ℕ
changer0 = 99 ∷ 104 ∷ 97 ∷ 110 ∷ 103 ∷ 101 ∷ 114 ∷ 48 ∷ []

abbrev pub none : List ℕ
none = 0 ∷ 0 ∷ 0 ∷ []

-- an environment of one pair, and a list of one name: its four texts, then two hypers
abbrev pub environment : List ℕ → List ℕ
environment fill = small 1 ++ string (65 ∷ []) none ++ string (66 ∷ 67 ∷ []) fill

abbrev pub nlist : List ℕ → List ℕ
nlist fill = small 1 ++ string (97 ∷ []) none ++ string [] [] ++ string (98 ∷ 99 ∷ 100 ∷ []) fill ++ string noon [] ++ wide 1 2 ++ wide 3 4

-- a list of n addresses: 10.0.0.1, port 10,000, each with an environment of one pair
unfoldable pub addresses_of : ℕ → List ℕ
addresses_of zero = []
addresses_of (suc n) = (10 ∷ 0 ∷ 0 ∷ 1 ∷ 0 ∷ 0 ∷ 39 ∷ 16 ∷ []) ++ environment (0 ∷ 0 ∷ []) ++ addresses_of n

abbrev pub address_list : ℕ → List ℕ
address_list n = small n ++ addresses_of n

abbrev pub inquiry : List ℕ
inquiry = 18 ∷ 0 ∷ 0 ∷ 0 ∷ 36 ∷ 0 ∷ []

-- a digest: 16 bytes with no length before them
abbrev pub sixteen_bytes : List ℕ
sixteen_bytes = 1 ∷ 2 ∷ 3 ∷ 4 ∷ 5 ∷ 6 ∷ 7 ∷ 8 ∷ 9 ∷ 10 ∷ 11 ∷ 12 ∷ 13 ∷ 14 ∷ 15 ∷ 16 ∷ []

-- where the first pair begins, behind the count, and how many they are
abbrev pub found : ℕ → ℕ → Pairs
found at n = record { start = at; count = n }

-- ---- bodies, and the request of each
abbrev pub bodies : List SampleBody
bodies =
    body (Message.Connect ConnectKind.Open) (small 4)
    ∷ body (Message.Connect ConnectKind.Auth) (small 1 ++ string vault none ++ string noon [])
    ∷ body (Message.Connect ConnectKind.Auth) (small 2 ++ string vault none ++ sixteen_bytes)
    ∷ body (Message.Connect ConnectKind.Auth) (small 2 ++ string [] [] ++ sixteen_bytes)
    ∷ body (Message.Connect ConnectKind.Auth) (small 1 ++ string vault (0 ∷ 0 ∷ 1 ∷ []) ++ string noon [] ++ 7 ∷ [])
    ∷ body (Message.Connect ConnectKind.Auth) (small 1)
    ∷ body (Message.Connect ConnectKind.Auth) (small 3 ++ 7 ∷ [])
    ∷ body (Message.Connect ConnectKind.Auth) (small 0)
    ∷ body (Message.Connect ConnectKind.Close) []
    ∷ body (Message.Config ConfigKind.ConnectionType) []
    ∷ body (Message.Config ConfigKind.AuthAttributes) (small 1)
    ∷ body (Message.Config ConfigKind.AuthAttributes) (small 1 ++ 7 ∷ [])
    ∷ body (Message.Config ConfigKind.AuthAttributes) (small 2)
    ∷ body (Message.Config ConfigKind.AuthAttributes) (small 3 ++ 7 ∷ [])
    ∷ body (Message.Config ConfigKind.AuthAttributes) (small 0)
    ∷ body (Message.Config ConfigKind.ServerInfo) []
    ∷ body (Message.Scsi ScsiKind.Open) (string changer0 [])
    ∷ body (Message.Scsi ScsiKind.Close) []
    ∷ body (Message.Scsi ScsiKind.State) []
    ∷ body (Message.Scsi ScsiKind.Reset) []
    ∷ body (Message.Scsi ScsiKind.Cdb) (small 1 ++ small 2 ++ small 3 ++ string inquiry (0 ∷ 0 ∷ []) ++ string (9 ∷ []) none)
    ∷ body (Message.Tape TapeKind.Open) (string tape0 none ++ small 1)
    ∷ body (Message.Tape TapeKind.Close) []
    ∷ body (Message.Tape TapeKind.State) []
    ∷ body (Message.Tape TapeKind.Mtio) (small 2 ++ small 3)
    ∷ body (Message.Tape TapeKind.Write) (string (7 ∷ 8 ∷ 9 ∷ []) (0 ∷ []))
    ∷ body (Message.Tape TapeKind.Read) (0 ∷ 0 ∷ 4 ∷ 0 ∷ [])
    ∷ body (Message.Data DataKind.State) []
    ∷ body (Message.Data DataKind.Backup) (string dump [] ++ environment (0 ∷ 0 ∷ []))
    ∷ body (Message.Data DataKind.Backup) (string vault none ++ environment (0 ∷ 0 ∷ []))
    ∷ body (Message.Data DataKind.Backup) (string dump [] ++ small 64 ++ replicate 512 0)
    ∷ body (Message.Data DataKind.Backup) (string dump [] ++ small 0)
    ∷ body (Message.Data DataKind.Recover) (environment (0 ∷ 0 ∷ []) ++ nlist (0 ∷ []) ++ string dump [])
    ∷ body (Message.Data DataKind.Recover) (small 0 ++ nlist (0 ∷ []) ++ string dump [])
    ∷ body (Message.Data DataKind.Environment) []
    ∷ body (Message.Data DataKind.Stop) []
    ∷ body (Message.Data DataKind.Listen) (small 0)
    ∷ body (Message.Data DataKind.Listen) (small 1)
    ∷ body (Message.Data DataKind.Listen) (small 2 ++ 7 ∷ [])
    ∷ body (Message.Mover MoverKind.State) []
    ∷ body (Message.Mover MoverKind.Listen) (small 1 ++ small 0)
    ∷ body (Message.Mover MoverKind.Listen) (small 0 ++ small 1)
    ∷ body (Message.Mover MoverKind.Listen) (small 0 ++ small 2 ++ 7 ∷ [])
    ∷ body (Message.Mover MoverKind.Continue) []
    ∷ body (Message.Mover MoverKind.Stop) []
    ∷ body (Message.Mover MoverKind.Window) (wide 1 2 ++ wide 0 3)
    ∷ body (Message.Mover MoverKind.Read) (wide 0 4 ++ wide 1 0)
    ∷ body (Message.Mover MoverKind.Size) (0 ∷ 0 ∷ 4 ∷ 0 ∷ [])
    ∷ body (Message.Joint JointKind.DataAbort) []
    ∷ body (Message.Joint JointKind.DataConnect) (small 0)
    ∷ body (Message.Joint JointKind.DataConnect) (small 1 ++ address_list 2)
    ∷ body (Message.Joint JointKind.DataConnect) (small 1 ++ small 0)
    ∷ body (Message.Joint JointKind.DataConnect) (small 2 ++ 7 ∷ [])
    ∷ body (Message.Joint JointKind.MoverAbort) []
    ∷ body (Message.Joint JointKind.MoverClose) []
    ∷ body (Message.Joint JointKind.MoverConnect) (small 1 ++ small 0)
    ∷ body (Message.Joint JointKind.MoverConnect) (small 0 ++ small 1 ++ address_list 16)
    ∷ body (Message.Joint JointKind.MoverConnect) (small 0 ++ small 3 ++ 7 ∷ [])
    ∷ []

abbrev pub requests : List Request
requests =
    Request.Connect (ConnectRequest.Open 4)
    ∷ Request.Connect ConnectRequest.OtherAuth
    ∷ Request.Connect (ConnectRequest.Md5Auth (place 8 5) (place 16 16))
    ∷ Request.Connect (ConnectRequest.Md5Auth (place 8 0) (place 8 16))
    ∷ Request.Connect ConnectRequest.OtherAuth
    ∷ Request.Connect ConnectRequest.OtherAuth
    ∷ Request.Connect ConnectRequest.OtherAuth
    ∷ Request.Connect ConnectRequest.OtherAuth
    ∷ Request.Connect ConnectRequest.Close
    ∷ Request.Config ConfigRequest.ConnectionType
    ∷ Request.Config (ConfigRequest.AuthAttributes 1)
    ∷ Request.Config (ConfigRequest.AuthAttributes 1)
    ∷ Request.Config (ConfigRequest.AuthAttributes 2)
    ∷ Request.Config (ConfigRequest.AuthAttributes 3)
    ∷ Request.Config (ConfigRequest.AuthAttributes 0)
    ∷ Request.Config ConfigRequest.ServerInfo
    ∷ Request.Scsi (ScsiRequest.Open (place 4 8))
    ∷ Request.Scsi ScsiRequest.Close
    ∷ Request.Scsi ScsiRequest.State
    ∷ Request.Scsi ScsiRequest.Reset
    ∷ Request.Scsi (ScsiRequest.Cdb (place 16 6) 3)
    ∷ Request.Tape (TapeRequest.Open (place 4 5) 1)
    ∷ Request.Tape TapeRequest.Close
    ∷ Request.Tape TapeRequest.State
    ∷ Request.Tape (TapeRequest.Mtio 2 3)
    ∷ Request.Tape (TapeRequest.Write (place 4 3))
    ∷ Request.Tape (TapeRequest.Read 1024)
    ∷ Request.Data DataRequest.State
    ∷ Request.Data (DataRequest.Backup (place 4 4) (found 12 1))
    ∷ Request.Data (DataRequest.Backup (place 4 5) (found 16 1))
    ∷ Request.Data (DataRequest.Backup (place 4 4) (found 12 64))
    ∷ Request.Data (DataRequest.Backup (place 4 4) (found 12 0))
    ∷ Request.Data (DataRequest.Recover (place 72 4) (found 4 1))
    ∷ Request.Data (DataRequest.Recover (place 56 4) (found 4 0))
    ∷ Request.Data DataRequest.Environment
    ∷ Request.Data DataRequest.Stop
    ∷ Request.Data (DataRequest.Listen 0)
    ∷ Request.Data (DataRequest.Listen 1)
    ∷ Request.Data (DataRequest.Listen 2)
    ∷ Request.Mover MoverRequest.State
    ∷ Request.Mover (MoverRequest.Listen 1 0)
    ∷ Request.Mover (MoverRequest.Listen 0 1)
    ∷ Request.Mover (MoverRequest.Listen 0 2)
    ∷ Request.Mover MoverRequest.Continue
    ∷ Request.Mover MoverRequest.Stop
    ∷ Request.Mover (MoverRequest.Window 4294967298 3)
    ∷ Request.Mover (MoverRequest.Read 4 4294967296)
    ∷ Request.Mover (MoverRequest.Size 1024)
    ∷ Request.Joint JointRequest.DataAbort
    ∷ Request.Joint (JointRequest.DataConnect 0 0)
    ∷ Request.Joint (JointRequest.DataConnect 1 2)
    ∷ Request.Joint (JointRequest.DataConnect 1 0)
    ∷ Request.Joint (JointRequest.DataConnect 2 0)
    ∷ Request.Joint JointRequest.MoverAbort
    ∷ Request.Joint JointRequest.MoverClose
    ∷ Request.Joint (JointRequest.MoverConnect 1 0 0)
    ∷ Request.Joint (JointRequest.MoverConnect 0 1 16)
    ∷ Request.Joint (JointRequest.MoverConnect 0 3 0)
    ∷ []

-- ---- a byte of fill that is not zero, in each place where a text may stand and at each length of fill; bytes that are missing or left
-- over, also behind the auth type 2; a digest with its length before it, a byte short or a byte too long; one pair more than 64; bytes
-- behind a listen's type TCP; a list that is missing, has a 17th address, a port of 65,536 or a fill byte
abbrev pub bad_bodies : List SampleBody
bad_bodies =
    body (Message.Connect ConnectKind.Auth) (small 2 ++ string vault (1 ∷ 0 ∷ 0 ∷ []) ++ sixteen_bytes)
    ∷ body (Message.Connect ConnectKind.Auth) (small 2 ++ string vault none ++ small 16 ++ sixteen_bytes)
    ∷ body (Message.Connect ConnectKind.Auth) (small 2 ++ string vault none ++ replicate 15 7)
    ∷ body (Message.Connect ConnectKind.Auth) (small 2 ++ string vault none ++ replicate 17 7)
    ∷ body (Message.Connect ConnectKind.Auth) (small 2 ++ string vault none ++ string noon [])
    ∷ body (Message.Connect ConnectKind.Auth) (0 ∷ 0 ∷ 0 ∷ [])
    ∷ body (Message.Config ConfigKind.AuthAttributes) []
    ∷ body (Message.Config ConfigKind.AuthAttributes) (0 ∷ 0 ∷ 0 ∷ [])
    ∷ body (Message.Config ConfigKind.AuthAttributes) (small 2 ++ small 0)
    ∷ body (Message.Scsi ScsiKind.Open) (string (99 ∷ 104 ∷ []) (0 ∷ 1 ∷ []))
    ∷ body (Message.Scsi ScsiKind.Cdb) (small 1 ++ small 2 ++ small 3 ++ string inquiry (1 ∷ 0 ∷ []) ++ string (9 ∷ []) none)
    ∷ body (Message.Scsi ScsiKind.Cdb) (small 1 ++ small 2 ++ small 3 ++ string inquiry (0 ∷ 0 ∷ []) ++ string (9 ∷ []) (0 ∷ 1 ∷ 0 ∷ []))
    ∷ body (Message.Tape TapeKind.Open) (string tape0 (1 ∷ 0 ∷ 0 ∷ []) ++ small 1)
    ∷ body (Message.Tape TapeKind.Write) (string (7 ∷ 8 ∷ 9 ∷ []) (255 ∷ []))
    ∷ body (Message.Data DataKind.Backup) (string (100 ∷ []) (0 ∷ 0 ∷ 1 ∷ []) ++ environment (0 ∷ 0 ∷ []))
    ∷ body (Message.Data DataKind.Backup) (string dump [] ++ environment (0 ∷ 1 ∷ []))
    ∷ body (Message.Data DataKind.Recover) (environment (1 ∷ 0 ∷ []) ++ nlist (0 ∷ []) ++ string dump [])
    ∷ body (Message.Data DataKind.Recover) (environment (0 ∷ 0 ∷ []) ++ nlist (1 ∷ []) ++ string dump [])
    ∷ body (Message.Data DataKind.Recover) (environment (0 ∷ 0 ∷ []) ++ nlist (0 ∷ []) ++ string (100 ∷ []) (1 ∷ 0 ∷ 0 ∷ []))
    ∷ body (Message.Data DataKind.Backup) (string dump [] ++ small 65 ++ replicate 520 0)
    ∷ body (Message.Connect ConnectKind.Close) (0 ∷ [])
    ∷ body (Message.Data DataKind.Environment) (0 ∷ [])
    ∷ body (Message.Data DataKind.Listen) (small 0 ++ 7 ∷ [])
    ∷ body (Message.Data DataKind.Listen) (small 1 ++ 7 ∷ [])
    ∷ body (Message.Mover MoverKind.Listen) (small 0 ++ small 1 ++ small 0)
    ∷ body (Message.Joint JointKind.DataConnect) (small 1)
    ∷ body (Message.Joint JointKind.DataConnect) (small 1 ++ address_list 17)
    ∷ body (Message.Joint JointKind.DataConnect) (small 1 ++ address_list 1 ++ small 0)
    ∷ body (Message.Joint JointKind.DataConnect) (small 1 ++ small 1 ++ (10 ∷ 0 ∷ 0 ∷ 1 ∷ 0 ∷ 1 ∷ 0 ∷ 0 ∷ []) ++ small 0)
    ∷ body (Message.Joint JointKind.MoverConnect) (small 0 ++ small 1 ++ small 1 ++ (10 ∷ 0 ∷ 0 ∷ 1 ∷ 0 ∷ 0 ∷ 39 ∷ 16 ∷ []) ++ environment (1 ∷ 0 ∷ []))
    ∷ body (Message.Mover MoverKind.Window) (wide 1 2 ++ small 0)
    ∷ body (Message.Mover MoverKind.Window) (wide 1 2 ++ wide 0 3 ++ 0 ∷ [])
    ∷ []

-- the pairs of the first backup and of the first recover above: "A" is "BC"
abbrev pub one_pair : List Pair
one_pair = pair (65 ∷ []) (66 ∷ 67 ∷ []) ∷ []

pub record RowsHold : Type 0 where
  pub decodes : map (λ (r : SampleBody). decoded r.message r.bytes) bodies ≡ requests
  pub refuses : map (λ (r : SampleBody). decoded r.message r.bytes) bad_bodies ≡ map (λ (r : SampleBody). Request.Bad) bad_bodies
  pub of_backup : pairs_from (string dump [] ++ environment (0 ∷ 0 ∷ [])) 1 12 ≡ one_pair
  pub of_recover : pairs_from (environment (0 ∷ 0 ∷ []) ++ nlist (0 ∷ []) ++ string dump []) 1 4 ≡ one_pair
