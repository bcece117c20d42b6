-- The bodies of requests (004, Appendix C): the layout of each, and the request that its fields are, or Bad, which is error 18. A text is
-- its place in the body.
use Rattle.std.specs.Prelude.{ℕ, ◌+◌, Bool, true, false, List, [], ◌∷◌, eqb, get_or, Option, Some, None, option_map}
use Rattle.xdr.specs.Choose.{choose}
use Rattle.codes.specs.Codes.{local_address, tcp_address, md5_auth}
use Rattle.xdr_opaque.specs.Opaque.{filled}
use Rattle.wire_layouts.specs.Layout.{Field, one, tag, place}
use Rattle.wire_layouts.specs.declared.Part.TheVariants.{Word as word, Hyper as hyper, Text as text, Digest as digest}
use Rattle.wire_layouts.specs.Scans.{pairs, names, addresses, scanned}
use Rattle.wire_layouts.specs.AddressLists.{is_tcp}
use Rattle.wire_layouts.specs.declared.Scan.{Scan}
use Rattle.wire_layouts.specs.declared.Text.{Text}
use Rattle.wire_frame.specs.declared.ConnectKind.{ConnectKind}
use Rattle.wire_frame.specs.declared.ConfigKind.{ConfigKind}
use Rattle.wire_frame.specs.declared.ScsiKind.{ScsiKind}
use Rattle.wire_frame.specs.declared.TapeKind.{TapeKind}
use Rattle.wire_frame.specs.declared.DataKind.{DataKind}
use Rattle.wire_frame.specs.declared.MoverKind.{MoverKind}
use Rattle.wire_frame.specs.declared.JointKind.{JointKind}
use Rattle.wire_frame.specs.declared.Message.{Message}
use Rattle.wire_requests.specs.declared.Pairs.{Pairs}
use Rattle.wire_requests.specs.declared.ConnectRequest.{ConnectRequest}
use Rattle.wire_requests.specs.declared.ConfigRequest.{ConfigRequest}
use Rattle.wire_requests.specs.declared.ScsiRequest.{ScsiRequest}
use Rattle.wire_requests.specs.declared.TapeRequest.{TapeRequest}
use Rattle.wire_requests.specs.declared.DataRequest.{DataRequest}
use Rattle.wire_requests.specs.declared.MoverRequest.{MoverRequest}
use Rattle.wire_requests.specs.declared.JointRequest.{JointRequest}
use Rattle.wire_requests.specs.declared.Request.{Request}
use Rattle.wire_requests.specs.declared.Request.TheVariants.{Connect, Config, Scsi, Tape, Data, Mover, Joint, Unknown, Bad}

-- what was kept of a field, by the field's number
abbrev pub word_of : Scan → ℕ → ℕ
word_of k i = get_or k.words i 0

abbrev pub hyper_of : Scan → ℕ → ℕ
hyper_of k i = get_or k.hypers i 0

abbrev pub text_of : Scan → ℕ → Text
text_of k i = get_or k.texts i (place 0 0)

-- the offset behind a text and its fill
abbrev pub behind_text : Text → ℕ
behind_text t = t.start + filled t.len

-- the pairs of a list of so many, whose count stands at an offset: the first begins behind it
abbrev pub pairs_at : ℕ → ℕ → Pairs
pairs_at list n = record { start = list + 4; count = n }

-- An address by whether its type is TCP. A listen names the type alone; behind that of a connect by TCP stands its list: "type 1 no longer leaves
-- bytes unread". Of any other type than LOCAL and TCP the rest is not read.
abbrev pub listen_fields : Bool → List Field
listen_fields true = tag tcp_address ∷ []
listen_fields false = tag local_address ∷ []

abbrev pub connect_fields : Bool → List Field
connect_fields true = tag tcp_address ∷ addresses ∷ []
connect_fields false = tag local_address ∷ []

-- "Bytes left over make error 18, except after an address type other than 0 or an auth type other than 1: there the rest is not read. At
-- most 64 environment pairs and 64 names in a start request". 02 No. 2: "9 for a type other than 1 and 2, its rest unread", and No. 10: "9 for type 1,
-- at 0x103 too, its rest unread". An address is a tag of LOCAL or TCP, by the body's own word, an auth one of MD5: behind it stand the id and the 16
-- bytes of the digest, and in 0x103 nothing.
abbrev pub layout_of : Message → List ℕ → List Field
layout_of (Message.Connect ConnectKind.Open) b = one word ∷ []
layout_of (Message.Connect ConnectKind.Auth) b = tag md5_auth ∷ one text ∷ one digest ∷ []
layout_of (Message.Connect ConnectKind.Close) b = []
layout_of (Message.Config ConfigKind.ConnectionType) b = []
layout_of (Message.Config ConfigKind.AuthAttributes) b = tag md5_auth ∷ []
layout_of (Message.Config ConfigKind.ServerInfo) b = []
layout_of (Message.Scsi ScsiKind.Open) b = one text ∷ []
layout_of (Message.Scsi ScsiKind.Close) b = []
layout_of (Message.Scsi ScsiKind.State) b = []
layout_of (Message.Scsi ScsiKind.Reset) b = []
layout_of (Message.Scsi ScsiKind.Cdb) b = one word ∷ one word ∷ one word ∷ one text ∷ one text ∷ []
layout_of (Message.Tape TapeKind.Open) b = one text ∷ one word ∷ []
layout_of (Message.Tape TapeKind.Close) b = []
layout_of (Message.Tape TapeKind.State) b = []
layout_of (Message.Tape TapeKind.Mtio) b = one word ∷ one word ∷ []
layout_of (Message.Tape TapeKind.Write) b = one text ∷ []
layout_of (Message.Tape TapeKind.Read) b = one word ∷ []
layout_of (Message.Data DataKind.State) b = []
layout_of (Message.Data DataKind.Backup) b = one text ∷ pairs ∷ []
layout_of (Message.Data DataKind.Recover) b = pairs ∷ names ∷ one text ∷ []
layout_of (Message.Data DataKind.Environment) b = []
layout_of (Message.Data DataKind.Stop) b = []
layout_of (Message.Data DataKind.Listen) b = listen_fields (is_tcp b 0)
layout_of (Message.Mover MoverKind.State) b = []
layout_of (Message.Mover MoverKind.Listen) b = one word ∷ listen_fields (is_tcp b 4)
layout_of (Message.Mover MoverKind.Continue) b = []
layout_of (Message.Mover MoverKind.Stop) b = []
layout_of (Message.Mover MoverKind.Window) b = one hyper ∷ one hyper ∷ []
layout_of (Message.Mover MoverKind.Read) b = one hyper ∷ one hyper ∷ []
layout_of (Message.Mover MoverKind.Size) b = one word ∷ []
layout_of (Message.Joint JointKind.DataAbort) b = []
layout_of (Message.Joint JointKind.DataConnect) b = connect_fields (is_tcp b 0)
layout_of (Message.Joint JointKind.MoverAbort) b = []
layout_of (Message.Joint JointKind.MoverClose) b = []
layout_of (Message.Joint JointKind.MoverConnect) b = one word ∷ connect_fields (is_tcp b 4)
layout_of Message.Unknown b = []

-- a login by its auth type: by MD5 its id and the 16 bytes behind it
abbrev pub auth_of : Scan → ConnectRequest
auth_of k = choose (eqb (word_of k 0) md5_auth) (ConnectRequest.Md5Auth (text_of k 1) (text_of k 2)) ConnectRequest.OtherAuth

-- the requests of each interface: of execute CDB (flags, timeout, data-in length, CDB, data out) the CDB and the data-in length; of a connect the
-- address type, and of one by TCP how many addresses its list has
abbrev pub connect_of : ConnectKind → Scan → ConnectRequest
connect_of ConnectKind.Open k = ConnectRequest.Open (word_of k 0)
connect_of ConnectKind.Auth k = auth_of k
connect_of ConnectKind.Close k = ConnectRequest.Close

abbrev pub config_of : ConfigKind → Scan → ConfigRequest
config_of ConfigKind.ConnectionType k = ConfigRequest.ConnectionType
config_of ConfigKind.AuthAttributes k = ConfigRequest.AuthAttributes (word_of k 0)
config_of ConfigKind.ServerInfo k = ConfigRequest.ServerInfo

abbrev pub scsi_of : ScsiKind → Scan → ScsiRequest
scsi_of ScsiKind.Open k = ScsiRequest.Open (text_of k 0)
scsi_of ScsiKind.Close k = ScsiRequest.Close
scsi_of ScsiKind.State k = ScsiRequest.State
scsi_of ScsiKind.Reset k = ScsiRequest.Reset
scsi_of ScsiKind.Cdb k = ScsiRequest.Cdb (text_of k 3) (word_of k 2)

abbrev pub tape_of : TapeKind → Scan → TapeRequest
tape_of TapeKind.Open k = TapeRequest.Open (text_of k 0) (word_of k 1)
tape_of TapeKind.Close k = TapeRequest.Close
tape_of TapeKind.State k = TapeRequest.State
tape_of TapeKind.Mtio k = TapeRequest.Mtio (word_of k 0) (word_of k 1)
tape_of TapeKind.Write k = TapeRequest.Write (text_of k 0)
tape_of TapeKind.Read k = TapeRequest.Read (word_of k 0)

abbrev pub data_of : DataKind → Scan → DataRequest
data_of DataKind.State k = DataRequest.State
data_of DataKind.Backup k = DataRequest.Backup (text_of k 0) (pairs_at (behind_text (text_of k 0)) (word_of k 1))
data_of DataKind.Recover k = DataRequest.Recover (text_of k 2) (pairs_at 0 (word_of k 0))
data_of DataKind.Environment k = DataRequest.Environment
data_of DataKind.Stop k = DataRequest.Stop
data_of DataKind.Listen k = DataRequest.Listen (word_of k 0)

abbrev pub mover_of : MoverKind → Scan → MoverRequest
mover_of MoverKind.State k = MoverRequest.State
mover_of MoverKind.Listen k = MoverRequest.Listen (word_of k 0) (word_of k 1)
mover_of MoverKind.Continue k = MoverRequest.Continue
mover_of MoverKind.Stop k = MoverRequest.Stop
mover_of MoverKind.Window k = MoverRequest.Window (hyper_of k 0) (hyper_of k 1)
mover_of MoverKind.Read k = MoverRequest.Read (hyper_of k 0) (hyper_of k 1)
mover_of MoverKind.Size k = MoverRequest.Size (word_of k 0)

abbrev pub joint_of : JointKind → Scan → JointRequest
joint_of JointKind.DataAbort k = JointRequest.DataAbort
joint_of JointKind.DataConnect k = JointRequest.DataConnect (word_of k 0) (word_of k 1)
joint_of JointKind.MoverAbort k = JointRequest.MoverAbort
joint_of JointKind.MoverClose k = JointRequest.MoverClose
joint_of JointKind.MoverConnect k = JointRequest.MoverConnect (word_of k 0) (word_of k 1) (word_of k 2)

abbrev pub request_of : Message → Scan → Request
request_of (Message.Connect q) k = Connect (connect_of q k)
request_of (Message.Config q) k = Config (config_of q k)
request_of (Message.Scsi q) k = Scsi (scsi_of q k)
request_of (Message.Tape q) k = Tape (tape_of q k)
request_of (Message.Data q) k = Data (data_of q k)
request_of (Message.Mover q) k = Mover (mover_of q k)
request_of (Message.Joint q) k = Joint (joint_of q k)
request_of Message.Unknown k = Unknown

-- the request of what was read, or Bad
abbrev pub or_bad : {R : Type 0} → (R → Request) → Option R → Request
or_bad f (Some r) = f r
or_bad f None = Bad

abbrev pub scanned_by : Message → List ℕ → Option Scan
scanned_by m b = scanned (layout_of m b) b

abbrev pub read_by : Message → List ℕ → Request
read_by m b = or_bad (request_of m) (scanned_by m b)

unfoldable pub connect_body : ConnectKind → List ℕ → Option ConnectRequest
connect_body k b = option_map (connect_of k) (scanned_by (Message.Connect k) b)

unfoldable pub config_body : ConfigKind → List ℕ → Option ConfigRequest
config_body k b = option_map (config_of k) (scanned_by (Message.Config k) b)

unfoldable pub scsi_body : ScsiKind → List ℕ → Option ScsiRequest
scsi_body k b = option_map (scsi_of k) (scanned_by (Message.Scsi k) b)

unfoldable pub tape_body : TapeKind → List ℕ → Option TapeRequest
tape_body k b = option_map (tape_of k) (scanned_by (Message.Tape k) b)

unfoldable pub data_body : DataKind → List ℕ → Option DataRequest
data_body k b = option_map (data_of k) (scanned_by (Message.Data k) b)

unfoldable pub mover_body : MoverKind → List ℕ → Option MoverRequest
mover_body k b = option_map (mover_of k) (scanned_by (Message.Mover k) b)

unfoldable pub joint_body : JointKind → List ℕ → Option JointRequest
joint_body k b = option_map (joint_of k) (scanned_by (Message.Joint k) b)

-- the request that a message and its body are
unfoldable pub decoded : Message → List ℕ → Request
decoded (Message.Connect k) b = or_bad Connect (connect_body k b)
decoded (Message.Config k) b = or_bad Config (config_body k b)
decoded (Message.Scsi k) b = or_bad Scsi (scsi_body k b)
decoded (Message.Tape k) b = or_bad Tape (tape_body k b)
decoded (Message.Data k) b = or_bad Data (data_body k b)
decoded (Message.Mover k) b = or_bad Mover (mover_body k b)
decoded (Message.Joint k) b = or_bad Joint (joint_body k b)
decoded Message.Unknown b = Unknown
