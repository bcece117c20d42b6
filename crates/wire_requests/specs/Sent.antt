-- Requests a second time, by the names that 004 gives their fields: the bytes of each body after 004's Appendix C, written by RFC 4506, and
-- the request that the body must decode to. Nothing here is taken from the tables of `Bodies`: `RequestsBack` says that the two agree.
use Rattle.std.specs.Prelude.{ℕ, ◌^◌, ◌≤◌, ◌<◌, Bool, true, false, ◌≡◌, length}
use mathlib.Core.List.{List, [], ◌∷◌, ◌++◌, flat_map}
use Rattle.codes.specs.Codes.{local_address, tcp_address, md5_auth, digest_length, most_listed, most_addresses, most_port}
use Rattle.xdr.specs.Xdr.{be32, be64}
use Rattle.xdr_opaque.specs.Put.{opaque, Each}
use Rattle.wire_frame.specs.declared.ConnectKind.TheVariants as ConnectKind
use Rattle.wire_frame.specs.declared.ConfigKind.TheVariants as ConfigKind
use Rattle.wire_frame.specs.declared.ScsiKind.TheVariants as ScsiKind
use Rattle.wire_frame.specs.declared.TapeKind.TheVariants as TapeKind
use Rattle.wire_frame.specs.declared.DataKind.TheVariants as DataKind
use Rattle.wire_frame.specs.declared.MoverKind.TheVariants as MoverKind
use Rattle.wire_frame.specs.declared.JointKind.TheVariants as JointKind
use Rattle.wire_frame.specs.declared.Message.{Message}
use Rattle.wire_pairs.specs.Pairs.{Pair, pairs_from}
use Rattle.wire_layouts.specs.declared.Text.{Text}
use Rattle.wire_requests.specs.Within.{bytes_at}
use Rattle.wire_requests.specs.declared.Pairs.{Pairs}
use Rattle.wire_requests.specs.declared.ConnectRequest.TheVariants as ConnectRequest
use Rattle.wire_requests.specs.declared.ConfigRequest.TheVariants as ConfigRequest
use Rattle.wire_requests.specs.declared.ScsiRequest.TheVariants as ScsiRequest
use Rattle.wire_requests.specs.declared.TapeRequest.TheVariants as TapeRequest
use Rattle.wire_requests.specs.declared.DataRequest.TheVariants as DataRequest
use Rattle.wire_requests.specs.declared.MoverRequest.TheVariants as MoverRequest
use Rattle.wire_requests.specs.declared.JointRequest.TheVariants as JointRequest
use Rattle.wire_requests.specs.declared.Request.{Request}
use Rattle.wire_requests.specs.declared.Request.TheVariants.{Connect, Config, Scsi, Tape, Data, Mover, Joint}

-- ---- ndmp_pval and ndmp_name, and their bytes
abbrev pub pval_bytes : Pair → List ℕ
pval_bytes p = opaque p.name ++ opaque p.value

abbrev pub PvalFits : Pair → Type 0
PvalFits p = (length p.name < 2 ^ 32) × (length p.value < 2 ^ 32)

pub record Name : Type 0 where
  pub original : List ℕ
  pub destination : List ℕ
  pub name : List ℕ
  pub other : List ℕ
  pub node : ℕ
  pub info : ℕ

abbrev pub name_bytes : Name → List ℕ
name_bytes n =
    opaque n.original ++ (opaque n.destination ++ (opaque n.name ++ (opaque n.other ++ (be64 n.node ++ be64 n.info))))

abbrev pub NameFits : Name → Type 0
NameFits n =
    (length n.original < 2 ^ 32)
    × (length n.destination < 2 ^ 32)
    × (length n.name < 2 ^ 32)
    × (length n.other < 2 ^ 32)
    × (n.node < 2 ^ 64)
    × (n.info < 2 ^ 64)

-- ---- ndmp_tcp_addr: the address and the port, an unsigned short, which XDR writes as a word; and its environment
pub record TcpAddr : Type 0 where
  pub ip : ℕ
  pub port : ℕ
  pub env : List Pair

abbrev pub tcp_addr_bytes : TcpAddr → List ℕ
tcp_addr_bytes a = be32 a.ip ++ (be32 a.port ++ (be32 (length a.env) ++ flat_map pval_bytes a.env))

-- "each with up to 64 environment pairs (more, or a port above 65,535, is 18)"
abbrev pub TcpAddrFits : TcpAddr → Type 0
TcpAddrFits a = (a.ip < 2 ^ 32) × (a.port ≤ most_port) × (length a.env ≤ most_listed) × Each PvalFits a.env

-- ndmp_addr of a connect: of LOCAL nothing is told
pub data Addr : Type 0 where
  local : Addr
  tcp : List TcpAddr → Addr

-- ---- a field by its type in 004: u_long and enums; u_quad; string and opaque; opaque[16]; ndmp_pval<>, ndmp_name<> and ndmp_tcp_addr<>; the type of
-- a union
pub data Arg : Type 0 where
  ulong : ℕ → Arg
  uquad : ℕ → Arg
  octets : List ℕ → Arg
  sixteen : List ℕ → Arg
  pvals : List Pair → Arg
  name_list : List Name → Arg
  tcp_addrs : List TcpAddr → Arg
  union : ℕ → Arg

abbrev pub arg_bytes : Arg → List ℕ
arg_bytes (ulong v) = be32 v
arg_bytes (uquad v) = be64 v
arg_bytes (octets s) = opaque s
arg_bytes (sixteen s) = s
arg_bytes (pvals ps) = be32 (length ps) ++ flat_map pval_bytes ps
arg_bytes (name_list ns) = be32 (length ns) ++ flat_map name_bytes ns
arg_bytes (tcp_addrs addrs) = be32 (length addrs) ++ flat_map tcp_addr_bytes addrs
arg_bytes (union k) = be32 k

-- "At most 64 environment pairs and 64 names in a start request"; "lists of up to 16 addresses"
abbrev pub ArgFits : Arg → Type 0
ArgFits (ulong v) = v < 2 ^ 32
ArgFits (uquad v) = v < 2 ^ 64
ArgFits (octets s) = length s < 2 ^ 32
ArgFits (sixteen s) = length s ≡ digest_length
ArgFits (pvals ps) = (length ps ≤ most_listed) × Each PvalFits ps
ArgFits (name_list ns) = (length ns ≤ most_listed) × Each NameFits ns
ArgFits (tcp_addrs addrs) = (length addrs ≤ most_addresses) × Each TcpAddrFits addrs
ArgFits (union k) = k < 2 ^ 32

-- ---- the requests of each message. An auth is MD5 here and an address LOCAL or TCP: of other types the rest is not read, see `RequestsBack`.
-- A listen names the type of its address and nothing else.
pub data Sent : Message → Type 0 where
  connect_open : (version : ℕ) → Sent (Message.Connect ConnectKind.Open)
  client_auth : (id digest : List ℕ) → Sent (Message.Connect ConnectKind.Auth)
  connect_close : Sent (Message.Connect ConnectKind.Close)
  connection_type : Sent (Message.Config ConfigKind.ConnectionType)
  auth_attr : Sent (Message.Config ConfigKind.AuthAttributes)
  server_info : Sent (Message.Config ConfigKind.ServerInfo)
  scsi_open : (device : List ℕ) → Sent (Message.Scsi ScsiKind.Open)
  scsi_close : Sent (Message.Scsi ScsiKind.Close)
  scsi_state : Sent (Message.Scsi ScsiKind.State)
  scsi_reset : Sent (Message.Scsi ScsiKind.Reset)
  execute_cdb : (flags timeout datainLen : ℕ) (cdb dataout : List ℕ) → Sent (Message.Scsi ScsiKind.Cdb)
  tape_open : (device : List ℕ) (mode : ℕ) → Sent (Message.Tape TapeKind.Open)
  tape_close : Sent (Message.Tape TapeKind.Close)
  tape_state : Sent (Message.Tape TapeKind.State)
  tape_mtio : (op count : ℕ) → Sent (Message.Tape TapeKind.Mtio)
  tape_write : (dataOut : List ℕ) → Sent (Message.Tape TapeKind.Write)
  tape_read : (count : ℕ) → Sent (Message.Tape TapeKind.Read)
  data_state : Sent (Message.Data DataKind.State)
  start_backup : (butype : List ℕ) (env : List Pair) → Sent (Message.Data DataKind.Backup)
  start_recover : (env : List Pair) (list : List Name) (butype : List ℕ) → Sent (Message.Data DataKind.Recover)
  data_get_env : Sent (Message.Data DataKind.Environment)
  data_stop : Sent (Message.Data DataKind.Stop)
  data_listen : (by_tcp : Bool) → Sent (Message.Data DataKind.Listen)
  mover_state : Sent (Message.Mover MoverKind.State)
  mover_listen : (mode : ℕ) (by_tcp : Bool) → Sent (Message.Mover MoverKind.Listen)
  mover_continue : Sent (Message.Mover MoverKind.Continue)
  mover_stop : Sent (Message.Mover MoverKind.Stop)
  set_window : (offset len : ℕ) → Sent (Message.Mover MoverKind.Window)
  mover_read : (offset len : ℕ) → Sent (Message.Mover MoverKind.Read)
  set_record_size : (len : ℕ) → Sent (Message.Mover MoverKind.Size)
  data_abort : Sent (Message.Joint JointKind.DataAbort)
  data_connect_lem : (addr : Addr) → Sent (Message.Joint JointKind.DataConnect)
  mover_abort : Sent (Message.Joint JointKind.MoverAbort)
  mover_close : Sent (Message.Joint JointKind.MoverClose)
  mover_connect_lem : (mode : ℕ) (addr : Addr) → Sent (Message.Joint JointKind.MoverConnect)

-- ndmp_addr_type: LOCAL 0, TCP 1
abbrev pub type_word : Bool → ℕ
type_word true = tcp_address
type_word false = local_address

abbrev pub addr_args : Addr → List Arg
addr_args local = union local_address ∷ []
addr_args (tcp addrs) = union tcp_address ∷ tcp_addrs addrs ∷ []

-- the fields of the body, in the order of the struct
abbrev pub args_of : {m : Message} → Sent m → List Arg
args_of (connect_open version) = ulong version ∷ []
args_of (client_auth id digest) = union md5_auth ∷ octets id ∷ sixteen digest ∷ []
args_of connect_close = []
args_of connection_type = []
args_of auth_attr = union md5_auth ∷ []
args_of server_info = []
args_of (scsi_open device) = octets device ∷ []
args_of scsi_close = []
args_of scsi_state = []
args_of scsi_reset = []
args_of (execute_cdb flags timeout datainLen cdb dataout) = ulong flags ∷ ulong timeout ∷ ulong datainLen ∷ octets cdb ∷ octets dataout ∷ []
args_of (tape_open device mode) = octets device ∷ ulong mode ∷ []
args_of tape_close = []
args_of tape_state = []
args_of (tape_mtio op count) = ulong op ∷ ulong count ∷ []
args_of (tape_write dataOut) = octets dataOut ∷ []
args_of (tape_read count) = ulong count ∷ []
args_of data_state = []
args_of (start_backup butype env) = octets butype ∷ pvals env ∷ []
args_of (start_recover env list butype) = pvals env ∷ name_list list ∷ octets butype ∷ []
args_of data_get_env = []
args_of data_stop = []
args_of (data_listen by_tcp) = union (type_word by_tcp) ∷ []
args_of mover_state = []
args_of (mover_listen mode by_tcp) = ulong mode ∷ union (type_word by_tcp) ∷ []
args_of mover_continue = []
args_of mover_stop = []
args_of (set_window offset len) = uquad offset ∷ uquad len ∷ []
args_of (mover_read offset len) = uquad offset ∷ uquad len ∷ []
args_of (set_record_size len) = ulong len ∷ []
args_of data_abort = []
args_of (data_connect_lem addr) = addr_args addr
args_of mover_abort = []
args_of mover_close = []
args_of (mover_connect_lem mode addr) = ulong mode ∷ addr_args addr

unfoldable pub sent_bytes : {m : Message} → Sent m → List ℕ
sent_bytes s = flat_map arg_bytes (args_of s)

abbrev pub SentFits : {m : Message} → Sent m → Type 0
SentFits s = Each ArgFits (args_of s)

-- ---- what a request r says of the body b. The text s stands at a place in b (within it, by `Within`), and of that place P holds.
pub record AtPlace (b s : List ℕ) (P : Text → Type 0) : Type 0 where
  pub stands : Text
  pub holds : bytes_at b stands ≡ s
  pub so : P stands

-- the pairs of a start request are read from b as they were sent
pub record AtPairs (b : List ℕ) (env : List Pair) (P : Pairs → Type 0) : Type 0 where
  pub stand : Pairs
  pub hold : pairs_from b stand.count stand.start ≡ env
  pub so : P stand

abbrev pub Means : {m : Message} → Sent m → List ℕ → Request → Type 0
Means (connect_open version) b r = r ≡ Connect (ConnectRequest.Open version)
Means (client_auth id digest) b r = AtPlace b id (λ i. AtPlace b digest (λ d. r ≡ Connect (ConnectRequest.Md5Auth i d)))
Means connect_close b r = r ≡ Connect ConnectRequest.Close
Means connection_type b r = r ≡ Config ConfigRequest.ConnectionType
Means auth_attr b r = r ≡ Config (ConfigRequest.AuthAttributes md5_auth)
Means server_info b r = r ≡ Config ConfigRequest.ServerInfo
Means (scsi_open device) b r = AtPlace b device (λ d. r ≡ Scsi (ScsiRequest.Open d))
Means scsi_close b r = r ≡ Scsi ScsiRequest.Close
Means scsi_state b r = r ≡ Scsi ScsiRequest.State
Means scsi_reset b r = r ≡ Scsi ScsiRequest.Reset
Means (execute_cdb flags timeout datainLen cdb dataout) b r = AtPlace b cdb (λ c. r ≡ Scsi (ScsiRequest.Cdb c datainLen))
Means (tape_open device mode) b r = AtPlace b device (λ d. r ≡ Tape (TapeRequest.Open d mode))
Means tape_close b r = r ≡ Tape TapeRequest.Close
Means tape_state b r = r ≡ Tape TapeRequest.State
Means (tape_mtio op count) b r = r ≡ Tape (TapeRequest.Mtio op count)
Means (tape_write dataOut) b r = AtPlace b dataOut (λ d. r ≡ Tape (TapeRequest.Write d))
Means (tape_read count) b r = r ≡ Tape (TapeRequest.Read count)
Means data_state b r = r ≡ Data DataRequest.State
Means (start_backup butype env) b r = AtPlace b butype (λ t. AtPairs b env (λ ps. r ≡ Data (DataRequest.Backup t ps)))
Means (start_recover env list butype) b r = AtPlace b butype (λ t. AtPairs b env (λ ps. r ≡ Data (DataRequest.Recover t ps)))
Means data_get_env b r = r ≡ Data DataRequest.Environment
Means data_stop b r = r ≡ Data DataRequest.Stop
Means (data_listen by_tcp) b r = r ≡ Data (DataRequest.Listen (type_word by_tcp))
Means mover_state b r = r ≡ Mover MoverRequest.State
Means (mover_listen mode by_tcp) b r = r ≡ Mover (MoverRequest.Listen mode (type_word by_tcp))
Means mover_continue b r = r ≡ Mover MoverRequest.Continue
Means mover_stop b r = r ≡ Mover MoverRequest.Stop
Means (set_window offset len) b r = r ≡ Mover (MoverRequest.Window offset len)
Means (mover_read offset len) b r = r ≡ Mover (MoverRequest.Read offset len)
Means (set_record_size len) b r = r ≡ Mover (MoverRequest.Size len)
Means data_abort b r = r ≡ Joint JointRequest.DataAbort
Means (data_connect_lem local) b r = r ≡ Joint (JointRequest.DataConnect local_address 0)
Means (data_connect_lem (tcp addrs)) b r = r ≡ Joint (JointRequest.DataConnect tcp_address (length addrs))
Means mover_abort b r = r ≡ Joint JointRequest.MoverAbort
Means mover_close b r = r ≡ Joint JointRequest.MoverClose
Means (mover_connect_lem mode local) b r = r ≡ Joint (JointRequest.MoverConnect mode local_address 0)
Means (mover_connect_lem mode (tcp addrs)) b r = r ≡ Joint (JointRequest.MoverConnect mode tcp_address (length addrs))
