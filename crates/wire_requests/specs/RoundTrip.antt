-- Requests that were written by 004 (`Sent`) are read as what they say, and a body that decodes to its end has no second spelling.
use Rattle.std.specs.Prelude.{◌≡◌, List, ◌++◌, map, ℕ, ◌^◌, ◌<◌}
use Rattle.codes.specs.Codes.{local_address, tcp_address, md5_auth}
use Rattle.xdr.specs.Xdr.{be32, word}
use Rattle.wire_frame.specs.declared.ConnectKind.TheVariants as ConnectKind
use Rattle.wire_frame.specs.declared.ConfigKind.TheVariants as ConfigKind
use Rattle.wire_frame.specs.declared.DataKind.TheVariants as DataKind
use Rattle.wire_frame.specs.declared.MoverKind.TheVariants as MoverKind
use Rattle.wire_frame.specs.declared.JointKind.TheVariants as JointKind
use Rattle.wire_frame.specs.declared.Message.{Message}
use Rattle.wire_layouts.specs.Layout.{Value, write_as, whole, read_fields}
use Rattle.wire_layouts.specs.Laws.{Bytes, contents}
use Rattle.wire_layouts.specs.declared.Text.{Text}
use Rattle.wire_requests.specs.Bodies.{layout_of, decoded}
use Rattle.wire_requests.specs.Sent.{Sent, sent_bytes, SentFits, Means}
use Rattle.wire_requests.specs.declared.ConnectRequest.TheVariants as ConnectRequest
use Rattle.wire_requests.specs.declared.ConfigRequest.TheVariants as ConfigRequest
use Rattle.wire_requests.specs.declared.DataRequest.TheVariants as DataRequest
use Rattle.wire_requests.specs.declared.MoverRequest.TheVariants as MoverRequest
use Rattle.wire_requests.specs.declared.JointRequest.TheVariants as JointRequest
use Rattle.wire_requests.specs.declared.Request.TheVariants.{Connect, Config, Data, Mover, Joint, Bad}

abbrev pub Known : Message → Type 0
Known (Message.Connect k) = Unit
Known (Message.Config k) = Unit
Known (Message.Scsi k) = Unit
Known (Message.Tape k) = Unit
Known (Message.Data k) = Unit
Known (Message.Mover k) = Unit
Known (Message.Joint k) = Unit
Known Message.Unknown = ⊥

-- a word that is another type than k
abbrev pub OtherThan : ℕ → ℕ → Type 0
OtherThan k v = (v < 2 ^ 32) × (v ≡ k → ⊥)

-- a word that is another address type than LOCAL and TCP
abbrev pub OtherType : ℕ → Type 0
OtherType v = OtherThan local_address v × (v ≡ tcp_address → ⊥)

-- every message has its requests; each body decodes to the request that it says; and after an auth type other than 2 or an address type other
-- than 0 and 1 the rest is not read, whatever it is ("type 1 no longer leaves bytes unread", of addresses; "9 for type 1, .. its rest unread", of auth)
pub record RequestsBack : Type 0 where
  pub every : (m : Message) → Known m → Sent m
  pub sent : {m : Message} (s : Sent m) → SentFits s → Means s (sent_bytes s) (decoded m (sent_bytes s))
  pub other_auth : (v : ℕ) (rest : List ℕ) → OtherThan md5_auth v
      → decoded (Message.Connect ConnectKind.Auth) (be32 v ++ rest) ≡ Connect ConnectRequest.OtherAuth
  pub other_attributes : (v : ℕ) (rest : List ℕ) → OtherThan md5_auth v
      → decoded (Message.Config ConfigKind.AuthAttributes) (be32 v ++ rest) ≡ Config (ConfigRequest.AuthAttributes v)
  pub other_data_listen : (v : ℕ) (rest : List ℕ) → OtherType v
      → decoded (Message.Data DataKind.Listen) (be32 v ++ rest) ≡ Data (DataRequest.Listen v)
  pub other_mover_listen : (mode v : ℕ) (rest : List ℕ) → mode < 2 ^ 32 → OtherType v
      → decoded (Message.Mover MoverKind.Listen) (be32 mode ++ (be32 v ++ rest)) ≡ Mover (MoverRequest.Listen mode v)
  pub other_data_connect : (v : ℕ) (rest : List ℕ) → OtherType v
      → decoded (Message.Joint JointKind.DataConnect) (be32 v ++ rest) ≡ Joint (JointRequest.DataConnect v 0)
  pub other_mover_connect : (mode v : ℕ) (rest : List ℕ) → mode < 2 ^ 32 → OtherType v
      → decoded (Message.Joint JointKind.MoverConnect) (be32 mode ++ (be32 v ++ rest)) ≡ Joint (JointRequest.MoverConnect mode v 0)

-- a word of the body that is no address type whose fields are read
abbrev pub NoType : ℕ → Type 0
NoType v = (v ≡ local_address → ⊥) × (v ≡ tcp_address → ⊥)

-- "address and auth types whose rest is unread stay apart": the bodies of an auth other than MD5 and of an address other than LOCAL and TCP,
-- by the word of that type
abbrev pub Apart : Message → List ℕ → Type 0
Apart (Message.Connect ConnectKind.Open) b = ⊥
Apart (Message.Connect ConnectKind.Auth) b = word b 0 ≡ md5_auth → ⊥
Apart (Message.Connect ConnectKind.Close) b = ⊥
Apart (Message.Config ConfigKind.ConnectionType) b = ⊥
Apart (Message.Config ConfigKind.AuthAttributes) b = word b 0 ≡ md5_auth → ⊥
Apart (Message.Config ConfigKind.ServerInfo) b = ⊥
Apart (Message.Scsi k) b = ⊥
Apart (Message.Tape k) b = ⊥
Apart (Message.Data DataKind.State) b = ⊥
Apart (Message.Data DataKind.Backup) b = ⊥
Apart (Message.Data DataKind.Recover) b = ⊥
Apart (Message.Data DataKind.Environment) b = ⊥
Apart (Message.Data DataKind.Stop) b = ⊥
Apart (Message.Data DataKind.Listen) b = NoType (word b 0)
Apart (Message.Mover MoverKind.State) b = ⊥
Apart (Message.Mover MoverKind.Listen) b = NoType (word b 4)
Apart (Message.Mover MoverKind.Continue) b = ⊥
Apart (Message.Mover MoverKind.Stop) b = ⊥
Apart (Message.Mover MoverKind.Window) b = ⊥
Apart (Message.Mover MoverKind.Read) b = ⊥
Apart (Message.Mover MoverKind.Size) b = ⊥
Apart (Message.Joint JointKind.DataAbort) b = ⊥
Apart (Message.Joint JointKind.DataConnect) b = NoType (word b 0)
Apart (Message.Joint JointKind.MoverAbort) b = ⊥
Apart (Message.Joint JointKind.MoverClose) b = ⊥
Apart (Message.Joint JointKind.MoverConnect) b = NoType (word b 4)
Apart Message.Unknown b = ⊥

-- a body that decodes: it is what its fields are written as, or it stands apart
pub data Spelling (m : Message) (b : List ℕ) : Type 0 where
  to_its_end : (ws : List (Value Text)) → read_fields (layout_of m b) b 0 ≡ whole ws → b ≡ write_as (map (contents b) ws) → Spelling m b
  rest_unread : Apart m b → Spelling m b

abbrev pub RequestsOneSpelling : Type 0
RequestsOneSpelling = (m : Message) → Known m → (b : List ℕ) → Bytes b → (decoded m b ≡ Bad → ⊥) → Spelling m b
