-- "The host makes the connection: a TCP connect is lent made or failed (our reader gives the host its list)": the addresses of a record that is a
-- connect by TCP, and none of any other. It judges no state and no login.
use Rattle.std.specs.Prelude.{ℕ, true, false, ◌≡◌, List, [], ◌∷◌, ◌++◌, eqb, replicate, Result, Ok, Err}
use Rattle.codes.specs.Codes.{tcp_address}
use Rattle.xdr.specs.Choose.{choose}
use Rattle.wire_frame.specs.Frame.{well_framed, kind_of, message_word, body_of, framed}
use Rattle.wire_frame.specs.Messages.{message_of}
use Rattle.wire_frame.specs.declared.Frame.{Frame}
use Rattle.wire_frame.specs.declared.Unframed.{Unframed}
use Rattle.wire_frame.specs.declared.Unframed.TheVariants.{Broken, NotRequest}
use Rattle.wire_frame.specs.declared.JointKind.TheVariants as JointKind
use Rattle.wire_frame.specs.declared.Message.{Message}
use Rattle.wire_layouts.specs.Layout.{Item, four, Value, value, whole, read_fields}
use Rattle.wire_layouts.specs.AddressLists.{empty_addresses, addresses_at, Given}
use Rattle.wire_layouts.specs.declared.Text.{Text}
use Rattle.wire_layouts.specs.declared.Addresses.{Addresses}
use Rattle.wire_requests.specs.Bodies.{layout_of, decoded}
use Rattle.wire_requests.specs.declared.JointRequest.{JointRequest}
use Rattle.wire_requests.specs.declared.Request.{Request}
use Rattle.wire_requests.specs.declared.Request.TheVariants.{Connect, Config, Scsi, Tape, Data, Mover, Joint, Unknown, Bad}
use Rattle.call_addresses.specs.Samples.{connect_two, listen_tcp}

-- the list at an offset of a connect's body, where its address type is TCP
unfoldable pub by_type : ℕ → List ℕ → ℕ → Addresses
by_type kind b at = choose (eqb kind tcp_address) (addresses_at b at) (empty_addresses 0)

-- behind the type; of the mover behind the mode and the type
unfoldable pub of_joint : JointRequest → List ℕ → Addresses
of_joint JointRequest.DataAbort b = empty_addresses 0
of_joint (JointRequest.DataConnect kind n) b = by_type kind b 4
of_joint JointRequest.MoverAbort b = empty_addresses 0
of_joint JointRequest.MoverClose b = empty_addresses 0
of_joint (JointRequest.MoverConnect mode kind n) b = by_type kind b 8

unfoldable pub of_request : Request → List ℕ → Addresses
of_request (Connect q) b = empty_addresses 0
of_request (Config q) b = empty_addresses 0
of_request (Scsi q) b = empty_addresses 0
of_request (Tape q) b = empty_addresses 0
of_request (Data q) b = empty_addresses 0
of_request (Mover q) b = empty_addresses 0
of_request (Joint q) b = of_joint q b
of_request Unknown b = empty_addresses 0
of_request Bad b = empty_addresses 0

-- by what the record was found to be
unfoldable pub of_frame : Result Frame Unframed → List ℕ → Addresses
of_frame (Err Broken) b = empty_addresses 0
of_frame (Err NotRequest) b = empty_addresses 0
of_frame (Ok f) b = of_request (decoded (message_of f.message) b) b

unfoldable pub addresses_in : List ℕ → Addresses
addresses_in r = of_frame (framed r) (body_of r)

-- ---- what the host may rely on
abbrev pub request_in : List ℕ → Request
request_in r = decoded (message_of (message_word r)) (body_of r)

-- a well-framed record of type 0, and the request that it decodes to
pub record Asks (r : List ℕ) (q : Request) : Type 0 where
  pub well : well_framed r ≡ true
  pub request : kind_of r ≡ 0
  pub is : request_in r ≡ q

-- a body of a message, read to its end: fields, and behind them a list of n addresses, which are those given
pub record ListGiven (m : Message) (b : List ℕ) (fields : List (Value Text)) (n : ℕ) (k : Addresses) : Type 0 where
  pub items : List (Item Text)
  pub reads : read_fields (layout_of m b) b 0 ≡ whole (fields ++ (value (four n) items ∷ []))
  pub given : Given n items k

pub record ReaderHolds : Type 0 where
  -- of a connect by TCP the host is given its n addresses, as the decoder reads them
  pub data_connect_lem : (r : List ℕ) (n : ℕ) → Asks r (Joint (JointRequest.DataConnect tcp_address n))
      → ListGiven (Message.Joint JointKind.DataConnect) (body_of r) (value (four tcp_address) [] ∷ []) n (addresses_in r)
  pub mover_connect_lem : (r : List ℕ) (mode n : ℕ) → Asks r (Joint (JointRequest.MoverConnect mode tcp_address n))
      → ListGiven (Message.Joint JointKind.MoverConnect) (body_of r) (value (four mode) [] ∷ value (four tcp_address) [] ∷ []) n (addresses_in r)
  -- and none of any other record
  pub not_framed : (r : List ℕ) → well_framed r ≡ false → addresses_in r ≡ empty_addresses 0
  pub no_request : (r : List ℕ) → (kind_of r ≡ 0 → ⊥) → addresses_in r ≡ empty_addresses 0
  pub no_connect : (r : List ℕ) → ((n : ℕ) → request_in r ≡ Joint (JointRequest.DataConnect tcp_address n) → ⊥)
      → ((mode n : ℕ) → request_in r ≡ Joint (JointRequest.MoverConnect mode tcp_address n) → ⊥) → addresses_in r ≡ empty_addresses 0
  -- records written out by hand
  pub two : addresses_in connect_two ≡ record { count = 2; hosts = 167772161 ∷ 3232235777 ∷ replicate 14 0; ports = 10000 ∷ 65535 ∷ replicate 14 0 }
  pub listen : addresses_in listen_tcp ≡ empty_addresses 0
