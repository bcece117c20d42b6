-- A connect by TCP gives the addresses that the decoder reads, and any other record none. Assumes nothing.
use Prim.Native.Nat.{ℕ, ◌+◌, ◌≤◌}
use mathlib.Core.Bool.{Bool, true, false}
use mathlib.Core.Path.{◌≡◌, refl, sym, ap, ◌∙◌}
use mathlib.Core.List.{List, [], ◌∷◌}
use native.Mathlib.Omega.{arith}
use lib.Dec.{eqb, leb}
use lib.ListN.{length}
use borrow.Author.Tests.{le-leb, eq-eqb, ne_eqb, eqb-true, leb-true}
use Rattle.codes.specs.Codes.{local_address, tcp_address, most_addresses}
use Rattle.xdr.specs.Choose.{choose}
use Rattle.xdr.specs.Xdr as xdr
use Rattle.xdr.proofs.Tests.{by_test}
use Rattle.wire_frame.specs.Frame.{well_framed, kind_of, message_word, body_of, framed}
use Rattle.wire_frame.specs.Messages.{row_of, message_of}
use Rattle.wire_frame.specs.declared.JointKind.{JointKind}
use Rattle.wire_frame.specs.declared.Message.{Message}
use Rattle.std.specs.Prelude.{Option, Some, None}
use Rattle.std.specs.declared.result.Result.{Result}
use Rattle.std.specs.declared.result.Result.TheVariants.{Err}
use Rattle.wire_frame.specs.declared.Frame.{Frame}
use Rattle.wire_frame.specs.declared.Unframed.{Unframed}
use Rattle.wire_frame.specs.declared.Row.{Row}
use Rattle.wire_layouts.specs.Layout.{Field, one, Item, four, eight, bytes, fixed, value, part_at, Got, got, cut, FieldGot, field_got, stop, bad}
use Rattle.wire_layouts.specs.declared.Part.TheVariants.{Word as word}
use Rattle.wire_layouts.specs.Layout.{single, counted, field_at, Read, whole, before, broken, and_value, and_read, read_fields}
use Rattle.wire_layouts.specs.Scans.{addresses, empty_scan, put, puts, summed, scanned}
use Rattle.wire_layouts.specs.AddressLists.{empty_addresses, addresses_at, is_tcp}
use Rattle.wire_layouts.specs.declared.Text.{Text}
use Rattle.wire_layouts.specs.declared.Scan.{Scan}
use Rattle.wire_layouts.specs.declared.Addresses.{Addresses}
use Rattle.wire_layouts.proofs.AddressLists.{addresses_given}
use Rattle.wire_layouts.proofs.AddressTypes.{type_judged}
use Rattle.wire_requests.specs.Bodies.{connect_fields, layout_of, joint_of, request_of, or_bad, decoded}
use Rattle.wire_requests.specs.Bodies.{connect_body, config_body, scsi_body, tape_body, data_body, mover_body, joint_body}
use Rattle.wire_requests.specs.RoundTrip.{Known}
use Rattle.wire_requests.specs.declared.JointRequest.{JointRequest}
use Rattle.wire_requests.specs.declared.Request.{Request}
use Rattle.wire_requests.specs.declared.Request.TheVariants.{Connect, Config, Scsi, Tape, Data, Mover, Joint, Unknown, Bad}
use Rattle.wire_requests.proofs.Laws.{by_layout, decoded_has}
use Rattle.call_addresses.specs.Reading.{by_type, of_joint, of_request, of_frame, addresses_in, request_in, Asks, ListGiven}

-- ---- the code: the request of a number is that of the message that it names
pub by_number : (number : ℕ) (b : List ℕ) {row : Row} {a : Addresses} → row ≡ row_of number → a ≡ of_request (decoded row.kind b) b
    → a ≡ of_request (decoded (message_of number) b) b
by_number number b e h = h ∙ ap (λ (row : Row). of_request (decoded row.kind b) b) e

-- a joint message and its request; a body that is none
pub by_joint : (k : JointKind) (b : List ℕ) {q : JointRequest} → Some q ≡ joint_body k b → of_joint q b ≡ of_request (decoded (Message.Joint k) b) b
unfolding decoded of_request
by_joint k b e = rw (← e) refl

pub by_no_joint : (k : JointKind) (b : List ℕ) → None ≡ joint_body k b → empty_addresses 0 ≡ of_request (decoded (Message.Joint k) b) b
unfolding decoded of_request
by_no_joint k b e = rw (← e) refl

-- a message that is none of the joint ones
module _ {A : Type 0} (b : List ℕ) (f : A → Request) where
  none_of : ((x : A) → empty_addresses 0 ≡ of_request (f x) b) → (o : Option A) → empty_addresses 0 ≡ of_request (or_bad f o) b
  unfolding of_request
  none_of h (Some x) = h x
  none_of h None = refl

pub by_other : (m : Message) (b : List ℕ) → ((k : JointKind) → m ≡ Message.Joint k → ⊥) → empty_addresses 0 ≡ of_request (decoded m b) b
unfolding decoded of_request
by_other (Message.Connect k) b h = none_of b Connect (λ x. refl) (connect_body k b)
by_other (Message.Config k) b h = none_of b Config (λ x. refl) (config_body k b)
by_other (Message.Scsi k) b h = none_of b Scsi (λ x. refl) (scsi_body k b)
by_other (Message.Tape k) b h = none_of b Tape (λ x. refl) (tape_body k b)
by_other (Message.Data k) b h = none_of b Data (λ x. refl) (data_body k b)
by_other (Message.Mover k) b h = none_of b Mover (λ x. refl) (mover_body k b)
by_other (Message.Joint k) b h = absurd (h k refl)
by_other Message.Unknown b h = refl

pub by_frame : (r : List ℕ) {f : Result Frame Unframed} {a : Addresses} → f ≡ framed r → a ≡ of_frame f (body_of r) → a ≡ addresses_in r
unfolding addresses_in
by_frame r e h = h ∙ ap (λ (f : Result Frame Unframed). of_frame f (body_of r)) e

pub none_by_frame : (r : List ℕ) (e : Unframed) → Err e ≡ framed r → empty_addresses 0 ≡ addresses_in r
unfolding of_frame
none_by_frame r Unframed.Broken e = by_frame r e refl
none_by_frame r Unframed.NotRequest e = by_frame r e refl

-- ---- a record that is a request, and one that is none
asked : (r : List ℕ) → well_framed r ≡ true → kind_of r ≡ 0 → addresses_in r ≡ of_request (request_in r) (body_of r)
unfolding addresses_in of_frame framed choose
asked r w k = rw (w, eq-eqb (kind_of r) 0 k)

pub not_framed : (r : List ℕ) → well_framed r ≡ false → addresses_in r ≡ empty_addresses 0
unfolding addresses_in of_frame framed choose
not_framed r w = rw w

unless_asked : (r : List ℕ) → (kind_of r ≡ 0 → of_request (request_in r) (body_of r) ≡ empty_addresses 0) → addresses_in r ≡ empty_addresses 0
unfolding addresses_in of_frame framed
unless_asked r h =
    let P : Result Frame Unframed → Type 0 = λ f. of_frame f (body_of r) ≡ empty_addresses 0 in
    by_test P (well_framed r) _ _ (λ w. by_test P (eqb (kind_of r) 0) _ _ (λ k. h (eqb-true _ _ k)) (λ k. refl)) (λ w. refl)

pub no_request : (r : List ℕ) → (kind_of r ≡ 0 → ⊥) → addresses_in r ≡ empty_addresses 0
no_request r n = unless_asked r (λ k. absurd (n k))

-- ---- a request that is no connect by TCP
of_type : (kind : ℕ) (b : List ℕ) (at : ℕ) → (kind ≡ tcp_address → ⊥) → by_type kind b at ≡ empty_addresses 0
unfolding by_type choose
of_type kind b at n = rw (ne_eqb kind tcp_address n)

no_list : (q : Request) (b : List ℕ) → ((n : ℕ) → q ≡ Joint (JointRequest.DataConnect tcp_address n) → ⊥)
    → ((mode n : ℕ) → q ≡ Joint (JointRequest.MoverConnect mode tcp_address n) → ⊥) → of_request q b ≡ empty_addresses 0
unfolding of_request of_joint
no_list (Connect q) b d m = refl
no_list (Config q) b d m = refl
no_list (Scsi q) b d m = refl
no_list (Tape q) b d m = refl
no_list (Data q) b d m = refl
no_list (Mover q) b d m = refl
no_list (Joint JointRequest.DataAbort) b d m = refl
no_list (Joint (JointRequest.DataConnect kind n)) b d m = of_type kind b _ (λ e. d n (ap (λ (k : ℕ). Joint (JointRequest.DataConnect k n)) e))
no_list (Joint JointRequest.MoverAbort) b d m = refl
no_list (Joint JointRequest.MoverClose) b d m = refl
no_list (Joint (JointRequest.MoverConnect mode kind n)) b d m = of_type kind b _ (λ e. m mode n (ap (λ (k : ℕ). Joint (JointRequest.MoverConnect mode k n)) e))
no_list Unknown b d m = refl
no_list Bad b d m = refl

pub no_connect : (r : List ℕ) → ((n : ℕ) → request_in r ≡ Joint (JointRequest.DataConnect tcp_address n) → ⊥)
    → ((mode n : ℕ) → request_in r ≡ Joint (JointRequest.MoverConnect mode tcp_address n) → ⊥) → addresses_in r ≡ empty_addresses 0
no_connect r d m = unless_asked r (λ k. no_list (request_in r) (body_of r) d m)

-- ---- only the two messages of connects decode to a connect
Own : Message → Request → Type 0
Own m (Connect q) = Unit
Own m (Config q) = Unit
Own m (Scsi q) = Unit
Own m (Tape q) = Unit
Own m (Data q) = Unit
Own m (Mover q) = Unit
Own m (Joint JointRequest.DataAbort) = Unit
Own m (Joint (JointRequest.DataConnect kind n)) = m ≡ Message.Joint JointKind.DataConnect
Own m (Joint JointRequest.MoverAbort) = Unit
Own m (Joint JointRequest.MoverClose) = Unit
Own m (Joint (JointRequest.MoverConnect mode kind n)) = m ≡ Message.Joint JointKind.MoverConnect
Own m Unknown = Unit
Own m Bad = Unit

own_joint : (q : JointKind) (k : Scan) → Own (Message.Joint q) (Joint (joint_of q k))
unfolding Own
own_joint JointKind.DataAbort k = tt
own_joint JointKind.DataConnect k = refl
own_joint JointKind.MoverAbort k = tt
own_joint JointKind.MoverClose k = tt
own_joint JointKind.MoverConnect k = refl

own_row : (m : Message) (k : Scan) → Own m (request_of m k)
unfolding Own
own_row (Message.Connect q) k = tt
own_row (Message.Config q) k = tt
own_row (Message.Scsi q) k = tt
own_row (Message.Tape q) k = tt
own_row (Message.Data q) k = tt
own_row (Message.Mover q) k = tt
own_row (Message.Joint q) k = own_joint q k
own_row Message.Unknown k = tt

own_known : (m : Message) (b : List ℕ) → Known m → Own m (decoded m b)
unfolding Own
own_known m b h = decoded_has (Own m) m b h (own_row m) tt

own : (m : Message) (b : List ℕ) → Own m (decoded m b)
unfolding Own decoded
own (Message.Connect k) b = own_known (Message.Connect k) b tt
own (Message.Config k) b = own_known (Message.Config k) b tt
own (Message.Scsi k) b = own_known (Message.Scsi k) b tt
own (Message.Tape k) b = own_known (Message.Tape k) b tt
own (Message.Data k) b = own_known (Message.Data k) b tt
own (Message.Mover k) b = own_known (Message.Mover k) b tt
own (Message.Joint k) b = own_known (Message.Joint k) b tt
own Message.Unknown b = tt

-- ---- what a body is read as behind its mode, or from its start: an address of type TCP, or another
module _ (b : List ℕ) (at : ℕ) where
  data TcpRead : Read → Type 0 where
    no_tcp : TcpRead broken
    is_tcp_lem : {n x : ℕ} {items : List (Item Text)} → field_at addresses b (at + 4) ≡ field_got (four n) items x
        → TcpRead (whole (value (four tcp_address) [] ∷ value (four n) items ∷ []))

  data OtherRead : Read → Type 0 where
    no_other : OtherRead broken
    to_end : OtherRead (whole (value (four (xdr.word b at)) [] ∷ []))
    to_type : OtherRead (before (value (four (xdr.word b at)) [] ∷ []))

  -- a list of addresses is its count, or does not decode
  Listed : FieldGot → Type 0
  Listed (field_got (four n) items x) = Unit
  Listed (field_got (eight n) items x) = ⊥
  Listed (field_got (bytes t) items x) = ⊥
  Listed (field_got (fixed t) items x) = ⊥
  Listed (stop v) = ⊥
  Listed bad = Unit

  counted_listed : (n : ℕ) (g : Got) → Listed (counted n g)
  unfolding Listed counted
  counted_listed n (got is x) = tt
  counted_listed n cut = tt

  listed : Listed (field_at addresses b (at + 4))
  unfolding Listed field_at
  listed =
      by_test Listed (leb (at + 4 + 4) (length b)) _ _
      (λ e. by_test Listed (leb (xdr.word b (at + 4)) most_addresses) _ _ (λ k. counted_listed (xdr.word b (at + 4)) _) (λ k. tt)) (λ e. tt)

  list_end : (n x : ℕ) (items : List (Item Text)) → field_at addresses b (at + 4) ≡ field_got (four n) items x
      → TcpRead (and_value (value (four tcp_address) []) (and_value (value (four n) items) (read_fields [] b x)))
  unfolding read_fields and_value
  list_end n x items e =
      by_test (λ r. TcpRead (and_value (value (four tcp_address) []) (and_value (value (four n) items) r))) (eqb x (length b)) (whole []) broken
      (λ k. is_tcp_lem e) (λ k. no_tcp)

  list_read : (g : FieldGot) → field_at addresses b (at + 4) ≡ g → Listed g → TcpRead (and_value (value (four tcp_address) []) (and_read g (read_fields [] b)))
  unfolding Listed and_read and_value
  list_read (field_got (four n) items x) e l = list_end n x items e
  list_read (field_got (eight n) items x) e l = absurd l
  list_read (field_got (bytes t) items x) e l = absurd l
  list_read (field_got (fixed t) items x) e l = absurd l
  list_read (stop v) e l = absurd l
  list_read bad e l = no_tcp

  type_there : is_tcp b at ≡ true → at + 4 ≤ length b
  unfolding is_tcp
  type_there e =
      by_test (λ t. t ≡ true → at + 4 ≤ length b) (leb (at + 4) (length b)) _ _ (λ k _. leb-true _ _ k)
      (λ k h. absurd (let z : ◌≡◌ {A = ℕ} 0 1 = cc in omega arith)) e

  tcp_read : is_tcp b at ≡ true → TcpRead (read_fields (connect_fields true) b at)
  unfolding read_fields field_at and_read choose
  tcp_read e =
      let w : xdr.word b at ≡ tcp_address = eqb-true _ _ (sym (type_judged b at) ∙ e) in
      rw (le-leb (at + 4) (length b) (type_there e), w) (list_read (field_at addresses b (at + 4)) refl listed)

  other_end : OtherRead (and_value (value (four (xdr.word b at)) []) (read_fields [] b (at + 4)))
  unfolding read_fields and_value
  other_end = by_test (λ r. OtherRead (and_value (value (four (xdr.word b at)) []) r)) (eqb (at + 4) (length b)) (whole []) broken (λ k. to_end) (λ k. no_other)

  other_read : OtherRead (read_fields (connect_fields false) b at)
  unfolding read_fields field_at and_read
  other_read =
      let P : FieldGot → Type 0 = λ g. OtherRead (and_read g (read_fields [] b)) in
      by_test P (leb (at + 4) (length b)) _ _ (λ e. by_test P (eqb (xdr.word b at) local_address) _ _ (λ k. other_end) (λ k. to_type)) (λ e. no_other)

  -- TCP's word is judged to be TCP
  not_tcp : is_tcp b at ≡ false → xdr.word b at ≡ tcp_address → ⊥
  not_tcp f w = let t : true ≡ false = sym (type_judged b at ∙ eq-eqb (xdr.word b at) tcp_address w) ∙ f in let z : ◌≡◌ {A = ℕ} 0 1 = cc in omega arith

-- ---- the request of what a body was read as
read_as : (m : Message) → Known m → (b : List ℕ) (r : Read) → read_fields (layout_of m b) b 0 ≡ r
    → decoded m b ≡ or_bad (request_of m) (summed 0 empty_scan r)
unfolding scanned
read_as m h b r e = by_layout m b h ∙ ap (λ (s : Read). or_bad (request_of m) (summed 0 empty_scan s)) e

abbrev pub data_connect : Message
data_connect = Message.Joint JointKind.DataConnect

abbrev pub mover_connect : Message
mover_connect = Message.Joint JointKind.MoverConnect

module _ (b : List ℕ) (n : ℕ) (q : decoded data_connect b ≡ Joint (JointRequest.DataConnect tcp_address n)) where
  data_no : read_fields (layout_of data_connect b) b 0 ≡ broken → ⊥
  unfolding summed choose
  data_no e = let f = sym (read_as data_connect tt b broken e) ∙ q in let z : ◌≡◌ {A = ℕ} 0 1 = cc in omega arith

  data_other : (r : Read) → OtherRead b 0 r → read_fields (layout_of data_connect b) b 0 ≡ r → is_tcp b 0 ≡ false → ⊥
  unfolding summed puts put choose
  data_other _ no_other e t = data_no e
  data_other _ to_end e t = let f = sym (read_as data_connect tt b _ e) ∙ q in not_tcp b 0 t (cc)
  data_other _ to_type e t = let f = sym (read_as data_connect tt b _ e) ∙ q in not_tcp b 0 t (cc)

  abbrev DataGiven : Type 0
  DataGiven = ListGiven data_connect b (value (four tcp_address) [] ∷ []) n (addresses_at b 4)

  data_list : (r : Read) → TcpRead b 0 r → read_fields (layout_of data_connect b) b 0 ≡ r → DataGiven
  unfolding summed puts put choose
  data_list _ no_tcp e = absurd (data_no e)
  data_list _ (is_tcp_lem {n = m} {x = x} {items = items} g) e =
      let f = sym (read_as data_connect tt b _ e) ∙ q in
      let k : m ≡ n = cc in
      record { items = items; reads = rw k at e; given = addresses_given.decoded b 4 n items x (rw k at g) }

  data_given : (t : Bool) → is_tcp b 0 ≡ t → DataGiven
  data_given true e = data_list _ (tcp_read b 0 e) (ap (λ (t : Bool). read_fields (connect_fields t) b 0) e)
  data_given false e = absurd (data_other _ (other_read b 0) (ap (λ (t : Bool). read_fields (connect_fields t) b 0) e) e)

-- a word before the address
word_first : (b : List ℕ) (fs : List Field) (P : Read → Type 0)
    → P broken → P (and_value (value (four (xdr.word b 0)) []) (read_fields fs b 4)) → P (read_fields (one word ∷ fs) b 0)
unfolding read_fields field_at single part_at and_read
word_first b fs P n y = by_test (λ p. P (and_read (single p) (read_fields fs b))) (leb 4 (length b)) _ _ (λ e. y) (λ e. n)

module _ (b : List ℕ) (mode n : ℕ) (q : decoded mover_connect b ≡ Joint (JointRequest.MoverConnect mode tcp_address n)) where
  mover_no : read_fields (layout_of mover_connect b) b 0 ≡ broken → ⊥
  unfolding summed choose
  mover_no e = let f = sym (read_as mover_connect tt b broken e) ∙ q in let z : ◌≡◌ {A = ℕ} 0 1 = cc in omega arith

  mover_other : (r : Read) → OtherRead b 4 r → read_fields (layout_of mover_connect b) b 0 ≡ and_value (value (four (xdr.word b 0)) []) r
      → is_tcp b 4 ≡ false → ⊥
  unfolding summed puts put choose and_value
  mover_other _ no_other e t = mover_no e
  mover_other _ to_end e t = let f = sym (read_as mover_connect tt b _ e) ∙ q in not_tcp b 4 t (cc)
  mover_other _ to_type e t = let f = sym (read_as mover_connect tt b _ e) ∙ q in not_tcp b 4 t (cc)

  abbrev MoverGiven : Type 0
  MoverGiven = ListGiven mover_connect b (value (four mode) [] ∷ value (four tcp_address) [] ∷ []) n (addresses_at b 8)

  mover_list : (r : Read) → TcpRead b 4 r → read_fields (layout_of mover_connect b) b 0 ≡ and_value (value (four (xdr.word b 0)) []) r → MoverGiven
  unfolding summed puts put choose and_value
  mover_list _ no_tcp e = absurd (mover_no e)
  mover_list _ (is_tcp_lem {n = m} {x = x} {items = items} g) e =
      let f = sym (read_as mover_connect tt b _ e) ∙ q in
      let k : m ≡ n = cc in
      let w : xdr.word b 0 ≡ mode = cc in
      record { items = items; reads = rw (k, w) at e; given = addresses_given.decoded b 8 n items x (rw k at g) }

  mover_given : (t : Bool) → is_tcp b 4 ≡ t → MoverGiven
  mover_given true e =
      word_first b (connect_fields true) (λ r. read_fields (layout_of mover_connect b) b 0 ≡ r → MoverGiven) (λ k. absurd (mover_no k)) (mover_list _ (tcp_read b 4 e))
      (ap (λ (t : Bool). read_fields (one word ∷ connect_fields t) b 0) e)
  mover_given false e =
      absurd
      (word_first b (connect_fields false) (λ r. read_fields (layout_of mover_connect b) b 0 ≡ r → ⊥) mover_no (λ k. mover_other _ (other_read b 4) k e)
      (ap (λ (t : Bool). read_fields (one word ∷ connect_fields t) b 0) e))

-- ---- the host is given them
pub data_connect_lem : (r : List ℕ) (n : ℕ) → Asks r (Joint (JointRequest.DataConnect tcp_address n))
    → ListGiven data_connect (body_of r) (value (four tcp_address) [] ∷ []) n (addresses_in r)
unfolding Own of_request of_joint by_type choose
data_connect_lem r n a =
    let b = body_of r in
    let m : message_of (message_word r) ≡ data_connect = rw a.is at (own (message_of (message_word r)) b) in
    let q : decoded data_connect b ≡ Joint (JointRequest.DataConnect tcp_address n) = rw m at a.is in
    let k : addresses_in r ≡ addresses_at b 4 = asked r a.well a.request ∙ ap (λ (x : Request). of_request x b) a.is in
    rw k (data_given b n q (is_tcp b 0) refl)

pub mover_connect_lem : (r : List ℕ) (mode n : ℕ) → Asks r (Joint (JointRequest.MoverConnect mode tcp_address n))
    → ListGiven mover_connect (body_of r) (value (four mode) [] ∷ value (four tcp_address) [] ∷ []) n (addresses_in r)
unfolding Own of_request of_joint by_type choose
mover_connect_lem r mode n a =
    let b = body_of r in
    let m : message_of (message_word r) ≡ mover_connect = rw a.is at (own (message_of (message_word r)) b) in
    let q : decoded mover_connect b ≡ Joint (JointRequest.MoverConnect mode tcp_address n) = rw m at a.is in
    let k : addresses_in r ≡ addresses_at b 8 = asked r a.well a.request ∙ ap (λ (x : Request). of_request x b) a.is in
    rw k (mover_given b mode n q (is_tcp b 4) refl)
