-- Every answer can be sent: what its reply copies is there. Assumes nothing.
use Prim.Native.Nat.{ℕ, ◌≤◌}
use mathlib.Core.Bool.{Bool, true, false, not}
use mathlib.Core.Path.{◌≡◌, refl, sym, ◌∙◌}
use native.Mathlib.Omega.{arith}
use mathlib.Core.List.{List, []}
use lib.ListN.{length, get_or}
use lib.Dec.{eqb}
use borrow.Author.Tests.{eqb-true, ltb-false}
use Rattle.std.specs.Prelude.{Ok}
use Rattle.codes.specs.Codes.{sense_bytes, tcp_address, md5_auth, most_lent, store_length, challenge_length, most_status}
use Rattle.xdr.specs.Choose.{choose, least}
use Rattle.xdr.proofs.Tests.{by_test, least_right, yes}
use Rattle.changer_elements.specs.declared.Asked.{Asked}
use Rattle.changer_elements.specs.Status.{read_status, reported, status_of, status_data}
use Rattle.changer_elements.proofs.Bytes.{status_most, cut_length}
use Rattle.wire_layouts.specs.AddressLists.{lendable}
use Rattle.rules_parts.proofs.Addressing.{tcp_right}
use Rattle.tape_ops.proofs.Reading.{Copied, read_copies}
use Rattle.wire_requests.specs.Within.{bytes_at}
use Rattle.wire_requests.specs.declared.ConnectRequest.{ConnectRequest}
use Rattle.wire_requests.specs.declared.ConnectRequest.TheVariants as ConnectRequest
use Rattle.wire_requests.specs.declared.ConfigRequest.{ConfigRequest}
use Rattle.wire_requests.specs.declared.ConfigRequest.TheVariants as ConfigRequest
use Rattle.wire_requests.specs.declared.DataRequest.{DataRequest}
use Rattle.wire_requests.specs.declared.DataRequest.TheVariants as DataRequest
use Rattle.wire_requests.specs.declared.MoverRequest.{MoverRequest}
use Rattle.wire_requests.specs.declared.MoverRequest.TheVariants as MoverRequest
use Rattle.wire_requests.specs.declared.TapeRequest.{TapeRequest}
use Rattle.wire_requests.specs.declared.TapeRequest.TheVariants as TapeRequest
use Rattle.wire_requests.specs.declared.ScsiRequest.{ScsiRequest}
use Rattle.wire_requests.specs.declared.ScsiRequest.TheVariants as ScsiRequest
use Rattle.wire_requests.specs.declared.JointRequest.{JointRequest}
use Rattle.wire_requests.specs.declared.JointRequest.TheVariants as JointRequest
use Rattle.wire_replies.specs.declared.Reply.{Reply}
use Rattle.wire_replies.specs.Fit.{Sendable}
use Rattle.rules_parts.specs.declared.types.Data.{Data}
use Rattle.rules_parts.specs.declared.types.Mover.{Mover}
use Rattle.rules_parts.specs.declared.types.Tape.{Tape}
use Rattle.rules_parts.specs.declared.types.Changer.{Changer}
use Rattle.rules_parts.specs.declared.types.Login.{Login}
use Rattle.rules.specs.Judge.{Outcome, Accepts}
use Rattle.rules.specs.DataService.{has_run, data_state, data_listen, data_start, data_environment, data_stop, data_step, data_shown}
use Rattle.rules.specs.MoverService.{mover_state, mover_listen, mover_continue, mover_stop, set_window, mover_read, set_size, mover_step}
use Rattle.rules.specs.TapeService.{Loaded, tape_open, tape_close, tape_state, tape_mtio, tape_write, tape_read, device_step}
use Rattle.rules.specs.ScsiService.{scsi_open, scsi_clear, scsi_state, sense_length, checks, run_cdb, scsi_cdb, scsi_step, status_shown, cdb_shown, scsi_shown}
use Rattle.rules.specs.Addresses.{listen_wrong, listening}
use Rattle.rules.specs.Joint.{data_connect, mover_connect, data_abort, mover_abort, mover_close, joint_step}
use Rattle.rules.specs.Connection.{connect_open, client_auth, connect_step, auth_attributes, config_step}
use Rattle.rules.proofs.JudgeLaws.{judged_by, accepts}
use Rattle.rules.proofs.Changer.{by_run}

sense_length_lem : (cdb : List ℕ) (room : ℕ) → sense_length cdb room ≤ sense_bytes
unfolding sense_length
sense_length_lem cdb room = least_right (least (get_or cdb 4 0) room) sense_bytes

-- of the services that show nothing of an image
abbrev Sends : {A : Type 0} → Reply → A → Type 0
Sends r _ = Sendable r []

-- a listen by TCP is accepted only with a list that can be lent
short_by : (b x : Bool) → choose b false x ≡ true → b ≡ false
unfolding choose
short_by true x e = absurd (let z : ◌≡◌ {A = ℕ} 0 1 = cc in omega arith)
short_by false x e = refl

short : (list : List ℕ) → lendable list ≡ true → length list ≤ most_lent
unfolding lendable
short list h = ltb-false most_lent (length list) (short_by _ _ h)

listening_sends : (address : ℕ) (list : List ℕ) → listen_wrong address list ≡ false → Sendable (listening address) list
unfolding listening Sendable
listening_sends address list h =
    by_test (λ (r : Reply). Sendable r list) (eqb address tcp_address) _ _
    (λ e. short list (yes (sym (tcp_right (not (lendable list))) ∙ (rw (eqb-true address tcp_address e) at h)))) (λ _. tt)

-- of the data end, with the list and the store that it is lent
pub data_sends : (d : Data) (q : DataRequest) (body list variables : List ℕ) → length variables ≤ store_length
    → Accepts (λ r _. Sendable r (data_shown q list variables)) (data_step d q body list variables)
unfolding data_step data_state data_listen data_start data_environment data_stop data_shown Sendable
data_sends d DataRequest.State body list variables h = accepts (λ r _. Sendable r list) _ _ _ (λ _. tt)
data_sends d (DataRequest.Backup name ps) body list variables h = accepts (λ r _. Sendable r list) _ _ _ (λ _. tt)
data_sends d (DataRequest.Recover name ps) body list variables h = accepts (λ r _. Sendable r list) _ _ _ (λ _. tt)
data_sends d DataRequest.Environment body list variables h = accepts (λ r _. Sendable r variables) _ _ _ (λ g. (yes (g 1), h))
data_sends d DataRequest.Stop body list variables h = accepts (λ r _. Sendable r list) _ _ _ (λ _. tt)
data_sends d (DataRequest.Listen address) body list variables h = accepts (λ r _. Sendable r list) _ _ _ (λ g. listening_sends address list (g 1))

pub joint_sends : (d : Data) (m : Mover) (t : Tape) (q : JointRequest) (made : Bool) → Accepts Sends (joint_step d m t q made)
unfolding joint_step data_abort data_connect mover_abort mover_close mover_connect Sendable
joint_sends d m t JointRequest.DataAbort made = accepts Sends _ _ _ (λ _. tt)
joint_sends d m t (JointRequest.DataConnect address count) made = accepts Sends _ _ _ (λ _. tt)
joint_sends d m t JointRequest.MoverAbort made = accepts Sends _ _ _ (λ _. tt)
joint_sends d m t JointRequest.MoverClose made = accepts Sends _ _ _ (λ _. tt)
joint_sends d m t (JointRequest.MoverConnect mode address count) made = accepts Sends _ _ _ (λ _. tt)

-- of the changer, with the status that it shows
status_sends : (a : Asked) (slots : List ℕ) → length (status_data a slots) ≤ most_status
status_sends a slots =
    let m = status_most a slots in
    let n = least_right a.cut (length (status_of slots (reported a))) in
    rw (cut_length a slots) (omega arith)

shown_sends : (cdb : List ℕ) (room : ℕ) (slots : List ℕ) (a : Asked) → eqb (get_or cdb 0 0) 0xB8 ≡ true → read_status cdb room ≡ Ok a
    → length (cdb_shown cdb room slots) ≤ most_status
unfolding cdb_shown status_shown choose
shown_sends cdb room slots a e h = rw (cdb_shown, e, h) (status_sends a slots)

run_sends : (tape : Bool) (c : Changer) (cdb : List ℕ) (room : ℕ) → Accepts (λ r _. Sendable r (cdb_shown cdb room c.slots)) (run_cdb tape c cdb room)
unfolding checks Sendable Accepts
run_sends tape c cdb room =
    by_run (Accepts (λ r _. Sendable r (cdb_shown cdb room c.slots))) tape c cdb room tt (sense_length_lem cdb room) (λ _. tt) (λ _ _ _ _. tt)
    (λ a e h. shown_sends cdb room c.slots a e h)

pub scsi_sends : (tape : Bool) (c : Changer) (q : ScsiRequest) (body : List ℕ)
    → Accepts (λ r _. Sendable r (scsi_shown q body c.slots)) (scsi_step tape c q body)
unfolding scsi_step scsi_open scsi_clear scsi_state scsi_cdb scsi_shown Sendable
scsi_sends tape c (ScsiRequest.Open name) body = accepts Sends _ _ _ (λ _. tt)
scsi_sends tape c ScsiRequest.Close body = accepts Sends _ _ _ (λ _. tt)
scsi_sends tape c ScsiRequest.State body = accepts Sends _ _ _ (λ _. tt)
scsi_sends tape c ScsiRequest.Reset body = accepts Sends _ _ _ (λ _. tt)
scsi_sends tape c (ScsiRequest.Cdb cdb room) body =
    judged_by (λ r _. Sendable r (cdb_shown (bytes_at body cdb) room c.slots)) _ _ (λ _. run_sends tape c (bytes_at body cdb) room)

pub connect_sends : (fresh : Bool) (g : Login) (a : List ℕ) (q : ConnectRequest) (body : List ℕ) → Accepts Sends (connect_step fresh g a q body)
unfolding connect_step connect_open client_auth Sendable Accepts
connect_sends fresh g a (ConnectRequest.Open version) body = accepts Sends _ _ _ (λ _. tt)
connect_sends fresh g a (ConnectRequest.Md5Auth id digest) body = accepts Sends _ _ _ (λ _. tt)
connect_sends fresh g a ConnectRequest.OtherAuth body = tt
connect_sends fresh g a ConnectRequest.Close body = tt

-- of CONFIG, with the challenge that it is lent
pub config_sends : (g : Login) (c : List ℕ) (q : ConfigRequest) → length c ≤ challenge_length → Accepts (λ r _. Sendable r c) (config_step g c q)
unfolding config_step auth_attributes Sendable Accepts
config_sends g c ConfigRequest.ConnectionType h = tt
config_sends g c (ConfigRequest.AuthAttributes type) h =
    let P : Outcome Login → Type 0 = Accepts (λ r _. Sendable r c) in
    by_test P (eqb type md5_auth) _ _ (λ _. h) (λ _. tt)
config_sends g c ConfigRequest.ServerInfo h = tt

-- of the mover, with the list that it is lent
pub mover_sends : (m : Mover) (t : Tape) (q : MoverRequest) (list : List ℕ) → Accepts (λ r _. Sendable r list) (mover_step m t q list)
unfolding mover_step mover_state mover_listen mover_continue mover_stop set_window mover_read set_size Sendable
mover_sends m t MoverRequest.State list = accepts (λ r _. Sendable r list) _ _ _ (λ _. tt)
mover_sends m t (MoverRequest.Listen mode address) list = accepts (λ r _. Sendable r list) _ _ _ (λ g. listening_sends address list (g 6))
mover_sends m t MoverRequest.Continue list = accepts (λ r _. Sendable r list) _ _ _ (λ _. tt)
mover_sends m t MoverRequest.Stop list = accepts (λ r _. Sendable r list) _ _ _ (λ _. tt)
mover_sends m t (MoverRequest.Window offset length) list = accepts (λ r _. Sendable r list) _ _ _ (λ _. tt)
mover_sends m t (MoverRequest.Read offset length) list = accepts (λ r _. Sendable r list) _ _ _ (λ _. tt)
mover_sends m t (MoverRequest.Size size) list = accepts (λ r _. Sendable r list) _ _ _ (λ _. tt)

-- a reply of the tape, with the image after it
abbrev SendsHere : Reply → Loaded → Type 0
SendsHere r s = Sendable r s.image

pub tape_sends : (drive mover : ℕ) (t : Tape) (l : List ℕ) (q : TapeRequest) (body : List ℕ) → Accepts SendsHere (device_step drive mover t l q body)
unfolding device_step tape_open tape_close tape_state tape_mtio tape_write tape_read Sendable Copied
tape_sends drive mover t l (TapeRequest.Open name mode) body = accepts SendsHere _ _ _ (λ _. tt)
tape_sends drive mover t l TapeRequest.Close body = accepts SendsHere _ _ _ (λ _. tt)
tape_sends drive mover t l TapeRequest.State body = accepts SendsHere _ _ _ (λ _. tt)
tape_sends drive mover t l (TapeRequest.Mtio op times) body = accepts SendsHere _ _ _ (λ _. tt)
tape_sends drive mover t l (TapeRequest.Write bytes) body = accepts SendsHere _ _ _ (λ _. tt)
tape_sends drive mover t l (TapeRequest.Read times) body = accepts SendsHere _ _ _ (λ _. read_copies l t.position times)
