-- The reply of an accepted request has the number 0, or an outcome of the tape, and a refusal's is one of the table's. Assumes nothing.
use Prim.Native.Nat.{ℕ, ◌+◌}
use mathlib.Core.Bool.{Bool, true, false, not}
use mathlib.Core.List.{List, [], ◌∷◌}
use mathlib.Core.Path.{◌≡◌, refl, sym, ap}
use native.Mathlib.Omega.{arith}
use lib.ListN.{length, get_or}
use lib.Dec.{eqb, ltb}
use borrow.Author.Tests.{ne_eqb, eqb-true}
use Rattle.xdr.specs.Choose.{choose}
use Rattle.xdr.proofs.Tests.{by_test}
use Rattle.tape_image.specs.Image.{capacity, count, entry_len, faulty}
use Rattle.tape_spacing.specs.declared.Spaced.{Spaced}
use Rattle.tape_spacing.specs.Spacing.{ended, spacing}
use Rattle.tape_spacing.proofs.Laws.{spaced_error}
use Rattle.tape_writing.specs.Writing.{room_for}
use Rattle.tape_ops.specs.declared.Wrote.{Wrote}
use Rattle.tape_ops.specs.declared.Part.{Part}
use Rattle.tape_ops.specs.Step.{Step, keeping}
use Rattle.tape_ops.specs.Operations.{write_step, read_part, entry_part, mark_step, rewinds, mtio_step, Standing, standing_at}
use Rattle.tape_ops.specs.Promises.{Refused}
use Rattle.wire_requests.specs.Within.{bytes_at}
use Rattle.wire_requests.specs.declared.ConnectRequest.{ConnectRequest}
use Rattle.wire_requests.specs.declared.ConnectRequest.TheVariants as ConnectRequest
use Rattle.wire_requests.specs.declared.ConfigRequest.{ConfigRequest}
use Rattle.wire_requests.specs.declared.ConfigRequest.TheVariants as ConfigRequest
use Rattle.wire_requests.specs.declared.DataRequest.{DataRequest}
use Rattle.wire_requests.specs.declared.DataRequest.TheVariants as DataRequest
use Rattle.wire_requests.specs.declared.MoverRequest.{MoverRequest}
use Rattle.wire_requests.specs.declared.MoverRequest.TheVariants as MoverRequest
use Rattle.wire_requests.specs.declared.TapeRequest.{TapeRequest}
use Rattle.wire_requests.specs.declared.TapeRequest.TheVariants as TapeRequest
use Rattle.wire_requests.specs.declared.ScsiRequest.{ScsiRequest}
use Rattle.wire_requests.specs.declared.ScsiRequest.TheVariants as ScsiRequest
use Rattle.wire_requests.specs.declared.JointRequest.{JointRequest}
use Rattle.wire_requests.specs.declared.JointRequest.TheVariants as JointRequest
use Rattle.wire_requests.specs.declared.Request.{Request}
use Rattle.wire_requests.specs.declared.Request.TheVariants as Request
use Rattle.wire_replies.specs.declared.Reply.{Reply}
use Rattle.wire_replies.specs.Replies.{number_of}
use Rattle.rules_parts.specs.declared.types.Data.{Data}
use Rattle.rules_parts.specs.declared.types.Mover.{Mover}
use Rattle.rules_parts.specs.declared.types.Tape.{Tape}
use Rattle.rules_parts.specs.declared.types.Changer.{Changer}
use Rattle.rules_parts.specs.declared.types.Login.{Login}
use Rattle.codes.specs.Codes.{md5_auth, longest_record, device_opened, permission_denied, not_open, illegal_arguments, no_tape_loaded, bad_file, no_device, illegal_state}
use Rattle.rules.specs.Judge.{test, refuse, accept, judge, Accepts, Refuses}
use Rattle.rules.specs.DataService.{data_state, data_listen, data_start, data_environment, data_stop, data_step}
use Rattle.rules.specs.MoverService.{mover_state, mover_listen, mover_continue, mover_stop, set_window, mover_read, set_size, mover_step}
use Rattle.tape_ops.specs.Answers.{is_refusal}
use Rattle.rules.specs.TapeService.{Loaded, moved_to, after_mtio, tape_open, tape_close, tape_state, tape_mtio, tape_write, tape_read, device_step, with_loaded, with_mover, tape_step, mover_part_step}
use Rattle.rules.specs.ScsiService.{scsi_open, scsi_clear, scsi_state, checks, run_cdb, scsi_cdb, scsi_step}
use Rattle.rules.specs.Addresses.{listening}
use Rattle.rules.specs.Joint.{data_connect, mover_connect, data_abort, mover_abort, mover_close, joint_step}
use Rattle.rules.specs.Connection.{connect_open, client_auth, connect_step, auth_attributes, config_step}
use Rattle.rules.specs.Answer.{Kept, Lent, Done, outcome, verdict, tape_part, with_data, with_part, with_tape, with_changer, with_login, with_ends}
use Rattle.rules.specs.Order.{is_one_of}
use Rattle.rules.specs.Calls.{is_run, is_done, is_number}
use Rattle.rules.proofs.Changer.{by_run}
use Rattle.rules.proofs.JudgeLaws.{judged_by, accepts, refusal_says, carried, refuses_behind, accepts_all, refuses_after, refuses_onto, numbers_right}

abbrev Zero : {A : Type 0} → Reply → A → Type 0
Zero r _ = eqb (number_of r) 0 ≡ true

listening_zero : (address : ℕ) → eqb (number_of (listening address)) 0 ≡ true
unfolding listening number_of
listening_zero address = by_test (λ (r : Reply). eqb (number_of r) 0 ≡ true) (eqb address 1) _ _ (λ _. refl) (λ _. refl)

data_zero : (d : Data) (q : DataRequest) (body list variables : List ℕ) → Accepts Zero (data_step d q body list variables)
unfolding data_step data_state data_listen data_start data_environment data_stop number_of
data_zero d DataRequest.State body list variables = accepts Zero _ _ _ (λ _. refl)
data_zero d (DataRequest.Backup name ps) body list variables = accepts Zero _ _ _ (λ _. refl)
data_zero d (DataRequest.Recover name ps) body list variables = accepts Zero _ _ _ (λ _. refl)
data_zero d DataRequest.Environment body list variables = accepts Zero _ _ _ (λ _. refl)
data_zero d DataRequest.Stop body list variables = accepts Zero _ _ _ (λ _. refl)
data_zero d (DataRequest.Listen address) body list variables = accepts Zero _ _ _ (λ _. listening_zero address)

mover_zero : (m : Mover) (t : Tape) (q : MoverRequest) (list : List ℕ) → Accepts Zero (mover_step m t q list)
unfolding mover_step mover_state mover_listen mover_continue mover_stop set_window mover_read set_size number_of
mover_zero m t MoverRequest.State list = accepts Zero _ _ _ (λ _. refl)
mover_zero m t (MoverRequest.Listen mode address) list = accepts Zero _ _ _ (λ _. listening_zero address)
mover_zero m t MoverRequest.Continue list = accepts Zero _ _ _ (λ _. refl)
mover_zero m t MoverRequest.Stop list = accepts Zero _ _ _ (λ _. refl)
mover_zero m t (MoverRequest.Window offset length) list = accepts Zero _ _ _ (λ _. refl)
mover_zero m t (MoverRequest.Read offset length) list = accepts Zero _ _ _ (λ _. refl)
mover_zero m t (MoverRequest.Size size) list = accepts Zero _ _ _ (λ _. refl)

joint_zero : (d : Data) (m : Mover) (t : Tape) (q : JointRequest) (made : Bool) → Accepts Zero (joint_step d m t q made)
unfolding joint_step data_abort data_connect mover_abort mover_close mover_connect number_of
joint_zero d m t JointRequest.DataAbort made = accepts Zero _ _ _ (λ _. refl)
joint_zero d m t (JointRequest.DataConnect address count) made = accepts Zero _ _ _ (λ _. refl)
joint_zero d m t JointRequest.MoverAbort made = accepts Zero _ _ _ (λ _. refl)
joint_zero d m t JointRequest.MoverClose made = accepts Zero _ _ _ (λ _. refl)
joint_zero d m t (JointRequest.MoverConnect mode address count) made = accepts Zero _ _ _ (λ _. refl)

run_zero : (tape : Bool) (c : Changer) (cdb : List ℕ) (room : ℕ) → Accepts Zero (run_cdb tape c cdb room)
unfolding checks number_of Accepts
run_zero tape c cdb room = by_run (Accepts Zero) tape c cdb room refl refl (λ _. refl) (λ _ _ _ _. refl) (λ _ _ _. refl)

scsi_zero : (tape : Bool) (c : Changer) (q : ScsiRequest) (body : List ℕ) → Accepts Zero (scsi_step tape c q body)
unfolding scsi_step scsi_open scsi_clear scsi_state scsi_cdb number_of
scsi_zero tape c (ScsiRequest.Open name) body = accepts Zero _ _ _ (λ _. refl)
scsi_zero tape c ScsiRequest.Close body = accepts Zero _ _ _ (λ _. refl)
scsi_zero tape c ScsiRequest.State body = accepts Zero _ _ _ (λ _. refl)
scsi_zero tape c ScsiRequest.Reset body = accepts Zero _ _ _ (λ _. refl)
scsi_zero tape c (ScsiRequest.Cdb cdb room) body = judged_by Zero _ _ (λ _. run_zero tape c (bytes_at body cdb) room)

connect_zero : (fresh : Bool) (g : Login) (a : List ℕ) (q : ConnectRequest) (body : List ℕ) → Accepts Zero (connect_step fresh g a q body)
unfolding connect_step connect_open client_auth number_of Accepts
connect_zero fresh g a (ConnectRequest.Open version) body = accepts Zero _ _ _ (λ _. refl)
connect_zero fresh g a (ConnectRequest.Md5Auth id digest) body = accepts Zero _ _ _ (λ _. refl)
connect_zero fresh g a ConnectRequest.OtherAuth body = tt
connect_zero fresh g a ConnectRequest.Close body = refl

config_zero : (g : Login) (c : List ℕ) (q : ConfigRequest) → Accepts Zero (config_step g c q)
unfolding config_step auth_attributes number_of Accepts
config_zero g c ConfigRequest.ConnectionType = refl
config_zero g c (ConfigRequest.AuthAttributes type) =
    by_test (Accepts Zero) (eqb type md5_auth) _ _ (λ _. refl) (λ _. tt)
config_zero g c ConfigRequest.ServerInfo = refl

-- of the tape: 0, or what the last test lets pass
abbrev Ran : TapeRequest → {A : Type 0} → Reply → A → Type 0
Ran q r _ = is_run q (number_of r) ≡ true

tape_ran : (drive mover : ℕ) (t : Tape) (l : List ℕ) (q : TapeRequest) (body : List ℕ) → Accepts (Ran q) (device_step drive mover t l q body)
unfolding device_step tape_open tape_close tape_state tape_mtio tape_write tape_read number_of is_run
tape_ran drive mover t l (TapeRequest.Open name mode) body = accepts (Ran (TapeRequest.Open name mode)) _ _ _ (λ _. refl)
tape_ran drive mover t l TapeRequest.Close body = accepts (Ran TapeRequest.Close) _ _ _ (λ _. refl)
tape_ran drive mover t l TapeRequest.State body = accepts (Ran TapeRequest.State) _ _ _ (λ _. refl)
tape_ran drive mover t l (TapeRequest.Mtio op times) body = accepts (Ran (TapeRequest.Mtio op times)) _ _ _ (λ g. ap not (g 3))
tape_ran drive mover t l (TapeRequest.Write bytes) body = accepts (Ran (TapeRequest.Write bytes)) _ _ _ (λ g. ap not (g 3))
tape_ran drive mover t l (TapeRequest.Read times) body = accepts (Ran (TapeRequest.Read times)) _ _ _ (λ g. ap not (g 3))

module _ (k : Kept) (l : Lent) (r : List ℕ) where
  Right : Request → Reply → Done → Type 0
  Right q reply _ = is_done q (number_of reply) ≡ true

  outcome_number : (q : Request) → Accepts (Right q) (outcome k l r q)
  unfolding outcome Right is_done tape_step mover_part_step
  outcome_number Request.Unknown = refusal_says (Right Request.Unknown) _
  outcome_number Request.Bad = refusal_says (Right Request.Bad) _
  outcome_number (Request.Connect q) = carried Zero (with_login k _) _ (connect_zero _ _ _ q _)
  outcome_number (Request.Config q) = carried Zero (with_login k _) _ (config_zero _ _ q)
  outcome_number (Request.Scsi q) = carried Zero (with_changer k _) _ (scsi_zero _ _ q _)
  outcome_number (Request.Tape q) = carried (Ran q) (with_tape k) _ (carried (Ran q) (with_loaded (tape_part k)) _ (tape_ran _ _ _ _ q _))
  outcome_number (Request.Data q) = carried Zero (with_data k q _ _) _ (data_zero _ q _ _ _)
  outcome_number (Request.Mover q) = carried Zero (with_part k _) _ (carried Zero (with_mover (tape_part k)) _ (mover_zero _ _ q _))
  outcome_number (Request.Joint q) = carried Zero (with_ends k) _ (joint_zero _ _ _ q _)

  pub number_right : (q : Request) → Accepts (λ reply _. is_done q (number_of reply) ≡ true) (verdict k l r q)
  unfolding verdict Right
  number_right q = judged_by (Right q) _ _ (λ _. outcome_number q)

-- ---- a refusal's number: of each request every test's is one of the table's, and the tape's own is where it is given
abbrev Refusal : ℕ → Type 0
Refusal e = is_number e ≡ true

data_refuses : (d : Data) (q : DataRequest) (body list variables : List ℕ) → Refuses Refusal (data_step d q body list variables)
unfolding data_step data_state data_listen data_start data_environment data_stop is_number is_one_of is_refusal choose
data_refuses d DataRequest.State body list variables = accepts_all is_number _ _ _ refl
data_refuses d (DataRequest.Backup name ps) body list variables = accepts_all is_number _ _ _ refl
data_refuses d (DataRequest.Recover name ps) body list variables = accepts_all is_number _ _ _ refl
data_refuses d DataRequest.Environment body list variables = accepts_all is_number _ _ _ refl
data_refuses d DataRequest.Stop body list variables = accepts_all is_number _ _ _ refl
data_refuses d (DataRequest.Listen address) body list variables = accepts_all is_number _ _ _ refl

mover_refuses : (m : Mover) (t : Tape) (q : MoverRequest) (list : List ℕ) → Refuses Refusal (mover_step m t q list)
unfolding mover_step mover_state mover_listen mover_continue mover_stop set_window mover_read set_size is_number is_one_of is_refusal choose
mover_refuses m t MoverRequest.State list = accepts_all is_number _ _ _ refl
mover_refuses m t (MoverRequest.Listen mode address) list = accepts_all is_number _ _ _ refl
mover_refuses m t MoverRequest.Continue list = accepts_all is_number _ _ _ refl
mover_refuses m t MoverRequest.Stop list = accepts_all is_number _ _ _ refl
mover_refuses m t (MoverRequest.Window offset length) list = accepts_all is_number _ _ _ refl
mover_refuses m t (MoverRequest.Read offset length) list = accepts_all is_number _ _ _ refl
mover_refuses m t (MoverRequest.Size size) list = accepts_all is_number _ _ _ refl

joint_refuses : (d : Data) (m : Mover) (t : Tape) (q : JointRequest) (made : Bool) → Refuses Refusal (joint_step d m t q made)
unfolding joint_step data_abort data_connect mover_abort mover_close mover_connect is_number is_one_of is_refusal choose
joint_refuses d m t JointRequest.DataAbort made = accepts_all is_number _ _ _ refl
joint_refuses d m t (JointRequest.DataConnect address count) made = accepts_all is_number _ _ _ refl
joint_refuses d m t JointRequest.MoverAbort made = accepts_all is_number _ _ _ refl
joint_refuses d m t JointRequest.MoverClose made = accepts_all is_number _ _ _ refl
joint_refuses d m t (JointRequest.MoverConnect mode address count) made = accepts_all is_number _ _ _ refl

run_refuses : (tape : Bool) (c : Changer) (cdb : List ℕ) (room : ℕ) → Refuses Refusal (run_cdb tape c cdb room)
unfolding checks Refuses
run_refuses tape c cdb room = by_run (Refuses Refusal) tape c cdb room tt tt (λ _. tt) (λ _ _ _ _. tt) (λ _ _ _. tt)

scsi_refuses : (tape : Bool) (c : Changer) (q : ScsiRequest) (body : List ℕ) → Refuses Refusal (scsi_step tape c q body)
unfolding scsi_step scsi_open scsi_clear scsi_state scsi_cdb is_number is_one_of is_refusal choose
scsi_refuses tape c (ScsiRequest.Open name) body = accepts_all is_number _ _ _ refl
scsi_refuses tape c ScsiRequest.Close body = accepts_all is_number _ _ _ refl
scsi_refuses tape c ScsiRequest.State body = accepts_all is_number _ _ _ refl
scsi_refuses tape c ScsiRequest.Reset body = accepts_all is_number _ _ _ refl
scsi_refuses tape c (ScsiRequest.Cdb cdb room) body = refuses_behind is_number _ (run_refuses tape c (bytes_at body cdb) room) _ refl

connect_refuses : (fresh : Bool) (g : Login) (a : List ℕ) (q : ConnectRequest) (body : List ℕ) → Refuses Refusal (connect_step fresh g a q body)
unfolding connect_step connect_open client_auth is_number is_one_of is_refusal Refuses choose
connect_refuses fresh g a (ConnectRequest.Open version) body = accepts_all is_number _ _ _ refl
connect_refuses fresh g a (ConnectRequest.Md5Auth id digest) body = accepts_all is_number _ _ _ refl
connect_refuses fresh g a ConnectRequest.OtherAuth body = refl
connect_refuses fresh g a ConnectRequest.Close body = tt

config_refuses : (g : Login) (c : List ℕ) (q : ConfigRequest) → Refuses Refusal (config_step g c q)
unfolding config_step auth_attributes is_number is_one_of is_refusal Refuses choose
config_refuses g c ConfigRequest.ConnectionType = tt
config_refuses g c (ConfigRequest.AuthAttributes type) =
    by_test (Refuses Refusal) (eqb type md5_auth) _ _ (λ _. tt) (λ _. refl)
config_refuses g c ConfigRequest.ServerInfo = tt

-- ---- the tape's: its own number is given only where it is a refusal
pub refusal_facts : (e : ℕ) → is_refusal e ≡ true → Refused e
unfolding is_refusal choose
refusal_facts e h = (
  λ z. let w = rw z at h in absurd (let z : ◌≡◌ {A = ℕ} 0 1 = cc in omega arith),
  λ z. let w = rw z at h in absurd (let z : ◌≡◌ {A = ℕ} 0 1 = cc in omega arith),
  λ z. let w = rw z at h in absurd (let z : ◌≡◌ {A = ℕ} 0 1 = cc in omega arith),
)

-- a number of the cartridge that is a refusal is one of the table's
abbrev Listed : ℕ → Type 0
Listed e = is_refusal e ≡ true → is_number e ≡ true

module _ (l : List ℕ) (p : ℕ) where
  WriteListed : Step Wrote → Type 0
  WriteListed s = Listed s.gives.error

  write_listed : (b : List ℕ) → WriteListed (write_step l p b)
  unfolding write_step WriteListed is_number is_one_of is_refusal choose
  write_listed b =
      by_test WriteListed (ltb longest_record (length b)) _ _ (λ _ h. h)
      (λ _. by_test WriteListed (faulty l p) _ _ (λ _ h. h)
      (λ _. by_test WriteListed (eqb (length b) 0) _ _ (λ _ h. h)
      (λ _. by_test WriteListed (room_for l p (length b)) _ _ (λ _ h. h) (λ _ h. h))))

  ReadListed : Part → Type 0
  ReadListed r = Listed r.error

  read_listed : (times : ℕ) → ReadListed (read_part l p times)
  unfolding read_part entry_part ReadListed is_number is_one_of is_refusal choose
  read_listed times =
      by_test ReadListed (ltb longest_record times) _ _ (λ _ h. h)
      (λ _. by_test ReadListed (faulty l p) _ _ (λ _ h. h)
      (λ _. by_test ReadListed (eqb times 0) _ _ (λ _ h. h)
      (λ _. by_test ReadListed (eqb p (count l)) _ _ (λ _ h. h)
      (λ _. by_test ReadListed (eqb (entry_len l p) 0) _ _ (λ _ h. h) (λ _ h. h)))))

  MtioListed : Step Spaced → Type 0
  MtioListed s = Listed s.gives.error

  mark_listed : (times : ℕ) → MtioListed (mark_step l p times)
  unfolding mark_step MtioListed is_number is_one_of is_refusal choose
  mark_listed times = by_test MtioListed (ltb (capacity l) (p + times)) _ _ (λ _ h. h) (λ _ h. h)

  space_listed : (op times : ℕ) → MtioListed (keeping l (spacing l op p times))
  unfolding MtioListed
  space_listed op times h = absurd (spaced_error l op p times (refusal_facts _ h))

  mtio_listed : (op times : ℕ) → MtioListed (mtio_step l op p times)
  unfolding mtio_step MtioListed is_number is_one_of is_refusal choose
  mtio_listed op times =
      by_test MtioListed (ltb 6 op) _ _ (λ _ h. h)
      (λ _. by_test MtioListed (faulty l p) _ _ (λ _ h. h)
      (λ _. by_test MtioListed (eqb op 5) _ _ (λ _. mark_listed times)
      (λ _. by_test MtioListed (rewinds op) _ _ (λ _ h. h) (λ _. space_listed op times))))

  StateListed : Standing → Type 0
  StateListed s = Listed s.error

  state_listed : StateListed (standing_at l p)
  unfolding standing_at StateListed is_number is_one_of is_refusal choose
  state_listed = by_test StateListed (faulty l p) _ _ (λ _ h. h) (λ _ h. h)

-- ---- MTIO 6: its number is 0 where it is no refusal, and the tape stood at its start when it was closed
off_starts : (l : List ℕ) (p times : ℕ) → is_refusal (mtio_step l 6 p times).gives.error ≡ false → mtio_step l 6 p times ≡ keeping l (ended 0 0 0)
unfolding mtio_step is_refusal choose
off_starts l p times =
    by_test (λ (s : Step Spaced). is_refusal s.gives.error ≡ false → s ≡ keeping l (ended 0 0 0)) (faulty l p) _ _
    (λ _ h. absurd (let z : ◌≡◌ {A = ℕ} 0 1 = cc in omega arith))
    (λ _ _. refl)

pub off_to_start : (l : List ℕ) (op p times : ℕ) → op ≡ 6 → is_refusal (mtio_step l op p times).gives.error ≡ false → mtio_step l op p times ≡ keeping l (ended 0 0 0)
off_to_start l op p times z = rw z (off_starts l p times)

pub after_at : (l : List ℕ) (op p times : ℕ) (t : Tape) → is_refusal (mtio_step l op p times).gives.error ≡ false
    → (after_mtio op (mtio_step l op p times).gives.position t).position ≡ (mtio_step l op p times).gives.position
unfolding after_mtio
after_at l op p times t h =
    by_test (λ (x : Tape). x.position ≡ (mtio_step l op p times).gives.position) (eqb op 6) _ _
    (λ e. sym (ap (λ (s : Step Spaced). s.gives.position) (off_to_start l op p times (eqb-true op 6 e) h)))
    (λ _. refl)

pub after_moved : (op p : ℕ) (t : Tape) → (op ≡ 6 → ⊥) → after_mtio op p t ≡ moved_to p t
unfolding after_mtio choose
after_moved op p t n = rw (ne_eqb op 6 n)

-- a test by the cartridge's own number
own_test : (e : ℕ) (r : Reply) (s : Loaded) → Listed e → Refuses Refusal (judge (test (is_refusal e) e ∷ []) (accept r s))
unfolding judge Refuses
own_test e r s h = by_test (Refuses Refusal) (is_refusal e) (refuse e) (accept r s) h (λ _. tt)

own_refuses : (b c d : Bool) (e : ℕ) (r : Reply) (s : Loaded) → Listed e
    → Refuses Refusal (judge (test b not_open ∷ test c illegal_state ∷ test d permission_denied ∷ test (is_refusal e) e ∷ []) (accept r s))
unfolding is_number is_one_of is_refusal choose
own_refuses b c d e r s h =
    refuses_after is_number b _ _ (accept r s) refl
    (refuses_after is_number c _ _ (accept r s) refl (refuses_after is_number d _ _ (accept r s) refl (own_test e r s h)))

state_refuses : (b : Bool) (e : ℕ) (r : Reply) (s : Loaded) → Listed e → Refuses Refusal (judge (test b not_open ∷ test (is_refusal e) e ∷ []) (accept r s))
unfolding is_number is_one_of is_refusal choose
state_refuses b e r s h = refuses_after is_number b _ _ (accept r s) refl (own_test e r s h)

opened_right : (a b c d e : Bool)
    → numbers_right is_number (test a illegal_arguments ∷ test b no_device ∷ test c device_opened ∷ test d no_tape_loaded ∷ test e bad_file ∷ []) ≡ true
unfolding is_number is_one_of is_refusal choose
opened_right a b c d e = refl

closed_right : (a b : Bool) → numbers_right is_number (test a not_open ∷ test b illegal_state ∷ []) ≡ true
unfolding is_number is_one_of is_refusal choose
closed_right a b = refl

unread_right : (e : ℕ) → is_number e ≡ true → Refuses {A = Done} Refusal (refuse e)
unfolding Refuses
unread_right e h = h

tape_refuses : (drive mover : ℕ) (t : Tape) (l : List ℕ) (q : TapeRequest) (body : List ℕ) → Refuses Refusal (device_step drive mover t l q body)
unfolding device_step tape_open tape_close tape_state tape_mtio tape_write tape_read WriteListed ReadListed MtioListed StateListed
tape_refuses drive mover t l (TapeRequest.Open name mode) body = accepts_all is_number _ _ _ (opened_right true true true true true)
tape_refuses drive mover t l TapeRequest.Close body = accepts_all is_number _ _ _ (closed_right true true)
tape_refuses drive mover t l TapeRequest.State body = state_refuses _ _ _ _ (state_listed l t.position)
tape_refuses drive mover t l (TapeRequest.Mtio op times) body = own_refuses _ _ _ _ _ _ (mtio_listed l t.position op times)
tape_refuses drive mover t l (TapeRequest.Write bytes) body = own_refuses _ _ _ _ _ _ (write_listed l t.position (bytes_at body bytes))
tape_refuses drive mover t l (TapeRequest.Read times) body = own_refuses _ _ _ _ _ _ (read_listed l t.position times)

module _ (k : Kept) (l : Lent) (r : List ℕ) where
  outcome_refuses : (q : Request) → Refuses Refusal (outcome k l r q)
  unfolding outcome tape_step mover_part_step is_number is_one_of is_refusal choose
  outcome_refuses Request.Unknown = unread_right 1 refl
  outcome_refuses Request.Bad = unread_right 18 refl
  outcome_refuses (Request.Connect q) = refuses_onto Refusal (with_login k _) _ (connect_refuses _ _ _ q _)
  outcome_refuses (Request.Config q) = refuses_onto Refusal (with_login k _) _ (config_refuses _ _ q)
  outcome_refuses (Request.Scsi q) = refuses_onto Refusal (with_changer k _) _ (scsi_refuses _ _ q _)
  outcome_refuses (Request.Tape q) = refuses_onto Refusal (with_tape k) _ (refuses_onto Refusal (with_loaded (tape_part k)) _ (tape_refuses _ _ _ _ q _))
  outcome_refuses (Request.Data q) = refuses_onto Refusal (with_data k q _ _) _ (data_refuses _ q _ _ _)
  outcome_refuses (Request.Mover q) = refuses_onto Refusal (with_part k _) _ (refuses_onto Refusal (with_mover (tape_part k)) _ (mover_refuses _ _ q _))
  outcome_refuses (Request.Joint q) = refuses_onto Refusal (with_ends k) _ (joint_refuses _ _ _ q _)

  pub refusal_right : (q : Request) → Refuses Refusal (verdict k l r q)
  unfolding verdict is_number is_one_of is_refusal choose
  refusal_right q = refuses_after is_number _ _ [] _ refl (refuses_behind is_number _ (outcome_refuses q) [] refl)
