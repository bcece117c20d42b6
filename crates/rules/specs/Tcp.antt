-- 02 No. 14: what holds of an end whose address is TCP. It is said by the ends before and after, so that the definitions of requests are held against it.
use Rattle.std.specs.Prelude.{ℕ, ◌<◌, Bool, true, false, List, ◌≡◌}
use Rattle.codes.specs.Codes.{local_address, tcp_address, illegal_arguments, illegal_state, other_not_listening}
use Rattle.wire_layouts.specs.AddressLists.{lendable}
use Rattle.wire_requests.specs.declared.DataRequest.{DataRequest}
use Rattle.wire_requests.specs.declared.DataRequest.TheVariants as DataRequest
use Rattle.wire_requests.specs.declared.MoverRequest.{MoverRequest}
use Rattle.wire_requests.specs.declared.MoverRequest.TheVariants as MoverRequest
use Rattle.wire_replies.specs.declared.Reply.TheVariants.{Plain, Listening, ListeningTcp}
use Rattle.rules_parts.specs.declared.types.Data.{Data}
use Rattle.rules_parts.specs.declared.types.Mover.{Mover}
use Rattle.rules_parts.specs.declared.types.Tape.{Tape}
use Rattle.rules_parts.specs.Parts.{data_to, data_halts, mover_listens, mover_halts}
use Rattle.rules_parts.specs.Names.{data_idle, data_halted, data_listening, data_connected, mover_idle, mover_listening, mover_active, mover_paused, mover_halted, data_aborted_reason, mover_connect_closed, mover_aborted_reason}
use Rattle.rules.specs.Judge.{first, refuse, accept, Refuses, Accepts}
use Rattle.rules.specs.Addresses.{listen_wrong, connect_wrong}
use Rattle.rules.specs.DataService.{data_listen, data_step}
use Rattle.rules.specs.MoverService.{join_tests, mover_listen, mover_step}
use Rattle.rules.specs.declared.Ends.{Ends}
use Rattle.rules.specs.Joint.{source_joined, mover_joins, data_connect, mover_connect, data_abort, mover_abort, mover_close}

-- the data end is in a state by TCP, and the mover is as it was and has no notice; and the other way round
pub record SourceAlone (state : ℕ) (m : Mover) (next : Ends) : Type 0 where
  pub state_is : next.source.state ≡ state
  pub type : next.source.address ≡ tcp_address
  pub other : next.mover ≡ m
  pub quiet : next.mwhy ≡ 0

pub record MoverAlone (state : ℕ) (d : Data) (next : Ends) : Type 0 where
  pub state_is : next.mover.state ≡ state
  pub type : next.mover.address ≡ tcp_address
  pub other : next.source ≡ d
  pub quiet : next.dwhy ≡ 0

-- ---- connects. "A TCP connect is lent made or failed"; "01's rules on joined ends and 23 hold for LOCAL only"
pub record TcpConnects : Type 0 where
  pub source : (d : Data) (m : Mover) (t : Tape) (count : ℕ) (made : Bool)
      → Accepts (λ _ next. SourceAlone data_connected m next) (data_connect d m t tcp_address count made)
  pub mover : (d : Data) (m : Mover) (t : Tape) (mode count : ℕ) (made : Bool)
      → Accepts (λ _ next. MoverAlone mover_active d next × (next.mover.origin ≡ t.position)) (mover_connect d m t mode tcp_address count made)
  -- the other end is not asked: whatever it is, the number is the same
  pub source_asks : (d : Data) (m n : Mover) (t : Tape) (count : ℕ) (made : Bool)
      → Refuses (λ e. data_connect d n t tcp_address count made ≡ refuse e) (data_connect d m t tcp_address count made)
  pub mover_asks : (d c : Data) (m : Mover) (t : Tape) (mode count : ℕ) (made : Bool)
      → Refuses (λ e. mover_connect c m t mode tcp_address count made ≡ refuse e) (mover_connect d m t mode tcp_address count made)
  -- 19 and all else come first
  pub source_busy : (d : Data) (m : Mover) (t : Tape) (address count : ℕ) (made : Bool) → (d.state ≡ data_idle → ⊥)
      → data_connect d m t address count made ≡ refuse illegal_state
  pub mover_before : (d : Data) (m : Mover) (t : Tape) (mode address count : ℕ) (made : Bool) → (first (join_tests m t mode (connect_wrong address count)) ≡ 0 → ⊥)
      → mover_connect d m t mode address count made ≡ refuse (first (join_tests m t mode (connect_wrong address count)))
  -- one that was made is accepted, whatever the other end is
  pub source_made : (d : Data) (m : Mover) (t : Tape) (count : ℕ) → d.state ≡ data_idle → (count ≡ 0 → ⊥)
      → data_connect d m t tcp_address count true ≡ accept Plain (source_joined d m)
  pub mover_made : (d : Data) (m : Mover) (t : Tape) (mode count : ℕ) → first (join_tests m t mode false) ≡ 0 → (count ≡ 0 → ⊥)
      → mover_connect d m t mode tcp_address count true ≡ accept Plain (mover_joins d m mode t.position)
  -- "9 for an empty list"; types that are neither
  pub source_empty : (d : Data) (m : Mover) (t : Tape) (made : Bool) → d.state ≡ data_idle → data_connect d m t tcp_address 0 made ≡ refuse illegal_arguments
  pub mover_wrong : (d : Data) (m : Mover) (t : Tape) (mode address count : ℕ) (made : Bool) → first (join_tests m t mode false) ≡ 0
      → connect_wrong address count ≡ true → mover_connect d m t mode address count made ≡ refuse illegal_arguments
  pub wrong_types : (address count : ℕ) → tcp_address < address → connect_wrong address count ≡ true
  pub wrong_empty : connect_wrong tcp_address 0 ≡ true
  pub source_other : (d : Data) (m : Mover) (t : Tape) (address count : ℕ) (made : Bool) → d.state ≡ data_idle → tcp_address < address
      → data_connect d m t address count made ≡ refuse illegal_arguments
  -- "23 when failed is lent", after all else
  pub source_failed : (d : Data) (m : Mover) (t : Tape) (count : ℕ) → d.state ≡ data_idle → (count ≡ 0 → ⊥)
      → data_connect d m t tcp_address count false ≡ refuse other_not_listening
  pub mover_failed : (d : Data) (m : Mover) (t : Tape) (mode count : ℕ) → first (join_tests m t mode false) ≡ 0 → (count ≡ 0 → ⊥)
      → mover_connect d m t mode tcp_address count false ≡ refuse other_not_listening
  -- "or a LOCAL connect finds the other end listening by TCP"
  pub source_meets : (d : Data) (m : Mover) (t : Tape) (count : ℕ) (made : Bool) → d.state ≡ data_idle → m.address ≡ tcp_address
      → data_connect d m t local_address count made ≡ refuse other_not_listening
  pub mover_meets : (d : Data) (m : Mover) (t : Tape) (mode count : ℕ) (made : Bool) → first (join_tests m t mode false) ≡ 0 → d.address ≡ tcp_address
      → mover_connect d m t mode local_address count made ≡ refuse other_not_listening
  -- by LOCAL nobody looks at what was made
  pub source_local : (d : Data) (m : Mover) (t : Tape) (count : ℕ) (made other : Bool)
      → data_connect d m t local_address count made ≡ data_connect d m t local_address count other
  pub mover_local : (d : Data) (m : Mover) (t : Tape) (mode count : ℕ) (made other : Bool)
      → mover_connect d m t mode local_address count made ≡ mover_connect d m t mode local_address count other

-- ---- listens. "A listen by TCP answers the XDR list that the host lends with its call"
pub record TcpListens : Type 0 where
  pub source : (d : Data) (list : List ℕ)
      → Accepts (λ reply next. (reply ≡ ListeningTcp) × (next.state ≡ data_listening) × (next.address ≡ tcp_address)) (data_listen d tcp_address list)
  pub mover : (m : Mover) (t : Tape) (mode : ℕ) (list : List ℕ)
      → Accepts (λ reply next. (reply ≡ ListeningTcp) × (next.state ≡ mover_listening) × (next.address ≡ tcp_address)) (mover_listen m t mode tcp_address list)
  -- one that is lent a list of use is accepted
  pub source_lent : (d : Data) (list : List ℕ) → d.state ≡ data_idle → lendable list ≡ true
      → data_listen d tcp_address list ≡ accept ListeningTcp (data_to data_listening tcp_address d)
  pub mover_lent : (m : Mover) (t : Tape) (mode : ℕ) (list : List ℕ) → first (join_tests m t mode false) ≡ 0 → lendable list ≡ true
      → mover_listen m t mode tcp_address list ≡ accept ListeningTcp (mover_listens mode tcp_address m)
  -- "9 .. for a lent one that does not decode or is above 16,384 bytes"
  pub source_unlent : (d : Data) (list : List ℕ) → d.state ≡ data_idle → lendable list ≡ false → data_listen d tcp_address list ≡ refuse illegal_arguments
  pub mover_unlent : (m : Mover) (t : Tape) (mode : ℕ) (list : List ℕ) → first (join_tests m t mode false) ≡ 0 → lendable list ≡ false
      → mover_listen m t mode tcp_address list ≡ refuse illegal_arguments
  -- 19 comes before it, and so does all that the mover is asked and that has another number
  pub source_busy : (d : Data) (address : ℕ) (list : List ℕ) → (d.state ≡ data_idle → ⊥) → data_listen d address list ≡ refuse illegal_state
  pub mover_before : (m : Mover) (t : Tape) (mode address : ℕ) (list : List ℕ) → (first (join_tests m t mode (listen_wrong address list)) ≡ 0 → ⊥)
      → mover_listen m t mode address list ≡ refuse (first (join_tests m t mode (listen_wrong address list)))
  pub unready : (m : Mover) (t : Tape) (mode : ℕ) (wrong : Bool) → (first (join_tests m t mode false) ≡ 0 → ⊥)
      → (first (join_tests m t mode false) ≡ illegal_arguments → ⊥) → first (join_tests m t mode wrong) ≡ first (join_tests m t mode false)
  -- no other request looks at the list
  pub source_others : (d : Data) (q : DataRequest) (body list other variables : List ℕ) → ((address : ℕ) → q ≡ DataRequest.Listen address → ⊥)
      → data_step d q body list variables ≡ data_step d q body other variables
  pub mover_others : (m : Mover) (t : Tape) (q : MoverRequest) (list other : List ℕ) → ((mode address : ℕ) → q ≡ MoverRequest.Listen mode address → ⊥)
      → mover_step m t q list ≡ mover_step m t q other
  -- by LOCAL it is not looked at, and LOCAL is answered
  pub source_local : (d : Data) (list other : List ℕ) → data_listen d local_address list ≡ data_listen d local_address other
  pub mover_local : (m : Mover) (t : Tape) (mode : ℕ) (list other : List ℕ) → mover_listen m t mode local_address list ≡ mover_listen m t mode local_address other
  pub mover_local_reply : (m : Mover) (t : Tape) (mode : ℕ) (list : List ℕ)
      → Accepts (λ reply next. (reply ≡ Listening) × (next.address ≡ local_address)) (mover_listen m t mode local_address list)
  pub local_reply : (d : Data) (list : List ℕ) → Accepts (λ reply next. (reply ≡ Listening) × (next.address ≡ local_address)) (data_listen d local_address list)

-- ---- halts. "any halt is of one end"
pub record TcpHalts : Type 0 where
  pub source_aborts : (d : Data) (m : Mover) → d.address ≡ tcp_address
      → Accepts (λ _ next. SourceAlone data_halted m next × (next.dwhy ≡ data_aborted_reason)) (data_abort d m)
  pub mover_aborts : (d : Data) (m : Mover) → m.address ≡ tcp_address
      → Accepts (λ _ next. MoverAlone mover_halted d next × (next.mwhy ≡ mover_aborted_reason)) (mover_abort d m)
  pub mover_closes : (d : Data) (m : Mover) → m.address ≡ tcp_address
      → Accepts (λ _ next. MoverAlone mover_halted d next × (next.mwhy ≡ mover_connect_closed)) (mover_close d m)
  -- an abort is refused in IDLE and HALTED only, and a close but in PAUSED; what is told and what the end keeps is one reason
  pub source_aborted : (d : Data) (m : Mover) → d.address ≡ tcp_address → (d.state ≡ data_idle → ⊥) → (d.state ≡ data_halted → ⊥)
      → data_abort d m ≡ accept Plain (record { source = data_halts data_aborted_reason d; mover = m; dwhy = data_aborted_reason; mwhy = 0 })
  pub mover_aborted_lem : (d : Data) (m : Mover) → m.address ≡ tcp_address → (m.state ≡ mover_idle → ⊥) → (m.state ≡ mover_halted → ⊥)
      → mover_abort d m ≡ accept Plain (record { source = d; mover = mover_halts mover_aborted_reason m; dwhy = 0; mwhy = mover_aborted_reason })
  pub mover_closed_lem : (d : Data) (m : Mover) → m.address ≡ tcp_address → m.state ≡ mover_paused
      → mover_close d m ≡ accept Plain (record { source = d; mover = mover_halts mover_connect_closed m; dwhy = 0; mwhy = mover_connect_closed })

pub record TcpRules : Type 0 where
  pub connects : TcpConnects
  pub listens : TcpListens
  pub halts : TcpHalts
