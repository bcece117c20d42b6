-- What holds of an end whose address is TCP: connects, listens and halts, each by its list of tests. Assumes nothing.
use Prim.Native.Nat.{ℕ, ◌<◌}
use mathlib.Core.Bool.{Bool, true, false, not}
use mathlib.Core.List.{List, [], ◌∷◌, ◌++◌}
use mathlib.Core.Path.{◌≡◌, refl, sym, ap, ◌∙◌}
use native.Mathlib.Omega.{arith}
use lib.Dec.{eqb, ltb}
use borrow.Author.Tests.{eq-eqb, ne_eqb, eqb-false}
use Rattle.codes.specs.Codes.{local_address, tcp_address, illegal_arguments, illegal_state, other_not_listening, not_open, permission_denied, precondition}
use Rattle.xdr.specs.Choose.{choose}
use Rattle.wire_layouts.specs.AddressLists.{lendable}
use Rattle.wire_requests.specs.declared.DataRequest.{DataRequest}
use Rattle.wire_requests.specs.declared.DataRequest.TheVariants as DataRequest
use Rattle.wire_requests.specs.declared.MoverRequest.{MoverRequest}
use Rattle.wire_requests.specs.declared.MoverRequest.TheVariants as MoverRequest
use Rattle.wire_replies.specs.declared.Reply.{Reply}
use Rattle.wire_replies.specs.declared.Reply.TheVariants.{Plain, Listening, ListeningTcp}
use Rattle.rules_parts.specs.declared.types.Data.{Data}
use Rattle.rules_parts.specs.declared.types.Mover.{Mover}
use Rattle.rules_parts.specs.declared.types.Tape.{Tape}
use Rattle.rules_parts.specs.Names.{data_idle, data_listening, data_connected, data_halted, mover_listening, mover_active, mover_paused, mover_halted, data_aborted_reason, mover_connect_closed, mover_aborted_reason, mover_idle, from_tape_mode}
use Rattle.rules_parts.specs.Parts.{data_to, data_halts, mover_listens, mover_halts, address_wrong, unwritable}
use Rattle.rules_parts.proofs.Addressing.{local_right, tcp_right, other_wrong, source_alone_lem, mover_alone_lem}
use Rattle.rules.specs.Judge.{Test, test, first, Outcome, refuse, accept, judge, Refuses, Accepts}
use Rattle.rules.specs.Addresses.{listen_wrong, connect_wrong, listening, unmet}
use Rattle.rules.specs.DataService.{data_listen, data_step}
use Rattle.rules.specs.MoverService.{offset_wrong, join_tests, mover_listen, mover_step}
use Rattle.rules.specs.declared.Ends.{Ends}
use Rattle.rules.specs.Joint.{source_joined, mover_joins, at_rest, data_awaits, mover_awaits, data_connect, mover_connect, data_aborted, data_abort, mover_aborted, mover_abort, mover_closed, mover_close}
use Rattle.rules.specs.Tcp.{SourceAlone, MoverAlone, TcpConnects, TcpListens, TcpHalts, TcpRules}
use Rattle.rules.proofs.JudgeLaws.{accepts, apart, numbered, judge_first}

-- the same tests refuse alike, whatever is accepted behind them
same_refusal : {A : Type 0} (ts : List Test) (r s : Reply) (p q : A) → Refuses (λ e. judge ts (accept s q) ≡ refuse e) (judge ts (accept r p))
unfolding judge Refuses choose
same_refusal [] r s p q = tt
same_refusal (test true e ∷ ts) r s p q = refl
same_refusal (test false e ∷ ts) r s p q = same_refusal ts r s p q

-- where no test before it applies, one that does decides; and so does the next where it does not
module _ {A : Type 0} (o : Outcome A) (e : ℕ) (us : List Test) where
  decides : (ts : List Test) → numbered ts ≡ true → first (ts ++ (test false e ∷ us)) ≡ 0 → judge (ts ++ (test true e ∷ us)) o ≡ refuse e
  unfolding judge first choose
  decides [] n h = refl
  decides (test true k ∷ ts) n h = absurd (eqb-false k 0 (apart (eqb k 0) (numbered ts) n).0 h)
  decides (test false k ∷ ts) n h = decides ts (apart (eqb k 0) (numbered ts) n).1 h

first_decides : (e : ℕ) (us ts : List Test) → numbered ts ≡ true → first (ts ++ (test false e ∷ us)) ≡ 0 → first (ts ++ (test true e ∷ us)) ≡ e
unfolding first choose
first_decides e us [] n h = refl
first_decides e us (test true k ∷ ts) n h = absurd (eqb-false k 0 (apart (eqb k 0) (numbered ts) n).0 h)
first_decides e us (test false k ∷ ts) n h = first_decides e us ts (apart (eqb k 0) (numbered ts) n).1 h

-- of tests before it that have another number, one that applies is the first with or without it
first_skips : (e : ℕ) (b c : Bool) (ts : List Test) → (first (ts ++ (test false e ∷ test c e ∷ [])) ≡ 0 → ⊥) → (first (ts ++ (test false e ∷ test c e ∷ [])) ≡ e → ⊥)
    → first (ts ++ (test b e ∷ test c e ∷ [])) ≡ first (ts ++ (test false e ∷ test c e ∷ []))
unfolding first choose
first_skips e b true [] n k = absurd (k refl)
first_skips e b false [] n k = absurd (n refl)
first_skips e b c (test true x ∷ ts) n k = refl
first_skips e b c (test false x ∷ ts) n k = first_skips e b c ts n k

-- what a mover in IDLE is asked before its address
abbrev asked_before : Mover → Tape → ℕ → List Test
asked_before m t mode =
    test (not t.opened) not_open
    ∷ test (not (eqb m.state mover_idle)) illegal_state
    ∷ test (unwritable mode t.writable) permission_denied
    ∷ test (eqb m.size 0) precondition
    ∷ test (eqb m.length 0) precondition
    ∷ test (offset_wrong mode m.offset) precondition
    ∷ []

-- a connect of the mover that comes to its last test
comes_to : (m : Mover) (t : Tape) (mode : ℕ) (b : Bool) (e : ℕ) (o : Outcome Ends) → first (join_tests m t mode false) ≡ 0
    → judge (join_tests m t mode false ++ (test b e ∷ [])) o ≡ choose b (refuse e) o
unfolding judge choose
comes_to m t mode b e o h = judge_first (join_tests m t mode false) (test b e ∷ []) o refl ∙ rw h

source : (d : Data) (m : Mover) (t : Tape) (count : ℕ) (made : Bool) → Accepts (λ _ next. SourceAlone data_connected m next) (data_connect d m t tcp_address count made)
unfolding data_connect choose
source d m t count made =
    accepts (λ _ (next : Ends). SourceAlone data_connected m next) _ _ _ (λ _. record { state_is = refl; type = refl; other = refl; quiet = refl })

mover : (d : Data) (m : Mover) (t : Tape) (mode count : ℕ) (made : Bool)
    → Accepts (λ _ next. MoverAlone mover_active d next × (next.mover.origin ≡ t.position)) (mover_connect d m t mode tcp_address count made)
unfolding mover_connect choose
mover d m t mode count made =
    accepts (λ _ (next : Ends). MoverAlone mover_active d next × (next.mover.origin ≡ t.position)) _ _ _
    (λ _. (record { state_is = refl; type = refl; other = refl; quiet = refl }, refl))

source_asks : (d : Data) (m n : Mover) (t : Tape) (count : ℕ) (made : Bool)
    → Refuses (λ e. data_connect d n t tcp_address count made ≡ refuse e) (data_connect d m t tcp_address count made)
unfolding data_connect unmet choose
source_asks d m n t count made = same_refusal _ _ _ _ _

mover_asks : (d c : Data) (m : Mover) (t : Tape) (mode count : ℕ) (made : Bool)
    → Refuses (λ e. mover_connect c m t mode tcp_address count made ≡ refuse e) (mover_connect d m t mode tcp_address count made)
unfolding mover_connect unmet choose
mover_asks d c m t mode count made = same_refusal _ _ _ _ _

source_busy : (d : Data) (m : Mover) (t : Tape) (address count : ℕ) (made : Bool) → (d.state ≡ data_idle → ⊥)
    → data_connect d m t address count made ≡ refuse illegal_state
unfolding data_connect judge choose
source_busy d m t address count made n = rw (ne_eqb d.state data_idle n)

mover_before : (d : Data) (m : Mover) (t : Tape) (mode address count : ℕ) (made : Bool) → (first (join_tests m t mode (connect_wrong address count)) ≡ 0 → ⊥)
    → mover_connect d m t mode address count made ≡ refuse (first (join_tests m t mode (connect_wrong address count)))
unfolding mover_connect choose
mover_before d m t mode address count made n =
    judge_first (join_tests m t mode (connect_wrong address count)) _ _ refl ∙ rw (ne_eqb (first (join_tests m t mode (connect_wrong address count))) 0 n)

module _ (d : Data) (m : Mover) (t : Tape) (s : d.state ≡ data_idle) where
  source_empty : (made : Bool) → data_connect d m t tcp_address 0 made ≡ refuse illegal_arguments
  unfolding data_connect judge address_wrong choose
  source_empty made = rw (eq-eqb d.state data_idle s)

  source_other : (address count : ℕ) (made : Bool) → tcp_address < address → data_connect d m t address count made ≡ refuse illegal_arguments
  unfolding data_connect judge choose
  source_other address count made h = rw (eq-eqb d.state data_idle s, other_wrong address (eqb count 0) h)

  source_made : (count : ℕ) → (count ≡ 0 → ⊥) → data_connect d m t tcp_address count true ≡ accept Plain (source_joined d m)
  unfolding data_connect judge address_wrong unmet choose
  source_made count n = rw (eq-eqb d.state data_idle s, ne_eqb count 0 n) refl

  source_failed : (count : ℕ) → (count ≡ 0 → ⊥) → data_connect d m t tcp_address count false ≡ refuse other_not_listening
  unfolding data_connect judge address_wrong unmet choose
  source_failed count n = rw (eq-eqb d.state data_idle s, ne_eqb count 0 n)

  source_meets : (count : ℕ) (made : Bool) → m.address ≡ tcp_address → data_connect d m t local_address count made ≡ refuse other_not_listening
  unfolding data_connect judge address_wrong unmet mover_awaits choose
  source_meets count made e = rw (eq-eqb d.state data_idle s, e)

module _ (d : Data) (m : Mover) (t : Tape) (mode : ℕ) (h : first (join_tests m t mode false) ≡ 0) where
  mover_made : (count : ℕ) → (count ≡ 0 → ⊥) → mover_connect d m t mode tcp_address count true ≡ accept Plain (mover_joins d m mode t.position)
  unfolding mover_connect address_wrong unmet choose
  mover_made count n = rw (ne_eqb count 0 n) (comes_to m t mode false other_not_listening _ h)

  mover_wrong : (address count : ℕ) (made : Bool) → connect_wrong address count ≡ true → mover_connect d m t mode address count made ≡ refuse illegal_arguments
  unfolding mover_connect choose
  mover_wrong address count made e =
      rw e (judge_first (join_tests m t mode true) _ _ refl
      ∙ rw (first_decides illegal_arguments (test (ltb from_tape_mode mode) illegal_arguments ∷ []) (asked_before m t mode) refl h))

  mover_failed : (count : ℕ) → (count ≡ 0 → ⊥) → mover_connect d m t mode tcp_address count false ≡ refuse other_not_listening
  unfolding mover_connect address_wrong unmet choose
  mover_failed count n = rw (ne_eqb count 0 n) (comes_to m t mode true other_not_listening _ h)

  mover_meets : (count : ℕ) (made : Bool) → d.address ≡ tcp_address → mover_connect d m t mode local_address count made ≡ refuse other_not_listening
  unfolding mover_connect address_wrong unmet data_awaits choose
  mover_meets count made e = rw e (comes_to m t mode true other_not_listening _ h)

local_made : (d : Data) (m : Mover) (t : Tape) (count : ℕ) (made other : Bool)
    → data_connect d m t local_address count made ≡ data_connect d m t local_address count other
unfolding data_connect unmet choose
local_made d m t count made other = refl

mover_local_made : (d : Data) (m : Mover) (t : Tape) (mode count : ℕ) (made other : Bool)
    → mover_connect d m t mode local_address count made ≡ mover_connect d m t mode local_address count other
unfolding mover_connect unmet choose
mover_local_made d m t mode count made other = refl

connects : TcpConnects
connects =
    record {
      source = source;
      mover = mover;
      source_asks = source_asks;
      mover_asks = mover_asks;
      source_busy = source_busy;
      mover_before = mover_before;
      source_made = λ d m t count s. source_made d m t s count;
      mover_made = λ d m t mode count h. mover_made d m t mode h count;
      mover_wrong = λ d m t mode address count made h. mover_wrong d m t mode h address count made;
      wrong_types = λ address count h. other_wrong address (eqb count 0) h;
      wrong_empty = tcp_right true;
      source_empty = λ d m t made s. source_empty d m t s made;
      source_other = λ d m t address count made s. source_other d m t s address count made;
      source_failed = λ d m t count s. source_failed d m t s count;
      mover_failed = λ d m t mode count h. mover_failed d m t mode h count;
      source_meets = λ d m t count made s. source_meets d m t s count made;
      mover_meets = λ d m t mode count made h. mover_meets d m t mode h count made;
      source_local = local_made;
      mover_local = mover_local_made;
    }

-- ---- listens
listens_source : (d : Data) (list : List ℕ)
    → Accepts (λ reply next. (reply ≡ ListeningTcp) × (next.state ≡ data_listening) × (next.address ≡ tcp_address)) (data_listen d tcp_address list)
unfolding data_listen listening choose
listens_source d list =
    accepts (λ reply (next : Data). (reply ≡ ListeningTcp) × (next.state ≡ data_listening) × (next.address ≡ tcp_address)) _ _ _ (λ _. (refl, refl, refl))

listens_mover : (m : Mover) (t : Tape) (mode : ℕ) (list : List ℕ)
    → Accepts (λ reply next. (reply ≡ ListeningTcp) × (next.state ≡ mover_listening) × (next.address ≡ tcp_address)) (mover_listen m t mode tcp_address list)
unfolding mover_listen listening choose
listens_mover m t mode list =
    accepts (λ reply (next : Mover). (reply ≡ ListeningTcp) × (next.state ≡ mover_listening) × (next.address ≡ tcp_address)) _ _ _ (λ _. (refl, refl, refl))

source_lent : (d : Data) (list : List ℕ) → d.state ≡ data_idle → lendable list ≡ true
    → data_listen d tcp_address list ≡ accept ListeningTcp (data_to data_listening tcp_address d)
unfolding data_listen listening judge address_wrong choose
source_lent d list s h = rw (eq-eqb d.state data_idle s, h) refl

mover_lent : (m : Mover) (t : Tape) (mode : ℕ) (list : List ℕ) → first (join_tests m t mode false) ≡ 0 → lendable list ≡ true
    → mover_listen m t mode tcp_address list ≡ accept ListeningTcp (mover_listens mode tcp_address m)
unfolding mover_listen listening address_wrong judge choose
mover_lent m t mode list h n = rw n (judge_first (join_tests m t mode false) [] _ refl ∙ rw h refl)

mover_local_reply : (m : Mover) (t : Tape) (mode : ℕ) (list : List ℕ)
    → Accepts (λ reply next. (reply ≡ Listening) × (next.address ≡ local_address)) (mover_listen m t mode local_address list)
unfolding mover_listen listening choose
mover_local_reply m t mode list = accepts (λ reply (next : Mover). (reply ≡ Listening) × (next.address ≡ local_address)) _ _ _ (λ _. (refl, refl))

source_unlent : (d : Data) (list : List ℕ) → d.state ≡ data_idle → lendable list ≡ false → data_listen d tcp_address list ≡ refuse illegal_arguments
unfolding data_listen judge address_wrong choose
source_unlent d list s h = rw (eq-eqb d.state data_idle s, h)

mover_unlent : (m : Mover) (t : Tape) (mode : ℕ) (list : List ℕ) → first (join_tests m t mode false) ≡ 0 → lendable list ≡ false
    → mover_listen m t mode tcp_address list ≡ refuse illegal_arguments
unfolding mover_listen address_wrong choose
mover_unlent m t mode list h n =
    rw n (decides _ illegal_arguments (test (ltb from_tape_mode mode) illegal_arguments ∷ []) (asked_before m t mode) refl h)

source_local : (d : Data) (list other : List ℕ) → data_listen d local_address list ≡ data_listen d local_address other
unfolding data_listen address_wrong choose
source_local d list other = refl

mover_local : (m : Mover) (t : Tape) (mode : ℕ) (list other : List ℕ) → mover_listen m t mode local_address list ≡ mover_listen m t mode local_address other
unfolding mover_listen address_wrong choose
mover_local m t mode list other = refl

local_reply : (d : Data) (list : List ℕ) → Accepts (λ reply next. (reply ≡ Listening) × (next.address ≡ local_address)) (data_listen d local_address list)
unfolding data_listen listening choose
local_reply d list = accepts (λ reply (next : Data). (reply ≡ Listening) × (next.address ≡ local_address)) _ _ _ (λ _. (refl, refl))

listens_busy : (d : Data) (address : ℕ) (list : List ℕ) → (d.state ≡ data_idle → ⊥) → data_listen d address list ≡ refuse illegal_state
unfolding data_listen judge choose
listens_busy d address list n = rw (ne_eqb d.state data_idle n)

listens_before : (m : Mover) (t : Tape) (mode address : ℕ) (list : List ℕ) → (first (join_tests m t mode (listen_wrong address list)) ≡ 0 → ⊥)
    → mover_listen m t mode address list ≡ refuse (first (join_tests m t mode (listen_wrong address list)))
unfolding mover_listen judge choose
listens_before m t mode address list n =
    judge_first (join_tests m t mode (listen_wrong address list)) [] _ refl ∙ rw (ne_eqb (first (join_tests m t mode (listen_wrong address list))) 0 n)

unready : (m : Mover) (t : Tape) (mode : ℕ) (wrong : Bool) → (first (join_tests m t mode false) ≡ 0 → ⊥)
    → (first (join_tests m t mode false) ≡ illegal_arguments → ⊥) → first (join_tests m t mode wrong) ≡ first (join_tests m t mode false)
unready m t mode wrong n k = first_skips illegal_arguments wrong (ltb from_tape_mode mode) (asked_before m t mode) n k

source_others : (d : Data) (q : DataRequest) (body list other variables : List ℕ) → ((address : ℕ) → q ≡ DataRequest.Listen address → ⊥)
    → data_step d q body list variables ≡ data_step d q body other variables
unfolding data_step
source_others d DataRequest.State body list other variables n = refl
source_others d (DataRequest.Backup name ps) body list other variables n = refl
source_others d (DataRequest.Recover name ps) body list other variables n = refl
source_others d DataRequest.Environment body list other variables n = refl
source_others d DataRequest.Stop body list other variables n = refl
source_others d (DataRequest.Listen address) body list other variables n = absurd (n address refl)

mover_others : (m : Mover) (t : Tape) (q : MoverRequest) (list other : List ℕ) → ((mode address : ℕ) → q ≡ MoverRequest.Listen mode address → ⊥)
    → mover_step m t q list ≡ mover_step m t q other
unfolding mover_step
mover_others m t MoverRequest.State list other n = refl
mover_others m t (MoverRequest.Listen mode address) list other n = absurd (n mode address refl)
mover_others m t MoverRequest.Continue list other n = refl
mover_others m t MoverRequest.Stop list other n = refl
mover_others m t (MoverRequest.Window offset length) list other n = refl
mover_others m t (MoverRequest.Read offset length) list other n = refl
mover_others m t (MoverRequest.Size size) list other n = refl

listens : TcpListens
listens =
    record {
      source = listens_source;
      mover = listens_mover;
      source_lent = source_lent;
      mover_lent = mover_lent;
      source_unlent = source_unlent;
      mover_unlent = mover_unlent;
      source_local = source_local;
      mover_local = mover_local;
      source_busy = listens_busy;
      mover_before = listens_before;
      unready = unready;
      source_others = source_others;
      mover_others = mover_others;
      mover_local_reply = mover_local_reply;
      local_reply = local_reply;
    }

-- ---- halts
source_aborts : (d : Data) (m : Mover) → d.address ≡ tcp_address
    → Accepts (λ _ next. SourceAlone data_halted m next × (next.dwhy ≡ data_aborted_reason)) (data_abort d m)
unfolding data_abort data_aborted choose
source_aborts d m e =
    rw (source_alone_lem d e)
    (accepts (λ _ (next : Ends). SourceAlone data_halted m next × (next.dwhy ≡ data_aborted_reason)) _ _ _
    (λ _. (record { state_is = refl; type = e; other = refl; quiet = refl }, refl)))

mover_aborts : (d : Data) (m : Mover) → m.address ≡ tcp_address
    → Accepts (λ _ next. MoverAlone mover_halted d next × (next.mwhy ≡ mover_aborted_reason)) (mover_abort d m)
unfolding mover_abort mover_aborted choose
mover_aborts d m e =
    rw (mover_alone_lem m e)
    (accepts (λ _ (next : Ends). MoverAlone mover_halted d next × (next.mwhy ≡ mover_aborted_reason)) _ _ _
    (λ _. (record { state_is = refl; type = e; other = refl; quiet = refl }, refl)))

mover_closes : (d : Data) (m : Mover) → m.address ≡ tcp_address
    → Accepts (λ _ next. MoverAlone mover_halted d next × (next.mwhy ≡ mover_connect_closed)) (mover_close d m)
unfolding mover_close mover_closed choose
mover_closes d m e =
    rw (mover_alone_lem m e)
    (accepts (λ _ (next : Ends). MoverAlone mover_halted d next × (next.mwhy ≡ mover_connect_closed)) _ _ _
    (λ _. (record { state_is = refl; type = e; other = refl; quiet = refl }, refl)))

source_aborted : (d : Data) (m : Mover) → d.address ≡ tcp_address → (d.state ≡ data_idle → ⊥) → (d.state ≡ data_halted → ⊥)
    → data_abort d m ≡ accept Plain (record { source = data_halts data_aborted_reason d; mover = m; dwhy = data_aborted_reason; mwhy = 0 })
unfolding data_abort data_aborted at_rest judge choose
source_aborted d m e i h = rw (ne_eqb d.state data_idle i, ne_eqb d.state data_halted h, source_alone_lem d e) refl

mover_aborted_lem : (d : Data) (m : Mover) → m.address ≡ tcp_address → (m.state ≡ mover_idle → ⊥) → (m.state ≡ mover_halted → ⊥)
    → mover_abort d m ≡ accept Plain (record { source = d; mover = mover_halts mover_aborted_reason m; dwhy = 0; mwhy = mover_aborted_reason })
unfolding mover_abort mover_aborted at_rest judge choose
mover_aborted_lem d m e i h = rw (ne_eqb m.state mover_idle i, ne_eqb m.state mover_halted h, mover_alone_lem m e) refl

mover_closed_lem : (d : Data) (m : Mover) → m.address ≡ tcp_address → m.state ≡ mover_paused
    → mover_close d m ≡ accept Plain (record { source = d; mover = mover_halts mover_connect_closed m; dwhy = 0; mwhy = mover_connect_closed })
unfolding mover_close mover_closed judge choose
mover_closed_lem d m e s = rw (eq-eqb m.state mover_paused s, mover_alone_lem m e) refl

halts : TcpHalts
halts =
    record {
      source_aborts = source_aborts;
      mover_aborts = mover_aborts;
      mover_closes = mover_closes;
      source_aborted = source_aborted;
      mover_aborted_lem = mover_aborted_lem;
      mover_closed_lem = mover_closed_lem;
    }

pub tcp_rules : TcpRules
tcp_rules = record { connects = connects; listens = listens; halts = halts }
