-- Every accepted request keeps the relation: one law for each service, and one for the joint requests. Assumes nothing.
use Prim.Native.Nat.{ℕ, ◌+◌, ◌%◌, ◌≤◌}
use mathlib.Core.Bool.{Bool, true, false, not}
use mathlib.Core.List.{List}
use mathlib.Core.Path.{◌≡◌, refl, sym, ap, ◌∙◌}
use native.Mathlib.Omega.{arith}
use lib.Dec.{eqb}
use borrow.Author.Tests.{eq-eqb, ne_eqb, le-ltb, ltb-false, eqb-true}
use Rattle.xdr.specs.Choose.{choose}
use Rattle.xdr.proofs.Tests.{by_test, when, unless, none_of, none, is, isnt, yes}
use Rattle.wire_requests.specs.declared.DataRequest.{DataRequest}
use Rattle.wire_requests.specs.declared.DataRequest.TheVariants as DataRequest
use Rattle.wire_requests.specs.declared.MoverRequest.{MoverRequest}
use Rattle.wire_requests.specs.declared.MoverRequest.TheVariants as MoverRequest
use Rattle.wire_requests.specs.declared.TapeRequest.{TapeRequest}
use Rattle.wire_requests.specs.declared.TapeRequest.TheVariants as TapeRequest
use Rattle.wire_requests.specs.declared.JointRequest.{JointRequest}
use Rattle.wire_requests.specs.declared.JointRequest.TheVariants as JointRequest
use Rattle.wire_replies.specs.declared.Reply.{Reply}
use Rattle.rules_parts.specs.declared.types.Data.{Data}
use Rattle.rules_parts.specs.declared.types.Mover.{Mover}
use Rattle.rules_parts.specs.declared.types.Tape.{Tape}
use Rattle.rules_parts.specs.Names.{top}
use Rattle.rules.specs.Judge.{Test, accept, judge, Accepts}
use Rattle.rules_parts.specs.Parts.{rest_data, rest_mover, data_to, data_starts, data_halts, mover_listens, mover_runs, mover_window, mover_size, mover_seeks, mover_halts, address_wrong, data_partnered, mover_partnered, data_joined, mover_joined}
use Rattle.rules_parts.specs.Parts.{holds_tape, unwritable}
use Rattle.rules.specs.DataService.{data_state, data_listen, data_start, data_environment, data_stop, data_step}
use Rattle.rules.specs.MoverService.{mover_state, offset_wrong, mover_listen, mover_continue, mover_stop, busy, elsewhere, set_window, mover_read, set_size, mover_step}
use Rattle.rules.specs.TapeService.{Loaded, tape_open, tape_close, tape_state, tape_mtio, tape_write, tape_read, device_step, TapePart, with_loaded, with_mover, tape_step, mover_part_step}
use Rattle.rules.specs.declared.Ends.{Ends}
use Rattle.rules.specs.Addresses.{unmet}
use Rattle.rules.specs.Joint.{joined, source_joined, mover_joins, halted, source_alone, mover_alone, mover_awaits, data_connect, mover_connect, data_aborted, data_abort, mover_aborted}
use Rattle.rules.specs.Joint.{mover_abort, mover_closed, mover_close, joint_step}
use Rattle.rules.specs.Relation.{data_wrong, mover_wrong, same_flag, Legal, InWindow, MoverKept}
use Rattle.rules.specs.Promises.{Keeps, JointKeeps, data_side, part_wrong, part_side}
use Rattle.rules.proofs.JudgeLaws.{Clear, accepts, carried}
use Rattle.rules_parts.proofs.Ending.{past_top}
use Rattle.rules_parts.proofs.Addressing.{local_right, tcp_right, right_busy, source_none, mover_none, source_same, mover_same}
use Rattle.rules.proofs.Kept.{mover_kept, kept_mover, legal_by, writes}

module _ {A : Type 0} (wrong side : A → Bool) (p : A) where
  pub stays : Keeps wrong side p p
  stays = record { good = λ h. h; sides = refl }

-- ---- the data end
abbrev DataKeeps : Data → Reply → Data → Type 0
DataKeeps d _ next = Keeps data_wrong data_side d next

-- a change of state, or of the type of the address
data_moves : (d next : Data) → (data_wrong d ≡ false → (next.state ≤ 4) × (address_wrong next.address (eqb next.state 0) ≡ false))
    → data_partnered next ≡ data_partnered d → Keeps data_wrong data_side d next
unfolding data_wrong
data_moves d next f j = record { good = λ h. let g = f h in none (le-ltb 4 next.state g.0) g.1; sides = j }

-- the type of an end that is in no state but IDLE where it was right before
data_type : (d : Data) → data_wrong d ≡ false → address_wrong d.address false ≡ false
unfolding data_wrong
data_type d h = right_busy d.address _ (none_of _ h).1

-- neither is joined, or both as they were
unjoined : (d next : Data) (k : ℕ) → d.state ≡ k → data_joined k ≡ false → data_joined next.state ≡ false → data_partnered next ≡ data_partnered d
unjoined d next k e j f = source_none next f ∙ sym (source_none d (ap data_joined e ∙ j))

started : (operation : ℕ) (d : Data) → d.state ≡ 4 → Keeps data_wrong data_side d (data_starts operation d)
unfolding data_joined choose
started operation d e =
    data_moves d (data_starts operation d) (λ h. (omega arith, data_type d h)) (source_same d (data_starts operation d) refl (ap data_joined (sym e)))

pub data_keeps : (d : Data) (q : DataRequest) (body list variables : List ℕ) → Accepts (DataKeeps d) (data_step d q body list variables)
unfolding data_step data_state data_listen data_start data_environment data_stop data_joined choose
data_keeps d DataRequest.State body list variables = accepts (DataKeeps d) _ _ d (λ _. stays data_wrong data_side d)
data_keeps d (DataRequest.Backup name ps) body list variables = accepts (DataKeeps d) _ _ (data_starts 1 d) (λ g. started 1 d (is (g 0)))
data_keeps d (DataRequest.Recover name ps) body list variables = accepts (DataKeeps d) _ _ (data_starts 2 d) (λ g. started 2 d (is (g 0)))
data_keeps d DataRequest.Environment body list variables = accepts (DataKeeps d) _ _ d (λ _. stays data_wrong data_side d)
data_keeps d DataRequest.Stop body list variables =
    accepts (DataKeeps d) _ _ rest_data (λ g. data_moves d rest_data (λ _. (omega arith, local_right true)) (unjoined d rest_data 2 (is (g 0)) refl refl))
data_keeps d (DataRequest.Listen address) body list variables =
    accepts (DataKeeps d) _ _ (data_to 3 address d)
    (λ g. data_moves d (data_to 3 address d) (λ _. (omega arith, right_busy address _ (g 1))) (unjoined d (data_to 3 address d) 0 (is (g 0)) refl refl))

-- ---- the mover and the tape
abbrev pub PartKeeps : TapePart → TapePart → Type 0
PartKeeps p next = Keeps part_wrong part_side p next

-- by the facts
by_facts : (p next : TapePart) → (MoverKept p.mover p.tape → MoverKept next.mover next.tape) → mover_partnered next.mover ≡ mover_partnered p.mover
    → PartKeeps p next
by_facts p next f s = record { good = λ h. kept_mover next.mover next.tape (f (mover_kept p.mover p.tape h)); sides = s }

pub clash : {A : Type 0} (b : Bool) → b ≡ false → b ≡ true → A
clash b h e = absurd (let z : ◌≡◌ {A = ℕ} 0 1 = cc in omega arith)

pub active_holds : (state : ℕ) → state ≡ 2 → holds_tape state ≡ true
unfolding holds_tape choose
active_holds state e = rw e refl

-- the tape or the position may change while the mover does not hold the tape
tape_free : (m : Mover) (t u : Tape) → (holds_tape m.state ≡ true → ⊥) → MoverKept m t → MoverKept m u
tape_free m t u free k =
    record {
      states = k.states;
      sizes = k.sizes;
      types = k.types;
      seeks = k.seeks;
      window = k.window;
      start = k.start;
      hold = λ e. absurd (free e);
      listens = k.listens;
      runs = k.runs;
      resumes = k.resumes;
      origins = λ e. absurd (free (active_holds m.state e));
    }

pub listen_holds : (state : ℕ) → state ≡ 1 → holds_tape state ≡ true
unfolding holds_tape choose
listen_holds state e = rw e refl

none_holds : (state : ℕ) → (state ≡ 1 → ⊥) → (state ≡ 2 → ⊥) → holds_tape state ≡ false
unfolding holds_tape choose
none_holds state a b = rw (ne_eqb state 1 a) (ne_eqb state 2 b)

offset_zero : (mode offset : ℕ) → offset_wrong mode offset ≡ false → mode ≡ 0 → offset ≡ 0
unfolding offset_wrong
offset_zero mode offset h e = is (when (eqb mode 0) _ h (eq-eqb mode 0 e))

-- IDLE to LISTEN
listen_kept : (m : Mover) (t : Tape) (mode address : ℕ) (useless : Bool) → address_wrong address useless ≡ false → m.state ≡ 0 → t.opened ≡ true → unwritable mode t.writable ≡ false → (m.length ≡ 0 → ⊥)
    → offset_wrong mode m.offset ≡ false → MoverKept m t → MoverKept (mover_listens mode address m) t
listen_kept m t mode address useless a s o w n z k =
    record {
      states = omega arith;
      sizes = k.sizes;
      types = right_busy address useless a;
      seeks = k.seeks;
      window = k.window;
      start = λ _. k.start (omega arith);
      hold = λ _. record { window = n; opened = o; writes = writes mode t.writable w };
      listens = λ e _. offset_zero mode m.offset z e;
      runs = λ _ e. absurd (omega arith);
      resumes = λ _ e. absurd (omega arith);
      origins = λ e. absurd (omega arith);
    }

-- at the window's start
at_start : (size offset length moved : ℕ) → offset ≡ moved → Legal size offset length → InWindow size offset length moved
at_start size offset length moved e l =
    let r : moved % size ≡ 0 = rw e at l.offsets in
    let s = l.starts in
    record { some = l.some; from = omega arith; to = omega arith; records = r }

-- to ACTIVE
pub runs_kept : (m : Mover) (t : Tape) (mode address : ℕ) → address_wrong address false ≡ false → t.opened ≡ true → (mode ≡ 0 → t.writable ≡ true) → (m.length ≡ 0 → ⊥)
    → (mode ≡ 0 → m.offset ≡ m.moved) → MoverKept m t → MoverKept (mover_runs mode address t.position m) t
runs_kept m t mode address a o w n z k =
    record {
      states = omega arith;
      sizes = k.sizes;
      types = a;
      seeks = k.seeks;
      window = k.window;
      start = λ e. absurd (omega arith);
      hold = λ _. record { window = n; opened = o; writes = w };
      listens = λ _ e. absurd (omega arith);
      runs = λ e _. at_start m.size m.offset m.length m.moved (z e) (k.window n);
      resumes = λ _ e. absurd (omega arith);
      origins = λ _. omega arith;
    }

-- a mover at a state that holds no tape and is not LISTEN, ACTIVE or PAUSED, with a legal window or none
pub halts_kept : (m : Mover) (t : Tape) (why : ℕ) → MoverKept m t → MoverKept (mover_halts why m) t
unfolding holds_tape choose
halts_kept m t why k =
    record {
      states = omega arith;
      sizes = k.sizes;
      types = right_busy m.address _ k.types;
      seeks = k.seeks;
      window = k.window;
      start = λ e. absurd (omega arith);
      hold = λ e. clash false refl e;
      listens = λ _ e. absurd (omega arith);
      runs = λ _ e. absurd (omega arith);
      resumes = λ _ e. absurd (omega arith);
      origins = λ e. absurd (omega arith);
    }

pub rest_kept : (size : ℕ) (t : Tape) → size ≤ 32768 → MoverKept (rest_mover size) t
unfolding holds_tape choose
rest_kept size t h =
    record {
      states = omega arith;
      sizes = h;
      types = local_right true;
      seeks = omega arith;
      window = λ n. absurd (n refl);
      start = λ _. refl;
      hold = λ e. clash false refl e;
      listens = λ e _. absurd (omega arith);
      runs = λ e _. absurd (omega arith);
      resumes = λ e _. absurd (omega arith);
      origins = λ e. absurd (omega arith);
    }

-- neither LISTEN nor ACTIVE where a window may be set
not_busy : (state k : ℕ) → busy state ≡ false → state ≡ k → busy k ≡ false
not_busy state k h e = rw e at h

window_kept : (m : Mover) (t : Tape) (offset length : ℕ) → busy m.state ≡ false → (holds_tape m.state ≡ true → ⊥) → Legal m.size offset length
    → elsewhere m.state m.mode m.moved offset ≡ false → MoverKept m t → MoverKept (mover_window offset length m) t
unfolding busy elsewhere choose
window_kept m t offset length b free l z k =
    record {
      states = k.states;
      sizes = k.sizes;
      types = k.types;
      seeks = k.seeks;
      window = λ _. l;
      start = k.start;
      hold = λ e. absurd (free e);
      listens = λ _ e. absurd (free (listen_holds m.state e));
      runs = λ _ e. absurd (free (active_holds m.state e));
      resumes = λ e s _. is (rw (eq-eqb m.state 3 s, eq-eqb m.mode 0 e) at z);
      origins = λ e. absurd (free (active_holds m.state e));
    }

pub size_kept : (m : Mover) (t : Tape) (size : ℕ) → m.state ≡ 0 → (holds_tape m.state ≡ true → ⊥) → size ≤ 32768 → MoverKept m t → MoverKept (mover_size size m) t
size_kept m t size s free h k =
    record {
      states = k.states;
      sizes = h;
      types = k.types;
      seeks = k.seeks;
      window = λ n. absurd (n refl);
      start = k.start;
      hold = λ e. absurd (free e);
      listens = λ _ e. absurd (omega arith);
      runs = λ _ e. absurd (omega arith);
      resumes = λ _ e. absurd (omega arith);
      origins = λ e. absurd (omega arith);
    }

seek_kept : (m : Mover) (t : Tape) (seek left : ℕ) → seek + left ≤ top → MoverKept m t → MoverKept (mover_seeks seek left m) t
seek_kept m t seek left h k =
    record {
      states = k.states;
      sizes = k.sizes;
      types = k.types;
      seeks = h;
      window = k.window;
      start = k.start;
      hold = λ e. let g = k.hold e in record { window = g.window; opened = g.opened; writes = g.writes };
      listens = k.listens;
      runs = k.runs;
      resumes = k.resumes;
      origins = k.origins;
    }

-- free of the tape: IDLE, and where a window may be set
pub idle_free : (state : ℕ) → state ≡ 0 → holds_tape state ≡ true → ⊥
unfolding holds_tape choose
idle_free state e h = clash false refl (rw e at h)

module _ (state : ℕ) (h : busy state ≡ false) where
  not_listening : state ≡ 1 → ⊥
  unfolding busy choose
  not_listening e = clash true (not_busy state 1 h e) refl

  not_active : state ≡ 2 → ⊥
  unfolding busy choose
  not_active e = clash true (not_busy state 2 h e) refl

  busy_free : holds_tape state ≡ true → ⊥
  unfolding holds_tape
  busy_free e =
      let z : holds_tape state ≡ false = none_holds state not_listening not_active in
      clash (holds_tape state) z e

-- ---- the mover's requests
module _ (m : Mover) (t : Tape) (l : List ℕ) where
  there : Mover → TapePart
  there n = record { mover = n; tape = t; image = l }

  MoverKeeps : Reply → Mover → Type 0
  MoverKeeps _ n = PartKeeps (there m) (there n)

  -- a request of the mover that is judged by tests
  mover_judged : (ts : List Test) (r : Reply) (next : Mover)
      → (Clear ts → MoverKept m t → MoverKept next t)
      → (Clear ts → mover_partnered next ≡ mover_partnered m)
      → Accepts MoverKeeps (judge ts (accept r next))
  unfolding there MoverKeeps
  mover_judged ts r next f s = accepts MoverKeeps ts r next (λ g. by_facts (there m) (there next) (f g) (s g))

  -- neither is joined
  apart : (next : Mover) (k : ℕ) → m.state ≡ k → mover_joined k ≡ false → mover_joined next.state ≡ false → mover_partnered next ≡ mover_partnered m
  apart next k e j f = mover_none next f ∙ sym (mover_none m (ap mover_joined e ∙ j))

  mover_keeps : (q : MoverRequest) (list : List ℕ) → Accepts MoverKeeps (mover_step m t q list)
  unfolding mover_step mover_state mover_listen mover_continue mover_stop set_window mover_read set_size mover_joined choose
  mover_keeps MoverRequest.State list = mover_judged _ _ m (λ _ k. k) (λ _. refl)
  mover_keeps (MoverRequest.Listen mode address) list =
      mover_judged _ _ (mover_listens mode address m)
      (λ g. listen_kept m t mode address _ (g 6) (is (g 1)) (yes (g 0)) (g 2) (isnt (g 4)) (g 5))
      (λ g. apart (mover_listens mode address m) 0 (is (g 1)) refl refl)
  mover_keeps MoverRequest.Continue list =
      mover_judged _ _ (mover_runs m.mode m.address t.position m)
      (λ g k. runs_kept m t m.mode m.address (right_busy m.address _ k.types) (yes (g 0)) (writes m.mode t.writable (g 2)) (isnt (g 3))
      (λ e. k.resumes e (is (g 1)) (isnt (g 3))) k)
      (λ g. let e : m.state ≡ 3 = is (g 1) in mover_same m (mover_runs m.mode m.address t.position m) refl (ap mover_joined (sym e)))
  mover_keeps MoverRequest.Stop list =
      mover_judged _ _ (rest_mover m.size) (λ _ k. rest_kept m.size t k.sizes) (λ g. apart (rest_mover m.size) 4 (is (g 0)) refl refl)
  mover_keeps (MoverRequest.Window offset length) list =
      mover_judged _ _ (mover_window offset length m)
      (λ g. let n : m.size ≡ 0 → ⊥ = isnt (g 1) in
      let s : 1 ≤ m.size = omega arith in
      window_kept m t offset length (g 0) (busy_free m.state (g 0))
      (legal_by m.size offset length s (is (g 3)) (g 4)) (g 5))
      (λ _. mover_same m (mover_window offset length m) refl refl)
  mover_keeps (MoverRequest.Read offset length) list =
      mover_judged _ _ (mover_seeks offset length m) (λ g. seek_kept m t offset length (past_top offset length (g 3)))
      (λ _. mover_same m (mover_seeks offset length m) refl refl)
  mover_keeps (MoverRequest.Size size) list =
      mover_judged _ _ (mover_size size m)
      (λ g. size_kept m t size (is (g 0)) (idle_free m.state (is (g 0))) (ltb-false 32768 size (g 2)))
      (λ _. mover_same m (mover_size size m) refl refl)

-- ---- the tape's requests
module _ (p : TapePart) where
  Reloads : Reply → Loaded → Type 0
  Reloads _ s = PartKeeps p (with_loaded p s)

  -- a request of the tape after which the mover is as it was
  loaded_keeps : (s : Loaded) → (holds_tape p.mover.state ≡ true → ⊥) → PartKeeps p (with_loaded p s)
  loaded_keeps s free = by_facts p (with_loaded p s) (tape_free p.mover p.tape s.tape free) refl

  -- while the mover holds the tape it is open
  open_free : p.tape.opened ≡ false → MoverKept p.mover p.tape → holds_tape p.mover.state ≡ true → ⊥
  open_free h k e = clash p.tape.opened h (k.hold e).opened

  opens_keeps : (s : Loaded) → p.tape.opened ≡ false → PartKeeps p (with_loaded p s)
  opens_keeps s h = by_facts p (with_loaded p s) (λ k. tape_free p.mover p.tape s.tape (open_free h k) k) refl

  busy_tape : holds_tape p.mover.state ≡ false → holds_tape p.mover.state ≡ true → ⊥
  busy_tape h e = clash (holds_tape p.mover.state) h e

  device_keeps : (drive : ℕ) (q : TapeRequest) (body : List ℕ) → Accepts Reloads (device_step drive p.mover.state p.tape p.image q body)
  unfolding device_step tape_open tape_close tape_state tape_mtio tape_write tape_read Reloads
  device_keeps drive (TapeRequest.Open name mode) body = accepts Reloads _ _ _ (λ g. opens_keeps _ (g 2))
  device_keeps drive TapeRequest.Close body = accepts Reloads _ _ _ (λ g. loaded_keeps _ (busy_tape (g 1)))
  device_keeps drive TapeRequest.State body = accepts Reloads _ _ _ (λ _. stays part_wrong part_side p)
  device_keeps drive (TapeRequest.Mtio op times) body = accepts Reloads _ _ _ (λ g. loaded_keeps _ (busy_tape (g 1)))
  device_keeps drive (TapeRequest.Write bytes) body = accepts Reloads _ _ _ (λ g. loaded_keeps _ (busy_tape (g 1)))
  device_keeps drive (TapeRequest.Read times) body = accepts Reloads _ _ _ (λ g. loaded_keeps _ (busy_tape (g 1)))

-- ---- the two interfaces of the service
pub tape_keeps : (drive : ℕ) (p : TapePart) (q : TapeRequest) (body : List ℕ) → Accepts (λ _ next. PartKeeps p next) (tape_step drive p q body)
unfolding tape_step Reloads
tape_keeps drive p q body = carried (λ _ next. PartKeeps p next) (with_loaded p) _ (device_keeps p drive q body)

pub mover_part_keeps : (p : TapePart) (q : MoverRequest) (list : List ℕ) → Accepts (λ _ next. PartKeeps p next) (mover_part_step p q list)
unfolding mover_part_step there MoverKeeps
mover_part_keeps p q list = carried (λ _ next. PartKeeps p next) (with_mover p) _ (mover_keeps p.mover p.tape p.image q list)

-- ---- the joint requests
pub not_joined : (a b : Bool) → same_flag a b ≡ true → a ≡ false → b ≡ false
unfolding same_flag
not_joined true b h e = absurd (let z : ◌≡◌ {A = ℕ} 0 1 = cc in omega arith)
not_joined false true h e = absurd (let z : ◌≡◌ {A = ℕ} 0 1 = cc in omega arith)
not_joined false false h e = refl

not_joined_back : (a b : Bool) → same_flag a b ≡ true → b ≡ false → a ≡ false
unfolding same_flag
not_joined_back true b h e = absurd (let z : ◌≡◌ {A = ℕ} 0 1 = cc in omega arith)
not_joined_back false b h e = refl

flag_none : (a : Bool) → a ≡ false → same_flag a false ≡ true
unfolding same_flag
flag_none a e = rw e refl

-- an end that awaits a connect is in LISTEN
awaits_by : (a b : Bool) → choose a b false ≡ true → b ≡ true
unfolding choose
awaits_by true b h = h
awaits_by false b h = absurd (let z : ◌≡◌ {A = ℕ} 0 1 = cc in omega arith)

pub mover_awaits_lem : (m : Mover) → mover_awaits m ≡ true → m.state ≡ 1
unfolding mover_awaits
mover_awaits_lem m h = eqb-true m.state 1 (awaits_by _ _ h)

-- a connect by LOCAL that is not refused with 23
pub met : (address : ℕ) (awaited made : Bool) → unmet address awaited made ≡ false → eqb address 1 ≡ false → awaited ≡ true
unfolding unmet
met address awaited made h e = yes (unless (eqb address 1) _ h e)

module _ (d : Data) (m : Mover) (t : Tape) (hd : data_wrong d ≡ false) (hm : mover_wrong m t ≡ false)
    (hj : same_flag (data_partnered d) (mover_partnered m) ≡ true) where
  abbrev EndsKeep : Reply → Ends → Type 0
  EndsKeep _ next = JointKeeps t next

  facts : MoverKept m t
  facts = mover_kept m t hm

  -- both ends joined by LOCAL
  connects : (mode : ℕ) → t.opened ≡ true → (mode ≡ 0 → t.writable ≡ true) → (m.length ≡ 0 → ⊥) → (mode ≡ 0 → m.offset ≡ m.moved)
      → JointKeeps t (joined d m mode t.position)
  unfolding data_wrong address_wrong data_partnered mover_partnered data_joined mover_joined same_flag choose
  connects mode o w n z =
      record {
        source = refl;
        mover = kept_mover (mover_runs mode 0 t.position m) t (runs_kept m t mode 0 (local_right false) o w n z facts);
        joined = refl;
      }

  -- one end joined by TCP, while it was in IDLE: the other is not joined by LOCAL either
  source_joins : d.state ≡ 0 → JointKeeps t (source_joined d m)
  unfolding data_wrong address_wrong data_partnered data_joined same_flag choose
  source_joins s =
      record {
        source = refl;
        mover = hm;
        joined = ap not (not_joined (data_partnered d) (mover_partnered m) hj (source_none d (ap data_joined s)));
      }

  mover_joins_lem : (mode : ℕ) → m.state ≡ 0 → t.opened ≡ true → (mode ≡ 0 → t.writable ≡ true) → (m.length ≡ 0 → ⊥) → (mode ≡ 0 → m.offset ≡ m.moved)
      → JointKeeps t (mover_joins d m mode t.position)
  unfolding mover_partnered mover_joined choose
  mover_joins_lem mode s o w n z =
      record {
        source = hd;
        mover = kept_mover (mover_runs mode 1 t.position m) t (runs_kept m t mode 1 (tcp_right false) o w n z facts);
        joined = flag_none (data_partnered d) (not_joined_back (data_partnered d) (mover_partnered m) hj (mover_none m (ap mover_joined s)));
      }

  -- an end that halts is not joined, and its type stays
  halted_source : (why : ℕ) → data_wrong (data_halts why d) ≡ false
  unfolding data_wrong
  halted_source why = none refl (data_type d hd)

  source_unjoined : (why : ℕ) → data_partnered (data_halts why d) ≡ false
  unfolding data_joined choose
  source_unjoined why = source_none (data_halts why d) refl

  mover_unjoined : (why : ℕ) → mover_partnered (mover_halts why m) ≡ false
  unfolding mover_joined choose
  mover_unjoined why = mover_none (mover_halts why m) refl

  -- both ends halted
  pub halt : (dwhy mwhy : ℕ) → JointKeeps t (halted dwhy mwhy d m)
  unfolding same_flag
  halt dwhy mwhy =
      record {
        source = halted_source dwhy;
        mover = kept_mover (mover_halts mwhy m) t (halts_kept m t mwhy facts);
        joined = rw (source_unjoined dwhy, mover_unjoined mwhy);
      }

  -- one end halted that had no partner
  pub halt_data : (why : ℕ) → data_partnered d ≡ false → JointKeeps t (source_alone why d m)
  unfolding same_flag
  halt_data why h =
      record {
        source = halted_source why;
        mover = hm;
        joined = rw (source_unjoined why, not_joined (data_partnered d) (mover_partnered m) hj h);
      }

  pub halt_mover : (why : ℕ) → mover_partnered m ≡ false → JointKeeps t (mover_alone why d m)
  halt_mover why h =
      record {
        source = hd;
        mover = kept_mover (mover_halts why m) t (halts_kept m t why facts);
        joined = rw (mover_unjoined why) (flag_none (data_partnered d) (not_joined_back (data_partnered d) (mover_partnered m) hj h));
      }

  pub joint_keeps : (q : JointRequest) (made : Bool) → Accepts EndsKeep (joint_step d m t q made)
  unfolding joint_step data_abort data_connect mover_abort mover_close mover_connect data_aborted mover_aborted mover_closed
  joint_keeps JointRequest.DataAbort made =
      accepts EndsKeep _ _ _ (λ _. by_test (JointKeeps t) (data_partnered d) _ _ (λ _. halt 2 1) (λ h. halt_data 2 h))
  joint_keeps (JointRequest.DataConnect address count) made =
      accepts EndsKeep _ _ _
      (λ g. by_test (JointKeeps t) (eqb address 1) _ _ (λ _. source_joins (is (g 0)))
      (λ e. let s : m.state ≡ 1 = mover_awaits_lem m (met address _ made (g 2) e) in let h = facts.hold (listen_holds m.state s) in
      connects m.mode h.opened h.writes h.window (λ e. facts.listens e s ∙ sym (facts.start (omega arith)))))
  joint_keeps JointRequest.MoverAbort made =
      accepts EndsKeep _ _ _ (λ _. by_test (JointKeeps t) (mover_partnered m) _ _ (λ _. halt 4 2) (λ h. halt_mover 2 h))
  joint_keeps JointRequest.MoverClose made =
      accepts EndsKeep _ _ _ (λ _. by_test (JointKeeps t) (mover_partnered m) _ _ (λ _. halt 4 1) (λ h. halt_mover 1 h))
  joint_keeps (JointRequest.MoverConnect mode address count) made =
      accepts EndsKeep _ _ _
      (λ g. let s : m.state ≡ 0 = is (g 1) in
      let w = writes mode t.writable (g 2) in
      let z : mode ≡ 0 → m.offset ≡ m.moved = λ e. offset_zero mode m.offset (g 5) e ∙ sym (facts.start (omega arith)) in
      by_test (JointKeeps t) (eqb address 1) _ _ (λ _. mover_joins_lem mode s (yes (g 0)) w (isnt (g 4)) z) (λ _. connects mode (yes (g 0)) w (isnt (g 4)) z))
