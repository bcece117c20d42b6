-- The rules of the environment and of its store (02 No. 3). Assumes nothing.
use Prim.Native.Nat.{ℕ}
use mathlib.Core.Bool.{Bool, true, false, not}
use mathlib.Core.List.{List, [], ◌∷◌, ◌++◌, append-nil}
use mathlib.Core.Path.{◌≡◌, refl, sym, ◌∙◌, ap}
use native.Mathlib.Omega.{arith}
use lib.Dec.{eqb, ltb}
use lib.ListN.{length}
use Rattle.codes.specs.Codes.{store_length}
use Rattle.xdr.specs.Choose.{choose}
use Rattle.changer_elements.specs.Slots.{in_drive}
use Rattle.xdr.specs.Xdr.{be32, be32s, same_bytes}
use Rattle.xdr.proofs.Tests.{no, ne_not, eq_not, no_not, yes_not, eqb_yes, eqb_no, is, yes, by_test, by_both}
use Rattle.xdr.proofs.Comparing.{same_is, is_same}
use Rattle.wire_pairs.specs.Pairs.{pairs_from, pair_bytes}
use Rattle.wire_pairs.specs.Store.{fits, storing, emptied, is_laid, environment_of}
use Rattle.wire_frame.specs.Frame.{well_framed, kind_of, body_of, message_word, sequence_of}
use Rattle.wire_frame.specs.Messages.{look, row_of}
use Rattle.wire_layouts.specs.Layout.{read_fields}
use Rattle.wire_layouts.specs.Scans.{puts, summed, scanned}
use Rattle.wire_requests.specs.Bodies.{data_body, decoded}
use Rattle.wire_layouts.specs.declared.Text.{Text}
use Rattle.wire_requests.specs.Within.{bytes_at}
use Rattle.wire_requests.specs.declared.Pairs.{Pairs}
use Rattle.wire_requests.specs.declared.DataRequest.{DataRequest}
use Rattle.wire_requests.specs.declared.DataRequest.TheVariants as DataRequest
use Rattle.wire_requests.specs.declared.Request.{Request}
use Rattle.wire_requests.specs.declared.Request.TheVariants as Request
use Rattle.wire_replies.specs.declared.Reply.{Reply}
use Rattle.wire_replies.specs.declared.Reply.TheVariants as Reply
use Rattle.wire_replies.specs.declared.Notice.{Notice}
use Rattle.wire_replies.specs.Replies.{body_bytes, shape_of, reply_bytes, notice_bytes}
use Rattle.wire_replies.specs.Numbers.{body_in}
use Rattle.wire_replies.proofs.Laws.{opaques_texts}
use Rattle.wire_replies.proofs.Numbers.{body_sent, numbers_told}
use Rattle.rules_parts.specs.declared.types.Data.{Data}
use Rattle.rules_parts.specs.Names.{least_room}
use Rattle.rules_parts.specs.Parts.{after_message}
use Rattle.rules.specs.Judge.{test, Outcome, refuse, accept, judge, onto, Accepts, is_accepted}
use Rattle.rules.specs.TapeService.{tape_step, mover_part_step}
use Rattle.rules.specs.ScsiService.{scsi_step}
use Rattle.rules.specs.Joint.{joint_step}
use Rattle.rules.specs.Connection.{connect_step, config_step}
use Rattle.rules.specs.DataService.{dump, pairs_of, data_state, data_listen, data_start, has_run, data_environment, data_stop, data_step, variables_after, data_shown}
use Rattle.rules.specs.Environment.{dump_bytes, Starts, backup, recover, StartRules, Answering, active, halted, EnvironmentRules}
use Rattle.rules.specs.Relation.{keeps}
use Rattle.rules.specs.Answer.{Kept, Lent, held, Answered, Done, silent, replying, guarded, room_of, requested, refusing, is_unread, refused_in, answered, judged, is_close, settled, verdict, is_locked, needs_login, outcome, noticed, request_in}
use Rattle.rules.specs.Answer.{tape_part, with_data, with_part, with_tape, with_changer, with_login, with_ends}
use Rattle.rules.specs.Calls.{Heard}
use Rattle.rules.specs.Leaving.{Stored, unstored, started, stopped, Stores, EnvironmentAsked, SameTold}
use Rattle.rules.proofs.JudgeLaws.{judged_by, accepts, accepts_any, refusal_says, carried}
use Rattle.rules.proofs.Calls.{call_judged, heard}

-- ---- starts
unnamed : (l : List ℕ) → (l ≡ dump_bytes → ⊥) → same_bytes l dump ≡ false
unfolding dump
unnamed l n = sym (no (same_bytes l dump) (λ e. n (same_is l dump e)))

named : (l : List ℕ) → l ≡ dump_bytes → same_bytes l dump ≡ true
unfolding dump
named l e = rw e (is_same dump_bytes)

module _ (d : Data) (operation : ℕ) (name : List ℕ) (fitting : Bool) where
  abbrev judged_start : Outcome Data
  judged_start = data_start d operation (same_bytes name dump) fitting

  start_busy : (d.state ≡ 4 → ⊥) → judged_start ≡ refuse 19
  unfolding data_start judge choose
  start_busy n = rw (eqb_no n)

  start_unknown : d.state ≡ 4 → (name ≡ dump_bytes → ⊥) → judged_start ≡ refuse 9
  unfolding data_start judge choose
  start_unknown s n = rw (eqb_yes s, unnamed name n)

  start_large : d.state ≡ 4 → name ≡ dump_bytes → fitting ≡ false → judged_start ≡ refuse 22
  unfolding data_start judge choose
  start_large s n f = rw (eqb_yes s, named name n, f)

  start_fits : d.state ≡ 4 → name ≡ dump_bytes → fitting ≡ true → is_accepted judged_start ≡ true
  unfolding data_start judge is_accepted choose
  start_fits s n f = rw (eqb_yes s, named name n, f)

starts : (q : DataRequest) (method : Text) (place : Pairs) → Starts q method place → (d : Data) (body list variables : List ℕ)
    → StartRules q method place d body list variables
unfolding data_step variables_after
starts _ method place (backup _ _) d body list variables =
    let name = bytes_at body method in
    let f = fits (pairs_of body place) in
    record {
      busy = start_busy d 1 name f;
      unknown = start_unknown d 1 name f;
      large = start_large d 1 name f;
      fitting = start_fits d 1 name f;
      keeps_pairs = refl;
    }
starts _ method place (recover _ _) d body list variables =
    let name = bytes_at body method in
    let f = fits (pairs_of body place) in
    record {
      busy = start_busy d 2 name f;
      unknown = start_unknown d 2 name f;
      large = start_large d 2 name f;
      fitting = start_fits d 2 name f;
      keeps_pairs = refl;
    }

-- ---- 0x404
run_in : (d : Data) → Answering d → has_run d.state ≡ true
unfolding has_run choose
run_in d (active e) = rw (eqb_yes e)
run_in d (halted e) = by_test (λ (b : Bool). b ≡ true) (eqb d.state 1) _ _ (λ _. refl) (λ _. eqb_yes e)

not_run : (d : Data) → (Answering d → ⊥) → has_run d.state ≡ false
unfolding has_run choose
not_run d n = rw (has_run, eqb_no (λ e. n (active e)), eqb_no (λ e. n (halted e)))

early : (d : Data) (body list variables : List ℕ) → (Answering d → ⊥) → data_step d DataRequest.Environment body list variables ≡ refuse 19
unfolding data_step data_environment judge choose
early d body list variables n = rw (not_run d n)

unlaid : (d : Data) (body list variables : List ℕ) → Answering d → is_laid variables ≡ false → data_step d DataRequest.Environment body list variables ≡ refuse 7
unfolding data_step data_environment judge choose
unlaid d body list variables a e = rw (run_in d a, e)

given : (d : Data) (body list variables : List ℕ) → Answering d → is_laid variables ≡ true
    → data_step d DataRequest.Environment body list variables ≡ accept Reply.Environment d
unfolding data_step data_environment judge choose
given d body list variables a e = rw (run_in d a, e)

others : (d : Data) (q : DataRequest) (body list variables other : List ℕ) → (q ≡ DataRequest.Environment → ⊥)
    → data_step d q body list variables ≡ data_step d q body list other
unfolding data_step
others d DataRequest.State body list variables other n = refl
others d (DataRequest.Backup name ps) body list variables other n = refl
others d (DataRequest.Recover name ps) body list variables other n = refl
others d DataRequest.Environment body list variables other n = absurd (n refl)
others d DataRequest.Stop body list variables other n = refl
others d (DataRequest.Listen address) body list variables other n = refl

pub environment_rules : EnvironmentRules
unfolding variables_after
environment_rules =
    record {
      starts = starts;
      early = early;
      unlaid = unlaid;
      given = given;
      others = others;
      stops = λ body variables. refl;
      leaves = λ body variables address. (refl, refl, refl);
    }

-- ---- what changes the store
pub logged : (b : Bool) → choose b false true ≡ false → b ≡ true
unfolding choose
logged true h = refl
logged false h = absurd (let z : ◌≡◌ {A = ℕ} 0 1 = cc in omega arith)

module _ (k : Kept) (l : Lent) (r : List ℕ) where
  StoredBy : Request → Reply → Done → Type 0
  StoredBy q _ d = Stored k q (body_of r) d.kept.variables

  left : (q : Request) {A : Type 0} (put : A → Done) → ((p : A) → (put p).kept.variables ≡ k.variables) → (o : Outcome A) → Accepts (StoredBy q) (onto put o)
  unfolding StoredBy
  left q put f o = carried (StoredBy q) put o (accepts_any (λ reply p. StoredBy q reply (put p)) (λ _ p. unstored (f p)) o)

  data_stores : (q : DataRequest) → k.session.login.authorized ≡ true
      → Accepts (λ _ _. Stored k (Request.Data q) (body_of r) (variables_after q (body_of r) k.variables))
      (data_step k.session.source q (body_of r) l.addresses k.variables)
  unfolding data_step data_state data_start data_environment data_stop data_listen variables_after dump
  data_stores DataRequest.State a = accepts _ _ _ _ (λ _. unstored refl)
  data_stores (DataRequest.Backup name ps) a =
      accepts _ _ _ _
      (λ g. started (DataRequest.Backup name ps) name ps (backup name ps) refl a (is (g 0)) (same_is _ _ (yes (g 1))) (yes (g 2)) refl)
  data_stores (DataRequest.Recover name ps) a =
      accepts _ _ _ _
      (λ g. started (DataRequest.Recover name ps) name ps (recover name ps) refl a (is (g 0)) (same_is _ _ (yes (g 1))) (yes (g 2)) refl)
  data_stores DataRequest.Environment a = accepts _ _ _ _ (λ _. unstored refl)
  data_stores DataRequest.Stop a = accepts _ _ _ _ (λ g. stopped refl a (is (g 0)) refl)
  data_stores (DataRequest.Listen address) a = accepts _ _ _ _ (λ _. unstored refl)

  outcome_stores : (q : Request) → is_locked k.session.login q ≡ false → Accepts (StoredBy q) (outcome k l r q)
  unfolding is_locked needs_login outcome tape_step mover_part_step StoredBy
  outcome_stores Request.Unknown h = refusal_says (StoredBy Request.Unknown) _
  outcome_stores Request.Bad h = refusal_says (StoredBy Request.Bad) _
  outcome_stores (Request.Connect q) h = left (Request.Connect q) (with_login k _) (λ _. refl) _
  outcome_stores (Request.Config q) h = left (Request.Config q) (with_login k _) (λ _. refl) _
  outcome_stores (Request.Scsi q) h = left (Request.Scsi q) (with_changer k _) (λ _. refl) _
  outcome_stores (Request.Tape q) h = left (Request.Tape q) (with_tape k) (λ _. refl) _
  outcome_stores (Request.Data q) h = carried (StoredBy (Request.Data q)) (with_data k q _ _) _ (data_stores q (logged _ h))
  outcome_stores (Request.Mover q) h = left (Request.Mover q) (with_part k _) (λ _. refl) _
  outcome_stores (Request.Joint q) h = left (Request.Joint q) (with_ends k) (λ _. refl) _

  pub stored : Stored k (request_in r) (body_of r) (answered k l r).next.variables
  unfolding verdict StoredBy
  stored =
      call_judged (λ (x : Kept). Stored k (request_in r) (body_of r) x.variables) (λ x _ h. h) (λ x h. h) k l r (unstored refl)
      (judged_by (StoredBy (request_in r)) _ _ (λ g. outcome_stores (request_in r) (g 0)))

-- ---- an accepted request of the data interface: what it leaves, and what is sent
module _ (k : Kept) (l : Lent) (r : List ℕ) (q : DataRequest) where
  abbrev stepped : Outcome Data
  stepped = data_step k.session.source q (body_of r) l.addresses k.variables

  pub verdict_known : k.session.login.authorized ≡ true → verdict k l r (Request.Data q) ≡ outcome k l r (Request.Data q)
  unfolding verdict is_locked judge needs_login choose
  verdict_known h = rw (verdict, is_locked, h)

  pub record Next (reply : Reply) (d : Data) : Type 0 where
    pub variables : (answered k l r).next.variables ≡ variables_after q (body_of r) k.variables
    pub source : (answered k l r).next.session.source ≡ d
    pub sent : (answered k l r).reply
        ≡ reply_bytes k.session.sequence l.time (message_word r) (sequence_of r) reply (data_shown q l.addresses k.variables)

  pub next_is : Heard k l r → request_in r ≡ Request.Data q → k.session.login.authorized ≡ true → (reply : Reply) (d : Data) → stepped ≡ accept reply d
      → Next reply d
  unfolding judged is_close outcome settled onto noticed choose
  next_is h e z reply d x =
      let a : answered k l r ≡ settled k l.time r (Request.Data q) (onto (with_data k q (body_of r) l.addresses) (accept reply d)) =
      heard k l r h ∙ rw (e, judged, verdict_known z, x) in
      record { variables = rw a refl; source = rw a refl; sent = rw a refl }

  pub refused_is : Heard k l r → request_in r ≡ Request.Data q → k.session.login.authorized ≡ true → (e : ℕ) → stepped ≡ refuse e
      → (answered k l r).reply ≡ reply_bytes k.session.sequence l.time (message_word r) (sequence_of r) (refused_in r e) []
  unfolding judged is_close outcome settled onto refusing is_unread choose
  refused_is h f z e x =
      let a : answered k l r ≡ settled k l.time r (Request.Data q) (refuse e) = heard k l r h ∙ rw (f, judged, verdict_known z, x) in
      rw a refl

accepted_is : {A : Type 0} (o : Outcome A) → is_accepted o ≡ true → {B : Type 0} → ((reply : Reply) (d : A) → o ≡ accept reply d → B) → B
unfolding is_accepted
accepted_is (refuse e) h f = absurd (let z : ◌≡◌ {A = ℕ} 0 1 = cc in omega arith)
accepted_is (accept reply d) h f = f reply d refl

does : (k : Kept) (l : Lent) (r : List ℕ) (q : DataRequest) → Heard k l r → k.session.login.authorized ≡ true → request_in r ≡ Request.Data q
    → is_accepted (data_step k.session.source q (body_of r) l.addresses k.variables) ≡ true
    → (answered k l r).next.variables ≡ variables_after q (body_of r) k.variables
does k l r q h z e a = accepted_is _ a (λ reply d x. (next_is k l r q h e z reply d x).variables)

stop_accepted : (d : Data) (body list variables : List ℕ) → d.state ≡ 2 → is_accepted (data_step d DataRequest.Stop body list variables) ≡ true
unfolding data_step data_stop judge is_accepted choose
stop_accepted d body list variables s = rw (eqb_yes s)

pub stores : Stores
unfolding variables_after
stores =
    record {
      start = λ k l r p method place s h e a c n f.
          let rules = starts p method place s k.session.source (body_of r) l.addresses k.variables in
          does k l r p h a e (rules.fitting c n f) ∙ rules.keeps_pairs;
      stop = λ k l r h e a s. does k l r DataRequest.Stop h a e (stop_accepted k.session.source (body_of r) l.addresses k.variables s);
    }

-- ---- 0x404, by its bytes
asked_is : (r : List ℕ) → message_word r ≡ 0x404 → length (body_of r) ≡ 0 → request_in r ≡ Request.Data DataRequest.Environment
unfolding decoded data_body row_of look scanned read_fields summed puts choose
asked_is r m b = rw (m, b)

pub environment_body : (s t m c : ℕ) (store : List ℕ)
    → body_in (reply_bytes s t m c Reply.Environment store) ≡ be32 0 ++ (be32 (length (environment_of store)) ++ pair_bytes (environment_of store))
unfolding reply_bytes shape_of body_bytes be32s be32
environment_body s t m c store =
    let ps = environment_of store in
    body_sent s t m c _ _ ∙ ap (λ (x : List ℕ). be32 0 ++ (be32 (length ps) ++ x)) (append-nil _ ∙ opaques_texts ps)

refused_body : (s t c e : ℕ) (r : List ℕ) → message_word r ≡ 0x404 → body_in (reply_bytes s t (message_word r) c (refused_in r e) []) ≡ be32 e ++ be32 0
unfolding row_of look choose be32
refused_body s t c e r m =
    let told = numbers_told.refused s t (message_word r) c (row_of (message_word r)).before e (row_of (message_word r)).after [] in
    told ∙ rw m refl

pub environment_asked : (k : Kept) (l : Lent) (r : List ℕ) → Heard k l r → message_word r ≡ 0x404 → length (body_of r) ≡ 0
    → k.session.login.authorized ≡ true → EnvironmentAsked k l r
unfolding data_shown
environment_asked k l r h m b z =
    let d = k.session.source in
    let v = k.variables in
    let q = asked_is r m b in
    let refused : (e : ℕ) → data_step d DataRequest.Environment (body_of r) l.addresses v ≡ refuse e → body_in (answered k l r).reply ≡ be32 e ++ be32 0 =
    λ e x. ap body_in (refused_is k l r DataRequest.Environment h q z e x) ∙ refused_body k.session.sequence l.time (sequence_of r) e r m in
    record {
      early = λ n. refused 19 (early d (body_of r) l.addresses v n);
      unlaid = λ a e. refused 7 (unlaid d (body_of r) l.addresses v a e);
      given = λ a e. (let n = next_is k l r DataRequest.Environment h q z Reply.Environment d (given d (body_of r) l.addresses v a e) in
          ap body_in n.sent ∙ environment_body k.session.sequence l.time (message_word r) (sequence_of r) v);
    }

-- ---- no other request looks at the store
noticed_same : (time why : ℕ) (n : Notice) (a b : Answered) → SameTold a b → SameTold (noticed time why n a) (noticed time why n b)
unfolding noticed
noticed_same time why n a b u =
    by_both SameTold (eqb why 0) _ _ _ _ (λ _. u)
    (λ _. record {
      code = u.code;
      reply = u.reply;
      notices = λ i. u.notices i ++ notice_bytes (u.session i).sequence time n;
      session = λ i. after_message (u.session i) (u.session i).first;
      image = u.image;
    })

module _ (k : Kept) (other : List ℕ) where
  abbrev there : Kept
  there = held k.session k.image other

  -- what an accepted request comes to on both
  record SameDone (d e : Done) : Type 0 where
    session : d.kept.session ≡ e.kept.session
    image : d.kept.image ≡ e.kept.image
    shown : d.shown ≡ e.shown
    dwhy : d.dwhy ≡ e.dwhy
    mwhy : d.mwhy ≡ e.mwhy

  replies_same : (r : List ℕ) (time : ℕ) (reply : Reply) (d e : Done) → SameDone d e
      → SameTold (replying r time reply d.shown d.kept) (replying r time reply e.shown e.kept)
  replies_same r time reply d e u =
      record {
        code = refl;
        reply = λ i. reply_bytes (u.session i).sequence time (message_word r) (sequence_of r) reply (u.shown i);
        notices = refl;
        session = λ i. after_message (u.session i) false;
        image = u.image;
      }

  settled_same : (time : ℕ) (r : List ℕ) (q : Request) {A : Type 0} (put put' : A → Done) → ((p : A) → SameDone (put p) (put' p)) → (b : Bool) (o : Outcome A)
      → SameTold (settled k time r q (judge (test b 4 ∷ []) (onto put o))) (settled there time r q (judge (test b 4 ∷ []) (onto put' o)))
  unfolding settled judge onto choose
  settled_same time r q put put' f true o = record { code = refl; reply = refl; notices = refl; session = refl; image = refl }
  settled_same time r q put put' f false (refuse e) = record { code = refl; reply = refl; notices = refl; session = refl; image = refl }
  settled_same time r q put put' f false (accept reply p) =
      let u = f p in
      rw (← u.dwhy, ← u.mwhy)
      (noticed_same time (put p).mwhy _ _ _ (noticed_same time (put p).dwhy _ _ _ (replies_same r time reply (put p) (put' p) u)))

  shows_alike : (q : DataRequest) (list : List ℕ) → (q ≡ DataRequest.Environment → ⊥) → data_shown q list k.variables ≡ data_shown q list other
  unfolding data_shown
  shows_alike DataRequest.State list n = refl
  shows_alike (DataRequest.Backup name ps) list n = refl
  shows_alike (DataRequest.Recover name ps) list n = refl
  shows_alike DataRequest.Environment list n = absurd (n refl)
  shows_alike DataRequest.Stop list n = refl
  shows_alike (DataRequest.Listen address) list n = refl

  module _ (l : Lent) (r : List ℕ) where
    Alike : Request → Type 0
    Alike q = SameTold (settled k l.time r q (verdict k l r q)) (settled there l.time r q (verdict there l r q))

    data_same : (q : DataRequest) → (q ≡ DataRequest.Environment → ⊥) → Alike (Request.Data q)
    unfolding Alike verdict outcome
    data_same q n =
        rw (others k.session.source q (body_of r) l.addresses k.variables other n)
        (settled_same l.time r (Request.Data q) (with_data k q (body_of r) l.addresses) (with_data there q (body_of r) l.addresses)
        (λ p. record { session = refl; image = refl; shown = shows_alike q l.addresses n; dwhy = refl; mwhy = refl }) _ _)

    request_same : (q : Request) → (q ≡ Request.Data DataRequest.Environment → ⊥) → Alike q
    unfolding Alike verdict outcome onto
    request_same Request.Unknown n =
        settled_same l.time r Request.Unknown (with_login k []) (with_login there []) (λ p. record { session = refl; image = refl; shown = refl; dwhy = refl; mwhy = refl }) _ (refuse 1)
    request_same Request.Bad n =
        settled_same l.time r Request.Bad (with_login k []) (with_login there []) (λ p. record { session = refl; image = refl; shown = refl; dwhy = refl; mwhy = refl }) _ (refuse 18)
    request_same (Request.Connect q) n =
        settled_same l.time r (Request.Connect q) (with_login k []) (with_login there []) (λ p. record { session = refl; image = refl; shown = refl; dwhy = refl; mwhy = refl }) _
        (connect_step k.session.first k.session.login l.accounts q (body_of r))
    request_same (Request.Config q) n =
        settled_same l.time r (Request.Config q) (with_login k l.challenge) (with_login there l.challenge) (λ p. record { session = refl; image = refl; shown = refl; dwhy = refl; mwhy = refl }) _
        (config_step k.session.login l.challenge q)
    request_same (Request.Scsi q) n =
        settled_same l.time r (Request.Scsi q) (with_changer k _) (with_changer there _) (λ p. record { session = refl; image = refl; shown = refl; dwhy = refl; mwhy = refl }) _
        (scsi_step k.session.tape.opened k.session.changer q (body_of r))
    request_same (Request.Tape q) n =
        settled_same l.time r (Request.Tape q) (with_tape k) (with_tape there) (λ p. record { session = refl; image = refl; shown = refl; dwhy = refl; mwhy = refl }) _
        (tape_step (in_drive k.session.changer.slots) (tape_part k) q (body_of r))
    request_same (Request.Mover q) n =
        settled_same l.time r (Request.Mover q) (with_part k l.addresses) (with_part there l.addresses) (λ p. record { session = refl; image = refl; shown = refl; dwhy = refl; mwhy = refl }) _
        (mover_part_step (tape_part k) q l.addresses)
    request_same (Request.Joint q) n =
        settled_same l.time r (Request.Joint q) (with_ends k) (with_ends there) (λ p. record { session = refl; image = refl; shown = refl; dwhy = refl; mwhy = refl }) _
        (joint_step k.session.source k.session.mover k.session.tape q l.made)
    request_same (Request.Data q) n = data_same q (λ e. n (ap Request.Data e))

    judged_same : (q : Request) → (q ≡ Request.Data DataRequest.Environment → ⊥) → SameTold (judged k l r q) (judged there l r q)
    unfolding judged Alike
    judged_same q n =
        by_both SameTold (is_close q) _ _ _ _ (λ _. record { code = refl; reply = refl; notices = refl; session = refl; image = refl }) (λ _. request_same q n)

    silent_same : (code : ℕ) → SameTold (silent code k) (silent code there)
    silent_same code = record { code = refl; reply = refl; notices = refl; session = refl; image = refl }

    pub unseen : length other ≡ length k.variables → (request_in r ≡ Request.Data DataRequest.Environment → ⊥) → SameTold (answered k l r) (answered there l r)
    unfolding answered guarded room_of requested
    unseen e n =
        rw e
        (by_both SameTold (ltb (choose (eqb (length k.variables) store_length) l.room 0) least_room) _ _ _ _ (λ _. silent_same _)
        (λ _. by_both SameTold (not (keeps k.session)) _ _ _ _ (λ _. silent_same _)
        (λ _. by_both SameTold k.session.closed _ _ _ _ (λ _. silent_same _)
        (λ _. by_both SameTold (well_framed r) _ _ _ _
        (λ _. by_both SameTold (not (eqb (kind_of r) 0)) _ _ _ _ (λ _. silent_same _) (λ _. judged_same (request_in r) n))
        (λ _. record { code = refl; reply = refl; notices = refl; session = refl; image = refl })))))
