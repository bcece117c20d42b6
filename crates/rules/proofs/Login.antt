-- Who becomes authorized, by which challenge, and what 0x103 is answered: from what a call leaves of the login. Assumes nothing.
use Prim.Native.Nat.{ℕ, ◌≤◌, ◌<◌}
use mathlib.Core.Bool.{Bool, true, false, not}
use mathlib.Core.List.{List, [], ◌∷◌, ◌++◌, append-nil}
use mathlib.Core.Path.{◌≡◌, refl, sym, ap, ◌∙◌}
use native.Mathlib.Omega.{arith}
use lib.ListN.{length}
use lib.Dec.{eqb, ltb, leb}
use borrow.Author.Tests.{eqb-true, eqb-false, eq-eqb, ne_eqb, ltb-true, ltb-false, le-leb, lt-leb, leb-true}
use Rattle.codes.specs.Codes.{md5_auth, store_length}
use Rattle.std.specs.Prelude.{Option, Some, None, option_map}
use Rattle.xdr.specs.Choose.{choose}
use Rattle.xdr.specs.Xdr.{word, be32, be32s}
use Rattle.xdr.proofs.Tests.{by_test, yes}
use Rattle.wire_accounts.specs.Accounts.{AccountEntry, entries_in, md5_matches, any_of}
use Rattle.wire_accounts.specs.Holds.{ByMd5}
use Rattle.wire_accounts.proofs.Holds.{accounts_hold}
use Rattle.wire_layouts.specs.Layout.{part_at, single, field_at, and_read, and_value, read_fields}
use Rattle.wire_layouts.specs.Scans.{put, puts, summed, scanned}
use Rattle.wire_layouts.specs.declared.Scan.{Scan}
use Rattle.wire_layouts.specs.declared.Text.{Text}
use Rattle.wire_frame.specs.Frame.{well_framed, kind_of, sequence_of, message_word, body_of}
use Rattle.wire_frame.specs.Messages.{Line, is, look, table, row_of, message_of}
use Rattle.wire_frame.specs.declared.Row.{Row}
use Rattle.wire_frame.specs.declared.ConnectKind.{ConnectKind}
use Rattle.wire_frame.specs.declared.ConnectKind.TheVariants as ConnectKind
use Rattle.wire_frame.specs.declared.ConfigKind.{ConfigKind}
use Rattle.wire_frame.specs.declared.ConfigKind.TheVariants as ConfigKind
use Rattle.wire_frame.specs.declared.Message.{Message}
use Rattle.wire_frame.specs.declared.Message.TheVariants as Message
use Rattle.wire_requests.specs.Bodies.{connect_of, config_of, joint_of, or_bad, scanned_by, connect_body, config_body, joint_body, decoded}
use Rattle.wire_requests.specs.Within.{bytes_at}
use Rattle.wire_requests.specs.declared.ConnectRequest.{ConnectRequest}
use Rattle.wire_requests.specs.declared.ConnectRequest.TheVariants as ConnectRequest
use Rattle.wire_requests.specs.declared.ConfigRequest.{ConfigRequest}
use Rattle.wire_requests.specs.declared.ConfigRequest.TheVariants as ConfigRequest
use Rattle.wire_requests.specs.declared.Request.{Request}
use Rattle.wire_requests.specs.declared.Request.TheVariants as Request
use Rattle.wire_replies.specs.declared.Reply.{Reply}
use Rattle.wire_replies.specs.declared.Reply.TheVariants as Reply
use Rattle.wire_replies.specs.Replies.{body_bytes, opaques, shape_of, reply_bytes}
use Rattle.wire_replies.specs.Numbers.{body_in}
use Rattle.wire_replies.proofs.Numbers.{body_sent, numbers_told}
use Rattle.rules_parts.specs.declared.types.Login.{Login}
use Rattle.rules_parts.specs.Names.{least_room}
use Rattle.rules_parts.specs.Parts.{logged_in, challenged_by}
use Rattle.rules.specs.Judge.{Test, test, Outcome, refuse, accept, judge, onto, Accepts}
use Rattle.rules.specs.Relation.{keeps}
use Rattle.rules.specs.Connection.{right_digest, connect_open, client_auth, connect_step, auth_attributes, config_step}
use Rattle.rules.specs.TapeService.{tape_step, mover_part_step}
use Rattle.rules.specs.Answer.{Kept, Lent, Answered, room_of, answered, requested, judged, is_close, settled, verdict, needs_login, is_locked, outcome, refusing, is_unread}
use Rattle.rules.specs.Answer.{refused_in, replying, noticed, Done, tape_part, with_data, with_part, with_tape, with_changer, with_login, with_ends, request_in}
use Rattle.rules.specs.Order.{Service, DataService, TapeService, ScsiService, JointService, ControlService, service_of, Call, run}
use Rattle.rules.specs.Calls.{Heard, opening}
use Rattle.rules.specs.Login.{Newest, none, given, newest_of, is_heard, asks_challenge, gives, newer, newest, Among, here, later}
use Rattle.rules.specs.Login.{LogsIn, Entered, enters_here, enters_later, authorized, LoginHolds, AttributesAsked, WithdrawnAsked}
use Rattle.rules.specs.Login.{LoginAlone, OfControl, of_open, of_md5, of_other, of_config, ControlLeaves}
use Rattle.rules.proofs.JudgeLaws.{judged_by, accepts_any, carried}
use Rattle.rules.proofs.Guarding.{by_guard, stored, roomy}
use Rattle.rules.proofs.Calls.{by_opening, heard, verdict_free, noticed_holds, undigested, untyped}
use Rattle.rules.proofs.Owning.{Owned, of_data, of_tape, of_mover, of_scsi, of_joint, of_control, unknown, bad, owned}

clash : {A : Type 0} → false ≡ true → A
clash h = absurd (let z : ◌≡◌ {A = ℕ} 0 1 = cc in omega arith)

both : (a b : Bool) → choose a b false ≡ true → (a ≡ true) × (b ≡ true)
unfolding choose
both true b h = (refl, h)
both false b h = clash h

of_test : (b : Bool) → (b ≡ true → ⊥) → b ≡ false
of_test true h = absurd (h refl)
of_test false h = refl

without : (a b : Bool) → choose a false b ≡ true → (a ≡ false) × (b ≡ true)
unfolding choose
without true b h = clash h
without false b h = (refl, h)

-- ---- a call that is heard, and one that is not
module _ (k : Kept) (c : Call) where
  abbrev l : Lent
  l = c.lent

  abbrev r : List ℕ
  r = c.ask.request

  pub heard_facts : is_heard k c ≡ true → Heard k l r
  unfolding is_heard
  heard_facts h =
      let a = both (leb least_room l.room) _ h in
      let b = both (eqb (length k.variables) store_length) _ a.1 in
      let d = both (keeps k.session) _ b.1 in
      let e = without k.session.closed _ d.1 in
      let f = both (well_framed r) _ e.1 in
      record {
        roomy = leb-true least_room l.room a.0;
        stored = eqb-true _ _ b.0;
        valid = d.0;
        opened = e.0;
        framed = f.0;
        request = eqb-true _ _ f.1;
      }

  facts_heard : Heard k l r → is_heard k c ≡ true
  unfolding is_heard choose
  facts_heard h =
      rw (le-leb least_room l.room h.roomy, eq-eqb _ _ h.stored, h.valid, h.opened, h.framed, eq-eqb _ _ h.request)

  unheard : is_heard k c ≡ false → (answered k l r).next.session.login ≡ k.session.login
  unfolding answered requested
  unheard h =
      let P : Answered → Type 0 = λ a. a.next.session.login ≡ k.session.login in
      by_guard P k.session (room_of k l) _ _ (λ _. refl)
      (λ g. by_test P (well_framed r) _ _
      (λ f. by_test P (not (eqb (kind_of r) 0)) _ _ (λ _. refl)
      (λ e. clash (sym h ∙ facts_heard (record {
        roomy = roomy k l g.roomy;
        stored = stored k l g.roomy;
        valid = g.valid;
        opened = g.opened;
        framed = f;
        request = eqb-true _ _ (yes e);
      })))) (λ _. refl))

-- ---- the login after a request that is heard
module _ (k : Kept) (l : Lent) (r : List ℕ) where
  abbrev g : Login
  g = k.session.login

  pub after : Request → Login
  after Request.Unknown = g
  after Request.Bad = g
  after (Request.Connect (ConnectRequest.Open version)) = g
  after (Request.Connect (ConnectRequest.Md5Auth id digest)) =
      choose (right_digest g l.accounts (bytes_at (body_of r) id) (bytes_at (body_of r) digest)) (logged_in g) g
  after (Request.Connect ConnectRequest.OtherAuth) = g
  after (Request.Connect ConnectRequest.Close) = g
  after (Request.Config ConfigRequest.ConnectionType) = g
  after (Request.Config (ConfigRequest.AuthAttributes type)) = choose (eqb type md5_auth) (challenged_by l.challenge g) g
  after (Request.Config ConfigRequest.ServerInfo) = g
  after (Request.Scsi q) = g
  after (Request.Tape q) = g
  after (Request.Data q) = g
  after (Request.Mover q) = g
  after (Request.Joint q) = g

  login_in : Outcome Done → Login
  login_in (refuse e) = g
  login_in (accept reply d) = d.kept.session.login

  settled_login : (q : Request) (o : Outcome Done) → (settled k l.time r q o).next.session.login ≡ login_in o
  unfolding settled login_in
  settled_login q (refuse e) = refl
  settled_login q (accept reply d) =
      let Q : Kept → Type 0 = λ x. x.session.login ≡ d.kept.session.login in
      noticed_holds Q (λ x _ h. h) (λ x h. h) l.time d.mwhy _ _ (noticed_holds Q (λ x _ h. h) (λ x h. h) l.time d.dwhy _ _ refl)

  same_judged : (ts : List Test) (o : Outcome Done) → login_in o ≡ g → login_in (judge ts o) ≡ g
  unfolding judge login_in choose
  same_judged [] o h = h
  same_judged (test true e ∷ ts) o h = refl
  same_judged (test false e ∷ ts) o h = same_judged ts o h

  same_onto : {A : Type 0} (put : A → Done) → ((p : A) → (put p).kept.session.login ≡ g) → (o : Outcome A) → login_in (onto put o) ≡ g
  unfolding onto login_in
  same_onto put f (refuse e) = refl
  same_onto put f (accept reply p) = f p

  bare_login : (e : ℕ) → login_in (refuse e) ≡ g
  unfolding login_in
  bare_login e = refl

  refused_login : {A : Type 0} (put : A → Done) (e : ℕ) → login_in (onto put (refuse e)) ≡ g
  unfolding onto login_in
  refused_login put e = refl

  kept_login : (shown : List ℕ) (reply : Reply) → login_in (onto (with_login k shown) (accept reply g)) ≡ g
  unfolding onto login_in
  kept_login shown reply = refl

  opened_login : (fresh four : Bool) → login_in (onto (with_login k []) (judge (test (not fresh) 19 ∷ test (not four) 9 ∷ []) (accept Reply.Plain g))) ≡ g
  unfolding onto judge login_in choose
  opened_login true true = refl
  opened_login true false = refl
  opened_login false four = refl

  auth_login : (right : Bool) → login_in (onto (with_login k []) (client_auth g right)) ≡ choose right (logged_in g) g
  unfolding client_auth onto judge login_in choose
  auth_login true = refl
  auth_login false = refl

  types_login : (m : Bool)
      → login_in (onto (with_login k l.challenge) (choose m (accept Reply.Challenge (challenged_by l.challenge g)) (refuse 9)))
      ≡ choose m (challenged_by l.challenge g) g
  unfolding onto login_in choose
  types_login true = refl
  types_login false = refl

  attributes_login : (type : ℕ) → login_in (onto (with_login k l.challenge) (auth_attributes g l.challenge type)) ≡ choose (eqb type md5_auth) (challenged_by l.challenge g) g
  unfolding auth_attributes
  attributes_login type = types_login (eqb type md5_auth)

  verdict_login : (q : Request) → login_in (verdict k l r q) ≡ after q
  unfolding verdict outcome connect_step connect_open config_step tape_step mover_part_step needs_login after
  verdict_login Request.Unknown = same_judged _ _ (bare_login 1)
  verdict_login Request.Bad = same_judged _ _ (bare_login 18)
  verdict_login (Request.Connect (ConnectRequest.Open version)) = same_judged _ _ (opened_login k.session.first (eqb version 4))
  verdict_login (Request.Connect (ConnectRequest.Md5Auth id digest)) =
      ap login_in (verdict_free k l r (Request.Connect (ConnectRequest.Md5Auth id digest)) refl) ∙ auth_login _
  verdict_login (Request.Connect ConnectRequest.OtherAuth) = same_judged _ _ (refused_login (with_login k []) 9)
  verdict_login (Request.Connect ConnectRequest.Close) = same_judged _ _ (kept_login [] Reply.Plain)
  verdict_login (Request.Config ConfigRequest.ConnectionType) = same_judged _ _ (kept_login l.challenge Reply.ConnectionTypes)
  verdict_login (Request.Config (ConfigRequest.AuthAttributes type)) =
      ap login_in (verdict_free k l r (Request.Config (ConfigRequest.AuthAttributes type)) refl) ∙ attributes_login type
  verdict_login (Request.Config ConfigRequest.ServerInfo) = same_judged _ _ (kept_login l.challenge (Reply.ServerInfo g.authorized))
  verdict_login (Request.Scsi q) = same_judged _ _ (same_onto (with_changer k _) (λ _. refl) _)
  verdict_login (Request.Tape q) = same_judged _ _ (same_onto (with_tape k) (λ _. refl) _)
  verdict_login (Request.Data q) = same_judged _ _ (same_onto (with_data k q _ _) (λ _. refl) _)
  verdict_login (Request.Mover q) = same_judged _ _ (same_onto (with_part k _) (λ _. refl) _)
  verdict_login (Request.Joint q) = same_judged _ _ (same_onto (with_ends k) (λ _. refl) _)

  close_after : (q : Request) → is_close q ≡ true → g ≡ after q
  unfolding is_close after
  close_after Request.Unknown h = refl
  close_after Request.Bad h = refl
  close_after (Request.Connect (ConnectRequest.Open version)) h = refl
  close_after (Request.Connect (ConnectRequest.Md5Auth id digest)) h = clash h
  close_after (Request.Connect ConnectRequest.OtherAuth) h = refl
  close_after (Request.Connect ConnectRequest.Close) h = refl
  close_after (Request.Config q) h = clash h
  close_after (Request.Scsi q) h = refl
  close_after (Request.Tape q) h = refl
  close_after (Request.Data q) h = refl
  close_after (Request.Mover q) h = refl
  close_after (Request.Joint q) h = refl

  judged_login : (q : Request) → (judged k l r q).next.session.login ≡ after q
  unfolding judged
  judged_login q =
      by_test (λ (a : Answered). a.next.session.login ≡ after q) (is_close q) _ _ (close_after q)
      (λ _. settled_login q (verdict k l r q) ∙ verdict_login q)

  pub login_after : Heard k l r → (answered k l r).next.session.login ≡ after (request_in r)
  login_after h = ap (λ (a : Answered). a.next.session.login) (heard k l r h) ∙ judged_login (request_in r)

-- ---- 0x103, as its body is read
module _ (b : List ℕ) where
  abbrev attributes : Request
  attributes = decoded (Message.Config ConfigKind.AuthAttributes) b

  abbrev asking : ℕ → Request
  asking type = Request.Config (ConfigRequest.AuthAttributes type)

  read_md5 : length b ≡ 4 → word b 0 ≡ 2 → attributes ≡ asking 2
  unfolding decoded config_body scanned read_fields field_at and_read and_value summed puts put choose
  read_md5 e w = rw (le-leb 4 (length b) (omega arith), eq-eqb (word b 0) 2 w, eq-eqb 4 (length b) (sym e), w)

  read_other : 4 ≤ length b → (word b 0 ≡ 2 → ⊥) → attributes ≡ asking (word b 0)
  unfolding decoded config_body scanned read_fields field_at and_read and_value summed puts put choose
  read_other h m = rw (le-leb 4 (length b) h, ne_eqb (word b 0) 2 m)

  read_short : length b < 4 → attributes ≡ Request.Bad
  unfolding decoded config_body scanned read_fields field_at and_read summed choose
  read_short h = rw (lt-leb 4 (length b) h)

  read_long : 4 < length b → word b 0 ≡ 2 → attributes ≡ Request.Bad
  unfolding decoded config_body scanned read_fields field_at and_read and_value summed choose
  read_long h w = rw (le-leb 4 (length b) (omega arith), eq-eqb (word b 0) 2 w, ne_eqb 4 (length b) (λ e. omega arith))

  -- and 0x901 of another type
  read_withdrawn : 4 ≤ length b → (word b 0 ≡ 2 → ⊥) → decoded (Message.Connect ConnectKind.Auth) b ≡ Request.Connect ConnectRequest.OtherAuth
  unfolding decoded connect_body scanned read_fields field_at and_read and_value summed puts put choose
  read_withdrawn h m = rw (le-leb 4 (length b) h, ne_eqb (word b 0) 2 m, ne_eqb (word b 0) 2 m)

-- ---- which requests give a challenge
is_challenge : Request → Bool
is_challenge Request.Unknown = false
is_challenge Request.Bad = false
is_challenge (Request.Connect q) = false
is_challenge (Request.Config ConfigRequest.ConnectionType) = false
is_challenge (Request.Config (ConfigRequest.AuthAttributes type)) = eqb type 2
is_challenge (Request.Config ConfigRequest.ServerInfo) = false
is_challenge (Request.Scsi q) = false
is_challenge (Request.Tape q) = false
is_challenge (Request.Data q) = false
is_challenge (Request.Mover q) = false
is_challenge (Request.Joint q) = false

is_attributes : Message → Bool
is_attributes (Message.Connect k) = false
is_attributes (Message.Config ConfigKind.ConnectionType) = false
is_attributes (Message.Config ConfigKind.AuthAttributes) = true
is_attributes (Message.Config ConfigKind.ServerInfo) = false
is_attributes (Message.Scsi k) = false
is_attributes (Message.Tape k) = false
is_attributes (Message.Data k) = false
is_attributes (Message.Mover k) = false
is_attributes (Message.Joint k) = false
is_attributes Message.Unknown = false

-- no other row of the table of messages is that of 0x103
other_rows : List Line → Bool
other_rows [] = true
other_rows (is k m b a ∷ t) = choose (choose (is_attributes m) (eqb k 0x103) true) (other_rows t) false

only_row : other_rows table ≡ true
unfolding other_rows is_attributes choose
only_row = refl

row_number : (m n : Bool) → choose m n true ≡ true → m ≡ true → n ≡ true
unfolding choose
row_number true n h e = h
row_number false n h e = clash e

looked : (t : List Line) → other_rows t ≡ true → (n : ℕ) → is_attributes (look t n).kind ≡ true → n ≡ 0x103
unfolding look other_rows is_attributes
looked [] h n e = clash e
looked (is k m b a ∷ t) h n e =
    let f = both (choose (is_attributes m) (eqb k 0x103) true) (other_rows t) h in
    by_test (λ (x : Row). is_attributes x.kind ≡ true → n ≡ 0x103) (eqb n k) _ _
    (λ z d. eqb-true n k z ∙ eqb-true k 0x103 (row_number (is_attributes m) (eqb k 0x103) f.0 d)) (λ _. looked t f.1 n) e

attributes_number : (n : ℕ) → (n ≡ 0x103 → ⊥) → is_attributes (message_of n) ≡ false
unfolding row_of
attributes_number n d = of_test (is_attributes (message_of n)) (λ e. d (looked table only_row n e))

-- the rows of the other messages of CONNECT, CONFIG and the joint ones
read_rows : {R : Type 0} (f : R → Request) (g : Scan → R) (o : Option Scan) → ((s : Scan) → is_challenge (f (g s)) ≡ false)
    → is_challenge (or_bad f (option_map g o)) ≡ false
unfolding is_challenge
read_rows f g (Some s) h = h s
read_rows f g None h = refl

owned_rows : (d : Service) (q : Request) → Owned d q → (d ≡ JointService → ⊥) → (d ≡ ControlService → ⊥) → is_challenge q ≡ false
unfolding is_challenge
owned_rows d q (of_data x) j c = refl
owned_rows d q (of_tape x) j c = refl
owned_rows d q (of_mover x) j c = refl
owned_rows d q (of_scsi x) j c = refl
owned_rows d q (of_joint x) j c = absurd (j refl)
owned_rows d q (of_control x) j c = absurd (c refl)
owned_rows d q (unknown x) j c = refl
owned_rows d q (bad x) j c = refl

others : (m : Message) (b : List ℕ) → is_attributes m ≡ false → is_challenge (decoded m b) ≡ false
unfolding decoded connect_body config_body joint_body service_of is_attributes is_challenge
others (Message.Connect k) b h = read_rows Request.Connect (connect_of k) (scanned_by (Message.Connect k) b) (λ s. refl)
others (Message.Config ConfigKind.ConnectionType) b h = read_rows Request.Config (config_of ConfigKind.ConnectionType) (scanned_by (Message.Config ConfigKind.ConnectionType) b) (λ s. refl)
others (Message.Config ConfigKind.AuthAttributes) b h = clash (sym h)
others (Message.Config ConfigKind.ServerInfo) b h = read_rows Request.Config (config_of ConfigKind.ServerInfo) (scanned_by (Message.Config ConfigKind.ServerInfo) b) (λ s. refl)
others (Message.Scsi k) b h = owned_rows ScsiService _ (owned (Message.Scsi k) 0 b) (λ e. clash cc) (λ e. clash cc)
others (Message.Tape k) b h = owned_rows TapeService _ (owned (Message.Tape k) 0 b) (λ e. clash cc) (λ e. clash cc)
others (Message.Data k) b h = owned_rows DataService _ (owned (Message.Data k) 0 b) (λ e. clash cc) (λ e. clash cc)
others (Message.Mover k) b h = owned_rows TapeService _ (owned (Message.Mover k) 0 b) (λ e. clash cc) (λ e. clash cc)
others (Message.Joint k) b h = read_rows Request.Joint (joint_of k) (scanned_by (Message.Joint k) b) (λ s. refl)
others Message.Unknown b h = refl

by_eq : {A : Type 0} (m n : ℕ) → (m ≡ n → A) → ((m ≡ n → ⊥) → A) → A
by_eq {A} m n f g = of_eq (eqb m n) refl
  where
    of_eq : (b : Bool) → eqb m n ≡ b → A
    of_eq true e = f (eqb-true m n e)
    of_eq false e = g (eqb-false m n e)

by_lt : {A : Type 0} (m n : ℕ) → (m < n → A) → (n ≤ m → A) → A
by_lt {A} m n f g = of_lt (ltb m n) refl
  where
    of_lt : (b : Bool) → ltb m n ≡ b → A
    of_lt true e = f (ltb-true m n e)
    of_lt false e = g (ltb-false m n e)

-- by the bytes
attributes_challenge : (b : List ℕ) → is_challenge (attributes b) ≡ choose (eqb (length b) 4) (eqb (word b 0) 2) false
unfolding is_challenge choose
attributes_challenge b =
    let P : Bool → Type 0 = λ x. is_challenge (attributes b) ≡ x in
    by_test P (eqb (length b) 4) _ _ (λ e. whole (eqb-true _ _ e)) (λ e. other (eqb-false _ _ e))
  where
    whole : length b ≡ 4 → is_challenge (attributes b) ≡ eqb (word b 0) 2
    whole e =
        by_eq (word b 0) 2 (λ w. ap is_challenge (read_md5 b e w) ∙ sym (eq-eqb _ _ w)) (λ m. ap is_challenge (read_other b (omega arith) m))

    other : (length b ≡ 4 → ⊥) → is_challenge (attributes b) ≡ false
    other n =
        by_lt (length b) 4 (λ h. ap is_challenge (read_short b h))
        (λ h. by_eq (word b 0) 2 (λ w. ap is_challenge (read_long b (omega arith) w)) (λ m. ap is_challenge (read_other b h m) ∙ ne_eqb _ _ m))

challenge_is : (r : List ℕ) → is_challenge (request_in r) ≡ asks_challenge r
unfolding asks_challenge row_of look choose
challenge_is r =
    let P : Bool → Type 0 = λ x. is_challenge (request_in r) ≡ x in
    by_test P (eqb (message_word r) 0x103) _ _
    (λ e. ap (λ (n : ℕ). is_challenge (decoded (message_of n) (body_of r))) (eqb-true (message_word r) 0x103 e) ∙ attributes_challenge (body_of r))
    (λ e. others (message_of (message_word r)) (body_of r) (attributes_number (message_word r) (eqb-false _ _ e)))

-- ---- what a session holds is the newest challenge
module _ (k : Kept) (l : Lent) (r : List ℕ) where
  abbrev was : Login
  was = k.session.login

  logged_newest : (right : Bool) → newest_of (choose right (logged_in was) was) ≡ newest_of was
  unfolding newest_of choose
  logged_newest true = refl
  logged_newest false = refl

  given_newest : (b : Bool) → newest_of (choose b (challenged_by l.challenge was) was) ≡ choose b (given l.challenge) (newest_of was)
  unfolding newest_of choose
  given_newest true = refl
  given_newest false = refl

  newest_after : (q : Request) → newest_of (after k l r q) ≡ choose (is_challenge q) (given l.challenge) (newest_of was)
  unfolding after is_challenge choose
  newest_after Request.Unknown = refl
  newest_after Request.Bad = refl
  newest_after (Request.Connect (ConnectRequest.Open version)) = refl
  newest_after (Request.Connect (ConnectRequest.Md5Auth id digest)) = logged_newest (right_digest was l.accounts (bytes_at (body_of r) id) (bytes_at (body_of r) digest))
  newest_after (Request.Connect ConnectRequest.OtherAuth) = refl
  newest_after (Request.Connect ConnectRequest.Close) = refl
  newest_after (Request.Config ConfigRequest.ConnectionType) = refl
  newest_after (Request.Config (ConfigRequest.AuthAttributes type)) = given_newest (eqb type 2)
  newest_after (Request.Config ConfigRequest.ServerInfo) = refl
  newest_after (Request.Scsi q) = refl
  newest_after (Request.Tape q) = refl
  newest_after (Request.Data q) = refl
  newest_after (Request.Mover q) = refl
  newest_after (Request.Joint q) = refl

pub newest_next : (k : Kept) (c : Call) → newest_of (answered k c.lent c.ask.request).next.session.login ≡ newer (newest_of k.session.login) k c
unfolding newer gives choose
newest_next k c = by_heard (is_heard k c) refl
  where
    n : Newest
    n = newest_of (answered k c.lent c.ask.request).next.session.login

    by_heard : (h : Bool) → is_heard k c ≡ h → n ≡ choose (choose h (asks_challenge c.ask.request) false) (given c.lent.challenge) (newest_of k.session.login)
    by_heard true h =
        ap newest_of (login_after k c.lent c.ask.request (heard_facts k c h)) ∙ newest_after k c.lent c.ask.request (request_in c.ask.request)
        ∙ ap (λ (b : Bool). choose b (given c.lent.challenge) (newest_of k.session.login)) (challenge_is c.ask.request)
    by_heard false h = ap newest_of (unheard k c h)

newest_held : (k : Kept) (cs : List Call) → newest_of (run k cs).last.session.login ≡ newest (newest_of k.session.login) k cs
unfolding run newest
newest_held k [] = refl
newest_held k (c ∷ cs) =
    let next = (answered k c.lent c.ask.request).next in
    newest_held next cs ∙ ap (λ (n : Newest). newest n next cs) (newest_next k c)

-- ---- an entry that lets in
any_among : (p : AccountEntry → Bool) (P : AccountEntry → Type 0) → ((e : AccountEntry) → p e ≡ true → P e) → (es : List AccountEntry) → any_of p es ≡ true → Among P es
unfolding any_of
any_among p P f [] h = clash h
any_among p P f (e ∷ es) h = by_test (λ (b : Bool). b ≡ true → Among P (e ∷ es)) (p e) _ _ (λ t _. here (f e t)) (λ _ z. later (any_among p P f es z)) h

among_any : (p : AccountEntry → Bool) (P : AccountEntry → Type 0) → ((e : AccountEntry) → P e → p e ≡ true) → (es : List AccountEntry) → Among P es → any_of p es ≡ true
unfolding any_of choose
among_any p P f [] x' = elim x' [ ]
among_any p P f (e ∷ es) (here h) = rw (f e h)
among_any p P f (e ∷ es) (later h) = by_test (λ (b : Bool). b ≡ true) (p e) _ _ (λ _. refl) (λ _. among_any p P f es h)

-- ---- who becomes authorized
newest_given : (g : Login) → g.challenged ≡ true → newest_of g ≡ given g.challenge
unfolding newest_of choose
newest_given g h = rw h

given_newest_is : (b : Bool) (x y : List ℕ) → choose b (given x) none ≡ given y → (b ≡ true) × (x ≡ y)
unfolding choose
given_newest_is true x y h = (refl, cc)
given_newest_is false x y h = clash cc

module _ (k : Kept) (c : Call) where
  abbrev body : List ℕ
  body = body_of c.ask.request

  abbrev held : Newest
  held = newest_of k.session.login

  md5_in : (id digest : Text) → request_in c.ask.request ≡ Request.Connect (ConnectRequest.Md5Auth id digest)
      → right_digest k.session.login c.lent.accounts (bytes_at body id) (bytes_at body digest) ≡ true → LogsIn held c
  unfolding right_digest
  md5_in id digest e h =
      let z = both k.session.login.challenged _ h in
      record {
        id = id;
        digest = digest;
        challenge = k.session.login.challenge;
        asked = e;
        held = newest_given k.session.login z.0;
        entry = any_among (md5_matches (bytes_at body id) k.session.login.challenge (bytes_at body digest)) _ (λ x t. accounts_hold.md5 _ _ _ x t) _ z.1;
      }

  -- a request after which the client is authorized, and was not
  entering : authorized k ≡ false → (q : Request) → request_in c.ask.request ≡ q → (after k c.lent c.ask.request q).authorized ≡ true → LogsIn held c
  unfolding after
  entering n Request.Unknown e t = clash (sym n ∙ t)
  entering n Request.Bad e t = clash (sym n ∙ t)
  entering n (Request.Connect (ConnectRequest.Open version)) e t = clash (sym n ∙ t)
  entering n (Request.Connect (ConnectRequest.Md5Auth id digest)) e t =
      by_test (λ (g : Login). g.authorized ≡ true → LogsIn held c)
      (right_digest k.session.login c.lent.accounts (bytes_at body id) (bytes_at body digest)) _ _
      (λ h _. md5_in id digest e h) (λ _ z. clash (sym n ∙ z)) t
  entering n (Request.Connect ConnectRequest.OtherAuth) e t = clash (sym n ∙ t)
  entering n (Request.Connect ConnectRequest.Close) e t = clash (sym n ∙ t)
  entering n (Request.Config ConfigRequest.ConnectionType) e t = clash (sym n ∙ t)
  entering n (Request.Config (ConfigRequest.AuthAttributes type)) e t =
      by_test (λ (g : Login). g.authorized ≡ true → LogsIn held c) (eqb type 2) _ _ (λ _ z. clash (sym n ∙ z)) (λ _ z. clash (sym n ∙ z)) t
  entering n (Request.Config ConfigRequest.ServerInfo) e t = clash (sym n ∙ t)
  entering n (Request.Scsi q) e t = clash (sym n ∙ t)
  entering n (Request.Tape q) e t = clash (sym n ∙ t)
  entering n (Request.Data q) e t = clash (sym n ∙ t)
  entering n (Request.Mover q) e t = clash (sym n ∙ t)
  entering n (Request.Joint q) e t = clash (sym n ∙ t)

  -- and a client that is authorized stays so
  staying : authorized k ≡ true → (q : Request) → (after k c.lent c.ask.request q).authorized ≡ true
  unfolding after
  staying h Request.Unknown = h
  staying h Request.Bad = h
  staying h (Request.Connect (ConnectRequest.Open version)) = h
  staying h (Request.Connect (ConnectRequest.Md5Auth id digest)) = by_test (λ (g : Login). g.authorized ≡ true) (right_digest _ _ _ _) _ _ (λ _. refl) (λ _. h)
  staying h (Request.Connect ConnectRequest.OtherAuth) = h
  staying h (Request.Connect ConnectRequest.Close) = h
  staying h (Request.Config ConfigRequest.ConnectionType) = h
  staying h (Request.Config (ConfigRequest.AuthAttributes type)) = by_test (λ (g : Login). g.authorized ≡ true) (eqb type 2) _ _ (λ _. h) (λ _. h)
  staying h (Request.Config ConfigRequest.ServerInfo) = h
  staying h (Request.Scsi q) = h
  staying h (Request.Tape q) = h
  staying h (Request.Data q) = h
  staying h (Request.Mover q) = h
  staying h (Request.Joint q) = h

  abbrev next : Kept
  next = (answered k c.lent c.ask.request).next

  pub call_only : authorized k ≡ false → authorized next ≡ true → (is_heard k c ≡ true) × LogsIn held c
  call_only n t = by_heard (is_heard k c) refl
    where
      by_heard : (h : Bool) → is_heard k c ≡ h → (is_heard k c ≡ true) × LogsIn held c
      by_heard true h =
          let w = login_after k c.lent c.ask.request (heard_facts k c h) in
          (h, entering n (request_in c.ask.request) refl (sym (ap (λ (g : Login). g.authorized) w) ∙ t))
      by_heard false h = clash (sym n ∙ sym (ap (λ (g : Login). g.authorized) (unheard k c h)) ∙ t)

  pub call_stays : authorized k ≡ true → authorized next ≡ true
  call_stays a = by_heard (is_heard k c) refl
    where
      by_heard : (h : Bool) → is_heard k c ≡ h → authorized next ≡ true
      by_heard true h =
          ap (λ (g : Login). g.authorized) (login_after k c.lent c.ask.request (heard_facts k c h)) ∙ staying a (request_in c.ask.request)
      by_heard false h = ap (λ (g : Login). g.authorized) (unheard k c h) ∙ a

  md5_enters : (id digest : Text) → request_in c.ask.request ≡ Request.Connect (ConnectRequest.Md5Auth id digest)
      → right_digest k.session.login c.lent.accounts (bytes_at body id) (bytes_at body digest) ≡ true
      → (after k c.lent c.ask.request (request_in c.ask.request)).authorized ≡ true
  unfolding after choose
  md5_enters id digest e h = rw (e, h)

  right_digest_lem : (id digest challenge : List ℕ) → held ≡ given challenge → Among (ByMd5 id challenge digest) (entries_in c.lent.accounts)
      → right_digest k.session.login c.lent.accounts id digest ≡ true
  unfolding right_digest newest_of choose
  right_digest_lem id digest challenge n a =
      let z = given_newest_is k.session.login.challenged k.session.login.challenge challenge n in
      rw (z.0, z.1) (among_any (md5_matches id challenge digest) _ (λ x t. accounts_hold.md5_enters _ _ _ x t) _ a)

  enters : Heard k c.lent c.ask.request → LogsIn held c → authorized next ≡ true
  enters h i =
      ap (λ (g : Login). g.authorized) (login_after k c.lent c.ask.request h)
      ∙ md5_enters i.id i.digest i.asked (right_digest_lem _ _ i.challenge i.held i.entry)

now_or_later : (k : Kept) (c : Call) (cs : List Call) → authorized k ≡ false → (b : Bool) → authorized (answered k c.lent c.ask.request).next ≡ b
    → (authorized (answered k c.lent c.ask.request).next ≡ false
    → Entered (newest_of (answered k c.lent c.ask.request).next.session.login) (answered k c.lent c.ask.request).next cs)
    → Entered (newest_of k.session.login) k (c ∷ cs)
now_or_later k c cs n true a f = let z = call_only k c n a in enters_here z.0 z.1
now_or_later k c cs n false a f = enters_later (rw (newest_next k c) at (f a))

only : (k : Kept) (cs : List Call) → authorized k ≡ false → authorized (run k cs).last ≡ true → Entered (newest_of k.session.login) k cs
unfolding run
only k [] n t = clash (sym n ∙ t)
only k (c ∷ cs) n t =
    let x = (answered k c.lent c.ask.request).next in
    now_or_later k c cs n (authorized x) refl (λ a. only x cs a t)

stays : (k : Kept) (cs : List Call) → authorized k ≡ true → authorized (run k cs).last ≡ true
unfolding run
stays k [] h = h
stays k (c ∷ cs) h = stays (answered k c.lent c.ask.request).next cs (call_stays k c h)

-- ---- the replies to a login
refused_login_body : (k : Kept) (l : Lent) (r : List ℕ) (e : ℕ) → message_word r ≡ 0x901 → answered k l r ≡ replying r l.time (refused_in r e) [] k
    → body_in (answered k l r).reply ≡ be32 e
unfolding row_of look choose be32
refused_login_body k l r e m a =
    let told = numbers_told.refused k.session.sequence l.time (message_word r) (sequence_of r) (row_of (message_word r)).before e (row_of (message_word r)).after [] in
    ap (λ (x : Answered). body_in x.reply) a ∙ told ∙ rw m refl

plain_body : (s t m c : ℕ) (shown : List ℕ) → body_in (reply_bytes s t m c Reply.Plain shown) ≡ be32 0
unfolding reply_bytes shape_of body_bytes opaques be32s be32
plain_body s t m c shown = body_sent s t m c _ _

module _ (k : Kept) (c : Call) where
  abbrev lent : Lent
  lent = c.lent

  abbrev ask : List ℕ
  ask = c.ask.request

  md5_right : (id digest : Text) → Heard k lent ask → request_in ask ≡ Request.Connect (ConnectRequest.Md5Auth id digest)
      → right_digest k.session.login lent.accounts (bytes_at (body_of ask) id) (bytes_at (body_of ask) digest) ≡ true
      → (answered k lent ask).reply ≡ reply_bytes k.session.sequence lent.time (message_word ask) (sequence_of ask) Reply.Plain []
  unfolding judged is_close outcome connect_step client_auth judge settled onto needs_login noticed choose
  md5_right id digest h e t = rw (heard k lent ask h, e, judged, verdict_free k lent ask (Request.Connect (ConnectRequest.Md5Auth id digest)) refl, t)

  right : Heard k lent ask → LogsIn (newest_of k.session.login) c → body_in (answered k lent ask).reply ≡ be32 0
  right h i = ap body_in (md5_right i.id i.digest h i.asked (right_digest_lem k c _ _ i.challenge i.held i.entry)) ∙ plain_body _ _ _ _ []

  wrong : (id digest : Text) → Heard k lent ask → message_word ask ≡ 0x901 → request_in ask ≡ Request.Connect (ConnectRequest.Md5Auth id digest)
      → (LogsIn (newest_of k.session.login) c → ⊥) → body_in (answered k lent ask).reply ≡ be32 4
  wrong id digest h m e n = refused_login_body k lent ask 4 m (undigested k lent ask id digest h e (of_test _ (λ t. n (md5_in k c id digest e t))))

-- ---- a new session
stranger : (slots : List ℕ) (time room : ℕ) → authorized (opening slots time room).next ≡ false
stranger slots time room = by_opening (λ (a : Answered). authorized a.next ≡ false) slots time room (λ _ _. refl) (λ _. refl)

fresh : (slots : List ℕ) (time room : ℕ) → newest_of (opening slots time room).next.session.login ≡ none
unfolding newest_of choose
fresh slots time room = by_opening (λ (a : Answered). newest_of a.next.session.login ≡ none) slots time room (λ _ _. refl) (λ _. refl)

pub login_holds : LoginHolds
login_holds =
    record {
      only = only;
      stays = stays;
      enters = enters;
      right = right;
      wrong = wrong;
      stranger = stranger;
      fresh = fresh;
      newest_held = newest_held;
    }

-- ---- what CONNECT and CONFIG leave
module _ (k : Kept) (l : Lent) (r : List ℕ) where
  -- what is accepted is a login, and something that is shown
  record IsLogin (reply : Reply) (d : Done) : Type 0 where
    shown : List ℕ
    next : Login
    is : d ≡ with_login k shown next

  login_outcome : (shown : List ℕ) (o : Outcome Login) → Accepts IsLogin (onto (with_login k shown) o)
  login_outcome shown o =
      carried IsLogin (with_login k shown) o
      (accepts_any (λ reply p. IsLogin reply (with_login k shown p)) (λ reply p. record { shown = shown; next = p; is = refl }) o)

  settled_control : (q : Request) (o : Outcome Done) → Accepts IsLogin o → ControlLeaves k (settled k l.time r q o)
  unfolding settled Accepts noticed choose
  settled_control q (refuse e) a =
      record {
        alone = record {
          closed = refl;
          source = refl;
          mover = refl;
          tape = refl;
          changer = refl;
          image = refl;
          variables = refl;
          counter = refl;
          mark = refl;
        };
        notices = refl;
      }
  settled_control q (accept reply d) a =
      rw a.is
      (record {
        alone = record {
          closed = refl;
          source = refl;
          mover = refl;
          tape = refl;
          changer = refl;
          image = refl;
          variables = refl;
          counter = refl;
          mark = refl;
        };
        notices = refl;
      })

  verdict_control : (q : Request) → OfControl q → Accepts IsLogin (verdict k l r q)
  unfolding verdict outcome
  verdict_control q (of_open version) = judged_by IsLogin _ _ (λ _. login_outcome [] _)
  verdict_control q (of_md5 id digest) = judged_by IsLogin _ _ (λ _. login_outcome [] _)
  verdict_control q of_other = judged_by IsLogin _ _ (λ _. login_outcome [] _)
  verdict_control q (of_config x) = judged_by IsLogin _ _ (λ _. login_outcome l.challenge _)

  control_open : (q : Request) → OfControl q → is_close q ≡ false
  unfolding is_close
  control_open q (of_open version) = refl
  control_open q (of_md5 id digest) = refl
  control_open q of_other = refl
  control_open q (of_config x) = refl

  judged_control : (q : Request) → OfControl q → ControlLeaves k (judged k l r q)
  unfolding judged choose
  judged_control q o = rw (judged, control_open q o) (settled_control q (verdict k l r q) (verdict_control q o))

  pub control : Heard k l r → OfControl (request_in r) → ControlLeaves k (answered k l r)
  control h o = rw (heard k l r h) (judged_control (request_in r) o)

  -- ---- 0x108
  info_asked : message_word r ≡ 0x108 → length (body_of r) ≡ 0 → request_in r ≡ Request.Config ConfigRequest.ServerInfo
  unfolding decoded config_body row_of look scanned read_fields summed puts choose
  info_asked m b = rw (m, b)

  info_replied : Heard k l r → request_in r ≡ Request.Config ConfigRequest.ServerInfo
      → (answered k l r).reply
      ≡ reply_bytes k.session.sequence l.time (message_word r) (sequence_of r) (Reply.ServerInfo k.session.login.authorized) l.challenge
  unfolding judged is_close outcome config_step settled onto needs_login noticed choose
  info_replied h e = rw (heard k l r h, e, judged, verdict_free k l r (Request.Config ConfigRequest.ServerInfo) refl)

  info_body : (s t m c : ℕ) (known : Bool) (shown : List ℕ) → body_in (reply_bytes s t m c (Reply.ServerInfo known) shown) ≡ body_bytes (shape_of (Reply.ServerInfo known) [])
  unfolding reply_bytes shape_of
  info_body s t m c known shown = body_sent s t m c _ _

  pub info : Heard k l r → message_word r ≡ 0x108 → length (body_of r) ≡ 0
      → body_in (answered k l r).reply ≡ body_bytes (shape_of (Reply.ServerInfo k.session.login.authorized) [])
  info h m b = ap body_in (info_replied h (info_asked m b)) ∙ info_body _ _ _ _ k.session.login.authorized l.challenge

-- ---- 0x103 by its bytes
module _ (k : Kept) (l : Lent) (r : List ℕ) where
  asked : message_word r ≡ 0x103 → request_in r ≡ attributes (body_of r)
  unfolding row_of look choose
  asked m = ap (λ (n : ℕ). decoded (message_of n) (body_of r)) m

  replied : Heard k l r → (type : ℕ) → request_in r ≡ asking (body_of r) type → (reply : Reply) (g : Login) → auth_attributes k.session.login l.challenge type ≡ accept reply g
      → (answered k l r).reply ≡ reply_bytes k.session.sequence l.time (message_word r) (sequence_of r) reply l.challenge
  unfolding judged is_close outcome config_step settled onto needs_login noticed choose
  replied h type e reply g x = rw (heard k l r h, e, judged, verdict_free k l r (asking (body_of r) type) refl, x)

  refused : Heard k l r → (type : ℕ) → request_in r ≡ asking (body_of r) type → auth_attributes k.session.login l.challenge type ≡ refuse 9
      → (answered k l r).reply ≡ reply_bytes k.session.sequence l.time (message_word r) (sequence_of r) (refused_in r 9) []
  unfolding judged is_close outcome config_step settled onto needs_login refusing is_unread choose
  refused h type e x = rw (heard k l r h, e, judged, verdict_free k l r (asking (body_of r) type) refl, x)

  challenge_body : (s t m c : ℕ) (shown : List ℕ) → body_in (reply_bytes s t m c Reply.Challenge shown) ≡ be32 0 ++ (be32 2 ++ shown)
  unfolding reply_bytes shape_of body_bytes opaques be32s be32
  challenge_body s t m c shown = body_sent s t m c _ _ ∙ ap (λ (x : List ℕ). be32 0 ++ (be32 2 ++ x)) (append-nil shown)

  refused_body : (s t c e : ℕ) → message_word r ≡ 0x103 → body_in (reply_bytes s t (message_word r) c (refused_in r e) []) ≡ be32 e ++ be32 0
  unfolding row_of look choose be32
  refused_body s t c e m =
      let told = numbers_told.refused s t (message_word r) c (row_of (message_word r)).before e (row_of (message_word r)).after [] in
      told ∙ rw m refl

  gives_md5 : auth_attributes k.session.login l.challenge 2 ≡ accept Reply.Challenge (challenged_by l.challenge k.session.login)
  unfolding auth_attributes choose
  gives_md5 = refl

  gives_none : (type : ℕ) → (type ≡ 2 → ⊥) → auth_attributes k.session.login l.challenge type ≡ refuse 9
  unfolding auth_attributes choose
  gives_none type m = rw (ne_eqb type 2 m)

pub attributes_asked : (k : Kept) (l : Lent) (r : List ℕ) → Heard k l r → message_word r ≡ 0x103 → AttributesAsked k l r
attributes_asked k l r h m =
    let b = body_of r in
    let q = asked k l r m in
    record {
      md5 = λ e w. ap body_in (replied k l r h 2 (q ∙ read_md5 b e w) Reply.Challenge _ (gives_md5 k l r)) ∙ challenge_body k l r _ _ _ _ l.challenge;
      other = λ s d. ap body_in (refused k l r h (word b 0) (q ∙ read_other b s d) (gives_none k l r (word b 0) d)) ∙ refused_body k l r _ _ _ 9 m;
      short = λ s. q ∙ read_short b s;
      long = λ s w. q ∙ read_long b s w;
    }

-- ---- 0x901 of another type
module _ (k : Kept) (l : Lent) (r : List ℕ) (h : Heard k l r) (m : message_word r ≡ 0x901) (s : 4 ≤ length (body_of r)) (t : word (body_of r) 0 ≡ 2 → ⊥) where
  withdrawn_is : request_in r ≡ Request.Connect ConnectRequest.OtherAuth
  unfolding row_of look choose
  withdrawn_is = ap (λ (n : ℕ). decoded (message_of n) (body_of r)) m ∙ read_withdrawn (body_of r) s t

  login_left : (q : Request) → request_in r ≡ q → q ≡ Request.Connect ConnectRequest.OtherAuth → after k l r (request_in r) ≡ k.session.login
  unfolding after
  login_left q e f = rw (e, f)

  pub withdrawn_asked : WithdrawnAsked k l r
  withdrawn_asked =
      record {
        told = refused_login_body k l r 9 m (untyped k l r h withdrawn_is);
        leaves = control k l r h (rw withdrawn_is of_other);
        login = login_after k l r h ∙ login_left _ refl withdrawn_is;
      }
