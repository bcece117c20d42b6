-- Who becomes authorized, and by which challenge (02 No. 2): "The newest challenge is the one judged." It is said by the calls alone: a request
-- of 0x103 is taken by its bytes, a login as it is decoded (`request_in`) and the accounts that are lent with it as they are read (`entries_in`). Against it the
-- definitions of a login are held, not those of decoding, nor those of reading accounts. That text login is withdrawn (02 No. 10) is said by the bytes.
use Rattle.std.specs.Prelude.{ℕ, ◌+◌, ◌%◌, ◌^◌, ◌≤◌, ◌<◌, Bool, true, false, List, [], ◌∷◌, ◌++◌, ◌≡◌, length, eqb, leb}
use Rattle.codes.specs.Codes.{not_authorized, illegal_arguments, store_length}
use Rattle.xdr.specs.Choose.{choose}
use Rattle.xdr.specs.Xdr.{word, be32}
use Rattle.wire_frame.specs.Frame.{well_framed, kind_of, message_word, body_of}
use Rattle.wire_accounts.specs.Accounts.{AccountEntry, entries_in}
use Rattle.wire_accounts.specs.Holds.{ByMd5}
use Rattle.wire_layouts.specs.declared.Text.{Text}
use Rattle.wire_requests.specs.Within.{bytes_at}
use Rattle.wire_requests.specs.declared.ConnectRequest.TheVariants as ConnectRequest
use Rattle.wire_requests.specs.declared.ConfigRequest.{ConfigRequest}
use Rattle.wire_requests.specs.declared.Request.{Request}
use Rattle.wire_requests.specs.declared.Request.TheVariants as Request
use Rattle.wire_replies.specs.Numbers.{body_in}
use Rattle.rules_parts.specs.declared.types.Login.{Login}
use Rattle.rules_parts.specs.Names.{least_room}
use Rattle.rules.specs.Relation.{keeps}
use Rattle.rules.specs.Answer.{Kept, Lent, Answered, answered, request_in}
use Rattle.rules.specs.Order.{Call, run}
use Rattle.rules.specs.Calls.{Heard, opening}

-- ---- the newest challenge
pub data Newest : Type 0 where
  none : Newest
  given : List ℕ → Newest

-- what a session holds
unfoldable pub newest_of : Login → Newest
newest_of g = choose g.challenged (given g.challenge) none

-- `Heard` as a test
unfoldable pub is_heard : Kept → Call → Bool
is_heard k c =
    choose (leb least_room c.lent.room)
    (choose (eqb (length k.variables) store_length)
    (choose (keeps k.session)
    (choose k.session.closed false
    (choose (well_framed c.ask.request) (eqb (kind_of c.ask.request) 0) false))
    false)
    false)
    false

-- 0x103 of type 2: its body is one word, 2
unfoldable pub asks_challenge : List ℕ → Bool
asks_challenge r =
    choose (eqb (message_word r) 0x103)
    (choose (eqb (length (body_of r)) 4) (eqb (word (body_of r) 0) 2) false)
    false

-- a request that is heard and gives the challenge that is lent with it
unfoldable pub gives : Kept → Call → Bool
gives k c = choose (is_heard k c) (asks_challenge c.ask.request) false

-- after a call, with one before it
unfoldable pub newer : Newest → Kept → Call → Newest
newer n k c = choose (gives k c) (given c.lent.challenge) n

-- after calls, with one before them
unfoldable pub newest : Newest → Kept → List Call → Newest
newest n k [] = n
newest n k (c ∷ cs) = newest (newer n k c) (answered k c.lent c.ask.request).next cs

-- ---- who becomes authorized
pub data Among {A : Type 0} (P : A → Type 0) : List A → Type 0 where
  here : {x : A} {xs : List A} → P x → Among P (x ∷ xs)
  later : {x : A} {xs : List A} → Among P xs → Among P (x ∷ xs)

-- CONNECT auth of type 2 with the id of an MD5 entry of the accounts that are lent with it, and the digest of its password and the newest challenge
pub record LogsIn (n : Newest) (c : Call) : Type 0 where
  pub id : Text
  pub digest : Text
  pub challenge : List ℕ
  pub asked : request_in c.ask.request ≡ Request.Connect (ConnectRequest.Md5Auth id digest)
  pub held : n ≡ given challenge
  pub entry : Among (ByMd5 (bytes_at (body_of c.ask.request) id) challenge (bytes_at (body_of c.ask.request) digest)) (entries_in c.lent.accounts)

-- a call among these logs in, with the challenge that is the newest there
pub data Entered : Newest → Kept → List Call → Type 0 where
  enters_here : {n : Newest} {k : Kept} {c : Call} {cs : List Call} → is_heard k c ≡ true → LogsIn n c → Entered n k (c ∷ cs)
  enters_later : {n : Newest} {k : Kept} {c : Call} {cs : List Call}
      → Entered (newer n k c) (answered k c.lent c.ask.request).next cs → Entered n k (c ∷ cs)

abbrev pub authorized : Kept → Bool
authorized k = k.session.login.authorized

pub record LoginHolds : Type 0 where
  pub only : (k : Kept) (cs : List Call) → authorized k ≡ false → authorized (run k cs).last ≡ true → Entered (newest_of k.session.login) k cs
  pub stays : (k : Kept) (cs : List Call) → authorized k ≡ true → authorized (run k cs).last ≡ true
  pub enters : (k : Kept) (c : Call) → Heard k c.lent c.ask.request → LogsIn (newest_of k.session.login) c
      → authorized (answered k c.lent c.ask.request).next ≡ true
  -- the replies to a login, whether the client is logged in already or not
  pub right : (k : Kept) (c : Call) → Heard k c.lent c.ask.request → LogsIn (newest_of k.session.login) c
      → body_in (answered k c.lent c.ask.request).reply ≡ be32 0
  pub wrong : (k : Kept) (c : Call) (id digest : Text) → Heard k c.lent c.ask.request → message_word c.ask.request ≡ 0x901
      → request_in c.ask.request ≡ Request.Connect (ConnectRequest.Md5Auth id digest) → (LogsIn (newest_of k.session.login) c → ⊥)
      → body_in (answered k c.lent c.ask.request).reply ≡ be32 not_authorized
  -- a new session is nobody's, and no challenge was given
  pub stranger : (slots : List ℕ) (time room : ℕ) → authorized (opening slots time room).next ≡ false
  pub fresh : (slots : List ℕ) (time room : ℕ) → newest_of (opening slots time room).next.session.login ≡ none
  -- what a session holds is the newest challenge: no other request, no login, right or wrong, and nothing that is not heard changes it
  pub newest_held : (k : Kept) (cs : List Call) → newest_of (run k cs).last.session.login ≡ newest (newest_of k.session.login) k cs

-- ---- what CONNECT and CONFIG leave
-- n is k after one message more, with the "first request" mark gone, and with nothing else changed but the login
pub record LoginAlone (k n : Kept) : Type 0 where
  pub closed : n.session.closed ≡ k.session.closed
  pub source : n.session.source ≡ k.session.source
  pub mover : n.session.mover ≡ k.session.mover
  pub tape : n.session.tape ≡ k.session.tape
  pub changer : n.session.changer ≡ k.session.changer
  pub image : n.image ≡ k.image
  pub variables : n.variables ≡ k.variables
  pub counter : n.session.sequence ≡ (k.session.sequence + 1) % 2 ^ 32
  pub mark : n.session.first ≡ false

-- the requests of CONNECT but a close, and those of CONFIG
pub data OfControl : Request → Type 0 where
  of_open : (version : ℕ) → OfControl (Request.Connect (ConnectRequest.Open version))
  of_md5 : (id digest : Text) → OfControl (Request.Connect (ConnectRequest.Md5Auth id digest))
  of_other : OfControl (Request.Connect ConnectRequest.OtherAuth)
  of_config : (q : ConfigRequest) → OfControl (Request.Config q)

pub record ControlLeaves (k : Kept) (a : Answered) : Type 0 where
  pub alone : LoginAlone k a.next
  pub notices : a.notices ≡ []

-- ---- 0x103, by its bytes
pub record AttributesAsked (k : Kept) (l : Lent) (r : List ℕ) : Type 0 where
  pub md5 : length (body_of r) ≡ 4 → word (body_of r) 0 ≡ 2 → body_in (answered k l r).reply ≡ be32 0 ++ (be32 2 ++ l.challenge)
  -- "9 for type 1, at 0x103 too, its rest unread", as for every type but 2
  pub other : 4 ≤ length (body_of r) → (word (body_of r) 0 ≡ 2 → ⊥) → body_in (answered k l r).reply ≡ be32 illegal_arguments ++ be32 0
  -- a body that is short, and one with a byte behind the type 2, does not decode
  pub short : length (body_of r) < 4 → request_in r ≡ Request.Bad
  pub long : 4 < length (body_of r) → word (body_of r) 0 ≡ 2 → request_in r ≡ Request.Bad

-- ---- 0x901, by its bytes
-- "9 for type 1, .. its rest unread, before any account is looked at", as for every type but 2: the reply is 9 alone, and what follows hangs on no
-- account and on no byte behind the type; of the session only the counter and the mark change, so that who is logged in stays so
pub record WithdrawnAsked (k : Kept) (l : Lent) (r : List ℕ) : Type 0 where
  pub told : body_in (answered k l r).reply ≡ be32 illegal_arguments
  pub leaves : ControlLeaves k (answered k l r)
  pub login : (answered k l r).next.session.login ≡ k.session.login
