-- The requests of CONNECT and CONFIG (paper 01, "Connection"; 02 No. 2 and No. 10). They see what the connection knows of its client, and whether a request was
-- answered before; only auth and 0x103 change the former.
use Rattle.std.specs.Prelude.{ℕ, Bool, true, false, not, List, [], ◌∷◌, eqb}
use Rattle.codes.specs.Codes.{version_four, md5_auth, not_authorized, illegal_arguments, illegal_state}
use Rattle.xdr.specs.Choose.{choose}
use Rattle.wire_accounts.specs.Accounts.{entries_in, md5_matches, any_of}
use Rattle.wire_requests.specs.Within.{bytes_at}
use Rattle.wire_requests.specs.declared.ConnectRequest.{ConnectRequest}
use Rattle.wire_requests.specs.declared.ConnectRequest.TheVariants.{Open, Md5Auth, OtherAuth, Close}
use Rattle.wire_requests.specs.declared.ConfigRequest.{ConfigRequest}
use Rattle.wire_requests.specs.declared.ConfigRequest.TheVariants.{ConnectionType, AuthAttributes, ServerInfo}
use Rattle.wire_replies.specs.declared.Reply.TheVariants as Reply
use Rattle.rules_parts.specs.declared.types.Login.{Login}
use Rattle.rules_parts.specs.Parts.{logged_in, challenged_by}
use Rattle.rules.specs.Judge.{test, Outcome, refuse, accept, judge}

-- "Open is legal as the first answered request only (else 19) and with version 4 only (else 9)."
unfoldable pub connect_open : Bool → Login → ℕ → Outcome Login
connect_open fresh g version =
    judge (test (not fresh) illegal_state ∷ test (not (eqb version version_four)) illegal_arguments ∷ []) (accept Reply.Plain g)

-- the id and the digest of an MD5 login, with the accounts as they are lent. "where an id stands twice any entry may match"; "The newest challenge is
-- the one judged"; "4 if no challenge was given"
unfoldable pub right_digest : Login → List ℕ → List ℕ → List ℕ → Bool
right_digest g accounts id digest = choose g.challenged (any_of (md5_matches id g.challenge digest) (entries_in accounts)) false

-- "4: .. also a wrong id or password". A refusal leaves the session as it was, authorized or not.
unfoldable pub client_auth : Login → Bool → Outcome Login
client_auth g right = judge (test (not right) not_authorized ∷ []) (accept Reply.Plain (logged_in g))

-- the CONNECT step. "9 for a type other than 1 and 2", and with No. 10 "for type 1, .. before any account is looked at". A close is accepted, and is not
-- answered
unfoldable pub connect_step : Bool → Login → List ℕ → ConnectRequest → List ℕ → Outcome Login
connect_step fresh g accounts (Open version) body = connect_open fresh g version
connect_step fresh g accounts (Md5Auth id digest) body = client_auth g (right_digest g accounts (bytes_at body id) (bytes_at body digest))
connect_step fresh g accounts OtherAuth body = refuse illegal_arguments
connect_step fresh g accounts Close body = accept Reply.Plain g

-- "the auth attribute request (0x103), which gives a 64-byte challenge that the host lends"; "9 for a type other than 1 and 2", and "for type 1, at 0x103
-- too"
unfoldable pub auth_attributes : Login → List ℕ → ℕ → Outcome Login
auth_attributes g challenge type =
    choose (eqb type md5_auth) (accept Reply.Challenge (challenged_by challenge g)) (refuse illegal_arguments)

-- the CONFIG step, with the challenge that is lent. "Server info gives empty strings before auth"
unfoldable pub config_step : Login → List ℕ → ConfigRequest → Outcome Login
config_step g challenge ConnectionType = accept Reply.ConnectionTypes g
config_step g challenge (AuthAttributes type) = auth_attributes g challenge type
config_step g challenge ServerInfo = accept (Reply.ServerInfo g.authorized) g
