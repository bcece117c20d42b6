-- The accounts that a host lends (02 No. 2): "The accounts grow to eight, each marked text or MD5". The layout of the
-- buffer is ours, and is XDR (RFC 4506): a count, and of each account its kind, as 004 numbers auth types, its id and its
-- password, both strings. "Account stores still holding text entries are read without complaint" (02 No. 10).
use Rattle.std.specs.Prelude.{ℕ, zero, suc, ◌+◌, ◌≤◌, ◌≡◌, Bool, true, false, List, [], ◌∷◌, eqb, leb, length, take, drop, Option, Some, None}
use Rattle.codes.specs.Codes.{text_auth, md5_auth, most_accounts, longest_password}
use Rattle.xdr.specs.Choose.{choose}
use Rattle.xdr.specs.Xdr.{word, same_bytes}
use Rattle.xdr_opaque.specs.Opaque.{opaque_at}
use Rattle.xdr_opaque.specs.declared.Opaque.{Opaque}
use Rattle.md5_digest.specs.Login.{login_digest}

pub record AccountEntry : Type 0 where
  pub kind : ℕ
  pub id : List ℕ
  pub password : List ℕ

-- ---- read
pub data AccountRead : Type 0 where
  found : AccountEntry → ℕ → AccountRead
  none : AccountRead

unfoldable pub is_kind : ℕ → Bool
is_kind kind = choose (eqb kind text_auth) true (eqb kind md5_auth)

unfoldable pub with_password : List ℕ → ℕ → List ℕ → Option Opaque → AccountRead
with_password b kind id (Some o) = found (record { kind = kind; id = id; password = take o.len (drop o.start b) }) o.next
with_password b kind id None = none

unfoldable pub with_id : List ℕ → ℕ → Option Opaque → AccountRead
with_id b kind (Some o) = with_password b kind (take o.len (drop o.start b)) (opaque_at b o.next)
with_id b kind None = none

-- the account at an offset, and the offset behind it
unfoldable pub account_at : List ℕ → ℕ → AccountRead
account_at b at = choose (is_kind (word b at)) (with_id b (word b at) (opaque_at b (at + 4))) none

-- so many accounts from an offset on, to the end of the buffer; or that it is not laid out so
pub data Accounts : Type 0 where
  these : List AccountEntry → Accounts
  broken : Accounts

unfoldable pub with_account : AccountEntry → Accounts → Accounts
with_account e (these es) = these (e ∷ es)
with_account e broken = broken

unfoldable pub and_then : AccountRead → (ℕ → Accounts) → Accounts
and_then (found e next) f = with_account e (f next)
and_then none f = broken

unfoldable pub accounts_from : List ℕ → ℕ → ℕ → Accounts
accounts_from b zero at = choose (eqb at (length b)) (these []) broken
accounts_from b (suc n) at = and_then (account_at b at) (accounts_from b n)

unfoldable pub accounts_in : List ℕ → Accounts
accounts_in b =
    choose (leb 4 (length b))
    (choose (leb (word b 0) most_accounts) (accounts_from b (word b 0) 4) broken)
    broken

-- one that is not laid out so has no entries: nobody gets in
unfoldable pub entries_of : Accounts → List AccountEntry
entries_of (these es) = es
entries_of broken = []

unfoldable pub are_laid : Accounts → Bool
are_laid (these es) = true
are_laid broken = false

-- so many accounts are laid out from an offset on, to the end of the buffer
pub record Laid (b : List ℕ) (n at : ℕ) : Type 0 where
  pub within : at ≤ length b
  pub laid : are_laid (accounts_from b n at) ≡ true

abbrev pub entries_in : List ℕ → List AccountEntry
entries_in b = entries_of (accounts_in b)

-- ---- who gets in
-- a password of 1 to 32 bytes
unfoldable pub is_digestible : List ℕ → Bool
is_digestible password = choose (leb 1 (length password)) (leb (length password) longest_password) false

-- the digest that a login with this password and challenge sends
unfoldable pub is_digest : List ℕ → List ℕ → List ℕ → Bool
is_digest password challenge digest =
    choose (is_digestible password) (same_bytes digest (login_digest password challenge)) false

-- "login by the other kind is a wrong password", and (02 No. 10) a text entry "never lets anyone in"
unfoldable pub md5_matches : List ℕ → List ℕ → List ℕ → AccountEntry → Bool
md5_matches id challenge digest e =
    choose (eqb e.kind md5_auth) (choose (same_bytes id e.id) (is_digest e.password challenge digest) false) false

-- "where an id stands twice any entry may match"
unfoldable pub any_of : (AccountEntry → Bool) → List AccountEntry → Bool
any_of p [] = false
any_of p (e ∷ es) = choose (p e) true (any_of p es)
