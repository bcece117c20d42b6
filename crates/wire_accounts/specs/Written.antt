-- Accounts as a host writes them: the layout that `accounts_in` reads, the other way round.
use Rattle.std.specs.Prelude.{ℕ, ◌^◌, ◌<◌, List, [], ◌∷◌, ◌++◌, ◌⊎◌, ◌≡◌, length}
use Rattle.codes.specs.Codes.{text_auth, md5_auth}
use Rattle.xdr.specs.Xdr.{be32}
use Rattle.xdr_opaque.specs.Put.{opaque}
use Rattle.wire_accounts.specs.Accounts.{AccountEntry}

-- its kind, its id and its password
unfoldable pub account_bytes : AccountEntry → List ℕ
account_bytes e = be32 e.kind ++ (opaque e.id ++ opaque e.password)

unfoldable pub entry_bytes : List AccountEntry → List ℕ
entry_bytes [] = []
entry_bytes (e ∷ es) = account_bytes e ++ entry_bytes es

-- a count, and each account
unfoldable pub accounts_bytes : List AccountEntry → List ℕ
accounts_bytes es = be32 (length es) ++ entry_bytes es

-- "each marked text or MD5"
abbrev pub Marked : AccountEntry → Type 0
Marked e = (e.kind ≡ text_auth) ⊎ (e.kind ≡ md5_auth)

-- an account that can be written: it is marked so, and the lengths of its strings fit a word
pub record Writable (e : AccountEntry) : Type 0 where
  pub kind : Marked e
  pub id : length e.id < 2 ^ 32
  pub password : length e.password < 2 ^ 32
