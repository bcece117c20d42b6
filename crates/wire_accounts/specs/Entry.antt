-- An account of the code, and what it stands for.
use Rattle.std.specs.Prelude.{◌≡◌, ℕ, false, Option, Some, None, Result, MatchResult}
use Rattle.codes.specs.Codes.{text_auth, md5_auth}
use Rattle.wire_accounts.specs.Accounts.{AccountEntry, AccountRead, found, none, is_kind}
use Rattle.wire_accounts.specs.declared.Account.{Account}
use Rattle.wire_accounts.specs.declared.Kind.{Kind}
use Rattle.wire_accounts.specs.declared.Kind.TheVariants.{Text, Md5}
use Rattle.wire_accounts.specs.declared.UnknownKind.{UnknownKind}

-- the number of a kind
abbrev pub number_of : Kind → ℕ
number_of Text = text_auth
number_of Md5 = md5_auth

-- the kind of a number, or that it is none's
abbrev pub KindOf : ℕ → Result Kind UnknownKind → Type 0
KindOf number r = MatchResult r (λ kind. number_of kind ≡ number) (λ _. is_kind number ≡ false)

abbrev pub entry_of : Account → AccountEntry
entry_of a = record { kind = number_of a.kind; id = a.id.now; password = a.password.now }

-- an account and the offset behind it, or none
abbrev pub read_as : Option (Account × ℕ) → AccountRead
read_as (Some p) = found (entry_of p.0) p.1
read_as None = none
