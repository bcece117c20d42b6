-- What the definitions say of every buffer and every login.
use Rattle.std.specs.Prelude.{ℕ, ◌<◌, ◌≤◌, Bool, true, false, List, ◌∷◌, ◌++◌, ◌≡◌, length}
use Rattle.codes.specs.Codes.{text_auth, md5_auth, most_accounts, longest_password}
use Rattle.xdr_opaque.specs.Put.{Each}
use Rattle.md5_digest.specs.Login.{login_digest}
use Rattle.wire_accounts.specs.Accounts.{AccountEntry, these, broken, accounts_in, entries_in, md5_matches, any_of}
use Rattle.wire_accounts.specs.Written.{accounts_bytes, Marked, Writable}

-- an entry of a list has it
pub data Among (p : AccountEntry → Bool) : List AccountEntry → Type 0 where
  here : {e : AccountEntry} {es : List AccountEntry} → p e ≡ true → Among p (e ∷ es)
  later : {e : AccountEntry} {es : List AccountEntry} → Among p es → Among p (e ∷ es)

-- whom an entry lets in
pub record ByMd5 (id challenge digest : List ℕ) (e : AccountEntry) : Type 0 where
  pub kind : e.kind ≡ md5_auth
  pub same_id : id ≡ e.id
  pub some : 0 < length e.password
  pub short : length e.password ≤ longest_password
  pub same_digest : digest ≡ login_digest e.password challenge

pub record AccountsHold : Type 0 where
  pub found : (p : AccountEntry → Bool) (es : List AccountEntry) → any_of p es ≡ true → Among p es
  pub enters : (p : AccountEntry → Bool) (es : List AccountEntry) → Among p es → any_of p es ≡ true
  pub md5 : (id challenge digest : List ℕ) (e : AccountEntry) → md5_matches id challenge digest e ≡ true → ByMd5 id challenge digest e
  pub md5_enters : (id challenge digest : List ℕ) (e : AccountEntry) → ByMd5 id challenge digest e → md5_matches id challenge digest e ≡ true
  -- a text entry "never lets anyone in": whatever is sent; it may as well not be there; and nobody gets in by a buffer of such alone
  pub withdrawn : (id challenge digest : List ℕ) (e : AccountEntry) → e.kind ≡ text_auth → md5_matches id challenge digest e ≡ false
  pub passed_over : (id challenge digest : List ℕ) (es fs : List AccountEntry) (e : AccountEntry) → e.kind ≡ text_auth
      → any_of (md5_matches id challenge digest) (es ++ (e ∷ fs)) ≡ any_of (md5_matches id challenge digest) (es ++ fs)
  pub nobody : (id challenge digest b : List ℕ) → Each (λ e. e.kind ≡ text_auth) (entries_in b)
      → any_of (md5_matches id challenge digest) (entries_in b) ≡ false
  -- accounts that were written are read back, whatever they are
  pub back : (es : List AccountEntry) → length es ≤ most_accounts → Each Writable es → accounts_in (accounts_bytes es) ≡ these es
  -- "The accounts grow to eight, each marked text or MD5", of any buffer
  pub few : (b : List ℕ) → length (entries_in b) ≤ 8
  pub marked : (b : List ℕ) → Each Marked (entries_in b)
  -- a buffer that is not laid out so lets nobody in
  pub shut : (b : List ℕ) → accounts_in b ≡ broken → (p : AccountEntry → Bool) → any_of p (entries_in b) ≡ false
