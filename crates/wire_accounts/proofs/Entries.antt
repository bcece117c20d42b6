-- Of any buffer: there are at most eight entries, each marked text or MD5. Assumes nothing.
use Prim.Native.Nat.{ℕ, zero, suc, ◌+◌, ◌≤◌}
use mathlib.Core.Bool.{Bool, true}
use mathlib.Core.List.{List, []}
use mathlib.Core.Logic.{◌⊎◌, inl, inr}
use mathlib.Core.Path.{◌≡◌}
use native.Mathlib.Omega.{arith}
use lib.Dec.{eqb, leb}
use lib.ListN.{length}
use borrow.Author.Tests.{eqb-true, leb-true}
use Rattle.codes.specs.Codes.{text_auth, md5_auth, most_accounts}
use Rattle.xdr.specs.Xdr.{word}
use Rattle.xdr.proofs.Tests.{by_test}
use Rattle.std.specs.Prelude.{Option, Some, None}
use Rattle.xdr_opaque.specs.Opaque.{opaque_at}
use Rattle.xdr_opaque.specs.Put.{Each}
use Rattle.xdr_opaque.specs.declared.Opaque.{Opaque}
use Rattle.wire_accounts.specs.Accounts.{AccountEntry, AccountRead, found, none, Accounts, these, broken, entries_of, entries_in}
use Rattle.wire_accounts.specs.Accounts.{is_kind, with_password, with_id, account_at, with_account, and_then, accounts_from, accounts_in}
use Rattle.wire_accounts.specs.Written.{Marked}

-- at most n entries, each marked so
Within : ℕ → Accounts → Type 0
Within n x = (length (entries_of x) ≤ n) × Each Marked (entries_of x)

-- ---- one account
MarkedRead : AccountRead → Type 0
MarkedRead (found e next) = Marked e
MarkedRead none = Unit

mark_is : (kind : ℕ) → is_kind kind ≡ true → (kind ≡ text_auth) ⊎ (kind ≡ md5_auth)
unfolding is_kind
mark_is kind h =
    by_test (λ (t : Bool). t ≡ true → (kind ≡ text_auth) ⊎ (kind ≡ md5_auth)) (eqb kind text_auth) true (eqb kind md5_auth)
    (λ k _. inl (eqb-true _ _ k)) (λ _ k. inr (eqb-true _ _ k)) h

module _ (b : List ℕ) (kind : ℕ) (h : is_kind kind ≡ true) where
  password_marked : (id : List ℕ) (o : Option Opaque) → MarkedRead (with_password b kind id o)
  unfolding MarkedRead with_password
  password_marked id (Some o) = mark_is kind h
  password_marked id None = tt

  id_marked : (o : Option Opaque) → MarkedRead (with_id b kind o)
  unfolding MarkedRead with_id
  id_marked (Some o) = password_marked _ (opaque_at b o.next)
  id_marked None = tt

read_marked : (b : List ℕ) (at : ℕ) → MarkedRead (account_at b at)
unfolding MarkedRead account_at
read_marked b at =
    by_test MarkedRead (is_kind (word b at)) (with_id b (word b at) (opaque_at b (at + 4))) none
    (λ h. id_marked b (word b at) h (opaque_at b (at + 4))) (λ h. tt)

-- ---- so many accounts
no_entry : (n : ℕ) → Within n broken
unfolding Within entries_of
no_entry n = (omega arith, tt)

no_more : Within 0 (these [])
unfolding Within entries_of
no_more = (omega arith, tt)

with_entry : (n : ℕ) (e : AccountEntry) (x : Accounts) → Marked e → Within n x → Within (suc n) (with_account e x)
unfolding Within entries_of with_account
with_entry n e (these es) k w = (omega (arith, w.0), (k, w.1))
with_entry n e broken k w = (omega arith, tt)

then_entries : (n : ℕ) (r : AccountRead) (f : ℕ → Accounts) → MarkedRead r → ((at : ℕ) → Within n (f at)) → Within (suc n) (and_then r f)
unfolding MarkedRead and_then
then_entries n (found e next) f k w = with_entry n e (f next) k (w next)
then_entries n none f k w = no_entry (suc n)

from_within : (b : List ℕ) (n at : ℕ) → Within n (accounts_from b n at)
unfolding accounts_from
from_within b zero at = by_test (Within 0) (eqb at (length b)) (these []) broken (λ h. no_more) (λ h. no_entry 0)
from_within b (suc n) at = then_entries n (account_at b at) (accounts_from b n) (read_marked b at) (from_within b n)

more : (n : ℕ) (x : Accounts) → n ≤ most_accounts → Within n x → Within most_accounts x
unfolding Within
more n x h w = (omega (arith, w.0), w.1)

all_within : (b : List ℕ) → Within most_accounts (accounts_in b)
unfolding accounts_in
all_within b =
    by_test (Within most_accounts) (leb 4 (length b)) _ broken
    (λ h. by_test (Within most_accounts) (leb (word b 0) most_accounts) (accounts_from b (word b 0) 4) broken
    (λ k. more (word b 0) _ (leb-true _ _ k) (from_within b (word b 0) 4)) (λ k. no_entry most_accounts))
    (λ h. no_entry most_accounts)

pub few : (b : List ℕ) → length (entries_in b) ≤ most_accounts
unfolding Within
few b = (all_within b).0

pub marked : (b : List ℕ) → Each Marked (entries_in b)
unfolding Within
marked b = (all_within b).1
