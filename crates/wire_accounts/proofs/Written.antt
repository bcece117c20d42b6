-- Accounts that were written are read back. Assumes nothing.
use Prim.Native.Nat.{ℕ, ◌+◌, ◌^◌, ◌≤◌, ◌<◌}
use mathlib.Core.Bool.{true}
use mathlib.Core.List.{List, [], ◌∷◌, ◌++◌}
use mathlib.Core.Logic.{◌⊎◌, inl, inr}
use mathlib.Core.Path.{◌≡◌}
use native.Mathlib.Omega.{arith}
use lib.ListN.{length, length-append}
use borrow.Author.Tests.{le-leb, eq-eqb}
use Rattle.codes.specs.Codes.{text_auth, md5_auth, most_accounts}
use Rattle.xdr.specs.Choose.{choose}
use Rattle.xdr.specs.Xdr.{be32, word}
use Rattle.xdr.proofs.Laws.{length_be32}
use Rattle.xdr_opaque.specs.Put.{Each, opaque}
use Rattle.xdr_opaque.proofs.Fields.{From, all_of, from_length, past, grouped, word_is, opaque_found, opaque_bytes}
use Rattle.wire_accounts.specs.Accounts.{AccountEntry, found, these}
use Rattle.wire_accounts.specs.Accounts.{is_kind, with_password, with_id, account_at, with_account, and_then, accounts_from, accounts_in}
use Rattle.wire_accounts.specs.Written.{account_bytes, entry_bytes, accounts_bytes, Writable}

kind_is : (k : ℕ) → (k ≡ text_auth) ⊎ (k ≡ md5_auth) → (is_kind k ≡ true) × (k < 2 ^ 32)
unfolding is_kind choose
kind_is k (inl e) = (rw e, omega (arith, e))
kind_is k (inr e) = (rw e, omega (arith, e))

module _ {b : List ℕ} where
  -- one account, and what stands behind it
  one : {at : ℕ} (e : AccountEntry) (q : List ℕ) → From b at (account_bytes e ++ q) → Writable e
      → (account_at b at ≡ found e (at + length (account_bytes e))) × From b (at + length (account_bytes e)) q
  unfolding account_bytes account_at with_id with_password choose
  one {at} e q f w =
      let k = kind_is e.kind w.kind in
      let f₁ = grouped q (be32 e.kind) (opaque e.id ++ opaque e.password) f in
      let f₂ : From b (at + 4) ((opaque e.id ++ opaque e.password) ++ q) = rw length_be32 at (past (be32 e.kind) f₁) in
      let f₃ = grouped q (opaque e.id) (opaque e.password) f₂ in
      let f₄ = past (opaque e.id) f₃ in
      let n : at + length (be32 e.kind ++ (opaque e.id ++ opaque e.password)) ≡ at + 4 + length (opaque e.id) + length (opaque e.password) =
      simp (length-append, length_be32) (omega arith)
      in
      let v = word_is _ e.kind f₁ k.1 in (
        rw (
          ← v,
          k.0,
          ← opaque_found _ e.id f₃ w.id,
          ← opaque_found _ e.password f₄ w.password,
          opaque_bytes _ e.id f₃ w.id,
          opaque_bytes _ e.password f₄ w.password,
          n,
        ),
        past (account_bytes e) f,
      )

  several : {at : ℕ} (es : List AccountEntry) → From b at (entry_bytes es) → Each Writable es → accounts_from b (length es) at ≡ these es
  unfolding accounts_from entry_bytes and_then with_account choose
  several {at = at} [] f w = let n : at ≡ length b = omega (arith, from_length f) in rw (eq-eqb at (length b) n)
  several {at = at} (e ∷ es) f w =
      let o = one e (entry_bytes es) f w.0 in
      rw (o.0, several {at = at + length (account_bytes e)} es o.1 w.1)

pub back : (es : List AccountEntry) → length es ≤ most_accounts → Each Writable es → accounts_in (accounts_bytes es) ≡ these es
unfolding accounts_in accounts_bytes choose
back es h w =
    let b : List ℕ = be32 (length es) ++ entry_bytes es in
    let f : From b 0 b = all_of b in
    let v : length es ≡ word b 0 = word_is (entry_bytes es) (length es) f (omega arith) in
    let f₁ : From b 4 (entry_bytes es) = rw length_be32 at (past (be32 (length es)) f) in
    let n : 4 ≤ length b = omega (arith, from_length f₁) in
    rw (le-leb 4 (length b) n, ← v, le-leb (length es) most_accounts h) (several es f₁ w)
