-- The statements of specs/Holds.antt. Assumes nothing.
use Prim.Native.Nat.{ℕ}
use mathlib.Core.Bool.{Bool, true, false}
use mathlib.Core.List.{List, [], ◌∷◌, ◌++◌}
use mathlib.Core.Path.{◌≡◌, refl, ap}
use native.Mathlib.Omega.{arith}
use lib.Dec.{eqb, leb}
use lib.ListN.{length}
use borrow.Author.Tests.{leb-true, le-leb, eqb-true, eq-eqb, ne_eqb}
use Rattle.codes.specs.Codes.{text_auth, md5_auth, longest_password}
use Rattle.xdr.specs.Choose.{choose}
use Rattle.xdr.specs.Xdr.{same_bytes}
use Rattle.xdr.proofs.Comparing.{same_is, is_same}
use Rattle.xdr_opaque.specs.Put.{Each}
use Rattle.md5_digest.specs.Login.{login_digest}
use Rattle.wire_accounts.specs.Accounts.{AccountEntry, broken, accounts_in, entries_of, entries_in}
use Rattle.wire_accounts.specs.Accounts.{is_digestible, is_digest, md5_matches, any_of}
use Rattle.wire_accounts.proofs.Entries.{few, marked}
use Rattle.wire_accounts.proofs.Written.{back}
use Rattle.wire_accounts.specs.Holds.{Among, here, later, ByMd5, AccountsHold}

both : (a b : Bool) → choose a b false ≡ true → (a ≡ true) × (b ≡ true)
unfolding choose
both true b e = (refl, e)
both false b e = cc

all_true : (a b : Bool) → a ≡ true → b ≡ true → choose a b false ≡ true
unfolding choose
all_true a b e f = rw (e, f)

-- ---- one of a list
first_or : (p : AccountEntry → Bool) (e : AccountEntry) (es : List AccountEntry) (t : Bool) → p e ≡ t → (any_of p es ≡ true → Among p es) → choose t true (any_of p es) ≡ true → Among p (e ∷ es)
unfolding choose
first_or p e es true h f k = here h
first_or p e es false h f k = later (f k)

found : (p : AccountEntry → Bool) (es : List AccountEntry) → any_of p es ≡ true → Among p es
unfolding any_of
found p [] h = cc
found p (e ∷ es) h = first_or p e es (p e) refl (found p es) h

or_true : (t : Bool) → choose t true true ≡ true
unfolding choose
or_true true = refl
or_true false = refl

enters : (p : AccountEntry → Bool) (es : List AccountEntry) → Among p es → any_of p es ≡ true
unfolding any_of choose
enters p [] x' = elim x' [ ]
enters p (e ∷ es) (here h) = rw h
enters p (e ∷ es) (later h) = rw (enters p es h) (or_true (p e))

-- ---- one entry
module _ (id : List ℕ) (e : AccountEntry) where
  md5 : (challenge digest : List ℕ) → md5_matches id challenge digest e ≡ true → ByMd5 id challenge digest e
  unfolding md5_matches is_digest is_digestible
  md5 challenge digest h =
      let k = both (eqb e.kind md5_auth) _ h in
      let i = both (same_bytes id e.id) _ k.1 in
      let d = both _ (same_bytes digest (login_digest e.password challenge)) i.1 in
      let l = both (leb 1 (length e.password)) (leb (length e.password) longest_password) d.0 in
      record {
        kind = eqb-true _ _ k.0;
        same_id = same_is _ _ i.0;
        some = leb-true _ _ l.0;
        short = leb-true _ _ l.1;
        same_digest = same_is _ _ d.1;
      }

  md5_enters : (challenge digest : List ℕ) → ByMd5 id challenge digest e → md5_matches id challenge digest e ≡ true
  unfolding md5_matches is_digest is_digestible
  md5_enters challenge digest t =
      let i : same_bytes id e.id ≡ true = rw t.same_id (is_same e.id) in
      let w : List ℕ = login_digest e.password challenge in
      let d : same_bytes digest w ≡ true = rw t.same_digest (is_same w) in
      let l = all_true _ _ (le-leb 1 (length e.password) t.some) (le-leb (length e.password) longest_password t.short) in
      all_true _ _ (eq-eqb _ _ t.kind) (all_true _ _ i (all_true _ _ l d))

-- ---- text entries
module _ (id challenge digest : List ℕ) where
  withdrawn : (e : AccountEntry) → e.kind ≡ text_auth → md5_matches id challenge digest e ≡ false
  unfolding md5_matches choose
  withdrawn e k = rw (ne_eqb e.kind md5_auth (λ m. omega (arith, k, m)))

  passed_over : (es fs : List AccountEntry) (e : AccountEntry) → e.kind ≡ text_auth
      → any_of (md5_matches id challenge digest) (es ++ (e ∷ fs)) ≡ any_of (md5_matches id challenge digest) (es ++ fs)
  unfolding any_of choose
  passed_over [] fs e k = rw (withdrawn e k)
  passed_over (f ∷ es) fs e k = ap (choose (md5_matches id challenge digest f) true) (passed_over es fs e k)

  nobody : (es : List AccountEntry) → Each (λ e. e.kind ≡ text_auth) es → any_of (md5_matches id challenge digest) es ≡ false
  unfolding any_of choose
  nobody [] k = refl
  nobody (e ∷ es) k = rw (withdrawn e k.0) (nobody es k.1)

-- ---- a buffer that is not laid out so
shut : (b : List ℕ) → accounts_in b ≡ broken → (p : AccountEntry → Bool) → any_of p (entries_in b) ≡ false
unfolding entries_of any_of
shut b e p = rw e

pub accounts_hold : AccountsHold
accounts_hold =
    record {
      found = found;
      enters = enters;
      md5 = λ id challenge digest e. md5 id e challenge digest;
      md5_enters = λ id challenge digest e. md5_enters id e challenge digest;
      withdrawn = withdrawn;
      passed_over = passed_over;
      nobody = λ id challenge digest b. nobody id challenge digest (entries_in b);
      back = back;
      few = few;
      marked = marked;
      shut = shut;
    }
