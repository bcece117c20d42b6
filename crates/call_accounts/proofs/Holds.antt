-- The statements of specs/Holds.antt. Assumes nothing.
use Prim.Native.Nat.{ℕ, ◌+◌, ◌*◌, ◌≤◌, ◌<◌}
use mathlib.Core.Bool.{false}
use mathlib.Core.List.{List, [], ◌∷◌, ◌++◌}
use mathlib.Core.Logic.{inl, inr}
use mathlib.Core.Path.{◌≡◌, sym, subst}
use native.Mathlib.Omega.{arith}
use native.Mathlib.Nat.{zero-add}
use lib.Dec.{eqb}
use lib.ListN.{length, drop, length-append}
use borrow.Author.Tests.{ne_eqb, lt-ltb, le-ltb}
use Rattle.codes.specs.Codes.{md5_auth}
use Rattle.xdr.specs.Choose.{choose}
use Rattle.xdr.specs.Xdr.{overlay}
use Rattle.xdr.proofs.Tests.{by_test}
use Rattle.xdr_opaque.specs.Put.{Each}
use Rattle.wire_accounts.specs.Accounts.{AccountEntry, broken, accounts_in, entries_of, entries_in}
use Rattle.wire_accounts.specs.Written.{Marked}
use Rattle.wire_accounts.proofs.Entries.{few, marked}
use Rattle.call_accounts.specs.Listing.{word_of, line_of, lines_from, listing, told, listed, listed_out}
use Rattle.call_accounts.specs.Holds.{before, parts, Line, md5_line, text_line, Lines, end, line, ListingHolds}
use Rattle.call_accounts.proofs.Laws.{line_most}

-- ---- line by line
-- a line without its line feed
abbrev bare : ℕ → ℕ → List ℕ
bare number kind = (48 + number) ∷ 32 ∷ word_of kind

parts_line : (number kind : ℕ) (r : List ℕ) → parts (line_of number kind ++ r) ≡ bare number kind ∷ parts r
unfolding parts before line_of word_of choose
parts_line number kind r =
    let d : eqb (48 + number) 10 ≡ false = ne_eqb (48 + number) 10 (λ e. omega (arith, e)) in
    by_test (λ (w : List ℕ). parts (((48 + number) ∷ 32 ∷ (w ++ (10 ∷ []))) ++ r) ≡ ((48 + number) ∷ 32 ∷ w) ∷ parts r) (eqb kind md5_auth) _ _
    (λ h. rw d) (λ h. rw d)

bare_line : (number : ℕ) (e : AccountEntry) → Marked e → Line number e.kind (bare number e.kind)
unfolding word_of choose
bare_line number e (inl t) = rw t text_line
bare_line number e (inr t) = rw t md5_line

lines_from_lem : (number : ℕ) (es : List AccountEntry) → Each Marked es → Lines number es (parts (lines_from number es))
unfolding lines_from parts
lines_from_lem number [] k = end
lines_from_lem number (e ∷ es) k =
    subst (Lines number (e ∷ es)) (sym (parts_line number e.kind (lines_from (number + 1) es)))
    (line (bare_line number e k.0) (lines_from_lem (number + 1) es k.1))

lines : (b : List ℕ) → Lines 0 (entries_in b) (parts (listing b))
unfolding listing
lines b = lines_from_lem 0 (entries_in b) (marked b)

none : (b : List ℕ) → accounts_in b ≡ broken → listing b ≡ []
unfolding listing lines_from entries_of
none b e = rw e

-- ---- its length
most_from : (number : ℕ) (es : List AccountEntry) → length (lines_from number es) ≤ 12 * length es
unfolding lines_from
most_from number [] = omega arith
most_from number (e ∷ es) =
    rw length-append (omega (arith, line_most number e.kind, most_from (number + 1) es))

fits : (b : List ℕ) → length (listing b) ≤ 96
unfolding listing
fits b = omega (arith, most_from 0 (entries_in b), few b)

-- ---- the call
short : (b o : List ℕ) → length o < 96 → (listed b o ≡ told 1001 0) × (listed_out b o ≡ o)
unfolding listed listed_out choose
short b o h = let t = lt-ltb (length o) 96 h in (rw t, rw t)

long : (b o : List ℕ) → 96 ≤ length o → (listed b o ≡ told 0 (length (listing b))) × (listed_out b o ≡ listing b ++ drop (length (listing b)) o)
unfolding listed listed_out choose overlay
long b o h = let t = le-ltb (length o) 96 h in (rw t, rw (t, zero-add))

pub listing_holds : ListingHolds
listing_holds = record { lines = lines; none = none; fits = fits; short = short; long = long }
