-- Laws of the listing: a line, the lines of the accounts that are left, and the call. Assumes nothing.
use Prim.Native.Nat.{ℕ, ◌+◌, ◌*◌, ◌≤◌, ◌<◌}
use mathlib.Core.Bool.{false}
use mathlib.Core.List.{List, [], ◌∷◌, ◌++◌, append_assoc, append-nil}
use mathlib.Core.Path.{◌≡◌, refl, sym, ap, ◌∙◌}
use native.Mathlib.Omega.{arith}
use lib.Dec.{eqb}
use lib.ListN.{length, set}
use borrow.Author.Tests.{eq-eqb, lt-ltb, le-ltb}
use Rattle.codes.specs.Codes.{text_auth, md5_auth, short_output, most_accounts}
use Rattle.xdr.specs.Choose.{choose}
use Rattle.xdr.proofs.Laws.{overlay_none, store_one}
use Rattle.xdr.proofs.Tests.{by_test}
use Rattle.xdr_opaque.specs.Put.{Put}
use Rattle.xdr_opaque.proofs.Laws.{then, put}
use Rattle.wire_accounts.specs.Accounts.{AccountEntry, are_laid, accounts_in, entries_in}
use Rattle.wire_accounts.proofs.Laws.{none_in}
use Rattle.call_accounts.specs.Listing.{least_listing, word_of, line_of, lines_from, listing, told, listed, listed_out, ListingTold}

-- ---- a line
module _ {at last : ℕ} (number kind : ℕ) {l m : List ℕ} (h : at < length l) where
  digit : (text : List ℕ) → Put (at + 1) text (set l at (48 + number)) last m → Put at ((48 + number) ∷ text) l last m
  digit text q = then (put (at + 1) (store_one at (48 + number) l h) (omega arith)) q

  pub line_md5 : kind ≡ md5_auth → Put (at + 1) (32 ∷ 109 ∷ 100 ∷ 53 ∷ 10 ∷ []) (set l at (48 + number)) last m → Put at (line_of number kind) l last m
  unfolding line_of word_of choose
  line_md5 e q = rw (eq-eqb kind md5_auth e) (digit _ q)

  pub line_text : kind ≡ text_auth
      → Put (at + 1) (32 ∷ 119 ∷ 105 ∷ 116 ∷ 104 ∷ 100 ∷ 114 ∷ 97 ∷ 119 ∷ 110 ∷ 10 ∷ []) (set l at (48 + number)) last m → Put at (line_of number kind) l last m
  unfolding line_of word_of choose
  line_text e q = rw e (digit _ q)

pub line_most : (number kind : ℕ) → length (line_of number kind) ≤ 12
unfolding line_of word_of
line_most number kind =
    by_test (λ (w : List ℕ). length ((48 + number) ∷ 32 ∷ (w ++ (10 ∷ []))) ≤ 12) (eqb kind md5_auth) _ _ (λ h. omega arith) (λ h. omega arith)

-- ---- the lines that are left
-- of the lines of all entries so many are written; those of the rest begin with a number
pub record Going (all rest : List AccountEntry) (number : ℕ) (l : List ℕ) (next : ℕ) (m : List ℕ) : Type 0 where
  pub few : number + length rest ≤ most_accounts
  pub room : next ≤ 12 * number
  pub done : List ℕ
  pub whole : lines_from 0 all ≡ done ++ lines_from number rest
  pub wrote : Put 0 done l next m

pub going_first : {all : List AccountEntry} {l : List ℕ} → length all ≤ most_accounts → Going all all 0 l 0 l
going_first {all} {l} h =
    record { few = omega arith; room = omega arith; done = []; whole = refl; wrote = put 0 (overlay_none 0 l) (omega arith) }

module _ {all rest : List AccountEntry} {number next : ℕ} {l m : List ℕ} (g : Going all rest number l next m) where
  pub fewer : {e : AccountEntry} {others : List AccountEntry} → rest ≡ e ∷ others → number + 1 + length others ≤ most_accounts
  fewer r = let f = g.few in omega (arith, ap length r)

  pub going_on : {e : AccountEntry} {others : List AccountEntry} {last : ℕ} {m' : List ℕ} → rest ≡ e ∷ others
      → Put next (line_of number e.kind) m last m' → Going all others (number + 1) l last m'
  unfolding lines_from
  going_on {e} {others} r q =
      let s : List ℕ = line_of number e.kind in
      record {
        few = fewer r;
        room = omega (arith, g.room, q.end, line_most number e.kind);
        done = g.done ++ s;
        whole =
            g.whole ∙ ap (λ (x : List AccountEntry). g.done ++ lines_from number x) r
            ∙ sym (append_assoc g.done s (lines_from (number + 1) others));
        wrote = then g.wrote q;
      }

  pub going_end : rest ≡ [] → Put 0 (lines_from 0 all) l next m
  unfolding lines_from
  going_end h = rw (g.whole, h, append-nil) g.wrote

-- ---- the call
module _ (b o : List ℕ) where
  pub told_short : length o < least_listing → ListingTold b o (told short_output 0) o
  unfolding listed listed_out choose
  told_short h = let t = lt-ltb (length o) least_listing h in record { is = rw t; out = rw t }

  told_all : (n : ℕ) (o' : List ℕ) → least_listing ≤ length o → Put 0 (listing b) o n o' → ListingTold b o (told 0 n) o'
  unfolding listed listed_out choose
  told_all n o' h p =
      let t = le-ltb (length o) least_listing h in
      let e : n ≡ length (listing b) = omega (arith, p.end) in
      record { is = rw (t, e); out = rw t p.wrote }

  pub told_lines : (n : ℕ) (o' : List ℕ) (es : List AccountEntry) → least_listing ≤ length o → entries_in b ≡ es → Put 0 (lines_from 0 es) o n o'
      → ListingTold b o (told 0 n) o'
  unfolding listing
  told_lines n o' es h e p = told_all n o' h (rw (← e) at p)

  pub no_lines : are_laid (accounts_in b) ≡ false → listing b ≡ []
  unfolding listing lines_from
  no_lines h = rw (none_in b h)

  pub told_none : least_listing ≤ length o → are_laid (accounts_in b) ≡ false → ListingTold b o (told 0 0) o
  told_none h k = told_all 0 o h (rw (no_lines k) (put 0 (overlay_none 0 o) (omega arith)))
