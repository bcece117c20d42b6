-- The listing of account stores (02 No. 10): "a new listing into lent output (1001 under 96 bytes) has a line for each entry:
-- number from 0, a blank, `md5` or `withdrawn`". It is no call of a session: no other code, no counter.
use Rattle.std.specs.Prelude.{ℕ, ◌+◌, Bool, List, [], ◌∷◌, ◌++◌, ◌≡◌, eqb, ltb, length}
use Rattle.codes.specs.Codes.{md5_auth, short_output}
use Rattle.xdr.specs.Choose.{choose}
use Rattle.xdr.specs.Xdr.{overlay}
use Rattle.wire_accounts.specs.Accounts.{AccountEntry, entries_in}
use Rattle.call_accounts.specs.declared.Listed.{Listed}

-- "1001 under 96 bytes": eight lines of twelve bytes
abbrev pub least_listing : ℕ
least_listing = 96

-- `md5`, and of any other kind, which is text, `withdrawn`
unfoldable pub word_of : ℕ → List ℕ
word_of kind =
    choose (eqb kind md5_auth)
    (0x6D ∷ 0x64 ∷ 0x35 ∷ [])
    (0x77 ∷ 0x69 ∷ 0x74 ∷ 0x68 ∷ 0x64 ∷ 0x72 ∷ 0x61 ∷ 0x77 ∷ 0x6E ∷ [])

-- a line: a digit, a blank, the word, and a line feed
unfoldable pub line_of : ℕ → ℕ → List ℕ
line_of number kind = (0x30 + number) ∷ 0x20 ∷ (word_of kind ++ (0x0A ∷ []))

unfoldable pub lines_from : ℕ → List AccountEntry → List ℕ
lines_from number [] = []
lines_from number (e ∷ es) = line_of number e.kind ++ lines_from (number + 1) es

-- of a buffer that is not laid out as accounts there is no entry, and no line
unfoldable pub listing : List ℕ → List ℕ
listing b = lines_from 0 (entries_in b)

-- ---- the call, by the accounts b and the output o
abbrev pub told : ℕ → ℕ → Listed
told code len = record { code = code; len = len }

-- also where less is needed
abbrev pub too_short : List ℕ → Bool
too_short o = ltb (length o) least_listing

unfoldable pub listed : List ℕ → List ℕ → Listed
listed b o = choose (too_short o) (told short_output 0) (told 0 (length (listing b)))

-- the output after it: the listing at its front, or all as it was
unfoldable pub listed_out : List ℕ → List ℕ → List ℕ
listed_out b o = choose (too_short o) o (overlay 0 (listing b) o)

-- the code gave r and left the output o'
pub record ListingTold (b o : List ℕ) (r : Listed) (o' : List ℕ) : Type 0 where
  pub is : r ≡ listed b o
  pub out : o' ≡ listed_out b o
