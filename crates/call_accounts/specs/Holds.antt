-- What a listing is, of every buffer and every output: a second time, as whoever reads it line by line finds it.
use Rattle.std.specs.Prelude.{ℕ, ◌+◌, ◌≤◌, ◌<◌, List, [], ◌∷◌, ◌++◌, ◌≡◌, eqb, length, drop}
use Rattle.codes.specs.Codes.{text_auth, md5_auth}
use Rattle.xdr.specs.Choose.{choose}
use Rattle.wire_accounts.specs.Accounts.{AccountEntry, broken, accounts_in, entries_in}
use Rattle.call_accounts.specs.Listing.{listing, told, listed, listed_out}

-- a text taken apart at its line feeds; what stands behind the last one is the last part
unfoldable pub before : ℕ → List (List ℕ) → List (List ℕ)
before x [] = (x ∷ []) ∷ []
before x (l ∷ ls) = (x ∷ l) ∷ ls

unfoldable pub parts : List ℕ → List (List ℕ)
parts [] = [] ∷ []
parts (x ∷ xs) = choose (eqb x 10) ([] ∷ parts xs) (before x (parts xs))

-- the line of a kind, and its number: `N md5`, `N withdrawn`
pub data Line (number : ℕ) : ℕ → List ℕ → Type 0 where
  md5_line : Line number md5_auth ((48 + number) ∷ 32 ∷ 109 ∷ 100 ∷ 53 ∷ [])
  text_line : Line number text_auth ((48 + number) ∷ 32 ∷ 119 ∷ 105 ∷ 116 ∷ 104 ∷ 100 ∷ 114 ∷ 97 ∷ 119 ∷ 110 ∷ [])

-- a line for each entry, numbered on, and nothing behind the last line feed
pub data Lines : ℕ → List AccountEntry → List (List ℕ) → Type 0 where
  end : {number : ℕ} → Lines number [] ([] ∷ [])
  line : {number : ℕ} {e : AccountEntry} {es : List AccountEntry} {l : List ℕ} {ls : List (List ℕ)}
      → Line number e.kind l → Lines (number + 1) es ls → Lines number (e ∷ es) (l ∷ ls)

pub record ListingHolds : Type 0 where
  pub lines : (b : List ℕ) → Lines 0 (entries_in b) (parts (listing b))
  pub none : (b : List ℕ) → accounts_in b ≡ broken → listing b ≡ []
  -- an output that is not refused has room for it
  pub fits : (b : List ℕ) → length (listing b) ≤ 96
  -- 1001 under 96 bytes, whatever the accounts are, and then nothing is written
  pub short : (b o : List ℕ) → length o < 96 → (listed b o ≡ told 1001 0) × (listed_out b o ≡ o)
  -- and no other refusal: the listing stands at the output's front, and the bytes behind it stay
  pub long : (b o : List ℕ) → 96 ≤ length o
      → (listed b o ≡ told 0 (length (listing b))) × (listed_out b o ≡ listing b ++ drop (length (listing b)) o)
