-- The cartridge image (paper 01, "The cartridge"): four words, a table of C entries, a body. Its words are XDR's.
-- Where anything lies is said here only.
use Rattle.std.specs.Prelude.{ℕ, zero, suc, ◌+◌, ◌-◌, ◌*◌, ◌≤◌, ◌<◌, List, [], ◌∷◌, Bool, true, ◌&&◌, ◌≡◌, length, take, drop, leb, ltb, eqb}
use Rattle.codes.specs.Codes.{longest_record}
use Rattle.xdr.specs.Choose.{choose, all_of}
use Rattle.xdr.specs.Xdr.{word, be32s, overlay}

-- the limits: the most entries of a table, the largest body
abbrev pub most_entries : ℕ
most_entries = 4096

abbrev pub largest_body : ℕ
largest_body = 134217728

-- "Four words: 1, capacity C (1 to 4,096), entries n, bytes used."
abbrev pub header_len : ℕ
header_len = 16

abbrev pub capacity : List ℕ → ℕ
capacity l = word l 4

abbrev pub count : List ℕ → ℕ
count l = word l 8

abbrev pub used : List ℕ → ℕ
used l = word l 12

-- "Then C entries of two words: length (0 is a mark, else 1 to 32,768) and start."
abbrev pub entry_at : List ℕ → ℕ → ℕ
entry_at l i = header_len + i * 8

abbrev pub entry_len : List ℕ → ℕ → ℕ
entry_len l i = word l (entry_at l i)

abbrev pub entry_start : List ℕ → ℕ → ℕ
entry_start l i = word l (entry_at l i + 4)

-- "Then B body bytes to the image's end": where they begin, and B
abbrev pub body_at : List ℕ → ℕ
body_at l = entry_at l (capacity l)

abbrev pub body_len : List ℕ → ℕ
body_len l = length l - body_at l

-- the bytes of entry i
unfoldable pub entry_bytes : List ℕ → ℕ → List ℕ
entry_bytes l i = take (entry_len l i) (drop (body_at l + entry_start l i) l)

-- the tests of the header, each of which may read what those before it have shown to be there
abbrev pub header_tests : List ℕ → List Bool
header_tests l =
    leb header_len (length l)
    ∷ eqb (word l 0) 1
    ∷ leb 1 (capacity l)
    ∷ leb (capacity l) most_entries
    ∷ leb (body_at l) (length l)
    ∷ leb (body_len l) largest_body
    ∷ leb (count l) (capacity l)
    ∷ leb (used l) (body_len l)
    ∷ []

unfoldable pub header_ok : List ℕ → Bool
header_ok l = all_of (header_tests l)

-- the k entries from entry i on are in range and start where those before them end, which is s; the sum of all is total
unfoldable pub table_ok : List ℕ → ℕ → ℕ → ℕ → ℕ → Bool
table_ok l total zero i s = eqb s total
table_ok l total (suc k) i s =
    leb (entry_len l i) longest_record && eqb (entry_start l i) s && table_ok l total k (i + 1) (s + entry_len l i)

-- the image is sound, decided; `Sound` of specs/Sound.antt says the same in the paper's words
unfoldable pub is_sound : List ℕ → Bool
is_sound l = header_ok l && table_ok l (used l) (count l) 0 0

-- "image unsound or position above n"
unfoldable pub faulty : List ℕ → ℕ → Bool
faulty l p = choose (is_sound l) (ltb (count l) p) true

-- the first n entries lie in the image
pub record Table (l : List ℕ) (n : ℕ) : Type 0 where
  pub few : n ≤ most_entries
  pub whole : entry_at l n ≤ length l

-- what reading a word of the image gives, where the word is v
pub record FieldRead (v r : ℕ) : Type 0 where
  pub is : r ≡ v
  pub small : r < 4294967296

-- the table cut at p: n is p + 1, used is k + m, and entry p is m bytes from k on
unfoldable pub with_entry : List ℕ → ℕ → ℕ → ℕ → List ℕ
with_entry l p k m = overlay (entry_at l p) (be32s (m ∷ k ∷ [])) (overlay 8 (be32s ((p + 1) ∷ (k + m) ∷ [])) l)
