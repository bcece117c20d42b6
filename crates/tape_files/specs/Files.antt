-- The files of a cartridge, and those of them that are named (paper 02, No. 13). Where anything lies in an image is said in
-- `tape_image` alone: here an image is the list of its entries' bytes, and a mark is an entry of no bytes.
use Rattle.std.specs.Prelude.{ℕ, zero, suc, ◌+◌, ◌-◌, Bool, true, false, List, [], ◌∷◌, ◌++◌, eqb, length, drop}
use Rattle.xdr.specs.Choose.{choose}
use Rattle.tape_image.specs.Image.{count, entry_bytes}

-- the bytes of the k entries from entry i on, and of all
unfoldable pub entries_from : List ℕ → ℕ → ℕ → List (List ℕ)
entries_from l zero i = []
entries_from l (suc k) i = entry_bytes l i ∷ entries_from l k (i + 1)

abbrev pub entries_of : List ℕ → List (List ℕ)
entries_of l = entries_from l (count l) 0

-- a file: its records in their order, and whether a mark ends it
pub record File : Type 0 where
  pub records : List (List ℕ)
  pub marked : Bool

-- a record goes to the front of the first file behind it; where there is none it is a file: "a last file without a mark is a file
-- if it has a record"
unfoldable pub grown : List ℕ → List File → List File
grown b [] = record { records = b ∷ []; marked = false } ∷ []
grown b (f ∷ fs) = record { records = b ∷ f.records; marked = f.marked } ∷ fs

-- the files of a list of entries: each mark ends one, which may be empty
unfoldable pub files_in : List (List ℕ) → List File
files_in [] = []
files_in ([] ∷ es) = record { records = []; marked = true } ∷ files_in es
files_in ((x ∷ xs) ∷ es) = grown (x ∷ xs) (files_in es)

abbrev pub files_of : List ℕ → List File
files_of l = files_in (entries_of l)

-- "writes the named files with a mark after each that had one": a file's entries are its records and its mark
unfoldable pub ending : Bool → List (List ℕ)
ending true = [] ∷ []
ending false = []

unfoldable pub entries_in : List File → List (List ℕ)
entries_in [] = []
entries_in (f ∷ fs) = (f.records ++ ending f.marked) ++ entries_in fs

-- whether file i is the next that a list of numbers names
unfoldable pub is_next : ℕ → List ℕ → Bool
is_next i [] = false
is_next i (n ∷ ns) = eqb n i

unfoldable pub kept_if : {A : Type 0} → Bool → A → List A → List A
kept_if true x xs = x ∷ xs
kept_if false x xs = xs

-- the named files "in their order", where the first of the files is file i; a number that was met is taken off the list
unfoldable pub thinned : ℕ → List ℕ → List File → List File
thinned i ns [] = []
thinned i ns (f ∷ fs) = kept_if (is_next i ns) f (thinned (i + 1) (drop (choose (is_next i ns) 1 0) ns) fs)

-- ---- the same, entry by entry, as the code goes
-- the marks that an entry is
unfoldable pub mark_of : List ℕ → ℕ
mark_of [] = 1
mark_of (x ∷ xs) = 0

-- the entries of the named files, where the first of the entries is in file i
unfoldable pub chosen : ℕ → List ℕ → List (List ℕ) → List (List ℕ)
chosen i ns [] = []
chosen i ns (e ∷ es) = kept_if (is_next i ns) e (chosen (i + mark_of e) (drop (choose (is_next i ns) (mark_of e) 0) ns) es)

-- how many files the entries are, where `begun` (0 or 1) files are begun before them
unfoldable pub file_count : ℕ → List (List ℕ) → ℕ
file_count begun [] = begun
file_count begun (e ∷ es) = mark_of e + file_count (1 - mark_of e) es

-- the bytes of entries together
unfoldable pub bytes_in : List (List ℕ) → ℕ
bytes_in [] = 0
bytes_in (e ∷ es) = length e + bytes_in es
