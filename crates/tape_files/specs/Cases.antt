-- Small cartridges written out, and what thinning them comes to. They keep the definitions to 02 No. 13's words and order.
use Rattle.std.specs.Prelude.{ℕ, true, false, List, [], ◌∷◌, ◌++◌, ◌≡◌, take}
use Rattle.codes.specs.Codes.{illegal_arguments, at_end_code, bad_file}
use Rattle.xdr.specs.Xdr.{be32s}
use Rattle.tape_files.specs.Files.{File, files_of}
use Rattle.tape_files.specs.Thinning.{thin_code, thin_image}

-- records of one and of two bytes
abbrev pub five : List ℕ
five = 5 ∷ []

abbrev pub sixes : List ℕ
sixes = 6 ∷ 7 ∷ []

abbrev pub ended : List (List ℕ) → File
ended rs = record { records = rs; marked = true }

abbrev pub unended : List (List ℕ) → File
unended rs = record { records = rs; marked = false }

-- C 5, B 4; the record 5, a mark, a second mark, the record 6 7
abbrev pub three : List ℕ
three = be32s (1 ∷ 5 ∷ 4 ∷ 3 ∷ 1 ∷ 0 ∷ 0 ∷ 1 ∷ 0 ∷ 1 ∷ 2 ∷ 1 ∷ 9 ∷ 9 ∷ []) ++ (5 ∷ 6 ∷ 7 ∷ 8 ∷ [])

-- no entries; C 2, B 3; old entries and bytes stand past the end
abbrev pub bare : List ℕ
bare = be32s (1 ∷ 2 ∷ 0 ∷ 0 ∷ 41 ∷ 42 ∷ 43 ∷ 44 ∷ []) ++ (45 ∷ 46 ∷ 47 ∷ [])

-- C 2, B 3, and full: two records
abbrev pub full : List ℕ
full = be32s (1 ∷ 2 ∷ 2 ∷ 3 ∷ 2 ∷ 0 ∷ 1 ∷ 2 ∷ []) ++ (45 ∷ 46 ∷ 47 ∷ [])

-- C 4, B 3: room for every entry of `three`; C 4, B 2 and C 3, B 3: a byte less, an entry less
abbrev pub exact : List ℕ
exact = be32s (1 ∷ 4 ∷ 0 ∷ 0 ∷ 0 ∷ 0 ∷ 0 ∷ 0 ∷ 0 ∷ 0 ∷ 0 ∷ 0 ∷ []) ++ (0 ∷ 0 ∷ 0 ∷ [])

abbrev pub byte_less : List ℕ
byte_less = be32s (1 ∷ 4 ∷ 0 ∷ 0 ∷ 0 ∷ 0 ∷ 0 ∷ 0 ∷ 0 ∷ 0 ∷ 0 ∷ 0 ∷ []) ++ (0 ∷ 0 ∷ [])

abbrev pub entry_less : List ℕ
entry_less = be32s (1 ∷ 3 ∷ 0 ∷ 0 ∷ 0 ∷ 0 ∷ 0 ∷ 0 ∷ 0 ∷ 0 ∷ []) ++ (0 ∷ 0 ∷ 0 ∷ [])

pub record FileCases : Type 0 where
  -- "two marks in a row hold an empty file"; a last file without a mark
  pub of_three : files_of three ≡ ended (five ∷ []) ∷ ended [] ∷ unended (sixes ∷ []) ∷ []
  pub of_none : files_of bare ≡ []
  pub of_full : files_of full ≡ unended ((45 ∷ 46 ∷ []) ∷ (47 ∷ []) ∷ []) ∷ []

pub record AcceptedCases : Type 0 where
  -- the first file goes over the old entries of a full image: the record 5 and its mark; bytes past it stay
  pub first : thin_image three (0 ∷ []) full ≡ be32s (1 ∷ 2 ∷ 2 ∷ 1 ∷ 1 ∷ 0 ∷ 0 ∷ 1 ∷ []) ++ (5 ∷ 46 ∷ 47 ∷ [])
  -- the empty file is its mark
  pub middle : thin_image three (1 ∷ []) full ≡ be32s (1 ∷ 2 ∷ 1 ∷ 0 ∷ 0 ∷ 0 ∷ 1 ∷ 2 ∷ []) ++ (45 ∷ 46 ∷ 47 ∷ [])
  -- the last file has no mark, and gets none
  pub last : thin_image three (2 ∷ []) bare ≡ be32s (1 ∷ 2 ∷ 1 ∷ 2 ∷ 2 ∷ 0 ∷ 43 ∷ 44 ∷ []) ++ (6 ∷ 7 ∷ 47 ∷ [])
  pub two : thin_image three (1 ∷ 2 ∷ []) bare ≡ be32s (1 ∷ 2 ∷ 2 ∷ 2 ∷ 0 ∷ 0 ∷ 2 ∷ 0 ∷ []) ++ (6 ∷ 7 ∷ 47 ∷ [])
  -- exactly full
  pub all : thin_image three (0 ∷ 1 ∷ 2 ∷ []) exact
      ≡ be32s (1 ∷ 4 ∷ 4 ∷ 3 ∷ 1 ∷ 0 ∷ 0 ∷ 1 ∷ 0 ∷ 1 ∷ 2 ∷ 1 ∷ []) ++ (5 ∷ 6 ∷ 7 ∷ [])
  -- no numbers: the second becomes empty
  pub none : thin_image three [] full ≡ be32s (1 ∷ 2 ∷ 0 ∷ 0 ∷ 2 ∷ 0 ∷ 1 ∷ 2 ∷ []) ++ (45 ∷ 46 ∷ 47 ∷ [])
  pub none_of_none : thin_code bare [] full ≡ 0

pub record RefusedCases : Type 0 where
  pub source_short : thin_code (take 15 bare) [] full ≡ bad_file
  pub second_short : thin_code three (0 ∷ []) (take 15 bare) ≡ bad_file
  pub unsound_first : thin_code three (7 ∷ []) (take 15 bare) ≡ bad_file
  pub repeated : thin_code three (1 ∷ 1 ∷ []) exact ≡ illegal_arguments
  pub falling : thin_code three (2 ∷ 0 ∷ []) exact ≡ illegal_arguments
  pub unknown : thin_code three (3 ∷ []) exact ≡ illegal_arguments
  pub unknown_largest : thin_code three (0 ∷ 4294967295 ∷ []) exact ≡ illegal_arguments
  pub unknown_of_none : thin_code bare (0 ∷ []) full ≡ illegal_arguments
  -- the whole list is judged before room
  pub unknown_and_no_room : thin_code three (0 ∷ 1 ∷ 2 ∷ 3 ∷ []) full ≡ illegal_arguments
  pub a_byte_too_much : thin_code three (0 ∷ 1 ∷ 2 ∷ []) byte_less ≡ at_end_code
  pub an_entry_too_much : thin_code three (0 ∷ 1 ∷ 2 ∷ []) entry_less ≡ at_end_code
  -- "and then the second image is as it was"
  pub no_room_leaves : thin_image three (0 ∷ 1 ∷ []) full ≡ full

pub record ThinCases : Type 0 where
  pub files : FileCases
  pub accepted : AcceptedCases
  pub refused : RefusedCases
