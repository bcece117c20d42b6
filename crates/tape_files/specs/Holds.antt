-- What holds of files and of thinning, for every image, every list of numbers and every second image.
use Rattle.std.specs.Prelude.{ℕ, zero, suc, ◌+◌, true, false, List, [], ◌∷◌, ◌≡◌, length}
use Rattle.codes.specs.Codes.{illegal_arguments, at_end_code, bad_file}
use Rattle.tape_image.specs.Image.{capacity, count, used, is_sound}
use Rattle.tape_image.specs.Sound.{Sound}
use Rattle.tape_writing.proofs.Theorems.{Past}
use Rattle.tape_files.specs.Files.{File, entries_of, files_in, files_of, entries_in, thinned, bytes_in}
use Rattle.tape_files.specs.Thinning.{are_named, have_room, named_entries, thin_code, thin_image}

-- the numbers of k files, from number i on
unfoldable pub numbers_from : ℕ → ℕ → List ℕ
numbers_from i zero = []
numbers_from i (suc k) = i ∷ numbers_from (i + 1) k

-- "The result is sound and holds those files' records and no others": its files are the named ones, record by record, with a mark
-- where there was one. It "keeps its own .. capacity", and "bytes past the new ends stay"
pub record Done (source ns second result : List ℕ) : Type 0 where
  pub sound : Sound result
  pub files : files_of result ≡ thinned 0 ns (files_of source)
  pub entries : count result ≡ length (named_entries source ns)
  pub bytes : used result ≡ bytes_in (named_entries source ns)
  pub past : Past second result (length (named_entries source ns)) (bytes_in (named_entries source ns))

-- which refusal when: "in that order"
pub record InOrder (source ns second : List ℕ) : Type 0 where
  pub source_unsound : is_sound source ≡ false → thin_code source ns second ≡ bad_file
  pub second_unsound : is_sound second ≡ false → thin_code source ns second ≡ bad_file
  pub not_named : is_sound source ≡ true → is_sound second ≡ true → are_named 0 (length (files_of source)) ns ≡ false
      → thin_code source ns second ≡ illegal_arguments
  pub no_room : is_sound source ≡ true → is_sound second ≡ true → are_named 0 (length (files_of source)) ns ≡ true
      → have_room second (named_entries source ns) ≡ false → thin_code source ns second ≡ at_end_code
  pub accepted : is_sound source ≡ true → is_sound second ≡ true → are_named 0 (length (files_of source)) ns ≡ true
      → have_room second (named_entries source ns) ≡ true → thin_code source ns second ≡ 0

pub record ThinningHolds : Type 0 where
  -- no entry belongs to no file, and none to two
  pub whole : (l : List ℕ) → entries_in (files_of l) ≡ entries_of l
  -- all numbers name all files, and no numbers none
  pub all : (fs : List File) → thinned 0 (numbers_from 0 (length fs)) fs ≡ fs
  pub none : (fs : List File) → thinned 0 [] fs ≡ []
  pub order : (source ns second : List ℕ) → InOrder source ns second
  pub done : (source ns second : List ℕ) → thin_code source ns second ≡ 0 → Done source ns second (thin_image source ns second)
  pub left : (source ns second : List ℕ) → (thin_code source ns second ≡ 0 → ⊥) → thin_image source ns second ≡ second
