-- What holds of the marks' numbers, of words that name them, and of FSF and BSF by them; of every image, sound or not.
use Rattle.std.specs.Prelude.{ℕ, ◌+◌, ◌-◌, ◌*◌, ◌≤◌, ◌<◌, List, [], ◌∷◌, ◌++◌, true, ◌≡◌, length, get_or}
use Rattle.tape_image.specs.Image.{most_entries, count}
use Rattle.tape_image.specs.Place.{marks_before}
use Rattle.tape_spacing.specs.Spacing.{spacing, goes_forward, counts_marks}
use Rattle.tape_spacing.specs.Alike.{is_mark}
use Rattle.tape_marks.specs.Marks.{marks_from, words_at, is_mark_list, before, jump}

-- a rising list of numbers from one on
abbrev pub RisingFrom : ℕ → List ℕ → Type 0
RisingFrom b [] = Unit
RisingFrom b (m ∷ ms) = (b ≤ m) × RisingFrom (m + 1) ms

-- m rising words lie in an image from an offset on, no more than a table may have entries
pub record Listed (l : List ℕ) (at m : ℕ) : Type 0 where
  pub few : m ≤ most_entries
  pub whole : at + m * 4 ≤ length l
  pub rising : RisingFrom 0 (words_at l at m)

-- "entry numbers (from 0) of the marks, rising"
pub record MarksHold (l : List ℕ) (n : ℕ) : Type 0 where
  pub rising : RisingFrom 0 (marks_from l 0 n)
  -- as many as there are marks, so the file number of a position is how many lie before it
  pub number : length (marks_from l 0 n) ≡ marks_before l n
  pub file : (p : ℕ) → p ≤ n → before (marks_from l 0 n) p ≡ marks_before l p
  -- each names a mark among the n, and each mark among the n is named
  pub marks : (j : ℕ) → j < length (marks_from l 0 n) → (get_or (marks_from l 0 n) j 0 < n) × (is_mark l (get_or (marks_from l 0 n) j 0) ≡ true)
  pub all : (i : ℕ) → i < n → is_mark l i ≡ true → (marks_before l i < length (marks_from l 0 n)) × (get_or (marks_from l 0 n) (marks_before l i) 0 ≡ i)
  -- those before a position, and those from it on
  pub split : (p : ℕ) → p ≤ n → marks_from l 0 n ≡ marks_from l 0 p ++ marks_from l p (n - p)

-- "It is part of soundness that this list names exactly the marks among the n entries": the test, and what it tests
pub record NamesExactly (words l : List ℕ) (n : ℕ) : Type 0 where
  pub are : is_mark_list words l n ≡ true → words ≡ marks_from l 0 n
  pub named : words ≡ marks_from l 0 n → is_mark_list words l n ≡ true

-- "There FSF and BSF find their place from this list and n alone, not No. 4's table, and answer as they do by walking, shown once for both versions."
abbrev pub FilesByMarks : List ℕ → Type 0
FilesByMarks l = (op p times : ℕ) → counts_marks op ≡ true → p ≤ count l → spacing l op p times ≡ jump (goes_forward op) (marks_from l 0 (count l)) (count l) p times

pub record MarksAtAGlance : Type 0 where
  pub marks : (l : List ℕ) (n : ℕ) → MarksHold l n
  pub names : (words l : List ℕ) (n : ℕ) → NamesExactly words l n
  pub files : (l : List ℕ) → FilesByMarks l
