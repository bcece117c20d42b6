-- "Sound: first word 1, sizes and lengths in range, n at most C, used at most B, the start of entry i is the sum of lengths before
-- it, used the sum of all n. Entries past n are not read."
use Rattle.std.specs.Prelude.{ℕ, zero, suc, ◌+◌, ◌≤◌, ◌<◌, List, ◌≡◌, length}
use Rattle.codes.specs.Codes.{longest_record}
use Rattle.xdr.specs.Xdr.{word}
use Rattle.tape_image.specs.Image.{most_entries, largest_body, header_len}
use Rattle.tape_image.specs.Image.{capacity, count, used, entry_len, entry_start, body_at, body_len}

pub record Header (l : List ℕ) : Type 0 where
  pub whole : header_len ≤ length l
  pub first : word l 0 ≡ 1
  pub some : 1 ≤ capacity l
  pub few : capacity l ≤ most_entries
  pub table : body_at l ≤ length l
  pub body : body_len l ≤ largest_body
  pub entries : count l ≤ capacity l
  pub bytes : used l ≤ body_len l

-- the sum of the lengths of the entries before entry i
unfoldable pub sum_before : List ℕ → ℕ → ℕ
sum_before l zero = 0
sum_before l (suc i) = sum_before l i + entry_len l i

pub record Entry (l : List ℕ) (i : ℕ) : Type 0 where
  pub short : entry_len l i ≤ longest_record
  pub start : entry_start l i ≡ sum_before l i

pub record Sound (l : List ℕ) : Type 0 where
  pub header : Header l
  pub entry : (i : ℕ) → i < count l → Entry l i
  pub total : used l ≡ sum_before l (count l)

-- a sound image, and a position of its tape
pub record Placed (l : List ℕ) (p : ℕ) : Type 0 where
  pub ok : Sound l
  pub within : p ≤ count l
