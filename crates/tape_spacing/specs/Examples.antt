-- Worked examples of spacing, as one list: the entries are record, mark, record, record, mark.
use Rattle.std.specs.Prelude.{ℕ, List, [], ◌∷◌, ◌++◌, ◌≡◌, replicate}
use Rattle.codes.specs.Codes.{at_mark_code, at_end_code, forward_files, back_files, forward_records, back_records}
use Rattle.xdr.specs.Xdr.{be32s}
use Rattle.tape_spacing.specs.declared.Spaced.{Spaced}
use Rattle.tape_spacing.specs.Spacing.{spacing, ended}

-- C 8, B 64; records of 3, 5 and 7 bytes
unfoldable pub sample : List ℕ
sample = be32s (1 ∷ 8 ∷ 5 ∷ 15 ∷ 3 ∷ 0 ∷ 0 ∷ 3 ∷ 5 ∷ 3 ∷ 7 ∷ 8 ∷ 0 ∷ 15 ∷ []) ++ replicate 88 0

pub record SpacingCase : Type 0 where
  pub op : ℕ
  pub from : ℕ
  pub times : ℕ
  pub gives : Spaced

abbrev pub case : ℕ → ℕ → ℕ → Spaced → SpacingCase
case o p t s = record { op = o; from = p; times = t; gives = s }

abbrev pub spacing_cases : List SpacingCase
spacing_cases =
    -- FSF: after the count-th mark; at the end 13
    case forward_files 0 1 (ended 0 2 0)
    ∷ case forward_files 0 2 (ended 0 5 0)
    ∷ case forward_files 0 3 (ended at_end_code 5 1)
    ∷ case forward_files 5 1 (ended at_end_code 5 1)
    -- BSF: before the count-th mark; a mark directly behind the position is the first
    ∷ case back_files 5 1 (ended 0 4 0)
    ∷ case back_files 5 2 (ended 0 1 0)
    ∷ case back_files 4 1 (ended 0 1 0)
    ∷ case back_files 4 7 (ended at_end_code 0 6)
    -- FSR: a mark is passed with 12 and not counted
    ∷ case forward_records 0 1 (ended 0 1 0)
    ∷ case forward_records 0 3 (ended at_mark_code 2 2)
    ∷ case forward_records 2 2 (ended 0 4 0)
    ∷ case forward_records 5 1 (ended at_end_code 5 1)
    -- BSR: the same, back
    ∷ case back_records 4 2 (ended 0 2 0)
    ∷ case back_records 4 3 (ended at_mark_code 1 1)
    ∷ case back_records 1 2 (ended at_end_code 0 1)
    -- count 0 changes nothing, also at an end
    ∷ case forward_files 5 0 (ended 0 5 0)
    ∷ case back_records 0 0 (ended 0 0 0)
    ∷ []

-- what the definition gives for each, and what it should give
abbrev pub spaced_by : List SpacingCase → List Spaced
spaced_by [] = []
spaced_by (c ∷ cs) = spacing sample c.op c.from c.times ∷ spaced_by cs

abbrev pub spaced_right : List SpacingCase → List Spaced
spaced_right [] = []
spaced_right (c ∷ cs) = c.gives ∷ spaced_right cs

abbrev pub SpacingExamplesHold : Type 0
SpacingExamplesHold = spaced_by spacing_cases ≡ spaced_right spacing_cases
