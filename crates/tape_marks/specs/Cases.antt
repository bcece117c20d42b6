-- Cases written out by hand: FSF and BSF by lists of none, one and three marks; which marks the entries of an image are; which words name them.
use Rattle.std.specs.Prelude.{ℕ, [], ◌∷◌, Bool, true, false, ◌≡◌}
use Rattle.codes.specs.Codes.{at_end_code}
use Rattle.tape_spacing.specs.declared.Spaced.{Spaced}
use Rattle.tape_spacing.specs.Spacing.{ended}
use Rattle.tape_spacing.specs.Examples.{sample}
use Rattle.tape_marks.specs.Marks.{marks_from, is_mark_list, jump}

-- of three entries none is a mark
abbrev pub none : Bool → ℕ → ℕ → Spaced
none forward p times = jump forward [] 3 p times

-- of three entries the second is a mark
abbrev pub one : Bool → ℕ → ℕ → Spaced
one forward p times = jump forward (1 ∷ []) 3 p times

-- of seven entries the first, the fourth and the fifth are marks
abbrev pub three : Bool → ℕ → ℕ → Spaced
three forward p times = jump forward (0 ∷ 3 ∷ 4 ∷ []) 7 p times

abbrev pub largest : ℕ
largest = 4294967295

pub record NoneCases : Type 0 where
  pub forward_nothing : none true 1 0 ≡ ended 0 1 0
  pub forward_one : none true 0 1 ≡ ended at_end_code 3 1
  pub forward_largest : none true 2 largest ≡ ended at_end_code 3 largest
  pub forward_at_end : none true 3 1 ≡ ended at_end_code 3 1
  pub back_nothing : none false 3 0 ≡ ended 0 3 0
  pub back_one : none false 3 1 ≡ ended at_end_code 0 1
  pub back_largest : none false 2 largest ≡ ended at_end_code 0 largest
  pub back_at_start : none false 0 1 ≡ ended at_end_code 0 1

pub record OneCases : Type 0 where
  -- "FSF stops after the count-th mark"
  pub forward_from_start : one true 0 1 ≡ ended 0 2 0
  pub forward_at_mark : one true 1 1 ≡ ended 0 2 0
  pub forward_after_mark : one true 2 1 ≡ ended at_end_code 3 1
  pub forward_too_many : one true 0 2 ≡ ended at_end_code 3 1
  pub forward_largest : one true 1 largest ≡ ended at_end_code 3 4294967294
  -- ".. BSF before it": a mark directly behind the position is the first
  pub back_from_end : one false 3 1 ≡ ended 0 1 0
  pub back_after_mark : one false 2 1 ≡ ended 0 1 0
  pub back_at_mark : one false 1 1 ≡ ended at_end_code 0 1
  pub back_too_many : one false 3 2 ≡ ended at_end_code 0 1
  pub back_largest : one false 2 largest ≡ ended at_end_code 0 4294967294

pub record ThreeCases : Type 0 where
  pub forward_first : three true 0 1 ≡ ended 0 1 0
  pub forward_second : three true 0 2 ≡ ended 0 4 0
  pub forward_exact : three true 0 3 ≡ ended 0 5 0
  pub forward_too_many : three true 0 4 ≡ ended at_end_code 7 1
  pub forward_between : three true 1 1 ≡ ended 0 4 0
  pub forward_at_mark : three true 4 1 ≡ ended 0 5 0
  pub forward_after_last : three true 5 1 ≡ ended at_end_code 7 1
  pub forward_nothing : three true 7 0 ≡ ended 0 7 0
  pub forward_largest : three true 0 largest ≡ ended at_end_code 7 4294967292
  pub back_first : three false 7 1 ≡ ended 0 4 0
  pub back_second : three false 7 2 ≡ ended 0 3 0
  pub back_exact : three false 7 3 ≡ ended 0 0 0
  pub back_too_many : three false 7 4 ≡ ended at_end_code 0 1
  pub back_at_mark : three false 4 1 ≡ ended 0 3 0
  pub back_after_first : three false 1 1 ≡ ended 0 0 0
  pub back_at_start : three false 0 1 ≡ ended at_end_code 0 1
  pub back_nothing : three false 0 0 ≡ ended 0 0 0
  pub back_largest : three false 5 largest ≡ ended at_end_code 0 4294967292

-- words that name the marks of `sample` of tape_spacing: record, mark, record, record, mark
pub record NameCases : Type 0 where
  pub marks : marks_from sample 0 5 ≡ 1 ∷ 4 ∷ []
  -- entries past n are not looked at
  pub cut : marks_from sample 0 4 ≡ 1 ∷ []
  pub empty : marks_from sample 0 0 ≡ []
  pub named : is_mark_list (1 ∷ 4 ∷ []) sample 5 ≡ true
  pub named_cut : is_mark_list (1 ∷ []) sample 4 ≡ true
  pub named_empty : is_mark_list [] sample 0 ≡ true
  pub missing : is_mark_list (1 ∷ []) sample 5 ≡ false
  pub missing_all : is_mark_list [] sample 5 ≡ false
  pub past_cut : is_mark_list (1 ∷ 4 ∷ []) sample 4 ≡ false
  pub twice : is_mark_list (1 ∷ 1 ∷ []) sample 5 ≡ false
  pub twice_more : is_mark_list (1 ∷ 1 ∷ 4 ∷ []) sample 5 ≡ false
  pub falling : is_mark_list (4 ∷ 1 ∷ []) sample 5 ≡ false
  pub record_named : is_mark_list (1 ∷ 3 ∷ []) sample 5 ≡ false
  pub record_first : is_mark_list (0 ∷ 1 ∷ 4 ∷ []) sample 5 ≡ false
  pub record_last : is_mark_list (1 ∷ 4 ∷ 5 ∷ []) sample 5 ≡ false
  pub from_one : is_mark_list (2 ∷ 5 ∷ []) sample 5 ≡ false

pub record MarkCases : Type 0 where
  pub none : NoneCases
  pub one : OneCases
  pub three : ThreeCases
  pub names : NameCases
