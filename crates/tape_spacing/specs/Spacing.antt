-- Spacing over the table of entries (paper 01, "The cartridge", MTIO ops 0 to 4).
use Rattle.std.specs.Prelude.{ℕ, zero, suc, ◌+◌, ◌-◌, ◌%◌, ◌<◌, List, ◌≡◌, Bool, true, false, eqb, ltb}
use Rattle.codes.specs.Codes.{at_mark_code, at_end_code, forward_records}
use Rattle.xdr.specs.Choose.{choose}
use Rattle.tape_image.specs.Image.{count, entry_len}
use Rattle.tape_spacing.specs.declared.Spaced.{Spaced}

abbrev pub ended : ℕ → ℕ → ℕ → Spaced
ended e p r = record { error = e; position = p; residue = r }

-- "0 FSF, 1 BSF, 2 FSR, 3 BSR": the even ones go forward, the first two count marks and the others records
abbrev pub goes_forward : ℕ → Bool
goes_forward op = eqb (op % 2) 0

abbrev pub counts_marks : ℕ → Bool
counts_marks op = ltb op forward_records

-- how many entries lie ahead of position i of n, forward or back
unfoldable pub ahead_of : Bool → ℕ → ℕ → ℕ
ahead_of true n i = n - i
ahead_of false n i = i

-- the entry that a step from position i passes
unfoldable pub passes : Bool → ℕ → ℕ
passes true i = i
passes false i = i - 1

-- the position after a step
unfoldable pub position_after : Bool → ℕ → ℕ
position_after true i = i + 1
position_after false i = i - 1

-- what is left to count after a step, where marks or else records are counted and a mark or else a record was passed
unfoldable pub left_after : Bool → Bool → ℕ → ℕ
left_after true true left = left - 1
left_after true false left = left
left_after false true left = left
left_after false false left = left - 1

-- "FSR and BSR pass records; a mark is passed, ends the walk with 12 and is not counted"
unfoldable pub stops : Bool → Bool → Bool
stops true mark = false
stops false mark = mark

-- k entries lie ahead of position i, and left marks or else records are to be counted. "FSF stops after the count-th mark, BSF
-- before it; at an end 13. .. Residue is count less what was counted."
unfoldable pub walk : Bool → Bool → List ℕ → ℕ → ℕ → ℕ → Spaced
walk forward marks l zero i left = choose (eqb left 0) (ended 0 i 0) (ended at_end_code i left)
walk forward marks l (suc k) i left =
    let mark = eqb (entry_len l (passes forward i)) 0 in
    let rest = walk forward marks l k (position_after forward i) (left_after marks mark left) in
    choose (eqb left 0) (ended 0 i 0) (choose (stops marks mark) (ended at_mark_code (position_after forward i) left) rest)

-- ops 0 to 3 from position p, `times` the request's count
unfoldable pub spacing : List ℕ → ℕ → ℕ → ℕ → Spaced
spacing l op p times = walk (goes_forward op) (counts_marks op) l (ahead_of (goes_forward op) (count l) p) p times

-- ---- where a walk from p forward or back leaves the tape, at q
-- 12: a mark was passed: forward it is the entry before q, back the entry at q
abbrev pub PassedMark : Bool → List ℕ → ℕ → ℕ → Type 0
PassedMark true l p q = (p < q) × (entry_len l (q - 1) ≡ 0)
PassedMark false l p q = (q < p) × (entry_len l q ≡ 0)

-- 13: the end of n entries that it goes to
abbrev pub end_of : Bool → ℕ → ℕ
end_of true n = n
end_of false n = 0
