-- Marks by their numbers (paper 02, No. 11): the list of them, whether words are that list, and where FSF and BSF come to "from this list and n alone".
use Rattle.std.specs.Prelude.{ℕ, zero, suc, ◌+◌, ◌-◌, List, [], ◌∷◌, Bool, true, false, ◌&&◌, length, get_or, eqb, ltb}
use Rattle.codes.specs.Codes.{at_end_code}
use Rattle.xdr.specs.Choose.{choose}
use Rattle.xdr.specs.Xdr.{word}
use Rattle.tape_spacing.specs.declared.Spaced.{Spaced}
use Rattle.tape_spacing.specs.Spacing.{ended, end_of, ahead_of}
use Rattle.tape_spacing.specs.Alike.{is_mark}

-- "entry numbers (from 0) of the marks, rising": of those among the k entries from entry i on
unfoldable pub marks_from : List ℕ → ℕ → ℕ → List ℕ
marks_from l i zero = []
marks_from l i (suc k) =
    let rest = marks_from l (i + 1) k in
    choose (is_mark l i) (i ∷ rest) rest

-- the m words that stand from an offset on
unfoldable pub words_at : List ℕ → ℕ → ℕ → List ℕ
words_at l at zero = []
words_at l at (suc m) = word l at ∷ words_at l (at + 4) m

-- "this list names exactly the marks among the n entries", entry by entry, as a table is judged: the words from word j on name the marks among the k
-- entries from entry i on. A word is looked at only where the list has it.
unfoldable pub names_marks : List ℕ → List ℕ → ℕ → ℕ → ℕ → Bool
names_marks words l zero i j = eqb j (length words)
names_marks words l (suc k) i j =
    choose (is_mark l i)
    (ltb j (length words) && eqb (get_or words j 0) i && names_marks words l k (i + 1) (j + 1))
    (names_marks words l k (i + 1) j)

unfoldable pub is_mark_list : List ℕ → List ℕ → ℕ → Bool
is_mark_list words l n = names_marks words l n 0 0

-- ---- FSF and BSF by the list
-- how many of the marks lie before a position
unfoldable pub before : List ℕ → ℕ → ℕ
before [] p = 0
before (m ∷ ms) p = choose (ltb m p) (before ms p + 1) (before ms p)

-- which mark is the count-th ahead of a position that b of them lie before
unfoldable pub count_th : Bool → ℕ → ℕ → ℕ
count_th true b times = b + times - 1
count_th false b times = b - times

-- "FSF stops after the count-th mark, BSF before it"
unfoldable pub stops_at : Bool → ℕ → ℕ
stops_at true mark = mark + 1
stops_at false mark = mark

-- from position p over `times` marks, of n entries: "at an end 13. .. Residue is count less what was counted."
unfoldable pub jump : Bool → List ℕ → ℕ → ℕ → ℕ → Spaced
jump forward ms n p times =
    let ahead = ahead_of forward (length ms) (before ms p) in
    let mark = get_or ms (count_th forward (before ms p) times) 0 in
    choose (eqb times 0) (ended 0 p 0)
    (choose (ltb ahead times) (ended at_end_code (end_of forward n) (times - ahead)) (ended 0 (stops_at forward mark) 0))
