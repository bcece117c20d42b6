-- "for TAPE only file number (marks before the position) and block number (records since the last)"
use Rattle.std.specs.Prelude.{ℕ, zero, suc, ◌+◌, List, eqb}
use Rattle.xdr.specs.Choose.{choose}
use Rattle.tape_image.specs.Image.{entry_len}
use Rattle.tape_image.specs.declared.Place.{Place}

-- the marks before position i
unfoldable pub marks_before : List ℕ → ℕ → ℕ
marks_before l zero = 0
marks_before l (suc i) = choose (eqb (entry_len l i) 0) (marks_before l i + 1) (marks_before l i)

-- the records before position i since the last mark
unfoldable pub records_since : List ℕ → ℕ → ℕ
records_since l zero = 0
records_since l (suc i) = choose (eqb (entry_len l i) 0) 0 (records_since l i + 1)

abbrev pub place_at : List ℕ → ℕ → Place
place_at l p = record { file = marks_before l p; block = records_since l p }
