-- The tape operations (paper 01, "The cartridge"), for any image and any position. Each is a list of tests in the order of the
-- table of refusals: 9, 7, then what the tape gives.
use Rattle.std.specs.Prelude.{ℕ, ◌+◌, List, Bool, true, length, eqb, ltb}
use Rattle.codes.specs.Codes.{longest_record, io_error, illegal_arguments, at_mark_code, at_end_code, rewind_tape, write_marks, off_line}
use Rattle.xdr.specs.Choose.{choose, least}
use Rattle.tape_image.specs.Image.{capacity, count, entry_len, entry_start, body_at, faulty}
use Rattle.tape_image.specs.Place.{marks_before, records_since}
use Rattle.tape_spacing.specs.declared.Spaced.{Spaced}
use Rattle.tape_spacing.specs.Spacing.{ended, spacing}
use Rattle.tape_writing.specs.Writing.{room_for, written, with_marks}
use Rattle.tape_ops.specs.declared.Wrote.{Wrote}
use Rattle.tape_ops.specs.declared.Part.{Part}
use Rattle.tape_ops.specs.Step.{Step, keeping}

abbrev pub wrote : ℕ → ℕ → ℕ → Wrote
wrote e n p = record { error = e; count = n; position = p }

-- "Write: length 0 changes nothing; above 32,768: 9; no room: 13, nothing cut."
unfoldable pub write_step : List ℕ → ℕ → List ℕ → Step Wrote
write_step l p b =
    choose (ltb longest_record (length b)) (keeping l (wrote illegal_arguments 0 p))
    (choose (faulty l p) (keeping l (wrote io_error 0 p))
    (choose (eqb (length b) 0) (keeping l (wrote 0 0 p))
    (choose (room_for l p (length b)) (record { gives = wrote 0 (length b) (p + 1); image = written l p b })
    (keeping l (wrote at_end_code 0 p)))))

abbrev pub part : ℕ → ℕ → ℕ → ℕ → Part
part e p s n = record { error = e; position = p; start = s; len = n }

-- what stands at position p of a sound image: its end, a mark, or a record
unfoldable pub entry_part : List ℕ → ℕ → ℕ → Part
entry_part l p times =
    choose (eqb p (count l)) (part at_end_code p 0 0)
    (choose (eqb (entry_len l p) 0) (part at_mark_code (p + 1) 0 0)
    (part 0 (p + 1) (body_at l + entry_start l p) (least times (entry_len l p))))

-- "Read: count 0 gives nothing; above 32,768: 9; a record gives its first count bytes and is passed; a mark is passed with 12; the
-- end gives 13." What is read is told by its place in the image.
unfoldable pub read_part : List ℕ → ℕ → ℕ → Part
read_part l p times =
    choose (ltb longest_record times) (part illegal_arguments p 0 0)
    (choose (faulty l p) (part io_error p 0 0)
    (choose (eqb times 0) (part 0 p 0 0)
    (entry_part l p times)))

-- "Op 5 with count 0 changes nothing; if all do not fit: 13, residue count, nothing cut."
unfoldable pub mark_step : List ℕ → ℕ → ℕ → Step Spaced
mark_step l p times =
    choose (ltb (capacity l) (p + times)) (keeping l (ended at_end_code p times))
    (record { gives = ended 0 (p + times) 0; image = with_marks l p times })

-- 4 REW, and "MTIO 6, which rewinds and closes the tape device" (paper 02, No. 7): the tape goes to its start. The
-- device is not the cartridge's: a session closes it
abbrev pub rewinds : ℕ → Bool
rewinds op = choose (eqb op rewind_tape) true (eqb op off_line)

-- "0 FSF, 1 BSF, 2 FSR, 3 BSR, 4 REW, 5 write marks, 6 off; others 9"; "REW ignores count, residue 0"; of 6 too
-- "residue 0"
unfoldable pub mtio_step : List ℕ → ℕ → ℕ → ℕ → Step Spaced
mtio_step l op p times =
    choose (ltb off_line op) (keeping l (ended illegal_arguments p 0))
    (choose (faulty l p) (keeping l (ended io_error p 0))
    (choose (eqb op write_marks) (mark_step l p times)
    (choose (rewinds op) (keeping l (ended 0 0 0))
    (keeping l (spacing l op p times)))))

-- what get state gives: the error, the file and the block number
pub record Standing : Type 0 where
  pub error : ℕ
  pub file : ℕ
  pub block : ℕ

abbrev pub standing : ℕ → ℕ → ℕ → Standing
standing e f b = record { error = e; file = f; block = b }

-- get state: "file number (marks before the position) and block number (records since the last)"
unfoldable pub standing_at : List ℕ → ℕ → Standing
standing_at l p = choose (faulty l p) (standing io_error 0 0) (standing 0 (marks_before l p) (records_since l p))
