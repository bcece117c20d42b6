-- What holds of the tape operations, for every image.
use Rattle.std.specs.Prelude.{ℕ, ◌+◌, ◌≤◌, ◌<◌, true, List, ◌≡◌, length, take, drop, get_or, eqb}
use Rattle.codes.specs.Codes.{io_error, illegal_arguments, at_mark_code, at_end_code, rewind_tape, write_marks, off_line}
use Rattle.xdr.specs.Choose.{choose}
use Rattle.tape_image.specs.Image.{count, used, entry_at, entry_bytes, entry_len, body_at, faulty}
use Rattle.tape_image.specs.Sound.{Sound, Placed}
use Rattle.tape_spacing.specs.Spacing.{ended, goes_forward, PassedMark, end_of}
use Rattle.tape_spacing.specs.Alike.{AgreeInKind}
use Rattle.tape_ops.specs.Step.{keeping}
use Rattle.tape_ops.specs.Operations.{write_step, read_part, mtio_step}

-- the bytes that a read hands out
abbrev pub span_of : List ℕ → ℕ → ℕ → List ℕ
span_of l p times = take (read_part l p times).len (drop (read_part l p times).start l)

-- a sound image stays sound, and the position stays one of its tape
pub record StaySound (l : List ℕ) (p : ℕ) : Type 0 where
  pub write : (b : List ℕ) → Placed (write_step l p b).image (write_step l p b).gives.position
  pub mtio : (op times : ℕ) → Placed (mtio_step l op p times).image (mtio_step l op p times).gives.position
  pub read : (times : ℕ) → Placed l (read_part l p times).position

-- a refusal: an error that is no outcome of the tape
abbrev pub Refused : ℕ → Type 0
Refused e = (e ≡ 0 → ⊥) × (e ≡ at_mark_code → ⊥) × (e ≡ at_end_code → ⊥)

-- a refusal leaves the position too
pub record Stand (l : List ℕ) (p : ℕ) : Type 0 where
  pub write : (b : List ℕ) → Refused (write_step l p b).gives.error → (write_step l p b).gives.position ≡ p
  pub mtio : (op times : ℕ) → Refused (mtio_step l op p times).gives.error → (mtio_step l op p times).gives.position ≡ p
  pub read : (times : ℕ) → Refused (read_part l p times).error → (read_part l p times).position ≡ p

-- what an operation refuses leaves the image as it was; reads and every MTIO but that of marks never change it
pub record Leave (l : List ℕ) (p : ℕ) : Type 0 where
  pub write : (b : List ℕ) → ((write_step l p b).gives.error ≡ 0 → ⊥) → (write_step l p b).image ≡ l
  pub mtio : (op times : ℕ) → ((mtio_step l op p times).gives.error ≡ 0 → ⊥) → (mtio_step l op p times).image ≡ l
  pub spacing : (op times : ℕ) → (op ≡ write_marks → ⊥) → (mtio_step l op p times).image ≡ l

-- a record of some bytes that was written at p is what a read at p gives, and what was read before p stays the same
pub record ReadBack (l : List ℕ) (p : ℕ) (b : List ℕ) : Type 0 where
  pub error : (read_part (write_step l p b).image p (length b)).error ≡ 0
  pub bytes : span_of (write_step l p b).image p (length b) ≡ b
  pub before : (i : ℕ) → i < p → entry_bytes (write_step l p b).image i ≡ entry_bytes l i

-- "a record gives its first count bytes": a read that is answered 0 hands out the start of the entry at p
abbrev pub FirstBytes : List ℕ → ℕ → Type 0
FirstBytes l p = (times : ℕ) → 0 < times → (read_part l p times).error ≡ 0 → span_of l p times ≡ take times (entry_bytes l p)

-- "12, 13: tape outcomes": the image stays (`Leave`), and the tape stands after the mark that was passed, at the end that was met, or, where marks or
-- a record find no room, where it was
pub record Outcomes (l : List ℕ) (p : ℕ) : Type 0 where
  pub read_mark : (times : ℕ) → (read_part l p times).error ≡ at_mark_code → ((read_part l p times).position ≡ p + 1) × (entry_len l p ≡ 0)
  pub read_end : (times : ℕ) → (read_part l p times).error ≡ at_end_code → ((read_part l p times).position ≡ p) × (p ≡ count l)
  pub write_mark : (b : List ℕ) → (write_step l p b).gives.error ≡ at_mark_code → ⊥
  pub write_end : (b : List ℕ) → (write_step l p b).gives.error ≡ at_end_code → (write_step l p b).gives.position ≡ p
  pub mtio_mark : (op times : ℕ) → (mtio_step l op p times).gives.error ≡ at_mark_code → PassedMark (goes_forward op) l p (mtio_step l op p times).gives.position
  pub mtio_end : (op times : ℕ) → (mtio_step l op p times).gives.error ≡ at_end_code
      → (mtio_step l op p times).gives.position ≡ choose (eqb op write_marks) p (end_of (goes_forward op) (count l))

-- "Old entries and bytes past the end stay": of the table those at and past the new n, of the body those past the new used
pub record PastEnd (l m : List ℕ) : Type 0 where
  pub size : length m ≡ length l
  pub table : (i : ℕ) → entry_at l (count m) ≤ i → i < body_at l → get_or m i 0 ≡ get_or l i 0
  pub body : (i : ℕ) → body_at l + used m ≤ i → get_or m i 0 ≡ get_or l i 0

pub record Past (l : List ℕ) (p : ℕ) : Type 0 where
  pub write : (b : List ℕ) → PastEnd l (write_step l p b).image
  pub mtio : (op times : ℕ) → PastEnd l (mtio_step l op p times).image

-- "others 9", and 7 of each of the seven, 6 too, before the tape is moved or written
pub record MtioRefused (l : List ℕ) (p : ℕ) : Type 0 where
  pub others : (op times : ℕ) → off_line < op → mtio_step l op p times ≡ keeping l (ended illegal_arguments p 0)
  pub fault : (op times : ℕ) → op ≤ off_line → faulty l p ≡ true → mtio_step l op p times ≡ keeping l (ended io_error p 0)

-- "REW ignores count, residue 0", and so it is of 6 (paper 02, No. 7): whatever the count, the tape stands at its start
-- and the image stays
abbrev pub ToStart : ℕ → List ℕ → ℕ → Type 0
ToStart op l p = (times : ℕ) → mtio_step l op p times ≡ keeping l (ended 0 0 0)

-- "two sound images of one n answer the same call alike if the entries passed agree in kind" (paper 02, No. 4), at any
-- position and for every operation but 5: REW and 6 pass none, and where a call is refused none is passed
abbrev pub MtioAlike : List ℕ → List ℕ → Type 0
MtioAlike l m =
    (op p times : ℕ) → (op ≡ write_marks → ⊥) → AgreeInKind (goes_forward op) p (mtio_step l op p times).gives.position l m
    → (mtio_step l op p times).gives ≡ (mtio_step m op p times).gives

pub record TapePromises : Type 0 where
  pub sound : (l : List ℕ) (p : ℕ) → Placed l p → StaySound l p
  pub leave : (l : List ℕ) (p : ℕ) → Leave l p
  pub stand : (l : List ℕ) (p : ℕ) → Stand l p
  pub outcomes : (l : List ℕ) (p : ℕ) → Outcomes l p
  pub past : (l : List ℕ) (p : ℕ) → Past l p
  pub refused : (l : List ℕ) (p : ℕ) → MtioRefused l p
  pub rew : (l : List ℕ) (p : ℕ) → Placed l p → ToStart rewind_tape l p
  pub off : (l : List ℕ) (p : ℕ) → Placed l p → ToStart off_line l p
  pub first : (l : List ℕ) (p : ℕ) → FirstBytes l p
  pub back : (l : List ℕ) (p : ℕ) (b : List ℕ) → Placed l p → 0 < length b → (write_step l p b).gives.error ≡ 0 → ReadBack l p b
  pub alike : (l m : List ℕ) → Sound l → Sound m → count l ≡ count m → MtioAlike l m
