-- What an operation answers: `Ok` of an outcome of the tape, or `Err` of a refusal, which leaves the image and the position.
use Rattle.std.specs.Prelude.{ℕ, Bool, true, false, not, List, Result, Ok, Err, ◌≡◌, eqb}
use Rattle.codes.specs.Codes.{at_mark_code, at_end_code}
use Rattle.codes.specs.Errors.{number_of}
use Rattle.codes.specs.declared.NdmpError.{NdmpError}
use Rattle.xdr.specs.Choose.{choose}
use Rattle.tape_spacing.specs.declared.Spaced.{Spaced}
use Rattle.tape_spacing.specs.Spacing.{ended}
use Rattle.tape_ops.specs.declared.Wrote.{Wrote}
use Rattle.tape_ops.specs.declared.Part.{Part}
use Rattle.tape_image.specs.declared.Place.{Place}
use Rattle.tape_ops.specs.Step.{Step, Told, keeping}
use Rattle.tape_ops.specs.Operations.{wrote, part, standing, write_step, read_part, mtio_step, standing_at}

-- "12, 13: tape outcomes": what the tape gives beside 0 and these is a refusal
unfoldable pub is_refusal : ℕ → Bool
is_refusal e = choose (eqb e 0) false (choose (eqb e at_mark_code) false (not (eqb e at_end_code)))

-- The step of an image l gave the answer and left the image l'. Of what it gives the first argument is the error, and the second what stands for
-- a refusal.
abbrev pub Gave : {A : Type 0} → (A → ℕ) → (NdmpError → A) → List ℕ → Step A → Result A NdmpError → List ℕ → Type 0
Gave error refused l st (Ok x) l' = Told st x l' × (is_refusal (error x) ≡ false)
Gave error refused l st (Err e) l' = Told st (refused e) l' × (l' ≡ l) × (is_refusal (number_of e) ≡ true)

-- what stands for a refusal at position p, where the number of the error goes to C or into a record of the definitions
abbrev pub refused_write : ℕ → NdmpError → Wrote
refused_write p e = wrote (number_of e) 0 p

abbrev pub refused_read : ℕ → NdmpError → Part
refused_read p e = part (number_of e) p 0 0

abbrev pub refused_mtio : ℕ → NdmpError → Spaced
refused_mtio p e = ended (number_of e) p 0

-- the answers of the four operations at position p
abbrev pub WriteGave : List ℕ → ℕ → List ℕ → Result Wrote NdmpError → List ℕ → Type 0
WriteGave l p b r l' = Gave (λ (w : Wrote). w.error) (refused_write p) l (write_step l p b) r l'

abbrev pub ReadGave : List ℕ → ℕ → ℕ → Result Part NdmpError → Type 0
ReadGave l p times r = Gave (λ (s : Part). s.error) (refused_read p) l (keeping l (read_part l p times)) r l

abbrev pub MtioGave : List ℕ → ℕ → ℕ → ℕ → Result Spaced NdmpError → List ℕ → Type 0
MtioGave l op p times r l' = Gave (λ (s : Spaced). s.error) (refused_mtio p) l (mtio_step l op p times) r l'

abbrev pub StateGave : List ℕ → ℕ → Result Place NdmpError → Type 0
StateGave l p (Ok s) = standing_at l p ≡ standing 0 s.file s.block
StateGave l p (Err e) = (standing_at l p ≡ standing (number_of e) 0 0) × (is_refusal (number_of e) ≡ true)
