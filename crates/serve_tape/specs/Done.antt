-- What the code of a tape request hands back and leaves in the image, as the definitions have it.
use Rattle.std.specs.Prelude.{ℕ, List, [], ◌∷◌, Ok, Err, not, ◌≡◌}
use Rattle.codes.specs.Codes.{not_open, illegal_state}
use Rattle.codes.specs.Errors.{number_of}
use Rattle.rules_parts.specs.declared.types.Tape.{Tape}
use Rattle.rules_parts.specs.Parts.{holds_tape}
use Rattle.rules.specs.Judge.{Test, test, Outcome, refuse, accept}
use Rattle.rules.specs.Served.{Served}
use Rattle.rules.specs.TapeService.{Loaded, loaded}

-- the code's answer with the image after it is the definition's outcome; a refusal leaves the image
abbrev pub Tells : Outcome Loaded → Served Tape → List ℕ → List ℕ → Type 0
Tells o (Err e) l l' = (o ≡ refuse (number_of e)) × (l' ≡ l)
Tells o (Ok a) l l' = o ≡ accept a.reply (loaded a.next l')

-- the tests that all but open and get state begin with
abbrev pub held_tests : ℕ → Tape → List Test
held_tests mover t = test (not t.opened) not_open ∷ test (holds_tape mover) illegal_state ∷ []
