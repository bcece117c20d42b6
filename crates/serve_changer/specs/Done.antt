-- What the code of a SCSI request hands back, as the definitions have it.
use Rattle.std.specs.Prelude.{ℕ, List, [], ◌≡◌, Result, Ok, Err}
use Rattle.codes.specs.Errors.{number_of}
use Rattle.codes.specs.declared.NdmpError.{NdmpError}
use Rattle.wire_replies.specs.declared.Reply.TheVariants as Reply
use Rattle.changer_elements.specs.Status.{status_data}
use Rattle.rules_parts.specs.declared.types.Changer.{Changer}
use Rattle.rules_parts.specs.Parts.{changer_refused}
use Rattle.rules.specs.Judge.{Outcome, refuse, accept}
use Rattle.rules.specs.ScsiService.{sense_length}
use Rattle.serve_changer.specs.declared.Accepted.{Accepted}
use Rattle.serve_changer.specs.declared.Accepted.TheVariants.{Replies, Reports}

-- What is accepted is the definition's outcome, with the bytes that the reply shows: the status of elements is the only one that shows any.
abbrev pub Shows : Changer → Outcome Changer → List ℕ → Accepted → Type 0
Shows c o shown (Replies reply next) = (o ≡ accept reply next) × (shown ≡ [])
Shows c o shown (Reports asked) = (o ≡ accept Reply.Elements c) × (shown ≡ status_data asked c.slots)

-- The code's answer is the definition's outcome. A refusal shows nothing, whatever was asked.
abbrev pub Tells : Changer → Outcome Changer → List ℕ → Result Accepted NdmpError → Type 0
Tells c o shown (Err e) = o ≡ refuse (number_of e)
Tells c o shown (Ok accepted) = Shows c o shown accepted

-- REQUEST SENSE, as `run_cdb` has it
abbrev pub senses : Changer → List ℕ → ℕ → Outcome Changer
senses c cdb room = accept (Reply.Sense (sense_length cdb room) c.key c.code c.qualifier) (changer_refused 0 0 0 c)
