use Rattle.wire_replies.proofs.Laws.{fit, environment_fits}
use Rattle.wire_replies.proofs.answers_fit.Goals as goal

-- That every answer fits is a law of `Laws`, from how long each reply and notice is.
pub returns : goal.returns
returns c = (fit, environment_fits)
