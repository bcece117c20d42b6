use mathlib.Core.Path.{◌∙◌}
use Rattle.wire_scanning.proofs.Cases.{tcp_word}
use Rattle.wire_scanning.proofs.is_tcp.Goals as goal

pub returns : goal.returns
returns c = c.eq.ensures ∙ tcp_word _ _ _ c.word_at.ensures
