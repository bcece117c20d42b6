use mathlib.Core.Path.{ap}
use Rattle.wire_accounts.specs.Entry.{number_of}
use Rattle.wire_accounts.proofs.Laws.{text_shuts, md5_judges}
use Rattle.wire_accounts.proofs.md5_matches.Goals as goal

pub returns-in-Text : goal.returns-in-Text
returns-in-Text c = text_shuts _ _ _ _ (ap number_of c.in-Text.is)

pub returns-in-Md5 : goal.returns-in-Md5
returns-in-Md5 c = md5_judges _ _ _ _ _ _ (ap number_of c.in-Md5.is) c.same-known.ensures c.is_digest-right.ensures
