use mathlib.Core.Path.{ap}
use native.Mathlib.Omega.{arith}
use Rattle.wire_accounts.specs.Entry.{number_of}
use Rattle.call_accounts.proofs.Laws.{line_md5, line_text}
use Rattle.call_accounts.proofs.put_line.Goals as goal

pub returns-in-Md5 : goal.returns-in-Md5
returns-in-Md5 c = line_md5 _ _ (omega arith) (ap number_of c.in-Md5.is) c.put_bytes.ensures

pub returns-in-Text : goal.returns-in-Text
returns-in-Text c = line_text _ _ (omega arith) (ap number_of c.in-Text.is) c.put_bytes-in-Text.ensures
