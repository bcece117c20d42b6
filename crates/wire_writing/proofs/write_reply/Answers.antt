use native.Mathlib.Omega.{arith}
use mathlib.Core.Path.{refl}
use Rattle.wire_replies.proofs.Laws.{body_small}
use Rattle.wire_writing.proofs.Laws.{reply_sent}
use Rattle.wire_writing.proofs.write_reply.Goals as goal

pub write-requires : goal.write-requires
write-requires c = let b = c in
    (omega arith, omega (arith, b.write_body-end.ensures.end, body_small _ _ b.requires.1))

pub returns : goal.returns
returns c = let b = c in
    reply_sent _ _ _ _ _ _ _ _ _ _ _ _ b.write_body-end.ensures b.requires.1 (omega arith) refl
    c.header_error.ensures
    c.write.ensures
