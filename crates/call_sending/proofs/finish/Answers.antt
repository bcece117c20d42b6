use Rattle.call_sending.proofs.Calling.{finished}
use Rattle.call_sending.proofs.finish.Goals as goal

pub returns : goal.returns
returns c = (
  c.write_reply-len.ensures.small,
  finished _ _ _ _ _ _ _ _
      c.args.next _ _ c.read_word-message.ensures
      c.read_word-echo.ensures c.write_reply-len.ensures.put c.after_message-session.ensures,
)
