use Prim.Native.Nat.{◌≤◌}
use lib.ListN.{length}
use mathlib.Core.Path.{refl}
use Rattle.codes.specs.Codes.{challenge_length}
use Rattle.wire_requests.specs.declared.Request.TheVariants as Request
use Rattle.rules.specs.Answer.{is_unread}
use Rattle.rules.proofs.Sending.{config_sends}
use borrow.Author.Rules.{rules}
use Rattle.call_request.proofs.config_call.Goals as goal

pub login_call-requires : goal.login_call-requires
login_call-requires c =
    let challenge = c.args.challenge.now in
    let whole : length challenge ≤ challenge_length = search rules in
    (c.requires, rw (c.with_challenge-done.ensures, c.config-judged.ensures challenge) (config_sends _ challenge _ whole))

pub returns : goal.returns
unfolding is_unread
returns c = λ image variables.
    rw (c.with_challenge-done.ensures, c.config-judged.ensures c.args.challenge.now) at
    (c.login_call.ensures image variables (Request.Config c.args.q) refl)
