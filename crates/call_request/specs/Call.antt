-- Names for parts of what a request call gives.
use Rattle.std.specs.Prelude.{ℕ, Bool, List, length}
use Rattle.wire_replies.specs.declared.Reply.{Reply}
use Rattle.wire_replies.specs.Fit.{Sendable}
use Rattle.rules_parts.specs.declared.types.Login.{Login}
use Rattle.rules.specs.Answer.{Lent}

-- what is lent with a request, from the caller's buffers
abbrev pub lent : List ℕ → List ℕ → List ℕ → Bool → ℕ → List ℕ → Lent
lent accounts challenge addresses made time out =
    record { accounts = accounts; challenge = challenge; time = time; room = length out; addresses = addresses; made = made }

-- a reply of CONNECT or CONFIG can be sent, with the bytes that it may show
abbrev pub Sends : List ℕ → Reply → Login → Type 0
Sends shown r _ = Sendable r shown
