use mathlib.Core.Path.{refl, sym, ◌∙◌}
use Rattle.wire_requests.specs.declared.Request.TheVariants as Request
use Rattle.rules.specs.Answer.{is_unread}
use Rattle.rules.proofs.Sending.{connect_sends}
use Rattle.call_sending.proofs.Calling.{call_if, call_else}
use Rattle.call_request.proofs.Framing.{body_is}
use borrow.Author.Rules.{rules}
use Rattle.call_request.proofs.connect_call.Goals as goal

pub returns-then-is_close : goal.returns-then-is_close
returns-then-is_close c = λ image variables. call_if _ (sym c.is_close.ensures ∙ c.if-is_close.true)
    (c.shut.ensures image variables _)

pub serve-done-requires : goal.serve-done-requires
serve-done-requires c = let st = c in
    rw (body_is st.args.input.now) st.requires.1

pub login_call-requires : goal.login_call-requires
login_call-requires c = let st = c in
    (st.requires.0, rw c.serve-done.ensures (connect_sends _ _ _ _ _))

pub returns : goal.returns
unfolding is_unread
returns c = let c8 = c in
    λ image variables.
    let a = c8.args in
    call_else _ (sym c8.is_close.ensures ∙ c8.if-is_close.false)
    (rw (c.serve-done.ensures, body_is a.input.now) at
    (c.login_call.ensures image variables (Request.Connect a.q) refl))
