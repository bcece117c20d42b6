use mathlib.Core.Path.{refl, sym, ◌∙◌}
use Rattle.rules.specs.Answer.{held}
use Rattle.call_request.specs.Call.{lent}
use Rattle.call_request.proofs.Framing.{body_is}
use Rattle.call_request.proofs.Routing.{request_is, texts_in, call_locked, call_free}
use Rattle.call_request.proofs.framed_call.Goals as goal

pub refuse-requires : goal.refuse-requires
refuse-requires c = c.requires.0

pub returns-then-is_locked : goal.returns-then-is_locked
returns-then-is_locked c =
    let a = c.args in
    let image = a.image.now in
    let variables = a.variables.now in
    let k = held a.s image variables in
    let l = lent a.l.accounts.now a.l.challenge.now a.l.addresses.now a.l.made a.time a.out.now in
    call_locked k l a.input.now _ (request_is a.input.now (body_is a.input.now) c.requires.1 c.row_of-kind.ensures refl c.decode-q.ensures)
    (sym c.is_locked.ensures ∙ c.if-is_locked.true) (rw c.number.ensures at (c.refuse.ensures image variables))

pub serve_call-requires : goal.serve_call-requires
serve_call-requires c =
    let input = c.args.input.now in
    (c.requires.0, texts_in input (body_is input) c.decode-q.ensures, c.requires.2)

pub returns : goal.returns
returns c =
    let a = c.args in
    let k = held a.s a.image.now a.variables.now in
    let l = lent a.l.accounts.now a.l.challenge.now a.l.addresses.now a.l.made a.time a.out.now in
    call_free k l a.input.now _ (request_is a.input.now (body_is a.input.now) c.requires.1 c.row_of-kind.ensures refl c.decode-q.ensures)
    (sym c.is_locked.ensures ∙ c.if-is_locked.false) c.serve_call.ensures
