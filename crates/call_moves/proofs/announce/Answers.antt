use Rattle.call_sending.proofs.Calling.{unsent_as}
use mathlib.Core.List.{[]}
use mathlib.Core.Path.{refl}
use native.Mathlib.Omega.{arith}
use Rattle.call_moves.proofs.announce.Goals as goal

pub halts-halted-requires : goal.halts-halted-requires
halts-halted-requires c = let c8 = c in
    (omega (arith, (c.quiet-sent.ensures [] [] []).len), omega (arith, c8.requires))

pub notify-requires : goal.notify-requires
notify-requires c = let c8 = c in (
  omega (arith, c.halts-halted.ensures.0, (c.quiet-sent.ensures [] [] []).len),
  omega
      (arith, c8.requires),
)

pub returns : goal.returns
returns c = let c8 = c in
    λ before image variables.
    let sent = unsent_as _ _ _ _ image variables _ (rw (c.with_tape-session.ensures, c.with_mover.ensures, c.with_source.ensures) refl) (c8.quiet-sent.ensures image variables _) in
    c.notify.ensures.1 _ image variables _
    (c.halts-halted.ensures.1 _ image variables _ sent)
