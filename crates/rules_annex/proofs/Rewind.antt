-- An accepted rewind leaves the cartridge and the tape at its start; it is accepted on a sound tape only. Assumes nothing.
use Prim.Native.Nat.{ℕ}
use mathlib.Core.Bool.{Bool, true, false}
use mathlib.Core.List.{List}
use mathlib.Core.Path.{◌≡◌, refl}
use Rattle.xdr.specs.Choose.{choose}
use Rattle.xdr.proofs.Tests.{by_test}
use Rattle.tape_image.specs.Image.{faulty}
use Rattle.tape_spacing.specs.declared.Spaced.{Spaced}
use Rattle.tape_ops.specs.Step.{Step}
use Rattle.tape_ops.specs.Operations.{mtio_step}
use Rattle.wire_requests.specs.declared.TapeRequest.TheVariants as TapeRequest
use Rattle.wire_requests.specs.declared.Request.{Request}
use Rattle.wire_requests.specs.declared.Request.TheVariants as Request
use Rattle.wire_replies.specs.declared.Reply.{Reply}
use Rattle.rules_parts.specs.declared.types.Tape.{Tape}
use Rattle.rules.specs.Judge.{is_accepted, Accepts}
use Rattle.tape_ops.specs.Answers.{is_refusal}
use Rattle.rules.specs.TapeService.{Loaded, after_mtio, tape_mtio, device_step, with_loaded, tape_step}
use Rattle.rules.specs.Answer.{Kept, Lent, answered, is_close, verdict, outcome, request_in, Done, tape_part, with_tape}
use Rattle.rules.specs.Order.{Call}
use Rattle.rules.proofs.JudgeLaws.{accepts, accepts_map, carried}
use Rattle.rules.proofs.Keeping.{clash}
use Rattle.rules_moves.specs.Sequence.{Asked, step, is_heard}
use Rattle.rules_moves.proofs.Asking.{call_noted}
use Rattle.rules_annex.specs.RoundTrip.{Rewinds}

-- the image, the position, and that nothing was wrong with them
abbrev pub Rewound : List ℕ → ℕ → List ℕ → ℕ → Type 0
Rewound l p l' p' = (l' ≡ l) × (p' ≡ 0) × (faulty l p ≡ false)

-- ---- the tape's own step
Starts : List ℕ → ℕ → Step Spaced → Type 0
Starts l p st = is_refusal st.gives.error ≡ false → Rewound l p st.image st.gives.position

rewinds : (l : List ℕ) (p times : ℕ) → Starts l p (mtio_step l 4 p times)
unfolding mtio_step Starts is_refusal choose
rewinds l p times = by_test (Starts l p) (faulty l p) _ _ (λ _ e. clash true e refl) (λ f _. (refl, refl, f))

AtStart : List ℕ → ℕ → Reply → Loaded → Type 0
AtStart l p _ s = Rewound l p s.image s.tape.position

tape_rewinds : (mover : ℕ) (t : Tape) (l : List ℕ) (times : ℕ) → Accepts (AtStart l t.position) (tape_mtio mover t l 4 times)
unfolding tape_mtio after_mtio choose Starts AtStart
tape_rewinds mover t l times = accepts (AtStart l t.position) _ _ _ (λ g. rewinds l t.position times (g 3))

-- ---- the call, where the request is accepted
module _ (w : Kept) where
  Left : Bool → Kept → Type 0
  Left b v = b ≡ true → Rewound w.image w.session.tape.position v.image v.session.tape.position

  DoneLeft : Reply → Done → Type 0
  DoneLeft _ d = Left true d.kept

  module _ (l : Lent) (r : List ℕ) (times : ℕ) where
    accepted_rewinds : Accepts DoneLeft (outcome w l r (Request.Tape (TapeRequest.Mtio 4 times)))
    unfolding outcome tape_step device_step DoneLeft Left AtStart
    accepted_rewinds =
        carried DoneLeft (with_tape w) _ (carried (λ reply p. DoneLeft reply (with_tape w p)) (with_loaded (tape_part w)) _
        (accepts_map (AtStart w.image w.session.tape.position) (λ reply s. DoneLeft reply (with_tape w (with_loaded (tape_part w) s))) (λ _ _ h _. h) _
        (tape_rewinds w.session.mover.state w.session.tape w.image times)))

    no_close : request_in r ≡ Request.Tape (TapeRequest.Mtio 4 times) → is_close (request_in r) ≡ true → ◌≡◌ {A = Bool} true false
    unfolding is_close
    no_close e h = clash (is_close (request_in r)) (rw e refl) h

    call_rewinds : request_in r ≡ Request.Tape (TapeRequest.Mtio 4 times)
        → Left (choose (is_heard w l r) (choose (is_accepted (verdict w l r (request_in r))) true false) false) (answered w l r).next
    unfolding Left DoneLeft
    call_rewinds e =
        call_noted false (λ _. true) w l r Left (λ _ _ _ h. h) (λ _ _ h. h) (λ z. clash false refl z) (no_close e) (rw e accepted_rewinds)

pub rewound : (w : Kept) (c : Call) (times : ℕ) → Rewinds w c times
    → Rewound w.image w.session.tape.position (step (Asked c) w).image (step (Asked c) w).session.tape.position
unfolding step Left choose
rewound w c times q = call_rewinds w c.lent c.ask.request times q.request (rw (q.heard, q.accepted) refl)
