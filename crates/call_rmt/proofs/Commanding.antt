-- A command's request, what its reply is by the writes that make it, and its call by what was found on the way. Assumes nothing.
use Prim.Native.Nat.{ℕ, ◌+◌, ◌≤◌}
use Prim.{tt}
use mathlib.Core.Bool.{true, false}
use mathlib.Core.List.{List, ◌++◌, append-nil}
use mathlib.Core.Path.{◌≡◌, refl, sym, ap, ◌∙◌}
use native.Mathlib.Nat.{zero-add}
use lib.ListN.{length}
use Rattle.xdr.specs.Choose.{choose}
use Rattle.xdr.specs.Xdr.{overlay}
use Rattle.xdr.proofs.Tests.{eqb_yes}
use Rattle.xdr_opaque.specs.Put.{Put}
use Rattle.changer_elements.specs.Slots.{in_drive}
use Rattle.wire_requests.specs.Within.{texts_within}
use Rattle.wire_requests.specs.declared.TapeRequest.{TapeRequest}
use Rattle.wire_requests.specs.declared.Request.{Request}
use Rattle.wire_replies.specs.declared.Reply.{Reply}
use Rattle.wire_replies.specs.Fit.{Sendable}
use Rattle.wire_rmt.specs.declared.Command.{Command}
use Rattle.wire_rmt.specs.Commands.{rmt_command}
use Rattle.wire_rmt.specs.Replies.{error_of, accepted, refused}
use Rattle.wire_rmt_reading.proofs.Within.{text_in, command_within}
use Rattle.rules_parts.specs.declared.types.Answer.{Answer}
use Rattle.rules_parts.specs.declared.types.Session.{Session}
use Rattle.rules_parts.specs.declared.types.Tape.{Tape}
use Rattle.std.specs.Prelude.{Option, Some, None}
use Rattle.rules.specs.Judge.{Outcome, refuse, accept, judge, onto, Accepts}
use Rattle.rules.specs.TapeService.{Loaded, loaded, with_loaded, device_step, tape_step}
use Rattle.rules.specs.Answer.{Kept, held, Answered, silent, guarded, tape_part, with_tape, outcome, needs_login, is_locked, verdict}
use Rattle.rules.specs.Rmt.{tape_request, rmt_request, in_record, bare, said, told, rmt_reply, saying, replied, commanded}
use Rattle.rules.proofs.Guarding.{when_stopped, when_goes}
use Rattle.rules.proofs.Sending.{tape_sends}
use Rattle.rules.proofs.Calls.{verdict_free}
use Rattle.call_sending.specs.Call.{CallTold}

-- ---- a path and data lie within the command
texts_of : (q : Command) (l : List ℕ) → (text_in (Some q)).start + (text_in (Some q)).len ≤ length l → texts_within l (Request.Tape (tape_request q))
unfolding text_in tape_request texts_within
texts_of (Command.Open name mode) l h = h
texts_of Command.Close l h = tt
texts_of (Command.Read count) l h = tt
texts_of (Command.Write bytes) l h = h
texts_of (Command.Operate op count) l h = tt

pub read_within : (c : List ℕ) (q : Command) → Some q ≡ rmt_command c → texts_within c (Request.Tape (tape_request q))
read_within c q e = texts_of q c (rw e (command_within c))

-- ---- what is told
module _ (e n : ℕ) (b : List ℕ) {next : ℕ} {l m : List ℕ} where
  pub told_accepted : e ≡ 0 → Put 0 (accepted n ++ b) l next m → Put 0 (told e n b) l next m
  unfolding told choose
  told_accepted h p = rw (eqb_yes h) p

-- ---- a reply that was written, in a whole call
pub said_told : (b : List ℕ) (s : Session) (n : ℕ) (image variables l l' : List ℕ) → Put 0 b l n l'
    → CallTold (saying b (held s image variables)) (record { code = 0; len = n; session = s }) image variables l l'
said_told b s n image variables l l' p =
    record {
      code = refl;
      len = p.end ∙ zero-add (length b) ∙ ap length (sym (append-nil b));
      next = refl;
      image = refl;
      variables = refl;
      output = p.wrote ∙ ap (λ (x : List ℕ). overlay 0 x l) (sym (append-nil b));
    }

-- ---- a command by what was found on the way
module _ (k : Kept) (c : List ℕ) (q : TapeRequest) where
  verdict_locked : k.session.login.authorized ≡ false → verdict k bare (in_record c) (Request.Tape q) ≡ refuse 4
  unfolding verdict judge is_locked needs_login choose
  verdict_locked a = rw (verdict, is_locked, a)

  verdict_known : k.session.login.authorized ≡ true → verdict k bare (in_record c) (Request.Tape q) ≡ outcome k bare (in_record c) (Request.Tape q)
  unfolding verdict judge is_locked needs_login choose
  verdict_known a = rw (verdict, is_locked, a)

  -- what the tape came to
  abbrev came : Outcome Loaded
  came = device_step (in_drive k.session.changer.slots) k.session.mover.state k.session.tape k.image q c

module _ (k : Kept) (c : List ℕ) {v : Answer} {image variables l l' : List ℕ} where
  pub told_bad : None ≡ rmt_command c → CallTold (saying (refused (error_of 18)) k) v image variables l l'
      → CallTold (replied k (said k c)) v image variables l l'
  unfolding needs_login outcome replied rmt_request
  told_bad e t = rw (← e, verdict_free k bare (in_record c) Request.Bad refl) t

  module _ (q : Command) (e : Some q ≡ rmt_command c) where
    pub told_locked : k.session.login.authorized ≡ false → CallTold (saying (refused (error_of 4)) k) v image variables l l'
        → CallTold (replied k (said k c)) v image variables l l'
    unfolding replied rmt_request
    told_locked a t = rw (← e, verdict_locked k c (tape_request q) a) t

    pub told_known : k.session.login.authorized ≡ true → CallTold (replied k (outcome k bare (in_record c) (Request.Tape (tape_request q)))) v image variables l l'
        → CallTold (replied k (said k c)) v image variables l l'
    unfolding rmt_request
    told_known a t = rw (← e, verdict_known k c (tape_request q) a) t

  -- and by what the tape came to
  module _ (q : TapeRequest) where
    pub work_refused : (n : ℕ) → came k c q ≡ refuse n → CallTold (saying (refused (error_of n)) k) v image variables l l'
        → CallTold (replied k (outcome k bare (in_record c) (Request.Tape q))) v image variables l l'
    unfolding outcome tape_step onto replied
    work_refused n h t = rw h t

    pub work_accepted : (r : Reply) (p : Loaded) {s : Session} → came k c q ≡ accept r p
        → s ≡ (with_tape k (with_loaded (tape_part k) p)).kept.session
        → CallTold (saying (rmt_reply r p.image) (held s p.image k.variables)) v image variables l l'
        → CallTold (replied k (outcome k bare (in_record c) (Request.Tape q))) v image variables l l'
    unfolding outcome tape_step onto replied
    work_accepted r p h e t = rw h (rw e at t)

-- what the tape came to can be told
pub work_sends : (drive mover : ℕ) (t : Tape) (l : List ℕ) (q : TapeRequest) (c : List ℕ) (r : Reply) (next : Tape) (l' : List ℕ)
    → device_step drive mover t l q c ≡ accept r (loaded next l') → Sendable r l'
unfolding Accepts
work_sends drive mover t l q c r next l' e = rw e at (tape_sends drive mover t l q c)

-- ---- the call, by what its guard found
module _ (k : Kept) (room : ℕ) (c : List ℕ) {v : Answer} {image variables l l' : List ℕ} where
  pub command_stopped : (code : ℕ) → Some code ≡ guarded k.session room Some None → CallTold (silent code k) v image variables l l'
      → CallTold (commanded k room c) v image variables l l'
  unfolding commanded
  command_stopped code h t = when_stopped (λ (a : Answered). CallTold a v image variables l l') k.session room code _ _ h t

  pub command_goes : ◌≡◌ {A = Option ℕ} None (guarded k.session room Some None) → CallTold (replied k (said k c)) v image variables l l'
      → CallTold (commanded k room c) v image variables l l'
  unfolding commanded
  command_goes h t = when_goes (λ (a : Answered). CallTold a v image variables l l') k.session room _ _ h t
