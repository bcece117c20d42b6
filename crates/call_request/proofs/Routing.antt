-- Requests at their services: what is answered can be sent, and a call of a service does what its outcome says. Assumes nothing.
use Prim.Native.Nat.{ℕ, ◌≤◌}
use mathlib.Core.Bool.{Bool, true, false}
use mathlib.Core.List.{List, []}
use mathlib.Core.Path.{◌≡◌, refl, sym, ap, ◌∙◌}
use native.Mathlib.Omega.{arith}
use lib.ListN.{length, take, drop}
use lib.Dec.{eqb}
use Rattle.codes.specs.Codes.{store_length}
use Rattle.xdr.specs.Choose.{choose}
use Rattle.changer_elements.specs.declared.Asked.{Asked}
use Rattle.changer_status.specs.Writers.{HandsOver}
use Rattle.wire_frame.specs.Frame.{well_framed}
use Rattle.wire_frame.specs.Messages.{row_of}
use Rattle.wire_frame.specs.declared.Message.{Message}
use Rattle.wire_frame.specs.declared.Row.{Row}
use Rattle.xdr.specs.Xdr.{word}
use Rattle.wire_requests.specs.Within.{texts_within, Decoded}
use Rattle.wire_requests.specs.declared.Request.{Request}
use Rattle.wire_replies.specs.declared.Reply.{Reply}
use Rattle.wire_replies.specs.declared.Reply.TheVariants as Reply
use Rattle.wire_replies.specs.declared.Notice.TheVariants as Notice
use Rattle.wire_replies.specs.Fit.{Sendable}
use Rattle.wire_requests.specs.declared.DataRequest.{DataRequest}
use Rattle.wire_requests.specs.declared.DataRequest.TheVariants as DataRequest
use Rattle.wire_requests.specs.declared.ScsiRequest.{ScsiRequest}
use Rattle.wire_requests.specs.declared.TapeRequest.{TapeRequest}
use Rattle.wire_requests.specs.declared.MoverRequest.{MoverRequest}
use Rattle.rules_parts.specs.declared.types.Mover.{Mover}
use Rattle.rules_parts.specs.declared.types.Changer.{Changer}
use Rattle.rules_parts.specs.declared.types.Session.{Session}
use Rattle.rules_parts.specs.Names.{least_room}
use Rattle.std.specs.Prelude.{Option, Some, None}
use Rattle.rules.specs.TapeService.{Loaded, TapePart, device_step, with_loaded, with_mover, tape_step, mover_part_step}
use Rattle.rules.specs.ScsiService.{scsi_step, scsi_shown}
use Rattle.rules.specs.DataService.{variables_after, data_shown}
use Rattle.rules.specs.MoverService.{mover_step}
use Rattle.rules.specs.Judge.{Outcome, refuse, accept, onto, Accepts}
use Rattle.rules.specs.Answer.{Kept, Lent, Answered, Done, silent, guarded, answered, requested, replying, halting, noticed, refusing, refused_in, is_unread, settled, request_in, message_in, judged}
use Rattle.rules.specs.Answer.{held, room_of, is_locked, is_close, closing, outcome}
use Rattle.rules.proofs.Guarding.{when_stopped, when_goes, roomy, stored}
use Rattle.rules.proofs.Sending.{scsi_sends}
use Rattle.serve_changer.specs.declared.Accepted.TheVariants.{Replies}
use Rattle.serve_changer.specs.Done.{Shows}
use Rattle.rules.proofs.Calls.{judged_locked, judged_free}
use Rattle.rules_parts.specs.declared.types.Answer.{Answer}
use Rattle.call_sending.specs.Call.{CallTold}

-- what is said of accepted answers, of the one that was given
pub accepted_says : {A : Type 0} (P : Reply → A → Type 0) (o : Outcome A) (reply : Reply) (p : A) → accept reply p ≡ o → Accepts P o → P reply p
unfolding Accepts
accepted_says P o reply p e h = rw (← e) at h

-- ---- a call by the outcome of its step: refused; accepted with no end halted; accepted
module _ {A : Type 0} (k : Kept) (time : ℕ) (r : List ℕ) (q : Request) (put : A → Done) (o : Outcome A) {v : Answer}
    {image variables l l' : List ℕ} where
  pub call_refused : (e : ℕ) → is_unread q ≡ false → refuse e ≡ o → CallTold (replying r time (refused_in r e) [] k) v image variables l l'
      → CallTold (settled k time r q (onto put o)) v image variables l l'
  unfolding settled onto refusing choose
  call_refused e u h c = rw (← h, u) c

  pub call_ended : (reply : Reply) (p : A) → accept reply p ≡ o
      → CallTold (halting time (put p).dwhy (put p).mwhy (replying r time reply (put p).shown (put p).kept)) v image variables l l'
      → CallTold (settled k time r q (onto put o)) v image variables l l'
  unfolding settled onto
  call_ended reply p h c = rw (← h) c

  pub call_accepted : (reply : Reply) (p : A) → (put p).dwhy ≡ 0 → (put p).mwhy ≡ 0 → accept reply p ≡ o
      → CallTold (replying r time reply (put p).shown (put p).kept) v image variables l l'
      → CallTold (settled k time r q (onto put o)) v image variables l l'
  unfolding settled onto noticed choose
  call_accepted reply p d m h c = rw (← h, d, m) c

-- ---- the service TAPE and MOVER: what an interface of it came to, as the service's own outcome
module _ (p : TapePart) where
  pub tape_refuses : (drive : ℕ) (q : TapeRequest) (body : List ℕ) (e : ℕ) → device_step drive p.mover.state p.tape p.image q body ≡ refuse e
      → refuse e ≡ tape_step drive p q body
  unfolding tape_step onto
  tape_refuses drive q body e h = rw h

  pub tape_accepts : (drive : ℕ) (q : TapeRequest) (body : List ℕ) (reply : Reply) (s : Loaded)
      → device_step drive p.mover.state p.tape p.image q body ≡ accept reply s → accept reply (with_loaded p s) ≡ tape_step drive p q body
  unfolding tape_step onto
  tape_accepts drive q body reply s h = rw h

  pub mover_refuses : (q : MoverRequest) (list : List ℕ) (e : ℕ) → refuse e ≡ mover_step p.mover p.tape q list → refuse e ≡ mover_part_step p q list
  unfolding mover_part_step onto
  mover_refuses q list e h = rw (← h)

  pub mover_accepts : (q : MoverRequest) (list : List ℕ) (reply : Reply) (m : Mover) → accept reply m ≡ mover_step p.mover p.tape q list
      → accept reply (with_mover p m) ≡ mover_part_step p q list
  unfolding mover_part_step onto
  mover_accepts q list reply m h = rw (← h)

-- ---- the request of a record, by what was decoded from the part of it that is lent
pub request_is : (r : List ℕ) {body : List ℕ} {m : ℕ} {row : Row} {kind : Message} {q : Request} → body ≡ drop 28 r → m ≡ word r 16 → row ≡ row_of m → kind ≡ row.kind
    → Decoded kind body q → q ≡ request_in r
request_is r hb hm hr hk d = d.is ∙ rw (hb, hk, hr, hm)

pub texts_in : (r : List ℕ) {body : List ℕ} {m : Message} {q : Request} → body ≡ drop 28 r → Decoded m body q → texts_within (drop 28 r) q
texts_in r hb d = rw hb at d.within

pub header_sends : (e : ℕ) (seen : List ℕ) → Sendable (Reply.Header e) seen
unfolding Sendable
header_sends e seen = tt

-- a request that is locked is refused with 4; any other is at its service
module _ (k : Kept) (l : Lent) (r : List ℕ) (q : Request) {v : Answer} {image variables out out' : List ℕ} where
  pub call_locked : q ≡ request_in r → is_locked k.session.login q ≡ true
      → CallTold (replying r l.time (refused_in r 4) [] k) v image variables out out'
      → CallTold (judged k l r (request_in r)) v image variables out out'
  call_locked e h c = rw (← e, judged_locked k l r q h) c

  pub call_free : q ≡ request_in r → is_locked k.session.login q ≡ false
      → CallTold (choose (is_close q) (closing k) (settled k l.time r q (outcome k l r q))) v image variables out out'
      → CallTold (judged k l r (request_in r)) v image variables out out'
  call_free e h c = rw (← e, judged_free k l r q h) c

-- a call by what its guard found, with the room that the store leaves it
module _ (k : Kept) (l : Lent) (r : List ℕ) (room : ℕ) (h : room ≡ room_of k l) {v : Answer} {image variables out out' : List ℕ} where
  pub call_stopped : (code : ℕ) → Some code ≡ guarded k.session room Some None → CallTold (silent code k) v image variables out out'
      → CallTold (answered k l r) v image variables out out'
  unfolding answered
  call_stopped code g c =
      rw (← h) (when_stopped (λ (a : Answered). CallTold a v image variables out out') k.session room code _ _ g c)

  pub call_goes : ◌≡◌ {A = Option ℕ} None (guarded k.session room Some None)
      → CallTold (choose (well_framed r) (requested k l r) (closing k)) v image variables out out'
      → CallTold (answered k l r) v image variables out out'
  unfolding answered
  call_goes g c =
      rw (← h) (when_goes (λ (a : Answered). CallTold a v image variables out out') k.session room _ _ g c)

-- the room that the code found, and what follows where it is enough
pub room_is : (k : Kept) (l : Lent) {n : ℕ} → n ≡ choose (eqb (length k.variables) store_length) l.room 0 → n ≡ room_of k l
unfolding room_of
room_is k l h = h

pub room_there : (k : Kept) (l : Lent) {n : ℕ} → n ≡ room_of k l → least_room ≤ n → (least_room ≤ l.room) × (length k.variables ≡ store_length)
room_there k l h g = let z : least_room ≤ room_of k l = rw h at g in (roomy k l z, stored k l z)

-- ---- a reply by the bytes that it shows
pub shows_as : (r : List ℕ) (time : ℕ) (reply : Reply) (k : Kept) {a : Answer} {image variables l l' x y : List ℕ} → x ≡ y
    → CallTold (replying r time reply x k) a image variables l l' → CallTold (replying r time reply y k) a image variables l l'
shows_as r time reply k e c = rw e at c

-- of the changer: a reply that changes something shows none, and the status of elements shows what was written
pub change_sends : (tape : Bool) (c : Changer) (q : ScsiRequest) (body : List ℕ) (reply : Reply) (next : Changer)
    → Shows c (scsi_step tape c q body) (scsi_shown q body c.slots) (Replies reply next) → Sendable reply []
change_sends tape c q body reply next t =
    rw t.1 at (accepted_says (λ (r : Reply) _. Sendable r (scsi_shown q body c.slots)) _ _ _ (sym t.0) (scsi_sends tape c q body))

pub status_sends : (a : Asked) (slots : List ℕ) (n : ℕ) (l : List ℕ) → HandsOver a slots n l → Sendable Reply.Elements (take n l)
unfolding Sendable
status_sends a slots n l h = rw h.bytes (let e = h.end in let f = h.few in omega arith)

-- of a data request: what it shows of the store is not changed by the request
shown_after : (q : DataRequest) (body list v : List ℕ) → data_shown q list (variables_after q body v) ≡ data_shown q list v
unfolding data_shown variables_after
shown_after DataRequest.State body list v = refl
shown_after (DataRequest.Backup name ps) body list v = refl
shown_after (DataRequest.Recover name ps) body list v = refl
shown_after DataRequest.Environment body list v = refl
shown_after DataRequest.Stop body list v = refl
shown_after (DataRequest.Listen address) body list v = refl

module _ (q : DataRequest) (body list v v' : List ℕ) (h : v' ≡ variables_after q body v) where
  shown_same : data_shown q list v' ≡ data_shown q list v
  shown_same = ap (data_shown q list) h ∙ shown_after q body list v

  pub shown_sends : (reply : Reply) → Sendable reply (data_shown q list v) → Sendable reply (data_shown q list v')
  shown_sends reply t = rw shown_same t

  pub shown_reply : (r : List ℕ) (time : ℕ) (reply : Reply) (image : List ℕ) (s t : Session) (a : Answer) (l l' : List ℕ) → s ≡ t
      → CallTold (replying r time reply (data_shown q list v') (held s image v')) a image v' l l'
      → CallTold (replying r time reply (data_shown q list v) (held t image (variables_after q body v))) a image v' l l'
  shown_reply r time reply image s t a l l' e c = rw (← e, ← shown_same, ← h) c
