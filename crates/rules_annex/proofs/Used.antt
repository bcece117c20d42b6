-- The body bytes in use grow by the records written times their size: call by call, then by induction over the list. Assumes nothing.
use Prim.Native.Nat.{ℕ, ◌+◌, ◌*◌, ◌≤◌}
use mathlib.Core.Bool.{Bool, not}
use mathlib.Core.List.{List, [], ◌∷◌}
use mathlib.Core.Path.{◌≡◌, refl, sym, ap, ◌∙◌}
use native.Mathlib.Omega.{arith}
use native.Mathlib.Nat.{add-zero, add-mul, zero-mul, one-mul}
use lib.Dec.{eqb}
use lib.ListN.{length, take}
use lib.Seq.{length-take-le}
use Rattle.xdr.specs.Choose.{choose}
use Rattle.xdr.proofs.Tests.{by_test}
use Rattle.tape_image.specs.Image.{count, used}
use Rattle.tape_writing.specs.Writing.{Room, fill_to}
use Rattle.tape_writing.proofs.Laws.{length_fill, kept_end}
use Rattle.tape_writing.proofs.Theorems.{written_count, written_used}
use Rattle.wire_requests.specs.declared.DataRequest.{DataRequest}
use Rattle.wire_requests.specs.declared.DataRequest.TheVariants as DataRequest
use Rattle.wire_requests.specs.declared.JointRequest.{JointRequest}
use Rattle.wire_requests.specs.declared.JointRequest.TheVariants as JointRequest
use Rattle.wire_requests.specs.declared.MoverRequest.{MoverRequest}
use Rattle.wire_requests.specs.declared.MoverRequest.TheVariants as MoverRequest
use Rattle.wire_requests.specs.declared.Request.{Request}
use Rattle.wire_requests.specs.declared.Request.TheVariants as Request
use Rattle.rules_parts.specs.declared.types.Mover.{Mover}
use Rattle.rules.specs.Answer.{Kept, Lent, request_in}
use Rattle.rules.specs.Order.{Call}
use Rattle.rules_moves.specs.Sequence.{Event, Asked, ToTape, FromTape, Ended, Made, Lost, Inserted, Renumbered, StoreLent, SlotsLent, step, runs, Seen, Wrote, mover_asked, data_asked, joint_asked, asked, move_shown, seen}
use Rattle.rules_moves.specs.Counts.{trace, records_in, sum}
use Rattle.rules_moves.proofs.Counts.{by_made}
use Rattle.rules_moves.proofs.Moving.{shown_moved}
use Rattle.rules_moves.proofs.Sequence.{stepped}
use Rattle.rules_annex.specs.Aside.{Untouched}
use Rattle.rules_annex.specs.Used.{UsedGrows}
use Rattle.rules_annex.proofs.Calls.{WroteOne, Fed, stood, wrote, to_tape_fed, aside_stays}

-- ---- the records that are seen: one for a move that takes anything, none for any other call
Writes : ℕ → Seen → Type 0
Writes k x = records_in x ≡ k

shown_none : (m a : Mover) (n : ℕ) (x : Seen) → n ≡ 0 → records_in (move_shown m a n x) ≡ 0
unfolding move_shown records_in choose Writes
shown_none m a n x e =
    rw e (by_test (Writes 0) (not (eqb m.state 2)) _ _ (λ _. refl) (λ _. by_test (Writes 0) (eqb a.state 3) _ _ (λ _. refl) (λ _. refl)))

shown_one : (m a : Mover) (n j : ℕ) → 1 ≤ n → records_in (move_shown m a n (Wrote j n)) ≡ 1
unfolding records_in
shown_one m a n j h = rw (shown_moved m (Wrote j n) a n h) refl

mover_none : (p : ℕ) (q : MoverRequest) → records_in (mover_asked p q) ≡ 0
unfolding mover_asked records_in
mover_none p (MoverRequest.Size size) = refl
mover_none p (MoverRequest.Window offset length) = refl
mover_none p MoverRequest.Stop = refl
mover_none p MoverRequest.State = refl
mover_none p (MoverRequest.Listen mode address) = refl
mover_none p MoverRequest.Continue = refl
mover_none p (MoverRequest.Read offset length) = refl

data_none : (q : DataRequest) → records_in (data_asked q) ≡ 0
unfolding data_asked records_in
data_none DataRequest.Stop = refl
data_none DataRequest.State = refl
data_none (DataRequest.Backup method pairs) = refl
data_none (DataRequest.Recover method pairs) = refl
data_none DataRequest.Environment = refl
data_none (DataRequest.Listen address) = refl

joint_none : (p : ℕ) (q : JointRequest) → records_in (joint_asked p q) ≡ 0
unfolding joint_asked records_in
joint_none p (JointRequest.DataConnect address count) = by_test (λ (x : Seen). records_in x ≡ 0) (eqb address 1) _ _ (λ _. refl) (λ _. refl)
joint_none p (JointRequest.MoverConnect mode address count) = refl
joint_none p JointRequest.DataAbort = refl
joint_none p JointRequest.MoverAbort = refl
joint_none p JointRequest.MoverClose = refl

request_none : (w : Kept) (q : Request) → records_in (asked w q) ≡ 0
unfolding asked records_in
request_none w (Request.Mover q) = mover_none _ q
request_none w (Request.Data q) = data_none q
request_none w (Request.Connect q) = refl
request_none w (Request.Config q) = refl
request_none w (Request.Scsi q) = refl
request_none w (Request.Tape q) = refl
request_none w (Request.Joint q) = joint_none _ q
request_none w Request.Unknown = refl
request_none w Request.Bad = refl

asked_none : (w : Kept) (c : Call) → records_in (seen (Asked c) w) ≡ 0
unfolding seen Writes records_in
asked_none w c = by_test (Writes 0) _ _ _ (λ _. by_test (Writes 0) _ _ _ (λ _. request_none w (request_in c.ask.request)) (λ _. refl)) (λ _. refl)

made_none : (w : Kept) (l : Lent) (mover : Bool) → records_in (seen (Made l mover) w) ≡ 0
unfolding seen records_in
made_none w l mover = by_made (λ (x : Seen). records_in x ≡ 0) _ _ _ refl refl

-- ---- one record more
module _ (size p : ℕ) (l part : List ℕ) (last : Bool) (l' : List ℕ) (p' n : ℕ) (o : WroteOne size p l part last l' p' n) where
  pub one_length : length (fill_to (take n part) size) ≡ size
  one_length = length_fill (take n part) size (let e = length-take-le n part o.there in let f = o.fits in omega arith)

  pub one_small : length (fill_to (take n part) size) ≤ 32768
  one_small = let e = one_length in let f = o.small in omega arith

  pub one_room : Room l p (length (fill_to (take n part) size))
  one_room = rw one_length o.room

  one_count : count l' ≡ p + 1
  one_count = ap count o.image ∙ written_count l p (fill_to (take n part) size) o.here one_small one_room

  one_used : count l ≤ p → used l' ≡ used l + size
  one_used h =
      let a = ap used o.image ∙ written_used l p (fill_to (take n part) size) o.here one_small one_room in
      let b = kept_end l p h in
      let c = one_length in
      omega arith

-- what a call with k records does to the bytes in use; the tape stands at the end again
record Grown (size : ℕ) (l l' : List ℕ) (p' k : ℕ) : Type 0 where
  uses : used l' ≡ used l + k * size
  at_end : p' ≡ count l'

same_grown : (size : ℕ) (l l' : List ℕ) (p p' k : ℕ) → k ≡ 0 → p ≡ count l → l' ≡ l → p' ≡ p → Grown size l l' p' k
same_grown size l l' p p' k z e i s =
    record {
      uses = ap used i ∙ (rw z (sym (ap (λ (j : ℕ). used l + j) (zero-mul size) ∙ add-zero (used l))));
      at_end = s ∙ e ∙ ap count (sym i);
    }

-- a move at another record size takes nothing
fed_grown : (size now p : ℕ) (l part : List ℕ) (last : Bool) (l' : List ℕ) (p' n : ℕ) (m a : Mover) → p ≡ count l → ((n ≡ 0 → ⊥) → now ≡ size)
    → Fed now p l part last l' p' n → Grown size l l' p' (records_in (move_shown m a n (Wrote now n)))
fed_grown size now p l part last l' p' n m a e s (stood z i f) = same_grown size l l' p p' _ (shown_none m a n (Wrote now n) z) e i f
fed_grown size now p l part last l' p' n m a e s (wrote o) =
    let some = o.some in
    let same : now ≡ size = s (λ z. omega arith) in
    rw (shown_one m a n now o.some)
    (record {
      uses = one_used now p l part last l' p' n o (omega arith) ∙ ap (λ (j : ℕ). used l + j) (same ∙ sym (one-mul size));
      at_end = o.position ∙ sym (one_count now p l part last l' p' n o);
    })

aside_grown : (size : ℕ) (w v : Kept) (k : ℕ) → k ≡ 0 → w.session.tape.position ≡ count w.image → Untouched w v
    → Grown size w.image v.image v.session.tape.position k
aside_grown size w v k z p s = same_grown size _ _ _ _ k z p s.image s.position

-- ---- one call, and any sequence of them
module _ (size : ℕ) (w : Kept) (e : Event) where
  Grows : Type 0
  Grows = Grown size w.image (step e w).image (step e w).session.tape.position (records_in (seen e w))

grows_more : (size : ℕ) (w : Kept) (e : Event) (es : List Event) → Grows size w e
    → used (runs (step e w) es).image ≡ used (step e w).image + sum records_in (trace (step e w) es) * size
    → used (runs w (e ∷ es)).image ≡ used w.image + sum records_in (trace w (e ∷ es)) * size
unfolding runs trace sum Grows
grows_more size w e es g r =
    let u = g.uses in
    let d = add-mul (records_in (seen e w)) (sum records_in (trace (step e w) es)) size in
    omega arith

pub used_grows : UsedGrows
unfolding runs trace sum Grows step seen records_in
used_grows w size h p [] f = sym (ap (λ (j : ℕ). used w.image + j) (zero-mul size) ∙ add-zero (used w.image))
used_grows w size h p (ToTape l part last ∷ es) f =
    let e = ToTape l part last in
    let g : Grows size w e = fed_grown size w.session.mover.size _ w.image part last _ _ _ w.session.mover _ p f.0 (to_tape_fed w part last h l) in
    grows_more size w e es g (used_grows (step e w) size (stepped w h e).kept g.at_end es f.1)
used_grows w size h p (Asked c ∷ es) f =
    let e = Asked c in
    let g : Grows size w e = aside_grown size w (step e w) _ (asked_none w c) p (aside_stays w h e f.0) in
    grows_more size w e es g (used_grows (step e w) size (stepped w h e).kept g.at_end es f.1)
used_grows w size h p (Ended l ok ∷ es) f =
    let e = Ended l ok in
    let g : Grows size w e = aside_grown size w (step e w) _ refl p (aside_stays w h e f.0) in
    grows_more size w e es g (used_grows (step e w) size (stepped w h e).kept g.at_end es f.1)
used_grows w size h p (Made l mover ∷ es) f =
    let e = Made l mover in
    let g : Grows size w e = aside_grown size w (step e w) _ (made_none w l mover) p (aside_stays w h e f.0) in
    grows_more size w e es g (used_grows (step e w) size (stepped w h e).kept g.at_end es f.1)
used_grows w size h p (Lost l mover ∷ es) f =
    let e = Lost l mover in
    let g : Grows size w e = aside_grown size w (step e w) _ refl p (aside_stays w h e f.0) in
    grows_more size w e es g (used_grows (step e w) size (stepped w h e).kept g.at_end es f.1)
used_grows w size h p (FromTape l dest ∷ es) f =
    let e = FromTape l dest in
    let g : Grows size w e = aside_grown size w (step e w) _ (shown_none w.session.mover _ _ _ f.0.0) p (aside_stays w h e f.0) in
    grows_more size w e es g (used_grows (step e w) size (stepped w h e).kept g.at_end es f.1)
used_grows w size h p (Inserted image ∷ es) f =
    let e = Inserted image in
    let g : Grows size w e = aside_grown size w (step e w) _ refl p (aside_stays w h e f.0) in
    grows_more size w e es g (used_grows (step e w) size (stepped w h e).kept g.at_end es f.1)
used_grows w size h p (Renumbered n ∷ es) f =
    let e = Renumbered n in
    let g : Grows size w e = aside_grown size w (step e w) _ refl p (aside_stays w h e f.0) in
    grows_more size w e es g (used_grows (step e w) size (stepped w h e).kept g.at_end es f.1)
used_grows w size h p (StoreLent variables ∷ es) f =
    let e = StoreLent variables in
    let g : Grows size w e = aside_grown size w (step e w) _ refl p (aside_stays w h e f.0) in
    grows_more size w e es g (used_grows (step e w) size (stepped w h e).kept g.at_end es f.1)
used_grows w size h p (SlotsLent slots ∷ es) f =
    let e = SlotsLent slots in
    let g : Grows size w e = aside_grown size w (step e w) _ refl p (aside_stays w h e f.0) in
    grows_more size w e es g (used_grows (step e w) size (stepped w h e).kept g.at_end es f.1)
