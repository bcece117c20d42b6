-- What a backup leaves on the tape, call by call: the stream's bytes that were taken, and the fill of its last record. Assumes nothing.
use Rattle.rules_moves.specs.Events.{moved_to_tape}
use Prim.Native.Nat.{ℕ, ◌+◌, ◌*◌, ◌≤◌}
use mathlib.Core.Bool.{Bool, true, false}
use mathlib.Core.List.{List, [], ◌∷◌, ◌++◌, append_assoc, append-nil}
use mathlib.Core.Path.{◌≡◌, refl, sym, ap, ◌∙◌}
use native.Mathlib.Omega.{arith}
use lib.ListN.{length, take, drop, length-append, length-take, take-append-drop, drop_of_length-le}
use lib.Seq.{length-take-le, take-take}
use lib.Dec.{eqb}
use borrow.Author.Tests.{eqb-true, eqb-false}
use Rattle.tape_image.specs.Image.{faulty}
use Rattle.tape_image.proofs.Laws.{no_fault}
use Rattle.tape_writing.specs.Writing.{fill_to}
use Rattle.rules.specs.Relation.{keeps}
use Rattle.rules.specs.Answer.{Kept}
use Rattle.rules.proofs.Keeping.{clash}
use Rattle.rules_moves.specs.Sequence.{Event, Asked, ToTape, FromTape, Ended, Made, Lost, Inserted, Renumbered, StoreLent, SlotsLent, step, runs}
use Rattle.rules_moves.proofs.Sequence.{stepped}
use Rattle.rules_annex.specs.Aside.{Untouched}
use Rattle.rules_annex.specs.RoundTrip.{filled_up, Backs}
use Rattle.rules_annex.proofs.Calls.{WroteOne, Fed, stood, wrote, to_tape_fed, aside_stays}
use Rattle.rules_annex.proofs.Used.{one_length, one_small, one_room}
use Rattle.rules_annex.proofs.Records.{Holds, holds_more, pad_whole, pad_part}

-- what was taken, what is left, and what stands on the tape
pub record Backed (size : ℕ) (stream taken rest l : List ℕ) (p : ℕ) : Type 0 where
  pub joins : taken ++ rest ≡ stream
  pub holds : Holds size l p (filled_up size taken)
  -- until the stream's end only whole records are taken
  pub level : (rest ≡ [] → ⊥) → length taken ≡ p * size

-- ---- bytes
fill_more : (size k n : ℕ) (s b : List ℕ) → length s ≡ k * size → length b ≡ n → 1 ≤ n → n ≤ size → filled_up size s ++ fill_to b size ≡ filled_up size (s ++ b)
unfolding filled_up fill_to
fill_more size k n s b e f some fits =
    let g : length (s ++ b) ≡ k * size + n = length-append s b ∙ rw (e, f) refl in
    rw (pad_whole size k (length s) e, append-nil, f, pad_part size k (length (s ++ b)) n g some fits, append_assoc) refl

-- ---- one record more
module _ (size : ℕ) (stream taken rest : List ℕ) (p : ℕ) (l part : List ℕ) (last : Bool) (l' : List ℕ) (p' n : ℕ)
    (prefix : part ≡ take (length part) rest) (ends : last ≡ true → part ≡ rest) where
  part_long : length part ≤ length rest
  part_long = let e = ap length prefix ∙ length-take (length part) rest in omega arith

  module _ (b : Backed size stream taken rest l p) (o : WroteOne size p l part last l' p' n) where
    some_left : rest ≡ [] → ⊥
    some_left e =
        let a : length rest ≡ 0 = ap length e in
        let p = part_long in
        let q = o.there in
        let r = o.some in
        omega arith

    taken_level : length taken ≡ p * size
    taken_level = b.level some_left

    same_taken : take n part ≡ take n rest
    same_taken = ap (take n) prefix ∙ take-take n (length part) rest o.there

    there : n ≤ length rest
    there = let p = part_long in let q = o.there in omega arith

    holds_now : Holds size l' (p + 1) (filled_up size (taken ++ take n rest))
    holds_now =
        let e : filled_up size taken ++ fill_to (take n part) size ≡ filled_up size (taken ++ take n rest) =
        rw same_taken (fill_more size p n taken (take n rest) taken_level (length-take-le n rest there) o.some o.fits) in
        rw (o.image, ← e)
        (holds_more size l p (filled_up size taken) (fill_to (take n part) size) b.holds (one_length size p l part last l' p' n o)
        (one_small size p l part last l' p' n o) (one_room size p l part last l' p' n o))

    whole : (drop n rest ≡ [] → ⊥) → (b : Bool) → eqb n size ≡ b → n ≡ size
    whole some true e = eqb-true n size e
    whole some false e =
        let s = o.short (eqb-false n size e) in
        let f = ap length (ends s.0) in
        let g : length rest ≤ n = omega arith in
        absurd (some (drop_of_length-le rest g))

    wrote_backed : Backed size stream (taken ++ take n rest) (drop n rest) l' p'
    wrote_backed =
        rw o.position
        (record {
          joins = append_assoc taken (take n rest) (drop n rest) ∙ ap (λ (k : List ℕ). taken ++ k) (take-append-drop n rest) ∙ b.joins;
          holds = holds_now;
          level = λ some.
              let w = whole some (eqb n size) refl in
              let a = length-append taken (take n rest) in
              let c = length-take-le n rest there in
              let d = taken_level in
              omega arith;
        })

-- a move at another record size takes nothing
one_at : (now size p : ℕ) (l part : List ℕ) (last : Bool) (l' : List ℕ) (p' n : ℕ) → now ≡ size → WroteOne now p l part last l' p' n → WroteOne size p l part last l' p' n
one_at now size p l part last l' p' n e o = rw e at o

fed_backed : (size now : ℕ) (stream taken rest : List ℕ) (p : ℕ) (l part : List ℕ) (last : Bool) (l' : List ℕ) (p' n : ℕ)
    → part ≡ take (length part) rest → (last ≡ true → part ≡ rest) → ((n ≡ 0 → ⊥) → now ≡ size)
    → Backed size stream taken rest l p → Fed now p l part last l' p' n → Backed size stream (taken ++ take n rest) (drop n rest) l' p'
fed_backed size now stream taken rest p l part last l' p' n prefix ends s b (wrote o) =
    let some = o.some in
    wrote_backed size stream taken rest p l part last l' p' n prefix ends b (one_at now size p l part last l' p' n (s (λ z. omega arith)) o)
fed_backed size now stream taken rest p l part last l' p' n prefix ends s b (stood z e f) = rw (z, e, f, append-nil taken) b

-- ---- a whole backup
same_backed : (size : ℕ) (stream taken rest : List ℕ) (w v : Kept) → Untouched w v → Backed size stream taken rest w.image w.session.tape.position
    → Backed size stream taken rest v.image v.session.tape.position
same_backed size stream taken rest w v s b = rw (s.image, s.position) b

-- the tape holds the stream
pub record Taped (size : ℕ) (stream : List ℕ) (w : Kept) : Type 0 where
  pub kept : keeps w.session ≡ true
  pub holds : Holds size w.image w.session.tape.position (filled_up size stream)

pub taped : (size : ℕ) (stream taken rest : List ℕ) (w : Kept) (es : List Event) → keeps w.session ≡ true
    → Backed size stream taken rest w.image w.session.tape.position → Backs size rest w es → Taped size stream (runs w es)
unfolding runs step
taped size stream taken rest w [] h b e =
    let all : taken ≡ stream = sym (append-nil taken) ∙ (rw e at b.joins) in
    record { kept = h; holds = rw (← all) b.holds }
taped size stream taken rest w (ToTape l part last ∷ es) h b a =
    taped size stream (taken ++ take (moved_to_tape w l part last).count rest) (drop (moved_to_tape w l part last).count rest) (step (ToTape l part last) w) es (stepped w h (ToTape l part last)).kept
    (fed_backed size _ stream taken rest _ w.image part last _ _ _ a.0 a.1 a.2 b (to_tape_fed w part last h l)) a.3
taped size stream taken rest w (Asked c ∷ es) h b a =
    taped size stream taken rest (step (Asked c) w) es (stepped w h (Asked c)).kept (same_backed size stream taken rest w _ (aside_stays w h (Asked c) a.0) b) a.1
taped size stream taken rest w (Ended l ok ∷ es) h b a =
    taped size stream taken rest (step (Ended l ok) w) es (stepped w h (Ended l ok)).kept (same_backed size stream taken rest w _ (aside_stays w h (Ended l ok) a.0) b) a.1
taped size stream taken rest w (Made l mover ∷ es) h b a =
    taped size stream taken rest (step (Made l mover) w) es (stepped w h (Made l mover)).kept (same_backed size stream taken rest w _ (aside_stays w h (Made l mover) a.0) b) a.1
taped size stream taken rest w (Lost l mover ∷ es) h b a =
    taped size stream taken rest (step (Lost l mover) w) es (stepped w h (Lost l mover)).kept (same_backed size stream taken rest w _ (aside_stays w h (Lost l mover) a.0) b) a.1
taped size stream taken rest w (FromTape l dest ∷ es) h b a =
    taped size stream taken rest (step (FromTape l dest) w) es (stepped w h (FromTape l dest)).kept
    (same_backed size stream taken rest w _ (aside_stays w h (FromTape l dest) a.0) b) a.1
taped size stream taken rest w (Inserted image ∷ es) h b a =
    taped size stream taken rest (step (Inserted image) w) es (stepped w h (Inserted image)).kept
    (same_backed size stream taken rest w _ (aside_stays w h (Inserted image) a.0) b) a.1
taped size stream taken rest w (Renumbered n ∷ es) h b a =
    taped size stream taken rest (step (Renumbered n) w) es (stepped w h (Renumbered n)).kept
    (same_backed size stream taken rest w _ (aside_stays w h (Renumbered n) a.0) b) a.1
taped size stream taken rest w (StoreLent variables ∷ es) h b a =
    taped size stream taken rest (step (StoreLent variables) w) es (stepped w h (StoreLent variables)).kept
    (same_backed size stream taken rest w _ (aside_stays w h (StoreLent variables) a.0) b) a.1
taped size stream taken rest w (SlotsLent slots ∷ es) h b a =
    taped size stream taken rest (step (SlotsLent slots) w) es (stepped w h (SlotsLent slots)).kept
    (same_backed size stream taken rest w _ (aside_stays w h (SlotsLent slots) a.0) b) a.1

-- ---- a tape that is not sound, or stands past its end, stays so: nothing is written on it
fed_stuck : (now p : ℕ) (l part : List ℕ) (last : Bool) (l' : List ℕ) (p' n : ℕ) → faulty l p ≡ true → Fed now p l part last l' p' n → faulty l' p' ≡ true
fed_stuck now p l part last l' p' n h (stood z e f) = rw (e, f) h
fed_stuck now p l part last l' p' n h (wrote o) = clash (faulty l p) (sym (no_fault l p o.here)) h

same_stuck : (w v : Kept) → Untouched w v → faulty w.image w.session.tape.position ≡ true → faulty v.image v.session.tape.position ≡ true
same_stuck w v s h = rw (s.image, s.position) h

pub stuck : (size : ℕ) (rest : List ℕ) (w : Kept) (es : List Event) → keeps w.session ≡ true → faulty w.image w.session.tape.position ≡ true → Backs size rest w es
    → faulty (runs w es).image (runs w es).session.tape.position ≡ true
unfolding runs step
stuck size rest w [] h f b = f
stuck size rest w (ToTape l part last ∷ es) h f b =
    stuck size (drop (moved_to_tape w l part last).count rest) (step (ToTape l part last) w) es (stepped w h (ToTape l part last)).kept (fed_stuck _ _ _ _ _ _ _ _ f (to_tape_fed w part last h l)) b.3
stuck size rest w (Asked c ∷ es) h f b =
    stuck size rest (step (Asked c) w) es (stepped w h (Asked c)).kept (same_stuck w _ (aside_stays w h (Asked c) b.0) f) b.1
stuck size rest w (Ended l ok ∷ es) h f b =
    stuck size rest (step (Ended l ok) w) es (stepped w h (Ended l ok)).kept (same_stuck w _ (aside_stays w h (Ended l ok) b.0) f) b.1
stuck size rest w (Made l mover ∷ es) h f b =
    stuck size rest (step (Made l mover) w) es (stepped w h (Made l mover)).kept (same_stuck w _ (aside_stays w h (Made l mover) b.0) f) b.1
stuck size rest w (Lost l mover ∷ es) h f b =
    stuck size rest (step (Lost l mover) w) es (stepped w h (Lost l mover)).kept (same_stuck w _ (aside_stays w h (Lost l mover) b.0) f) b.1
stuck size rest w (FromTape l dest ∷ es) h f b =
    stuck size rest (step (FromTape l dest) w) es (stepped w h (FromTape l dest)).kept (same_stuck w _ (aside_stays w h (FromTape l dest) b.0) f) b.1
stuck size rest w (Inserted image ∷ es) h f b =
    stuck size rest (step (Inserted image) w) es (stepped w h (Inserted image)).kept (same_stuck w _ (aside_stays w h (Inserted image) b.0) f) b.1
stuck size rest w (Renumbered n ∷ es) h f b =
    stuck size rest (step (Renumbered n) w) es (stepped w h (Renumbered n)).kept (same_stuck w _ (aside_stays w h (Renumbered n) b.0) f) b.1
stuck size rest w (StoreLent variables ∷ es) h f b =
    stuck size rest (step (StoreLent variables) w) es (stepped w h (StoreLent variables)).kept (same_stuck w _ (aside_stays w h (StoreLent variables) b.0) f) b.1
stuck size rest w (SlotsLent slots ∷ es) h f b =
    stuck size rest (step (SlotsLent slots) w) es (stepped w h (SlotsLent slots)).kept (same_stuck w _ (aside_stays w h (SlotsLent slots) b.0) f) b.1
