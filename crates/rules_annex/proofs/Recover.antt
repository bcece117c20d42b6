-- What a recover hands over: what stands on the tape, from its start on; move by move, then by induction over the calls. Assumes nothing.
use Prim.Native.Nat.{ℕ, zero, suc, ◌+◌, ◌-◌, ◌*◌, ◌/◌, ◌%◌, ◌≤◌, ◌<◌}
use mathlib.Core.Bool.{Bool, true, false, not}
use mathlib.Core.List.{List, [], ◌∷◌, ◌++◌}
use mathlib.Core.Path.{◌≡◌, refl, sym, ap, ◌∙◌}
use native.Mathlib.Omega.{arith}
use native.Mathlib.Nat.{add-zero, add-mul, div-add-mod', mod-lt, lt_of_mul-lt-mul_right}
use lib.ListN.{length, take, drop, length-drop, take-append-drop, drop_of_length-le}
use lib.Seq.{length-take-le, take_at, drop-drop}
use lib.Dec.{eqb, ltb}
use borrow.Author.Tests.{ne_eqb, eqb-true, eqb-false, ltb-true, ltb-false}
use Rattle.xdr.specs.Choose.{choose, least}
use Rattle.xdr.specs.Xdr.{overlay}
use Rattle.xdr.proofs.Tests.{by_test, none_of, isnt, yes, least_left, least_right, least_some}
use Rattle.tape_image.specs.Image.{count, entry_len, entry_bytes, faulty}
use Rattle.rules_parts.specs.declared.types.Data.{Data}
use Rattle.rules_parts.specs.declared.types.Mover.{Mover}
use Rattle.rules_parts.specs.declared.types.Tape.{Tape}
use Rattle.rules_parts.specs.Names.{endless}
use Rattle.rules_parts.specs.Parts.{mover_hands, window_end}
use Rattle.rules.specs.Relation.{keeps, MoverKept, Legal}
use Rattle.rules.specs.Answer.{Kept, Lent, Answered}
use Rattle.rules.proofs.Kept.{mover_kept}
use Rattle.rules.proofs.Keeping.{active_holds}
use Rattle.rules.proofs.Guarding.{by_guard}
use Rattle.rules.proofs.Calls.{kept_facts}
use Rattle.rules_moves.specs.declared.Found.{Found}
use Rattle.rules_moves.specs.declared.Move.{Move}
use Rattle.rules_moves.specs.Moves.{idle, outside, ordinal, in_record, seek_from, amount, Handing, untouched, halts_with, reading, on_found, sought, seeking, from_tape}
use Rattle.rules_moves.specs.Events.{Moving, announced, moved_from_tape}
use Rattle.rules_moves.specs.Sequence.{Event, Asked, ToTape, FromTape, Ended, Made, Lost, Inserted, Renumbered, StoreLent, SlotsLent, step}
use Rattle.rules_moves.proofs.Moving.{before_end, running}
use Rattle.rules_moves.proofs.Sequence.{Carries, announced_carries, stepped}
use Rattle.rules_annex.specs.RoundTrip.{Recovers, handed_over, noted, Noted, Window, Read, Reset, Other, asked_after, end_after}
use Rattle.rules_annex.proofs.Calls.{aside_stays}
use Rattle.rules_annex.proofs.Records.{bytes_length, bytes_part, Holds}
use Rattle.rules_annex.proofs.Along.{Along, halts_along, pauses_along, asked_along, ended_along, joined_along, parted_along, fed_along}

-- ---- the walk finds its record among records
walk_by : (l : List ℕ) (n i k : ℕ) (f : Found) → (entry_len l i ≡ 0 → ⊥) → (b : Bool) → eqb k 0 ≡ b
    → (b ≡ true → Found.Target i ≡ f) → (b ≡ false → seek_from l n (i + 1) (k - 1) ≡ f)
    → choose (eqb (entry_len l i) 0) (Found.Mark (i + 1)) (choose (eqb k 0) (Found.Target i) (seek_from l n (i + 1) (k - 1))) ≡ f
unfolding choose
walk_by l n i k f some true e p q = rw (ne_eqb (entry_len l i) 0 some, e) (p refl)
walk_by l n i k f some false e p q = rw (ne_eqb (entry_len l i) 0 some, e) (q refl)

walk_finds : (l : List ℕ) (n i k : ℕ) → ((j : ℕ) → i ≤ j → j < i + n → entry_len l j ≡ 0 → ⊥) → k < n → seek_from l n i k ≡ Found.Target (i + k)
unfolding seek_from
walk_finds l zero i k f h = absurd (omega arith)
walk_finds l (suc n) i k f h =
    walk_by l n i k (Found.Target (i + k)) (f i (omega arith) (omega arith)) (eqb k 0) refl
    (λ e. let z : k ≡ 0 = eqb-true k 0 e in rw (z, add-zero i) refl)
    (λ e. let z : k ≡ 0 → ⊥ = eqb-false k 0 e in
    let g : i + 1 + (k - 1) ≡ i + k = omega arith in
    walk_finds l n (i + 1) (k - 1) (λ j a c. f j (omega arith) (omega arith)) (omega arith) ∙ ap Found.Target g)

-- ---- arithmetic of records
-- where a position of the stream is, seen from the origin
record Spot (size i r seek n : ℕ) : Type 0 where
  at : i * size + r ≡ seek
  part : r < size
  there : i < n

spot_by : (size origin offset seek n q r : ℕ) → q * size + r ≡ seek - offset → r < size → origin * size ≡ offset → offset ≤ seek → seek < n * size
    → Spot size (origin + q) r seek n
spot_by size origin offset seek n q r e lt o low high =
    let d = add-mul origin q size in
    record {
      at = omega arith;
      part = lt;
      there = (let h : (origin + q) * size < n * size = omega arith in lt_of_mul-lt-mul_right size h);
    }

spot : (size origin offset seek n : ℕ) → 1 ≤ size → origin * size ≡ offset → offset ≤ seek → seek < n * size
    → Spot size (origin + (seek - offset) / size) ((seek - offset) % size) seek n
spot size origin offset seek n some o low high =
    spot_by size origin offset seek n ((seek - offset) / size) ((seek - offset) % size) (div-add-mod' (seek - offset) size)
    (mod-lt (seek - offset) {m = size} some) o low high

-- ---- bytes
take_over : (n : ℕ) (x b : List ℕ) → length x ≡ n → take n (overlay 0 x b) ≡ x
unfolding overlay
take_over n x b e = take_at x (drop (0 + length x) b) n e

-- a part of a record, by its place in all bytes
piece : (size : ℕ) (l bytes : List ℕ) (n i r seek k : ℕ) (b : List ℕ) → Holds size l n bytes → Spot size i r seek n → r + k ≤ size
    → take k (overlay 0 (take k (drop r (entry_bytes l i))) b) ≡ take k (drop seek bytes)
piece size l bytes n i r seek k b h s fits =
    let long = h.longs i s.there in
    let far : k ≤ length (drop r (entry_bytes l i)) = rw length-drop (omega arith) in
    take_over k (take k (drop r (entry_bytes l i))) b (length-take-le k (drop r (entry_bytes l i)) far)
    ∙ sym (bytes_part size l r k fits n i h.longs s.there)
    ∙ rw (s.at, h.are) refl

-- ---- what one move from tape hands over
pub record Gives (size asked end given : ℕ) (bytes : List ℕ) (count : ℕ) (dest : List ℕ) (m : Mover) (p : ℕ) : Type 0 where
  pub handed : take count dest ≡ take count (drop given bytes)
  pub along : Along size asked end (given + count) m p

module _ (asked end : ℕ) (l bytes : List ℕ) (n : ℕ) (d : Data) (m : Mover) (t : Tape) (b : List ℕ)
    (hold : Holds m.size l n bytes) (some : 1 ≤ m.size) (below : asked ≤ n * m.size)
    (a : Along m.size asked end m.seek m t.position) (k : MoverKept m t) where
  Giving : Handing → Type 0
  Giving st = Gives m.size asked end m.seek bytes st.move.count st.dest st.move.mover st.move.tape.position

  -- nothing is handed over
  nothing : (m' : Mover) (p' : ℕ) → Along m.size asked end m.seek m' p' → Gives m.size asked end m.seek bytes 0 b m' p'
  nothing m' p' c = record { handed = refl; along = rw (add-zero m.seek) c }

  halts_nothing : (dwhy mwhy : ℕ) → Giving (untouched b (halts_with dwhy mwhy d m t))
  unfolding halts_with Giving
  halts_nothing dwhy mwhy =
      let h = nothing _ _ (halts_along m.size asked end m.seek m t.position a mwhy) in
      by_test (λ (mv : Move). Giving (untouched b mv)) (eqb m.address 1) _ _ (λ _. h) (λ _. h)

  module _ (active : m.state ≡ 2) (left : 1 ≤ m.left) (room : 1 ≤ length b) (low : m.offset ≤ m.seek) (high : m.seek < window_end m.offset m.length) where
    legal : Legal m.size m.offset m.length
    legal = k.window (k.hold (active_holds m.state active)).window

    place : Spot m.size (m.origin + ordinal m) (in_record m) m.seek n
    place = let e = a.lefts in spot m.size m.origin m.offset m.seek n some (a.origin active) low (omega arith)

    taken : ℕ
    taken = amount m (length b)

    taken_some : 1 ≤ taken
    unfolding taken amount
    taken_some = let p = place.part in least_some _ (length b) (least_some m.left (m.size - in_record m) left (omega arith)) room

    taken_left : taken ≤ m.left
    unfolding taken amount
    taken_left =
        let x = least_left (least m.left (m.size - in_record m)) (length b) in
        let y = least_left m.left (m.size - in_record m) in
        omega arith

    taken_part : in_record m + taken ≤ m.size
    unfolding taken amount
    taken_part =
        let p = place.part in
        let x = least_left (least m.left (m.size - in_record m)) (length b) in
        let y = least_right m.left (m.size - in_record m) in
        omega arith

    hands_handed : take taken (overlay 0 (take taken (drop (in_record m) (entry_bytes l (m.origin + ordinal m)))) b) ≡ take taken (drop m.seek bytes)
    hands_handed = piece m.size l bytes n (m.origin + ordinal m) (in_record m) m.seek taken b hold place taken_part

    hands_along : Along m.size asked end (m.seek + taken) (mover_hands taken m) (m.origin + ordinal m + 1)
    hands_along =
        let p = place in
        let o = a.origin active in
        let w = a.window (k.hold (active_holds m.state active)).window in
        let e = a.lefts in
        let tl = taken_left in
        let ts = taken_some in
        let tp = taken_part in
        let whole = div-add-mod' (m.seek - m.offset) m.size in
        let seeks = k.seeks in
        let f =
        before_end m.size m.offset m.length m.seek (ordinal m) (in_record m) taken legal p.part whole tp low high (omega arith) (eqb m.length endless)
        refl in
        let we = w.ends in
        let d = add-mul (m.origin + ordinal m) 1 m.size in
        record {
          sized = refl;
          seeks = refl;
          lefts = omega arith;
          low = omega arith;
          high = omega arith;
          window = λ _. record { ends = w.ends; from = omega arith; to = omega arith };
          fresh = λ _ z. absurd (z active);
          origin = λ _. o;
        }

    reading_gives : Giving (reading (m.origin + ordinal m) d m t l b)
    unfolding reading Giving taken
    reading_gives =
        by_test Giving (not (eqb (entry_len l (m.origin + ordinal m)) m.size)) _ _
        (λ _. halts_nothing 4 5)
        (λ _. record { handed = hands_handed; along = hands_along })

    found : sought m l ≡ Found.Target (m.origin + ordinal m)
    found =
        let p = place.there in
        let c = hold.all in
        walk_finds l (count l - m.origin) m.origin (ordinal m) (λ j x y z. let s = hold.lens j (omega arith) in omega arith) (omega arith)

    sought_gives : Giving (on_found (sought m l) d m t l b)
    unfolding on_found
    sought_gives = rw found reading_gives

  from_gives : Giving (from_tape d m t l b)
  unfolding from_tape seeking outside Giving
  from_gives =
      by_test Giving (idle 1 2 d m) _ _ (λ _. nothing _ _ a)
      (λ i. by_test Giving (faulty l t.position) _ _ (λ _. halts_nothing 4 5)
      (λ _. by_test Giving (eqb m.left 0) _ _ (λ _. nothing _ _ a)
      (λ left. by_test Giving (eqb (length b) 0) _ _ (λ _. nothing _ _ a)
      (λ room. by_test Giving (outside m.seek m.offset m.length) _ _ (λ _. nothing _ _ (pauses_along m.size asked end m.seek m t.position a 3))
      (λ inside.
      let x = none_of (ltb m.seek m.offset) inside in
      let lf : m.left ≡ 0 → ⊥ = isnt left in
      let rm : length b ≡ 0 → ⊥ = isnt room in
      sought_gives (running 1 2 d m i).active (omega arith) (omega arith) (ltb-false _ _ x.0) (ltb-true _ _ (yes x.1)))))))

-- ---- the same for a call, at a record size and a place that are known by equations
along_at : (s s' asked end g g' : ℕ) (m : Mover) (p : ℕ) → s ≡ s' → g ≡ g' → Along s asked end g m p → Along s' asked end g' m p
along_at s s' asked end g g' m p e f a = rw (e, f) at a

holds_at : (s s' : ℕ) (l : List ℕ) (n : ℕ) (bytes : List ℕ) → s ≡ s' → Holds s l n bytes → Holds s' l n bytes
holds_at s s' l n bytes e h = rw e at h

below_at : (s s' asked n : ℕ) → s ≡ s' → asked ≤ n * s → asked ≤ n * s'
below_at s s' asked n e h = rw e at h

gives_at : (s s' asked end g g' : ℕ) (bytes : List ℕ) (count : ℕ) (dest : List ℕ) (m : Mover) (p : ℕ) → s ≡ s' → g ≡ g'
    → Gives s asked end g bytes count dest m p → Gives s' asked end g' bytes count dest m p
gives_at s s' asked end g g' bytes count dest m p e f h = rw (e, f) at h

carried_gives : (size asked end given : ℕ) (bytes : List ℕ) (st : Handing) (image : List ℕ) (a : Answered) → Carries st.move image a
    → Gives size asked end given bytes st.move.count st.dest st.move.mover st.move.tape.position
    → Gives size asked end given bytes st.move.count st.dest a.next.session.mover a.next.session.tape.position
carried_gives size asked end given bytes st image a c g = rw (c.mover, c.tape) g

module _ (size asked end given : ℕ) (bytes : List ℕ) (n : ℕ) (w : Kept) (kept : keeps w.session ≡ true) (hold : Holds size w.image n bytes) (some : 1 ≤ size)
    (below : asked ≤ n * size) (a : Along size asked end given w.session.mover w.session.tape.position) where
  Call : Moving → Type 0
  Call e = Gives size asked end given bytes e.count e.dest e.answer.next.session.mover e.answer.next.session.tape.position

  move_gives : (l : Lent) (dest : List ℕ) → Call (moved_from_tape w l dest)
  unfolding moved_from_tape Call Giving
  move_gives l dest =
      let s = w.session in
      let m = s.mover in
      let st = from_tape s.source m s.tape w.image dest in
      let e : size ≡ m.size = sym a.sized in
      let f : given ≡ m.seek = sym a.seeks in
      by_guard Call s l.room _ _
      (λ _. record { handed = refl; along = rw (add-zero given) a })
      (λ _. carried_gives size asked end given bytes st w.image (announced w l st.move w.image) (announced_carries w l st.move w.image)
      (gives_at m.size size asked end m.seek given bytes _ _ _ _ a.sized a.seeks
      (from_gives asked end w.image bytes n s.source m s.tape dest (holds_at size m.size w.image n bytes e hold) (omega arith)
      (below_at size m.size asked n e below) (along_at size m.size asked end given m.seek m s.tape.position e f a)
      (mover_kept m s.tape (kept_facts s kept).mover))))

-- ---- a whole recover
more_asked : (asked : ℕ) (x : Noted) → asked ≤ asked_after asked x
unfolding asked_after
more_asked asked (Read offset length) = omega arith
more_asked asked (Window offset length) = omega arith
more_asked asked Reset = omega arith
more_asked asked Other = omega arith

-- no more is asked for than in all
asked_below : (total asked end given : ℕ) (w : Kept) (es : List Event) → Recovers total asked end given w es → asked ≤ total
asked_below total asked end given w [] r = let e = r.0 in omega arith
asked_below total asked end given w (FromTape l dest ∷ es) r = asked_below total asked end (given + (moved_from_tape w l dest).count) (step (FromTape l dest) w) es r
asked_below total asked end given w (Asked c ∷ es) r =
    let a = asked_below total (asked_after asked (noted w c)) (end_after end (noted w c)) given (step (Asked c) w) es r.2 in
    let b = more_asked asked (noted w c) in
    omega arith
asked_below total asked end given w (Ended l ok ∷ es) r = asked_below total asked end given (step (Ended l ok) w) es r.1
asked_below total asked end given w (Made l mover ∷ es) r = asked_below total asked end given (step (Made l mover) w) es r.1
asked_below total asked end given w (Lost l mover ∷ es) r = asked_below total asked end given (step (Lost l mover) w) es r.1
asked_below total asked end given w (ToTape l part last ∷ es) r = asked_below total asked end given (step (ToTape l part last) w) es r.1
asked_below total asked end given w (Inserted image ∷ es) r = asked_below total asked end given (step (Inserted image) w) es r.1
asked_below total asked end given w (Renumbered n ∷ es) r = asked_below total asked end given (step (Renumbered n) w) es r.1
asked_below total asked end given w (StoreLent variables ∷ es) r = asked_below total asked end given (step (StoreLent variables) w) es r.1
asked_below total asked end given w (SlotsLent slots ∷ es) r = asked_below total asked end given (step (SlotsLent slots) w) es r.1

pub holds_in : (size : ℕ) (l l' : List ℕ) (n : ℕ) (bytes : List ℕ) → l' ≡ l → Holds size l n bytes → Holds size l' n bytes
holds_in size l l' n bytes e h = rw e h

-- what is handed over first, and then the rest
joined : (given k : ℕ) (bytes x y : List ℕ) → x ≡ take k (drop given bytes) → y ≡ drop (given + k) bytes → x ++ y ≡ drop given bytes
joined given k bytes x y e f = rw (e, f, ← drop-drop k given bytes) (take-append-drop k (drop given bytes))

module _ (size : ℕ) (bytes : List ℕ) (n : ℕ) (some : 1 ≤ size) where
  pub recovered : (asked end given : ℕ) (w : Kept) (es : List Event) → keeps w.session ≡ true → Holds size w.image n bytes
      → Along size asked end given w.session.mover w.session.tape.position → Recovers (length bytes) asked end given w es → handed_over w es ≡ drop given bytes
  unfolding handed_over Call step
  recovered asked end given w [] h k a r =
      let x = a.seeks in
      let y = a.lefts in
      let e = r.0 in
      let z = r.1 in
      let g : length bytes ≤ given = omega arith in
      sym (drop_of_length-le bytes g)
  recovered asked end given w (FromTape l dest ∷ es) h k a r =
      let b = asked_below (length bytes) asked end _ (step (FromTape l dest) w) es r in
      let c = ap length (sym k.are) ∙ bytes_length size w.image n k.longs in
      let g = move_gives size asked end given bytes n w h k some (omega arith) a l dest in
      let t = stepped w h (FromTape l dest) in
      joined given _ bytes _ _ g.handed
      (recovered asked end (given + (moved_from_tape w l dest).count) (step (FromTape l dest) w) es t.kept (holds_in size w.image _ n bytes t.leaves.image k) g.along r)
  recovered asked end given w (Asked c ∷ es) h k a r =
      recovered (asked_after asked (noted w c)) (end_after end (noted w c)) given (step (Asked c) w) es (stepped w h (Asked c)).kept (holds_in size w.image _ n bytes (aside_stays w h (Asked c) r.0).image k)
      (asked_along size asked end given w a h c r.0 r.1) r.2
  recovered asked end given w (Ended l ok ∷ es) h k a r =
      recovered asked end given (step (Ended l ok) w) es (stepped w h (Ended l ok)).kept (holds_in size w.image _ n bytes (aside_stays w h (Ended l ok) r.0).image k)
      (ended_along size asked end given w a h l ok) r.1
  recovered asked end given w (Made l mover ∷ es) h k a r =
      recovered asked end given (step (Made l mover) w) es (stepped w h (Made l mover)).kept (holds_in size w.image _ n bytes (aside_stays w h (Made l mover) r.0).image k)
      (joined_along size asked end given w a h l mover) r.1
  recovered asked end given w (Lost l mover ∷ es) h k a r =
      recovered asked end given (step (Lost l mover) w) es (stepped w h (Lost l mover)).kept (holds_in size w.image _ n bytes (aside_stays w h (Lost l mover) r.0).image k)
      (parted_along size asked end given w a h l mover) r.1
  recovered asked end given w (ToTape l part last ∷ es) h k a r =
      recovered asked end given (step (ToTape l part last) w) es (stepped w h (ToTape l part last)).kept
      (holds_in size w.image _ n bytes (aside_stays w h (ToTape l part last) r.0).image k) (fed_along size asked end given w a h l part last r.0) r.1
  recovered asked end given w (Inserted image ∷ es) h k a r =
      recovered asked end given (step (Inserted image) w) es h (holds_in size w.image image n bytes r.0 k) a r.1
  recovered asked end given w (Renumbered number ∷ es) h k a r =
      recovered asked end given (step (Renumbered number) w) es (stepped w h (Renumbered number)).kept k a r.1
  recovered asked end given w (StoreLent variables ∷ es) h k a r =
      recovered asked end given (step (StoreLent variables) w) es (stepped w h (StoreLent variables)).kept k a r.1
  recovered asked end given w (SlotsLent slots ∷ es) h k a r =
      recovered asked end given (step (SlotsLent slots) w) es (stepped w h (SlotsLent slots)).kept k a r.1
