-- One move, test by test, on parts that keep the relation: what is shown of it fits and is all it did; it keeps the relation. Assumes nothing.
use Prim.Native.Nat.{ℕ, zero, suc, ◌+◌, ◌-◌, ◌*◌, ◌/◌, ◌%◌, ◌≤◌, ◌<◌}
use mathlib.Core.Bool.{Bool, true, false, not}
use mathlib.Core.List.{List}
use mathlib.Core.Path.{◌≡◌, refl, sym, ap, ◌∙◌}
use native.Mathlib.Omega.{arith}
use native.Mathlib.Nat.{div-add-mod', mul-le-mul_right, lt_of_mul-lt-mul_right, add-mul, add-mod_right, mod-eq_of_lt, mod-lt}
use lib.ListN.{length, take, length-take}
use lib.Dec.{eqb}
use borrow.Author.Tests.{eq-eqb, ne_eqb, eqb-true, eqb-false, ltb-true, ltb-false}
use Rattle.xdr.specs.Choose.{choose, least}
use Rattle.xdr.proofs.Tests.{by_test, none_of, is, isnt, yes, least_left, least_right, least_some}
use Rattle.tape_image.specs.Image.{is_sound, count, entry_len, faulty}
use Rattle.tape_image.proofs.Laws.{placed, sound_holds}
use Rattle.tape_writing.specs.Writing.{room_for, fill_to}
use Rattle.tape_writing.proofs.Laws.{length_fill, room_facts}
use Rattle.tape_writing.proofs.Theorems.{written_sound}
use Rattle.tape_ops.specs.Step.{Step, keeping}
use Rattle.rules_parts.specs.declared.types.Data.{Data}
use Rattle.rules_parts.specs.declared.types.Mover.{Mover}
use Rattle.rules_parts.specs.declared.types.Tape.{Tape}
use Rattle.rules_parts.specs.Names.{top, endless}
use Rattle.rules_parts.specs.Parts.{wrapped, data_fed, mover_pauses, mover_halts, mover_records, mover_hands, data_joined, mover_joined, data_partnered, mover_partnered}
use Rattle.rules_parts.specs.Parts.{address_wrong, holds_tape, window_end}
use Rattle.rules.specs.TapeService.{moved_to}
use Rattle.rules.specs.Relation.{data_wrong, mover_wrong, same_flag, Legal, Held, InWindow, MoverKept}
use Rattle.rules_parts.proofs.Ending.{end_endless, end_other}
use Rattle.rules_parts.proofs.Addressing.{right_busy, source_alone_lem, mover_alone_lem, source_same, mover_same}
use Rattle.rules.specs.declared.Ends.{Ends}
use Rattle.rules.specs.Joint.{halted, source_alone, mover_alone}
use Rattle.rules.specs.Promises.{JointKeeps}
use Rattle.rules.proofs.Kept.{mover_kept, kept_mover}
use Rattle.rules.proofs.Keeping.{clash, active_holds, listen_holds, runs_kept, halt, halt_data, halt_mover}
use Rattle.rules_moves.specs.declared.Move.{Move}
use Rattle.rules_moves.specs.declared.Found.{Found}
use Rattle.rules_moves.specs.Moves.{still, pauses, halts, halts_source, halts_mover, halts_with, fed_with, takes, hands, idle, stream_ends, scant, writing, window_used, filling, to_tape}
use Rattle.rules_moves.specs.Moves.{outside, ordinal, in_record, seek_from, amount, Handing, untouched, reading, on_found, sought, seeking, from_tape, method_end, source_made, mover_made, at_tcp, made_at, lost_at}
use Rattle.rules_moves.specs.Sequence.{Seen, Wrote, Handed, Paused, Nothing, parts_register, with_counts, with_seek, processed_by, after, FitsRegister, move_shown, made_shown, image_after}
use Rattle.rules_moves.specs.Sequence.{HandedFrom, dest_after, count_of}

-- the relation, on the parts that a move may change
pub record PartsKept (d : Data) (m : Mover) (t : Tape) : Type 0 where
  pub source : data_wrong d ≡ false
  pub mover : mover_wrong m t ≡ false
  pub joined : same_flag (data_partnered d) (mover_partnered m) ≡ true

both_so : (a b : Bool) → choose a b false ≡ true → (a ≡ true) × (b ≡ true)
unfolding choose
both_so true b h = (refl, h)
both_so false b h = absurd (let z : ◌≡◌ {A = ℕ} 0 1 = cc in omega arith)

-- ---- what is shown of a move
module _ (m : Mover) (x : Seen) where
  pub shown_still : move_shown m m 0 x ≡ Nothing
  unfolding move_shown choose
  shown_still =
      by_test (λ (y : Seen). y ≡ Nothing) (not (eqb m.state 2)) _ _ (λ _. refl)
      (λ h. let e : m.state ≡ 2 = is h in let n : m.state ≡ 3 → ⊥ = λ z. omega arith in rw (ne_eqb m.state 3 n) refl)

  shown_halt : (after : Mover) → after.state ≡ 4 → move_shown m after 0 x ≡ Nothing
  unfolding move_shown choose
  shown_halt next e = by_test (λ (y : Seen). y ≡ Nothing) (not (eqb m.state 2)) _ _ (λ _. refl) (λ _. rw e refl)

  shown_pause : (why : ℕ) → m.state ≡ 2 → move_shown m (mover_pauses why m) 0 x ≡ Paused
  unfolding move_shown choose
  shown_pause why e = rw (eq-eqb m.state 2 e) refl

  pub shown_moved : (after : Mover) (n : ℕ) → 1 ≤ n → move_shown m after n x ≡ x
  unfolding move_shown choose
  shown_moved next n h = let z : n ≡ 0 → ⊥ = λ e. omega arith in rw (ne_eqb n 0 z) refl

-- what the data end has processed after a move of n bytes
fed_by : (b : Bool) (n : ℕ) (d : Data) → (choose b d (data_fed n d)).processed ≡ choose b d.processed (wrapped (d.processed + n))
unfolding choose
fed_by true n d = refl
fed_by false n d = refl

fed_processed : (m : Mover) (n : ℕ) (d : Data) → (fed_with m n d).processed ≡ processed_by m.address d.processed n
unfolding fed_with processed_by
fed_processed m n d = fed_by (eqb m.address 1) n d

-- a move's result: what is shown of it fits, the register after it, and the bytes told
pub record Turn (d : Data) (m : Mover) (what : ℕ → Seen) (mv : Move) : Type 0 where
  pub fits : FitsRegister (parts_register d m) (move_shown m mv.mover mv.count (what mv.count))
  pub register : parts_register mv.source mv.mover ≡ after (parts_register d m) (move_shown m mv.mover mv.count (what mv.count))
  pub taken : mv.count ≡ count_of (move_shown m mv.mover mv.count (what mv.count))

module _ (d : Data) (m : Mover) (what : ℕ → Seen) where
  turn_by : (mv : Move) (x : Seen) → move_shown m mv.mover mv.count (what mv.count) ≡ x → FitsRegister (parts_register d m) x
      → parts_register mv.source mv.mover ≡ after (parts_register d m) x → mv.count ≡ count_of x → Turn d m what mv
  turn_by mv x e f r c = record { fits = rw e f; register = rw e r; taken = rw e c }

  still_turn : (t : Tape) → Turn d m what (still d m t)
  unfolding after count_of
  still_turn t = turn_by (still d m t) Nothing (shown_still m (what 0)) tt refl refl

  halts_turn : (t : Tape) (dwhy mwhy : ℕ) → Turn d m what (halts dwhy mwhy d m t)
  unfolding after count_of
  halts_turn t dwhy mwhy = turn_by (halts dwhy mwhy d m t) Nothing (shown_halt m (what 0) (mover_halts mwhy m) refl) tt refl refl

  mover_halts_turn : (t : Tape) (why : ℕ) → Turn d m what (halts_mover why d m t)
  unfolding after count_of
  mover_halts_turn t why = turn_by (halts_mover why d m t) Nothing (shown_halt m (what 0) (mover_halts why m) refl) tt refl refl

  pauses_turn : (t : Tape) (why : ℕ) → m.state ≡ 2 → Turn d m what (pauses why d m t)
  unfolding after count_of
  pauses_turn t why e = turn_by (pauses why d m t) Paused (shown_pause m (what 0) why e) tt refl refl

-- ---- the relation after each
pub record Running (mode : ℕ) (m : Mover) : Type 0 where
  pub active : m.state ≡ 2
  pub moded : m.mode ≡ mode

pub running : (mode operation : ℕ) (d : Data) (m : Mover) → idle mode operation d m ≡ false → Running mode m
unfolding idle
running mode operation d m h =
    let a = none_of _ h in
    let b = none_of _ a.1 in
    record { active = is a.0; moded = is b.0 }

module _ (d : Data) (m : Mover) (t : Tape) (k : PartsKept d m t) where
  facts : MoverKept m t
  facts = mover_kept m t k.mover

  -- as a joint request halts them
  halted_parts : (ends : Ends) → JointKeeps t ends → PartsKept ends.source ends.mover t
  halted_parts ends j = record { source = j.source; mover = j.mover; joined = j.joined }

  halts_keep : (dwhy mwhy : ℕ) → PartsKept (halts dwhy mwhy d m t).source (halts dwhy mwhy d m t).mover t
  halts_keep dwhy mwhy = halted_parts (halted dwhy mwhy d m) (halt d m t k.source k.mover k.joined dwhy mwhy)

  source_halts_keep : (why : ℕ) → data_partnered d ≡ false → PartsKept (halts_source why d m t).source (halts_source why d m t).mover t
  source_halts_keep why h = halted_parts (source_alone why d m) (halt_data d m t k.source k.mover k.joined why h)

  mover_halts_keep : (why : ℕ) → mover_partnered m ≡ false → PartsKept (halts_mover why d m t).source (halts_mover why d m t).mover t
  mover_halts_keep why h = halted_parts (mover_alone why d m) (halt_mover d m t k.source k.mover k.joined why h)

  paused_kept : (u : Tape) (why : ℕ) → MoverKept (mover_pauses why m) u
  unfolding holds_tape choose
  paused_kept u why =
      let f = facts in
      record {
        states = omega arith;
        sizes = f.sizes;
        types = right_busy m.address _ f.types;
        seeks = f.seeks;
        window = λ n. absurd (n refl);
        start = λ e. absurd (omega arith);
        hold = λ e. clash false refl e;
        listens = λ _ e. absurd (omega arith);
        runs = λ _ e. absurd (omega arith);
        resumes = λ _ _ n. absurd (n refl);
        origins = λ e. absurd (omega arith);
      }

  pauses_keep : (u : Tape) (why : ℕ) → m.state ≡ 2 → PartsKept d (mover_pauses why m) u
  unfolding mover_joined choose
  pauses_keep u why e =
      let same : mover_partnered (mover_pauses why m) ≡ mover_partnered m = mover_same m (mover_pauses why m) refl (ap mover_joined (sym e)) in
      record { source = k.source; mover = kept_mover (mover_pauses why m) u (paused_kept u why); joined = rw same k.joined }

  -- the data end after bytes were moved: its state and type are as they were
  fed_wrong : (n : ℕ) → data_wrong (fed_with m n d) ≡ false
  unfolding fed_with data_wrong
  fed_wrong n = by_test (λ (e : Data). data_wrong e ≡ false) (eqb m.address 1) _ _ (λ _. k.source) (λ _. k.source)

  fed_partner : (n : ℕ) → data_partnered (fed_with m n d) ≡ data_partnered d
  unfolding fed_with
  fed_partner n = by_test (λ (e : Data). data_partnered e ≡ data_partnered d) (eqb m.address 1) _ _ (λ _. refl) (λ _. source_same d (data_fed n d) refl refl)

-- ---- to tape
-- whole records before the window's end: one more fits
pub whole_more : (s a b c : ℕ) → a * s < b * s + c * s → a * s + s ≤ b * s + c * s
whole_more s a b c h =
    let lt : a < b + c = lt_of_mul-lt-mul_right s (rw (← add-mul) at h) in
    let le : (a + 1) * s ≤ (b + c) * s = mul-le-mul_right s (omega arith) in
    let e : (a + 1) * s ≡ a * s + 1 * s = add-mul a 1 s in
    let f : (b + c) * s ≡ b * s + c * s = add-mul b c s in
    omega arith

pub times : (a s : ℕ) → a % s ≡ 0 → a / s * s ≡ a
times a s h = let e = div-add-mod' a s in omega arith

-- where the window is not used up, a whole record more fits
one_more : (s o n v : ℕ) → window_used s o n v ≡ false → v + s ≤ window_end o n
unfolding window_used
one_more s o n v h = ltb-false (window_end o n) (v + s) (none_of _ h).1

-- where the part is not the empty last one, nor less than a record and not last, there is something to take
pub some_taken : (last : Bool) (n size : ℕ) → stream_ends last n ≡ false → scant last n size ≡ false → 1 ≤ size → 1 ≤ least n size
unfolding stream_ends scant choose
some_taken true n size e f h = let z : n ≡ 0 → ⊥ = eqb-false n 0 e in least_some n size (omega arith) h
some_taken false n size e f h = let z : size ≤ n = ltb-false n size f in least_some n size (omega arith) h

-- what a move to tape comes to
pub record ToTurn (d : Data) (m : Mover) (t : Tape) (l s : List ℕ) (st : Step Move) : Type 0 where
  pub turn : Turn d m (λ n. Wrote m.size n) st.gives
  pub image : st.image ≡ image_after (move_shown m st.gives.mover st.gives.count (Wrote m.size st.gives.count)) l t.position s
  pub there : st.gives.count ≤ length s
  pub kept : PartsKept st.gives.source st.gives.mover st.gives.tape
  pub sound : is_sound l ≡ true → is_sound st.image ≡ true

module _ (d : Data) (m : Mover) (t : Tape) (l s : List ℕ) (k : PartsKept d m t) where
  still_to : ToTurn d m t l s (keeping l (still d m t))
  unfolding image_after
  still_to = record { turn = still_turn d m _ t; image = rw (shown_still m (Wrote m.size 0)) refl; there = omega arith; kept = k; sound = λ h. h }

  halts_to : (dwhy mwhy : ℕ) → ToTurn d m t l s (keeping l (halts_with dwhy mwhy d m t))
  unfolding image_after halts_with
  halts_to dwhy mwhy =
      let e = shown_halt m (Wrote m.size 0) (mover_halts mwhy m) refl in
      by_test (λ (mv : Move). ToTurn d m t l s (keeping l mv)) (eqb m.address 1) _ _
      (λ a. record {
        turn = mover_halts_turn d m _ t mwhy;
        image = rw e refl;
        there = omega arith;
        kept = mover_halts_keep d m t k mwhy (mover_alone_lem m (eqb-true m.address 1 a));
        sound = λ h. h;
      })
      (λ _. record { turn = halts_turn d m _ t dwhy mwhy; image = rw e refl; there = omega arith; kept = halts_keep d m t k dwhy mwhy; sound = λ h. h })

  pauses_to : (why : ℕ) → m.state ≡ 2 → ToTurn d m t l s (keeping l (pauses why d m t))
  unfolding image_after
  pauses_to why e =
      record {
        turn = pauses_turn d m _ t why e;
        image = rw (shown_pause m (Wrote m.size 0) why e) refl;
        there = omega arith;
        kept = pauses_keep d m t k t why e;
        sound = λ h. h;
      }

  module _ (r : Running 0 m) (n : ℕ) (some : 1 ≤ n) (part : n ≤ m.size) (room : m.moved + m.size ≤ window_end m.offset m.length) where
    held : Held m t
    held = (facts d m t k).hold (active_holds m.state r.active)

    legal : Legal m.size m.offset m.length
    legal = (facts d m t k).window held.window

    unwrapped : wrapped (m.moved + m.size) ≡ m.moved + m.size
    unwrapped = let f = legal.fits in mod-eq_of_lt (omega arith)

    takes_turn : Turn d m (λ j. Wrote m.size j) (takes n d m t)
    unfolding after count_of
    takes_turn =
        let w = (facts d m t k).runs r.moded r.active in
        turn_by d m _ (takes n d m t) (Wrote m.size n) (shown_moved m (Wrote m.size n) (mover_records m) n some)
        (record { window = held.window; exact = refl; some = some; part = part; from = w.from; to = room })
        (ap (λ (p : ℕ). with_counts (wrapped (m.moved + m.size)) p (parts_register d m)) (fed_processed m n d)) refl

    takes_kept : MoverKept (mover_records m) (moved_to (t.position + 1) t)
    takes_kept =
        let f = facts d m t k in
        let e = r.active in
        let w = f.runs r.moded e in
        let o = f.origins e in
        record {
          states = f.states;
          sizes = f.sizes;
          types = f.types;
          seeks = f.seeks;
          window = f.window;
          start = λ z. absurd (omega arith);
          hold = λ _. record { window = held.window; opened = held.opened; writes = held.writes };
          listens = λ _ z. absurd (omega arith);
          runs = λ _ _. rw unwrapped (record { some = w.some; from = (let q = w.from in omega arith); to = room; records = add-mod_right m.moved m.size ∙ w.records });
          resumes = λ _ z. absurd (omega arith);
          origins = λ _. omega arith;
        }

    takes_keep : PartsKept (takes n d m t).source (takes n d m t).mover (takes n d m t).tape
    takes_keep =
        let same = mover_same m (mover_records m) refl refl in
        record { source = fed_wrong d m t k n; mover = kept_mover _ _ takes_kept; joined = rw (fed_partner d m t k n, same) k.joined }

  length_taken : length (fill_to (take (least (length s) m.size) s) m.size) ≡ m.size
  length_taken = length_fill _ m.size (let a = least_left (length s) m.size in let b = least_right (length s) m.size in simp length-take (omega arith))

  writes_sound : faulty l t.position ≡ false → room_for l t.position m.size ≡ true → is_sound (writing d m t l s).image ≡ true
  writes_sound f r =
      let e = length_taken in
      let z = (facts d m t k).sizes in
      sound_holds _ (written_sound l t.position _ (placed l t.position f) (omega arith) (room_facts l t.position _ (rw e r)))

  writes_to : (last : Bool) → idle 0 1 d m ≡ false → faulty l t.position ≡ false → stream_ends last (length s) ≡ false → window_used m.size m.offset m.length m.moved ≡ false
      → scant last (length s) m.size ≡ false → room_for l t.position m.size ≡ true → ToTurn d m t l s (writing d m t l s)
  unfolding image_after
  writes_to last i f z w c r =
      let g = running 0 1 d m i in
      let h = facts d m t k in
      let u = h.runs g.moded g.active in
      let n = least (length s) m.size in
      let some : 1 ≤ n = some_taken last (length s) m.size z c u.some in
      let part : n ≤ m.size = least_right (length s) m.size in
      let room = one_more m.size m.offset m.length m.moved w in
      record {
        turn = takes_turn g n some part room;
        image = rw (shown_moved m (Wrote m.size n) (mover_records m) n some) refl;
        there = least_left (length s) m.size;
        kept = takes_keep g n some part room;
        sound = λ _. writes_sound f r;
      }

  pub to_turn : (last : Bool) → ToTurn d m t l s (to_tape d m t l s last)
  unfolding to_tape filling
  to_turn last =
      let P = ToTurn d m t l s in
      by_test P _ _ _ (λ _. still_to)
      (λ i. by_test P _ _ _ (λ _. halts_to 4 5)
      (λ f. by_test P _ _ _ (λ _. halts_to 1 1)
      (λ z. by_test P _ _ _ (λ _. pauses_to 5 (running 0 1 d m i).active)
      (λ w. by_test P _ _ _ (λ _. still_to)
      (λ c. by_test P _ _ _ (λ _. pauses_to 1 (running 0 1 d m i).active)
      (λ r. writes_to last i f z w c (yes r)))))))

-- ---- from tape
-- the walk passes records only: its target is so many entries after its start, and below the end
on_target : (f : Found) (i n k j : ℕ) (a b : Bool) → (b ≡ true → k ≡ 0) → (b ≡ false → 1 ≤ k) → (1 ≤ k → f ≡ Found.Target j → (j ≡ i + 1 + (k - 1)) × (j < i + 1 + n))
    → choose a (Found.Mark (i + 1)) (choose b (Found.Target i) f) ≡ Found.Target j → (j ≡ i + k) × (j < i + suc n)
unfolding choose
on_target f i n k j true b p q r e = absurd (let z : ◌≡◌ {A = ℕ} 0 1 = cc in omega arith)
on_target f i n k j false true p q r e = let z : i ≡ j = cc in let h = p refl in (omega arith, omega arith)
on_target f i n k j false false p q r e = let h = q refl in let g = r h e in (omega arith, omega arith)

pub target_at : (l : List ℕ) (n i k j : ℕ) → seek_from l n i k ≡ Found.Target j → (j ≡ i + k) × (j < i + n)
unfolding seek_from
target_at l zero i k j h = absurd (let z : ◌≡◌ {A = ℕ} 0 1 = cc in omega arith)
target_at l (suc n) i k j h =
    on_target (seek_from l n (i + 1) (k - 1)) i n k j (eqb (entry_len l i) 0) (eqb k 0) (λ e. eqb-true k 0 e) (λ e. let z : k ≡ 0 → ⊥ = eqb-false k 0 e in omega arith)
    (λ _ e. target_at l n (i + 1) (k - 1) j e) h

-- a record of the window does not reach past its end
record_inside : (s q w n : ℕ) → n % s ≡ 0 → w < s → q * s + w < n → q * s + s ≤ n
record_inside s q w n e h lt =
    let a = times n s e in
    let b : q * s < 0 * s + n / s * s = omega arith in
    let g = whole_more s q 0 (n / s) b in
    omega arith

-- what is handed over of a record lies before the window's end: of a window with no end because no more is asked for
pub before_end : (s o n v q w k : ℕ) → Legal s o n → w < s → q * s + w ≡ v - o → w + k ≤ s → o ≤ v → v < window_end o n → v + k ≤ top → (b : Bool) → eqb n endless ≡ b
    → v + k ≤ window_end o n
before_end s o n v q w k l h e p low below asked true b = rw (end_endless o n (eqb-true n endless b)) asked
before_end s o n v q w k l h e p low below asked false b =
    let z = eqb-false n endless b in
    let f = end_other o n z in
    let g = record_inside s q w n (l.lengths z) h (omega arith) in
    omega arith

-- what a move from tape comes to
pub record FromTurn (d : Data) (m : Mover) (t : Tape) (l b : List ℕ) (st : Handing) : Type 0 where
  pub turn : Turn d m (λ n. Handed n) st.move
  pub dest_end : st.dest ≡ dest_after (move_shown m st.move.mover st.move.count (Handed st.move.count)) (parts_register d m) l b
  pub room : st.move.count ≤ length b
  pub source : (st.move.count ≡ 0 → ⊥) → HandedFrom (parts_register d m) l st.move.tape.position
  pub kept : PartsKept st.move.source st.move.mover st.move.tape

module _ (d : Data) (m : Mover) (t : Tape) (l b : List ℕ) (k : PartsKept d m t) where
  still_from : FromTurn d m t l b (untouched b (still d m t))
  unfolding dest_after
  still_from = record { turn = still_turn d m _ t; dest_end = rw (shown_still m (Handed 0)) refl; room = omega arith; source = λ z. absurd (z refl); kept = k }

  halts_from : (dwhy mwhy : ℕ) → FromTurn d m t l b (untouched b (halts_with dwhy mwhy d m t))
  unfolding dest_after halts_with
  halts_from dwhy mwhy =
      let e = shown_halt m (Handed 0) (mover_halts mwhy m) refl in
      by_test (λ (mv : Move). FromTurn d m t l b (untouched b mv)) (eqb m.address 1) _ _
      (λ a. record {
        turn = mover_halts_turn d m _ t mwhy;
        dest_end = rw e refl;
        room = omega arith;
        source = λ z. absurd (z refl);
        kept = mover_halts_keep d m t k mwhy (mover_alone_lem m (eqb-true m.address 1 a));
      })
      (λ _. record { turn = halts_turn d m _ t dwhy mwhy; dest_end = rw e refl; room = omega arith; source = λ z. absurd (z refl); kept = halts_keep d m t k dwhy mwhy })

  pauses_from : (u : Tape) (why : ℕ) → m.state ≡ 2 → FromTurn d m t l b (untouched b (pauses why d m u))
  unfolding dest_after
  pauses_from u why e =
      record { turn = pauses_turn d m _ u why e; dest_end = rw (shown_pause m (Handed 0) why e) refl; room = omega arith; source = λ z. absurd (z refl); kept = pauses_keep d m t k u why e }

  module _ (r : Running 1 m) (n i : ℕ) (some : 1 ≤ n) (asked : n ≤ m.left) (low : m.offset ≤ m.seek) (high : m.seek + n ≤ window_end m.offset m.length)
      (part : in_record m + n ≤ m.size) (at : i ≡ m.origin + ordinal m) where
    hands_held : Held m t
    hands_held = (facts d m t k).hold (active_holds m.state r.active)

    hands_turn : Turn d m (λ j. Handed j) (hands n i d m t)
    unfolding after count_of
    hands_turn =
        turn_by d m _ (hands n i d m t) (Handed n) (shown_moved m (Handed n) (mover_hands n m) n some)
        (record { window = hands_held.window; some = some; asked = asked; part = part; from = low; to = high })
        (ap (λ (p : ℕ). with_counts (wrapped (m.moved + n)) p (with_seek (m.seek + n) (m.left - n) (parts_register d m))) (fed_processed m n d)) refl

    hands_kept : MoverKept (mover_hands n m) (moved_to (i + 1) t)
    hands_kept =
        let f = facts d m t k in
        let e = r.active in
        let o = r.moded in
        let q = f.seeks in
        record {
          states = f.states;
          sizes = f.sizes;
          types = f.types;
          seeks = omega arith;
          window = f.window;
          start = λ z. absurd (omega arith);
          hold = λ _. record { window = hands_held.window; opened = hands_held.opened; writes = hands_held.writes };
          listens = λ _ z. absurd (omega arith);
          runs = λ z _. absurd (omega arith);
          resumes = λ _ z. absurd (omega arith);
          origins = λ _. omega arith;
        }

    hands_keep : PartsKept (hands n i d m t).source (hands n i d m t).mover (hands n i d m t).tape
    hands_keep =
        let same = mover_same m (mover_hands n m) refl refl in
        record { source = fed_wrong d m t k n; mover = kept_mover _ _ hands_kept; joined = rw (fed_partner d m t k n, same) k.joined }

  reading_from : (i : ℕ) → idle 1 2 d m ≡ false → (m.left ≡ 0 → ⊥) → (length b ≡ 0 → ⊥) → outside m.seek m.offset m.length ≡ false → i ≡ m.origin + ordinal m → i < count l
      → FromTurn d m t l b (reading i d m t l b)
  unfolding reading dest_after outside amount
  reading_from i h left room inside at under =
      let g = running 1 2 d m h in
      let f = facts d m t k in
      let w = f.window (f.hold (active_holds m.state g.active)).window in
      let a = none_of _ inside in
      let low : m.offset ≤ m.seek = ltb-false _ _ a.0 in
      let below : m.seek < window_end m.offset m.length = ltb-true _ _ (yes a.1) in
      let s1 = w.some in
      let lt : in_record m < m.size = mod-lt (m.seek - m.offset) {m = m.size} (omega arith) in
      let whole = div-add-mod' (m.seek - m.offset) m.size in
      let n = amount m (length b) in
      let inner = least m.left (m.size - in_record m) in
      let some : 1 ≤ n = least_some inner (length b) (least_some m.left (m.size - in_record m) (omega arith) (omega arith)) (omega arith) in
      let n1 : n ≤ inner = least_left inner (length b) in
      let n2 : inner ≤ m.left = least_left m.left (m.size - in_record m) in
      let n3 : inner ≤ m.size - in_record m = least_right m.left (m.size - in_record m) in
      let n4 : n ≤ m.left = omega arith in
      let part : in_record m + n ≤ m.size = omega arith in
      let seeks = f.seeks in
      let high =
      before_end m.size m.offset m.length m.seek (ordinal m) (in_record m) n w lt whole part low below (omega arith) (eqb m.length endless) refl in
      by_test (FromTurn d m t l b) (not (eqb (entry_len l i) m.size)) _ _ (λ _. halts_from 4 5)
      (λ e. record {
        turn = hands_turn g n i some n4 low high part at;
        dest_end = rw (shown_moved m (Handed n) (mover_hands n m) n some, at) refl;
        room = least_right inner (length b);
        source = λ _. record { below = rw (← at) under; exact = ap (entry_len l) (sym at) ∙ is e; stands = ap (λ (j : ℕ). j + 1) at };
        kept = hands_keep g n i some n4 low high part at;
      })

  found_from : (f : Found) → idle 1 2 d m ≡ false → (m.left ≡ 0 → ⊥) → (length b ≡ 0 → ⊥) → outside m.seek m.offset m.length ≡ false → sought m l ≡ f
      → FromTurn d m t l b (on_found f d m t l b)
  unfolding on_found
  found_from (Found.Target i) h left room inside e =
      let f = target_at l (count l - m.origin) m.origin (ordinal m) i e in
      let a = f.0 in
      let b = f.1 in
      reading_from i h left room inside a (omega arith)
  found_from (Found.Mark j) h left room inside e = pauses_from (moved_to j t) 2 (running 1 2 d m h).active
  found_from Found.End h left room inside e = pauses_from (moved_to (count l) t) 1 (running 1 2 d m h).active

  pub from_turn : FromTurn d m t l b (from_tape d m t l b)
  unfolding from_tape seeking
  from_turn =
      let P = FromTurn d m t l b in
      by_test P _ _ _ (λ _. still_from)
      (λ h. by_test P _ _ _ (λ _. halts_from 4 5)
      (λ _. by_test P _ _ _ (λ _. still_from)
      (λ left. by_test P _ _ _ (λ _. still_from)
      (λ room. by_test P _ _ _ (λ _. pauses_from t 3 (running 1 2 d m h).active)
      (λ inside. found_from (sought m l) h (isnt left) (isnt room) inside refl)))))

-- ---- the method's end: it shows nothing and leaves the register
pub record EndTurn (d : Data) (m : Mover) (mv : Move) : Type 0 where
  pub register : parts_register mv.source mv.mover ≡ parts_register d m
  pub kept : PartsKept mv.source mv.mover mv.tape

source_halt_turn : (d : Data) (m : Mover) (t : Tape) (why : ℕ) → PartsKept d m t → d.address ≡ 1 → EndTurn d m (halts_source why d m t)
source_halt_turn d m t why k e = record { register = refl; kept = source_halts_keep d m t k why (source_alone_lem d e) }

pub end_turn : (ok : Bool) (d : Data) (m : Mover) (t : Tape) → PartsKept d m t → EndTurn d m (method_end ok d m t)
unfolding method_end
end_turn ok d m t k =
    let why : ℕ = choose ok 1 3 in
    by_test (EndTurn d m) (eqb d.state 1) _ _
    (λ _. by_test (EndTurn d m) (eqb d.address 1) _ _ (λ e. source_halt_turn d m t why k (eqb-true d.address 1 e))
    (λ _. record { register = refl; kept = halts_keep d m t k why 1 }))
    (λ _. record { register = refl; kept = k })

-- ---- connections made and lost
pub by_address : (address : ℕ) (there : Bool) → at_tcp address there ≡ true → (address ≡ 1) × (there ≡ true)
unfolding at_tcp
by_address address there h =
    let g = both_so (eqb address 1) there h in
    (eqb-true address 1 g.0, g.1)

-- a connection that was made: what is seen of it, and the register and the relation after it
pub record MadeTurn (d : Data) (m : Mover) (t : Tape) (mv : Move) : Type 0 where
  pub register : parts_register mv.source mv.mover ≡ after (parts_register d m) (made_shown m mv.mover t.position)
  pub fits : FitsRegister (parts_register d m) (made_shown m mv.mover t.position)
  pub kept : PartsKept mv.source mv.mover mv.tape

module _ (d : Data) (m : Mover) (t : Tape) (k : PartsKept d m t) where
  -- the mover is as it was: nothing is seen
  pub shown_same : made_shown m m t.position ≡ Nothing
  unfolding made_shown choose
  shown_same = by_test (λ (x : Seen). x ≡ Nothing) (eqb m.state 2) _ _ (λ _. refl) (λ e. rw e refl)

  made_still : MadeTurn d m t (still d m t)
  unfolding after
  made_still = record { register = rw shown_same refl; fits = rw shown_same tt; kept = k }

  made_source : d.address ≡ 1 → d.state ≡ 3 → MadeTurn d m t (source_made d m t)
  unfolding after data_wrong address_wrong data_joined choose
  made_source a s =
      let none = source_alone_lem (source_made d m t).source a in
      let was = source_alone_lem d a in
      record {
        register = rw shown_same refl;
        fits = rw shown_same tt;
        kept = record { source = rw a; mover = k.mover; joined = rw (none) (rw was at k.joined) };
      }

  made_mover : m.address ≡ 1 → m.state ≡ 1 → MadeTurn d m t (mover_made d m t)
  unfolding after made_shown choose
  made_mover a s =
      let f = facts d m t k in
      let h = f.hold (listen_holds m.state s) in
      let none = mover_alone_lem (mover_made d m t).mover a in
      let was = mover_alone_lem m a in
      record {
        register = rw s refl;
        fits = rw s tt;
        kept = record {
          source = k.source;
          mover = kept_mover _ t (runs_kept m t m.mode m.address (right_busy m.address _ f.types) h.opened h.writes h.window
              (λ e. f.listens e s ∙ sym (f.start (omega arith))) f);
          joined = rw none (rw was at k.joined);
        };
      }

  pub made_turn : (mover : Bool) → MadeTurn d m t (made_at mover d m t)
  unfolding made_at
  made_turn true =
      by_test (MadeTurn d m t) _ _ _ (λ h. let g = by_address m.address _ h in made_mover g.0 (eqb-true m.state 1 g.1)) (λ _. made_still)
  made_turn false =
      by_test (MadeTurn d m t) _ _ _ (λ h. let g = by_address d.address _ h in made_source g.0 (eqb-true d.state 3 g.1)) (λ _. made_still)

  pub lost_turn : (mover : Bool) → EndTurn d m (lost_at mover d m t)
  unfolding lost_at
  lost_turn true =
      by_test (EndTurn d m) _ _ _
      (λ h. record { register = refl; kept = mover_halts_keep d m t k 1 (mover_alone_lem m (by_address m.address _ h).0) }) (λ _. record { register = refl; kept = k })
  lost_turn false =
      by_test (EndTurn d m) _ _ _ (λ h. source_halt_turn d m t 4 k (by_address d.address _ h).0) (λ _. record { register = refl; kept = k })
