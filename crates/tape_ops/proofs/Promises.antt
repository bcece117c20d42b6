-- What holds of the tape operations. Assumes nothing.
use Prim.Native.Nat.{ℕ, suc, ◌+◌, ◌≤◌, ◌<◌}
use mathlib.Core.Bool.{true, false}
use mathlib.Core.List.{List}
use mathlib.Core.Path.{◌≡◌, refl, ap, ◌∙◌}
use native.Mathlib.Omega.{arith}
use lib.ListN.{length, take, drop}
use lib.Seq.{take-length}
use lib.Dec.{ltb, eqb}
use borrow.Author.Tests.{ltb-false, eqb-true, eqb-false, ne_eqb, lt-ltb, le-ltb}
use Rattle.codes.specs.Codes.{longest_record}
use Rattle.xdr.specs.Choose.{choose, least}
use Rattle.xdr.proofs.Tests.{by_test, by_both, least_take}
use Rattle.tape_image.specs.Image.{capacity, count, entry_len, entry_start, entry_bytes, body_at, faulty}
use Rattle.tape_image.specs.Sound.{Sound, Placed}
use Rattle.tape_image.proofs.Laws.{sound_holds, placed, no_fault}
use Rattle.tape_spacing.specs.declared.Spaced.{Spaced}
use Rattle.tape_spacing.specs.Spacing.{spacing, goes_forward, PassedMark, end_of}
use Rattle.tape_spacing.specs.Alike.{AgreeInKind}
use Rattle.tape_spacing.proofs.Laws.{spaced_within, spaced_error, spaced_stands}
use Rattle.tape_spacing.proofs.Alike.{spacing_alike}
use Rattle.tape_writing.specs.Writing.{Room, room_for, written}
use Rattle.tape_writing.proofs.Laws.{room_facts}
use Rattle.tape_writing.proofs.Theorems.{written_placed, written_length, written_count, written_used, written_len}
use Rattle.tape_writing.proofs.Theorems.{written_there, same_bytes, past_table, past_body, marks_placed, marks_used, marks_past}
use Rattle.tape_ops.specs.declared.Wrote.{Wrote}
use Rattle.tape_ops.specs.declared.Part.{Part}
use Rattle.tape_ops.specs.Step.{Step, keeping}
use Rattle.tape_ops.specs.Operations.{part, write_step, read_part, entry_part, mark_step, rewinds, mtio_step}
use Rattle.tape_ops.specs.Promises.{span_of, Refused, PastEnd, MtioRefused, ToStart, TapePromises}

-- ---- a sound image stays sound
Kept : Step Wrote → Type 0
Kept s = Placed s.image s.gives.position

Spaces : Step Spaced → Type 0
Spaces s = Placed s.image s.gives.position

module _ (l : List ℕ) (p : ℕ) (at : Placed l p) where
  write_kept : (b : List ℕ) → Kept (write_step l p b)
  unfolding write_step Kept
  write_kept b =
      by_test Kept (ltb longest_record (length b)) _ _ (λ _. at)
      (λ s. by_test Kept (faulty l p) _ _ (λ _. at)
      (λ f. by_test Kept (eqb (length b) 0) _ _ (λ _. at)
      (λ n. by_test Kept (room_for l p (length b)) _ _
      (λ r. written_placed l p b at (ltb-false longest_record (length b) s) (room_facts l p (length b) r))
      (λ _. at))))

  mark_kept : (times : ℕ) → Spaces (mark_step l p times)
  unfolding mark_step Spaces
  mark_kept times =
      by_test Spaces (ltb (capacity l) (p + times)) _ _ (λ _. at) (λ h. marks_placed times l p at (ltb-false (capacity l) (p + times) h))

  rewound : Placed l 0
  rewound = record { ok = at.ok; within = omega arith }

  mtio_kept : (op times : ℕ) → Spaces (mtio_step l op p times)
  unfolding mtio_step Spaces
  mtio_kept op times =
      by_test Spaces (ltb 6 op) _ _ (λ _. at)
      (λ _. by_test Spaces (faulty l p) _ _ (λ _. at)
      (λ _. by_test Spaces (eqb op 5) _ _ (λ _. mark_kept times)
      (λ _. by_test Spaces (rewinds op) _ _ (λ _. rewound)
      (λ _. record { ok = at.ok; within = (spaced_within l op p times at.within).within }))))

  InTape : Part → Type 0
  InTape r = Placed l r.position

  passed : (p ≡ count l → ⊥) → Placed l (p + 1)
  passed h = let w = at.within in record { ok = at.ok; within = omega arith }

  read_kept : (times : ℕ) → InTape (read_part l p times)
  unfolding read_part entry_part InTape
  read_kept times =
      by_test InTape (ltb longest_record times) _ _ (λ _. at)
      (λ _. by_test InTape (faulty l p) _ _ (λ _. at)
      (λ _. by_test InTape (eqb times 0) _ _ (λ _. at)
      (λ _. by_test InTape (eqb p (count l)) _ _ (λ _. at)
      (λ h. by_test InTape (eqb (entry_len l p) 0) _ _ (λ _. passed (eqb-false p (count l) h)) (λ _. passed (eqb-false p (count l) h))))))

-- ---- a refusal leaves the image
nonzero : {A : Type 0} → (◌≡◌ {A = ℕ} 0 0 → ⊥) → A
nonzero h = absurd (h refl)

module _ (l : List ℕ) where
  Writes : Step Wrote → Type 0
  Writes s = (s.gives.error ≡ 0 → ⊥) → s.image ≡ l

  Moves : Step Spaced → Type 0
  Moves s = (s.gives.error ≡ 0 → ⊥) → s.image ≡ l

  write_leaves : (p : ℕ) (b : List ℕ) → Writes (write_step l p b)
  unfolding write_step Writes
  write_leaves p b =
      by_test Writes (ltb longest_record (length b)) _ _ (λ _ _. refl)
      (λ _. by_test Writes (faulty l p) _ _ (λ _ _. refl)
      (λ _. by_test Writes (eqb (length b) 0) _ _ (λ _ _. refl)
      (λ _. by_test Writes (room_for l p (length b)) _ _ (λ _ h. nonzero h) (λ _ _. refl))))

  mark_leaves : (p times : ℕ) → Moves (mark_step l p times)
  unfolding mark_step Moves
  mark_leaves p times = by_test Moves (ltb (capacity l) (p + times)) _ _ (λ _ _. refl) (λ _ h. nonzero h)

  mtio_leaves : (op p times : ℕ) → Moves (mtio_step l op p times)
  unfolding mtio_step Moves
  mtio_leaves op p times =
      by_test Moves (ltb 6 op) _ _ (λ _ _. refl)
      (λ _. by_test Moves (faulty l p) _ _ (λ _ _. refl)
      (λ _. by_test Moves (eqb op 5) _ _ (λ _. mark_leaves p times)
      (λ _. by_test Moves (rewinds op) _ _ (λ _ _. refl) (λ _ _. refl))))

  Same : Step Spaced → Type 0
  Same s = s.image ≡ l

  others_leave : (op p times : ℕ) → (op ≡ 5 → ⊥) → Same (mtio_step l op p times)
  unfolding mtio_step Same
  others_leave op p times h =
      by_test Same (ltb 6 op) _ _ (λ _. refl)
      (λ _. by_test Same (faulty l p) _ _ (λ _. refl)
      (λ _. by_test Same (eqb op 5) _ _ (λ e. absurd (h (eqb-true op 5 e)))
      (λ _. by_test Same (rewinds op) _ _ (λ _. refl) (λ _. refl))))

-- ---- a refusal leaves the position
module _ (l : List ℕ) (p : ℕ) where
  WriteStands : Step Wrote → Type 0
  WriteStands s = Refused s.gives.error → s.gives.position ≡ p

  MtioStands : Step Spaced → Type 0
  MtioStands s = Refused s.gives.error → s.gives.position ≡ p

  ReadStands : Part → Type 0
  ReadStands r = Refused r.error → r.position ≡ p

  write_stands : (b : List ℕ) → WriteStands (write_step l p b)
  unfolding write_step WriteStands
  write_stands b =
      by_test WriteStands (ltb longest_record (length b)) _ _ (λ _ _. refl)
      (λ _. by_test WriteStands (faulty l p) _ _ (λ _ _. refl)
      (λ _. by_test WriteStands (eqb (length b) 0) _ _ (λ _ _. refl)
      (λ _. by_test WriteStands (room_for l p (length b)) _ _ (λ _ o. absurd (o.0 refl)) (λ _ _. refl))))

  mark_stands : (times : ℕ) → MtioStands (mark_step l p times)
  unfolding mark_step MtioStands
  mark_stands times = by_test MtioStands (ltb (capacity l) (p + times)) _ _ (λ _ _. refl) (λ _ o. absurd (o.0 refl))

  mtio_stands : (op times : ℕ) → MtioStands (mtio_step l op p times)
  unfolding mtio_step MtioStands
  mtio_stands op times =
      by_test MtioStands (ltb 6 op) _ _ (λ _ _. refl)
      (λ _. by_test MtioStands (faulty l p) _ _ (λ _ _. refl)
      (λ _. by_test MtioStands (eqb op 5) _ _ (λ _. mark_stands times)
      (λ _. by_test MtioStands (rewinds op) _ _ (λ _ o. absurd (o.0 refl)) (λ _ o. absurd (spaced_error l op p times o)))))

  read_stands : (times : ℕ) → ReadStands (read_part l p times)
  unfolding read_part entry_part ReadStands
  read_stands times =
      by_test ReadStands (ltb longest_record times) _ _ (λ _ _. refl)
      (λ _. by_test ReadStands (faulty l p) _ _ (λ _ _. refl)
      (λ _. by_test ReadStands (eqb times 0) _ _ (λ _ _. refl)
      (λ _. by_test ReadStands (eqb p (count l)) _ _ (λ _ _. refl)
      (λ _. by_test ReadStands (eqb (entry_len l p) 0) _ _ (λ _ o. absurd (o.1 refl)) (λ _ o. absurd (o.0 refl))))))

-- ---- where an outcome of the tape leaves it
module _ (l : List ℕ) (p : ℕ) where
  ReadMark : Part → Type 0
  ReadMark r = r.error ≡ 12 → (r.position ≡ p + 1) × (entry_len l p ≡ 0)

  read_mark : (times : ℕ) → ReadMark (read_part l p times)
  unfolding read_part entry_part ReadMark
  read_mark times =
      by_test ReadMark (ltb longest_record times) _ _ (λ _ h. absurd (omega arith))
      (λ _. by_test ReadMark (faulty l p) _ _ (λ _ h. absurd (omega arith))
      (λ _. by_test ReadMark (eqb times 0) _ _ (λ _ h. absurd (omega arith))
      (λ _. by_test ReadMark (eqb p (count l)) _ _ (λ _ h. absurd (omega arith))
      (λ _. by_test ReadMark (eqb (entry_len l p) 0) _ _ (λ e _. (refl, eqb-true (entry_len l p) 0 e)) (λ _ h. absurd (omega arith))))))

  ReadEnd : Part → Type 0
  ReadEnd r = r.error ≡ 13 → (r.position ≡ p) × (p ≡ count l)

  read_end : (times : ℕ) → ReadEnd (read_part l p times)
  unfolding read_part entry_part ReadEnd
  read_end times =
      by_test ReadEnd (ltb longest_record times) _ _ (λ _ h. absurd (omega arith))
      (λ _. by_test ReadEnd (faulty l p) _ _ (λ _ h. absurd (omega arith))
      (λ _. by_test ReadEnd (eqb times 0) _ _ (λ _ h. absurd (omega arith))
      (λ _. by_test ReadEnd (eqb p (count l)) _ _ (λ e _. (refl, eqb-true p (count l) e))
      (λ _. by_test ReadEnd (eqb (entry_len l p) 0) _ _ (λ _ h. absurd (omega arith)) (λ _ h. absurd (omega arith))))))

  WriteMark : Step Wrote → Type 0
  WriteMark s = s.gives.error ≡ 12 → ⊥

  write_mark : (b : List ℕ) → WriteMark (write_step l p b)
  unfolding write_step WriteMark
  write_mark b =
      by_test WriteMark (ltb longest_record (length b)) _ _ (λ _ h. omega arith)
      (λ _. by_test WriteMark (faulty l p) _ _ (λ _ h. omega arith)
      (λ _. by_test WriteMark (eqb (length b) 0) _ _ (λ _ h. omega arith)
      (λ _. by_test WriteMark (room_for l p (length b)) _ _ (λ _ h. omega arith) (λ _ h. omega arith))))

  WriteEnd : Step Wrote → Type 0
  WriteEnd s = s.gives.error ≡ 13 → s.gives.position ≡ p

  write_end : (b : List ℕ) → WriteEnd (write_step l p b)
  unfolding write_step WriteEnd
  write_end b =
      by_test WriteEnd (ltb longest_record (length b)) _ _ (λ _ _. refl)
      (λ _. by_test WriteEnd (faulty l p) _ _ (λ _ _. refl)
      (λ _. by_test WriteEnd (eqb (length b) 0) _ _ (λ _ _. refl)
      (λ _. by_test WriteEnd (room_for l p (length b)) _ _ (λ _ h. absurd (omega arith)) (λ _ _. refl))))

  MtioMark : ℕ → Step Spaced → Type 0
  MtioMark op s = s.gives.error ≡ 12 → PassedMark (goes_forward op) l p s.gives.position

  mark_unmarked : (op times : ℕ) → MtioMark op (mark_step l p times)
  unfolding mark_step MtioMark
  mark_unmarked op times = by_test (MtioMark op) (ltb (capacity l) (p + times)) _ _ (λ _ h. absurd (omega arith)) (λ _ h. absurd (omega arith))

  mtio_mark : (op times : ℕ) → MtioMark op (mtio_step l op p times)
  unfolding mtio_step MtioMark
  mtio_mark op times =
      by_test (MtioMark op) (ltb 6 op) _ _ (λ _ h. absurd (omega arith))
      (λ _. by_test (MtioMark op) (faulty l p) _ _ (λ _ h. absurd (omega arith))
      (λ f. by_test (MtioMark op) (eqb op 5) _ _ (λ _. mark_unmarked op times)
      (λ _. by_test (MtioMark op) (rewinds op) _ _ (λ _ h. absurd (omega arith)) (λ _. (spaced_stands l op p times (placed l p f).within).mark))))

  MtioEnd : ℕ → Step Spaced → Type 0
  MtioEnd op s = s.gives.error ≡ 13 → s.gives.position ≡ choose (eqb op 5) p (end_of (goes_forward op) (count l))

  mark_end : (op times : ℕ) → eqb op 5 ≡ true → MtioEnd op (mark_step l p times)
  unfolding mark_step MtioEnd choose
  mark_end op times e = by_test (MtioEnd op) (ltb (capacity l) (p + times)) _ _ (λ _ h. rw e) (λ _ h. absurd (omega arith))

  space_end : (op times : ℕ) → p ≤ count l → eqb op 5 ≡ false → MtioEnd op (keeping l (spacing l op p times))
  unfolding MtioEnd choose
  space_end op times h e g = rw e ((spaced_stands l op p times h).end g)

  mtio_end : (op times : ℕ) → MtioEnd op (mtio_step l op p times)
  unfolding mtio_step MtioEnd
  mtio_end op times =
      by_test (MtioEnd op) (ltb 6 op) _ _ (λ _ h. absurd (omega arith))
      (λ _. by_test (MtioEnd op) (faulty l p) _ _ (λ _ h. absurd (omega arith))
      (λ f. by_test (MtioEnd op) (eqb op 5) _ _ (λ e. mark_end op times e)
      (λ e. by_test (MtioEnd op) (rewinds op) _ _ (λ _ h. absurd (omega arith)) (λ _. space_end op times (placed l p f).within e))))

-- ---- what is past the end stays
module _ (l : List ℕ) where
  same_past : PastEnd l l
  same_past = record { size = refl; table = λ i _ _. refl; body = λ i _. refl }

  WritePast : Step Wrote → Type 0
  WritePast s = PastEnd l s.image

  written_past : (p : ℕ) (b : List ℕ) → Placed l p → length b ≤ longest_record → Room l p (length b) → PastEnd l (written l p b)
  written_past p b at small room =
      let c = written_count l p b at small room in
      let u = written_used l p b at small room in
      record {
        size = written_length l p b at small room;
        table = λ i h k. past_table l p b at small room i (omega arith) k;
        body = λ i h. past_body l p b at small room i (omega arith);
      }

  write_past : (p : ℕ) (b : List ℕ) → WritePast (write_step l p b)
  unfolding write_step WritePast
  write_past p b =
      by_test WritePast (ltb longest_record (length b)) _ _ (λ _. same_past)
      (λ s. by_test WritePast (faulty l p) _ _ (λ _. same_past)
      (λ f. by_test WritePast (eqb (length b) 0) _ _ (λ _. same_past)
      (λ _. by_test WritePast (room_for l p (length b)) _ _
      (λ r. written_past p b (placed l p f) (ltb-false longest_record (length b) s) (room_facts l p (length b) r)) (λ _. same_past))))

  MtioPast : Step Spaced → Type 0
  MtioPast s = PastEnd l s.image

  mark_past : (p times : ℕ) → Placed l p → MtioPast (mark_step l p times)
  unfolding mark_step MtioPast
  mark_past p times at =
      by_test MtioPast (ltb (capacity l) (p + times)) _ _ (λ _. same_past)
      (λ h.
      let fits = ltb-false (capacity l) (p + times) h in
      let r = marks_past times l p at fits in
      let n = (marks_placed times l p at fits).within in
      let u = marks_used times l p at fits in
      record {
        size = r.size;
        table = λ i a c. r.table i (omega arith) c;
        body = λ i a. r.body i (omega arith);
      })

  mtio_past : (op p times : ℕ) → MtioPast (mtio_step l op p times)
  unfolding mtio_step MtioPast
  mtio_past op p times =
      by_test MtioPast (ltb 6 op) _ _ (λ _. same_past)
      (λ _. by_test MtioPast (faulty l p) _ _ (λ _. same_past)
      (λ f. by_test MtioPast (eqb op 5) _ _ (λ _. mark_past p times (placed l p f))
      (λ _. by_test MtioPast (rewinds op) _ _ (λ _. same_past) (λ _. same_past))))

-- ---- MTIO is refused by its operation, then by the fault; behind them REW and 6 go to the start
mtio_refused : (l : List ℕ) (p : ℕ) → MtioRefused l p
unfolding mtio_step choose
mtio_refused l p = record { others = λ op times h. rw (lt-ltb 6 op h); fault = λ op times h f. rw (le-ltb 6 op h, f) }

rew_to_start : (l : List ℕ) (p : ℕ) → Placed l p → ToStart 4 l p
unfolding mtio_step choose
rew_to_start l p at times = rw (← no_fault l p at)

off_to_start : (l : List ℕ) (p : ℕ) → Placed l p → ToStart 6 l p
unfolding mtio_step choose
off_to_start l p at times = rw (← no_fault l p at)

-- ---- what a read hands out
module _ (l : List ℕ) (p times : ℕ) (some : 0 < times) where
  First : Part → Type 0
  First r = r.error ≡ 0 → take r.len (drop r.start l) ≡ take times (entry_bytes l p)

  wrong : (k : ℕ) {A : Type 0} → suc k ≡ 0 → A
  wrong k h = absurd (omega arith)

  read_first : First (read_part l p times)
  unfolding read_part entry_part First entry_bytes
  read_first =
      by_test First (ltb longest_record times) _ _ (λ _ h. wrong 8 h)
      (λ _. by_test First (faulty l p) _ _ (λ _ h. wrong 6 h)
      (λ _. by_test First (eqb times 0) _ _ (λ e h. let z : times ≡ 0 = eqb-true times 0 e in absurd (omega arith))
      (λ _. by_test First (eqb p (count l)) _ _ (λ _ h. wrong 12 h)
      (λ _. by_test First (eqb (entry_len l p) 0) _ _ (λ _ h. wrong 11 h)
      (λ _ h. least_take times (entry_len l p) (drop (body_at l + entry_start l p) l))))))

-- a read of some bytes at a record
read_record : (m : List ℕ) (p times : ℕ) → Placed m p → times ≤ longest_record → 0 < times → p < count m → (entry_len m p ≡ 0 → ⊥)
    → read_part m p times ≡ part 0 (p + 1) (body_at m + entry_start m p) (least times (entry_len m p))
unfolding read_part entry_part choose
read_record m p times at small some below long =
    let t : times ≡ 0 → ⊥ = λ e. omega arith in
    let q : p ≡ count m → ⊥ = λ e. omega arith in
    rw (le-ltb longest_record times small, ← no_fault m p at, ne_eqb times 0 t, ne_eqb p (count m) q, ne_eqb (entry_len m p) 0 long)

module _ (l : List ℕ) (p : ℕ) (b : List ℕ) (at : Placed l p) (some : 0 < length b) where
  pub record Back (m : List ℕ) : Type 0 where
    pub error : (read_part m p (length b)).error ≡ 0
    pub bytes : span_of m p (length b) ≡ b
    pub before : (i : ℕ) → i < p → entry_bytes m i ≡ entry_bytes l i

  written_back : length b ≤ longest_record → Room l p (length b) → Back (written l p b)
  unfolding First
  written_back small room =
      let m : List ℕ = written l p b in
      let n = written_count l p b at small room in
      let w = written_placed l p b at small room in
      let len = written_len l p b at small room in
      let here : Placed m p = record { ok = w.ok; within = omega arith } in
      let e : (read_part m p (length b)).error ≡ 0 =
      ap (λ (r : Part). r.error) (read_record m p (length b) here small some (omega arith) (λ z. omega arith)) in
      record {
        error = e;
        bytes = read_first m p (length b) some e ∙ ap (take (length b)) (written_there l p b at small room) ∙ take-length b;
        before = same_bytes l p b at small room;
      }

  Returned : Step Wrote → Type 0
  Returned s = s.gives.error ≡ 0 → Back s.image

  write_back : Returned (write_step l p b)
  unfolding write_step Returned
  write_back =
      by_test Returned (ltb longest_record (length b)) _ _ (λ _ h. absurd (omega arith))
      (λ s. by_test Returned (faulty l p) _ _ (λ _ h. absurd (omega arith))
      (λ _. by_test Returned (eqb (length b) 0) _ _ (λ e h. let z : length b ≡ 0 = eqb-true (length b) 0 e in absurd (omega arith))
      (λ _. by_test Returned (room_for l p (length b)) _ _
      (λ r _. written_back (ltb-false longest_record (length b) s) (room_facts l p (length b) r))
      (λ _ h. absurd (omega arith)))))

-- ---- sound images of one n are answered alike: no test of MTIO tells them apart, and then it is spacing
same_fault : (l m : List ℕ) (p : ℕ) → Sound l → Sound m → count l ≡ count m → faulty m p ≡ faulty l p
unfolding faulty choose
same_fault l m p a b one = rw (sound_holds l a, sound_holds m b, one)

module _ (l m : List ℕ) (a : Sound l) (b : Sound m) (one : count l ≡ count m) (op p times : ℕ) where
  Alike : Step Spaced → Step Spaced → Type 0
  Alike s t = AgreeInKind (goes_forward op) p s.gives.position l m → s.gives ≡ t.gives

  mtio_alike : (op ≡ 5 → ⊥) → Alike (mtio_step l op p times) (mtio_step m op p times)
  unfolding mtio_step Alike
  mtio_alike other =
      rw (same_fault l m p a b one)
      (by_both Alike (ltb 6 op) _ _ _ _ (λ _ _. refl)
      (λ _. by_both Alike (faulty l p) _ _ _ _ (λ _ _. refl)
      (λ f. by_both Alike (eqb op 5) _ _ _ _ (λ e _. absurd (other (eqb-true op 5 e)))
      (λ _. by_both Alike (rewinds op) _ _ _ _ (λ _ _. refl)
      (λ _. spacing_alike l m op p times (placed l p f) (placed m p (same_fault l m p a b one ∙ f)) one)))))

pub promises : TapePromises
unfolding Kept Spaces InTape Writes Moves Same WriteStands MtioStands ReadStands ReadMark ReadEnd WriteMark WriteEnd MtioMark MtioEnd WritePast MtioPast First Returned Alike
promises =
    record {
      sound = λ l p at. record { write = write_kept l p at; mtio = mtio_kept l p at; read = read_kept l p at };
      leave = λ l p. record { write = write_leaves l p; mtio = λ op times. mtio_leaves l op p times; spacing = λ op times. others_leave l op p times };
      stand = λ l p. record { write = write_stands l p; mtio = mtio_stands l p; read = read_stands l p };
      outcomes =
          λ l p.
          record {
            read_mark = read_mark l p;
            read_end = read_end l p;
            write_mark = write_mark l p;
            write_end = write_end l p;
            mtio_mark = mtio_mark l p;
            mtio_end = mtio_end l p;
          };
      past = λ l p. record { write = write_past l p; mtio = λ op times. mtio_past l op p times };
      refused = mtio_refused;
      rew = rew_to_start;
      off = off_to_start;
      first = λ l p times some. read_first l p times some;
      back = λ l p b at some e. let r = write_back l p b at some e in record { error = r.error; bytes = r.bytes; before = r.before };
      alike = λ l m a b one op p times other. mtio_alike l m a b one op p times other;
    }
