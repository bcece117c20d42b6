-- What a write leaves: the image is sound, what stands before the position stays, what was written is there. Assumes nothing.
use Prim.Native.Nat.{ℕ, zero, suc, ◌+◌, ◌-◌, ◌≤◌, ◌<◌}
use mathlib.Core.List.{List, []}
use mathlib.Core.Path.{◌≡◌, refl, sym, ap, ◌∙◌}
use native.Mathlib.Omega.{arith}
use native.Mathlib.Nat.{add-zero}
use lib.ListN.{length, take, drop, get_or}
use borrow.Author.Count.{below_more}
use Rattle.codes.specs.Codes.{longest_record}
use Rattle.xdr.specs.Xdr.{word}
use Rattle.xdr.proofs.Laws.{length_overlay}
use Rattle.xdr.proofs.Places.{byte_before, byte_after, part_back, part_same}
use Rattle.tape_image.specs.Image.{capacity, count, used, entry_at, entry_len, entry_start, entry_bytes, body_at, body_len, Table, with_entry}
use Rattle.tape_image.specs.Sound.{Header, Entry, Sound, Placed, sum_before}
use Rattle.tape_image.proofs.Laws.{entry_there, sum_next, sum_mono, sum_same}
use Rattle.tape_image.proofs.Writes.{entry_length, entry_first, entry_capacity, entry_count, entry_used, entry_len_lem, entry_start_lem, before_len, before_start, entry_byte}
use Rattle.tape_image.proofs.Writes.{body_first, body_capacity, body_count, body_used, body_len_lem, body_start}
use Rattle.tape_writing.specs.Writing.{kept, Room, written, with_marks}
use Rattle.tape_writing.proofs.Laws.{kept_end, kept_sum, kept_used, mark_is}

module _ (l : List ℕ) (p : ℕ) (b : List ℕ) (at : Placed l p) (small : length b ≤ longest_record) (room : Room l p (length b)) where
  -- the image with the entry, before the bytes
  abbrev cut : List ℕ
  cut = with_entry l p (kept l p) (length b)

  there : Table l (p + 1)
  there = entry_there l p at.ok room.slot

  bytes : kept l p + length b < 4294967296
  bytes = let f = at.ok.header in omega arith

  front_fits : body_at l + kept l p ≤ length cut
  front_fits =
      let e = entry_length l p (kept l p) (length b) there bytes in
      let f = at.ok.header in
      omega arith

  after : body_at cut ≤ body_at l + kept l p
  after = let e = entry_capacity l p (kept l p) (length b) there bytes in omega arith

  pub written_length : length (written l p b) ≡ length l
  unfolding written
  written_length =
      let e = entry_length l p (kept l p) (length b) there bytes in
      let f = at.ok.header in
      length_overlay (body_at l + kept l p) b cut (omega arith) ∙ e

  written_first : word (written l p b) 0 ≡ word l 0
  unfolding written
  written_first = body_first cut _ b after front_fits ∙ entry_first l p (kept l p) (length b) there bytes

  pub written_capacity : capacity (written l p b) ≡ capacity l
  unfolding written
  written_capacity = body_capacity cut _ b after front_fits ∙ entry_capacity l p (kept l p) (length b) there bytes

  pub written_count : count (written l p b) ≡ p + 1
  unfolding written
  written_count = body_count cut _ b after front_fits ∙ entry_count l p (kept l p) (length b) there bytes

  pub written_used : used (written l p b) ≡ kept l p + length b
  unfolding written
  written_used = body_used cut _ b after front_fits ∙ entry_used l p (kept l p) (length b) there bytes

  written_header : Header (written l p b)
  written_header =
      let f = at.ok.header in
      let e0 = written_first in
      let e1 = written_length in
      let e2 = written_count in
      let e3 = written_used in
      let e4 = written_capacity in
      record {
        whole = omega arith;
        first = omega arith;
        some = omega arith;
        few = omega arith;
        table = omega arith;
        body = omega arith;
        entries = omega arith;
        bytes = omega arith;
      }

  below : (i : ℕ) → i ≤ p → i < capacity cut
  below i h = let e = entry_capacity l p (kept l p) (length b) there bytes in let s = room.slot in omega arith

  pub written_len : entry_len (written l p b) p ≡ length b
  unfolding written
  written_len = body_len_lem cut _ b after front_fits p (below p (omega arith)) ∙ entry_len_lem l p (kept l p) (length b) there bytes

  pub written_start : entry_start (written l p b) p ≡ kept l p
  unfolding written
  written_start = body_start cut _ b after front_fits p (below p (omega arith)) ∙ entry_start_lem l p (kept l p) (length b) there bytes

  pub same_len : (i : ℕ) → i < p → entry_len (written l p b) i ≡ entry_len l i
  unfolding written
  same_len i h = body_len_lem cut _ b after front_fits i (below i (omega arith)) ∙ before_len l p (kept l p) (length b) there bytes i h

  pub same_start : (i : ℕ) → i < p → entry_start (written l p b) i ≡ entry_start l i
  unfolding written
  same_start i h = body_start cut _ b after front_fits i (below i (omega arith)) ∙ before_start l p (kept l p) (length b) there bytes i h

  same_sum : (i : ℕ) → i ≤ p → sum_before (written l p b) i ≡ sum_before l i
  same_sum i h = sum_same l (written l p b) i (λ j k. same_len j (omega arith))

  old_entry : (i : ℕ) → i < p → Entry (written l p b) i
  old_entry i h =
      let n = at.within in
      let f = at.ok.entry i (omega arith) in
      let e = same_len i h in
      record { short = omega arith; start = same_start i h ∙ f.start ∙ sym (same_sum i (omega arith)) }

  new_entry : Entry (written l p b) p
  new_entry =
      let e = written_len in
      record { short = omega arith; start = written_start ∙ kept_sum l p at ∙ sym (same_sum p (omega arith)) }

  -- a record that is written to a sound image leaves it sound
  pub written_sound : Sound (written l p b)
  written_sound =
      let n = written_count in
      record {
        header = written_header;
        entry = λ i h. below_more (Entry (written l p b)) p old_entry new_entry i (omega arith);
        total =
            written_used
            ∙ (let a = kept_sum l p at in let c = same_sum p (omega arith) in let d = written_len in let s = sum_next (written l p b) p in omega arith)
            ∙ ap (sum_before (written l p b)) (sym n);
      }

  -- and the position after it is one of its tape
  pub written_placed : Placed (written l p b) (p + 1)
  written_placed = let n = written_count in record { ok = written_sound; within = omega arith }

  -- the bytes of the record are there
  body_back : take (length b) (drop (body_at l + kept l p) (written l p b)) ≡ b
  unfolding written
  body_back = part_back (body_at l + kept l p) b cut front_fits

  -- what was written at a position stands there
  pub written_there : entry_bytes (written l p b) p ≡ b
  unfolding entry_bytes
  written_there = rw (written_len, written_start, written_capacity) body_back

  -- a byte of the body before the new record
  same_byte : (i : ℕ) → body_at l ≤ i → i < body_at l + kept l p → get_or (written l p b) i 0 ≡ get_or l i 0
  unfolding written
  same_byte i h k =
      let f = at.ok.header in
      byte_before (body_at l + kept l p) b cut front_fits i k
      ∙ entry_byte l p (kept l p) (length b) there bytes i (omega arith)

  -- the records before the position keep their bytes
  pub same_bytes : (i : ℕ) → i < p → entry_bytes (written l p b) i ≡ entry_bytes l i
  unfolding entry_bytes
  same_bytes i h =
      let n = at.within in
      let f = at.ok.entry i (omega arith) in
      let s = sum_next l i in
      let g : i + 1 + (p - (i + 1)) ≡ p = omega arith in
      let m : sum_before l (i + 1) ≤ sum_before l p = rw g at (sum_mono l (i + 1) (p - (i + 1))) in
      let k = kept_sum l p at in
      rw (same_len i h, same_start i h, written_capacity)
      (part_same (body_at l + entry_start l i) (entry_len l i) l (written l p b) written_length (λ j a c. same_byte j (omega arith) (omega arith)))

  -- ---- what is past the new end stays: the table's bytes from the next entry on, and the body's after the record
  pub past_table : (i : ℕ) → entry_at l (p + 1) ≤ i → i < body_at l → get_or (written l p b) i 0 ≡ get_or l i 0
  unfolding written
  past_table i h k =
      byte_before (body_at l + kept l p) b cut front_fits i (omega arith) ∙ entry_byte l p (kept l p) (length b) there bytes i h

  pub past_body : (i : ℕ) → body_at l + (kept l p + length b) ≤ i → get_or (written l p b) i 0 ≡ get_or l i 0
  unfolding written
  past_body i h =
      let s = room.slot in
      byte_after (body_at l + kept l p) b cut front_fits i (omega arith)
      ∙ entry_byte l p (kept l p) (length b) there bytes i (omega arith)

-- ---- marks
-- while marks are written: `left` are to go, from position `at` on
pub record Marking (l₀ : List ℕ) (p n keep : ℕ) (l : List ℕ) (at left : ℕ) : Type 0 where
  pub here : Placed l at
  pub slots : at + left ≤ capacity l
  pub keeps : keep ≡ kept l at
  pub fits : keep ≤ body_len l
  pub long : length l ≡ length l₀
  pub rest : with_marks l₀ p n ≡ with_marks l at left

marks_more : (l : List ℕ) (at m k : ℕ) → m ≡ suc k → with_marks l at m ≡ with_marks (written l at []) (at + 1) k
unfolding with_marks
marks_more l at m k e = rw e

pub marks_none : (l : List ℕ) (at left : ℕ) → left ≡ 0 → with_marks l at left ≡ l
unfolding with_marks
marks_none l at left e = rw e

-- there is room for a mark at a position below C
pub mark_room : (l : List ℕ) (p : ℕ) → Placed l p → p < capacity l → Room l p 0
mark_room l p f h =
    let u = kept_used l p f in
    let b = f.ok.header.bytes in
    record { slot = h; fits = omega arith }

pub mark_step : (l₀ : List ℕ) (p n keep : ℕ) (l : List ℕ) (at left rest : ℕ) (l' : List ℕ) → Marking l₀ p n keep l at left → left ≡ rest + 1 → l' ≡ with_entry l at keep 0
    → Marking l₀ p n keep l' (at + 1) rest
mark_step l₀ p n keep l at left rest l' m some e =
    let small : length {A = ℕ} [] ≤ longest_record = omega arith in
    let s = m.slots in
    let room = mark_room l at m.here (omega arith) in
    let same : l' ≡ written l at [] = rw m.keeps at e ∙ mark_is l at in
    let c = written_count l at [] m.here small room in
    let us = written_used l at [] m.here small room in
    let cap = written_capacity l at [] m.here small room in
    let len = written_length l at [] m.here small room in
    let k = kept_end (written l at []) (at + 1) (omega arith) in
    let q = m.keeps in
    let f = m.fits in
    rw same
    (record {
      here = written_placed l at [] m.here small room;
      slots = omega arith;
      keeps = omega arith;
      fits = omega arith;
      long = len ∙ m.long;
      rest = m.rest ∙ marks_more l at left rest (omega arith);
    })

-- marks that are written to a sound image leave it sound, and the tape after them
pub marks_placed : (k : ℕ) (l : List ℕ) (p : ℕ) → Placed l p → p + k ≤ capacity l → Placed (with_marks l p k) (p + k)
unfolding with_marks
marks_placed zero l p f h = rw (add-zero p) f
marks_placed (suc k) l p f h =
    let small : length {A = ℕ} [] ≤ longest_record = omega arith in
    let room = mark_room l p f (omega arith) in
    let cap = written_capacity l p [] f small room in
    let g : p + suc k ≡ p + 1 + k = omega arith in
    rw g (marks_placed k (written l p []) (p + 1) (written_placed l p [] f small room) (omega arith))

-- ---- what is past the end after marks stays
pub record Past (l m : List ℕ) (n u : ℕ) : Type 0 where
  pub size : length m ≡ length l
  pub places : capacity m ≡ capacity l
  pub table : (i : ℕ) → entry_at l n ≤ i → i < body_at l → get_or m i 0 ≡ get_or l i 0
  pub body : (i : ℕ) → body_at l + u ≤ i → get_or m i 0 ≡ get_or l i 0

module _ (l : List ℕ) (p : ℕ) (f : Placed l p) (h : p < capacity l) where
  none_small : length {A = ℕ} [] ≤ longest_record
  none_small = omega arith

  -- the bytes that are kept before the next mark are the same
  mark_kept : kept (written l p []) (p + 1) ≡ kept l p
  mark_kept =
      let room = mark_room l p f h in
      let c = written_count l p [] f none_small room in
      let u = written_used l p [] f none_small room in
      let k = kept_end (written l p []) (p + 1) (omega arith) in
      omega arith

pub marks_used : (k : ℕ) (l : List ℕ) (p : ℕ) → Placed l p → p + k ≤ capacity l → kept l p ≤ used (with_marks l p k)
unfolding with_marks
marks_used zero l p f h = kept_used l p f
marks_used (suc k) l p f h =
    let z : p < capacity l = omega arith in
    let room = mark_room l p f z in
    let cap = written_capacity l p [] f (none_small l p f z) room in
    let e = mark_kept l p f z in
    let r = marks_used k (written l p []) (p + 1) (written_placed l p [] f (none_small l p f z) room) (omega arith) in
    omega arith

pub marks_past : (k : ℕ) (l : List ℕ) (p : ℕ) → Placed l p → p + k ≤ capacity l → Past l (with_marks l p k) (p + k) (kept l p)
unfolding with_marks
marks_past zero l p f h = record { size = refl; places = refl; table = λ i _ _. refl; body = λ i _. refl }
marks_past (suc k) l p f h =
    let z : p < capacity l = omega arith in
    let small = none_small l p f z in
    let room = mark_room l p f z in
    let cap = written_capacity l p [] f small room in
    let len = written_length l p [] f small room in
    let e = mark_kept l p f z in
    let r = marks_past k (written l p []) (p + 1) (written_placed l p [] f small room) (omega arith) in
    record {
      size = r.size ∙ len;
      places = r.places ∙ cap;
      table = λ i a c. r.table i (omega arith) (omega arith) ∙ past_table l p [] f small room i (omega arith) c;
      body = λ i a. r.body i (omega arith) ∙ past_body l p [] f small room i (omega arith);
    }
