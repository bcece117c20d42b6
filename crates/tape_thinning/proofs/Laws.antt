-- The laws of numbers by index, and one law for each turn of a loop. Assumes nothing.
use Prim.Native.Nat.{ℕ, zero, suc, ◌+◌, ◌-◌, ◌*◌, ◌≤◌, ◌<◌}
use mathlib.Core.Bool.{Bool, true, false, not}
use mathlib.Core.List.{List, [], ◌∷◌}
use mathlib.Core.Path.{◌≡◌, refl, sym, ap, ◌∙◌}
use native.Mathlib.Omega.{arith}
use native.Mathlib.Nat.{add-zero, sub-zero}
use native.Mathlib.Numerals.{add-one}
use lib.Dec.{leb, ltb, eqb}
use lib.ListN.{length, take, drop, get_or}
use lib.Seq.{drop-cons, drop-drop}
use borrow.Author.Tests.{le-leb, lt-leb, lt-ltb, le-ltb, eq-eqb, ne_eqb}
use Rattle.std.specs.Int.{from_bool}
use Rattle.codes.specs.Codes.{longest_record}
use Rattle.xdr.specs.Choose.{choose}
use Rattle.tape_image.specs.Image.{count, entry_len, entry_start, entry_bytes, body_at}
use Rattle.tape_image.specs.Sound.{Sound}
use Rattle.tape_writing.specs.Writing.{Room, written, FilledWrite}
use Rattle.tape_writing.proofs.Laws.{fill_whole, room_holds}
use Rattle.tape_files.specs.Files.{entries_from, entries_of, files_of, is_next, kept_if, mark_of, chosen, file_count, bytes_in}
use Rattle.tape_files.specs.Thinning.{laid, are_named, named_entries}
use Rattle.tape_files.proofs.Lists.{kept_length, kept_bytes, mark_is, chosen_first, chosen_end, count_first, count_end, bytes_end, files_count, thinned_entries}
use Rattle.tape_files.proofs.Laid.{bytes_length, entries_none, entries_next, Ready, ready_next, ready_room, next_length, laid_next_is, laid_end, entry_within}
use Rattle.tape_thinning.specs.declared.Walk.{Walk}
use Rattle.tape_thinning.specs.Walk.{next_at, after, named_at, Surveyed, Copyable}

-- ---- numbers by index
drop_past : (at : ℕ) (ns : List ℕ) → length ns ≤ at → drop at ns ≡ []
drop_past zero [] h = refl
drop_past zero (x ∷ xs) h = absurd (omega arith)
drop_past (suc at) [] h = refl
drop_past (suc at) (x ∷ xs) h = drop_past at xs (omega arith)

drop_here : (at n : ℕ) (ns : List ℕ) → at < length ns → n ≡ get_or ns at 0 → drop at ns ≡ n ∷ drop (at + 1) ns
drop_here at n ns h e = drop-cons ns at 0 h ∙ rw (add-one at, e)

next_nil : (file : ℕ) → is_next file [] ≡ false
unfolding is_next
next_nil file = refl

next_cons : (file n : ℕ) (ns : List ℕ) → is_next file (n ∷ ns) ≡ eqb n file
unfolding is_next
next_cons file n ns = refl

next_is : (ns : List ℕ) (at file : ℕ) → next_at ns at file ≡ is_next file (drop at ns)
unfolding next_at
next_is ns at file = refl

pub next_past : (file at : ℕ) (ns : List ℕ) → length ns ≤ at → false ≡ next_at ns at file
next_past file at ns h = sym (next_is ns at file ∙ ap (is_next file) (drop_past at ns h) ∙ next_nil file)

pub next_so : (file at n : ℕ) (ns : List ℕ) → at < length ns → n ≡ get_or ns at 0 → n ≡ file → true ≡ next_at ns at file
next_so file at n ns h e k = sym (next_is ns at file ∙ ap (is_next file) (drop_here at n ns h e) ∙ next_cons file n (drop (at + 1) ns) ∙ eq-eqb n file k)

pub next_not : (file at n : ℕ) (ns : List ℕ) → at < length ns → n ≡ get_or ns at 0 → (n ≡ file → ⊥) → false ≡ next_at ns at file
next_not file at n ns h e k = sym (next_is ns at file ∙ ap (is_next file) (drop_here at n ns h e) ∙ next_cons file n (drop (at + 1) ns) ∙ ne_eqb n file k)

named_cons : (from files n : ℕ) (ns : List ℕ)
    → are_named from files (n ∷ ns) ≡ choose (leb from n) (choose (ltb n files) (are_named (n + 1) files ns) false) false
unfolding are_named
named_cons from files n ns = refl

named_nil : (from files : ℕ) → are_named from files [] ≡ true
unfolding are_named
named_nil from files = refl

module _ (from files i n : ℕ) (ns : List ℕ) (h : i < length ns) (e : n ≡ get_or ns i 0) where
  named_step : named_at ns i from files ≡ choose (leb from n) (choose (ltb n files) (are_named (n + 1) files (drop (i + 1) ns)) false) false
  unfolding named_at
  named_step = ap (are_named from files) (drop_here i n ns h e) ∙ named_cons from files n (drop (i + 1) ns)

  pub named_low : n < from → named_at ns i from files ≡ false
  unfolding choose
  named_low k = named_step ∙ rw (lt-leb from n k)

  pub named_high : from ≤ n → files ≤ n → named_at ns i from files ≡ false
  unfolding choose
  named_high k m = named_step ∙ rw (le-leb from n k, le-ltb n files m)

  pub named_next : from ≤ n → n < files → named_at ns i from files ≡ named_at ns (i + 1) (n + 1) files
  unfolding choose named_at
  named_next k m = named_step ∙ rw (le-leb from n k, lt-ltb n files m)

pub named_end : (from files i : ℕ) (ns : List ℕ) → length ns ≤ i → named_at ns i from files ≡ true
unfolding named_at
named_end from files i ns h = ap (are_named from files) (drop_past i ns h) ∙ named_nil from files

pub named_start : (files : ℕ) (ns : List ℕ) → are_named 0 files ns ≡ named_at ns 0 0 files
unfolding named_at
named_start files ns = refl

pub ruleset numbers_in_turn = (named_start, named_low, named_high, named_next, named_end)

pub ruleset numbers_by_index = (next_past, next_so, next_not)

-- ---- one entry of the source
-- what is left to choose from entry i on
abbrev pub left : List ℕ → List ℕ → ℕ → ℕ → ℕ → List (List ℕ)
left s ns i file next = chosen file (drop next ns) (entries_from s (count s - i) i)

module _ (s ns : List ℕ) (i file next len : ℕ) (named : Bool) (mark n : ℕ) (ok : Sound s) (h : i < count s)
    (isLen : len ≡ entry_len s i) (is_named : named ≡ next_at ns next file) (is_mark : mark ≡ choose (eqb len 0) 1 0)
    (isNew : n ≡ choose named mark 0) where
  entry_mark : mark_of (entry_bytes s i) ≡ mark
  entry_mark = mark_is (entry_bytes s i) ∙ ap (λ (k : ℕ). choose {A = ℕ} (eqb k 0) 1 0) (bytes_length s i ok h ∙ sym isLen) ∙ sym is_mark

  pub left_step : left s ns i file next ≡ kept_if named (entry_bytes s i) (left s ns (i + 1) (file + mark) (next + n))
  left_step =
      ap (chosen file (drop next ns)) (entries_next s (count s) i h)
      ∙ chosen_first file (drop next ns) (entry_bytes s i) (entries_from s (count s - (i + 1)) (i + 1))
      ∙ (let b = is_named ∙ next_is ns next file in rw (entry_mark, ← b, ← isNew, drop-drop n next ns))

  pub files_step : (begun : ℕ) → file_count begun (entries_from s (count s - i) i) ≡ mark + file_count (1 - mark) (entries_from s (count s - (i + 1)) (i + 1))
  files_step begun =
      ap (file_count begun) (entries_next s (count s) i h)
      ∙ count_first begun (entry_bytes s i) (entries_from s (count s - (i + 1)) (i + 1))
      ∙ rw entry_mark

-- ---- the judging walk
pub record Measuring (s ns : List ℕ) (i file begun next entries bytes : ℕ) : Type 0 where
  pub ok : Sound s
  pub within : i ≤ count s
  pub files : length (files_of s) ≡ file + file_count begun (entries_from s (count s - i) i)
  pub chosen_entries : length (named_entries s ns) ≡ entries + length (left s ns i file next)
  pub chosen_bytes : bytes_in (named_entries s ns) ≡ bytes + bytes_in (left s ns i file next)
  pub file_low : file ≤ i
  pub begun_low : begun ≤ 1
  pub next_low : next ≤ i
  pub entries_low : entries ≤ i
  pub bytes_low : bytes ≤ i * 32768

start_left : (s ns : List ℕ) → named_entries s ns ≡ left s ns 0 0 0
start_left s ns = thinned_entries 0 ns (entries_of s) ∙ ap (λ (k : ℕ). chosen 0 ns (entries_from s k 0)) (sym (sub-zero (count s)))

pub measure_start : (s ns : List ℕ) → Sound s → Measuring s ns 0 0 0 0 0 0
measure_start s ns ok =
    let e = start_left s ns in
    let a = ap length e in
    let b = ap bytes_in e in
    let c = files_count (entries_of s) ∙ ap (λ (k : ℕ). file_count 0 (entries_from s k 0)) (sym (sub-zero (count s))) in
    record {
      ok = ok;
      within = omega arith;
      files = omega arith;
      chosen_entries = omega arith;
      chosen_bytes = omega arith;
      file_low = omega arith;
      begun_low = omega arith;
      next_low = omega arith;
      entries_low = omega arith;
      bytes_low = omega arith;
    }

pub measure_step : (s ns : List ℕ) (i file begun next entries bytes len : ℕ) (named : Bool) (mark e b n : ℕ) → i < count s
    → len ≡ entry_len s i → named ≡ next_at ns next file → mark ≡ choose (eqb len 0) 1 0 → mark ≤ 1 → e ≡ choose named 1 0 → e ≤ 1
    → b ≡ choose named len 0 → b ≤ len → n ≡ choose named mark 0 → n ≤ mark
    → Measuring s ns i file begun next entries bytes
    → Measuring s ns (i + 1) (file + mark) (1 - mark) (next + n) (entries + e) (bytes + b)
measure_step s ns i file begun next entries bytes len named mark e b n h isLen is_named is_mark m1 isE e1 is_b b1 isNew n1 v =
    let ok = v.ok in
    let rest = left s ns (i + 1) (file + mark) (next + n) in
    let step = left_step s ns i file next len named mark n ok h isLen is_named is_mark isNew in
    let a = ap length step ∙ kept_length named (entry_bytes s i) rest in
    let c = ap bytes_in step ∙ kept_bytes named (entry_bytes s i) rest in
    let z = bytes_length s i ok h in
    let cb : choose {A = ℕ} named (length (entry_bytes s i)) 0 ≡ b = ap (λ (k : ℕ). choose {A = ℕ} named k 0) (z ∙ sym isLen) ∙ sym is_b in
    let f = files_step s ns i file next len named mark n ok h isLen is_named is_mark isNew begun in
    let short = (ok.entry i h).short in
    let v1 = v.within in
    let v2 = v.files in
    let v3 = v.chosen_entries in
    let v4 = v.chosen_bytes in
    let v5 = v.file_low in
    let v6 = v.next_low in
    let v7 = v.entries_low in
    let v8 = v.bytes_low in
    record {
      ok = ok;
      within = omega arith;
      files = omega arith;
      chosen_entries = omega arith;
      chosen_bytes = omega arith;
      file_low = omega arith;
      begun_low = omega arith;
      next_low = omega arith;
      entries_low = omega arith;
      bytes_low = omega arith;
    }

chosen_low : (b : Bool) (n : ℕ) → choose b n 0 ≤ n
unfolding choose
chosen_low true n = omega arith
chosen_low false n = omega arith

pub begun_is : (mark : Bool) → from_bool (not mark) ≡ 1 - choose mark 1 0
unfolding choose
begun_is true = refl
begun_is false = refl

-- the same, as the code goes from one walk to the next
pub measure_on : (s ns : List ℕ) (i : ℕ) (w w' : Walk) (begun entries bytes len : ℕ) (named : Bool) (begun' entries' bytes' : ℕ) → i < count s
    → len ≡ entry_len s i → named ≡ next_at ns w.next w.file → w' ≡ after w named len → begun' ≡ 1 - choose (eqb len 0) 1 0
    → entries' ≡ entries + choose named 1 0 → bytes' ≡ bytes + choose named len 0
    → Measuring s ns i w.file begun w.next entries bytes → Measuring s ns (i + 1) w'.file begun' w'.next entries' bytes'
measure_on s ns i w w' begun entries bytes len named begun' entries' bytes' h isLen is_named e b f g v =
    let mark = choose {A = ℕ} (eqb len 0) 1 0 in
    rw (e, b, f, g)
    (measure_step s ns i w.file begun w.next entries bytes len named mark (choose named 1 0) (choose named len 0) (choose named mark 0) h isLen is_named refl
    (chosen_low (eqb len 0) 1) refl (chosen_low named 1) refl (chosen_low named len) refl (chosen_low named mark) v)

none_left : (s ns : List ℕ) (i file next : ℕ) → count s ≤ i → left s ns i file next ≡ []
none_left s ns i file next h = ap (chosen file (drop next ns)) (entries_none s (count s - i) i (omega arith)) ∙ chosen_end file (drop next ns)

pub measure_end : (s ns : List ℕ) (i file begun next entries bytes : ℕ) → count s ≤ i → Measuring s ns i file begun next entries bytes
    → Surveyed s ns (record { files = file + begun; entries = entries; bytes = bytes })
measure_end s ns i file begun next entries bytes h v =
    let e = none_left s ns i file next h in
    let a = ap length e in
    let b = ap bytes_in e ∙ bytes_end in
    let c = ap (file_count begun) (entries_none s (count s - i) i (omega arith)) ∙ count_end begun in
    let v2 = v.files in
    let v3 = v.chosen_entries in
    let v4 = v.chosen_bytes in
    record { files = omega arith; entries = omega arith; bytes = omega arith }

-- ---- the copying walk
pub record Copying (s ns l₀ : List ℕ) (i file next : ℕ) (l : List ℕ) (at : ℕ) : Type 0 where
  pub ok : Sound s
  pub within : i ≤ count s
  pub ready : Ready l at (left s ns i file next)
  pub rest : laid l₀ 0 (named_entries s ns) ≡ laid l at (left s ns i file next)
  pub long : length l ≡ length l₀
  pub file_low : file ≤ i
  pub next_low : next ≤ i
  pub at_low : at ≤ i

pub copy_start : (s ns l : List ℕ) → Sound s → Ready l 0 (named_entries s ns) → Copying s ns l 0 0 0 l 0
copy_start s ns l ok r =
    let k = start_left s ns in
    record {
      ok = ok;
      within = omega arith;
      ready = rw k at r;
      rest = ap (laid l 0) k;
      long = refl;
      file_low = omega arith;
      next_low = omega arith;
      at_low = omega arith;
    }

-- one entry, kept or not
record Put (b : Bool) (l : List ℕ) (at : ℕ) (e : List ℕ) (es : List (List ℕ)) (l' : List ℕ) : Type 0 where
  ready : Ready l' (at + choose b 1 0) es
  rest : laid l at (kept_if b e es) ≡ laid l' (at + choose b 1 0) es
  long : length l' ≡ length l

put : (b : Bool) (l : List ℕ) (at : ℕ) (e : List ℕ) (es : List (List ℕ)) → Ready l at (kept_if b e es) → Put b l at e es (choose b (written l at e) l)
unfolding kept_if choose
put true l at e es r = record { ready = ready_next l at e es r; rest = laid_next_is l at e es; long = next_length l at e es r }
put false l at e es r = record { ready = rw (add-zero at) r; rest = rw (add-zero at); long = refl }

put_room : (b : Bool) (l : List ℕ) (at : ℕ) (e : List ℕ) (es : List (List ℕ)) → Ready l at (kept_if b e es) → b ≡ true → Room l at (length e)
unfolding kept_if
put_room b l at e es r h = ready_room l at e es (rw h at r)

module _ (s ns l₀ : List ℕ) (i file next : ℕ) (l : List ℕ) (at len : ℕ) (named : Bool) (mark n : ℕ) (h : i < count s)
    (isLen : len ≡ entry_len s i) (is_named : named ≡ next_at ns next file) (is_mark : mark ≡ choose (eqb len 0) 1 0)
    (isNew : n ≡ choose named mark 0) (v : Copying s ns l₀ i file next l at) where
  kept_ready : Ready l at (kept_if named (entry_bytes s i) (left s ns (i + 1) (file + mark) (next + n)))
  kept_ready = rw (left_step s ns i file next len named mark n v.ok h isLen is_named is_mark isNew) at v.ready

  copy_fits : named ≡ true → Copyable s i l at
  copy_fits t =
      record {
        ok = v.ok;
        entry = h;
        here = v.ready.here;
        room = put_room named l at (entry_bytes s i) (left s ns (i + 1) (file + mark) (next + n)) kept_ready t;
      }

  pub copy_step : (l' : List ℕ) (e : ℕ) → l' ≡ choose named (written l at (entry_bytes s i)) l → e ≡ choose named 1 0 → e ≤ 1 → mark ≤ 1 → n ≤ mark
      → Copying s ns l₀ (i + 1) (file + mark) (next + n) l' (at + e)
  copy_step l' e is isE e1 m1 n1 =
      let p = put named l at (entry_bytes s i) (left s ns (i + 1) (file + mark) (next + n)) kept_ready in
      let v1 = v.file_low in
      let v2 = v.next_low in
      let v3 = v.at_low in
      rw (is, isE)
      (record {
        ok = v.ok;
        within = omega arith;
        ready = p.ready;
        rest = v.rest ∙ ap (laid l at) (left_step s ns i file next len named mark n v.ok h isLen is_named is_mark isNew) ∙ p.rest;
        long = p.long ∙ v.long;
        file_low = omega arith;
        next_low = omega arith;
        at_low = omega arith;
      })

-- the same, as the code goes from one walk to the next
pub copy_on : (s ns l₀ : List ℕ) (i : ℕ) (w w' : Walk) (l : List ℕ) (at len : ℕ) (named : Bool) (l' : List ℕ) (at' : ℕ) → i < count s
    → len ≡ entry_len s i → named ≡ next_at ns w.next w.file → w' ≡ after w named len → l' ≡ choose named (written l at (entry_bytes s i)) l
    → at' ≡ at + choose named 1 0 → Copying s ns l₀ i w.file w.next l at → Copying s ns l₀ (i + 1) w'.file w'.next l' at'
copy_on s ns l₀ i w w' l at len named l' at' h isLen is_named e f g v =
    let mark = choose {A = ℕ} (eqb len 0) 1 0 in
    rw (e, g)
    (copy_step s ns l₀ i w.file w.next l at len named mark (choose named mark 0) h isLen is_named refl refl v l' (choose named 1 0) f refl
    (chosen_low named 1) (chosen_low (eqb len 0) 1) (chosen_low named mark))

-- what a copy asks for, before its mark is known
pub copy_allowed : (s ns l₀ : List ℕ) (i file next : ℕ) (l : List ℕ) (at : ℕ) (named : Bool) → i < count s → named ≡ next_at ns next file
    → Copying s ns l₀ i file next l at → named ≡ true → Copyable s i l at
copy_allowed s ns l₀ i file next l at named h is_named v =
    copy_fits s ns l₀ i file next l at (entry_len s i) named (choose (eqb (entry_len s i) 0) 1 0) (choose named (choose (eqb (entry_len s i) 0) 1 0) 0)
    h refl is_named refl refl v

pub copy_end : (s ns l₀ : List ℕ) (i file next : ℕ) (l : List ℕ) (at : ℕ) → count s ≤ i → Copying s ns l₀ i file next l at
    → l ≡ laid l₀ 0 (named_entries s ns)
copy_end s ns l₀ i file next l at h v = sym (v.rest ∙ ap (laid l at) (none_left s ns i file next h) ∙ laid_end l at)

-- ---- the bytes of one entry
module _ (s : List ℕ) (i : ℕ) (l : List ℕ) (p : ℕ) (v : Copyable s i l p) where
  pub part_within : body_at s + entry_start s i + entry_len s i ≤ length s
  part_within = let w = entry_within s i v.ok v.entry in omega arith

  pub part_short : entry_len s i ≤ longest_record
  part_short = (v.ok.entry i v.entry).short

  -- the bytes that are lent are the entry's
  part_is : (start end len : ℕ) → start ≡ body_at s + entry_start s i → end ≡ start + len → len ≡ entry_len s i
      → take (end - start) (drop start s) ≡ entry_bytes s i
  unfolding entry_bytes
  part_is start end len a b c =
      let d : end - start ≡ entry_len s i = omega arith in
      rw (d, a)

  written_part : (part : List ℕ) (len : ℕ) (r : Bool) (l' : List ℕ) → part ≡ entry_bytes s i → len ≡ entry_len s i → FilledWrite l p part len r l'
      → l' ≡ written l p (entry_bytes s i)
  unfolding choose
  written_part part len r l' a b w =
      let n = bytes_length s i v.ok v.entry in
      let room = room_holds l p (length (entry_bytes s i)) v.room in
      let e : len ≡ length (entry_bytes s i) = b ∙ sym n in
      (rw (a, e, ← room, fill_whole) at w.image)

  pub copied : (start end len : ℕ) (r : Bool) (l' : List ℕ) → FilledWrite l p (take (end - start) (drop start s)) len r l'
      → start ≡ body_at s + entry_start s i → end ≡ start + len → len ≡ entry_len s i → l' ≡ written l p (entry_bytes s i)
  copied start end len r l' w a b c = written_part (take (end - start) (drop start s)) len r l' (part_is start end len a b c) c w
