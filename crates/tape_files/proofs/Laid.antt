-- An image that is emptied is sound; entries written one after the other leave it sound, are its entries, and leave what is past
-- them. Assumes nothing.
use Prim.Native.Nat.{ℕ, zero, suc, ◌+◌, ◌-◌, ◌*◌, ◌≤◌, ◌<◌}
use mathlib.Core.List.{List, [], ◌∷◌, ◌++◌, append-nil, append_assoc}
use mathlib.Core.Path.{◌≡◌, refl, sym, ap, ◌∙◌}
use native.Mathlib.Omega.{arith}
use native.Mathlib.Nat.{add-zero}
use native.Mathlib.Numerals.{add-one}
use lib.ListN.{length, take, drop, get_or, length-drop}
use lib.Seq.{length-take-le}
use Rattle.codes.specs.Codes.{longest_record}
use Rattle.xdr.specs.Xdr.{word, be32s, overlay}
use Rattle.xdr.proofs.Laws.{length_be32s, length_overlay}
use Rattle.xdr.proofs.Places.{byte_after, word_before, first_back, second_back}
use Rattle.tape_image.specs.Image.{header_len, capacity, count, used, entry_at, entry_len, entry_start, entry_bytes, body_at, body_len}
use Rattle.tape_image.specs.Sound.{Header, Entry, Sound, Placed, sum_before}
use Rattle.tape_image.proofs.Laws.{sum_next, sum_used}
use Rattle.tape_writing.specs.Writing.{kept, Room, written}
use Rattle.tape_writing.proofs.Laws.{kept_end}
use Rattle.tape_writing.proofs.Theorems.{written_length, written_capacity, written_count, written_used, written_placed, written_there, same_bytes, past_table, past_body, Past}
use Rattle.tape_files.specs.Files.{entries_from, entries_of, bytes_in}
use Rattle.tape_files.specs.Thinning.{emptied, laid}
use Rattle.tape_files.proofs.Lists.{Short, bytes_end}

-- ---- an emptied image
module _ (l : List ℕ) (ok : Sound l) where
  zeros : length (be32s (0 ∷ 0 ∷ [])) ≡ 8
  zeros = length_be32s (0 ∷ 0 ∷ [])

  pub emptied_length : length (emptied l) ≡ length l
  unfolding emptied
  emptied_length = let e = zeros in let w = ok.header.whole in length_overlay 8 (be32s (0 ∷ 0 ∷ [])) l (omega arith)

  head : (i : ℕ) → i + 4 ≤ 8 → word (emptied l) i ≡ word l i
  unfolding emptied
  head i h = let w = ok.header.whole in word_before 8 (be32s (0 ∷ 0 ∷ [])) l (omega arith) i h

  pub emptied_capacity : capacity (emptied l) ≡ capacity l
  emptied_capacity = head 4 (omega arith)

  pub emptied_count : count (emptied l) ≡ 0
  unfolding emptied
  emptied_count = let w = ok.header.whole in first_back 8 0 0 l (omega arith) (omega arith)

  pub emptied_used : used (emptied l) ≡ 0
  unfolding emptied
  emptied_used = let w = ok.header.whole in second_back 8 0 0 l (omega arith) (omega arith)

  pub emptied_byte : (i : ℕ) → header_len ≤ i → get_or (emptied l) i 0 ≡ get_or l i 0
  unfolding emptied
  emptied_byte i h =
      let e = zeros in
      let w = ok.header.whole in
      byte_after 8 (be32s (0 ∷ 0 ∷ [])) l (omega arith) i (omega arith)

  emptied_header : Header (emptied l)
  emptied_header =
      let f = ok.header in
      let e0 = head 0 (omega arith) in
      let e1 = emptied_length in
      let e2 = emptied_count in
      let e3 = emptied_used in
      let e4 = emptied_capacity in
      record {
        whole = omega arith;
        first = omega arith;
        some = omega arith;
        few = omega arith;
        table = omega arith;
        body = omega arith;
        entries = omega arith;
        bytes = omega arith;
      }

  no_sum : sum_before (emptied l) 0 ≡ 0
  unfolding sum_before
  no_sum = refl

  pub emptied_placed : Placed (emptied l) 0
  emptied_placed =
      let n = emptied_count in
      record {
        ok =
            record {
              header = emptied_header;
              entry = λ i h. absurd (omega arith);
              total = emptied_used ∙ sym no_sum ∙ ap (sum_before (emptied l)) (sym n);
            };
        within = omega arith;
      }

-- ---- the entries of an image
pub entries_none : (l : List ℕ) (k i : ℕ) → k ≡ 0 → entries_from l k i ≡ []
unfolding entries_from
entries_none l k i e = rw e

entries_snoc : (l : List ℕ) (k i : ℕ) → entries_from l (suc k) i ≡ entries_from l k i ++ (entry_bytes l (i + k) ∷ [])
unfolding entries_from
entries_snoc l zero i = rw (add-zero i)
entries_snoc l (suc k) i =
    let g : i + 1 + k ≡ i + suc k = omega arith in
    ap (λ (t : List (List ℕ)). entry_bytes l i ∷ t) (entries_snoc l k (i + 1) ∙ ap (λ (j : ℕ). entries_from l k (i + 1) ++ (entry_bytes l j ∷ [])) g)

entries_same : (l m : List ℕ) (k i : ℕ) → ((j : ℕ) → j < i + k → entry_bytes m j ≡ entry_bytes l j) → entries_from m k i ≡ entries_from l k i
unfolding entries_from
entries_same l m zero i f = refl
entries_same l m (suc k) i f =
    ap (λ (b : List ℕ). b ∷ entries_from m k (i + 1)) (f i (omega arith))
    ∙ ap (λ (t : List (List ℕ)). entry_bytes l i ∷ t) (entries_same l m k (i + 1) (λ j h. f j (omega arith)))

-- the bytes of an entry of a sound image lie in its body, and are as many as its length says
pub entry_within : (l : List ℕ) (i : ℕ) → Sound l → i < count l → body_at l + (entry_start l i + entry_len l i) ≤ length l
entry_within l i ok h =
    let b = ok.header.bytes in
    let t = ok.header.table in
    let s = (ok.entry i h).start in
    let n = sum_next l i in
    let u = sum_used l (i + 1) ok (omega arith) in
    omega arith

pub bytes_length : (l : List ℕ) (i : ℕ) → Sound l → i < count l → length (entry_bytes l i) ≡ entry_len l i
unfolding entry_bytes
bytes_length l i ok h =
    let w = entry_within l i ok h in
    let d = length-drop (body_at l + entry_start l i) l in
    length-take-le (entry_len l i) (drop (body_at l + entry_start l i) l) (omega arith)

pub entries_short : (l : List ℕ) (k i : ℕ) → Sound l → i + k ≤ count l → Short (entries_from l k i)
unfolding entries_from
entries_short l zero i ok h = tt
entries_short l (suc k) i ok h =
    let e = bytes_length l i ok (omega arith) in
    let s = (ok.entry i (omega arith)).short in
    (omega arith, entries_short l k (i + 1) ok (omega arith))

-- ---- entries written one after the other
-- there is room for them at the end of an image, which is p
pub record Ready (l : List ℕ) (p : ℕ) (es : List (List ℕ)) : Type 0 where
  pub here : Placed l p
  pub end : count l ≡ p
  pub slots : p + length es ≤ capacity l
  pub fits : used l + bytes_in es ≤ body_len l
  pub short : Short es

pub record Laid (l : List ℕ) (p : ℕ) (es : List (List ℕ)) (m : List ℕ) : Type 0 where
  pub ok : Sound m
  pub counts : count m ≡ p + length es
  pub bytes : used m ≡ used l + bytes_in es
  pub entries : entries_of m ≡ entries_of l ++ es
  pub past : Past l m (p + length es) (used l + bytes_in es)

pub bytes_first : (e : List ℕ) (es : List (List ℕ)) → bytes_in (e ∷ es) ≡ length e + bytes_in es
unfolding bytes_in
bytes_first e es = refl

module _ (l : List ℕ) (p : ℕ) (e : List ℕ) (es : List (List ℕ)) (r : Ready l p (e ∷ es)) where
  small : length e ≤ longest_record
  small = r.short.0

  keeps : kept l p ≡ used l
  keeps = let c = r.end in kept_end l p (omega arith)

  pub ready_room : Room l p (length e)
  ready_room =
      let s = r.slots in
      let f = r.fits in
      let k = keeps in
      let b = bytes_first e es in
      record { slot = omega arith; fits = omega arith }

  pub next_used : used (written l p e) ≡ used l + length e
  next_used = let k = keeps in written_used l p e r.here small ready_room ∙ (omega arith)

  pub ready_next : Ready (written l p e) (p + 1) es
  ready_next =
      let s = r.slots in
      let f = r.fits in
      let b = bytes_first e es in
      let u = next_used in
      let c = written_capacity l p e r.here small ready_room in
      let n = written_length l p e r.here small ready_room in
      record {
        here = written_placed l p e r.here small ready_room;
        end = written_count l p e r.here small ready_room;
        slots = omega arith;
        fits = omega arith;
        short = r.short.1;
      }

  pub next_length : length (written l p e) ≡ length l
  next_length = written_length l p e r.here small ready_room

  next_entries : entries_of (written l p e) ≡ entries_of l ++ (e ∷ [])
  next_entries =
      let n : count (written l p e) ≡ suc p = written_count l p e r.here small ready_room ∙ add-one p in
      ap (λ (k : ℕ). entries_from (written l p e) k 0) n
      ∙ entries_snoc (written l p e) p 0
      ∙ ap (λ (k : ℕ). entries_from (written l p e) p 0 ++ (entry_bytes (written l p e) k ∷ [])) (let z : 0 + p ≡ p = omega arith in z)
      ∙ ap (λ (b : List ℕ). entries_from (written l p e) p 0 ++ (b ∷ [])) (written_there l p e r.here small ready_room)
      ∙ ap (λ (t : List (List ℕ)). t ++ (e ∷ [])) (entries_same l (written l p e) p 0 (λ j h. same_bytes l p e r.here small ready_room j (omega arith)))
      ∙ ap (λ (k : ℕ). entries_from l k 0 ++ (e ∷ [])) (sym r.end)

  laid_next : (m : List ℕ) → Laid (written l p e) (p + 1) es m → Laid l p (e ∷ es) m
  laid_next m h =
      let b = bytes_first e es in
      let u = next_used in
      let k = keeps in
      let c = written_capacity l p e r.here small ready_room in
      let n = written_length l p e r.here small ready_room in
      let q = h.past in
      let hc = h.counts in
      let hb = h.bytes in
      record {
        ok = h.ok;
        counts = omega arith;
        bytes = omega arith;
        entries = h.entries ∙ ap (λ (t : List (List ℕ)). t ++ es) next_entries ∙ append_assoc (entries_of l) (e ∷ []) es;
        past =
            record {
              size = q.size ∙ n;
              places = q.places ∙ c;
              table = λ i a z. q.table i (omega arith) (omega arith) ∙ past_table l p e r.here small ready_room i (omega arith) z;
              body = λ i a. q.body i (omega arith) ∙ past_body l p e r.here small ready_room i (omega arith);
            };
      }

pub laid_holds : (es : List (List ℕ)) (l : List ℕ) (p : ℕ) → Ready l p es → Laid l p es (laid l p es)
unfolding laid
laid_holds [] l p r =
    let z = bytes_end in
    let c = r.end in
    record {
      ok = r.here.ok;
      counts = omega arith;
      bytes = omega arith;
      entries = sym (append-nil (entries_of l));
      past = record { size = refl; places = refl; table = λ i _ _. refl; body = λ i _. refl };
    }
laid_holds (e ∷ es) l p r = laid_next l p e es r _ (laid_holds es (written l p e) (p + 1) (ready_next l p e es r))

pub laid_next_is : (l : List ℕ) (p : ℕ) (e : List ℕ) (es : List (List ℕ)) → laid l p (e ∷ es) ≡ laid (written l p e) (p + 1) es
unfolding laid
laid_next_is l p e es = refl

pub laid_end : (l : List ℕ) (p : ℕ) → laid l p [] ≡ l
unfolding laid
laid_end l p = refl

pub entries_next : (l : List ℕ) (n i : ℕ) → i < n → entries_from l (n - i) i ≡ entry_bytes l i ∷ entries_from l (n - (i + 1)) (i + 1)
unfolding entries_from
entries_next l n i h =
    let e : n - i ≡ suc (n - (i + 1)) = omega arith in
    rw e
