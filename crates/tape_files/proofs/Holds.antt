-- The promises, from the laws of lists and of entries written one after the other. Assumes nothing.
use Prim.Native.Nat.{ℕ, zero, suc, ◌+◌, ◌-◌, ◌≤◌, ◌<◌}
use mathlib.Core.Bool.{Bool, true, false, not}
use mathlib.Core.List.{List, [], ◌∷◌, ◌++◌}
use mathlib.Core.Path.{◌≡◌, refl, sym, ap, ◌∙◌}
use native.Mathlib.Omega.{arith}
use lib.Dec.{leb, eqb}
use lib.ListN.{length, get_or}
use borrow.Author.Tests.{leb-true, eq-eqb, ne_eqb}
use Rattle.codes.specs.Codes.{illegal_arguments, at_end_code, bad_file}
use Rattle.xdr.specs.Choose.{choose}
use Rattle.xdr.proofs.Tests.{no}
use Rattle.tape_image.specs.Image.{header_len, capacity, count, used, body_at, body_len, is_sound}
use Rattle.tape_image.specs.Sound.{Sound}
use Rattle.tape_image.proofs.Laws.{sound_facts}
use Rattle.tape_writing.proofs.Theorems.{Past}
use Rattle.tape_files.specs.Files.{File, entries_of, files_in, files_of, entries_in, thinned, chosen, bytes_in}
use Rattle.tape_files.specs.Thinning.{emptied, laid, are_named, have_room, named_entries, thin_code, thin_image}
use Rattle.tape_files.specs.Holds.{Done, InOrder, ThinningHolds}
use Rattle.tape_files.proofs.Lists.{Short, short_chosen, thinned_entries, chosen_files, files_entries, thinned_all, thinned_nothing}
use Rattle.tape_files.proofs.Laid.{emptied_placed, emptied_length, emptied_capacity, emptied_count, emptied_used, emptied_byte, entries_none, entries_short, Ready, Laid, laid_holds}

-- ---- four tests and what the first that fails gives
first_of : Bool → Bool → Bool → Bool → ℕ
first_of a b c d = choose (not a) bad_file (choose (not b) bad_file (choose (not c) illegal_arguments (choose (not d) at_end_code 0)))

record AllHold (a b c d : Bool) : Type 0 where
  first : a ≡ true
  second : b ≡ true
  third : c ≡ true
  fourth : d ≡ true

all_hold : (a b c d : Bool) → first_of a b c d ≡ 0 → AllHold a b c d
unfolding first_of choose
all_hold false b c d h = absurd (omega arith)
all_hold true false c d h = absurd (omega arith)
all_hold true true false d h = absurd (omega arith)
all_hold true true true false h = absurd (omega arith)
all_hold true true true true h = record { first = refl; second = refl; third = refl; fourth = refl }

second_fails : (a b c d : Bool) → b ≡ false → first_of a b c d ≡ bad_file
unfolding first_of choose
second_fails false b c d h = refl
second_fails true b c d h = rw h

module _ (a b c d : Bool) where
  first_fails : a ≡ false → first_of a b c d ≡ bad_file
  unfolding first_of choose
  first_fails h = rw h

  third_fails : a ≡ true → b ≡ true → c ≡ false → first_of a b c d ≡ illegal_arguments
  unfolding first_of choose
  third_fails h i j = rw (h, i, j)

  fourth_fails : a ≡ true → b ≡ true → c ≡ true → d ≡ false → first_of a b c d ≡ at_end_code
  unfolding first_of choose
  fourth_fails h i j k = rw (h, i, j, k)

  none_fails : a ≡ true → b ≡ true → c ≡ true → d ≡ true → first_of a b c d ≡ 0
  unfolding first_of choose
  none_fails h i j k = rw (h, i, j, k)

both : (a b : Bool) → choose a b false ≡ true → (a ≡ true) × (b ≡ true)
unfolding choose
both true b h = (refl, h)
both false b h = absurd (let z : ◌≡◌ {A = ℕ} 0 1 = cc in omega arith)

code_is : (s ns t : List ℕ)
    → thin_code s ns t ≡ first_of (is_sound s) (is_sound t) (are_named 0 (length (files_of s)) ns) (have_room t (named_entries s ns))
unfolding thin_code first_of
code_is s ns t = refl

in_order : (s ns t : List ℕ) → InOrder s ns t
in_order s ns t =
    record {
      source_unsound = λ h. code_is s ns t ∙ first_fails _ _ _ _ h;
      second_unsound = λ h. code_is s ns t ∙ second_fails _ _ _ _ h;
      not_named = λ a b h. code_is s ns t ∙ third_fails _ _ _ _ a b h;
      no_room = λ a b c h. code_is s ns t ∙ fourth_fails _ _ _ _ a b c h;
      accepted = λ a b c h. code_is s ns t ∙ none_fails _ _ _ _ a b c h;
    }

-- ---- what is accepted
room_facts : (l : List ℕ) (es : List (List ℕ)) → have_room l es ≡ true → (length es ≤ capacity l) × (bytes_in es ≤ body_len l)
unfolding have_room
room_facts l es h = let f = both (leb (length es) (capacity l)) (leb (bytes_in es) (body_len l)) h in (leb-true _ _ f.0, leb-true _ _ f.1)

-- an emptied image takes what it has room for
pub emptied_ready : (l : List ℕ) (es : List (List ℕ)) → Sound l → Short es → have_room l es ≡ true → Ready (emptied l) 0 es
emptied_ready l es ok short h =
    let f = room_facts l es h in
    let f0 = f.0 in
    let f1 = f.1 in
    let n = emptied_count l ok in
    let u = emptied_used l ok in
    let c = emptied_capacity l ok in
    let s = emptied_length l ok in
    record { here = emptied_placed l ok; end = n; slots = omega arith; fits = omega arith; short = short }

pub named_short : (s ns : List ℕ) → Sound s → Short (named_entries s ns)
named_short s ns ok =
    rw (thinned_entries 0 ns (entries_of s)) (short_chosen 0 ns (entries_of s) (entries_short s (count s) 0 ok (omega arith)))

module _ (s ns t : List ℕ) (source : Sound s) (second : Sound t) (room : have_room t (named_entries s ns) ≡ true) where
  whole : Laid (emptied t) 0 (named_entries s ns) (laid (emptied t) 0 (named_entries s ns))
  whole = laid_holds (named_entries s ns) (emptied t) 0 (emptied_ready t (named_entries s ns) second (named_short s ns source) room)

  its_entries : entries_of (laid (emptied t) 0 (named_entries s ns)) ≡ named_entries s ns
  its_entries =
      whole.entries
      ∙ ap (λ (z : List (List ℕ)). z ++ named_entries s ns) (entries_none (emptied t) (count (emptied t)) 0 (emptied_count t second))

  its_past : Past t (laid (emptied t) 0 (named_entries s ns)) (length (named_entries s ns)) (bytes_in (named_entries s ns))
  its_past =
      let p = whole.past in
      let c = emptied_capacity t second in
      let u = emptied_used t second in
      let w = second.header.table in
      record {
        size = p.size ∙ emptied_length t second;
        places = p.places ∙ c;
        table = λ i a z. p.table i (omega arith) (omega arith) ∙ emptied_byte t second i (omega arith);
        body = λ i a. p.body i (omega arith) ∙ emptied_byte t second i (omega arith);
      }

  its_done : Done s ns t (laid (emptied t) 0 (named_entries s ns))
  its_done =
      let u = emptied_used t second in
      let b = whole.bytes in
      let n = whole.counts in
      record {
        sound = whole.ok;
        files = ap files_in (its_entries ∙ thinned_entries 0 ns (entries_of s)) ∙ chosen_files 0 ns (entries_of s);
        entries = omega arith;
        bytes = omega arith;
        past = its_past;
      }

pub image_done : (s ns t : List ℕ) → thin_code s ns t ≡ 0 → thin_image s ns t ≡ laid (emptied t) 0 (named_entries s ns)
unfolding thin_image choose
image_done s ns t h = rw (eq-eqb (thin_code s ns t) 0 h)

image_left : (s ns t : List ℕ) → (thin_code s ns t ≡ 0 → ⊥) → thin_image s ns t ≡ t
unfolding thin_image choose
image_left s ns t h = rw (ne_eqb (thin_code s ns t) 0 h)

done : (s ns t : List ℕ) → thin_code s ns t ≡ 0 → Done s ns t (thin_image s ns t)
done s ns t h =
    let a = all_hold _ _ _ _ (sym (code_is s ns t) ∙ h) in
    rw (image_done s ns t h) (its_done s ns t (sound_facts s a.first) (sound_facts t a.second) a.fourth)

pub thinning_holds : ThinningHolds
thinning_holds =
    record {
      whole = λ l. files_entries (entries_of l);
      all = λ fs. thinned_all 0 fs;
      none = λ fs. thinned_nothing 0 fs;
      order = in_order;
      done = done;
      left = image_left;
    }
