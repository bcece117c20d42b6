-- The laws of files and of chosen entries: both ways of choosing are one. Assumes nothing.
use Prim.Native.Nat.{ℕ, zero, suc, ◌+◌, ◌-◌, ◌≤◌}
use mathlib.Core.Bool.{Bool, true, false}
use mathlib.Core.List.{List, [], ◌∷◌, ◌++◌}
use mathlib.Core.Path.{◌≡◌, refl, sym, ap, ◌∙◌}
use native.Mathlib.Omega.{arith}
use native.Mathlib.Nat.{add-zero}
use lib.Dec.{eqb}
use lib.ListN.{length, drop}
use borrow.Author.Tests.{eq-eqb, ne_eqb}
use Rattle.codes.specs.Codes.{longest_record}
use Rattle.xdr.specs.Choose.{choose}
use Rattle.tape_files.specs.Files.{File, grown, files_in, ending, entries_in, is_next, kept_if, thinned, mark_of, chosen, file_count, bytes_in}
use Rattle.tape_files.specs.Holds.{numbers_from}

-- ---- entries that are kept or not
pub kept_length : {A : Type 0} (b : Bool) (x : A) (xs : List A) → length (kept_if b x xs) ≡ choose b 1 0 + length xs
unfolding kept_if choose
kept_length true x xs = omega arith
kept_length false x xs = omega arith

pub kept_bytes : (b : Bool) (e : List ℕ) (es : List (List ℕ)) → bytes_in (kept_if b e es) ≡ choose b (length e) 0 + bytes_in es
unfolding kept_if choose bytes_in
kept_bytes true e es = refl
kept_bytes false e es = omega arith

pub same_choice : {A : Type 0} (b : Bool) (x : A) → choose b x x ≡ x
unfolding choose
same_choice true x = refl
same_choice false x = refl

-- every entry is as short as a record may be
abbrev pub Short : List (List ℕ) → Type 0
Short [] = Unit
Short (e ∷ es) = (length e ≤ longest_record) × Short es

short_kept : (b : Bool) (e : List ℕ) (es : List (List ℕ)) → length e ≤ longest_record → Short es → Short (kept_if b e es)
unfolding kept_if
short_kept true e es h s = (h, s)
short_kept false e es h s = s

pub short_chosen : (i : ℕ) (ns : List ℕ) (es : List (List ℕ)) → Short es → Short (chosen i ns es)
unfolding chosen
short_chosen i ns [] s = tt
short_chosen i ns (e ∷ es) s =
    short_kept (is_next i ns) e _ s.0 (short_chosen (i + mark_of e) (drop (choose (is_next i ns) (mark_of e) 0) ns) es s.1)

-- ---- a record before some files
pub entries_grown : (b : List ℕ) (fs : List File) → entries_in (grown b fs) ≡ b ∷ entries_in fs
unfolding entries_in grown ending
entries_grown b [] = refl
entries_grown b (f ∷ fs) = refl

-- whether its file is named decides on the record alone
thinned_none : (b : Bool) (f : File) (r : List ℕ) → f ≡ record { records = r ∷ []; marked = false }
    → kept_if b f [] ≡ choose b (grown r []) []
unfolding kept_if choose grown
thinned_none true f r e = ap (λ (g : File). g ∷ []) e
thinned_none false f r e = refl

thinned_some : (b : Bool) (r : List ℕ) (g : File) (fs : List File)
    → kept_if b (record { records = r ∷ g.records; marked = g.marked }) fs ≡ choose b (grown r (kept_if b g fs)) (kept_if b g fs)
unfolding kept_if choose grown
thinned_some true r g fs = refl
thinned_some false r g fs = refl

pub thinned_grown : (i : ℕ) (ns : List ℕ) (r : List ℕ) (fs : List File)
    → thinned i ns (grown r fs) ≡ choose (is_next i ns) (grown r (thinned i ns fs)) (thinned i ns fs)
unfolding thinned grown
thinned_grown i ns r [] = thinned_none (is_next i ns) _ r refl
thinned_grown i ns r (g ∷ gs) = thinned_some (is_next i ns) r g _

-- ---- chosen entries are those of the named files
-- an entry that is a record goes on with the same file
pub chosen_record : (i : ℕ) (ns : List ℕ) (x : ℕ) (xs : List ℕ) (es : List (List ℕ))
    → chosen i ns ((x ∷ xs) ∷ es) ≡ kept_if (is_next i ns) (x ∷ xs) (chosen i ns es)
unfolding chosen mark_of
chosen_record i ns x xs es = rw (same_choice {A = ℕ} (is_next i ns) 0, add-zero i)

entries_choice : (b : Bool) (r : List ℕ) (fs : List File) → entries_in (choose b (grown r fs) fs) ≡ kept_if b r (entries_in fs)
unfolding choose kept_if
entries_choice true r fs = entries_grown r fs
entries_choice false r fs = refl

entries_mark : (b : Bool) (fs : List File) → entries_in (kept_if b (record { records = []; marked = true }) fs) ≡ kept_if b [] (entries_in fs)
unfolding kept_if entries_in ending
entries_mark true fs = refl
entries_mark false fs = refl

chosen_mark : (i : ℕ) (ns : List ℕ) (es : List (List ℕ))
    → chosen i ns ([] ∷ es) ≡ kept_if (is_next i ns) [] (chosen (i + 1) (drop (choose (is_next i ns) 1 0) ns) es)
unfolding chosen mark_of
chosen_mark i ns es = refl

thinned_first : (i : ℕ) (ns : List ℕ) (f : File) (fs : List File)
    → thinned i ns (f ∷ fs) ≡ kept_if (is_next i ns) f (thinned (i + 1) (drop (choose (is_next i ns) 1 0) ns) fs)
unfolding thinned
thinned_first i ns f fs = refl

chosen_none : (i : ℕ) (ns : List ℕ) → entries_in (thinned i ns []) ≡ chosen i ns []
unfolding thinned entries_in chosen
chosen_none i ns = refl

pub thinned_entries : (i : ℕ) (ns : List ℕ) (es : List (List ℕ)) → entries_in (thinned i ns (files_in es)) ≡ chosen i ns es
unfolding files_in
thinned_entries i ns [] = chosen_none i ns
thinned_entries i ns ([] ∷ es) =
    ap entries_in (thinned_first i ns (record { records = []; marked = true }) (files_in es))
    ∙ entries_mark (is_next i ns) (thinned (i + 1) (drop (choose (is_next i ns) 1 0) ns) (files_in es))
    ∙ ap (kept_if (is_next i ns) []) (thinned_entries (i + 1) (drop (choose (is_next i ns) 1 0) ns) es)
    ∙ sym (chosen_mark i ns es)
thinned_entries i ns ((x ∷ xs) ∷ es) =
    ap entries_in (thinned_grown i ns (x ∷ xs) (files_in es))
    ∙ entries_choice (is_next i ns) (x ∷ xs) (thinned i ns (files_in es))
    ∙ ap (kept_if (is_next i ns) (x ∷ xs)) (thinned_entries i ns es)
    ∙ sym (chosen_record i ns x xs es)

-- ---- and their files are the named ones
files_mark : (b : Bool) (es : List (List ℕ)) → files_in (kept_if b [] es) ≡ kept_if b (record { records = []; marked = true }) (files_in es)
unfolding kept_if files_in
files_mark true es = refl
files_mark false es = refl

files_record : (b : Bool) (x : ℕ) (xs : List ℕ) (es : List (List ℕ)) → files_in (kept_if b (x ∷ xs) es) ≡ choose b (grown (x ∷ xs) (files_in es)) (files_in es)
unfolding kept_if files_in choose
files_record true x xs es = refl
files_record false x xs es = refl

files_none : (i : ℕ) (ns : List ℕ) → files_in (chosen i ns []) ≡ thinned i ns []
unfolding thinned files_in chosen
files_none i ns = refl

pub chosen_files : (i : ℕ) (ns : List ℕ) (es : List (List ℕ)) → files_in (chosen i ns es) ≡ thinned i ns (files_in es)
unfolding files_in
chosen_files i ns [] = files_none i ns
chosen_files i ns ([] ∷ es) =
    ap files_in (chosen_mark i ns es)
    ∙ files_mark (is_next i ns) (chosen (i + 1) (drop (choose (is_next i ns) 1 0) ns) es)
    ∙ ap (kept_if (is_next i ns) (record { records = []; marked = true })) (chosen_files (i + 1) (drop (choose (is_next i ns) 1 0) ns) es)
    ∙ sym (thinned_first i ns (record { records = []; marked = true }) (files_in es))
chosen_files i ns ((x ∷ xs) ∷ es) =
    ap files_in (chosen_record i ns x xs es)
    ∙ files_record (is_next i ns) x xs (chosen i ns es)
    ∙ ap (λ (fs : List File). choose (is_next i ns) (grown (x ∷ xs) fs) fs) (chosen_files i ns es)
    ∙ sym (thinned_grown i ns (x ∷ xs) (files_in es))

no_entries : entries_in [] ≡ []
unfolding entries_in
no_entries = refl

mark_entry : (fs : List File) → entries_in (record { records = []; marked = true } ∷ fs) ≡ [] ∷ entries_in fs
unfolding entries_in ending
mark_entry fs = refl

-- no entry is lost
pub files_entries : (es : List (List ℕ)) → entries_in (files_in es) ≡ es
unfolding files_in
files_entries [] = no_entries
files_entries ([] ∷ es) = mark_entry (files_in es) ∙ ap (λ (t : List (List ℕ)). [] ∷ t) (files_entries es)
files_entries ((x ∷ xs) ∷ es) = entries_grown (x ∷ xs) (files_in es) ∙ ap (λ (t : List (List ℕ)). (x ∷ xs) ∷ t) (files_entries es)

-- ---- all files, and none
next_first : (i : ℕ) (ns : List ℕ) → is_next i (i ∷ ns) ≡ true
unfolding is_next
next_first i ns = eq-eqb i i refl

take_first : (b : Bool) (i : ℕ) (ns : List ℕ) (f : File) (fs : List File) → b ≡ true
    → kept_if b f (thinned (i + 1) (drop (choose b 1 0) (i ∷ ns)) fs) ≡ f ∷ thinned (i + 1) ns fs
unfolding kept_if choose
take_first b i ns f fs h = rw h

thin_none : (i : ℕ) (ns : List ℕ) → thinned i ns [] ≡ []
unfolding thinned
thin_none i ns = refl

all_of_none : (i : ℕ) → thinned i [] [] ≡ []
all_of_none i = thin_none i []

pub thinned_all : (i : ℕ) (fs : List File) → thinned i (numbers_from i (length fs)) fs ≡ fs
unfolding numbers_from
thinned_all i [] = all_of_none i
thinned_all i (f ∷ fs) =
    thinned_first i (i ∷ numbers_from (i + 1) (length fs)) f fs
    ∙ take_first (is_next i (i ∷ numbers_from (i + 1) (length fs))) i (numbers_from (i + 1) (length fs)) f fs (next_first i _)
    ∙ ap (λ (t : List File). f ∷ t) (thinned_all (i + 1) fs)

skip_first : (i : ℕ) (f : File) (fs : List File) → thinned i [] (f ∷ fs) ≡ thinned (i + 1) [] fs
unfolding thinned is_next kept_if choose
skip_first i f fs = refl

pub thinned_nothing : (i : ℕ) (fs : List File) → thinned i [] fs ≡ []
thinned_nothing i [] = thin_none i []
thinned_nothing i (f ∷ fs) = skip_first i f fs ∙ thinned_nothing (i + 1) fs

-- ---- how many files there are
grown_twice : (a b : List ℕ) (fs : List File) → length (grown a (grown b fs)) ≡ length (grown b fs)
unfolding grown
grown_twice a b [] = refl
grown_twice a b (f ∷ fs) = refl

record Counted (es : List (List ℕ)) : Type 0 where
  files : length (files_in es) ≡ file_count 0 es
  begun : (b : List ℕ) → length (grown b (files_in es)) ≡ file_count 1 es

count_none : Counted []
unfolding files_in file_count grown
count_none = record { files = refl; begun = λ b. refl }

count_mark : (es : List (List ℕ)) → Counted es → Counted ([] ∷ es)
unfolding files_in file_count mark_of grown
count_mark es h =
    let f = h.files in
    record { files = omega arith; begun = λ b. omega arith }

count_record : (x : ℕ) (xs : List ℕ) (es : List (List ℕ)) → Counted es → Counted ((x ∷ xs) ∷ es)
unfolding files_in file_count mark_of
count_record x xs es h =
    let g = h.begun (x ∷ xs) in
    record { files = omega arith; begun = λ b. let t = grown_twice b (x ∷ xs) (files_in es) in omega arith }

counted : (es : List (List ℕ)) → Counted es
counted [] = count_none
counted ([] ∷ es) = count_mark es (counted es)
counted ((x ∷ xs) ∷ es) = count_record x xs es (counted es)

pub files_count : (es : List (List ℕ)) → length (files_in es) ≡ file_count 0 es
files_count es = (counted es).files

-- ---- as the code goes
pub mark_is : (e : List ℕ) → mark_of e ≡ choose (eqb (length e) 0) 1 0
unfolding mark_of choose
mark_is [] = refl
mark_is (x ∷ xs) = rw (ne_eqb (suc (length xs)) 0 (λ h. omega arith))

pub chosen_first : (i : ℕ) (ns : List ℕ) (e : List ℕ) (es : List (List ℕ))
    → chosen i ns (e ∷ es) ≡ kept_if (is_next i ns) e (chosen (i + mark_of e) (drop (choose (is_next i ns) (mark_of e) 0) ns) es)
unfolding chosen
chosen_first i ns e es = refl

pub chosen_end : (i : ℕ) (ns : List ℕ) → chosen i ns [] ≡ []
unfolding chosen
chosen_end i ns = refl

pub count_first : (begun : ℕ) (e : List ℕ) (es : List (List ℕ)) → file_count begun (e ∷ es) ≡ mark_of e + file_count (1 - mark_of e) es
unfolding file_count
count_first begun e es = refl

pub count_end : (begun : ℕ) → file_count begun [] ≡ begun
unfolding file_count
count_end begun = refl

pub bytes_end : bytes_in [] ≡ 0
unfolding bytes_in
bytes_end = refl
