-- What the functions of this crate give, and when they may be called.
use Rattle.std.specs.Prelude.{ℕ, ◌+◌, ◌<◌, Bool, false, List, Result, Ok, Err, ◌≡◌, eqb, leb, length, drop}
use Rattle.codes.specs.Errors.{number_of}
use Rattle.codes.specs.declared.NdmpError.{NdmpError}
use Rattle.xdr.specs.Choose.{choose}
use Rattle.tape_image.specs.Image.{capacity, count, body_len, entry_bytes}
use Rattle.tape_image.specs.Sound.{Sound, Placed}
use Rattle.tape_writing.specs.Writing.{Room}
use Rattle.tape_files.specs.Files.{files_of, is_next, bytes_in}
use Rattle.tape_files.specs.Thinning.{are_named, named_entries, thin_code, thin_image}
use Rattle.tape_thinning.specs.declared.Survey.{Survey}
use Rattle.tape_thinning.specs.declared.Walk.{Walk}

-- a walk past an entry of some length, which is in a file that is named, or is not
abbrev pub after : Walk → Bool → ℕ → Walk
after w named len = record { file = w.file + choose (eqb len 0) 1 0; next = w.next + choose named (choose (eqb len 0) 1 0) 0 }

-- whether the number at an index names a file, and whether the numbers from an index on are named
unfoldable pub next_at : List ℕ → ℕ → ℕ → Bool
next_at ns at file = is_next file (drop at ns)

unfoldable pub named_at : List ℕ → ℕ → ℕ → ℕ → Bool
named_at ns at from files = are_named from files (drop at ns)

-- one judging walk over the source: how many files it has, and what the named ones take
pub record Surveyed (source ns : List ℕ) (r : Survey) : Type 0 where
  pub files : r.files ≡ length (files_of source)
  pub entries : r.entries ≡ length (named_entries source ns)
  pub bytes : r.bytes ≡ bytes_in (named_entries source ns)

-- an image without entries has room for so many entries and bytes
unfoldable pub room_of : List ℕ → ℕ → ℕ → Bool
room_of l entries bytes = choose (leb entries (capacity l)) (leb bytes (body_len l)) false

-- entry i of a source may go to position p of an image
pub record Copyable (source : List ℕ) (i : ℕ) (l : List ℕ) (p : ℕ) : Type 0 where
  pub ok : Sound source
  pub entry : i < count source
  pub here : Placed l p
  pub room : Room l p (length (entry_bytes source i))

-- what `thin` gives, by its number, and leaves
pub record Thinned (source ns second : List ℕ) (r : ℕ) (result : List ℕ) : Type 0 where
  pub code : r ≡ thin_code source ns second
  pub image : result ≡ thin_image source ns second

-- the same: 0 is `Ok`, and a refusal leaves the second image
abbrev pub ThinGave : List ℕ → List ℕ → List ℕ → Result (Unit {0}) NdmpError → List ℕ → Type 0
ThinGave source ns second (Ok _) result = Thinned source ns second 0 result
ThinGave source ns second (Err e) result = Thinned source ns second (number_of e) result × (result ≡ second)
