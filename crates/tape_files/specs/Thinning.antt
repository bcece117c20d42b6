-- Thinning out a cartridge (paper 02, No. 13): what it gives, and every byte of the second image.
use Rattle.std.specs.Prelude.{ℕ, zero, suc, ◌+◌, ◌-◌, Bool, true, false, not, List, [], ◌∷◌, ◌≡◌, leb, ltb, eqb, length}
use Rattle.codes.specs.Codes.{illegal_arguments, at_end_code, bad_file}
use Rattle.xdr.specs.Choose.{choose, all_of}
use Rattle.xdr.specs.Xdr.{be32s, overlay}
use Rattle.tape_image.specs.Image.{header_len, capacity, body_len, is_sound}
use Rattle.tape_writing.specs.Writing.{written}
use Rattle.tape_files.specs.Files.{entries_in, files_of, thinned, bytes_in}

-- the image without entries: n and used, the last two words of the header, are 0. "bytes past the new ends stay"
unfoldable pub emptied : List ℕ → List ℕ
emptied l = overlay (header_len - 8) (be32s (0 ∷ 0 ∷ [])) l

-- the image with entries written from position p on, one after the other; a mark is an entry of no bytes
unfoldable pub laid : List ℕ → ℕ → List (List ℕ) → List ℕ
laid l p [] = l
laid l p (e ∷ es) = laid (written l p e) (p + 1) es

-- "file numbers from 0, rising": each is at least `from` and names one of the files
unfoldable pub are_named : ℕ → ℕ → List ℕ → Bool
are_named from files [] = true
are_named from files (n ∷ ns) = choose (leb from n) (choose (ltb n files) (are_named (n + 1) files ns) false) false

-- "13 no room": entries with their marks against C, bytes against B; "its old entries are replaced", and do not count
unfoldable pub have_room : List ℕ → List (List ℕ) → Bool
have_room l es = choose (leb (length es) (capacity l)) (leb (bytes_in es) (body_len l)) false

-- the entries of the named files
abbrev pub named_entries : List ℕ → List ℕ → List (List ℕ)
named_entries source ns = entries_in (thinned 0 ns (files_of source))

-- "Refusals: 15 either image unsound, 9 a number repeated, unknown or out of order, 13 no room, in that order"
unfoldable pub thin_code : List ℕ → List ℕ → List ℕ → ℕ
thin_code source ns second =
    choose (not (is_sound source)) bad_file
    (choose (not (is_sound second)) bad_file
    (choose (not (are_named 0 (length (files_of source)) ns)) illegal_arguments
    (choose (not (have_room second (named_entries source ns))) at_end_code
    0)))

-- "and then the second image is as it was"
unfoldable pub thin_image : List ℕ → List ℕ → List ℕ → List ℕ
thin_image source ns second =
    choose (eqb (thin_code source ns second) 0) (laid (emptied second) 0 (named_entries source ns)) second
