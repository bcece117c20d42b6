-- An entry of a cartridge, as a program that lists it asks for it: 15 for an image that is not sound, 13 past the last of its n entries.
use Rattle.std.specs.Prelude.{ℕ, List, ltb}
use Rattle.codes.specs.Codes.{at_end_code, bad_file}
use Rattle.xdr.specs.Choose.{choose}
use Rattle.tape_image.specs.Image.{is_sound, count, entry_len, entry_start}
use Rattle.tape_calls.specs.declared.Entry.{Entry}

abbrev pub entry : ℕ → ℕ → ℕ → Entry
entry error len start = record { error = error; len = len; start = start }

unfoldable pub entry_told : List ℕ → ℕ → Entry
entry_told l i =
    choose (is_sound l)
    (choose (ltb i (count l)) (entry 0 (entry_len l i) (entry_start l i)) (entry at_end_code 0 0))
    (entry bad_file 0 0)
