-- Each case is computed: the definitions unfold, and both sides are one term. Assumes nothing.
use mathlib.Core.Path.{refl}
use Rattle.xdr.specs.Choose.{choose, all_of}
use Rattle.xdr.specs.Xdr.{be32, be32s, word, overlay}
use Rattle.tape_image.specs.Image.{entry_bytes, header_ok, table_ok, is_sound, with_entry}
use Rattle.tape_writing.specs.Writing.{kept, written}
use Rattle.tape_files.specs.Files.{entries_from, grown, files_in, ending, entries_in, is_next, kept_if, thinned, bytes_in}
use Rattle.tape_files.specs.Thinning.{emptied, laid, are_named, have_room, thin_code, thin_image}
use Rattle.tape_files.specs.Cases.{FileCases, AcceptedCases, RefusedCases, ThinCases}

files : FileCases
unfolding be32 be32s word entry_bytes entries_from grown files_in
files = record { of_three = refl; of_none = refl; of_full = refl }

accepted : AcceptedCases
unfolding choose all_of be32 be32s word overlay entry_bytes header_ok table_ok is_sound with_entry kept written entries_from grown files_in ending entries_in is_next kept_if thinned bytes_in emptied laid are_named have_room thin_code thin_image
accepted = record { first = refl; middle = refl; last = refl; two = refl; all = refl; none = refl; none_of_none = refl }

refused : RefusedCases
unfolding choose all_of be32 be32s word overlay entry_bytes header_ok table_ok is_sound with_entry kept written entries_from grown files_in ending entries_in is_next kept_if thinned bytes_in emptied laid are_named have_room thin_code thin_image
refused =
    record {
      source_short = refl;
      second_short = refl;
      unsound_first = refl;
      repeated = refl;
      falling = refl;
      unknown = refl;
      unknown_largest = refl;
      unknown_of_none = refl;
      unknown_and_no_room = refl;
      a_byte_too_much = refl;
      an_entry_too_much = refl;
      no_room_leaves = refl;
    }

pub cases_hold : ThinCases
cases_hold = record { files = files; accepted = accepted; refused = refused }
