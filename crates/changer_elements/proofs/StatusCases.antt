-- Each case is computed: the definitions unfold, and both sides are one term. Assumes nothing.
use mathlib.Core.Path.{refl}
use Rattle.xdr.specs.Choose.{choose, least}
use Rattle.changer_elements.specs.Elements.{has_place, place_of, is_full, half}
use Rattle.changer_elements.specs.Status.{type_of, allocation, asked_by, read_status, is_asked, those, reported, be16, be24, flags_of, descriptor}
use Rattle.changer_elements.specs.Status.{descriptors, is_type, of_type, page_of, pages, first_of, status_of, status_data}
use Rattle.changer_elements.specs.StatusCases.{CdbCases, ReportedCases, BytesCases, StatusCases}

cdbs : CdbCases
unfolding choose least half allocation asked_by read_status
cdbs =
    record {
      one_byte = refl;
      eleven = refl;
      twelve = refl;
      sixteen = refl;
      wide = refl;
      largest = refl;
      flags = refl;
      by_room = refl;
      no_room = refl;
      no_allocation = refl;
    }

which : ReportedCases
unfolding choose type_of is_asked those reported
which =
    record {
      all = refl;
      from_drive = refl;
      from_two = refl;
      from_first_slot = refl;
      from_twenty = refl;
      from_last = refl;
      from_beyond = refl;
      from_highest = refl;
      none = refl;
      one = refl;
      two = refl;
      two_of_drive = refl;
      two_of_slots = refl;
      nine = refl;
      transports = refl;
      transports_behind = refl;
      drives = refl;
      drives_at = refl;
      drives_behind = refl;
      storage = refl;
      storage_two = refl;
      storage_from = refl;
      storage_none = refl;
      import_export = refl;
      five = refl;
      eight = refl;
      fifteen = refl;
    }

bytes : BytesCases
unfolding choose least has_place place_of is_full type_of is_asked those reported be16 be24 flags_of descriptor descriptors is_type of_type page_of pages first_of status_of status_data
bytes =
    record {
      all = refl;
      all_long = refl;
      none = refl;
      unknown = refl;
      beyond = refl;
      transports = refl;
      full_drive = refl;
      empty_drive = refl;
      from_two = refl;
      two_pages = refl;
      last_slot = refl;
      cut_none = refl;
      cut_one = refl;
      cut_in_header = refl;
      cut_header = refl;
      cut_in_page = refl;
      cut_in_told = refl;
      cut_last = refl;
      cut_at_end = refl;
    }

pub cases_hold : StatusCases
cases_hold = record { cdbs = cdbs; which = which; bytes = bytes }
