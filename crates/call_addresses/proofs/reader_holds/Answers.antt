use mathlib.Core.Path.{refl}
use Rattle.xdr.specs.Choose.{choose, all_of}
use Rattle.xdr.specs.Xdr.{word}
use Rattle.xdr_opaque.specs.Opaque.{all_zero, opaque_at}
use Rattle.wire_frame.specs.Frame.{well_framed, framed}
use Rattle.wire_frame.specs.Messages.{look, row_of}
use Rattle.wire_layouts.specs.Layout.{piece_of, part_at, prepend, and_part, and_got, parts_at, times_at, counted, items_of, element_at, field_at, and_value, and_read, read_fields}
use Rattle.wire_layouts.specs.Scans.{put, puts, summed, scanned, field_seen}
use Rattle.wire_layouts.specs.AddressLists.{keep, count_seen, and_address, addresses_from, listed, addresses_at, is_tcp}
use Rattle.wire_requests.specs.Bodies.{data_body, joint_body, decoded}
use Rattle.call_addresses.specs.Reading.{by_type, of_joint, of_request, of_frame, addresses_in}
use Rattle.call_addresses.proofs.Reading as law
use Rattle.call_addresses.proofs.reader_holds.Goals as goal

-- By the laws of Reading; the two records are read by computing.
pub returns : goal.returns
unfolding
    choose all_of word all_zero opaque_at well_framed framed look row_of piece_of part_at prepend and_part and_got parts_at times_at counted items_of
    element_at field_at and_value and_read read_fields put puts summed scanned field_seen keep count_seen and_address addresses_from listed addresses_at is_tcp
    data_body joint_body decoded by_type of_joint of_request of_frame addresses_in
returns c = record {
  data_connect_lem = law.data_connect_lem;
  mover_connect_lem = law.mover_connect_lem;
  not_framed = law.not_framed;
  no_request = law.no_request;
  no_connect = law.no_connect;
  two = refl;
  listen = refl;
}
