use mathlib.Core.Path.{refl}
use Rattle.xdr.specs.Choose.{choose}
use Rattle.xdr.specs.Xdr.{word, hyper}
use Rattle.xdr_opaque.specs.Opaque.{all_zero, opaque_at}
use Rattle.wire_pairs.specs.Pairs.{text_in, behind, pairs_from}
use Rattle.wire_layouts.specs.Layout.{piece_of, part_at, prepend, and_part, and_got, parts_at, times_at, single, counted, items_of, element_at, field_at, and_value, and_read, read_fields}
use Rattle.wire_layouts.specs.Scans.{put, puts, summed, scanned}
use Rattle.wire_layouts.specs.AddressLists.{is_tcp}
use Rattle.wire_requests.specs.Bodies.{connect_body, config_body, scsi_body, tape_body, data_body, mover_body, joint_body, decoded}
use Rattle.wire_requests.specs.Rows.{addresses_of}
use Rattle.wire_requests.proofs.rows_hold.Goals as goal

-- Each body is read by computing: the definitions that it meets unfold, and both sides are one term.
pub returns : goal.returns
unfolding
    choose word hyper all_zero opaque_at piece_of part_at prepend and_part and_got parts_at times_at single counted items_of element_at field_at and_value and_read read_fields
    put puts summed scanned is_tcp connect_body config_body scsi_body tape_body data_body mover_body joint_body decoded addresses_of text_in behind pairs_from
returns c = record { decodes = refl; refuses = refl; of_backup = refl; of_recover = refl }
