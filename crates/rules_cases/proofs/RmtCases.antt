-- The cases of commands are computed, as those of `Cases` are: every definition that they meet unfolds, and both sides are one term. Assumes nothing.
use mathlib.Core.Path.{refl}
use Rattle.xdr.specs.Choose.{choose, all_of, least}
use Rattle.xdr.specs.Xdr.{be32, be32s, word, be64, hyper, overlay, same_bytes}
use Rattle.xdr_opaque.specs.Opaque.{all_zero, opaque_at}
use Rattle.xdr_opaque.specs.Put.{opaque}
use Rattle.changer_elements.specs.Slots.{named, is_again, some_again, names_none_twice}
use Rattle.tape_image.specs.Image.{entry_bytes, header_ok, table_ok, is_sound, faulty, with_entry}
use Rattle.tape_image.specs.Place.{marks_before, records_since}
use Rattle.tape_spacing.specs.Spacing.{ahead_of, passes, position_after, left_after, stops, walk, spacing}
use Rattle.tape_writing.specs.Writing.{kept, room_for, written, with_marks}
use Rattle.tape_ops.specs.Operations.{write_step, entry_part, read_part, mark_step, mtio_step, standing_at}
use Rattle.wire_frame.specs.Frame.{well_framed, record_bytes}
use Rattle.wire_frame.specs.Messages.{look, row_of}
use Rattle.wire_layouts.specs.Layout as layout
use Rattle.wire_layouts.specs.Scans.{put, puts, summed, scanned}
use Rattle.wire_layouts.specs.AddressLists.{is_tcp, lendable}
use Rattle.wire_requests.specs.Bodies.{decoded, connect_body, tape_body, mover_body}
use Rattle.wire_replies.specs.Replies.{opaques, body_bytes, address_words, shape_of, number_of, header_error, reply_bytes}
use Rattle.wire_rmt.specs.Numbers.{is_digit, ending, digits_on, number_at, last_digits, count_on, decimal}
use Rattle.wire_rmt.specs.Commands.{path_length, at_end, last_number, opened, open_behind, open_in, close_behind, close_in, reading, read_in, writing, write_in, operating, operation, operate_in, rmt_command, tape_mode, mtio_of}
use Rattle.wire_rmt.specs.Replies.{error_of, error_text, headed, accepted, refused}
use Rattle.rules_parts.specs.Parts.{window_end, is_past_top, length_wrong, data_joined, mover_joined, data_partnered, mover_partnered, address_wrong, holds_tape, unwritable}
use Rattle.rules.specs.Judge.{judge, onto}
use Rattle.rules.specs.Addresses.{listening}
use Rattle.rules.specs.Connection.{connect_open, connect_step}
use Rattle.rules.specs.MoverService.{offset_wrong, mover_listen, busy, elsewhere, set_window, set_size, mover_step}
use Rattle.tape_ops.specs.Answers.{is_refusal}
use Rattle.rules.specs.TapeService.{tape0, tape_open, tape_close, protects, after_mtio, tape_state, tape_mtio, tape_write, tape_read, device_step, tape_step, mover_part_step}
use Rattle.rules.specs.Relation.{data_wrong, numbers_wrong, window_wrong, start_wrong, hold_wrong, strays, resume_wrong, place_wrong}
use Rattle.rules.specs.Relation.{origin_wrong, mover_wrong, same_flag, drive_wrong, slots_wrong, keeps}
use Rattle.rules.specs.Answer.{guarded, room_of, noticed, outcome, needs_login, is_locked, verdict, is_unread, refusing, settled, is_close, judged, requested, answered}
use Rattle.rules.specs.Calls.{opening}
use Rattle.rules.specs.Rmt.{tape_request, rmt_request, told, counted_in, rmt_reply, replied, commanded}
use Rattle.rules_moves.specs.Cases.{words_bytes, wire, wide, run_line, expect, notices}
use Rattle.rules_cases.specs.RmtCases.{run_rmt, run_rmts, expect_rmts, RmtCasesHold}

pub rmt_cases_hold : RmtCasesHold
unfolding
    choose all_of least be32 be32s word be64 hyper overlay same_bytes all_zero opaque_at opaque named is_again some_again names_none_twice
    entry_bytes header_ok table_ok is_sound faulty with_entry marks_before records_since ahead_of passes position_after left_after stops walk spacing
    kept room_for written with_marks write_step entry_part read_part mark_step mtio_step standing_at
    well_framed record_bytes look row_of layout.piece_of layout.part_at layout.prepend layout.and_part layout.and_got layout.parts_at layout.times_at
    layout.single layout.counted layout.items_of layout.element_at layout.field_at layout.and_value layout.and_read layout.read_fields
    put puts summed scanned is_tcp lendable decoded connect_body tape_body mover_body opaques body_bytes address_words shape_of number_of header_error reply_bytes
    is_digit ending digits_on number_at last_digits count_on decimal path_length at_end last_number opened open_behind open_in close_behind close_in reading read_in writing write_in operating operation operate_in
    rmt_command tape_mode mtio_of error_of error_text headed accepted refused
    window_end is_past_top length_wrong data_joined mover_joined data_partnered mover_partnered address_wrong holds_tape unwritable
    judge onto listening connect_open connect_step offset_wrong mover_listen busy elsewhere set_window set_size mover_step
    tape0 tape_open tape_close is_refusal protects after_mtio tape_state tape_mtio tape_write tape_read device_step tape_step mover_part_step
    data_wrong numbers_wrong window_wrong start_wrong hold_wrong strays resume_wrong place_wrong origin_wrong mover_wrong same_flag drive_wrong slots_wrong keeps
    guarded room_of noticed outcome needs_login is_locked verdict is_unread refusing settled is_close judged requested answered opening
    tape_request rmt_request told counted_in rmt_reply replied commanded words_bytes wire wide run_line expect notices run_rmt run_rmts expect_rmts
rmt_cases_hold =
    record {
      wrote = refl;
      read_back = refl;
      closed = refl;
      refused = refl;
      reopened = refl;
      beside_records = refl;
      strangers = refl;
      first_request = refl;
      calls = record { short = refl; broken = refl; short_first = refl; over = refl; another_store = refl; empty_drive = refl };
    }
