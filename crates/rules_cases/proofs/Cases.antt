-- The cases are computed, most of them as `Numbering` of `rules_moves` runs them: every definition that they meet unfolds, and both sides are one term. Assumes
-- nothing.
use mathlib.Core.List.{[], ◌∷◌}
use mathlib.Core.Path.{refl, ◌∙◌}
use Rattle.xdr.specs.Choose.{choose, all_of, least}
use Rattle.xdr.specs.Xdr.{be32, be32s, word, be64, hyper, overlay, same_bytes}
use Rattle.xdr_opaque.specs.Opaque.{all_zero, opaque_at}
use Rattle.xdr_opaque.specs.Put.{opaque}
use Rattle.tape_image.specs.Image.{entry_bytes, header_ok, table_ok, is_sound, faulty, with_entry}
use Rattle.tape_image.specs.Place.{marks_before, records_since}
use Rattle.tape_spacing.specs.Spacing.{ahead_of, passes, position_after, left_after, stops, walk, spacing}
use Rattle.tape_writing.specs.Writing.{kept, room_for, written, fill_to}
use Rattle.tape_ops.specs.Operations.{mtio_step, standing_at}
use Rattle.wire_pairs.specs.Pairs.{text_in, behind, pairs_from, separator_name, separator, is_named, with_separator, texts_of}
use Rattle.wire_pairs.specs.Store.{pair_words, pair_texts, store_bytes, storing, text_bytes, fits, emptied, laid_from, is_laid, kept_from, kept_pairs, environment_of}
use Rattle.wire_frame.specs.Frame.{well_framed, record_bytes}
use Rattle.wire_frame.specs.Messages.{look, row_of}
use Rattle.wire_layouts.specs.Layout as layout
use Rattle.wire_layouts.specs.Scans.{put, puts, summed, scanned}
use Rattle.wire_layouts.specs.AddressLists.{is_tcp, lendable}
use Rattle.wire_requests.specs.Bodies.{decoded, connect_body, config_body, tape_body, data_body, mover_body, joint_body}
use Rattle.wire_replies.specs.Replies.{opaques, body_bytes, address_words, shape_of, header_error, reply_bytes, notice_number, notice_words, notice_bytes}
use Rattle.rules.specs.Answer.{guarded, room_of, noticed, outcome, needs_login, is_locked, verdict, is_unread, refusing, settled, is_close, judged, requested, answered}
use Rattle.rules.specs.Calls.{opening}
use Rattle.rules.specs.Connection.{connect_open, connect_step, config_step}
use Rattle.rules.specs.Addresses.{listening, unmet}
use Rattle.rules.specs.DataService.{dump, data_listen, data_start, data_state, has_run, data_environment, data_stop, data_step, variables_after, data_shown}
use Rattle.rules.specs.Joint.{data_awaits, mover_awaits, data_connect, mover_connect, at_rest, data_aborted, data_abort, mover_aborted, mover_abort, mover_closed, mover_close, joint_step}
use Rattle.rules.specs.Judge.{judge, onto}
use Rattle.rules.specs.MoverService.{record_number, mover_state, offset_wrong, mover_listen, mover_continue, mover_stop, busy, elsewhere}
use Rattle.rules.specs.MoverService.{set_window, mover_read, set_size, mover_step}
use Rattle.rules_parts.specs.Parts.{window_end, is_past_top, length_wrong, told_in, data_joined, mover_joined, data_partnered, mover_partnered, address_wrong, holds_tape, unwritable}
use Rattle.rules.specs.Relation.{data_wrong, numbers_wrong, window_wrong, start_wrong, hold_wrong, strays, resume_wrong, place_wrong}
use Rattle.rules.specs.Relation.{origin_wrong, mover_wrong, same_flag, drive_wrong, slots_wrong, keeps}
use Rattle.changer_elements.specs.Slots.{named, is_again, some_again, names_none_twice}
use Rattle.tape_ops.specs.Answers.{is_refusal}
use Rattle.rules.specs.TapeService.{tape0, tape_open, protects, after_mtio, tape_state, tape_mtio, device_step, tape_step, mover_part_step}
use Rattle.rules_moves.specs.Cases.{words_bytes, wire, wide, run_line, run_case, kept_after, no_variables, known_session, begins, notices, expect, streamed}
use Rattle.rules_moves.specs.FirstSize.{unsized}
use Rattle.rules_moves.proofs.Numbering.{on_number, run_numbered, run_numbered_lem, all_numbered_lem}
use Rattle.rules_moves.specs.Events.{moved_to_tape, moved_from_tape, method_ended, connection_made, connection_lost}
use Rattle.rules_cases.specs.Examples.{blank, cases, ExamplesHold}
use Rattle.rules_cases.specs.FirstSizeCases.{no_size_set, size_stays, unsized_lines, FirstSizeCasesHold}
use Rattle.rules_cases.specs.EndlessCases.{endless_cases, EndlessCasesHold}
use Rattle.rules_cases.specs.EnvironmentCases.{environment_cases, lent_first, rubbish, rubbish_lines, EnvironmentCasesHold}
use Rattle.rules_moves.specs.Moves.{idle, stream_ends, scant, window_used, filling, to_tape, outside, seek_from, amount, reading, on_found, seeking, from_tape, method_end, fed_with, halts_with, at_tcp, made_at, lost_at}

pub cases_hold : ExamplesHold × FirstSizeCasesHold × EndlessCasesHold × EnvironmentCasesHold
unfolding
    choose all_of be32 be32s word be64 hyper overlay same_bytes all_zero opaque_at opaque
    entry_bytes header_ok table_ok is_sound faulty marks_before records_since ahead_of passes position_after left_after stops walk spacing
    kept room_for with_entry written fill_to least mtio_step standing_at well_framed record_bytes look row_of layout.piece_of layout.part_at layout.prepend
    layout.and_part layout.and_got layout.parts_at layout.times_at layout.single layout.counted layout.items_of layout.element_at layout.field_at layout.and_value layout.and_read
    layout.read_fields put puts summed scanned decoded connect_body tape_body data_body mover_body joint_body opaques body_bytes shape_of header_error
    reply_bytes notice_number notice_words notice_bytes guarded noticed outcome needs_login is_locked verdict is_unread refusing settled
    is_close judged requested answered opening connect_open connect_step dump data_start data_state data_stop
    data_step data_connect mover_close joint_step judge onto record_number mover_state offset_wrong mover_listen mover_continue mover_stop
    busy elsewhere set_window mover_read set_size mover_step window_end is_past_top length_wrong told_in data_joined mover_joined holds_tape unwritable data_wrong
    numbers_wrong window_wrong start_wrong hold_wrong strays resume_wrong place_wrong origin_wrong mover_wrong same_flag drive_wrong slots_wrong named is_again some_again names_none_twice keeps tape0
    tape_open is_refusal protects after_mtio tape_state tape_mtio device_step tape_step mover_part_step moved_to_tape moved_from_tape method_ended words_bytes
    wire wide run_line run_case notices expect streamed idle stream_ends scant window_used filling to_tape outside seek_from amount reading on_found
    seeking from_tape method_end mover_connect at_rest data_aborted data_abort mover_aborted mover_abort mover_closed data_awaits mover_awaits data_listen
    address_wrong data_partnered mover_partnered listening unmet is_tcp lendable address_words config_body config_step fed_with halts_with at_tcp made_at lost_at
    connection_made connection_lost
    room_of variables_after data_shown has_run data_environment text_in behind pairs_from separator_name separator is_named with_separator texts_of
    pair_words pair_texts store_bytes storing text_bytes fits emptied laid_from is_laid kept_from kept_pairs environment_of kept_after on_number run_numbered
cases_hold = (
  all_numbered_lem cases ∙ refl,
  record {
    fresh = all_numbered_lem (no_size_set ∷ size_stays ∷ []) ∙ refl;
    handed_in = run_numbered_lem (begins (unsized known_session) blank no_variables []) unsized_lines ∙ refl;
  },
  record { cases = all_numbered_lem endless_cases ∙ refl; legal = (refl, refl); record_more = refl; empty_part_lem = refl; short_part_lem = refl; stream_over_lem = refl },
  record {
    cases = all_numbered_lem environment_cases ∙ refl;
    before_auth = refl;
    lent_rubbish = run_numbered_lem (lent_first rubbish) rubbish_lines ∙ refl;
    lent_a_pair = refl;
    kept = refl;
    emptied = refl;
  },
)
