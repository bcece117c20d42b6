-- The instance is computed: each premise is decided, and the definitions that it meets unfold. Assumes nothing.
use mathlib.Core.Path.{refl}
use native.Mathlib.Omega.{arith}
use lib.ListN.{length}
use Rattle.xdr.specs.Choose.{choose, all_of, least}
use Rattle.xdr.specs.Xdr.{be32, be32s, word, be64, hyper, overlay, same_bytes}
use Rattle.xdr_opaque.specs.Opaque.{all_zero, opaque_at}
use Rattle.xdr_opaque.specs.Put.{opaque}
use Rattle.tape_image.specs.Image.{header_ok, table_ok, is_sound, faulty, with_entry, entry_bytes}
use Rattle.tape_writing.specs.Writing.{kept, room_for, written, fill_to}
use Rattle.tape_ops.specs.Operations.{write_step, mtio_step}
use Rattle.wire_pairs.specs.Pairs.{text_in, behind, pairs_from}
use Rattle.wire_pairs.specs.Store.{pair_words, pair_texts, store_bytes, storing, text_bytes, fits, emptied}
use Rattle.wire_frame.specs.Frame.{well_framed, record_bytes}
use Rattle.wire_frame.specs.Messages.{look, row_of}
use Rattle.wire_layouts.specs.Layout as layout
use Rattle.wire_layouts.specs.Scans.{put, puts, summed, scanned}
use Rattle.wire_layouts.specs.AddressLists.{is_tcp}
use Rattle.wire_requests.specs.Bodies.{decoded, tape_body, data_body, mover_body, joint_body}
use Rattle.wire_replies.specs.Replies.{opaques, body_bytes, shape_of, header_error, reply_bytes}
use Rattle.rules.specs.Answer.{guarded, room_of, noticed, outcome, needs_login, is_locked, verdict, is_unread, refusing, settled, is_close, judged, requested, answered}
use Rattle.rules.specs.DataService.{dump, data_start, data_stop, data_step, variables_after, data_shown}
use Rattle.rules.specs.Addresses.{listening, unmet}
use Rattle.rules.specs.Joint.{mover_awaits, data_connect, joint_step}
use Rattle.rules.specs.Judge.{judge, onto, is_accepted}
use Rattle.rules.specs.MoverService.{offset_wrong, mover_listen, mover_continue, mover_stop, mover_read, busy, elsewhere, set_window, set_size, mover_step}
use Rattle.rules_parts.specs.Parts.{window_end, is_past_top, length_wrong, data_joined, mover_joined, data_partnered, mover_partnered, address_wrong, holds_tape, unwritable}
use Rattle.rules.specs.Relation.{data_wrong, numbers_wrong, window_wrong, start_wrong, hold_wrong, strays, resume_wrong, place_wrong, origin_wrong, mover_wrong, same_flag, drive_wrong, slots_wrong, keeps}
use Rattle.changer_elements.specs.Slots.{named, is_again, some_again, names_none_twice}
use Rattle.tape_ops.specs.Answers.{is_refusal}
use Rattle.rules.specs.TapeService.{tape0, tape_open, protects, after_mtio, tape_mtio, tape_write, device_step, tape_step, mover_part_step}
use Rattle.rules_moves.specs.Events.{moved_to_tape, moved_from_tape}
use Rattle.rules_moves.specs.Moves.{idle, stream_ends, scant, window_used, filling, to_tape, outside, seek_from, amount, reading, on_found, seeking, from_tape, fed_with, halts_with}
use Rattle.rules_moves.specs.Sequence.{Asked, step, runs, is_heard, mover_asked, data_asked, joint_asked, asked, move_shown, seen}
use Rattle.rules_moves.specs.Counts.{trace, records_in, sum}
use Rattle.rules_annex.specs.RoundTrip.{padding, filled_up, handed_over, mover_note, note, noted, asked_after, end_after}
use Rattle.rules_annex.specs.Example.{call, blank, started, stream, backup, rewind, meanwhile, recover, ExampleHolds}
use Rattle.rules_annex.proofs.Deciding.{untouched, aside_request, aside, asides, asides_hold, is_at_size, lasts, backs, backs_hold, backs_feed, in_turn, recovers, recovers_hold}

pub example_holds : ExampleHolds
unfolding
    choose all_of be32 be32s word be64 hyper overlay same_bytes all_zero opaque_at opaque header_ok
    table_ok is_sound faulty kept room_for with_entry entry_bytes written fill_to least write_step mtio_step well_framed
    record_bytes look row_of layout.piece_of layout.part_at layout.prepend layout.and_part layout.and_got layout.parts_at layout.times_at layout.single
    layout.counted layout.field_at layout.and_value layout.and_read layout.read_fields put puts summed scanned decoded tape_body data_body mover_body joint_body
    opaques body_bytes shape_of header_error reply_bytes guarded noticed outcome needs_login is_locked verdict is_unread refusing settled is_close judged
    requested answered dump data_start data_stop data_step data_connect joint_step judge onto is_accepted offset_wrong
    mover_listen mover_continue mover_stop mover_read busy elsewhere set_window set_size mover_step window_end is_past_top length_wrong data_joined mover_joined holds_tape unwritable data_wrong
    numbers_wrong window_wrong start_wrong hold_wrong strays resume_wrong place_wrong origin_wrong mover_wrong same_flag drive_wrong slots_wrong named is_again some_again names_none_twice keeps tape0 tape_open is_refusal
    protects after_mtio tape_mtio tape_write device_step tape_step mover_part_step moved_to_tape moved_from_tape idle stream_ends scant window_used filling to_tape
    outside seek_from amount reading on_found seeking from_tape step runs is_heard mover_asked data_asked joint_asked asked move_shown seen trace records_in sum
    padding filled_up handed_over mover_note note noted asked_after end_after call blank
    data_partnered mover_partnered address_wrong listening unmet mover_awaits is_tcp fed_with halts_with untouched aside_request aside asides is_at_size lasts backs in_turn recovers
    room_of variables_after data_shown text_in behind pairs_from pair_words pair_texts store_bytes storing text_bytes fits emptied
example_holds =
    record {
      trip = record {
        session = refl;
        some = omega arith;
        empty = refl;
        backs = backs_hold 4 stream started backup refl;
        rewinds = record { heard = refl; request = refl; accepted = refl };
        aside = asides_hold (step (Asked rewind) (runs started backup)) meanwhile refl;
        rests = refl;
        recovers = recovers_hold (length (filled_up 4 stream)) 0 (window_end 0 0) 0 (runs (step (Asked rewind) (runs started backup)) meanwhile) recover refl;
      };
      stands = refl;
      fed = backs_feed 4 stream started backup (backs_hold 4 stream started backup refl);
      records = refl;
      uses = refl;
      out = refl;
    }
