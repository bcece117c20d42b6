-- The calls of a login are computed, as the cases of `Cases` are. Assumes nothing.
use mathlib.Core.Path.{refl}
use Rattle.xdr.specs.Choose.{choose, all_of}
use Rattle.xdr.specs.Xdr.{be32, be32s, word, same_bytes}
use Rattle.xdr_opaque.specs.Opaque.{all_zero, opaque_at}
use Rattle.xdr_opaque.specs.Put.{opaque}
use Rattle.md5_digest.specs.Md5 as md5
use Rattle.md5_digest.specs.Login.{login_string, login_digest}
use Rattle.wire_accounts.specs.Accounts.{is_kind, with_password, with_id, account_at, with_account, and_then, accounts_from, accounts_in, entries_of}
use Rattle.wire_accounts.specs.Accounts.{is_digestible, is_digest, md5_matches, any_of}
use Rattle.wire_frame.specs.Frame.{well_framed, record_bytes}
use Rattle.wire_frame.specs.Messages.{look, row_of}
use Rattle.wire_layouts.specs.Layout as layout
use Rattle.wire_layouts.specs.Scans.{put, puts, summed, scanned}
use Rattle.wire_requests.specs.Bodies.{decoded, connect_body, config_body}
use Rattle.wire_replies.specs.Replies.{opaques, body_bytes, shape_of, header_error, reply_bytes, notice_number, notice_words, notice_bytes}
use Rattle.rules_parts.specs.Parts.{window_end, is_past_top, length_wrong, data_joined, mover_joined, data_partnered, mover_partnered, address_wrong, holds_tape, unwritable}
use Rattle.rules.specs.Judge.{judge, onto}
use Rattle.rules.specs.Connection.{connect_open, right_digest, client_auth, connect_step, auth_attributes, config_step}
use Rattle.rules.specs.Relation.{data_wrong, numbers_wrong, window_wrong, start_wrong, hold_wrong, strays, resume_wrong, place_wrong}
use Rattle.rules.specs.Relation.{origin_wrong, mover_wrong, same_flag, drive_wrong, slots_wrong, keeps}
use Rattle.changer_elements.specs.Slots.{named, is_again, some_again, names_none_twice}
use Rattle.rules.specs.Answer.{guarded, room_of, noticed, outcome, needs_login, is_locked, verdict, is_unread, refusing, settled, is_close, judged, requested, answered}
use Rattle.rules.specs.Calls.{opening}
use Rattle.rules_moves.specs.Cases.{words_bytes, wire, run_line, run_case, kept_after, notices, expect}
use Rattle.rules_cases.specs.KnownSession.{KnownSessionHolds}

pub known_session_holds : KnownSessionHolds
unfolding
    choose all_of be32 be32s word same_bytes all_zero opaque_at opaque
    md5.index_of md5.shift_of md5.md5 md5.le32 md5.md5_registers md5.processed md5.padding md5.compressed md5.operations md5.stepped
    md5.auxiliary_of md5.rotated md5.le_word login_string login_digest
    is_kind with_password with_id account_at with_account and_then accounts_from accounts_in entries_of is_digestible is_digest md5_matches any_of
    well_framed record_bytes look row_of layout.piece_of layout.part_at layout.prepend layout.and_part layout.and_got layout.parts_at layout.times_at
    layout.single layout.counted layout.items_of layout.element_at layout.field_at layout.and_value layout.and_read layout.read_fields
    put puts summed scanned decoded connect_body config_body opaques body_bytes shape_of header_error reply_bytes notice_number notice_words notice_bytes
    window_end is_past_top length_wrong data_joined mover_joined data_partnered mover_partnered address_wrong holds_tape unwritable
    judge onto connect_open right_digest client_auth connect_step auth_attributes config_step
    data_wrong numbers_wrong window_wrong start_wrong hold_wrong strays resume_wrong place_wrong origin_wrong mover_wrong same_flag drive_wrong slots_wrong named is_again some_again names_none_twice keeps
    guarded room_of noticed outcome needs_login is_locked verdict is_unread refusing settled is_close judged requested answered opening
    words_bytes wire run_line run_case kept_after notices expect
known_session_holds = record { opened = refl; sent = λ image. refl; left = λ image. refl }
