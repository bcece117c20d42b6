-- The cases of logins are computed, as those of `Cases` are, with the session's number read after each line. Assumes nothing.
use mathlib.Core.List.{List, [], ◌∷◌}
use mathlib.Core.Path.{◌≡◌, refl, sym, ap, ◌∙◌}
use Rattle.xdr.specs.Choose.{choose, all_of}
use Rattle.xdr.specs.Xdr.{be32, be32s, word, same_bytes}
use Rattle.xdr_opaque.specs.Opaque.{all_zero, opaque_at}
use Rattle.xdr_opaque.specs.Put.{opaque}
use Rattle.md5_digest.specs.Md5 as md5
use Rattle.md5_digest.specs.Login.{login_string, login_digest}
use Rattle.wire_accounts.specs.Accounts.{is_kind, with_password, with_id, account_at, with_account, and_then, accounts_from, accounts_in, entries_of}
use Rattle.wire_accounts.specs.Accounts.{is_digestible, is_digest, md5_matches, any_of}
use Rattle.wire_frame.specs.Frame.{well_framed, record_bytes}
use Rattle.wire_frame.specs.Messages.{look, row_of}
use Rattle.wire_layouts.specs.Layout as layout
use Rattle.wire_layouts.specs.Scans.{put, puts, summed, scanned}
use Rattle.wire_requests.specs.Bodies.{decoded, connect_body, config_body}
use Rattle.wire_replies.specs.Replies.{opaques, body_bytes, server_texts, shape_of, header_error, reply_bytes, notice_number, notice_words, notice_bytes}
use Rattle.rules_parts.specs.Parts.{window_end, is_past_top, length_wrong, data_joined, mover_joined, data_partnered, mover_partnered, address_wrong, holds_tape, unwritable}
use Rattle.rules.specs.Judge.{judge, onto}
use Rattle.rules.specs.Connection.{connect_open, right_digest, client_auth, connect_step, auth_attributes, config_step}
use Rattle.rules.specs.Relation.{data_wrong, numbers_wrong, window_wrong, start_wrong, hold_wrong, strays, resume_wrong, place_wrong}
use Rattle.rules.specs.Relation.{origin_wrong, mover_wrong, same_flag, drive_wrong, slots_wrong, keeps}
use Rattle.changer_elements.specs.Slots.{named, is_again, some_again, names_none_twice}
use Rattle.rules.specs.Answer.{Kept, held, guarded, room_of, noticed, outcome, needs_login, is_locked, verdict, is_unread, refusing, settled, is_close, judged, requested, answered}
use Rattle.rules.specs.Calls.{opened_session, opening}
use Rattle.rules_moves.specs.Cases.{words_bytes, wire, stamp, no_variables, one_cartridge}
use Rattle.rules_moves.specs.Sequence.{renumbered}
use Rattle.rules_moves.proofs.Numbering.{on_number, on_number_lem}
use Rattle.rules_cases.specs.Examples.{blank}
use Rattle.rules_cases.specs.LoginCases.{LoginLine, LoginCase, LoginFinal, run_login, run_logins, login_played, replied, expect_logins}
use Rattle.rules_cases.specs.LoginCases.{seen_login, ungiven, newest_counts, not_used_up, lent_only, withdrawn, two_of_one_id, login_bodies, asked_bodies, asked_first, challenged_first, broken_accounts, LoginCasesHold}

-- the session that they begin with, computed once
abbrev first : Kept
first = held (opened_session one_cartridge) blank no_variables

begins : held (opening one_cartridge stamp 36864).next.session blank no_variables ≡ first
unfolding opening named is_again some_again names_none_twice choose
begins = refl

unfoldable run_numbered : Kept → List LoginLine → LoginFinal
run_numbered k [] = record { shown = []; known = k.session.login.authorized }
run_numbered k (l ∷ ls) =
    let n = run_login k l in
    let f = on_number n.kept.session.sequence (λ q. run_numbered (held (renumbered q n.kept.session) n.kept.image n.kept.variables) ls) in
    record { shown = n.shown ∷ f.shown; known = f.known }

run_numbered_lem : (k : Kept) (ls : List LoginLine) → run_logins k ls ≡ run_numbered k ls
unfolding run_logins run_numbered
run_numbered_lem k [] = refl
run_numbered_lem k (l ∷ ls) =
    let n = run_login k l in
    ap (λ (f : LoginFinal). record { shown = n.shown ∷ f.shown; known = f.known })
    (run_numbered_lem n.kept ls
    ∙ sym (on_number_lem n.kept.session.sequence (λ q. run_numbered (held (renumbered q n.kept.session) n.kept.image n.kept.variables) ls)))

numbered : (c : LoginCase) → login_played c ≡ run_numbered first c.lines
numbered c = ap (λ (k : Kept). run_logins k c.lines) begins ∙ run_numbered_lem first c.lines

pub login_cases_hold : LoginCasesHold
unfolding
    choose all_of be32 be32s word same_bytes all_zero opaque_at opaque
    md5.index_of md5.shift_of md5.md5 md5.le32 md5.md5_registers md5.processed md5.padding md5.compressed md5.operations md5.stepped
    md5.auxiliary_of md5.rotated md5.le_word login_string login_digest
    is_kind with_password with_id account_at with_account and_then accounts_from accounts_in entries_of is_digestible is_digest md5_matches any_of
    well_framed record_bytes look row_of layout.piece_of layout.part_at layout.prepend layout.and_part layout.and_got layout.parts_at layout.times_at
    layout.single layout.counted layout.items_of layout.element_at layout.field_at layout.and_value layout.and_read layout.read_fields
    put puts summed scanned decoded connect_body config_body opaques body_bytes server_texts shape_of header_error reply_bytes notice_number notice_words notice_bytes
    window_end is_past_top length_wrong data_joined mover_joined data_partnered mover_partnered address_wrong holds_tape unwritable
    judge onto connect_open right_digest client_auth connect_step auth_attributes config_step
    data_wrong numbers_wrong window_wrong start_wrong hold_wrong strays resume_wrong place_wrong origin_wrong mover_wrong same_flag drive_wrong slots_wrong named is_again some_again names_none_twice keeps
    guarded room_of noticed outcome needs_login is_locked verdict is_unread refusing settled is_close judged requested answered opening
    words_bytes wire on_number run_login run_numbered replied expect_logins
login_cases_hold =
    record {
      seen_login_lem = numbered seen_login ∙ refl;
      ungiven = numbered ungiven ∙ refl;
      newest_counts_lem = numbered newest_counts ∙ refl;
      not_used_up_lem = numbered not_used_up ∙ refl;
      lent_only_lem = numbered lent_only ∙ refl;
      withdrawn = numbered withdrawn ∙ refl;
      two_of_one_id_lem = numbered two_of_one_id ∙ refl;
      login_bodies_lem = numbered login_bodies ∙ refl;
      asked_bodies_lem = numbered asked_bodies ∙ refl;
      asked_first_lem = numbered asked_first ∙ refl;
      challenged_first_lem = numbered challenged_first ∙ refl;
      broken_accounts_lem = numbered broken_accounts ∙ refl;
    }
