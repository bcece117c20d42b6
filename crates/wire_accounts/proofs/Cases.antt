-- Each case is computed: the definitions unfold, and both sides are one term. A login's digest is computed once. Assumes nothing.
use mathlib.Core.Path.{◌≡◌, refl}
use Rattle.xdr.specs.Choose.{choose}
use Rattle.xdr.specs.Xdr.{word, same_bytes}
use Rattle.xdr_opaque.specs.Opaque.{all_zero, opaque_at}
use Rattle.md5_digest.specs.Md5.{index_of, shift_of, md5, le32, md5_registers, processed, padding, compressed, operations, stepped}
use Rattle.md5_digest.specs.Md5.{auxiliary_of, rotated, le_word}
use Rattle.md5_digest.specs.Login.{login_string, login_digest}
use Rattle.wire_accounts.specs.Accounts.{is_kind, with_password, with_id, account_at, with_account, and_then, accounts_from, accounts_in}
use Rattle.wire_accounts.specs.Accounts.{entries_of, is_digestible, is_digest, md5_matches, any_of}
use Rattle.wire_accounts.specs.Cases.{LaidCases, BrokenCases, Md5Logins, WithdrawnLogins, AccountCases}
use Rattle.wire_accounts.specs.Cases.{ndmp, given_challenge, sent_digest, shortest, shortest_digest, longest, longest_digest}

laid : LaidCases
unfolding choose word all_zero opaque_at is_kind with_password with_id account_at with_account and_then accounts_from accounts_in
laid = record { no_account = refl; one_text_lem = refl; one_md5_lem = refl; eight_accounts = refl; twice = refl }

not_laid : BrokenCases
unfolding choose word all_zero opaque_at is_kind with_password with_id account_at with_account and_then accounts_from accounts_in
not_laid =
    record {
      no_byte = refl;
      no_count = refl;
      nine = refl;
      far_more = refl;
      kind_zero = refl;
      kind_three = refl;
      kind_high = refl;
      second_kind = refl;
      byte_more = refl;
      word_more = refl;
      account_more = refl;
      after_none = refl;
      id_fill = refl;
      password_fill = refl;
      no_kind = refl;
      no_id = refl;
      no_password = refl;
      no_fill = refl;
      one_missing = refl;
    }

ndmp_digest : login_digest ndmp given_challenge ≡ sent_digest
unfolding login_string login_digest choose index_of shift_of md5 le32 md5_registers processed padding compressed operations stepped auxiliary_of rotated le_word
ndmp_digest = refl

shortest_digest_lem : login_digest shortest given_challenge ≡ shortest_digest
unfolding login_string login_digest choose index_of shift_of md5 le32 md5_registers processed padding compressed operations stepped auxiliary_of rotated le_word
shortest_digest_lem = refl

longest_digest_lem : login_digest longest given_challenge ≡ longest_digest
unfolding login_string login_digest choose index_of shift_of md5 le32 md5_registers processed padding compressed operations stepped auxiliary_of rotated le_word
longest_digest_lem = refl

by_md5 : Md5Logins
unfolding choose word all_zero opaque_at is_kind with_password with_id account_at with_account and_then accounts_from accounts_in entries_of same_bytes is_digestible is_digest md5_matches any_of
by_md5 =
    record {
      lets_in = rw ndmp_digest;
      last_byte = rw ndmp_digest;
      wrong_id = refl;
      first_of_two = rw ndmp_digest;
      second_of_two = rw ndmp_digest;
      other_kind = refl;
      password = rw ndmp_digest;
      one_byte = rw shortest_digest_lem;
      all_bytes = rw longest_digest_lem;
      byte_more = refl;
      empty = λ c d. refl;
      long = λ c d. refl;
    }

withdrawn : WithdrawnLogins
unfolding choose word all_zero opaque_at is_kind with_password with_id account_at with_account and_then accounts_from accounts_in entries_of same_bytes is_digestible is_digest md5_matches any_of
withdrawn =
    record {
      password = refl;
      anything = λ c d. refl;
      empty = λ c d. refl;
      md5_behind = rw ndmp_digest;
      md5_before = rw ndmp_digest;
      own_password = refl;
    }

pub cases_hold : AccountCases
cases_hold = record { laid = laid; not_laid = not_laid; md5 = by_md5; withdrawn = withdrawn }
