-- Each case is computed: the definitions unfold, and both sides are one term. Assumes nothing.
use mathlib.Core.Path.{refl}
use Rattle.xdr.specs.Choose.{choose}
use Rattle.xdr.specs.Xdr.{word, overlay}
use Rattle.xdr_opaque.specs.Opaque.{all_zero, opaque_at}
use Rattle.wire_accounts.specs.Accounts.{is_kind, with_password, with_id, account_at, with_account, and_then, accounts_from, accounts_in, entries_of}
use Rattle.call_accounts.specs.Listing.{word_of, line_of, lines_from, listing, listed, listed_out}
use Rattle.call_accounts.specs.Cases.{LineCases, OutputCases, ListingCases}

lines : LineCases
unfolding
    choose word all_zero opaque_at is_kind with_password with_id account_at with_account and_then accounts_from accounts_in entries_of word_of line_of lines_from listing
lines =
    record {
      no_account = refl;
      one_md5_lem = refl;
      one_text_lem = refl;
      empty_md5 = refl;
      long_md5_lem = refl;
      bare_text_lem = refl;
      text_first = refl;
      twice = refl;
      mixed = refl;
      all_text = refl;
      no_byte = refl;
      nine = refl;
      other_kind = refl;
      byte_more = refl;
      one_missing = refl;
    }

outputs : OutputCases
unfolding
    choose word overlay all_zero opaque_at is_kind with_password with_id account_at with_account and_then accounts_from accounts_in entries_of word_of line_of lines_from
    listing listed listed_out
outputs =
    record {
      no_output = refl;
      short = refl;
      short_stays = refl;
      short_none = refl;
      short_broken = refl;
      enough = refl;
      enough_stays = refl;
      none = refl;
      none_stays = refl;
      full = refl;
      full_stays = refl;
      more = refl;
      more_stays = refl;
    }

pub cases_hold : ListingCases
cases_hold = record { lines = lines; outputs = outputs }
