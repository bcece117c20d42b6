-- Each case is computed: the definitions unfold, and both sides are one term. Assumes nothing.
use mathlib.Core.Path.{refl}
use Rattle.xdr.specs.Choose.{choose}
use Rattle.xdr.specs.Xdr.{be32, be32s, word, overlay, same_bytes}
use Rattle.wire_pairs.specs.Pairs.{separator_name, separator, is_named, with_separator}
use Rattle.wire_pairs.specs.Store.{pair_words, pair_texts, store_bytes, storing, text_bytes, fits, emptied, laid_from, is_laid, kept_from, kept_pairs, environment_of}
use Rattle.wire_pairs.specs.StoreCases.{Wrote, Kept, AreLaid, NotLaid, Fit, Added, StoreCases}

wrote : Wrote
unfolding be32 be32s overlay pair_words pair_texts store_bytes storing emptied
wrote =
    record {
      no_pair = refl;
      one_pair = refl;
      two_pairs = refl;
      empty_texts = refl;
      past_stay = refl;
      nothing_stored = refl;
      full = refl;
      stopped = refl;
      count_alone = refl;
    }

added : Added
unfolding choose same_bytes separator_name separator is_named with_separator
added = record { no_pair = refl; last = refl; other_names = refl; in_value = refl; given = refl; given_empty = refl }

kept : Kept
unfolding choose same_bytes separator_name separator is_named with_separator be32 word overlay emptied kept_from kept_pairs environment_of
kept = record { no_pair = refl; one_pair = refl; two_pairs = refl; given = refl; stopped = refl }

laid : AreLaid
unfolding choose word laid_from is_laid
laid = record { no_pair = refl; exactly_full = refl; with_more = refl; empty_texts = refl; most = refl }

not_laid : NotLaid
unfolding choose word laid_from is_laid
not_laid =
    record {
      no_byte = refl;
      no_count = refl;
      too_many = refl;
      no_words = refl;
      one_short = refl;
      far_past = refl;
      gap_first = refl;
      gap_within = refl;
      gap_between = refl;
      gap_before = refl;
      second_shared = refl;
      name_shared = refl;
      value_within = refl;
      value_first = refl;
      from_front = refl;
    }

fit : Fit
unfolding choose text_bytes fits
fit =
    record {
      no_pair = refl;
      exactly_full = refl;
      one_more = refl;
      value_full = refl;
      value_more = refl;
      most = refl;
      too_many = refl;
    }

pub cases_hold : StoreCases
cases_hold = record { wrote = wrote; kept = kept; laid = laid; not_laid = not_laid; fit = fit; added = added }
