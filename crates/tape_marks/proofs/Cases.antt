-- Each case is computed: the definitions unfold, and both sides are one term. Assumes nothing.
use mathlib.Core.Path.{refl}
use Rattle.xdr.specs.Choose.{choose}
use Rattle.xdr.specs.Xdr.{be32, be32s, word}
use Rattle.tape_spacing.specs.Examples.{sample}
use Rattle.tape_spacing.specs.Spacing.{ahead_of}
use Rattle.tape_marks.specs.Marks.{marks_from, names_marks, is_mark_list, before, count_th, stops_at, jump}
use Rattle.tape_marks.specs.Cases.{NoneCases, OneCases, ThreeCases, NameCases, MarkCases}

none : NoneCases
unfolding choose before ahead_of count_th stops_at jump
none =
    record {
      forward_nothing = refl;
      forward_one = refl;
      forward_largest = refl;
      forward_at_end = refl;
      back_nothing = refl;
      back_one = refl;
      back_largest = refl;
      back_at_start = refl;
    }

one : OneCases
unfolding choose before ahead_of count_th stops_at jump
one =
    record {
      forward_from_start = refl;
      forward_at_mark = refl;
      forward_after_mark = refl;
      forward_too_many = refl;
      forward_largest = refl;
      back_from_end = refl;
      back_after_mark = refl;
      back_at_mark = refl;
      back_too_many = refl;
      back_largest = refl;
    }

three : ThreeCases
unfolding choose before ahead_of count_th stops_at jump
three =
    record {
      forward_first = refl;
      forward_second = refl;
      forward_exact = refl;
      forward_too_many = refl;
      forward_between = refl;
      forward_at_mark = refl;
      forward_after_last = refl;
      forward_nothing = refl;
      forward_largest = refl;
      back_first = refl;
      back_second = refl;
      back_exact = refl;
      back_too_many = refl;
      back_at_mark = refl;
      back_after_first = refl;
      back_at_start = refl;
      back_nothing = refl;
      back_largest = refl;
    }

names : NameCases
unfolding choose sample be32 be32s word marks_from names_marks is_mark_list
names =
    record {
      marks = refl;
      cut = refl;
      empty = refl;
      named = refl;
      named_cut = refl;
      named_empty = refl;
      missing = refl;
      missing_all = refl;
      past_cut = refl;
      twice = refl;
      twice_more = refl;
      falling = refl;
      record_named = refl;
      record_first = refl;
      record_last = refl;
      from_one = refl;
    }

pub mark_cases : MarkCases
mark_cases = record { none = none; one = one; three = three; names = names }
