-- Each case is computed: the definitions unfold, and both sides are one term. Assumes nothing.
use mathlib.Core.Path.{refl}
use Rattle.xdr.specs.Choose.{choose}
use Rattle.wire_rmt.specs.Numbers.{is_digit, ending, digits_on, number_at, last_digits, count_on, decimal}
use Rattle.wire_rmt.specs.Commands.{
  path_length,
  at_end,
  last_number,
  opened,
  open_behind,
  open_in,
  close_behind,
  close_in,
  reading,
  read_in,
  writing,
  write_in,
  operating,
  operation,
  operate_in,
  rmt_command,
  tape_mode,
  mtio_of,
}
use Rattle.wire_rmt.specs.Replies.{error_of, error_text, headed, accepted, refused}
use Rattle.wire_rmt.specs.Cases.{CommandCases, NumberCases, ReplyCases, RmtCases}

commands : CommandCases
unfolding
    choose is_digit ending digits_on number_at path_length at_end last_number opened open_behind open_in close_behind close_in reading read_in writing write_in operating operation operate_in rmt_command
commands =
    record {
      open_read = refl;
      open_write = refl;
      open_both = refl;
      open_three = refl;
      open_dev = refl;
      open_empty = refl;
      close_named = refl;
      close_empty = refl;
      read_five = refl;
      write_five = refl;
      write_none = refl;
      write_feeds = refl;
      write_zeros = refl;
      marks = refl;
      forward_files = refl;
      back_files = refl;
      forward_records = refl;
      back_records = refl;
      rewind = refl;
      operation_zeros = refl;
      no_byte = refl;
      feed_alone = refl;
      seek = refl;
      seek_whole = refl;
      status = refl;
      status_line = refl;
      lower_open = refl;
      lower_close = refl;
      lower_read = refl;
      lower_write = refl;
      lower_operate = refl;
      offline = refl;
      seventh = refl;
      bare_open = refl;
      bare_close = refl;
      bare_read = refl;
      bare_write = refl;
      bare_operate = refl;
      open_cut = refl;
      open_nameless = refl;
      open_modeless = refl;
      open_empty_mode = refl;
      close_cut = refl;
      read_cut = refl;
      write_cut = refl;
      operate_cut = refl;
      operate_bare = refl;
      open_more = refl;
      open_feed = refl;
      close_more = refl;
      close_feed = refl;
      read_more = refl;
      operate_more = refl;
      write_short = refl;
      write_long = refl;
      write_one_more = refl;
      read_no_number = refl;
      read_minus = refl;
      read_plus = refl;
      read_blank = refl;
      read_blank_after = refl;
      read_return = refl;
      read_hex = refl;
      read_slash = refl;
      read_colon = refl;
      ten = refl;
      eleven = refl;
      nine = refl;
      greatest = refl;
      one_more = refl;
      nines = refl;
      greatest_mode = refl;
      great_mode = refl;
      great_data = refl;
      great_operation = refl;
      great_count = refl;
      rewind_countless = refl;
    }

numbers : NumberCases
unfolding choose tape_mode mtio_of error_of
numbers =
    record {
      mode_0 = refl;
      mode_1 = refl;
      mode_2 = refl;
      mode_3 = refl;
      mode_greatest = refl;
      mtio_0 = refl;
      mtio_1 = refl;
      mtio_2 = refl;
      mtio_3 = refl;
      mtio_4 = refl;
      mtio_5 = refl;
      error_1 = refl;
      error_3 = refl;
      error_4 = refl;
      error_5 = refl;
      error_6 = refl;
      error_7 = refl;
      error_9 = refl;
      error_10 = refl;
      error_12 = refl;
      error_13 = refl;
      error_15 = refl;
      error_16 = refl;
      error_18 = refl;
      error_19 = refl;
      error_25 = refl;
      error_26 = refl;
    }

replies : ReplyCases
unfolding choose last_digits count_on decimal error_text headed accepted refused
replies =
    record {
      decimal_zero = refl;
      decimal_nine = refl;
      decimal_ten = refl;
      decimal_ninety_nine = refl;
      decimal_hundred = refl;
      decimal_record = refl;
      decimal_nines = refl;
      decimal_billion = refl;
      decimal_greatest = refl;
      accepted_zero = refl;
      accepted_record = refl;
      accepted_greatest = refl;
      refused_5 = refl;
      refused_6 = refl;
      refused_22 = refl;
    }

pub cases : RmtCases
cases = record { commands = commands; numbers = numbers; replies = replies }
