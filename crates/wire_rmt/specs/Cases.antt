-- Commands with their bytes written out, and what each is read as; modes, operations and errors one by one; replies byte for byte.
use Rattle.std.specs.Prelude.{[], ◌∷◌, ◌≡◌, Some, None}
use Rattle.wire_layouts.specs.Layout.{place}
use Rattle.wire_rmt.specs.declared.Command.TheVariants as Command
use Rattle.wire_rmt.specs.Numbers.{decimal}
use Rattle.wire_rmt.specs.Commands.{rmt_command, tape_mode, mtio_of}
use Rattle.wire_rmt.specs.Replies.{error_of, accepted, refused}

pub record CommandCases : Type 0 where
  -- each command
  -- `Otape0\n0\n`
  pub open_read : rmt_command (79 ∷ 116 ∷ 97 ∷ 112 ∷ 101 ∷ 48 ∷ 10 ∷ 48 ∷ 10 ∷ []) ≡ Some (Command.Open (place 1 5) 0)
  -- `Otape0\n1\n`
  pub open_write : rmt_command (79 ∷ 116 ∷ 97 ∷ 112 ∷ 101 ∷ 48 ∷ 10 ∷ 49 ∷ 10 ∷ []) ≡ Some (Command.Open (place 1 5) 1)
  -- `Otape0\n2\n`
  pub open_both : rmt_command (79 ∷ 116 ∷ 97 ∷ 112 ∷ 101 ∷ 48 ∷ 10 ∷ 50 ∷ 10 ∷ []) ≡ Some (Command.Open (place 1 5) 2)
  -- `Otape0\n3\n`
  pub open_three : rmt_command (79 ∷ 116 ∷ 97 ∷ 112 ∷ 101 ∷ 48 ∷ 10 ∷ 51 ∷ 10 ∷ []) ≡ Some (Command.Open (place 1 5) 3)
  -- 001's own example
  -- `O/dev/rmt8\n0\n`
  pub open_dev : rmt_command (79 ∷ 47 ∷ 100 ∷ 101 ∷ 118 ∷ 47 ∷ 114 ∷ 109 ∷ 116 ∷ 56 ∷ 10 ∷ 48 ∷ 10 ∷ []) ≡ Some (Command.Open (place 1 9) 0)
  -- `O\n0\n`
  pub open_empty : rmt_command (79 ∷ 10 ∷ 48 ∷ 10 ∷ []) ≡ Some (Command.Open (place 1 0) 0)
  -- `Ctape0\n`
  pub close_named : rmt_command (67 ∷ 116 ∷ 97 ∷ 112 ∷ 101 ∷ 48 ∷ 10 ∷ []) ≡ Some Command.Close
  -- `C\n`
  pub close_empty : rmt_command (67 ∷ 10 ∷ []) ≡ Some Command.Close
  -- `R5\n`
  pub read_five : rmt_command (82 ∷ 53 ∷ 10 ∷ []) ≡ Some (Command.Read 5)
  -- `W5\nHELLO`
  pub write_five : rmt_command (87 ∷ 53 ∷ 10 ∷ 72 ∷ 69 ∷ 76 ∷ 76 ∷ 79 ∷ []) ≡ Some (Command.Write (place 3 5))
  -- `W0\n`
  pub write_none : rmt_command (87 ∷ 48 ∷ 10 ∷ []) ≡ Some (Command.Write (place 3 0))
  -- data may hold line feeds
  -- `W3\n\n\n\n`
  pub write_feeds : rmt_command (87 ∷ 51 ∷ 10 ∷ 10 ∷ 10 ∷ 10 ∷ []) ≡ Some (Command.Write (place 3 3))
  -- `W002\nHE`
  pub write_zeros : rmt_command (87 ∷ 48 ∷ 48 ∷ 50 ∷ 10 ∷ 72 ∷ 69 ∷ []) ≡ Some (Command.Write (place 5 2))
  -- `I0\n2\n`
  pub marks : rmt_command (73 ∷ 48 ∷ 10 ∷ 50 ∷ 10 ∷ []) ≡ Some (Command.Operate 0 2)
  -- `I1\n1\n`
  pub forward_files : rmt_command (73 ∷ 49 ∷ 10 ∷ 49 ∷ 10 ∷ []) ≡ Some (Command.Operate 1 1)
  -- `I2\n1\n`
  pub back_files : rmt_command (73 ∷ 50 ∷ 10 ∷ 49 ∷ 10 ∷ []) ≡ Some (Command.Operate 2 1)
  -- `I3\n7\n`
  pub forward_records : rmt_command (73 ∷ 51 ∷ 10 ∷ 55 ∷ 10 ∷ []) ≡ Some (Command.Operate 3 7)
  -- `I4\n7\n`
  pub back_records : rmt_command (73 ∷ 52 ∷ 10 ∷ 55 ∷ 10 ∷ []) ≡ Some (Command.Operate 4 7)
  -- `I5\n0\n`
  pub rewind : rmt_command (73 ∷ 53 ∷ 10 ∷ 48 ∷ 10 ∷ []) ≡ Some (Command.Operate 5 0)
  -- `I05\n0\n`
  pub operation_zeros : rmt_command (73 ∷ 48 ∷ 53 ∷ 10 ∷ 48 ∷ 10 ∷ []) ≡ Some (Command.Operate 5 0)
  -- no byte, no letter that is known, and those that 02 leaves out
  -- nothing at all
  pub no_byte : rmt_command ([]) ≡ None
  -- `\n`
  pub feed_alone : rmt_command (10 ∷ []) ≡ None
  -- `L0\n`
  pub seek : rmt_command (76 ∷ 48 ∷ 10 ∷ []) ≡ None
  -- `L100\n1\n`
  pub seek_whole : rmt_command (76 ∷ 49 ∷ 48 ∷ 48 ∷ 10 ∷ 49 ∷ 10 ∷ []) ≡ None
  -- `S`
  pub status : rmt_command (83 ∷ []) ≡ None
  -- `S\n`
  pub status_line : rmt_command (83 ∷ 10 ∷ []) ≡ None
  -- `otape0\n0\n`
  pub lower_open : rmt_command (111 ∷ 116 ∷ 97 ∷ 112 ∷ 101 ∷ 48 ∷ 10 ∷ 48 ∷ 10 ∷ []) ≡ None
  -- `ctape0\n`
  pub lower_close : rmt_command (99 ∷ 116 ∷ 97 ∷ 112 ∷ 101 ∷ 48 ∷ 10 ∷ []) ≡ None
  -- `r5\n`
  pub lower_read : rmt_command (114 ∷ 53 ∷ 10 ∷ []) ≡ None
  -- `w0\n`
  pub lower_write : rmt_command (119 ∷ 48 ∷ 10 ∷ []) ≡ None
  -- `i5\n0\n`
  pub lower_operate : rmt_command (105 ∷ 53 ∷ 10 ∷ 48 ∷ 10 ∷ []) ≡ None
  -- `I6\n0\n`
  pub offline : rmt_command (73 ∷ 54 ∷ 10 ∷ 48 ∷ 10 ∷ []) ≡ None
  -- `I7\n0\n`
  pub seventh : rmt_command (73 ∷ 55 ∷ 10 ∷ 48 ∷ 10 ∷ []) ≡ None
  -- letters alone
  -- `O`
  pub bare_open : rmt_command (79 ∷ []) ≡ None
  -- `C`
  pub bare_close : rmt_command (67 ∷ []) ≡ None
  -- `R`
  pub bare_read : rmt_command (82 ∷ []) ≡ None
  -- `W`
  pub bare_write : rmt_command (87 ∷ []) ≡ None
  -- `I`
  pub bare_operate : rmt_command (73 ∷ []) ≡ None
  -- a line feed that is missing
  -- `Otape0\n0`
  pub open_cut : rmt_command (79 ∷ 116 ∷ 97 ∷ 112 ∷ 101 ∷ 48 ∷ 10 ∷ 48 ∷ []) ≡ None
  -- `Otape0`
  pub open_nameless : rmt_command (79 ∷ 116 ∷ 97 ∷ 112 ∷ 101 ∷ 48 ∷ []) ≡ None
  -- `Otape0\n`
  pub open_modeless : rmt_command (79 ∷ 116 ∷ 97 ∷ 112 ∷ 101 ∷ 48 ∷ 10 ∷ []) ≡ None
  -- `Otape0\n\n`
  pub open_empty_mode : rmt_command (79 ∷ 116 ∷ 97 ∷ 112 ∷ 101 ∷ 48 ∷ 10 ∷ 10 ∷ []) ≡ None
  -- `Ctape0`
  pub close_cut : rmt_command (67 ∷ 116 ∷ 97 ∷ 112 ∷ 101 ∷ 48 ∷ []) ≡ None
  -- `R5`
  pub read_cut : rmt_command (82 ∷ 53 ∷ []) ≡ None
  -- `W5`
  pub write_cut : rmt_command (87 ∷ 53 ∷ []) ≡ None
  -- `I5\n0`
  pub operate_cut : rmt_command (73 ∷ 53 ∷ 10 ∷ 48 ∷ []) ≡ None
  -- `I5\n`
  pub operate_bare : rmt_command (73 ∷ 53 ∷ 10 ∷ []) ≡ None
  -- bytes behind the command
  -- `Otape0\n0\nC`
  pub open_more : rmt_command (79 ∷ 116 ∷ 97 ∷ 112 ∷ 101 ∷ 48 ∷ 10 ∷ 48 ∷ 10 ∷ 67 ∷ []) ≡ None
  -- `Otape0\n0\n\n`
  pub open_feed : rmt_command (79 ∷ 116 ∷ 97 ∷ 112 ∷ 101 ∷ 48 ∷ 10 ∷ 48 ∷ 10 ∷ 10 ∷ []) ≡ None
  -- `Ctape0\nC`
  pub close_more : rmt_command (67 ∷ 116 ∷ 97 ∷ 112 ∷ 101 ∷ 48 ∷ 10 ∷ 67 ∷ []) ≡ None
  -- `C\n\n`
  pub close_feed : rmt_command (67 ∷ 10 ∷ 10 ∷ []) ≡ None
  -- `R5\nR`
  pub read_more : rmt_command (82 ∷ 53 ∷ 10 ∷ 82 ∷ []) ≡ None
  -- `I5\n0\n\n`
  pub operate_more : rmt_command (73 ∷ 53 ∷ 10 ∷ 48 ∷ 10 ∷ 10 ∷ []) ≡ None
  -- data that are short or long by one
  -- `W5\nHELL`
  pub write_short : rmt_command (87 ∷ 53 ∷ 10 ∷ 72 ∷ 69 ∷ 76 ∷ 76 ∷ []) ≡ None
  -- `W5\nHELLO!`
  pub write_long : rmt_command (87 ∷ 53 ∷ 10 ∷ 72 ∷ 69 ∷ 76 ∷ 76 ∷ 79 ∷ 33 ∷ []) ≡ None
  -- `W0\n\n`
  pub write_one_more : rmt_command (87 ∷ 48 ∷ 10 ∷ 10 ∷ []) ≡ None
  -- signs, blanks and other letters
  -- `R\n`
  pub read_no_number : rmt_command (82 ∷ 10 ∷ []) ≡ None
  -- `R-1\n`
  pub read_minus : rmt_command (82 ∷ 45 ∷ 49 ∷ 10 ∷ []) ≡ None
  -- `R+1\n`
  pub read_plus : rmt_command (82 ∷ 43 ∷ 49 ∷ 10 ∷ []) ≡ None
  -- `R 5\n`
  pub read_blank : rmt_command (82 ∷ 32 ∷ 53 ∷ 10 ∷ []) ≡ None
  -- `R5 \n`
  pub read_blank_after : rmt_command (82 ∷ 53 ∷ 32 ∷ 10 ∷ []) ≡ None
  -- `R5\r\n`
  pub read_return : rmt_command (82 ∷ 53 ∷ 13 ∷ 10 ∷ []) ≡ None
  -- `R0x5\n`
  pub read_hex : rmt_command (82 ∷ 48 ∷ 120 ∷ 53 ∷ 10 ∷ []) ≡ None
  -- `R/\n`
  pub read_slash : rmt_command (82 ∷ 47 ∷ 10 ∷ []) ≡ None
  -- `R:\n`
  pub read_colon : rmt_command (82 ∷ 58 ∷ 10 ∷ []) ≡ None
  -- ten digits and eleven; the greatest number, and one more
  -- `R0000000005\n`
  pub ten : rmt_command (82 ∷ 48 ∷ 48 ∷ 48 ∷ 48 ∷ 48 ∷ 48 ∷ 48 ∷ 48 ∷ 48 ∷ 53 ∷ 10 ∷ []) ≡ Some (Command.Read 5)
  -- `R00000000005\n`
  pub eleven : rmt_command (82 ∷ 48 ∷ 48 ∷ 48 ∷ 48 ∷ 48 ∷ 48 ∷ 48 ∷ 48 ∷ 48 ∷ 48 ∷ 53 ∷ 10 ∷ []) ≡ None
  -- `R9\n`
  pub nine : rmt_command (82 ∷ 57 ∷ 10 ∷ []) ≡ Some (Command.Read 9)
  -- `R4294967295\n`
  pub greatest : rmt_command (82 ∷ 52 ∷ 50 ∷ 57 ∷ 52 ∷ 57 ∷ 54 ∷ 55 ∷ 50 ∷ 57 ∷ 53 ∷ 10 ∷ []) ≡ Some (Command.Read 4294967295)
  -- `R4294967296\n`
  pub one_more : rmt_command (82 ∷ 52 ∷ 50 ∷ 57 ∷ 52 ∷ 57 ∷ 54 ∷ 55 ∷ 50 ∷ 57 ∷ 54 ∷ 10 ∷ []) ≡ None
  -- `R9999999999\n`
  pub nines : rmt_command (82 ∷ 57 ∷ 57 ∷ 57 ∷ 57 ∷ 57 ∷ 57 ∷ 57 ∷ 57 ∷ 57 ∷ 57 ∷ 10 ∷ []) ≡ None
  -- `Otape0\n4294967295\n`
  pub greatest_mode : rmt_command (79 ∷ 116 ∷ 97 ∷ 112 ∷ 101 ∷ 48 ∷ 10 ∷ 52 ∷ 50 ∷ 57 ∷ 52 ∷ 57 ∷ 54 ∷ 55 ∷ 50 ∷ 57 ∷ 53 ∷ 10 ∷ []) ≡ Some (Command.Open (place 1 5) 4294967295)
  -- `Otape0\n4294967296\n`
  pub great_mode : rmt_command (79 ∷ 116 ∷ 97 ∷ 112 ∷ 101 ∷ 48 ∷ 10 ∷ 52 ∷ 50 ∷ 57 ∷ 52 ∷ 57 ∷ 54 ∷ 55 ∷ 50 ∷ 57 ∷ 54 ∷ 10 ∷ []) ≡ None
  -- `W4294967296\n`
  pub great_data : rmt_command (87 ∷ 52 ∷ 50 ∷ 57 ∷ 52 ∷ 57 ∷ 54 ∷ 55 ∷ 50 ∷ 57 ∷ 54 ∷ 10 ∷ []) ≡ None
  -- `I4294967296\n0\n`
  pub great_operation : rmt_command (73 ∷ 52 ∷ 50 ∷ 57 ∷ 52 ∷ 57 ∷ 54 ∷ 55 ∷ 50 ∷ 57 ∷ 54 ∷ 10 ∷ 48 ∷ 10 ∷ []) ≡ None
  -- `I5\n4294967296\n`
  pub great_count : rmt_command (73 ∷ 53 ∷ 10 ∷ 52 ∷ 50 ∷ 57 ∷ 52 ∷ 57 ∷ 54 ∷ 55 ∷ 50 ∷ 57 ∷ 54 ∷ 10 ∷ []) ≡ None
  -- `I5\nx\n`
  pub rewind_countless : rmt_command (73 ∷ 53 ∷ 10 ∷ 120 ∷ 10 ∷ []) ≡ None

-- what NDMP has them as: "0 FSF, 1 BSF, 2 FSR, 3 BSR, 4 REW, 5 write marks"
pub record NumberCases : Type 0 where
  pub mode_0 : tape_mode 0 ≡ 0
  pub mode_1 : tape_mode 1 ≡ 1
  pub mode_2 : tape_mode 2 ≡ 1
  pub mode_3 : tape_mode 3 ≡ 3
  pub mode_greatest : tape_mode 4294967295 ≡ 4294967295
  pub mtio_0 : mtio_of 0 ≡ 5
  pub mtio_1 : mtio_of 1 ≡ 0
  pub mtio_2 : mtio_of 2 ≡ 1
  pub mtio_3 : mtio_of 3 ≡ 2
  pub mtio_4 : mtio_of 4 ≡ 3
  pub mtio_5 : mtio_of 5 ≡ 4
  pub error_1 : error_of 1 ≡ 5
  pub error_3 : error_of 3 ≡ 5
  pub error_4 : error_of 4 ≡ 5
  pub error_5 : error_of 5 ≡ 5
  pub error_6 : error_of 6 ≡ 6
  pub error_7 : error_of 7 ≡ 5
  pub error_9 : error_of 9 ≡ 22
  pub error_10 : error_of 10 ≡ 5
  pub error_12 : error_of 12 ≡ 5
  pub error_13 : error_of 13 ≡ 5
  pub error_15 : error_of 15 ≡ 5
  pub error_16 : error_of 16 ≡ 6
  pub error_18 : error_of 18 ≡ 22
  pub error_19 : error_of 19 ≡ 5
  pub error_25 : error_of 25 ≡ 5
  pub error_26 : error_of 26 ≡ 5

pub record ReplyCases : Type 0 where
  pub decimal_zero : decimal 0 ≡ 48 ∷ []
  pub decimal_nine : decimal 9 ≡ 57 ∷ []
  pub decimal_ten : decimal 10 ≡ 49 ∷ 48 ∷ []
  pub decimal_ninety_nine : decimal 99 ≡ 57 ∷ 57 ∷ []
  pub decimal_hundred : decimal 100 ≡ 49 ∷ 48 ∷ 48 ∷ []
  pub decimal_record : decimal 32768 ≡ 51 ∷ 50 ∷ 55 ∷ 54 ∷ 56 ∷ []
  pub decimal_nines : decimal 999999999 ≡ 57 ∷ 57 ∷ 57 ∷ 57 ∷ 57 ∷ 57 ∷ 57 ∷ 57 ∷ 57 ∷ []
  pub decimal_billion : decimal 1000000000 ≡ 49 ∷ 48 ∷ 48 ∷ 48 ∷ 48 ∷ 48 ∷ 48 ∷ 48 ∷ 48 ∷ 48 ∷ []
  pub decimal_greatest : decimal 4294967295 ≡ 52 ∷ 50 ∷ 57 ∷ 52 ∷ 57 ∷ 54 ∷ 55 ∷ 50 ∷ 57 ∷ 53 ∷ []
  pub accepted_zero : accepted 0 ≡ 65 ∷ 48 ∷ 10 ∷ []
  pub accepted_record : accepted 32768 ≡ 65 ∷ 51 ∷ 50 ∷ 55 ∷ 54 ∷ 56 ∷ 10 ∷ []
  pub accepted_greatest : accepted 4294967295 ≡ 65 ∷ 52 ∷ 50 ∷ 57 ∷ 52 ∷ 57 ∷ 54 ∷ 55 ∷ 50 ∷ 57 ∷ 53 ∷ 10 ∷ []
  pub refused_5 : refused 5 ≡ 69 ∷ 53 ∷ 10 ∷ 73 ∷ 47 ∷ 79 ∷ 32 ∷ 101 ∷ 114 ∷ 114 ∷ 111 ∷ 114 ∷ 10 ∷ []
  pub refused_6 : refused 6 ≡ 69 ∷ 54 ∷ 10 ∷ 78 ∷ 111 ∷ 32 ∷ 115 ∷ 117 ∷ 99 ∷ 104 ∷ 32 ∷ 100 ∷ 101 ∷ 118 ∷ 105 ∷ 99 ∷ 101 ∷ 32 ∷ 111 ∷ 114 ∷ 32 ∷ 97 ∷ 100 ∷ 100 ∷ 114 ∷ 101 ∷ 115 ∷ 115 ∷ 10 ∷ []
  pub refused_22 : refused 22 ≡ 69 ∷ 50 ∷ 50 ∷ 10 ∷ 73 ∷ 110 ∷ 118 ∷ 97 ∷ 108 ∷ 105 ∷ 100 ∷ 32 ∷ 97 ∷ 114 ∷ 103 ∷ 117 ∷ 109 ∷ 101 ∷ 110 ∷ 116 ∷ 10 ∷ []

pub record RmtCases : Type 0 where
  pub commands : CommandCases
  pub numbers : NumberCases
  pub replies : ReplyCases
