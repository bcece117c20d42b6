-- The replies of the remote tape protocol (001, 4): "A<retval>\n[<opt-data>]" and "E<error-number>\n<error-message>\n"; and which error
-- each number of NDMP is (02 No. 5).
use Rattle.std.specs.Prelude.{ℕ, List, [], ◌∷◌, ◌++◌, eqb}
use Rattle.codes.specs.Codes.{not_open, no_device, illegal_arguments, undecodable}
use Rattle.xdr.specs.Choose.{choose}
use Rattle.wire_rmt.specs.Numbers.{line_feed, decimal}

-- ---- errors
abbrev pub io_failed : ℕ
io_failed = 5

abbrev pub no_such_device : ℕ
no_such_device = 6

abbrev pub invalid : ℕ
invalid = 22

-- "E22 for what does not read so, .. in 18's place, and for 9; E6 no device (6, 16); E5 for every other"
unfoldable pub error_of : ℕ → ℕ
error_of code =
    choose (eqb code undecodable) invalid
    (choose (eqb code illegal_arguments) invalid
    (choose (eqb code not_open) no_such_device
    (choose (eqb code no_device) no_such_device
    io_failed)))

-- the table of texts: 22 `Invalid argument`, 6 `No such device or address`, 5 `I/O error`
unfoldable pub error_text : ℕ → List ℕ
error_text error =
    choose (eqb error invalid)
    (73 ∷ 110 ∷ 118 ∷ 97 ∷ 108 ∷ 105 ∷ 100 ∷ 32 ∷ 97 ∷ 114 ∷ 103 ∷ 117 ∷ 109 ∷ 101 ∷ 110 ∷ 116 ∷ [])
    (choose (eqb error no_such_device)
    (78 ∷ 111 ∷ 32 ∷ 115 ∷ 117 ∷ 99 ∷ 104 ∷ 32 ∷ 100 ∷ 101 ∷ 118 ∷ 105 ∷ 99 ∷ 101
    ∷ 32 ∷ 111 ∷ 114 ∷ 32 ∷ 97 ∷ 100 ∷ 100 ∷ 114 ∷ 101 ∷ 115 ∷ 115 ∷ [])
    (73 ∷ 47 ∷ 79 ∷ 32 ∷ 101 ∷ 114 ∷ 114 ∷ 111 ∷ 114 ∷ []))

-- ---- replies
-- a letter, a number and its line feed
unfoldable pub headed : ℕ → ℕ → List ℕ
headed letter n = letter ∷ (decimal n ++ (line_feed ∷ []))

-- `A` and the number; a read's data stand right behind it
unfoldable pub accepted : ℕ → List ℕ
accepted n = headed 65 n

-- `E`, the number and its text
unfoldable pub refused : ℕ → List ℕ
refused error = headed 69 error ++ (error_text error ++ (line_feed ∷ []))
