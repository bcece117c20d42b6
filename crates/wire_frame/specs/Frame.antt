-- A record on the wire (paper 01; RFC 5531's record mark): the mark, six header words, and the body.
use Rattle.std.specs.Prelude.{ℕ, ◌+◌, ◌-◌, ◌≤◌, Bool, ◌≡◌, List, [], ◌∷◌, ◌++◌, length, drop, leb, eqb, Result, Ok, Err}
use Rattle.codes.specs.Codes.{largest_message}
use Rattle.xdr.specs.Choose.{choose, all_of}
use Rattle.xdr.specs.Xdr.{word, be32s}
use Rattle.wire_frame.specs.declared.Frame.{Frame}
use Rattle.wire_frame.specs.declared.Unframed.{Unframed}
use Rattle.wire_frame.specs.declared.Unframed.TheVariants.{Broken, NotRequest}

-- "The mark (top bit set, 31 bits of length) .. Length, without the mark, 24 to 36,864. A record that breaks this, or whose length
-- plus 4 isn't the lent input's, closes the session". The mark is a word: with the top bit set it is 2^31 plus the length.
abbrev pub frame_tests : List ℕ → List Bool
frame_tests l =
    leb 28 (length l)
    ∷ leb (0x8000_0000 + 24) (word l 0)
    ∷ leb (word l 0) (0x8000_0000 + largest_message)
    ∷ eqb (word l 0 - 0x8000_0000 + 4) (length l)
    ∷ []

unfoldable pub well_framed : List ℕ → Bool
well_framed l = all_of (frame_tests l)

-- the same, as facts
pub record Well (l : List ℕ) : Type 0 where
  pub long : 28 ≤ length l
  pub low : 0x8000_0000 + 24 ≤ word l 0
  pub high : word l 0 ≤ 0x8000_0000 + largest_message
  pub size : word l 0 - 0x8000_0000 + 4 ≡ length l

-- "six header words: sequence, time stamp, type (0 request, 1 reply), message, reply sequence, error; then the body."
abbrev pub sequence_of : List ℕ → ℕ
sequence_of l = word l 4

abbrev pub kind_of : List ℕ → ℕ
kind_of l = word l 12

abbrev pub message_word : List ℕ → ℕ
message_word l = word l 16

-- "The body is handed on as the part of the record after byte 28."
abbrev pub body_of : List ℕ → List ℕ
body_of l = drop 28 l

-- "Type other than 0: ignored"; "Request sequence numbers are echoed, not judged"
unfoldable pub framed : List ℕ → Result Frame Unframed
framed l =
    choose (well_framed l) (choose (eqb (kind_of l) 0) (Ok (record { sequence = sequence_of l; message = message_word l })) (Err NotRequest)) (Err Broken)

-- a record that is sent: the mark, the header and the body
unfoldable pub record_bytes : ℕ → ℕ → ℕ → ℕ → ℕ → ℕ → List ℕ → List ℕ
record_bytes sequence time kind message echo error body =
    be32s ((0x8000_0000 + (24 + length body)) ∷ sequence ∷ time ∷ kind ∷ message ∷ echo ∷ error ∷ []) ++ body
