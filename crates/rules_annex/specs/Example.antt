-- A computed instance of the premises: a stream of 10 bytes at record size 4, from a client's login on, over two windows there and two windows back, the
-- second of each with no end. Each request is a record as it stands on the wire.
use Rattle.std.specs.Prelude.{ℕ, Bool, true, false, List, [], ◌∷◌, ◌++◌, ◌≡◌, replicate}
use Rattle.codes.specs.Codes.{local_address, rewind_tape}
use Rattle.xdr.specs.Xdr.{be32s, be64}
use Rattle.xdr_opaque.specs.Put.{opaque}
use Rattle.tape_image.specs.Image.{count, used}
use Rattle.wire_frame.specs.Frame.{record_bytes}
use Rattle.rules_parts.specs.Names.{to_tape_mode, from_tape_mode, read_write, endless}
use Rattle.rules.specs.Answer.{Kept, held}
use Rattle.rules.specs.Order.{Call}
use Rattle.rules_moves.specs.Cases.{lending, no_variables, known_session}
use Rattle.rules_moves.specs.Sequence.{Event, Asked, ToTape, FromTape, runs}
use Rattle.rules_moves.specs.Counts.{trace, records_in, sum}
use Rattle.rules_annex.specs.Used.{Feeds}
use Rattle.rules_annex.specs.RoundTrip.{Trip, calls, handed_over}

unfoldable pub call : ℕ → List ℕ → Call
call message body = record { ask = record { request = record_bytes 7 0 0 message 0 0 body; addresses = [] }; lent = lending }

abbrev pub asks : ℕ → List ℕ → Event
asks message body = Asked (call message body)

abbrev pub feeds : List ℕ → Bool → Event
feeds part last = ToTape lending part last

-- a destination of n bytes
abbrev pub draws : ℕ → Event
draws n = FromTape lending (replicate n 0)

abbrev pub window : ℕ → ℕ → Event
window offset length = asks 0xA05 (be64 offset ++ be64 length)

abbrev pub continue : Event
continue = asks 0xA02 []

-- data connect at LOCAL
abbrev pub connect : Event
connect = asks 0x40A (be32s (local_address ∷ []))

-- ---- an empty cartridge: C 4, B 16
unfoldable pub blank : List ℕ
blank = be32s (1 ∷ 4 ∷ 0 ∷ 0 ∷ []) ++ replicate 48 0

abbrev pub started : Kept
started = held known_session blank no_variables

-- ---- the backup: tape open for writing, set record size 4; window (0, 8), listen, connect, start; two records, EOW; from 8 on
-- a window with no end, continue; a tape write, which is refused; the last two bytes; the end
abbrev pub stream : List ℕ
stream = 11 ∷ 12 ∷ 13 ∷ 14 ∷ 15 ∷ 16 ∷ 17 ∷ 18 ∷ 19 ∷ 20 ∷ []

abbrev pub backup : List Event
backup =
    asks 0x300 (opaque (0x74 ∷ 0x61 ∷ 0x70 ∷ 0x65 ∷ 0x30 ∷ []) ++ be32s (read_write ∷ []))
    ∷ asks 0xA08 (be32s (4 ∷ []))
    ∷ window 0 8
    ∷ asks 0xA01 (be32s (to_tape_mode ∷ local_address ∷ []))
    ∷ connect
    ∷ asks 0x401 (opaque (0x64 ∷ 0x75 ∷ 0x6D ∷ 0x70 ∷ []) ++ be32s (0 ∷ []))
    ∷ feeds (11 ∷ 12 ∷ 13 ∷ []) false
    ∷ feeds (11 ∷ 12 ∷ 13 ∷ 14 ∷ 15 ∷ []) false
    ∷ feeds (15 ∷ 16 ∷ 17 ∷ 18 ∷ []) false
    ∷ feeds (19 ∷ 20 ∷ []) true
    ∷ window 8 endless
    ∷ continue
    ∷ asks 0x304 (opaque (9 ∷ []))
    ∷ feeds (19 ∷ 20 ∷ []) true
    ∷ feeds [] true
    ∷ []

-- ---- REW; data stop and mover stop
abbrev pub rewind : Call
rewind = call 0x303 (be32s (rewind_tape ∷ 1 ∷ []))

abbrev pub meanwhile : List Event
meanwhile = asks 0x407 [] ∷ asks 0xA04 [] ∷ []

-- ---- the recover: window (0, 8), listen in mode 1, connect, start; a read of two bytes, and one of the other ten; SEEK; from 8 on a window with no end,
-- continue
abbrev pub recover : List Event
recover =
    window 0 8
    ∷ asks 0xA01 (be32s (from_tape_mode ∷ local_address ∷ []))
    ∷ connect
    ∷ asks 0x402 (be32s (0 ∷ 0 ∷ []) ++ opaque (0x64 ∷ 0x75 ∷ 0x6D ∷ 0x70 ∷ []))
    ∷ asks 0xA06 (be64 0 ++ be64 2)
    ∷ draws 8
    ∷ asks 0xA06 (be64 2 ++ be64 10)
    ∷ draws 8
    ∷ draws 3
    ∷ draws 3
    ∷ draws 3
    ∷ window 8 endless
    ∷ continue
    ∷ draws 8
    ∷ draws 8
    ∷ []

pub record ExampleHolds : Type 0 where
  pub trip : Trip started 4 stream backup rewind 1 meanwhile 0 recover
  -- the backup meets the premises of `UsedGrows` too
  pub stands : started.session.tape.position ≡ count started.image
  pub fed : Feeds 4 started backup
  pub records : sum records_in (trace started backup) ≡ 3
  pub uses : used (runs started backup).image ≡ 12
  pub out : handed_over started (calls backup rewind meanwhile recover) ≡ stream ++ (0 ∷ 0 ∷ [])
