-- A refusal is as long as its message's accepted reply with nothing told: "other reply fields are zero or empty".
use Rattle.std.specs.Prelude.{ℕ, ◌+◌, ◌*◌, false, ◌≡◌, List, [], ◌∷◌, map, length}
use Rattle.codes.specs.Codes.{local_address}
use Rattle.wire_frame.specs.Messages.{Line, is, table, row_of}
use Rattle.wire_replies.specs.declared.DataView.{DataView}
use Rattle.wire_replies.specs.declared.MoverView.{MoverView}
use Rattle.wire_replies.specs.declared.Reply.{Reply}
use Rattle.wire_replies.specs.declared.Reply.TheVariants.{Plain, Listening, ConnectionTypes, Challenge, ServerInfo, ScsiState, Cdb, TapeState, Mtio, Wrote, Read, DataState, Environment, MoverState}
use Rattle.wire_replies.specs.Replies.{body_bytes, shape_of}

abbrev no_data : DataView
no_data = record { operation = 0; state = 0; reason = 0; address = local_address; processed = 0 }

abbrev no_mover : MoverView
no_mover =
    record {
      mode = 0;
      state = 0;
      pause = 0;
      halt = 0;
      size = 0;
      address = local_address;
      number = 0;
      moved = 0;
      seek = 0;
      left = 0;
      offset = 0;
      length = 0;
    }

-- a message's number, its accepted reply with nothing told, and how many words of that stand in a list: a refusal has the
-- list empty. With nothing kept an environment's list is the separator's pair.
pub data Blank : Type 0 where
  blank : ℕ → Reply → ℕ → Blank

abbrev pub blanks : List Blank
blanks =
    blank 0x900 Plain 0
    ∷ blank 0x901 Plain 0
    ∷ blank 0x902 Plain 0
    ∷ blank 0x102 ConnectionTypes 2
    ∷ blank 0x103 Challenge 0
    ∷ blank 0x108 (ServerInfo false) 1
    ∷ blank 0x200 Plain 0
    ∷ blank 0x201 Plain 0
    ∷ blank 0x202 ScsiState 0
    ∷ blank 0x204 Plain 0
    ∷ blank 0x206 Cdb 0
    ∷ blank 0x300 Plain 0
    ∷ blank 0x301 Plain 0
    ∷ blank 0x302 (TapeState 0 0) 0
    ∷ blank 0x303 (Mtio 0 0) 0
    ∷ blank 0x304 (Wrote 0 0) 0
    ∷ blank 0x305 (Read 0 0 0) 0
    ∷ blank 0x400 (DataState no_data) 0
    ∷ blank 0x401 Plain 0
    ∷ blank 0x402 Plain 0
    ∷ blank 0x403 Plain 0
    ∷ blank 0x404 Environment 8
    ∷ blank 0x407 Plain 0
    ∷ blank 0x409 Listening 0
    ∷ blank 0x40A Plain 0
    ∷ blank 0xA00 (MoverState no_mover) 0
    ∷ blank 0xA01 Listening 0
    ∷ blank 0xA02 Plain 0
    ∷ blank 0xA03 Plain 0
    ∷ blank 0xA04 Plain 0
    ∷ blank 0xA05 Plain 0
    ∷ blank 0xA06 Plain 0
    ∷ blank 0xA07 Plain 0
    ∷ blank 0xA08 Plain 0
    ∷ blank 0xA09 Plain 0
    ∷ []

abbrev line_number : Line → ℕ
line_number (is n m b a) = n

abbrev blank_number : Blank → ℕ
blank_number (blank n r k) = n

abbrev accepted_length : Blank → ℕ
accepted_length (blank n r k) = length (body_bytes (shape_of r []))

abbrev refused_length : Blank → ℕ
refused_length (blank n r k) = 4 * ((row_of n).before + 1 + (row_of n).after + k)

-- every message of the table is listed, and its accepted reply is as long as its refusal and the list. That of 0x103 is
-- shown no challenge here: with one it is longer by the 64 bytes
pub record RefusalsAsLong : Type 0 where
  pub every : map blank_number blanks ≡ map line_number table
  pub as_long : map accepted_length blanks ≡ map refused_length blanks
