-- "What the vault handles", 0x404 of 02 No. 3 and 0x103 of 02 No. 2: the message numbers of NDMP version 4 (004,
-- Appendix C) that are requests here, by interface.
use Rattle.std.specs.Prelude.{ℕ, List, [], ◌∷◌, eqb}
use Rattle.xdr.specs.Choose.{choose}
use Rattle.wire_frame.specs.declared.ConnectKind.TheVariants as ConnectKind
use Rattle.wire_frame.specs.declared.ConfigKind.TheVariants as ConfigKind
use Rattle.wire_frame.specs.declared.ScsiKind.TheVariants as ScsiKind
use Rattle.wire_frame.specs.declared.TapeKind.TheVariants as TapeKind
use Rattle.wire_frame.specs.declared.DataKind.TheVariants as DataKind
use Rattle.wire_frame.specs.declared.MoverKind.TheVariants as MoverKind
use Rattle.wire_frame.specs.declared.JointKind.TheVariants as JointKind
use Rattle.wire_frame.specs.declared.Message.{Message}
use Rattle.wire_frame.specs.declared.Row.{Row}
use Rattle.wire_frame.specs.declared.Message.TheVariants.{Connect, Config, Scsi, Tape, Data, Mover, Joint, Unknown}

-- a message's number, the message, and the zero words before and after the number in the body of its refusal
pub data Line : Type 0 where
  is : ℕ → Message → ℕ → ℕ → Line

-- the row of a number in a table, or Unknown
unfoldable pub look : List Line → ℕ → Row
look [] n = record { kind = Unknown; before = 0; after = 0 }
look (is k m b a ∷ t) n = choose (eqb n k) (record { kind = m; before = b; after = a }) (look t n)

-- The joint ones are those that can read or change both the data and the mover end. "other reply fields are zero or
-- empty": the zero words are the fields of 004's reply before and after its error; an empty text or list is one.
abbrev pub table : List Line
table =
    is 0x900 (Connect ConnectKind.Open) 0 0
    ∷ is 0x901 (Connect ConnectKind.Auth) 0 0
    ∷ is 0x902 (Connect ConnectKind.Close) 0 0
    ∷ is 0x102 (Config ConfigKind.ConnectionType) 0 1
    ∷ is 0x103 (Config ConfigKind.AuthAttributes) 0 1
    ∷ is 0x108 (Config ConfigKind.ServerInfo) 0 4
    ∷ is 0x200 (Scsi ScsiKind.Open) 0 0
    ∷ is 0x201 (Scsi ScsiKind.Close) 0 0
    ∷ is 0x202 (Scsi ScsiKind.State) 0 3
    ∷ is 0x204 (Scsi ScsiKind.Reset) 0 0
    ∷ is 0x206 (Scsi ScsiKind.Cdb) 0 4
    ∷ is 0x300 (Tape TapeKind.Open) 0 0
    ∷ is 0x301 (Tape TapeKind.Close) 0 0
    ∷ is 0x302 (Tape TapeKind.State) 1 9
    ∷ is 0x303 (Tape TapeKind.Mtio) 0 1
    ∷ is 0x304 (Tape TapeKind.Write) 0 1
    ∷ is 0x305 (Tape TapeKind.Read) 0 1
    ∷ is 0x400 (Data DataKind.State) 1 13
    ∷ is 0x401 (Data DataKind.Backup) 0 0
    ∷ is 0x402 (Data DataKind.Recover) 0 0
    ∷ is 0x403 (Joint JointKind.DataAbort) 0 0
    ∷ is 0x404 (Data DataKind.Environment) 0 1
    ∷ is 0x407 (Data DataKind.Stop) 0 0
    ∷ is 0x409 (Data DataKind.Listen) 0 1
    ∷ is 0x40A (Joint JointKind.DataConnect) 0 0
    ∷ is 0xA00 (Mover MoverKind.State) 0 17
    ∷ is 0xA01 (Mover MoverKind.Listen) 0 1
    ∷ is 0xA02 (Mover MoverKind.Continue) 0 0
    ∷ is 0xA03 (Joint JointKind.MoverAbort) 0 0
    ∷ is 0xA04 (Mover MoverKind.Stop) 0 0
    ∷ is 0xA05 (Mover MoverKind.Window) 0 0
    ∷ is 0xA06 (Mover MoverKind.Read) 0 0
    ∷ is 0xA07 (Joint JointKind.MoverClose) 0 0
    ∷ is 0xA08 (Mover MoverKind.Size) 0 0
    ∷ is 0xA09 (Joint JointKind.MoverConnect) 0 0
    ∷ []

-- "1: message number not listed above as handled" is Unknown. The notices' numbers are not requests.
unfoldable pub row_of : ℕ → Row
row_of n = look table n

abbrev pub message_of : ℕ → Message
message_of n = (row_of n).kind
