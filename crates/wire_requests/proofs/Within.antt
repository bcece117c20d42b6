-- The texts of a decoded request lie within its body. Assumes nothing.
use Prim.Native.Nat.{ℕ}
use mathlib.Core.Path.{◌≡◌, refl}
use Rattle.std.specs.Prelude.{Option, Some, None}
use mathlib.Core.List.{List}
use lib.Dec.{eqb}
use Rattle.codes.specs.Codes.{md5_auth}
use Rattle.xdr.proofs.Tests.{by_test}
use Rattle.wire_layouts.specs.declared.Scan.{Scan}
use Rattle.wire_layouts.proofs.Within.{TextsIn, texts_in}
use Rattle.wire_frame.specs.declared.ConnectKind.TheVariants as ConnectKind
use Rattle.wire_frame.specs.declared.ConfigKind.TheVariants as ConfigKind
use Rattle.wire_frame.specs.declared.ScsiKind.TheVariants as ScsiKind
use Rattle.wire_frame.specs.declared.TapeKind.TheVariants as TapeKind
use Rattle.wire_frame.specs.declared.DataKind.TheVariants as DataKind
use Rattle.wire_frame.specs.declared.MoverKind.TheVariants as MoverKind
use Rattle.wire_frame.specs.declared.JointKind.TheVariants as JointKind
use Rattle.wire_frame.specs.declared.Message.{Message}
use Rattle.wire_requests.specs.Bodies.{word_of, layout_of, request_of, or_bad, scanned_by, decoded}
use Rattle.wire_requests.specs.RoundTrip.{Known}
use Rattle.wire_requests.proofs.Laws.{by_layout}
use Rattle.wire_requests.specs.Within.{texts_within, Decoded}
use Rattle.wire_requests.specs.declared.ConnectRequest.{ConnectRequest}
use Rattle.wire_requests.specs.declared.Request.{Request}
use Rattle.wire_requests.specs.declared.Request.TheVariants.{Connect}

-- the texts of a request are those that were kept
of_kept : (b : List ℕ) (m : Message) (k : Scan) → TextsIn b k → texts_within b (request_of m k)
unfolding texts_within
of_kept b (Message.Connect ConnectKind.Open) k h = tt
of_kept b (Message.Connect ConnectKind.Auth) k h =
    let P : ConnectRequest → Type 0 = λ q. texts_within b (Connect q) in
    by_test P (eqb (word_of k 0) md5_auth) _ _ (λ e. (h _, h _)) (λ e. tt)
of_kept b (Message.Connect ConnectKind.Close) k h = tt
of_kept b (Message.Config ConfigKind.ConnectionType) k h = tt
of_kept b (Message.Config ConfigKind.AuthAttributes) k h = tt
of_kept b (Message.Config ConfigKind.ServerInfo) k h = tt
of_kept b (Message.Scsi ScsiKind.Open) k h = h _
of_kept b (Message.Scsi ScsiKind.Close) k h = tt
of_kept b (Message.Scsi ScsiKind.State) k h = tt
of_kept b (Message.Scsi ScsiKind.Reset) k h = tt
of_kept b (Message.Scsi ScsiKind.Cdb) k h = h _
of_kept b (Message.Tape TapeKind.Open) k h = h _
of_kept b (Message.Tape TapeKind.Close) k h = tt
of_kept b (Message.Tape TapeKind.State) k h = tt
of_kept b (Message.Tape TapeKind.Mtio) k h = tt
of_kept b (Message.Tape TapeKind.Write) k h = h _
of_kept b (Message.Tape TapeKind.Read) k h = tt
of_kept b (Message.Data DataKind.State) k h = tt
of_kept b (Message.Data DataKind.Backup) k h = h _
of_kept b (Message.Data DataKind.Recover) k h = h _
of_kept b (Message.Data DataKind.Environment) k h = tt
of_kept b (Message.Data DataKind.Stop) k h = tt
of_kept b (Message.Data DataKind.Listen) k h = tt
of_kept b (Message.Mover MoverKind.State) k h = tt
of_kept b (Message.Mover MoverKind.Listen) k h = tt
of_kept b (Message.Mover MoverKind.Continue) k h = tt
of_kept b (Message.Mover MoverKind.Stop) k h = tt
of_kept b (Message.Mover MoverKind.Window) k h = tt
of_kept b (Message.Mover MoverKind.Read) k h = tt
of_kept b (Message.Mover MoverKind.Size) k h = tt
of_kept b (Message.Joint JointKind.DataAbort) k h = tt
of_kept b (Message.Joint JointKind.DataConnect) k h = tt
of_kept b (Message.Joint JointKind.MoverAbort) k h = tt
of_kept b (Message.Joint JointKind.MoverClose) k h = tt
of_kept b (Message.Joint JointKind.MoverConnect) k h = tt
of_kept b Message.Unknown k h = tt

of_read : (b : List ℕ) (m : Message) (o : Option Scan) → scanned_by m b ≡ o → texts_within b (or_bad (request_of m) o)
unfolding texts_within
of_read b m (Some k) e = of_kept b m k (texts_in (layout_of m b) b k e)
of_read b m None e = tt

unknown : (b : List ℕ) → texts_within b (decoded Message.Unknown b)
unfolding decoded texts_within
unknown b = tt

by_message : (m : Message) (b : List ℕ) → Known m → texts_within b (decoded m b)
by_message m b h = rw (by_layout m b h) (of_read b m (scanned_by m b) refl)

pub texts_within_lem : (m : Message) (b : List ℕ) → texts_within b (decoded m b)
texts_within_lem (Message.Connect k) b = by_message (Message.Connect k) b tt
texts_within_lem (Message.Config k) b = by_message (Message.Config k) b tt
texts_within_lem (Message.Scsi k) b = by_message (Message.Scsi k) b tt
texts_within_lem (Message.Tape k) b = by_message (Message.Tape k) b tt
texts_within_lem (Message.Data k) b = by_message (Message.Data k) b tt
texts_within_lem (Message.Mover k) b = by_message (Message.Mover k) b tt
texts_within_lem (Message.Joint k) b = by_message (Message.Joint k) b tt
texts_within_lem Message.Unknown b = unknown b

-- what `decode` promises, by which request it is
pub told : {m : Message} {b : List ℕ} {r : Request} → r ≡ decoded m b → Decoded m b r
told {m} {b} e = record { is = e; within = rw e (texts_within_lem m b) }
