-- A message by its layout. Assumes nothing.
use Prim.Native.Nat.{ℕ}
use mathlib.Core.Path.{◌≡◌, refl}
use mathlib.Core.List.{List}
use Rattle.std.specs.Prelude.{Option, Some, None, option_map}
use Rattle.wire_layouts.specs.declared.Scan.{Scan}
use Rattle.wire_frame.specs.declared.Message.{Message}
use Rattle.wire_requests.specs.Bodies.{connect_of, config_of, scsi_of, tape_of, data_of, mover_of, joint_of, request_of, or_bad, scanned_by, read_by, connect_body, config_body, scsi_body, tape_body, data_body, mover_body, joint_body, decoded}
use Rattle.wire_requests.specs.RoundTrip.{Known}
use Rattle.wire_requests.specs.declared.Request.{Request}
use Rattle.wire_requests.specs.declared.Request.TheVariants.{Connect, Config, Scsi, Tape, Data, Mover, Joint, Bad}

-- the request of an interface, made a request, is that of what was read
of_interface : {R : Type 0} (f : R → Request) (g : Scan → R) (o : Option Scan) → or_bad f (option_map g o) ≡ or_bad (λ k. f (g k)) o
of_interface f g (Some k) = refl
of_interface f g None = refl

-- every message that is handled is read by its layout
pub by_layout : (m : Message) (b : List ℕ) → Known m → decoded m b ≡ read_by m b
unfolding decoded connect_body config_body scsi_body tape_body data_body mover_body joint_body
by_layout (Message.Connect k) b h = of_interface Connect (connect_of k) (scanned_by (Message.Connect k) b)
by_layout (Message.Config k) b h = of_interface Config (config_of k) (scanned_by (Message.Config k) b)
by_layout (Message.Scsi k) b h = of_interface Scsi (scsi_of k) (scanned_by (Message.Scsi k) b)
by_layout (Message.Tape k) b h = of_interface Tape (tape_of k) (scanned_by (Message.Tape k) b)
by_layout (Message.Data k) b h = of_interface Data (data_of k) (scanned_by (Message.Data k) b)
by_layout (Message.Mover k) b h = of_interface Mover (mover_of k) (scanned_by (Message.Mover k) b)
by_layout (Message.Joint k) b h = of_interface Joint (joint_of k) (scanned_by (Message.Joint k) b)
by_layout Message.Unknown b h = absurd h

-- what holds of the request of whatever was kept, and of Bad, holds of the request of a body
or_bad_has : {R : Type 0} (P : Request → Type 0) (f : R → Request) (o : Option R) → ((r : R) → P (f r)) → P Bad → P (or_bad f o)
or_bad_has P f (Some r) h z = h r
or_bad_has P f None h z = z

pub decoded_has : (P : Request → Type 0) (m : Message) (b : List ℕ) → Known m → ((k : Scan) → P (request_of m k)) → P Bad → P (decoded m b)
decoded_has P m b k h z = rw (by_layout m b k) (or_bad_has P (request_of m) (scanned_by m b) h z)
