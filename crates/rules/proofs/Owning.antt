-- A record's request is one of its service: what a message's body is read to is a request of that message's service, or does not decode. Assumes nothing.
use Prim.Native.Nat.{ℕ}
use mathlib.Core.List.{List}
use Rattle.std.specs.Prelude.{Option, Some, None}
use Rattle.wire_frame.specs.declared.Message.{Message}
use Rattle.wire_frame.specs.declared.Message.TheVariants as Message
use Rattle.wire_requests.specs.Bodies.{or_bad, scsi_body, tape_body, data_body, mover_body, decoded}
use Rattle.wire_requests.specs.declared.DataRequest.{DataRequest}
use Rattle.wire_requests.specs.declared.MoverRequest.{MoverRequest}
use Rattle.wire_requests.specs.declared.TapeRequest.{TapeRequest}
use Rattle.wire_requests.specs.declared.ScsiRequest.{ScsiRequest}
use Rattle.wire_requests.specs.declared.Request.{Request}
use Rattle.wire_requests.specs.declared.Request.TheVariants as Request
use Rattle.rules.specs.Order.{Service, DataService, TapeService, ScsiService, JointService, ControlService, service_of}

-- the requests of a service; of the joint and the control ones nothing is said
pub data Owned : Service → Request → Type 0 where
  of_data : (q : DataRequest) → Owned DataService (Request.Data q)
  of_tape : (q : TapeRequest) → Owned TapeService (Request.Tape q)
  of_mover : (q : MoverRequest) → Owned TapeService (Request.Mover q)
  of_scsi : (q : ScsiRequest) → Owned ScsiService (Request.Scsi q)
  of_joint : (q : Request) → Owned JointService q
  of_control : (q : Request) → Owned ControlService q
  unknown : (d : Service) → Owned d Request.Unknown
  bad : (d : Service) → Owned d Request.Bad

-- a body is read to a request of its interface, or does not decode
read_owned : {R : Type 0} (d : Service) (f : R → Request) (o : Option R) → ((q : R) → Owned d (f q)) → Owned d (or_bad f o)
read_owned d f (Some q) h = h q
read_owned d f None h = bad d

pub owned : (m : Message) (n : ℕ) (b : List ℕ) → Owned (service_of m n) (decoded m b)
unfolding service_of decoded
owned (Message.Connect k) n b = of_control _
owned (Message.Config k) n b = of_control _
owned (Message.Scsi k) n b = read_owned ScsiService Request.Scsi (scsi_body k b) of_scsi
owned (Message.Tape k) n b = read_owned TapeService Request.Tape (tape_body k b) of_tape
owned (Message.Data k) n b = read_owned DataService Request.Data (data_body k b) of_data
owned (Message.Mover k) n b = read_owned TapeService Request.Mover (mover_body k b) of_mover
owned (Message.Joint k) n b = of_joint _
owned Message.Unknown n b = unknown _
