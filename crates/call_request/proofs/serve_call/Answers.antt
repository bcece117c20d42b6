use Rattle.xdr.specs.Choose.{choose}
use Rattle.rules.specs.Answer.{outcome, is_close, settled, refusing, is_unread}
use Rattle.call_request.proofs.serve_call.Goals as goal

pub connect_call-requires : goal.connect_call-requires
connect_call-requires c = let c8 = c in
    (c8.requires.0, rw c.in-Connect.is at c8.requires.1)

pub config_call-requires : goal.config_call-requires
config_call-requires c = c.requires.0

pub scsi_call-requires : goal.scsi_call-requires
scsi_call-requires c = let c8 = c in
    (c8.requires.0, rw c.in-Scsi.is at c8.requires.1)

pub tape_call-requires : goal.tape_call-requires
tape_call-requires c = let c8 = c in (
  c8.requires.0,
  rw c.in-Tape.is at
      c8.requires.1,
)

pub data_call-requires : goal.data_call-requires
data_call-requires c = let c8 = c in (
  c8.requires.0,
  rw c.in-Data.is at
      c8.requires.1,
  c8.requires.2,
)

pub mover_call-requires : goal.mover_call-requires
mover_call-requires c = let c8 = c in
    c8.requires.0

pub joint_call-requires : goal.joint_call-requires
joint_call-requires c = let c8 = c in
    c8.requires.0

pub header_call-requires : goal.header_call-requires
header_call-requires c = let c8 = c in
    c8.requires.0

pub header_call-requires-in-Bad : goal.header_call-requires-in-Bad
header_call-requires-in-Bad c = let c8 = c in
    c8.requires.0

pub returns-in-Connect : goal.returns-in-Connect
unfolding outcome is_close choose
returns-in-Connect c = rw c.in-Connect.is (c.connect_call.ensures _ _)

pub returns-in-Config : goal.returns-in-Config
unfolding outcome is_close choose
returns-in-Config c = rw c.in-Config.is (c.config_call.ensures _ _)

pub returns-in-Scsi : goal.returns-in-Scsi
unfolding outcome is_close choose
returns-in-Scsi c = rw c.in-Scsi.is (c.scsi_call.ensures _ _)

pub returns-in-Tape : goal.returns-in-Tape
unfolding outcome is_close choose
returns-in-Tape c = let c8 = c in
    rw c8.in-Tape.is (c.tape_call.ensures _)

pub returns-in-Data : goal.returns-in-Data
unfolding outcome is_close choose
returns-in-Data c = let c8 = c in
    rw c8.in-Data.is (c.data_call.ensures _)

pub returns-in-Mover : goal.returns-in-Mover
unfolding outcome is_close choose
returns-in-Mover c = rw c.in-Mover.is (c.mover_call.ensures _ _)

pub returns-in-Joint : goal.returns-in-Joint
unfolding outcome is_close choose
returns-in-Joint c = rw c.in-Joint.is (c.joint_call.ensures _ _)

pub returns-in-Unknown : goal.returns-in-Unknown
unfolding outcome is_close settled refusing is_unread choose
returns-in-Unknown c = rw c.in-Unknown.is (c.header_call.ensures _ _)

pub returns-in-Bad : goal.returns-in-Bad
unfolding outcome is_close settled refusing is_unread choose
returns-in-Bad c = rw c.in-Bad.is (c.header_call-in-Bad.ensures _ _)
