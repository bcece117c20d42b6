use Rattle.std.proofs.Common.{rules}
use Rattle.wire_requests.specs.Bodies.{decoded}
use Rattle.wire_requests.proofs.Within.{told}
use Rattle.wire_decoding.proofs.decode.Goals as goal

pub returns-in-Connect : goal.returns-in-Connect
unfolding decoded
returns-in-Connect c = told (rw (c.in-Connect.is, ← c.decode_connect.ensures) (search rules))

pub returns-in-Config : goal.returns-in-Config
unfolding decoded
returns-in-Config c = told (rw (c.in-Config.is, ← c.decode_config.ensures) (search rules))

pub returns-in-Scsi : goal.returns-in-Scsi
unfolding decoded
returns-in-Scsi c = told (rw (c.in-Scsi.is, ← c.decode_scsi.ensures) (search rules))

pub returns-in-Tape : goal.returns-in-Tape
unfolding decoded
returns-in-Tape c = told (rw (c.in-Tape.is, ← c.decode_tape.ensures) (search rules))

pub returns-in-Data : goal.returns-in-Data
unfolding decoded
returns-in-Data c = told (rw (c.in-Data.is, ← c.decode_data.ensures) (search rules))

pub returns-in-Mover : goal.returns-in-Mover
unfolding decoded
returns-in-Mover c = told (rw (c.in-Mover.is, ← c.decode_mover.ensures) (search rules))

pub returns-in-Joint : goal.returns-in-Joint
unfolding decoded
returns-in-Joint c = told (rw (c.in-Joint.is, ← c.decode_joint.ensures) (search rules))

pub returns-in-Unknown : goal.returns-in-Unknown
unfolding decoded
returns-in-Unknown c = told (rw c.in-Unknown.is)
