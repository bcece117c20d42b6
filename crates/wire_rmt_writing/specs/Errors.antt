-- The errors that the code has by name.
use Rattle.std.specs.Prelude.{ℕ}
use Rattle.wire_rmt.specs.Replies.{io_failed, no_such_device, invalid}
use Rattle.wire_rmt_writing.specs.declared.UnixError.{UnixError}
use Rattle.wire_rmt_writing.specs.declared.UnixError.TheVariants.{IoFailed, NoSuchDevice, Invalid}

-- 001's number of each
abbrev pub number_of : UnixError → ℕ
number_of IoFailed = io_failed
number_of NoSuchDevice = no_such_device
number_of Invalid = invalid
