-- `Asking` has what a request shows and leaves of the register, `Moving` what a move shows and leaves, `Sequence` what holds over any
-- sequence of calls, `Counts` what the counts are after it, `Endless` windows with no end, `Modes` each call in the other's mode, `FirstSize` the
-- record size from a fresh session on, `Numbering` how cases are run to be computed, `Cases` the computed cases, `Apart` that one end by TCP leaves the other, `TcpMoves` what
-- a move or an event of such an end comes to, `Opened` that no move opens or closes the tape, `Unasked` that calls without a request go by what is announced, `StoreLeft` that they leave the store,
-- `SessionLeft` that they leave the marks, the login and the changer.
pub mod Asking
pub mod Moving
pub mod Sequence
pub mod Counts
pub mod Endless
pub mod Modes
pub mod FirstSize
pub mod Numbering
pub mod Cases
pub mod Apart
pub mod TcpMoves
pub mod Opened
pub mod Unasked
pub mod StoreLeft
pub mod SessionLeft
