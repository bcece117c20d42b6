-- `Reading` says that a connect by TCP gives the addresses that the decoder reads.
pub mod Reading
