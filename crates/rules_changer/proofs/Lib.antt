-- `Along`: a call leaves the slot list, or does one move, and so the lists of moves of changer_elements are those of all calls.
pub mod Along
