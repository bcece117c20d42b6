-- `Variables`: what an accepted start and an accepted stop leave, that every call between keeps it, and what 0x404 then answers.
pub mod Variables
