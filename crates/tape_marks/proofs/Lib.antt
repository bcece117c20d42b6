-- `Marks` has the laws of the marks' numbers and of words that name them, `Jump` those of FSF and BSF by them, `Words` those of a list where it lies.
pub mod Marks
pub mod Jump
pub mod Words
pub mod Cases
