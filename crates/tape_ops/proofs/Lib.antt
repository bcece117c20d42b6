-- `Telling` has the rule set for steps, `Laws` the laws of the operations, `Answering` what they answer, `Reading` that what is read lies in the image, `Promises` what
-- holds of them.
pub mod Telling
pub mod Laws
pub mod Answering
pub mod Reading
pub mod Promises
