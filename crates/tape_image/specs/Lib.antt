pub mod Image
pub mod Sound
pub mod Place
