pub mod Headers
pub mod Loop
pub mod Bytes
pub mod Sound
pub mod Unique
