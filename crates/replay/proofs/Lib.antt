pub mod Painted
pub mod Rowed
pub mod Turns
pub mod Own
pub mod Going
pub mod Sweep
