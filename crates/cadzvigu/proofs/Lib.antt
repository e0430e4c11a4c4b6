pub mod Ending
pub mod Copying
