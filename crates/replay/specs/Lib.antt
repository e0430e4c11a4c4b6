pub mod Book
pub mod Jobs
pub mod Runs
pub mod Whole
