pub mod Causes
pub mod Form
pub mod Faults
pub mod Marks
pub mod Promises
