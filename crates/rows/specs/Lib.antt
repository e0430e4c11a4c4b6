pub mod Passes
pub mod Stacks
