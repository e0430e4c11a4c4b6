mod Words
mod NameLines
mod ValueLines
pub mod Lengths
