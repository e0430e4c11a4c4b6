pub mod Painting
pub mod Steps
pub mod Passes
pub mod Least
pub mod Agreement
pub mod Orders
