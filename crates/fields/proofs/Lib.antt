pub mod Distances
pub mod Painting
pub mod StepUp
pub mod Passing
pub mod Least
pub mod Agreement
pub mod Orders
