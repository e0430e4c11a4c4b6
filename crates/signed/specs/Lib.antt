pub mod Distances
pub mod Doors
pub mod Fields
pub mod Theorems
pub mod Examples
