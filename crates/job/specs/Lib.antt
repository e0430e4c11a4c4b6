pub mod Cells
pub mod Doors
pub mod Changes
pub mod Moves
