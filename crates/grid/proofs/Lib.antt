pub mod Places
pub mod Doors
pub mod RowCells
pub mod RowDoors
pub mod Rows
