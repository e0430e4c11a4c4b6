pub mod Writing
pub mod RowWork
