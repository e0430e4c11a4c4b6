pub mod Statuses
pub mod Doors
pub mod Nearests
pub mod Skins
pub mod Theorems
