pub mod Laws
pub mod Numbered
pub mod Greys
pub mod Negatives
pub mod Faces
pub mod Kinds
pub mod Doors
pub mod Theorems
