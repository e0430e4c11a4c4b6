pub mod TwoKinds
mod Opening
mod Signs
mod Faces
mod Reading
mod Turning
mod Examples
