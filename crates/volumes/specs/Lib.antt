pub mod Words
pub mod Volumes
pub mod Files
pub mod Summaries
