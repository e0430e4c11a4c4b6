mod Counting
mod Filing
mod Reading
