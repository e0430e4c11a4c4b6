mod Pairs
mod Searching
