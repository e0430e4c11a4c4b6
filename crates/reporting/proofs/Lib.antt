mod Roots
mod Reporting
