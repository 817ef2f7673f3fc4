pub mod Layout
pub mod Letters
pub mod Records
pub mod Faults
