pub mod Reading
pub mod Parsing
pub mod Writing
pub mod Laws
