pub mod Faults
pub mod Pages
pub mod Books
pub mod Lengths
