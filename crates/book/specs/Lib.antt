pub mod Figures
pub mod Faults
pub mod Moves
pub mod Layers
