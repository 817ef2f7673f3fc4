pub mod Packing
pub mod Standing
pub mod Filling
pub mod Splitting
pub mod WritingBack
