pub mod Splitting
pub mod Files
