pub mod Sure
pub mod Credit
pub mod Room
pub mod Worked
