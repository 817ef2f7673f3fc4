pub mod Credits
pub mod Lines
pub mod Maps
