pub mod Credits
pub mod Books
