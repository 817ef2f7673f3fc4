pub mod Rooms
pub mod Books
