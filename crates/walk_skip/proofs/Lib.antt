pub mod Near
pub mod Spans
pub mod Rooms
