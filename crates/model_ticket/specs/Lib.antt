pub mod History
pub mod Ticket
