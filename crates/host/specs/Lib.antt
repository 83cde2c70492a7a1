pub mod Owners
pub mod Seats
pub mod Settles
