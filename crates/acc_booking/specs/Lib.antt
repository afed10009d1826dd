pub mod BookingText
pub mod Seats
pub mod Asserted
pub mod Law
