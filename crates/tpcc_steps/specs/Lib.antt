pub mod Shipped
pub mod ShippedText
pub mod Law
