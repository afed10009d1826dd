pub mod Placed
pub mod Turns
pub mod Found
pub mod TypeParts
pub mod Firsts
pub mod Lengths
