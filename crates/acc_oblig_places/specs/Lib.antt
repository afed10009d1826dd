pub mod ManyEntries
pub mod Rooms
pub mod SeenPlaces
pub mod DesignPlaces
