pub mod ManyEntries
pub mod Small
pub mod SmallPlaces
pub mod EachPath
