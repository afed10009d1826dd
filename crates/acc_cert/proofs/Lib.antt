mod Sizes
mod Readings
mod NodeSizes
mod NodeReadings
