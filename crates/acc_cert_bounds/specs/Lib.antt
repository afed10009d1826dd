pub mod InBounds
