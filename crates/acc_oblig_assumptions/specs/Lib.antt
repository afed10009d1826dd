pub use Rattle.acc_oblig.specs.Drafts
pub use Rattle.acc_oblig.specs.Naming as ObligNaming
pub use Rattle.acc_oblig.specs.PointRules
pub use Rattle.acc_oblig.specs.Settings
pub use Rattle.acc_oblig.specs.declared.naming.Naming
pub use Rattle.acc_oblig_places.specs.DesignPlaces
pub use Rattle.acc_oblig_places.specs.Rooms
pub use Rattle.acc_oblig_places.specs.SeenPlaces
pub use Rattle.acc_oblig_places.specs.declared.places.PathPlace
pub use Rattle.acc_oblig_places.specs.declared.places.PointPlace
pub mod Extremes
pub mod Quotients
pub mod Seen
