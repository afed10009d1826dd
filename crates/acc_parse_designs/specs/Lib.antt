pub mod OwnWords
pub mod Texts
pub mod EntryReaders
pub mod DesignReaders
