pub mod Spelling
pub mod WordReaders
pub mod ValueReaders
pub mod TableReaders
pub mod FormReaders
pub mod ClauseReaders
