pub mod OwnWords
pub mod EntryLaws
pub mod TypeLaws
pub mod WholeLaws
pub mod SpelledStatements
