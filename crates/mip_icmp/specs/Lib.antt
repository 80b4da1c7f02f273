pub mod Fields
pub mod Walk
pub mod WalkLaws
pub mod Options
pub mod Said
pub mod Reading
pub mod Spelling
pub mod SpellingLaws
