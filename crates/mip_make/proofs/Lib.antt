pub mod FieldReads
pub mod EventReads
pub mod DrawnReads
pub mod HeadReads
pub mod MadeLaws
pub mod SpellingLaws
pub mod CountingLaws
