pub mod WordLaws
pub mod EntryLaws
pub mod EntryAgain
pub mod Walking
pub mod TraceLaws
pub mod WrittenLaws
pub mod HeardLaws
