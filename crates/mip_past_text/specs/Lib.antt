pub mod Answers
pub mod Led
pub mod Subjects
pub mod Text
pub mod Fronts
