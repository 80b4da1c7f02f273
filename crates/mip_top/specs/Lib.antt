pub mod Answers
pub mod Given
pub mod Serving
pub mod Obeyed
pub mod Endings
