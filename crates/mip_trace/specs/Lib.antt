pub mod EntryLines
pub mod EntryReading
pub mod Lines
pub mod Faults
pub mod Reading
pub mod Ranges
