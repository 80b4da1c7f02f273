pub mod Bound
pub mod ObeyedLaws
pub mod EndingLaws
pub mod AuditedLaws
pub mod Endings
