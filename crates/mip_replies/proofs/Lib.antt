pub mod NoneTold
pub mod TraceTold
pub mod ClaimsTold
pub mod AuditLaws
