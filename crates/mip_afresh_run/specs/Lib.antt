pub mod Hosts
pub mod Forged
pub mod Fitting
pub mod Runs
