pub mod Acts
pub mod SignRuns
pub mod Apt
