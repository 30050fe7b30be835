pub mod Fields
pub mod Tabulate
pub mod Nodes
pub mod Around
