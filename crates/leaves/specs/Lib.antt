pub mod Contract
pub mod Put
