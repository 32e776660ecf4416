pub mod Replicas
pub mod Sendable
pub mod Servable
pub mod Checked
