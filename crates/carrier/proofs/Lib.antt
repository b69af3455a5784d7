pub mod Bytes
pub mod Notes
pub mod Plans
