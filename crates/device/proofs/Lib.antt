pub mod Cuts
pub mod Stores
pub mod Words
