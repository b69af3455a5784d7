pub mod Survives
