pub mod Crc64
pub mod Damage
pub mod Examples
