pub mod Device
pub mod Remarks
pub mod Word
