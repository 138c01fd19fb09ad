pub mod Words
pub mod Cuts
pub mod Digits
pub mod Fields
pub mod Faults
pub mod Statements
pub mod Lines
