pub mod Shares
pub mod Worked
pub mod Soundness
