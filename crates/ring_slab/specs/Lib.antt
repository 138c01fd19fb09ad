pub mod Places
pub mod Slots
pub mod Rings
pub mod Chains
pub mod Holding
pub mod Calls
pub mod Laws
