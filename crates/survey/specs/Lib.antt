-- The definitions that the contracts cite.
pub mod Codes
pub mod FirstRows
pub mod Hashes
pub mod Lengths
pub mod Printed
pub mod Weights
pub mod WritingBack
