-- The lemmas that several proofs share.
pub mod Gathering
pub mod Table
