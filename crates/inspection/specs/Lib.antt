pub mod Verdicts
pub mod Refused
pub mod Sums
pub mod Sessions
pub mod Runs
pub mod Printed
