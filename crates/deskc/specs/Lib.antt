-- The desk behind a C interface: a machine as a row of 32-bit numbers, and what maps and task files come to as numbers.
pub mod Row
pub mod StoredLaws
pub mod Weights
pub mod Calls
pub mod Maps
pub mod Files
pub mod Laws
pub mod LoopLaws
