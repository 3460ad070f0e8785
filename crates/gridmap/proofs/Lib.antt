-- Beside the proofs of the functions: that each contract determines its answer, and what the readers of a map share.
pub mod Determined
pub mod Maps
