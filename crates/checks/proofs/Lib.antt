-- Beside the proofs of the functions: that each contract determines its answer.
pub mod Determined
