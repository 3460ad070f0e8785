-- Beside the proofs of the functions: that each contract determines its answer, and the laws that a function names together.
pub mod Determined
pub mod Rules
