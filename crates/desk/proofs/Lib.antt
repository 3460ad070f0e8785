-- Beside the proofs of the functions: what a call knows past its refusals, and that each contract determines its answer.
pub mod Calls
pub mod Determined
