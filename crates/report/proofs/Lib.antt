-- Beside the proofs of the functions: that each contract determines its answer, and the laws on what a file comes to.
pub mod Determined
pub mod StatusLaws
