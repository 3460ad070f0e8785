-- Definitions of bounded loops and their laws, with the laws on truth values, signed differences, tables and parts of lists that the proofs share.
-- Nothing here knows of a desk.
pub mod Truth
pub mod Fold
pub mod First
pub mod Least
pub mod Count
pub mod LargestLaws
pub mod All
pub mod Chains
pub mod Ranges
pub mod Table
pub mod Difference
pub mod Part
pub mod Fill
pub mod Gather
pub mod Put
pub mod Map
pub mod Ascii
