-- What it is for a contract to determine its answer.
pub mod Fixes
