-- Task files both ways: what was written is read, and what was read is written. `BothWays` has the statement and is what a reader has to believe; the other files prove it.
pub mod BothWays
pub mod Standing
pub mod Fields
pub mod Layout
pub mod Told
pub mod Scanning
pub mod Seen
pub mod Slices
pub mod Back
pub mod Again
pub mod Replies
pub mod Proved
