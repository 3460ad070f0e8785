-- "Path reading": going back from the goal over passage numbers, and the states so met, start first.
pub mod Trail
pub mod Seen
pub mod Laws
pub mod LoopLaws
