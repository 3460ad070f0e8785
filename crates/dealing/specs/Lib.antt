-- "The rule of a step" as far as it compares states: what a Take comes to, before anything is changed.
pub mod Places
pub mod Board
pub mod Seen
pub mod Decision
pub mod Limited
pub mod Laws
pub mod LimitedRowLaws
pub mod LoopLaws
pub mod LimitedLeadLaws
pub mod LimitedOrderLaws
pub mod LimitedLaws
pub mod AsTakeLaws
pub mod LimitedStepLaws
pub mod Standing
