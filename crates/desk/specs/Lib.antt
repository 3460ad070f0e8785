-- The desk of document 01, call by call: what each hands back and replies, for every input.
pub mod Machine
pub mod Reply
pub mod Fits
pub mod Admission
pub mod Opening
pub mod Take
pub mod Limited
pub mod Bring
pub mod Path
pub mod Calls
pub mod Morning
pub mod CallLaws
pub mod Laws
pub mod StepLaws
pub mod KeyLaws
pub mod ToldLaws
pub mod LimitedLaws
