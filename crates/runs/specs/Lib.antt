-- Two tables, each under one claim, proved by computing the definitions that the contracts cite: the starred runs, and single sentences of the documents.
pub mod Definitions
pub mod Tasks
pub mod Runs
pub mod Made
pub mod Steps
pub mod Limits
pub mod Keys
pub mod Refusals
pub mod Files
pub mod Sentences
