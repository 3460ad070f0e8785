-- What a run of `deskrun` comes to.
pub mod Run
