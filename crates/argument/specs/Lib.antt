-- The safety argument of the route desk, once for every order, over a view of a machine: the numbers that it has of each state, and nothing else.
-- No machine, no list of states and no reply stands here: a call is shown elsewhere to be a list of steps, and `Good` says what follows from that.
pub mod Route
pub mod View
pub mod Front
pub mod Moves
pub mod Chain
pub mod Steps
pub mod StepMoves
pub mod StepGrows
pub mod Good
pub mod Tally
