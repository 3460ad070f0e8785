-- What document 01 says of single numbers: how passages and estimates are read, what the marks mean, and the rule of a step on two states.
pub mod Task
pub mod Marks
pub mod Rule
pub mod Refusals
pub mod Laws
