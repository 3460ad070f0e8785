-- "Refusal numbers" as far as they speak of a task or of a machine's single parts: opening's checks 1 to 7, and the clauses of "Fits".
pub mod Opening
pub mod Fits
pub mod Laws
