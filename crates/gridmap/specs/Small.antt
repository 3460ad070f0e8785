-- How large the numbers are that a map's head announces.
use Rattle.std.specs.Prelude.{ℕ, ◌≤◌}

-- a head that is right announces no more than 256 rows and columns, and takes 37 bytes at most
pub record Small (height width rows : ℕ) : Type 0 where
  pub high : height ≤ 256
  pub wide : width ≤ 256
  pub near : rows ≤ 37
