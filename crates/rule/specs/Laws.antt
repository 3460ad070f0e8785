-- What the functions over single numbers and the two slices rest on: a whole table, and independence without a subtraction.
use Rattle.std.specs.Prelude.{◌≡◌, List, ℕ, ◌+◌, ◌*◌, ◌≤◌, length, leb}
use Rattle.laws.specs.Difference.{pos_sub, hundred_sub, le_sub}
use Rattle.rule.specs.Rule.{independent}

-- the table is whole: what reading a cell asks
pub record WholeTable (estimates : List ℕ) (n : ℕ) : Type 0 where
  pub states : n ≤ 256
  pub table : length estimates ≡ n * n

-- independence in numbers that are never negative
pub independent_is : (labelS labelT excess h : ℕ) → independent labelS labelT excess h ≡ leb (100 * labelS) (100 * labelT + excess * h)
unfolding independent
independent_is labelS labelT excess h = rw (pos_sub labelS labelT, hundred_sub labelS labelT) (le_sub (100 * labelS) (100 * labelT) (excess * h))
