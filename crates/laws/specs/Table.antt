-- A place in a square table: the row's start plus the column stays inside.
-- Assumes nothing.
use Rattle.std.specs.Prelude.{ℕ, zero, suc, ◌+◌, ◌*◌, ◌/◌, ◌%◌, ◌≤◌, ◌<◌}
use Rattle.std.proofs.Common.{mul-le-mul, mod-lt, div-lt_iff_lt-mul, arith}
use Rattle.std.proofs.Math.Arith.{digits_lt}

-- row a, column b of an n by n table, n at most 256
pub record Cell (a b n : ℕ) : Type 0 where
  pub inside : a * n + b < n * n
  pub small : n * n ≤ 65536

pub cell : (a b n : ℕ) → a < n → b < n → n ≤ 256 → Cell a b n
cell a b n p q h = record { inside = digits_lt p q; small = mul-le-mul h h }

-- and back: the row and the column of a place
pub square_some : (n i : ℕ) → i < n * n → 0 < n
square_some zero i l = omega arith
square_some (suc n) i l = omega arith

pub square_row : (n i : ℕ) → i < n * n → i / n < n
square_row n i l = (div-lt_iff_lt-mul (square_some n i l)).1 l

pub square_column : (n i : ℕ) → i < n * n → i % n < n
square_column n i l = mod-lt i (square_some n i l)
