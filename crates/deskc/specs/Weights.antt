-- Weights as a caller in C gives them: numbers that may be wider than a machine's field.
use Rattle.std.specs.Prelude.{ℕ, min}

-- the weight that opening is asked with: one above 65,535 stands as 65,535, which is as much out of range
abbrev pub clamped : ℕ → ℕ
clamped weight = min weight 65535
