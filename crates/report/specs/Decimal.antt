-- A number in decimal, in ASCII.
use Rattle.std.specs.Prelude.{cond, List, [], ◌∷◌, ◌++◌, ℕ, zero, suc, ◌+◌, ◌/◌, ◌%◌, ltb}
use Prim.Native.Char.{code}

-- a digit as a character
abbrev pub glyph : ℕ → ℕ
glyph digit = code "0" + digit

-- the last digit stands behind the number without it; so many digits at most
unfoldable pub decimal_in : ℕ → ℕ → List ℕ
decimal_in zero n = []
decimal_in (suc more) n =
    let longer = decimal_in more (n / 10) ++ (glyph (n % 10) ∷ []) in
    cond (ltb n 10) (glyph n ∷ []) longer

-- 64 bits take 20 digits at most
abbrev pub decimal : ℕ → List ℕ
decimal n = decimal_in 20 n
