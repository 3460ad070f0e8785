-- "Records, all little-endian": numbers of so many bytes, as they are read and as they are written.
use Rattle.std.specs.Prelude.{List, [], ◌∷◌, ℕ, zero, suc, ◌+◌, ◌*◌, ◌/◌, ◌%◌, get_or}

abbrev pub byte : List ℕ → ℕ → ℕ
byte file at = get_or file at 0

-- the number that stands in so many bytes from a place on, the lowest first
unfoldable pub number_at : ℕ → List ℕ → ℕ → ℕ
number_at zero file at = 0
number_at (suc width) file at = byte file at + 256 * number_at width file (at + 1)

abbrev pub word : List ℕ → ℕ → ℕ
word file at = number_at 2 file at

abbrev pub long : List ℕ → ℕ → ℕ
long file at = number_at 4 file at

-- the bytes of a number, the lowest first
unfoldable pub bytes_of : ℕ → ℕ → List ℕ
bytes_of zero x = []
bytes_of (suc width) x = x % 256 ∷ bytes_of width (x / 256)

-- the first number that so many bytes can't hold
unfoldable pub beyond : ℕ → ℕ
beyond zero = 1
beyond (suc width) = 256 * beyond width
