-- The head of a map's text: "lines `type octile`, `height` and `width` each with one blank and a number from 1 to 256 without leading zeros, `map`, then rows; a line feed ends each line."
use Rattle.std.specs.Prelude.{Bool, ◌&&◌, not, cond, List, ℕ, ◌+◌, ◌*◌, ◌-◌, length, get_or, leb, eqb, Option, Some, None, is_none, unwrap_or}
use Prim.Native.Char.{code}
use Rattle.laws.specs.Fold.{fold}
use Rattle.laws.specs.First.{first}
use Rattle.laws.specs.All.{all}
use Rattle.laws.specs.Ascii.{ascii}

-- the byte at a place; 0 past the end, which stands for nothing in a map
unfoldable pub byte : List ℕ → ℕ → ℕ
byte text i = get_or text i 0

-- a word stands at a place
unfoldable pub is_word : List ℕ → ℕ → List ℕ → Bool
is_word text at word = all (λ i. eqb (byte text (at + i)) (get_or word i 0)) (length word)

-- the digit at a place, if one stands there
unfoldable pub digit : List ℕ → ℕ → Option ℕ
digit text i = cond (leb (code "0") (byte text i) && leb (byte text i) (code "9")) (Some (byte text i - code "0")) None

-- how many digits stand from a place on, three at most
unfoldable pub digits : List ℕ → ℕ → ℕ
digits text at = first (λ i. is_none (digit text (at + i))) 3

-- the number that the first so many digits make
unfoldable pub number : List ℕ → ℕ → ℕ → ℕ
number text at many = fold (λ i v. 10 * v + unwrap_or (digit text (at + i)) 0) 0 many

-- the number that stands at a place
abbrev pub size : List ℕ → ℕ → ℕ
size text at = number text at (digits text at)

-- "a number from 1 to 256 without leading zeros"
unfoldable pub is_size : List ℕ → ℕ → Bool
is_size text at = not (eqb (byte text at) (code "0")) && (leb 1 (size text at) && leb (size text at) 256)

-- where each number stands, and the first row: behind the words, which take 19, 7 and 5 bytes, and the digits before
abbrev pub height_at : ℕ
height_at = 19

unfoldable pub width_at : List ℕ → ℕ
width_at text = height_at + digits text height_at + 7

unfoldable pub rows_at : List ℕ → ℕ
rows_at text = width_at text + digits text (width_at text) + 5

-- 31 "header"
unfoldable pub head_right : List ℕ → Bool
head_right text =
    is_word text 0 (ascii "type octile\nheight ")
    && (is_size text height_at
    && (is_word text (height_at + digits text height_at) (ascii "\nwidth ")
    && (is_size text (width_at text)
    && is_word text (width_at text + digits text (width_at text)) (ascii "\nmap\n"))))
