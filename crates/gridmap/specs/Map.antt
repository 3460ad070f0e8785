-- The rows of a map as cells, and which state each open cell is.
-- A place counts the bytes of the rows from the first row on, line feeds too: row r, column c is the place r × (width + 1) + c.
use Rattle.std.specs.Prelude.{Bool, ◌&&◌, ◌||◌, cond, List, ℕ, ◌+◌, ◌*◌, ◌/◌, ◌%◌, length, get_or, leb, eqb}
use Prim.Native.Char.{code}
use Rattle.laws.specs.All.{all}
use Rattle.laws.specs.Count.{count}
use Rattle.laws.specs.Gather.{picked}
use Rattle.gridmap.specs.Text.{byte, size, height_at, width_at, rows_at}

-- a map: its text, how high and wide it is, and where its first row begins
pub record Map : Type 0 where
  pub text : List ℕ
  pub height : ℕ
  pub width : ℕ
  pub rows : ℕ

-- the map that a text's head announces
unfoldable pub map_of : List ℕ → Map
map_of text = record { text = text; height = size text height_at; width = size text (width_at text); rows = rows_at text }

-- how many bytes a row takes with its line feed, and all rows
abbrev pub stride : Map → ℕ
stride m = m.width + 1

abbrev pub places : Map → ℕ
places m = m.height * stride m

-- the row and the column of a place, and back
abbrev pub row_of : Map → ℕ → ℕ
row_of m p = p / stride m

abbrev pub column_of : Map → ℕ → ℕ
column_of m p = p % stride m

abbrev pub place_of : Map → ℕ → ℕ → ℕ
place_of m row column = row * stride m + column

abbrev pub byte_at : Map → ℕ → ℕ
byte_at m p = byte m.text (m.rows + p)

-- "`.` and `G` are open, `@`, `O` and `T` closed, other characters refused"
unfoldable pub is_open : ℕ → Bool
is_open b = eqb b (code ".") || eqb b (code "G")

unfoldable pub is_closed : ℕ → Bool
is_closed b = eqb b (code "@") || (eqb b (code "O") || eqb b (code "T"))

-- 32 "row length, row count or character": each row is so many cells and a line feed, and nothing comes after the last
abbrev pub place_right : Map → ℕ → Bool
place_right m p = cond (eqb (column_of m p) m.width) (eqb (byte_at m p) (code "\n")) (is_open (byte_at m p) || is_closed (byte_at m p))

unfoldable pub rows_right : Map → Bool
rows_right m = eqb (length m.text) (m.rows + places m) && all (place_right m) (places m)

-- an open cell
unfoldable pub open_at : Map → ℕ → Bool
open_at m p = is_open (byte_at m p)

-- "Open cells are numbered row by row": the places of the open cells in their order; state s is the one at s
unfoldable pub cells : Map → List ℕ
cells m = picked (open_at m) (places m)

abbrev pub cell_of : Map → ℕ → ℕ
cell_of m s = get_or (cells m) s 0

-- the state of an open cell: how many open cells come before it
unfoldable pub state_of : Map → ℕ → ℕ
state_of m p = count (open_at m) p

-- 33 "no open cell or more than 256"
unfoldable pub state_count : Map → ℕ
state_count m = count (open_at m) (places m)

unfoldable pub count_right : Map → Bool
count_right m = leb 1 (state_count m) && leb (state_count m) 256
