-- What the inner contracts cite: the map of a grid, a word and a number that were read, a row that is right, the states' cells with the estimates between them, and a place with a state.
use Rattle.std.specs.Prelude.{◌≡◌, Bool, true, ◌||◌, cond, List, [], ◌∷◌, ℕ, ◌+◌, ◌*◌, ◌/◌, ◌%◌, ◌<◌, length, get_or, ltb, Option, Some, None}
use Rattle.laws.specs.All.{all}
use Rattle.laws.specs.Fill.{made}
use Rattle.laws.specs.Gather.{gathered}
use Rattle.gridmap.specs.declared.grid.Grid.{Grid}
use Rattle.gridmap.specs.declared.Spot.{Spot}
use Rattle.gridmap.specs.Text.{is_word, digits, size, is_size}
use Rattle.gridmap.specs.Map.{Map, byte_at, is_open, is_closed, stride, places, place_right, open_at, cell_of, row_of, column_of, place_of, state_count}
use Rattle.gridmap.specs.Estimates.{gap, octile}

-- the map of a text with a head that was read
abbrev pub map_with : Grid → Map
map_with g = record { text = g.text.now; height = g.height; width = g.width; rows = g.rows }

-- the place behind a word, where the word stands; and a number from 1 to 256 with the place behind it, where one stands
abbrev pub word_read : List ℕ → ℕ → List ℕ → Option ℕ
word_read text at word = cond (is_word text at word) (Some (at + length word)) None

abbrev pub size_read : List ℕ → ℕ → Option (ℕ × ℕ)
size_read text at = cond (is_size text at) (Some (size text at, at + digits text at)) None

-- 32 of one cell and of one row: so many cells and a line feed
abbrev pub cell_right : Map → ℕ → Bool
cell_right m p = is_open (byte_at m p) || is_closed (byte_at m p)

unfoldable pub row_right : Map → ℕ → Bool
row_right m row = all (λ column. place_right m (place_of m row column)) (stride m)

-- the place of a state's cell, if there is such a state
abbrev pub cell_found : Map → ℕ → Option ℕ
cell_found m s = cond (ltb s (state_count m)) (Some (cell_of m s)) None

-- the row and the column of a place
abbrev pub spot_at : Map → ℕ → Spot
spot_at m p = record { row = row_of m p; column = column_of m p }

-- those of the open places, in their order: of the states' cells
abbrev pub spot_piece : Map → ℕ → List Spot
spot_piece m p = cond (open_at m p) (spot_at m p ∷ []) []

unfoldable pub spots_of : Map → List Spot
spots_of m = gathered (spot_piece m) (places m)

abbrev pub origin : Spot
origin = record { row = 0; column = 0 }

abbrev pub spot_in : List Spot → ℕ → Spot
spot_in spots s = get_or spots s origin

-- the estimate between two cells, and between these cells, h(a,b) at a × n + b
abbrev pub apart : Spot → Spot → ℕ
apart a b = octile (gap a.row b.row) (gap a.column b.column)

abbrev pub apart_from : Spot → List Spot → ℕ → ℕ
apart_from from spots b = apart from (spot_in spots b)

unfoldable pub table_of : List Spot → List ℕ
table_of spots = made (λ i. apart (spot_in spots (i / length spots)) (spot_in spots (i % length spots))) (length spots * length spots)

-- a row and a column with a state: those of an open cell
pub record OpenSpot (m : Map) (spot : Spot) : Type 0 where
  pub row_on : spot.row < m.height
  pub column_on : spot.column < stride m
  pub cell : open_at m (place_of m spot.row spot.column) ≡ true
