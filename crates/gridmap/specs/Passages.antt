-- "Each gets passages to its open neighbours in the order N (the row above), NE, E, SE, S, SW, W, NW, cost 1,000 straight and 1,414 diagonal, a diagonal only where both cells beside it are open."
-- Rows and columns are counted from 1 here, as if a frame of closed cells stood around the map: so every open cell has eight neighbours.
use Rattle.std.specs.Prelude.{Bool, ◌&&◌, ◌||◌, not, cond, List, [], ◌∷◌, ℕ, ◌+◌, ◌*◌, ◌-◌, ◌/◌, ◌%◌, leb, eqb}
use Rattle.laws.specs.Count.{count}
use Rattle.laws.specs.Gather.{gathered}
use Rattle.gridmap.specs.Map.{Map, open_at, cell_of, row_of, column_of, place_of, state_of, state_count}

-- the place of a framed row and column, and whether the cell there is on the map and open
abbrev pub framed : Map → ℕ → ℕ → ℕ
framed m y x = place_of m (y - 1) (x - 1)

unfoldable pub free : Map → ℕ → ℕ → Bool
free m y x = ((leb 1 y && leb y m.height) && (leb 1 x && leb x m.width)) && open_at m (framed m y x)

-- the directions: 0 N, 1 NE, 2 E, 3 SE, 4 S, 5 SW, 6 W, 7 NW
abbrev pub is_diagonal : ℕ → Bool
is_diagonal d = eqb (d % 2) 1

-- one step in a direction: NE, N and NW lead to the row above, SE, S and SW to the row below; NE, E and SE to the next column, SW, W and NW to the one before
unfoldable pub row_to : ℕ → ℕ → ℕ
row_to d y = cond (eqb d 7 || leb d 1) (y - 1) (cond (leb 3 d && leb d 5) (y + 1) y)

unfoldable pub column_to : ℕ → ℕ → ℕ
column_to d x = cond (leb 5 d) (x - 1) (cond (leb 1 d && leb d 3) (x + 1) x)

-- the neighbour is open; and, on a diagonal, so are both cells beside the way to it
unfoldable pub linked : Map → ℕ → ℕ → ℕ → Bool
linked m y x d = free m (row_to d y) (column_to d x) && (not (is_diagonal d) || (free m (row_to d y) x && free m y (column_to d x)))

abbrev pub cost_to : ℕ → ℕ
cost_to d = cond (is_diagonal d) 1414 1000

-- the j-th of all neighbours is that of state j / 8 in direction j % 8
abbrev pub comes_from : ℕ → ℕ
comes_from j = j / 8

abbrev pub heading_at : ℕ → ℕ
heading_at j = j % 8

-- the framed row and column of that state's cell
abbrev pub row_here : Map → ℕ → ℕ
row_here m j = row_of m (cell_of m (comes_from j)) + 1

abbrev pub column_here : Map → ℕ → ℕ
column_here m j = column_of m (cell_of m (comes_from j)) + 1

-- whether a passage leads to the neighbour, and the state that it is
unfoldable pub is_passage : Map → ℕ → Bool
is_passage m j = linked m (row_here m j) (column_here m j) (heading_at j)

unfoldable pub leads_to : Map → ℕ → ℕ
leads_to m j = state_of m (framed m (row_to (heading_at j) (row_here m j)) (column_to (heading_at j) (column_here m j)))

-- from, to, cost; nothing where there is no passage
unfoldable pub passage : Map → ℕ → List ℕ
passage m j = cond (is_passage m j) (comes_from j ∷ leads_to m j ∷ cost_to (heading_at j) ∷ []) []

-- all of them, state by state, and how many they are
unfoldable pub passages_of : Map → List ℕ
passages_of m = gathered (passage m) (8 * state_count m)

unfoldable pub passages_many : Map → ℕ
passages_many m = count (is_passage m) (8 * state_count m)
