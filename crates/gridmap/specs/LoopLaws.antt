-- Steps of loops over these definitions: the head's digits, the bytes of a row one by one, the rows one by one, and a search by halving of the cells.
-- Assumes nothing.
use Rattle.std.specs.Prelude.{◌≡◌, Bool, true, false, ◌||◌, List, ℕ, ◌+◌, ◌*◌, ◌≤◌, ◌<◌, length, get_or, eqb}
use Rattle.std.proofs.Math.Path.{refl, sym}
use Rattle.std.proofs.Common.{◌∙◌, ap, true≢false, mul-le-mul, arith, eqb-true, eq-eqb}
use Rattle.std.proofs.Math.Decide.{dec_le}
use Prim.Native.Char.{code}
use Rattle.laws.specs.All.{all, all_more, all_lost, all_at, all_of}
use Rattle.laws.specs.First.{first, first_passes, first_before}
use Rattle.laws.specs.Count.{count_max, count_before}
use Rattle.laws.specs.Part.{overlaid}
use Rattle.laws.specs.Fill.{overlaid_at}
use Rattle.laws.specs.Put.{Put}
use Rattle.laws.specs.Gather.{gathered, picked_length, picked_first}
use Rattle.gridmap.specs.Small.{Small}
use Rattle.gridmap.specs.Text.{digits, number, size, height_at, width_at, rows_at}
use Rattle.gridmap.specs.Map.{Map, map_of, stride, places, byte_at, is_open, is_closed, place_right, open_at, cells, cell_of, row_of, column_of, place_of, state_of, state_count}
use Rattle.gridmap.specs.Passages.{framed, row_to, column_to, heading_at, row_here, column_here, is_passage, passage}
use Rattle.gridmap.specs.Laws.{row_right}
use Rattle.gridmap.specs.CellLaws.{row_in, column_in, place_split, place_in, place_column, feed_is, cell_is, cell_in, cell_open, cell_state}
use Rattle.gridmap.specs.NeighbourLaws.{Free, framed_in, framed_state}
use Rattle.gridmap.specs.PassageLaws.{pieces_length}
use Rattle.gridmap.specs.RowLaws.{end_at}

-- what the numbers of a head that were read make is the map that the text announces
width_at_lem : (text : List ℕ) (a : ℕ) → a ≡ digits text height_at → 26 + a ≡ width_at text
unfolding width_at
width_at_lem text a e = omega arith

rows_at_lem : (text : List ℕ) (a b : ℕ) → a ≡ digits text height_at → b ≡ digits text (width_at text) → 31 + a + b ≡ rows_at text
unfolding rows_at
rows_at_lem text a b e q = omega (arith, width_at_lem text a e)

pub head_is : (text : List ℕ) (a b y x : ℕ) → a ≡ digits text height_at → b ≡ digits text (26 + a) → y ≡ number text height_at a → x ≡ number text (26 + a) b
    → record { text = text; height = y; width = x; rows = 31 + a + b } ≡ map_of text
unfolding map_of
head_is text a b y x ea eb ey ex =
    let w = width_at_lem text a ea in
    let q : b ≡ digits text (width_at text) = eb ∙ ap (digits text) w in
    let high : y ≡ size text height_at = ey ∙ ap (number text height_at) ea in
    let wide : x ≡ size text (width_at text) = ex ∙ rw (w, q) in
    rw (high, wide, rows_at_lem text a b ea q)

-- a list that never falls, and a place of it that holds a number
abbrev pub Ascending : List ℕ → Type 0
Ascending l = (i j : ℕ) → i ≤ j → j < length l → get_or l i 0 ≤ get_or l j 0

abbrev pub holds : List ℕ → ℕ → ℕ → Bool
holds l v i = eqb (get_or l i 0) v

-- 256 rows of 256 cells and a line feed at most
pub places_most : (m : Map) → Small m.height m.width m.rows → places m ≤ 65792
places_most m s = let high : m.height ≤ 256 = s.high in let wide : m.width + 1 ≤ 257 = omega (arith, s.wide) in mul-le-mul high wide

module _ (m : Map) where
  -- what a byte that was read says of its place
  pub open_is : (p b : ℕ) → b ≡ byte_at m p → (t : Bool) → t ≡ is_open b → open_at m p ≡ t
  unfolding open_at
  open_is p b e t q = rw (← e) (sym q)

  -- the same of the place of a row and a column: the last byte of a row is its line feed
  module _ (row : ℕ) where
    pub cell_at : (column b : ℕ) → column < m.width → b ≡ byte_at m (place_of m row column) → place_right m (place_of m row column) ≡ is_open b || is_closed b
    cell_at column b l e = cell_is m (place_of m row column) b e (λ q. omega (arith, place_column m row column (omega arith)))

    pub row_ended : (column b : ℕ) → all (λ c. place_right m (place_of m row c)) column ≡ true → column ≤ m.width → m.width ≤ column → b ≡ byte_at m (place_of m row m.width) → eqb b (code "\n") ≡ row_right m row
    unfolding row_right
    row_ended column b e h k q = go (eqb b (code "\n")) (feed_is m (place_of m row m.width) b q (place_column m row m.width (omega arith)))
      where
        last : column ≡ m.width
        last = omega arith

        go : (t : Bool) → place_right m (place_of m row m.width) ≡ t → t ≡ all (λ c. place_right m (place_of m row c)) (m.width + 1)
        go true f = sym (all_more (λ c. place_right m (place_of m row c)) m.width (rw last at e) f)
        go false f = all_lost (λ c. place_right m (place_of m row c)) m.width f

  -- every place is right where every row is
  pub rows_pass : all (row_right m) m.height ≡ true → true ≡ all (place_right m) (places m)
  unfolding row_right
  rows_pass e =
      sym (all_of (place_right m) (places m)
      (λ p l. rw (place_split m p) at (all_at (λ c. place_right m (place_of m (row_of m p) c)) (stride m) (column_of m p) (all_at (row_right m) m.height (row_of m p) e (row_in m p l)) (column_in m p))))

  pub row_fails : (row : ℕ) → row < m.height → row_right m row ≡ false → false ≡ all (place_right m) (places m)
  unfolding row_right
  row_fails row l e = go (all (place_right m) (places m)) refl
    where
      go : (t : Bool) → all (place_right m) (places m) ≡ t → false ≡ t
      go true q = absurd (true≢false (sym (all_of (λ c. place_right m (place_of m row c)) (stride m) (λ c k. all_at (place_right m) (places m) (place_of m row c) q (place_in m row c l k))) ∙ e))
      go false q = refl

  -- there are as many cells as states
  pub cells_length : length (cells m) ≡ state_count m
  unfolding cells state_count
  cells_length = picked_length (open_at m) (places m)

  -- a search of the cells finds the state of an open one
  pub state_first : (p : ℕ) → p < places m → open_at m p ≡ true → first (holds (cells m) p) (length (cells m)) ≡ state_of m p
  unfolding cells state_of
  state_first p l o = picked_first (open_at m) (places m) p l o

  -- the cells ascend: an open place before another has fewer open ones before it
  pub cells_ascend : Ascending (cells m)
  unfolding state_of
  cells_ascend i j h k = go (dec_le (cell_of m i) (cell_of m j))
    where
      low : j < state_count m
      low = omega (arith, cells_length)

      go : Dec (cell_of m i ≤ cell_of m j) → cell_of m i ≤ cell_of m j
      go (yes q) = q
      go (no q) = absurd (omega (arith, count_before (open_at m) (cell_of m j) (cell_of m i) (omega arith) (cell_open m j low), cell_state m i (omega (arith, low)), cell_state m j low))

-- where the j-th neighbour is, where it is the end of a passage: a search of the cells finds it
module _ (m : Map) (j : ℕ) (passes : is_passage m j ≡ true) (y : ℕ) (ey : y ≡ row_to (heading_at j) (row_here m j)) (x : ℕ) (ex : x ≡ column_to (heading_at j) (column_here m j)) where
  end_free : Free m y x
  end_free = end_at m j passes y ey x ex

  pub end_first : first (holds (cells m) (framed m y x)) (length (cells m)) ≡ state_of m (framed m y x)
  end_first = state_first m (framed m y x) (framed_in m y x end_free) end_free.cell

  pub end_found : (cell : List ℕ) → cell ≡ cells m → first (holds cell (framed m y x)) (length cell) < length cell
  end_found cell q = rw q (omega (arith, end_first, framed_state m y x end_free, cells_length m))

-- a list that holds the cells: they are on the map, and they ascend
module _ (m : Map) (cell : List ℕ) (e : cell ≡ cells m) where
  pub held_in : (s : ℕ) → s < length cell → get_or cell s 0 < places m
  held_in s l = rw e (cell_in m s (omega (arith, rw e at l, cells_length m)))

  pub held_rise : Ascending cell
  held_rise = rw e (cells_ascend m)

-- an array that a list was put to the front of has its places
pub front_at : (xs l row : List ℕ) → row ≡ overlaid 0 xs l → (n : ℕ) → length xs ≡ n → (i : ℕ) → i < n → get_or row i 0 ≡ get_or xs i 0
front_at xs l row e n long i h = rw e (overlaid_at xs l i 0 (omega arith))

-- passages put so far take three places for each neighbour looked at, at most
pub puts_few : (m : Map) (l₀ : List ℕ) (i r : ℕ) (l : List ℕ) → Put 0 (gathered (passage m) i) l₀ l r → r ≤ 3 * i
puts_few m l₀ i r l w = omega (arith, w.next, pieces_length m i, count_max (is_passage m) i)

-- a search by halving: which half of an ascending list has the first place of a number, as one look in the middle tells
module _ (l : List ℕ) (up : Ascending l) (v : ℕ) (some : first (holds l v) (length l) < length l) (i : ℕ) where
  found : get_or l (first (holds l v) (length l)) 0 ≡ v
  found = eqb-true _ v (first_passes (holds l v) (length l) some)

  pub half_above : i < length l → get_or l i 0 < v → i < first (holds l v) (length l)
  half_above k h = go (dec_le (first (holds l v) (length l)) i)
    where
      go : Dec (first (holds l v) (length l) ≤ i) → i < first (holds l v) (length l)
      go (yes q) = absurd (omega (arith, found, up (first (holds l v) (length l)) i q k))
      go (no q) = omega arith

  pub half_below : v ≤ get_or l i 0 → first (holds l v) (length l) ≤ i
  half_below h = go (dec_le (first (holds l v) (length l)) i)
    where
      go : Dec (first (holds l v) (length l) ≤ i) → first (holds l v) (length l) ≤ i
      go (yes q) = q
      go (no q) = absurd (true≢false (sym (eq-eqb (get_or l i 0) v (omega (arith, found, up i (first (holds l v) (length l)) (omega arith) some))) ∙ first_before (holds l v) (length l) i (omega arith)))
