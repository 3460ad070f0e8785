-- The places of a map: their rows and columns, what stands at a place, and which places are the cells of which states.
use Rattle.std.specs.Prelude.{◌≡◌, Bool, ◌&&◌, ◌||◌, cond, [], ◌∷◌, ℕ, ◌+◌, ◌*◌, ◌≤◌, ◌<◌, length, get_or}
use Rattle.std.proofs.Math.Path.{refl, sym}
use Rattle.std.proofs.Common.{ap, ◌∙◌, mod-lt, div-add-mod', div-lt_iff_lt-mul, eqb-true, eq-eqb, ne_eqb}
use Rattle.std.proofs.Math.Bool.{true, false, true≢false}
use Rattle.std.proofs.Math.Decide.{ℕ_discrete, dec_le}
use native.Mathlib.Omega.{arith}
use Prim.Native.Char.{code}
use Rattle.std.proofs.Math.Arith.{digits_lt, digits_div, digits_mod}
use Rattle.std.proofs.Math.Dec.{eqb}
use Rattle.laws.specs.Truth.{and_right, same_truth}
use Rattle.laws.specs.All.{all, all_at, all_of}
use Rattle.gridmap.specs.Chains.{all_next, all_same}
use Rattle.laws.specs.Count.{one, count, count_rises, count_before}
use Rattle.laws.specs.Gather.{gathered, gathered_length, gathered_piece, picked_at, picked_passes, picked_below, picked_count}
use Rattle.gridmap.specs.Map.{Map, stride, places, byte_at, is_open, is_closed, place_right, rows_right, open_at, cells, cell_of, row_of, column_of, place_of, state_of, state_count}
use Rattle.gridmap.specs.Laws.{cell_right, row_right, spot_at, spot_piece, spots_of, origin, spot_in}

module _ (m : Map) where
  -- the row and the column of a place
  pub row_in : (p : ℕ) → p < places m → row_of m p < m.height
  row_in p l = (div-lt_iff_lt-mul {k = stride m} {x = p} {y = m.height} (omega arith)).1 l

  pub column_in : (p : ℕ) → column_of m p < stride m
  column_in p = mod-lt p (omega arith)

  pub place_split : (p : ℕ) → place_of m (row_of m p) (column_of m p) ≡ p
  place_split p = div-add-mod' p (stride m)

  -- and the place of a row and a column
  pub place_in : (row column : ℕ) → row < m.height → column < stride m → place_of m row column < places m
  place_in row column h k = digits_lt h k

  pub place_row : (row column : ℕ) → column < stride m → row_of m (place_of m row column) ≡ row
  place_row row column k = digits_div row k

  pub place_column : (row column : ℕ) → column < stride m → column_of m (place_of m row column) ≡ column
  place_column row column k = digits_mod row k

  -- what a byte that was read says of its place
  module _ (p b : ℕ) (e : b ≡ byte_at m p) where
    pub feed_is : column_of m p ≡ m.width → place_right m p ≡ eqb b (code "\n")
    feed_is q = rw (eq-eqb _ _ q, e)

    pub cell_is : (column_of m p ≡ m.width → ⊥) → place_right m p ≡ is_open b || is_closed b
    cell_is q = rw (ne_eqb _ _ q, e)

  -- a row is right where each of its cells is one and a line feed is its last byte
  pub row_split : (row : ℕ) → row_right m row ≡ (all (λ column. cell_right m (place_of m row column)) m.width && eqb (byte_at m (place_of m row m.width)) (code "\n"))
  unfolding row_right
  row_split row =
      all_next (λ column. place_right m (place_of m row column)) m.width
      ∙ rw (all_same _ _ m.width (λ c l. cell_is (place_of m row c) (byte_at m (place_of m row c)) refl (λ q. omega (arith, place_column row c (omega arith)))), feed_is (place_of m row m.width) (byte_at m (place_of m row m.width)) refl (place_column row m.width (omega arith)))

  -- every place is right where every row is
  pub rows_split : all (place_right m) (places m) ≡ all (row_right m) m.height
  unfolding row_right
  rows_split =
      same_truth (all (place_right m) (places m)) (all (λ row. all (λ c. place_right m (place_of m row c)) (stride m)) m.height)
      (λ e. all_of _ m.height (λ row l. all_of (λ c. place_right m (place_of m row c)) (stride m) (λ c k. all_at (place_right m) (places m) (place_of m row c) e (place_in row c l k))))
      (λ e. all_of (place_right m) (places m)
      (λ p l. rw (place_split p) at (all_at (λ c. place_right m (place_of m (row_of m p) c)) (stride m) (column_of m p) (all_at (λ row. all (λ c. place_right m (place_of m row c)) (stride m)) m.height (row_of m p) e (row_in p l)) (column_in p))))

  -- where a row ends, a line feed stands, which is no open cell
  pub open_column : (p : ℕ) → rows_right m ≡ true → p < places m → open_at m p ≡ true → column_of m p < m.width
  unfolding rows_right open_at is_open
  open_column p r l o = go (ℕ_discrete (column_of m p) m.width)
    where
      fed : (b : ℕ) → eqb b (code "\n") ≡ true → is_open b ≡ true → ⊥
      fed b e o = true≢false (sym (rw (eqb-true b (code "\n") e) at o))

      right : place_right m p ≡ true
      right = all_at (place_right m) (places m) p (and_right (eqb (length m.text) (m.rows + places m)) _ r) l

      go : Dec (column_of m p ≡ m.width) → column_of m p < m.width
      go (yes q) = absurd (fed (byte_at m p) (sym (feed_is p (byte_at m p) refl q) ∙ right) o)
      go (no n) = omega (arith, column_in p)

  -- a state has an open cell
  pub cell_in : (s : ℕ) → s < state_count m → cell_of m s < places m
  unfolding cells state_count
  cell_in s l = picked_below (open_at m) (places m) s l

  pub cell_open : (s : ℕ) → s < state_count m → open_at m (cell_of m s) ≡ true
  unfolding cells state_count
  cell_open s l = picked_passes (open_at m) (places m) s l

  pub cell_state : (s : ℕ) → s < state_count m → state_of m (cell_of m s) ≡ s
  unfolding cells state_count state_of
  cell_state s l = picked_count (open_at m) (places m) s l

  -- an open cell has a state, which a search of the cells finds
  pub state_in : (p : ℕ) → p < places m → open_at m p ≡ true → state_of m p < state_count m
  unfolding state_of state_count
  state_in p l o = count_before (open_at m) p (places m) l o

  pub state_cell : (p : ℕ) → p < places m → open_at m p ≡ true → cell_of m (state_of m p) ≡ p
  unfolding cells state_of
  state_cell p l o = picked_at (open_at m) (places m) p l o

  -- the cells ascend: an open place before another has fewer open ones before it
  pub cells_rise : (i j : ℕ) → i < j → j < state_count m → cell_of m i < cell_of m j
  unfolding state_of
  cells_rise i j h low = go (dec_le (cell_of m j) (cell_of m i))
    where
      go : Dec (cell_of m j ≤ cell_of m i) → cell_of m i < cell_of m j
      go (no q) = omega arith
      go (yes q) = absurd (omega (arith, count_rises (open_at m) (cell_of m j) (cell_of m i) q, cell_state i (omega (arith, h)), cell_state j low))

  -- so the spots of the open places are those of the states' cells
  spot_length : (p : ℕ) → length (spot_piece m p) ≡ 1 * one (open_at m p)
  spot_length p = go (open_at m p)
    where
      go : (b : Bool) → length (cond b (spot_at m p ∷ []) []) ≡ 1 * one b
      go true = refl
      go false = refl

  pub pieces_count : (p : ℕ) → length (gathered (spot_piece m) p) ≡ state_of m p
  unfolding state_of
  pieces_count p = omega (arith, gathered_length (spot_piece m) (open_at m) 1 spot_length p)

  pub spots_length : length (spots_of m) ≡ state_count m
  unfolding spots_of state_count state_of
  spots_length = pieces_count (places m)

  pub spot_is : (s : ℕ) → s < state_count m → spot_in (spots_of m) s ≡ spot_at m (cell_of m s)
  unfolding spots_of state_of
  spot_is s l =
      let p = cell_of m s in
      let place : s ≡ 1 * count (open_at m) p + 0 = omega (arith, cell_state s l) in
      let piece : get_or (spot_piece m p) 0 origin ≡ spot_at m p = rw (cell_open s l) in
      ap (λ i. get_or (gathered (spot_piece m) (places m)) i origin) place
      ∙ gathered_piece (spot_piece m) (open_at m) 1 spot_length (places m) p 0 origin (cell_in s l) (cell_open s l) (omega arith) ∙ piece
