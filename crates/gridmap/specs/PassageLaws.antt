-- The passages of a map: each leads from a state to a state, there is one back, and the list of them holds each with its three numbers.
use Rattle.std.specs.Prelude.{◌≡◌, Bool, cond, [], ◌∷◌, ℕ, ◌+◌, ◌*◌, ◌≤◌, ◌<◌, get_or}
use Rattle.std.proofs.Math.Path.{refl}
use Rattle.std.proofs.Common.{sym, ◌∙◌, add-zero, arith}
use Rattle.std.proofs.Math.Bool.{true, false}
use Rattle.std.proofs.Math.ListN.{length}
use Rattle.laws.specs.Truth.{and_left}
use Rattle.laws.specs.All.{all, all_of}
use Rattle.laws.specs.Count.{one, count, count_max, count_before, count_find}
use Rattle.laws.specs.Gather.{gathered, gathered_length, gathered_piece}
use Rattle.rule.specs.Task.{passage_count, near, far, cost}
use Rattle.gridmap.specs.Map.{Map, stride, rows_right, cell_of, row_of, column_of, state_count}
use Rattle.gridmap.specs.Passages.{framed, free, is_diagonal, row_to, column_to, linked, cost_to, comes_from, heading_at, row_here, column_here, is_passage, leads_to, passage, passages_of, passages_many}
use Rattle.gridmap.specs.Estimates.{between}
use Rattle.gridmap.specs.CellLaws.{cell_state}
use Rattle.gridmap.specs.NeighbourLaws.{Free, free_is, framed_row, framed_column, framed_state, framed_cell, unframed, cell_free, step_near, opposite, row_back, column_back, slant_back, linked_back}

-- where the j-th neighbour stands, as a framed row and column; and which neighbour leads back from there, the other way
abbrev pub row_beside : Map → ℕ → ℕ
row_beside m j = row_to (heading_at j) (row_here m j)

abbrev pub column_beside : Map → ℕ → ℕ
column_beside m j = column_to (heading_at j) (column_here m j)

abbrev mirror : Map → ℕ → ℕ
mirror m j = 8 * leads_to m j + opposite (heading_at j)

-- a passage leads from a state
pub from_in : (m : Map) (j : ℕ) → j < 8 * state_count m → comes_from j < state_count m
from_in m j l = omega arith

module _ (m : Map) (j : ℕ) (e : is_passage m j ≡ true) where
  -- to a state: that of the free cell beside it
  pub end_free : Free m (row_beside m j) (column_beside m j)
  unfolding is_passage linked
  end_free = free_is m _ _ (and_left (free m (row_beside m j) (column_beside m j)) _ e)

  pub to_in : leads_to m j < state_count m
  unfolding leads_to
  to_in = framed_state m _ _ end_free

  to_cell : cell_of m (leads_to m j) ≡ framed m (row_beside m j) (column_beside m j)
  unfolding leads_to
  to_cell = framed_cell m _ _ end_free

  to_row : row_of m (cell_of m (leads_to m j)) + 1 ≡ row_beside m j
  to_row = rw to_cell (framed_row m _ _ end_free)

  to_column : column_of m (cell_of m (leads_to m j)) + 1 ≡ column_beside m j
  to_column = rw to_cell (framed_column m _ _ end_free)

  pub passage_near : between (stride m) (cell_of m (comes_from j)) (cell_of m (leads_to m j)) ≤ cost_to (heading_at j)
  unfolding between
  passage_near =
      step_near (heading_at j) (row_of m (cell_of m (comes_from j))) (column_of m (cell_of m (comes_from j))) (row_of m (cell_of m (leads_to m j))) (column_of m (cell_of m (leads_to m j)))
      (omega arith) to_row to_column

  -- and the passage back is from there the other way
  mirror_in : mirror m j < 8 * state_count m
  mirror_in = omega (arith, to_in)

  mirror_from : comes_from (mirror m j) ≡ leads_to m j
  mirror_from = omega arith

  mirror_heading : heading_at (mirror m j) ≡ opposite (heading_at j)
  mirror_heading = omega arith

  mirror_cost : cost_to (heading_at (mirror m j)) ≡ cost_to (heading_at j)
  mirror_cost = rw (mirror_heading, slant_back (heading_at j))

  module _ (l : j < 8 * state_count m) where
    mirror_passes : rows_right m ≡ true → is_passage m (mirror m j) ≡ true
    unfolding is_passage
    mirror_passes r =
        rw (mirror_from, mirror_heading)
        (linked_back m (heading_at j) (row_of m (cell_of m (comes_from j))) (column_of m (cell_of m (comes_from j))) (row_of m (cell_of m (leads_to m j))) (column_of m (cell_of m (leads_to m j)))
        (omega arith) to_row to_column (cell_free m r (comes_from j) (from_in m j l)) e)

    mirror_to : leads_to m (mirror m j) ≡ comes_from j
    unfolding leads_to
    mirror_to =
        rw (
          mirror_from,
          mirror_heading,
          row_back (heading_at j) (row_of m (cell_of m (comes_from j))) (row_of m (cell_of m (leads_to m j))) (omega arith) to_row,
          column_back (heading_at j) (column_of m (cell_of m (comes_from j))) (column_of m (cell_of m (leads_to m j))) (omega arith) to_column,
          unframed m (cell_of m (comes_from j)),
        )
        (cell_state m (comes_from j) (from_in m j l))

-- no step costs more than 1,414
pub cost_small : (d : ℕ) → cost_to d ≤ 1414
cost_small d = go (is_diagonal d)
  where
    go : (b : Bool) → cond b 1414 1000 ≤ 1414
    go true = omega arith
    go false = omega arith

-- the i-th passage that is listed is the neighbour j
pub record Listed (m : Map) (i j : ℕ) : Type 0 where
  pub inside : j < 8 * state_count m
  pub passes : is_passage m j ≡ true
  pub near_is : near (passages_of m) i ≡ comes_from j
  pub far_is : far (passages_of m) i ≡ leads_to m j
  pub cost_is : cost (passages_of m) i ≡ cost_to (heading_at j)

module _ (m : Map) where
  passage_length_lem : (j : ℕ) → length (passage m j) ≡ 3 * one (is_passage m j)
  unfolding passage
  passage_length_lem j = go (is_passage m j)
    where
      go : (b : Bool) → length (cond b (comes_from j ∷ leads_to m j ∷ cost_to (heading_at j) ∷ []) []) ≡ 3 * one b
      go true = refl
      go false = refl

  pub pieces_length : (i : ℕ) → length (gathered (passage m) i) ≡ 3 * count (is_passage m) i
  pieces_length i = gathered_length (passage m) (is_passage m) 3 passage_length_lem i

  pub passages_length : length (passages_of m) ≡ 3 * passages_many m
  unfolding passages_of passages_many
  passages_length = pieces_length (8 * state_count m)

  passages_count : passage_count (passages_of m) ≡ passages_many m
  passages_count = omega (arith, passages_length)

  pub passages_most : passages_many m ≤ 8 * state_count m
  unfolding passages_many
  passages_most = count_max (is_passage m) (8 * state_count m)

  passage_three : (j : ℕ) → is_passage m j ≡ true → passage m j ≡ comes_from j ∷ leads_to m j ∷ cost_to (heading_at j) ∷ []
  unfolding passage
  passage_three j e = rw e

  piece_at : (j k : ℕ) → j < 8 * state_count m → is_passage m j ≡ true → k < 3 → get_or (passages_of m) (3 * count (is_passage m) j + k) 0 ≡ get_or (comes_from j ∷ leads_to m j ∷ cost_to (heading_at j) ∷ []) k 0
  unfolding passages_of
  piece_at j k l e h = gathered_piece (passage m) (is_passage m) 3 passage_length_lem (8 * state_count m) j k 0 l e h ∙ rw (passage_three j e)

  listed_at : (j : ℕ) → j < 8 * state_count m → is_passage m j ≡ true → Listed m (count (is_passage m) j) j
  listed_at j l e =
      record {
        inside = l;
        passes = e;
        near_is = rw add-zero at (piece_at j 0 l e (omega arith));
        far_is = piece_at j 1 l e (omega arith);
        cost_is = piece_at j 2 l e (omega arith);
      }

  listed_in : (j : ℕ) → j < 8 * state_count m → is_passage m j ≡ true → count (is_passage m) j < passage_count (passages_of m)
  unfolding passages_many
  listed_in j l e = omega (arith, passages_count, count_before (is_passage m) j (8 * state_count m) l e)

  listed_find : (i : ℕ) → i < passage_count (passages_of m) → (j : ℕ) × Listed m i j
  unfolding passages_many
  listed_find i l = let (j, h, e, c) = count_find (is_passage m) (8 * state_count m) i (omega (arith, passages_count)) in (j, rw c at (listed_at j h e))

  -- what holds of each neighbour with a passage holds of each passage that is listed
  pub listed_all : (p : ℕ → Bool) → ((i j : ℕ) → Listed m i j → p i ≡ true) → all p (passage_count (passages_of m)) ≡ true
  listed_all p f = all_of p (passage_count (passages_of m)) (λ i l. let (j, g) = listed_find i l in f i j g)

  -- every passage has its mirror, with the same cost
  pub mirrored_by : rows_right m ≡ true → (i : ℕ) → i < passage_count (passages_of m)
      → (j : ℕ) × (j < passage_count (passages_of m)) × (near (passages_of m) j ≡ far (passages_of m) i) × (far (passages_of m) j ≡ near (passages_of m) i) × (cost (passages_of m) j ≡ cost (passages_of m) i)
  mirrored_by r i l =
      let (j, f) = listed_find i l in
      let e = f.passes in
      let passes = mirror_passes m j e f.inside r in
      let g = listed_at (mirror m j) (mirror_in m j e) passes in (
        count (is_passage m) (mirror m j),
        listed_in (mirror m j) (mirror_in m j e) passes,
        g.near_is ∙ mirror_from m j e ∙ sym f.far_is,
        g.far_is ∙ mirror_to m j e f.inside ∙ sym f.near_is,
        g.cost_is ∙ mirror_cost m j e ∙ sym f.cost_is,
      )
