-- The states' cells as a list that the code holds: what stands in it, the neighbours of the cells, and a search by halving.
use Rattle.std.specs.Prelude.{◌≡◌, refl, Bool, true, false, List, ℕ, ◌+◌, ◌-◌, ◌*◌, ◌/◌, ◌≤◌, ◌<◌, length, get_or, take, ltb}
use Rattle.std.specs.List.Sorted.{IsPartitionedBy, IsPartitionPoint}
use Rattle.std.proofs.Common.{ap, mul-le-mul_right, ◌∙◌, arith, length-append}
use Rattle.std.proofs.Math.Decide.{ℕ_discrete, dec_lt}
use Rattle.std.proofs.lemmas.List.{get_or_default}
use borrow.Author.Tests.{ltb-true, ltb-false, lt-ltb}
use Rattle.laws.specs.Part.{overlaid}
use Rattle.laws.specs.Fill.{overlaid_front}
use Rattle.gridmap.specs.declared.Spot.{Spot}
use Rattle.gridmap.specs.Small.{Small}
use Rattle.gridmap.specs.Reading.{spot_number}
use Rattle.gridmap.specs.Map.{Map, stride, places, cell_of, row_of, place_of, state_of, state_count}
use Rattle.gridmap.specs.Passages.{framed, row_to, column_to, heading_at, row_here, column_here, is_passage, leads_to}
use Rattle.gridmap.specs.Laws.{spot_at, spots_of, origin, spot_in, OpenSpot}
use Rattle.gridmap.specs.CellLaws.{row_in, column_in, place_split, place_in, place_row, place_column, cell_in, state_in, state_cell, cells_rise, spots_length, spot_is}
use Rattle.gridmap.specs.NeighbourLaws.{Free, framed_state}
use Rattle.gridmap.specs.PassageLaws.{end_free}

-- an array that a list was put to the front of
module _ {X : Type 0} (xs l row : List X) (e : row ≡ overlaid 0 xs l) (n : ℕ) (long : length xs ≡ n) where
  pub front_is : take n row ≡ xs
  front_is = rw (e, ← long) (overlaid_front xs l)

  pub front_room : n ≤ length row
  front_room = rw e (simp length-append (omega arith))

-- the spots of the states, where a list holds them
module _ (m : Map) (spots : List Spot) (e : spots ≡ spots_of m) where
  pub held_length : length spots ≡ state_count m
  held_length = ap length e ∙ spots_length m

  pub held_at : (s : ℕ) → s < length spots → spot_in spots s ≡ spot_at m (cell_of m s)
  held_at s l = rw e (spot_is m s (omega (arith, held_length)))

-- the j-th of all neighbours, where a list holds the cells: the cell that it is beside
module _ (m : Map) (small : Small m.height m.width m.rows) (spots : List Spot) (e : spots ≡ spots_of m) (j : ℕ) (l : j < 8 * length spots) where
  here : spot_in spots (j / 8) ≡ spot_at m (cell_of m (j / 8))
  here = held_at m spots e (j / 8) (omega arith)

  here_in : j / 8 < state_count m
  here_in = omega (arith, held_length m spots e)

  pub here_row : ((spot_in spots (j / 8)).row + 1 ≡ row_here m j) × ((spot_in spots (j / 8)).row + 1 ≤ 256)
  here_row = rw here (refl, omega (arith, row_in m (cell_of m (j / 8)) (cell_in m (j / 8) here_in), small.high))

  pub here_column : ((spot_in spots (j / 8)).column + 1 ≡ column_here m j) × ((spot_in spots (j / 8)).column + 1 ≤ 257)
  here_column = rw here (refl, omega (arith, column_in m (cell_of m (j / 8)), small.wide))

-- where the j-th neighbour is, where it is the end of a passage: its framed row and column are on the map
module _ (m : Map) (j : ℕ) (passes : is_passage m j ≡ true) (y : ℕ) (ey : y ≡ row_to (heading_at j) (row_here m j)) (x : ℕ) (ex : x ≡ column_to (heading_at j) (column_here m j)) where
  pub end_at : Free m y x
  end_at = rw (ey, ex) (end_free m j passes)

  pub end_open : OpenSpot m (record { row = y - 1; column = x - 1 })
  end_open = record { row_on = omega (arith, end_at); column_on = omega (arith, end_at); cell = end_at.cell }

  -- and the state there is where it leads
  pub end_is : (r : ℕ) → r ≡ state_of m (framed m y x) → (r ≡ leads_to m j) × (r < state_count m)
  unfolding leads_to
  end_is r k = (k ∙ rw (ey, ex), omega (arith, framed_state m y x end_at))

-- a search by halving: the cells of a lesser number come first, and as many as there are states before
module _ (m : Map) (small : Small m.height m.width m.rows) where
  abbrev number_at : ℕ → ℕ
  number_at p = spot_number (spot_at m p)

  -- a later place is in a later row, or further on in the same
  number_rises : (p q : ℕ) → p < q → number_at p < number_at q
  number_rises p q l = go (dec_lt (row_of m p) (row_of m q)) (dec_lt (row_of m q) (row_of m p))
    where
      go : Dec (row_of m p < row_of m q) → Dec (row_of m q < row_of m p) → number_at p < number_at q
      go (yes h) k = omega (arith, column_in m p, small.wide)
      go (no h) (yes k) =
          absurd (omega (arith, mul-le-mul_right (stride m) k, place_split m p, place_split m q, column_in m q))
      go (no h) (no k) =
          let same : row_of m p ≡ row_of m q = omega arith in
          let rows : row_of m p * stride m ≡ row_of m q * stride m = ap (λ r. r * stride m) same in
          omega (arith, place_split m p, place_split m q)

  module _ (spots : List Spot) (e : spots ≡ spots_of m) (spot : Spot) where
    abbrev pub before : Spot → Bool
    before s = ltb (spot_number s) (spot_number spot)

    number_is : (s : ℕ) → s < length spots → (d : Spot) → spot_number (get_or spots s d) ≡ number_at (cell_of m s)
    number_is s l d = ap spot_number (get_or_default spots s d origin l ∙ held_at m spots e s l)

    pub halves : IsPartitionedBy before spots
    halves i j d h l p = go (ℕ_discrete i j)
      where
        low : number_at (cell_of m j) < spot_number spot
        low = omega (arith, ltb-true (spot_number (get_or spots j d)) (spot_number spot) p, number_is j l d)

        go : Dec (i ≡ j) → before (get_or spots i d) ≡ true
        go (yes q) = rw (← q) at p
        go (no q) =
            let rise = number_rises (cell_of m i) (cell_of m j) (cells_rise m i j (omega arith) (omega (arith, held_length m spots e))) in
            lt-ltb (spot_number (get_or spots i d)) (spot_number spot) (omega (arith, number_is i (omega arith) d, rise, low))

    -- of the cell of a state, no cell from that state on comes before it, and each one below that state does
    module _ (o : OpenSpot m spot) (i : ℕ) (h : IsPartitionPoint (λ s. before s ≡ true) (λ s. before s ≡ false) spots i) (few : i ≤ length spots) where
      abbrev place : ℕ
      place = place_of m spot.row spot.column

      inside : place < places m
      inside = place_in m spot.row spot.column o.row_on o.column_on

      its : state_of m place < length spots
      its = omega (arith, state_in m place inside o.cell, held_length m spots e)

      cell : cell_of m (state_of m place) ≡ place
      cell = state_cell m place inside o.cell

      here_is : number_at place ≡ spot_number spot
      here_is = omega (arith, place_row m spot.row spot.column o.column_on, place_column m spot.row spot.column o.column_on)

      pub half_is : i ≡ state_of m place
      half_is = go (dec_lt (state_of m place) i) (dec_lt i (state_of m place))
        where
          go : Dec (state_of m place < i) → Dec (i < state_of m place) → i ≡ state_of m place
          go (yes q) k =
              absurd (omega (
                arith,
                ltb-true (spot_number (get_or spots (state_of m place) origin)) (spot_number spot) (h.0 (state_of m place) origin (omega arith) q),
                number_is (state_of m place) its origin,
                ap number_at cell,
                here_is,
              ))
          go (no q) (yes k) =
              let rise = number_rises (cell_of m i) (cell_of m (state_of m place)) (cells_rise m i (state_of m place) k (omega (arith, its, held_length m spots e))) in
              absurd (omega (
                arith,
                ltb-false (spot_number (get_or spots i origin)) (spot_number spot) (h.1 i origin (omega arith) (omega (arith, its))),
                number_is i (omega (arith, its)) origin,
                rise,
                ap number_at cell,
                here_is,
              ))
          go (no q) (no k) = omega arith
