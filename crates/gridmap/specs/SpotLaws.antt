-- A state that has a spot, and a spot that has a state: what each is, and each from the other.
use Rattle.std.proofs.Math.Path.{◌≡◌, refl}
use Rattle.std.specs.Prelude.{Bool, ◌&&◌, List, ℕ, ◌<◌, Some, None, Result, Ok, Err, is_ok}
use Rattle.std.proofs.Math.Bool.{true, false}
use Rattle.std.proofs.Common.{ap, arith}
use Rattle.std.proofs.Math.Dec.{ltb}
use borrow.Author.Tests.{ltb-true, lt-ltb}
use Rattle.laws.specs.Truth.{and_left, and_right, provided}
use Rattle.gridmap.specs.declared.faults.MapFault.{MapFault}
use Rattle.gridmap.specs.declared.Spot.{Spot}
use Rattle.gridmap.specs.Map.{map_of, stride, open_at, cell_of, row_of, column_of, place_of, state_of, state_count}
use Rattle.gridmap.specs.Reading.{map_fault, spot_of, state_at_spot}
use Rattle.gridmap.specs.CellLaws.{row_in, place_split, place_in, place_row, place_column, open_column, cell_in, cell_open, state_in, state_cell}
use Rattle.gridmap.specs.ReadingLaws.{map_is}

-- nothing was refused
passed : (r : Result (Unit {0}) MapFault) → is_ok r ≡ true → r ≡ Ok tt
passed (Ok tt) e = refl
passed (Err fault) e = cc

-- a state that has a spot
pub record Placed (text : List ℕ) (s row column : ℕ) : Type 0 where
  pub right : map_fault text ≡ Ok tt
  pub inside : s < state_count (map_of text)
  pub row_is : row_of (map_of text) (cell_of (map_of text) s) ≡ row
  pub column_is : column_of (map_of text) (cell_of (map_of text) s) ≡ column

pub spot_is : (text : List ℕ) (s : ℕ) (spot : Spot) → spot_of text s ≡ Some spot → Placed text s spot.row spot.column
unfolding spot_of
spot_is text s spot e = go (is_ok (map_fault text) && ltb s (state_count (map_of text))) refl e
  where
    here : Spot
    here = record { row = row_of (map_of text) (cell_of (map_of text) s); column = column_of (map_of text) (cell_of (map_of text) s) }

    go : (b : Bool) → (is_ok (map_fault text) && ltb s (state_count (map_of text))) ≡ b → provided b None (Some here) ≡ Some spot → Placed text s spot.row spot.column
    go true q h =
        let same : here ≡ spot = cc in
        record {
          right = passed (map_fault text) (and_left _ (ltb s (state_count (map_of text))) q);
          inside = ltb-true s (state_count (map_of text)) (and_right (is_ok (map_fault text)) _ q);
          row_is = ap (λ (x : Spot). x.row) same;
          column_is = ap (λ (x : Spot). x.column) same;
        }
    go false q h = cc

module _ (text : List ℕ) (s row column : ℕ) where
  pub spot_of_lem : Placed text s row column → spot_of text s ≡ Some (record { row = row; column = column })
  unfolding spot_of
  spot_of_lem p = rw (p.right, lt-ltb s (state_count (map_of text)) p.inside, p.row_is, p.column_is)

-- a spot that has a state
pub record Standing (text : List ℕ) (row column : ℕ) : Type 0 where
  pub right : map_fault text ≡ Ok tt
  pub row_on : row < (map_of text).height
  pub column_on : column < (map_of text).width
  pub cell : open_at (map_of text) (place_of (map_of text) row column) ≡ true

module _ (text : List ℕ) (row column : ℕ) where
  pub standing_is : (s : ℕ) → state_at_spot text row column ≡ Some s → Standing text row column
  unfolding state_at_spot
  standing_is s e = go (is_ok (map_fault text) && ((ltb row (map_of text).height && ltb column (map_of text).width) && open_at (map_of text) (place_of (map_of text) row column))) refl e
    where
      go : (b : Bool) → (is_ok (map_fault text) && ((ltb row (map_of text).height && ltb column (map_of text).width) && open_at (map_of text) (place_of (map_of text) row column))) ≡ b
          → provided b None (Some (state_of (map_of text) (place_of (map_of text) row column))) ≡ Some s → Standing text row column
      go true q h = record {
        right = passed (map_fault text) (and_left (is_ok (map_fault text)) _ q);
        row_on = ltb-true row (map_of text).height (search (and_left, and_right, q));
        column_on = ltb-true column (map_of text).width (search (and_left, and_right, q));
        cell = search (and_left, and_right, q);
      }
      go false q h = cc

  pub standing_state : Standing text row column → state_at_spot text row column ≡ Some (state_of (map_of text) (place_of (map_of text) row column))
  unfolding state_at_spot
  standing_state p = rw (p.right, lt-ltb row (map_of text).height p.row_on, lt-ltb column (map_of text).width p.column_on, p.cell)

-- each from the other
pub placed_standing : (text : List ℕ) (s row column : ℕ) → Placed text s row column → Standing text row column × (place_of (map_of text) row column ≡ cell_of (map_of text) s)
placed_standing text s row column p =
    let m = map_of text in
    let q = cell_of m s in
    let l = cell_in m s p.inside in
    let o = cell_open m s p.inside in
    let place : place_of m row column ≡ cell_of m s = rw (← p.row_is, ← p.column_is) (place_split m q) in (
      record {
        right = p.right;
        row_on = omega (arith, row_in m q l, p.row_is);
        column_on = omega (arith, open_column m q (map_is text p.right).rowed l o, p.column_is);
        cell = rw place o;
      },
      place,
    )

pub standing_placed : (text : List ℕ) (row column : ℕ) → Standing text row column → Placed text (state_of (map_of text) (place_of (map_of text) row column)) row column
standing_placed text row column p =
    let m = map_of text in
    let on : column < stride m = omega (arith, p.column_on) in
    let l = place_in m row column p.row_on on in
    record {
      right = p.right;
      inside = state_in m (place_of m row column) l p.cell;
      row_is = rw (state_cell m (place_of m row column) l p.cell) (place_row m row column on);
      column_is = rw (state_cell m (place_of m row column) l p.cell) (place_column m row column on);
    }
