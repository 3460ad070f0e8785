-- Framed rows and columns: what a free one has, and where the steps from one to the next lead, there and back.
use Rattle.std.specs.Prelude.{◌≡◌, refl, Bool, true, false, ◌&&◌, ◌||◌, not, cond, ℕ, ◌+◌, ◌-◌, ◌%◌, ◌≤◌, ◌<◌, leb, eqb}
use Rattle.std.proofs.Common.{ap, ◌∙◌, arith}
use borrow.Author.Tests.{leb-true, eqb-true, le-leb}
use Rattle.laws.specs.Truth.{and_left, and_right, and_both}
use Rattle.laws.specs.All.{all, all_at}
use Rattle.gridmap.specs.Map.{Map, places, rows_right, open_at, cell_of, row_of, column_of, state_of, state_count}
use Rattle.gridmap.specs.Passages.{framed, free, is_diagonal, row_to, column_to, linked, cost_to}
use Rattle.gridmap.specs.Estimates.{gap, octile}
use Rattle.gridmap.specs.CellLaws.{row_in, place_split, place_in, place_row, place_column, open_column, cell_in, cell_open, state_in, state_cell}
use Rattle.gridmap.specs.EstimateLaws.{gap_sum}

-- what a free cell has
pub record Free (m : Map) (y x : ℕ) : Type 0 where
  pub top : 1 ≤ y
  pub bottom : y ≤ m.height
  pub left : 1 ≤ x
  pub right : x ≤ m.width
  pub cell : open_at m (framed m y x) ≡ true

module _ (m : Map) (y x : ℕ) where
  pub free_is : free m y x ≡ true → Free m y x
  unfolding free
  free_is e = record {
    top = leb-true 1 y (search (and_left, and_right, e));
    bottom = leb-true y m.height (search (and_left, and_right, e));
    left = leb-true 1 x (search (and_left, and_right, e));
    right = leb-true x m.width (search (and_left, and_right, e));
    cell = search (and_left, and_right, e);
  }

  module _ (f : Free m y x) where
    pub framed_in : framed m y x < places m
    framed_in = place_in m (y - 1) (x - 1) (omega arith) (omega arith)

    pub framed_row : row_of m (framed m y x) + 1 ≡ y
    framed_row = omega (arith, place_row m (y - 1) (x - 1) (omega arith))

    pub framed_column : column_of m (framed m y x) + 1 ≡ x
    framed_column = omega (arith, place_column m (y - 1) (x - 1) (omega arith))

    pub framed_state : state_of m (framed m y x) < state_count m
    framed_state = state_in m (framed m y x) framed_in f.cell

    pub framed_cell : cell_of m (state_of m (framed m y x)) ≡ framed m y x
    framed_cell = state_cell m (framed m y x) framed_in f.cell

pub unframed : (m : Map) (p : ℕ) → framed m (row_of m p + 1) (column_of m p + 1) ≡ p
unframed m p =
    let row : row_of m p + 1 - 1 ≡ row_of m p = omega arith in
    let column : column_of m p + 1 - 1 ≡ column_of m p = omega arith in
    rw (row, column) (place_split m p)

-- a state's cell is free
pub cell_free : (m : Map) → rows_right m ≡ true → (s : ℕ) → s < state_count m → free m (row_of m (cell_of m s) + 1) (column_of m (cell_of m s) + 1) ≡ true
unfolding free
cell_free m r s l =
    let row = row_in m (cell_of m s) (cell_in m s l) in
    let column = open_column m (cell_of m s) r (cell_in m s l) (cell_open m s l) in
    let back = unframed m (cell_of m s) in
    and_both
    (and_both
    (and_both (le-leb 1 (row_of m (cell_of m s) + 1) (omega arith)) (le-leb (row_of m (cell_of m s) + 1) m.height (omega arith)))
    (and_both (le-leb 1 (column_of m (cell_of m s) + 1) (omega arith)) (le-leb (column_of m (cell_of m s) + 1) m.width (omega arith))))
    (ap (open_at m) back ∙ cell_open m s l)

-- a step moves every row by the same, and every column
shift : (a : ℕ) (t u : Bool) → cond t (a + 1 - 1) (cond u (a + 1 + 1) (a + 1)) ≡ a + cond t 0 (cond u 2 1)
shift a true u = omega arith
shift a false true = omega arith
shift a false false = omega arith

row_shift : (d a : ℕ) → row_to d (a + 1) ≡ a + row_to d 1
unfolding row_to
row_shift d a = shift a (eqb d 7 || leb d 1) (leb 3 d && leb d 5)

column_shift : (d a : ℕ) → column_to d (a + 1) ≡ a + column_to d 1
unfolding column_to
column_shift d a = shift a (leb 5 d) (leb 1 d && leb d 3)

-- it goes no farther than it costs
gap_shift : (a c t : ℕ) → c + 1 ≡ a + t → gap a c ≡ gap 1 t
gap_shift a c t h = omega (arith, gap_sum a c, gap_sum 1 t)

pub step_near : (d a b c e : ℕ) → d < 8 → c + 1 ≡ row_to d (a + 1) → e + 1 ≡ column_to d (b + 1) → octile (gap a c) (gap b e) ≤ cost_to d
unfolding gap octile row_to column_to all
step_near d a b c e l h k =
    rw (gap_shift a c (row_to d 1) (h ∙ row_shift d a), gap_shift b e (column_to d 1) (k ∙ column_shift d b)) (leb-true _ _ (all_at (λ d. leb (octile (gap 1 (row_to d 1)) (gap 1 (column_to d 1))) (cost_to d)) 8 d refl l))

-- and the step the other way leads back
abbrev pub opposite : ℕ → ℕ
opposite d = (d + 4) % 8

row_turn : (d : ℕ) → d < 8 → row_to d 1 + row_to (opposite d) 1 ≡ 2
unfolding row_to all
row_turn d l = eqb-true _ _ (all_at (λ d. eqb (row_to d 1 + row_to (opposite d) 1) 2) 8 d refl l)

column_turn : (d : ℕ) → d < 8 → column_to d 1 + column_to (opposite d) 1 ≡ 2
unfolding column_to all
column_turn d l = eqb-true _ _ (all_at (λ d. eqb (column_to d 1 + column_to (opposite d) 1) 2) 8 d refl l)

pub row_back : (d a b : ℕ) → d < 8 → b + 1 ≡ row_to d (a + 1) → row_to (opposite d) (b + 1) ≡ a + 1
row_back d a b l e = omega (arith, row_turn d l, row_shift d a, row_shift (opposite d) b)

pub column_back : (d a b : ℕ) → d < 8 → b + 1 ≡ column_to d (a + 1) → column_to (opposite d) (b + 1) ≡ a + 1
column_back d a b l e = omega (arith, column_turn d l, column_shift d a, column_shift (opposite d) b)

pub slant_back : (d : ℕ) → is_diagonal (opposite d) ≡ is_diagonal d
slant_back d = let even : opposite d % 2 ≡ d % 2 = omega arith in rw even

-- the way back is free where the way is
pub linked_back : (m : Map) (d a b c e : ℕ) → d < 8 → c + 1 ≡ row_to d (a + 1) → e + 1 ≡ column_to d (b + 1) → free m (a + 1) (b + 1) ≡ true
    → linked m (a + 1) (b + 1) d ≡ true → linked m (c + 1) (e + 1) (opposite d) ≡ true
unfolding linked
linked_back m d a b c e l h k f w =
    rw (row_back d a c l h, column_back d b e l k, slant_back d, f)
    (go (is_diagonal d) (and_right (free m (row_to d (a + 1)) (column_to d (b + 1))) _ w))
  where
    go : (t : Bool) → (not t || (free m (row_to d (a + 1)) (b + 1) && free m (a + 1) (column_to d (b + 1)))) ≡ true → (not t || (free m (a + 1) (e + 1) && free m (c + 1) (b + 1))) ≡ true
    go false z = refl
    go true z = rw (k, h) (and_both (and_right (free m (row_to d (a + 1)) (b + 1)) _ z) (and_left _ (free m (a + 1) (column_to d (b + 1))) z))
