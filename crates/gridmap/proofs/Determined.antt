-- Each contract of this crate determines its answer. What that is, and how a line here is read, says `crates/determined/specs/Fixes.antt`.
-- Assumes nothing.
use Rattle.determined.specs.Fixes.{Fixes, Answers, same}
use Rattle.std.proofs.Common.{◌≡◌, refl, ap, true, false, List, ℕ, ◌≤◌, Option, Some, None, MatchOption, Result, Ok, Err, Bor}
use mathlib.Core.HLevel.{is_prop→PathP}
use native.Mathlib.Bridge.{le_prop}
use Rattle.gridmap.specs.declared.grid.Grid.{Grid}
use Rattle.gridmap.specs.declared.faults.MapFault.{MapFault}
use Rattle.gridmap.specs.Text.{head_right}
use Rattle.gridmap.specs.Map.{map_of}
use Rattle.gridmap.specs.Laws.{map_with}
use Rattle.gridmap.proofs.Maps.{Checked}
use Rattle.gridmap.specs.contracts as c
use Rattle.gridmap.proofs as f

-- grids of the same text with the same map are the same: that their numbers are small is shown in one way
grids_same : (text : Bor (List ℕ)) (g h : Grid) → g.text ≡ text → map_with g ≡ map_of text.now → h.text ≡ text → map_with h ≡ map_of text.now → g ≡ h
grids_same text g h p r q s i =
    let m : map_with g ≡ map_with h = same r s in
    record {
      text = same p q i;
      height = (m i).height;
      width = (m i).width;
      rows = (m i).rows;
      small = record {
        high = is_prop→PathP (λ i. (m i).height ≤ 256) (λ i. le_prop) g.small.high h.small.high i;
        wide = is_prop→PathP (λ i. (m i).width ≤ 256) (λ i. le_prop) g.small.wide h.small.wide i;
        near = is_prop→PathP (λ i. (m i).rows ≤ 37) (λ i. le_prop) g.small.near h.small.near i;
      };
    }

-- lib.rt
pub read_map : Answers c.read_map.ended f.read_map.Reads.Asked f.read_map.Reads.Learnt
read_map = (λ κs a. tt, λ κs a x y p q i. (same p.0 q.0 i, (tt, (same p.1.0 q.1.0 i, (same p.1.1 q.1.1 i, tt)))))

pub spot_of : Answers c.spot_of.ended f.spot_of.Reads.Asked f.spot_of.Reads.Learnt
spot_of = (λ κs a. tt, λ κs a x y p q i. (same p q i, x.1))

pub state_at : Answers c.state_at.ended f.state_at.Reads.Asked f.state_at.Reads.Learnt
state_at = (λ κs a. tt, λ κs a x y p q i. (same p q i, x.1))

pub spot_from : Answers c.U32FromSpot.from.ended f.U32FromSpot.from.Reads.Asked f.U32FromSpot.from.Reads.Learnt
spot_from = (λ κs a. tt, λ κs a x y p q i. (same p q i, x.1))

-- faults.rt
pub fault_from : Answers c.faults.U8FromMapFault.from.ended f.faults.U8FromMapFault.from.Reads.Asked f.faults.U8FromMapFault.from.Reads.Learnt
fault_from = (λ κs a. tt, λ κs a x y p q i. (same p q i, x.1))

-- check.rt
checked_same : (text : Bor (List ℕ)) (r s : Result Grid MapFault) → Checked text r → Checked text s → r ≡ s
checked_same text (Ok g) (Ok h) p q = ap Ok (grids_same text g h p.0 p.1 q.0 q.1)
checked_same text (Ok g) (Err fault) p q = cc
checked_same text (Err fault) (Ok h) p q = cc
checked_same text (Err fault) (Err other) p q = cc

pub checked : Answers c.check.checked.ended f.check.checked.Reads.Asked f.check.checked.Reads.Learnt
checked = (λ κs a. tt, λ κs a x y p q i. (checked_same _ x.0 y.0 p q i, x.1))

-- header.rt
pub byte : Answers c.header.byte.ended f.header.byte.Reads.Asked f.header.byte.Reads.Learnt
byte = (λ κs a. tt, λ κs a x y p q i. (same p q i, x.1))

pub is_word : Fixes c.header.is_word.ended f.header.is_word.Reads.Learnt
is_word κs a x y p q i = (same p q i, x.1)

pub after_word : Fixes c.header.after_word.ended f.header.after_word.Reads.Learnt
after_word κs a x y p q i = (same p q i, x.1)

pub digit : Answers c.header.digit.ended f.header.digit.Reads.Asked f.header.digit.Reads.Learnt
digit = (λ κs a. tt, λ κs a x y p q i. (same p.0 q.0 i, x.1))

pub digits : Fixes c.header.digits.ended f.header.digits.Reads.Learnt
digits κs a x y p q i = (same p.0 q.0 i, x.1)

pub size : Fixes c.header.size.ended f.header.size.Reads.Learnt
size κs a x y p q i = (same p.0 q.0 i, x.1)

pub size_at : Fixes c.header.size_at.ended f.header.size_at.Reads.Learnt
size_at κs a x y p q i = (same p q i, x.1)

-- what the head ensures
abbrev Headed : Bor (List ℕ) → Option Grid → Type 0
Headed text r = MatchOption r (head_right text.now ≡ false) (λ grid. (grid.text ≡ text) × (map_with grid ≡ map_of text.now) × (head_right text.now ≡ true))

headed_same : (text : Bor (List ℕ)) (r s : Option Grid) → Headed text r → Headed text s → r ≡ s
headed_same text (Some g) (Some h) p q = ap Some (grids_same text g h p.0 p.1 q.0 q.1)
headed_same text (Some g) None p q = cc
headed_same text None (Some h) p q = cc
headed_same text None None p q = refl

pub head_of : Answers c.header.head_of.ended f.header.head_of.Reads.Asked f.header.head_of.Reads.Learnt
head_of = (λ κs a. tt, λ κs a x y p q i. (headed_same _ x.0 y.0 p q i, x.1))

-- cells.rt
pub is_open : Answers c.cells.is_open.ended f.cells.is_open.Reads.Asked f.cells.is_open.Reads.Learnt
is_open = (λ κs a. tt, λ κs a x y p q i. (same p q i, x.1))

pub is_closed : Answers c.cells.is_closed.ended f.cells.is_closed.Reads.Asked f.cells.is_closed.Reads.Learnt
is_closed = (λ κs a. tt, λ κs a x y p q i. (same p q i, x.1))

-- grid.rt
pub place_of : Fixes c.grid.Grid.place_of.ended f.grid.Grid.place_of.Reads.Learnt
place_of κs a x y p q i = (same p.0 q.0 i, x.1)

pub spot_at : Fixes c.grid.Grid.spot_at.ended f.grid.Grid.spot_at.Reads.Learnt
spot_at κs a x y p q i = (same p q i, x.1)

pub places : Answers c.grid.Grid.places.ended f.grid.Grid.places.Reads.Asked f.grid.Grid.places.Reads.Learnt
places = (λ κs a. tt, λ κs a x y p q i. (same p.0 q.0 i, x.1))

pub byte_at : Fixes c.grid.Grid.byte_at.ended f.grid.Grid.byte_at.Reads.Learnt
byte_at κs a x y p q i = (same p q i, x.1)

pub is_open_at : Fixes c.grid.Grid.is_open_at.ended f.grid.Grid.is_open_at.Reads.Learnt
is_open_at κs a x y p q i = (same p q i, x.1)

pub is_cell_at : Fixes c.grid.Grid.is_cell_at.ended f.grid.Grid.is_cell_at.Reads.Learnt
is_cell_at κs a x y p q i = (same p q i, x.1)

pub row_right : Fixes c.grid.Grid.row_right.ended f.grid.Grid.row_right.Reads.Learnt
row_right κs a x y p q i = (same p q i, x.1)

pub rows_right : Answers c.grid.Grid.rows_right.ended f.grid.Grid.rows_right.Reads.Asked f.grid.Grid.rows_right.Reads.Learnt
rows_right = (λ κs a. tt, λ κs a x y p q i. (same p q i, x.1))

pub count_before : Fixes c.grid.Grid.count_before.ended f.grid.Grid.count_before.Reads.Learnt
count_before κs a x y p q i = (same p.0 q.0 i, x.1)

pub count_open : Answers c.grid.Grid.count_open.ended f.grid.Grid.count_open.Reads.Asked f.grid.Grid.count_open.Reads.Learnt
count_open = (λ κs a. tt, λ κs a x y p q i. (same p q i, x.1))

pub cell_of : Answers c.grid.Grid.cell_of.ended f.grid.Grid.cell_of.Reads.Asked f.grid.Grid.cell_of.Reads.Learnt
cell_of = (λ κs a. tt, λ κs a x y p q i. (same p q i, x.1))

pub put_spots : Fixes c.grid.Grid.put_spots.ended f.grid.Grid.put_spots.Reads.Learnt
put_spots κs a x y p q i = (same p.0 q.0 i, (tt, (same p.1 q.1 i, tt)))

pub free : Answers c.grid.Grid.free.ended f.grid.Grid.free.Reads.Asked f.grid.Grid.free.Reads.Learnt
free = (λ κs a. tt, λ κs a x y p q i. (same p q i, x.1))

pub is_linked : Fixes c.grid.Grid.is_linked.ended f.grid.Grid.is_linked.Reads.Learnt
is_linked κs a x y p q i = (same p q i, x.1)

-- neighbours.rt
pub row_to : Fixes c.neighbours.row_to.ended f.neighbours.row_to.Reads.Learnt
row_to κs a x y p q i = (same p q i, x.1)

pub column_to : Fixes c.neighbours.column_to.ended f.neighbours.column_to.Reads.Learnt
column_to κs a x y p q i = (same p q i, x.1)

pub is_diagonal : Answers c.neighbours.is_diagonal.ended f.neighbours.is_diagonal.Reads.Asked f.neighbours.is_diagonal.Reads.Learnt
is_diagonal = (λ κs a. tt, λ κs a x y p q i. (same p q i, x.1))

pub cost_to : Answers c.neighbours.cost_to.ended f.neighbours.cost_to.Reads.Asked f.neighbours.cost_to.Reads.Learnt
cost_to = (λ κs a. tt, λ κs a x y p q i. (same p q i, x.1))

-- states.rt
pub here : Fixes c.states.States.here.ended f.states.States.here.Reads.Learnt
here κs a x y p q i = ((same p.0.0 q.0.0 i, same p.1.0 q.1.0 i), x.1)

pub is_passage : Fixes c.states.States.is_passage.ended f.states.States.is_passage.Reads.Learnt
is_passage κs a x y p q i = (same p q i, x.1)

pub leads_to : Fixes c.states.States.leads_to.ended f.states.States.leads_to.Reads.Learnt
leads_to κs a x y p q i = (same p.0 q.0 i, x.1)

pub state_of : Fixes c.states.States.state_of.ended f.states.States.state_of.Reads.Learnt
state_of κs a x y p q i = (same p q i, x.1)

pub count_passages : Answers c.states.States.count_passages.ended f.states.States.count_passages.Reads.Asked f.states.States.count_passages.Reads.Learnt
count_passages = (λ κs a. tt, λ κs a x y p q i. (same p.0 q.0 i, x.1))

pub put_passages : Fixes c.states.States.put_passages.ended f.states.States.put_passages.Reads.Learnt
put_passages κs a x y p q i = (tt, (tt, (same p q i, tt)))

-- gaps.rt
pub gap : Answers c.gaps.gap.ended f.gaps.gap.Reads.Asked f.gaps.gap.Reads.Learnt
gap = (λ κs a. tt, λ κs a x y p q i. (same p q i, x.1))

pub octile : Answers c.gaps.octile.ended f.gaps.octile.Reads.Asked f.gaps.octile.Reads.Learnt
octile = (λ κs a. tt, λ κs a x y p q i. (same p q i, x.1))

pub between : Answers c.gaps.between.ended f.gaps.between.Reads.Asked f.gaps.between.Reads.Learnt
between = (λ κs a. tt, λ κs a x y p q i. (same p q i, x.1))

pub put_estimates_from : Fixes c.gaps.put_estimates_from.ended f.gaps.put_estimates_from.Reads.Learnt
put_estimates_from κs a x y p q i = (tt, (tt, (tt, (same p q i, tt))))

pub put_estimates : Fixes c.gaps.put_estimates.ended f.gaps.put_estimates.Reads.Learnt
put_estimates κs a x y p q i = (tt, (tt, (same p q i, tt)))
