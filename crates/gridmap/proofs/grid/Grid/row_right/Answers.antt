-- Every cell is one, and the line feed is the last.
use Rattle.std.proofs.Common.{◌≡◌, sym, ◌∙◌, rules}
use Rattle.laws.specs.All.{all}
use Rattle.gridmap.specs.Chains.{all_run}
use Rattle.gridmap.specs.Map.{place_of}
use Rattle.gridmap.specs.Laws.{map_with, cell_right}
use Rattle.gridmap.specs.CellLaws.{row_split}
use Rattle.gridmap.proofs.grid.Grid.row_right.Goals as goal
use Rattle.gridmap.proofs.grid.Grid.row_right.Goals.{After-all}

cells : (c : After-all) → c.all.result ≡ all (λ column. cell_right (map_with c.args.self.now) (place_of (map_with c.args.self.now) c.args.row column)) c.args.self.now.width
cells c =
    let (q, from, given) = c.all.ensures.runs in
    all_run c.args.self.now.width q from (λ column. cell_right (map_with c.args.self.now) (place_of (map_with c.args.self.now) c.args.row column)) (λ a b f h. search rules) c.all.result given

pub returns-then-all : goal.returns-then-all
returns-then-all c =
    let m = map_with c.args.self.now in
    let every = sym (cells (goal.at.returns-then-all c).After-all) ∙ c.if-all.true in
    rw (row_split m c.args.row, every, ← c.place_of.ensures.0, ← c.byte_at.ensures)

pub returns-else-all : goal.returns-else-all
returns-else-all c =
    let m = map_with c.args.self.now in
    let some = sym (cells (goal.at.returns-else-all c).After-all) ∙ c.if-all.false in
    rw (row_split m c.args.row, some, c.if-all.false)
