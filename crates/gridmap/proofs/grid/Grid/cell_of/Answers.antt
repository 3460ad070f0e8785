-- The open place that as many come before.
use Rattle.std.proofs.Common.{rules}
use Rattle.gridmap.specs.Chains.{nth_by}
use Rattle.gridmap.specs.Map.{open_at, cells, state_count}
use Rattle.gridmap.specs.Laws.{map_with}
use Rattle.gridmap.proofs.grid.Grid.cell_of.Goals as goal

pub returns : goal.returns
unfolding cells state_count
returns c =
    let m = map_with c.args.self.now in
    let (p, from, given) = c.nth.ensures.runs in
    let (q, source, kept) = c.filter.ensures.runs p p.seen from in
    rw (← c.places.ensures.0) (nth_by c.places.result q source (open_at m) p (kept.4 (open_at m) (λ x r f h. search rules)) kept.0 c.args.state c.nth.result given)
