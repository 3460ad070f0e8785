-- The places before it that are open.
use Rattle.std.proofs.Common.{ℕ, Bool, arith, rules}
use Rattle.laws.specs.Count.{count_max}
use Rattle.gridmap.specs.Chains.{count_by}
use Rattle.gridmap.specs.Map.{open_at, state_of}
use Rattle.gridmap.specs.Laws.{map_with}
use Rattle.gridmap.proofs.grid.Grid.count_before.Goals as goal

pub returns : goal.returns
unfolding state_of
returns c =
    let (p, from, whole, many) = c.count.ensures.runs in
    let (q, source, kept) = c.filter.ensures.runs p p.seen from in
    let opens : ℕ → Bool = λ i. open_at (map_with c.args.self.now) i in
    let e = count_by c.args.place q source opens p (kept.4 opens (λ x r f h. search rules)) kept.0 c.count.result whole many in
    (e, omega (arith, e, count_max opens c.args.place))
