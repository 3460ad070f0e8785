-- The neighbours that are ends of passages.
use Rattle.std.proofs.Common.{◌*◌, length, arith, rules}
use Rattle.laws.specs.Count.{count_max}
use Rattle.gridmap.specs.Chains.{count_by}
use Rattle.gridmap.specs.Passages.{is_passage, passages_many}
use Rattle.gridmap.specs.Laws.{map_with}
use Rattle.gridmap.specs.RowLaws.{held_length}
use Rattle.gridmap.proofs.states.States.count_passages.Goals as goal

pub returns : goal.returns
unfolding passages_many
returns c =
    let s = c.args.self.now in
    let m = map_with s.grid in
    let n = 8 * length s.spots.now in
    let (p, from, whole, many) = c.count.ensures.runs in
    let (q, source, kept) = c.filter.ensures.runs p p.seen from in
    let e = count_by n q source (is_passage m) p (kept.4 (is_passage m) (λ x r f h. search rules)) kept.0 c.count.result whole many in
    (rw (← held_length m s.spots.now s.placed) e, omega (arith, e, count_max (is_passage m) n, s.few))
