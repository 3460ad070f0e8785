-- The closure changes nothing that it holds; each of its calls reads a number that stands in the row.
use Rattle.std.proofs.Common.{rules, ◌+◌, ◌*◌, ◌≤◌, drop, length}
use Rattle.deskc.specs.StoredLaws.{made_by_fn, each_below, within, tail}
use Rattle.deskc.proofs.row.part.Goals as goal

pub from_fn-requires : goal.from_fn-requires
from_fn-requires g c = (
  search rules,
  each_below _ _ (λ i q k. search rules) _ _ (λ i l.
      let w : c.PLACES-places.result * i + c.PLACES-places.result ≤ length c.args.row.now = rw c.PLACES-places.ensures (within _ _ i _ l c.requires.room) in
      let m : g.T.Stored.stands (drop (c.PLACES-places.result * i) c.args.row.now) = rw c.PLACES-places.ensures (c.requires.stand i l) in
      search (rules, tail)),
)

pub returns : goal.returns
returns g c = made_by_fn _ _ _ _ (λ i y q l k. (search (rules, tail), search rules)) _ c.from_fn.ensures.items
