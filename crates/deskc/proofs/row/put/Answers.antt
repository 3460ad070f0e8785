-- One number more each turn, as `put_more` says.
use Rattle.std.proofs.Common.{rules}
use Rattle.deskc.specs.StoredLaws.{put_more}
use Rattle.deskc.proofs.row.put.Goals as goal

pub loop-i-preserved : goal.loop-i-preserved
loop-i-preserved g c =
    put_more g.T.Stored.places g.T.Stored.PLACES g.met.T.Stored.fills c.loop-i.i c.PLACES.result _ c.index-part-i.result _ _ _ (search rules) c.PLACES.ensures (search rules)
    c.loop-i.invariant c.write.ensures
