-- The word stands there at first, each turn puts one state more behind it, and the line's end comes last.
use Rattle.std.proofs.Common.{◌≤◌, arith}
use Rattle.report.specs.LineLaws.{listed_zero, listed_more, listed_end}
use Rattle.report.proofs.page.Page.path.Goals as goal

pub loop-s-init : goal.loop-s-init
loop-s-init c = listed_zero _ _ _ _ c.word.ensures

pub loop-s-preserved : goal.loop-s-preserved
loop-s-preserved c = listed_more _ _ _ _ _ c.loop-s.invariant _ c.loop-s-test.true _ c.from-in-loop-s.ensures c.number.ensures

pub returns-after-loop-s : goal.returns-after-loop-s
returns-after-loop-s c =
    let few : c.in-Read.many ≤ 256 = rw c.in-Read.is at c.requires.0 in
    rw (c.in-Read.is, ← c.from.ensures) (record {
      text = listed_end _ _ _ _ _ c.loop-s.invariant _ c.loop-s-test.false c.byte.ensures;
      short = omega (arith, c.loop-s.invariant.few, c.byte.ensures.put.next, c.from.ensures);
    })
