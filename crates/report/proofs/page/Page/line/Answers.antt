-- The word stands there at first, each turn puts one number more behind it, and the line's end comes last.
use Rattle.std.proofs.Common.{arith, refl}
use Rattle.report.specs.LineLaws.{listed_zero, listed_more, listed_end}
use Rattle.report.proofs.page.Page.line.Goals as goal

pub loop-value-init : goal.loop-value-init
loop-value-init c = listed_zero _ _ _ _ c.word.ensures

pub loop-value-preserved : goal.loop-value-preserved
loop-value-preserved c = listed_more _ _ _ _ _ c.loop-value.invariant _ c.loop-value-test.true _ refl c.number.ensures

pub returns : goal.returns
returns c = record {
  text = listed_end _ _ _ _ _ c.loop-value.invariant _ c.loop-value-test.false c.byte.ensures;
  short = omega (arith, c.loop-value.invariant.few, c.byte.ensures.put.next, c.requires.0, c.requires.1.0);
}
