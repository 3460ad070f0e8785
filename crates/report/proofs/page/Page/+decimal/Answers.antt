-- The digits before the last, where there are any, take 19 places at most, and the last stands behind them.
use Rattle.std.proofs.Common.{arith}
use Rattle.report.specs.LineLaws.{front_le, written_digit, written_more}
use Rattle.report.proofs.page.Page.+decimal.Goals as goal
use Rattle.report.proofs.page.Page.+decimal.Goals.{then-n-ge10, else-n-ge10}

pub byte-requires : goal.byte-requires
byte-requires t c = elim c.if-n-ge10.branch [
  | then-n-ge10 w ↦
      rw w.self-is (omega (arith, w.decimal.ensures.put.next, w.decimal.ensures.long, front_le c.args.n c.ranges.n.fits, c.requires))
  | else-n-ge10 w ↦ rw w.self-is (omega (arith, c.requires))
]

pub returns : goal.returns
returns t c = elim c.if-n-ge10.branch [
  | then-n-ge10 w ↦
      written_more _ _ _ _ w.if-n-ge10.true c.ranges.n.fits w.decimal.ensures (rw w.self-is at c.byte.ensures)
  | else-n-ge10 w ↦ written_digit _ _ _ w.if-n-ge10.false (rw w.self-is at c.byte.ensures)
]
