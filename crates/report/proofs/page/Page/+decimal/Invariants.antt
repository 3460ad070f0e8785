-- `decimal` calls itself with the digits before the last: the number falls.
use Rattle.report.proofs.page.Page.+decimal.Given as goal

abbrev pub decreases-decimal : goal.decreases-decimal
decreases-decimal l = l.n
