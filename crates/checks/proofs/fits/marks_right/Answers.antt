-- The fold goes over the marks of the states below n.
use Rattle.std.proofs.Common.{arith}
use Rattle.std.proofs.lemmas.Grind.{common_steps}
use Rattle.rule.specs.Marks.{is_mark}
use Rattle.laws.specs.Chains.{fold_by}
use Rattle.checks.specs.Fits.{marks_right}
use Rattle.checks.proofs.fits.marks_right.Goals as goal

pub returns : goal.returns
unfolding marks_right
returns c = fold_by is_mark 0 _ _ _ (omega (arith, c.requires, c.told-mark)) (grind (arith, common_steps))
