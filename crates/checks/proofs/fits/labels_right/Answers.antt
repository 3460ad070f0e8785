-- The fold goes over the labels of the states below n.
use Rattle.std.proofs.Common.{arith}
use Rattle.std.proofs.lemmas.Grind.{common_steps}
use Rattle.std.specs.Prelude.{leb}
use Rattle.laws.specs.Chains.{fold_by}
use Rattle.checks.specs.Fits.{labels_right}
use Rattle.checks.proofs.fits.labels_right.Goals as goal

pub returns : goal.returns
unfolding labels_right
returns c = fold_by (λ label. leb label 255000000) 0 _ _ _ (omega (arith, c.requires, c.told-label)) (grind (arith, common_steps))
