-- The first row that isn't right settles it.
use Rattle.std.proofs.Common.{rules, refl}
use Rattle.laws.specs.Ranges.{all_over}
use Rattle.checks.specs.Opening.{estimates_right}
use Rattle.checks.proofs.opening.estimates_right.Goals as goal

pub returns : goal.returns
unfolding estimates_right
returns c = all_over _ _ _ (λ x r f h. search rules) _ refl _ c.all.ensures.runs
