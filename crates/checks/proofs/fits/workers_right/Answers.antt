-- The first worker that fails settles it.
use Rattle.std.proofs.Common.{rules, refl}
use Rattle.laws.specs.Ranges.{all_over}
use Rattle.checks.specs.Fits.{workers_right}
use Rattle.checks.proofs.fits.workers_right.Goals as goal

pub returns : goal.returns
unfolding workers_right
returns c = all_over _ _ _ (λ x r f h. search rules) _ refl _ c.all.ensures.runs
