-- The fold keeps whether all keys so far are the ones to be stored.
use Rattle.std.proofs.Common.{rules, refl}
use Rattle.laws.specs.Ranges.{every_over}
use Rattle.checks.specs.Fits.{keys_right}
use Rattle.checks.proofs.fits.keys_right.Goals as goal

pub returns : goal.returns
unfolding keys_right
returns c = every_over _ _ _ (λ b x r f h. search rules) _ refl _ c.fold.ensures.runs
