-- The first state from which a detour is too short settles it.
use Rattle.std.proofs.Common.{rules, refl}
use Rattle.laws.specs.Ranges.{all_over}
use Rattle.checks.specs.Opening.{detours_bound}
use Rattle.checks.proofs.detours.BoundedTable.detours_bound.Goals as goal

pub returns : goal.returns
unfolding detours_bound
returns c = all_over _ _ _ (λ x r f h. search rules) _ refl _ c.all.ensures.runs
