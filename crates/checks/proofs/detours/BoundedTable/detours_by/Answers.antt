-- The fold keeps whether all detours so far are long enough.
use Rattle.std.proofs.Common.{rules, refl}
use Rattle.laws.specs.Ranges.{every_over}
use Rattle.checks.specs.Opening.{detours_by}
use Rattle.checks.proofs.detours.BoundedTable.detours_by.Goals as goal

pub returns : goal.returns
unfolding detours_by
returns c = every_over _ _ _ (λ b x r f h. search rules) _ refl _ c.fold.ensures.runs
