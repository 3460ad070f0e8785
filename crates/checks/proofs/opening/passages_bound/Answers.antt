-- The ends of each passage are states by check 4. The first estimate above the cost of a passage that isn't blocked settles it.
use Rattle.std.proofs.Common.{rules, refl}
use Rattle.laws.specs.Ranges.{all_over, all_callable}
use Rattle.rule.specs.Task.{is_clear}
use Rattle.checks.specs.Opening.{passage_bounds, passages_bound}
use Rattle.checks.specs.Laws.{near_in, far_in}
use Rattle.checks.proofs.opening.passages_bound.Goals as goal

pub all-requires-clause-callable : goal.all-requires-clause-callable
unfolding is_clear
all-requires-clause-callable c =
    all_callable _ _ (passage_bounds c.args.passages.now c.args.table.now.estimates.now c.args.table.now.n) (λ x r f h. search rules) _ refl (λ x l. search (rules, near_in, far_in))

pub returns : goal.returns
unfolding passages_bound is_clear
returns c = all_over _ _ _ (λ x r f h. search rules) _ refl _ c.all.ensures.runs
