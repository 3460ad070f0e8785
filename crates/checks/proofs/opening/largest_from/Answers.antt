-- The fold keeps the largest estimate so far.
use Rattle.std.proofs.Common.{rules, refl, max, ◌∙◌}
use Rattle.laws.specs.LargestLaws.{largest_folded}
use Rattle.laws.specs.Ranges.{fold_over}
use Rattle.rule.specs.Task.{estimate}
use Rattle.checks.proofs.opening.largest_from.Goals as goal

pub returns : goal.returns
returns c =
    fold_over _ _ (λ to most. max most (estimate c.args.table.now.estimates.now c.args.table.now.n c.args.a to)) (λ b x r f h. search rules) 0 _ refl _ c.fold.ensures.runs
    ∙ largest_folded (estimate c.args.table.now.estimates.now c.args.table.now.n c.args.a) c.args.table.now.n
