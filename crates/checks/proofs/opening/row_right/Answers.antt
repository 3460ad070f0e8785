-- The first estimate that is too large settles the row.
use Rattle.std.proofs.Common.{rules, refl}
use Rattle.std.specs.Prelude.{leb}
use Rattle.laws.specs.Ranges.{all_over}
use Rattle.rule.specs.Task.{estimate}
use Rattle.checks.proofs.opening.row_right.Goals as goal

pub returns-then-all : goal.returns-then-all
returns-then-all c =
    rw (← all_over _ _ (λ b. leb (estimate c.args.table.now.estimates.now c.args.table.now.n c.args.a b) 255000000) (λ x r f h. search rules) _ refl _ c.all.ensures.runs, c.if-all.true, c.between.ensures)

pub returns-else-all : goal.returns-else-all
returns-else-all c =
    rw (← all_over _ _ (λ b. leb (estimate c.args.table.now.estimates.now c.args.table.now.n c.args.a b) 255000000) (λ x r f h. search rules) _ refl _ c.all.ensures.runs, c.if-all.false)
