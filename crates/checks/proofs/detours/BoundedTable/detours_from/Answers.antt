-- A state that is passed over has no detour that is too short, and the first other state that has one settles it.
use Rattle.std.proofs.Common.{rules, refl, ◌∙◌}
use Rattle.std.specs.Prelude.{◌||◌, leb, eqb}
use Rattle.laws.specs.All.{all_same}
use Rattle.laws.specs.LargestLaws.{largest}
use Rattle.laws.specs.Ranges.{all_over}
use Rattle.rule.specs.Task.{estimate}
use Rattle.checks.specs.Opening.{detours_by, detours_from}
use Rattle.checks.specs.Laws.{passed_over}
use Rattle.checks.proofs.detours.BoundedTable.detours_from.Goals as goal

pub returns : goal.returns
unfolding detours_from
returns c =
    let t = c.args.self.now.table in
    let a = c.args.a in
    let h = estimate t.estimates.now t.n a in
    all_over _ _ (λ b. eqb b a || (leb (largest h t.n) (h b) || detours_by t.estimates.now t.n a b)) (λ x r f h. search rules) _ refl _ c.all.ensures.runs
    ∙ all_same _ _ t.n (λ b l. passed_over t.estimates.now t.n a b)
