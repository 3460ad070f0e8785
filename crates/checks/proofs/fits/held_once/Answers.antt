-- The first out state that isn't held by exactly one worker settles it.
use Rattle.std.proofs.Common.{rules, refl, ◌∙◌, ◌<◌, arith}
use Rattle.std.specs.Prelude.{◌||◌, not, eqb, get_or}
use Rattle.laws.specs.All.{all_same}
use Rattle.laws.specs.Ranges.{all_over}
use Rattle.rule.specs.Marks.{is_out}
use Rattle.checks.specs.Fits.{held_once}
use Rattle.checks.proofs.fits.held_once.Goals as goal

pub returns : goal.returns
unfolding held_once
returns c =
    all_over _ _ (λ s. not (is_out (get_or c.args.mark.now s 0)) || eqb (get_or c.holder_counts-many.result s 0) 1) (λ x r f h. search rules) _ refl _ c.all.ensures.runs
    ∙ all_same _ _ c.args.n (λ s l. let low : s < 256 = omega (arith, c.requires.0) in rw (c.holder_counts-many.ensures.each s low))
