-- Each end of the loop's turn is one law on `Gone`, with what `is_home` and `is_linked` answered in the words of the definitions.
use Rattle.std.proofs.Common.{sym, ◌∙◌}
use Rattle.trail.specs.Laws.{linked_via, gone_more, gone_found, gone_broken, gone_end}
use Rattle.trail.proofs.Trail.path_length.Goals as goal

pub returns-then-is_home : goal.returns-then-is_home
returns-then-is_home c = gone_found _ _ _ c.loop-i.invariant c.loop-i-test.true (sym c.is_home.ensures ∙ c.if-is_home.true)

pub returns-then-not-is_linked : goal.returns-then-not-is_linked
returns-then-not-is_linked c =
    gone_broken _ _ _ c.loop-i.invariant c.loop-i-test.true (sym c.is_home.ensures ∙ c.if-is_home.false) (sym c.is_linked.ensures ∙ c.if-not-is_linked.true)

pub came_from-s-requires : goal.came_from-s-requires
came_from-s-requires c = (c.loop-i.invariant.inside, linked_via _ _ _ _ (sym c.is_linked.ensures ∙ c.if-not-is_linked.false))

pub loop-i-preserved : goal.loop-i-preserved
loop-i-preserved c =
    gone_more _ _ _ c.loop-i.invariant c.loop-i-test.true _ c.requires.0 (sym c.is_home.ensures ∙ c.if-is_home.false)
    (sym c.is_linked.ensures ∙ c.if-not-is_linked.false) c.came_from-s.ensures

pub returns : goal.returns
returns c = gone_end _ _ _ c.loop-i.invariant c.loop-i-test.false
