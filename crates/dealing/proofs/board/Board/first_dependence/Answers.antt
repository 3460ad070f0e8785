-- The loop's start, turn and ends are the laws on `first`.
use Rattle.std.proofs.Common.{◌∙◌, sym, arith}
use Rattle.laws.specs.First.{first_zero, first_more, first_at, first_end}
use Rattle.dealing.specs.Places.{below_some, below_none}
use Rattle.dealing.specs.Board.{first_dependence}
use Rattle.dealing.proofs.board.Board.first_dependence.Goals as goal

pub loop-t-init : goal.loop-t-init
loop-t-init c = first_zero _

pub returns-then-depends_on : goal.returns-then-depends_on
unfolding first_dependence
returns-then-depends_on c =
    below_some _ _ _ (first_at _ _ _ c.loop-t.invariant (sym c.depends_on.ensures ∙ c.if-depends_on.true) c.loop-t-test.true) c.loop-t-test.true

pub loop-t-preserved : goal.loop-t-preserved
loop-t-preserved c = first_more _ _ c.loop-t.invariant (sym c.depends_on.ensures ∙ c.if-depends_on.false)

pub returns : goal.returns
unfolding first_dependence
returns c = below_none _ _ (first_end _ _ _ c.loop-t.invariant (omega arith) (omega arith))
