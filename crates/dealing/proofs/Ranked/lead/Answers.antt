-- The loop's start, turn and end are the laws on `Leading`; a state leads from now on where it is open, wins, comes after the last one and isn't the goal.
use Rattle.std.proofs.Common.{refl, ◌∙◌, sym, arith, inl, inr}
use Rattle.dealing.specs.LimitedRowLaws.{comes_shut, comes_goal, comes_late, comes_next}
use Rattle.dealing.specs.LimitedLeadLaws.{leading_zero, leading_skip, leading_lost, leading_won, leading_stop}
use Rattle.dealing.proofs.Ranked.lead.Goals as goal
use Rattle.dealing.proofs.Ranked.lead.Goals.{then-wins+then-comes_after+then-t-self, else-wins, else-wins-via-then-wins+then-comes_after+else-t-self, else-wins-via-then-wins+else-comes_after, else-wins-via-else-wins}

pub loop-t-init : goal.loop-t-init
loop-t-init c = (leading_zero _ _ _ _ _ _ _, inr refl)

pub loop-t-preserved-then-self-t-ne-OPEN : goal.loop-t-preserved-then-self-t-ne-OPEN
loop-t-preserved-then-self-t-ne-OPEN c = (leading_skip _ _ _ _ _ _ _ _ _ c.loop-t.invariant.0 (comes_shut _ _ _ _ _ c.if-self-t-ne-OPEN.true), inl (omega arith))

pub loop-t-preserved : goal.loop-t-preserved
loop-t-preserved c = (
  elim c.if-wins.branch [
    | then-wins+then-comes_after+then-t-self w ↦
        rw w.best-is
        (leading_won _ _ _ _ _ _ _ _ _ c.loop-t.invariant.0 (omega (arith, c.min-t-end.ensures)) (omega (arith, c.min-t-end.ensures))
        (comes_next _ _ _ _ _ c.if-self-t-ne-OPEN.false w.if-t-self.true (sym w.comes_after.ensures ∙ w.if-comes_after.true)) (sym c.wins.ensures ∙ w.if-wins.true))
    | else-wins w ↦
        rw w.best-is
        (elim w.else-wins.branch [
          | else-wins-via-then-wins+then-comes_after+else-t-self v ↦ leading_skip _ _ _ _ _ _ _ _ _ c.loop-t.invariant.0 (comes_goal _ _ _ _ _ v.if-t-self.false)
          | else-wins-via-then-wins+else-comes_after v ↦ leading_skip _ _ _ _ _ _ _ _ _ c.loop-t.invariant.0 (comes_late _ _ _ _ _ (sym v.comes_after.ensures ∙ v.if-comes_after.false))
          | else-wins-via-else-wins v ↦ leading_lost _ _ _ _ _ _ _ _ _ c.loop-t.invariant.0 (sym c.wins.ensures ∙ v.if-wins.false)
        ])
  ],
  inl (omega arith),
)

pub returns : goal.returns
returns c = leading_stop _ _ _ _ _ _ _ _ _ c.loop-t.invariant.0 _ c.min-t-end.ensures c.loop-t-test.false c.loop-t.invariant.1
