-- The loop's start, turn and ends are the laws on `Testing`, with what the callees say of the state at `t`.
use Rattle.std.proofs.Common.{◌∙◌, sym, true, false, arith}
use Rattle.dealing.specs.LimitedRowLaws.{testing_zero, testing_skip, testing_more, testing_cut, testing_stop, testing_end, rivals_by}
use Rattle.dealing.proofs.Ranked.test_candidate.Goals as goal
use Rattle.dealing.proofs.Ranked.test_candidate.Goals.{then-is_rival+else-made-left+else-holds_off, else-is_rival}

pub loop-t-init : goal.loop-t-init
loop-t-init c = testing_zero _ _ _

pub returns-then-made-left : goal.returns-then-made-left
returns-then-made-left c =
    testing_cut _ _ _ _ _ c.loop-t.invariant _ c.if-made-left.true (rivals_by _ _ _ _ true (sym c.if-is_rival.true ∙ c.is_rival.ensures)) c.loop-t-test.true

pub returns-then-holds_off : goal.returns-then-holds_off
returns-then-holds_off c =
    testing_stop _ _ _ _ _ c.loop-t.invariant _ c.if-made-left.false (rivals_by _ _ _ _ true (sym c.if-is_rival.true ∙ c.is_rival.ensures))
    (sym c.holds_off.ensures ∙ c.if-holds_off.true) c.loop-t-test.true

pub loop-t-preserved : goal.loop-t-preserved
loop-t-preserved c =
    elim c.if-is_rival.branch [
      | then-is_rival+else-made-left+else-holds_off w ↦
          rw w.made-is
          (testing_more _ _ _ _ _ c.loop-t.invariant w.if-made-left.false (rivals_by _ _ _ _ true (sym w.if-is_rival.true ∙ c.is_rival.ensures))
          (sym w.holds_off.ensures ∙ w.if-holds_off.false))
      | else-is_rival w ↦ rw w.made-is (testing_skip _ _ _ _ _ c.loop-t.invariant (rivals_by _ _ _ _ false (sym w.if-is_rival.false ∙ c.is_rival.ensures)))
    ]

pub returns : goal.returns
returns c = testing_end _ _ _ _ _ c.loop-t.invariant _ (omega arith) (omega arith)
