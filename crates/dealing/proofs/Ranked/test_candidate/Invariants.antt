-- The loop's invariant: the test hasn't stopped below `t`, and `made` counts the states that it compared with.
use Rattle.dealing.specs.Seen.{seen}
use Rattle.dealing.specs.LimitedRowLaws.{rivals, holds_off, Testing}
use Rattle.dealing.proofs.Ranked.test_candidate.Given as goal

abbrev pub invariant-loop-t : goal.invariant-loop-t
invariant-loop-t l = Testing (rivals l.self.board.mark.now l.self.key.now l.s) (holds_off (seen l.self.board) l.s) l.left l.t l.made
