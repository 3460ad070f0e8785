-- The loop's invariant: the leads of the blocks below `b` stand in their places.
use Rattle.laws.specs.Fill.{Filled}
use Rattle.dealing.specs.LimitedRowLaws.{standing}
use Rattle.dealing.specs.LimitedLeadLaws.{block_lead}
use Rattle.dealing.proofs.Ranked.block_leads.Given as goal

abbrev pub invariant-loop-b : goal.invariant-loop-b
invariant-loop-b l =
    Filled (λ b. standing l.self.key.now l.self.board.table.n (block_lead l.self.board.mark.now l.self.key.now l.self.board.table.n l.self.goal l.last b)) 0 l.initial.lead-items l.lead-items l.b
