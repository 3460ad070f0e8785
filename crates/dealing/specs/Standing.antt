-- What the tests and the leads of a limited Take come to on a board whose keys stand in a row, as the code has it.
use Rattle.std.specs.Prelude.{Option, List, ℕ}
use Rattle.dealing.specs.declared.Ranked.{Ranked}
use Rattle.dealing.specs.declared.limits.Test.{Test}
use Rattle.dealing.specs.Seen.{seen}
use Rattle.dealing.specs.LimitedRowLaws.{rivals, holds_off, test_of, standing}
use Rattle.dealing.specs.LimitedLeadLaws.{lead_in, block_lead, leads_in}

-- the test of the candidate s, with so much left of the limit
abbrev pub test_at : Ranked → ℕ → ℕ → Option Test
test_at r s left = test_of (rivals r.board.mark.now r.key.now s) (holds_off (seen r.board) s) r.board.table.n left

-- of the states in a range that come on after the last one the first by key and number, beside its key; the same of a block, and of each
abbrev pub lead_of : Ranked → Option (ℕ × ℕ) → ℕ → ℕ → Option (ℕ × ℕ)
lead_of r last from end = standing r.key.now r.board.table.n (lead_in r.board.mark.now r.key.now r.board.table.n r.goal last from end)

abbrev pub block_lead_of : Ranked → Option (ℕ × ℕ) → ℕ → Option (ℕ × ℕ)
block_lead_of r last b = standing r.key.now r.board.table.n (block_lead r.board.mark.now r.key.now r.board.table.n r.goal last b)

abbrev pub leads_of : Ranked → Option (ℕ × ℕ) → List (Option (ℕ × ℕ))
leads_of r last = leads_in r.board.mark.now r.key.now r.board.table.n r.goal last
