-- Each return is one law on the ladder of a limited Take, applied to what the goal's test and trying the others came to.
use Rattle.std.proofs.Common.{◌≡◌, refl, ◌∙◌, sym, ap, not, Some, inl, eq-eqb}
use Rattle.dealing.specs.Seen.{seen}
use Rattle.dealing.specs.Limited.{next}
use Rattle.dealing.specs.LimitedRowLaws.{standing}
use Rattle.dealing.specs.LimitedStepLaws.{GoalTried, goal_untried, goal_cut, goal_found, goal_tried, ended_says, cut_says, next_keyed, others_to_try, limits_cut, limits_deal, limits_none, limits_wait}
use Rattle.dealing.specs.LimitedLeadLaws.{lead_all, standing_none}
use Rattle.dealing.proofs.Ranked.decide_limited.Goals as goal
use Rattle.dealing.proofs.Ranked.decide_limited.Goals.{After-lead-first, then-board-self-eq-OPEN+in_ok-test+else-is_none, else-board-self-eq-OPEN}

-- past the goal: it didn't pass
goal_known : (c : After-lead-first)
    → GoalTried c.args.self.now.goal c.args.self.now.pull (seen c.args.self.now.board)
    c.args.limit c.if-board-self-eq-OPEN.held c.if-board-self-eq-OPEN.made
goal_known c =
    elim c.if-board-self-eq-OPEN.branch [
      | then-board-self-eq-OPEN+in_ok-test+else-is_none w ↦
          rw (w.held-is, w.made-is)
          (goal_tried _ _ _ w.if-board-self-eq-OPEN.true _ _
          (ended_says _ _ _ _ c.args.self.now.keyed _ c.requires (eq-eqb _ _ w.if-board-self-eq-OPEN.true) _ _ w.in_ok-test.ensures)
          (w.is_none.ensures ∙ ap not w.if-is_none.false))
      | else-board-self-eq-OPEN w ↦ rw (w.held-is, w.made-is) (goal_untried _ _ _ _ w.if-board-self-eq-OPEN.false)
    ]

-- the first of the others is the board's
its_first : (c : After-lead-first)
    → c.lead-first.result
    ≡ standing c.args.self.now.key.now c.args.self.now.board.table.n (next c.args.self.now.goal c.args.self.now.pull (seen c.args.self.now.board) c.args.self.now.board.table.n)
its_first c =
    let n = c.args.self.now.board.table.n in
    c.lead-first.ensures
    ∙ ap (standing c.args.self.now.key.now n)
    (lead_all _ _ _ _ _ ∙ next_keyed _ _ _ _ c.args.self.now.keyed n (inl refl) _ (sym (standing_none c.args.self.now.key.now n n refl)))

pub returns-in_err-test : goal.returns-in_err-test
returns-in_err-test c =
    c.from_residual.ensures
    ∙ goal_cut _ _ _ c.if-board-self-eq-OPEN.true _
    (cut_says _ _ _ _ c.args.self.now.keyed _ c.requires (eq-eqb _ _ c.if-board-self-eq-OPEN.true) _ c.in_err-test.ensures)

pub returns-then-is_none : goal.returns-then-is_none
returns-then-is_none c =
    goal_found _ _ _ c.if-board-self-eq-OPEN.true _ _
    (ended_says _ _ _ _ c.args.self.now.keyed _ c.requires (eq-eqb _ _ c.if-board-self-eq-OPEN.true) _ _ c.in_ok-test.ensures)
    (c.is_none.ensures ∙ ap not c.if-is_none.true)

pub try_others-requires : goal.try_others-requires
try_others-requires c =
    let p = goal.at.try_others-requires c in
    others_to_try _ _ _ _ _ _ _ _ (goal_known p.After-lead-first) (its_first p.After-lead-first)

pub returns-in_err-s : goal.returns-in_err-s
returns-in_err-s c =
    let p = goal.at.returns-in_err-s c in
    c.from_residual-in_err-s.ensures
    ∙ limits_cut _ _ _ _ _ _ _ _ (goal_known p.After-lead-first) (its_first p.After-lead-first) c.in_err-s.ensures

pub returns-in-Passed : goal.returns-in-Passed
returns-in-Passed c =
    let p = goal.at.returns-in-Passed c in
    limits_deal _ _ _ _ _ _ _ _ (goal_known p.After-lead-first) (its_first p.After-lead-first) _ _
    (ap Some (sym c.in-Passed.is) ∙ c.in_ok-s.ensures)

pub returns-in-None : goal.returns-in-None
returns-in-None c =
    let p = goal.at.returns-in-None c in
    limits_none _ _ _ _ _ _ _ _ (goal_known p.After-lead-first) (its_first p.After-lead-first) _ _
    (ap Some (sym c.in-Failed.is) ∙ c.in_ok-s.ensures) c.in-None.ensures

pub returns-in-Some : goal.returns-in-Some
returns-in-Some c =
    let p = goal.at.returns-in-Some c in
    limits_wait _ _ _ _ _ _ _ _ (goal_known p.After-lead-first) (its_first p.After-lead-first) _ _
    (ap Some (sym c.in-Failed.is) ∙ c.in_ok-s.ensures) c.args.self.now.keyed c.requires _ _ c.in-Some.ensures (rw c.zip.ensures at c.front_stop.ensures)
