-- Each end of the loop's turn is one law on `Trying`, with what the test of s says of the board; past a test that failed the leads are those after s.
use Rattle.std.proofs.Common.{◌≡◌, ◌≤◌, ◌-◌, ◌∙◌, sym, ap, rules, inl, inr, ⊎_elim, not, true≢false, arith}
use Rattle.std.specs.Prelude.{Option, ℕ, ◌/◌}
use Rattle.std.specs.Option.{is_some}
use Rattle.laws.specs.Chains.{below}
use Rattle.dealing.specs.Seen.{seen}
use Rattle.dealing.specs.Standing.{block_lead_of}
use Rattle.dealing.specs.Limited.{stops_at, comparisons, next}
use Rattle.dealing.specs.LimitedRowLaws.{next_in, standing}
use Rattle.dealing.specs.LimitedOrderLaws.{Other, next_on, rank_next}
use Rattle.dealing.specs.LimitedStepLaws.{standing_of, trying_end, trying_other, trying_stands, trying_beside, trying_cut, trying_room, trying_passed, trying_on, ended_says, cut_says, next_keyed, none_of}
use Rattle.dealing.specs.LimitedLeadLaws.{leads_in, led_renewed, led_next, led_on}
use Rattle.dealing.proofs.Ranked.try_others.Goals as goal
use Rattle.dealing.proofs.Ranked.try_others.Goals.{In_ok-test, After-foremost_lead-candidate, then-is_none, else-is_none}

-- what the test of s says, where it isn't cut short
module _ (c : In_ok-test) where
  other : Other c.args.self.now.goal (seen c.args.self.now.board) c.in-Some.s
  other = trying_other _ _ _ _ _ _ _ _ _ _ c.loop-candidate.invariant.0 _ c.in-Some.is

  says :
      (c.in_ok-test.test.stop ≡ below c.args.self.now.board.table.n (stops_at c.args.self.now.goal c.args.self.now.pull (seen c.args.self.now.board) c.in-Some.s))
      × (c.in_ok-test.test.made ≡ comparisons c.args.self.now.goal c.args.self.now.pull (seen c.args.self.now.board) c.in-Some.s)
      × (c.in_ok-test.test.made ≤ c.args.limit - c.loop-candidate.made)
  says = ended_says _ _ _ _ c.args.self.now.keyed _ other.below other.waits _ _ c.in_ok-test.ensures

-- past a test that failed the leads are those after s
its_leads : (c : After-foremost_lead-candidate)
    → c.if-is_none.leads ≡ leads_in c.args.self.now.board.mark.now c.args.self.now.key.now c.args.self.now.board.table.n c.args.self.now.goal c.loop-candidate.candidate
its_leads c =
    let o = trying_other _ _ _ _ _ _ _ _ _ _ c.loop-candidate.invariant.0 _ c.in-Some.is in
    let beside = trying_beside _ _ _ _ _ _ _ _ _ _ c.loop-candidate.invariant.0 _ c.in-Some.is in
    elim c.if-is_none.branch [
      | then-is_none w ↦ w.leads-is ∙ w.block_leads-leads.ensures
      | else-is_none w ↦
          w.leads-is
          ∙ rw beside
          (led_renewed _ _ _ _ _ c.args.self.now.board.table.whole.states _ _
          (⊎_elim (λ q. absurd (true≢false (sym (c.is_none.ensures ∙ ap not w.if-is_none.false) ∙ ap is_some q))) (λ q. rw c.in-Some.is at q) c.loop-candidate.invariant.1) (λ q. omega (arith, o.below)) (w.block_lead.ensures ∙ ap (λ (last : Option (ℕ × ℕ)). block_lead_of c.args.self.now last (c.in-Some.s / 16)) beside))
    ]

its_number : (c : After-foremost_lead-candidate)
    → next_in c.args.self.now.board.mark.now c.args.self.now.key.now c.args.self.now.board.table.n c.args.self.now.goal c.loop-candidate.candidate
    ≡ next c.args.self.now.goal c.args.self.now.pull (seen c.args.self.now.board) c.in-Some.s
its_number c =
    next_keyed _ _ _ _ c.args.self.now.keyed _ (inr (trying_other _ _ _ _ _ _ _ _ _ _ c.loop-candidate.invariant.0 _ c.in-Some.is)) _
    (trying_stands _ _ _ _ _ _ _ _ _ _ c.loop-candidate.invariant.0 _ c.in-Some.is)

-- the next candidate is the board's
its_next : (c : After-foremost_lead-candidate)
    → c.foremost_lead-candidate.result
    ≡ standing c.args.self.now.key.now c.args.self.now.board.table.n (next c.args.self.now.goal c.args.self.now.pull (seen c.args.self.now.board) c.in-Some.s)
its_next c =
    led_next _ _ _ _ 0 c.args.self.now.board.table.whole.states _ _ (its_leads c) _ c.foremost_lead-candidate.ensures
    ∙ ap (standing c.args.self.now.key.now c.args.self.now.board.table.n) (its_number c)

pub returns-in_err-test : goal.returns-in_err-test
returns-in_err-test c =
    let o = trying_other _ _ _ _ _ _ _ _ _ _ c.loop-candidate.invariant.0 _ c.in-Some.is in
    c.from_residual.ensures
    ∙ trying_cut _ _ _ _ _ _ _ _ _ _ c.loop-candidate.invariant.0 _ c.in-Some.is (cut_says _ _ _ _ c.args.self.now.keyed _ o.below o.waits _ c.in_err-test.ensures)

pub overflow_add-made : goal.overflow_add-made
overflow_add-made c =
    let room = trying_room _ _ _ _ _ _ _ _ _ _ c.loop-candidate.invariant.0 _ c.in-Some.is _ (says (goal.at.overflow_add-made c).In_ok-test) in
    search rules

pub returns-in_default-stop : goal.returns-in_default-stop
returns-in_default-stop c =
    trying_passed _ _ _ _ _ _ _ _ _ _ c.loop-candidate.invariant.0 _ c.in-Some.is _
    (says (goal.at.returns-in_default-stop c).In_ok-test) c.in_default-stop.is

pub returns : goal.returns
returns c = trying_end _ _ _ _ _ _ _ _ _ _ c.loop-candidate.invariant.0 c.in_default.is

pub loop-candidate-smaller : goal.loop-candidate-smaller
loop-candidate-smaller c =
    let p = goal.at.loop-candidate-smaller c in
    rw (
      (standing_of _ _ _ _ _ (next_on _ _ _ c.in-Some.s) (its_next p.After-foremost_lead-candidate)).0,
      c.in-Some.is,
    )
    (rank_next _ _ _ _ (other p.In_ok-test))

pub loop-candidate-preserved : goal.loop-candidate-preserved
loop-candidate-preserved c =
    let p = goal.at.loop-candidate-preserved c in (
      trying_on _ _ _ _ _ _ _ _ _ _ c.loop-candidate.invariant.0 _ c.in-Some.is _ (says p.In_ok-test) _ c.in-Some-stop.is _
          (elim c.if-is_none.branch [
            | then-is_none w ↦ inl (none_of _ (c.is_none.ensures ∙ ap not w.if-is_none.true), w.stop-is)
            | else-is_none w ↦ inr (c.is_none.ensures ∙ ap not w.if-is_none.false, w.stop-is)
          ])
          _ (its_next p.After-foremost_lead-candidate),
      inr (
          rw ((standing_of _ _ _ _ _ (next_on _ _ _ c.in-Some.s) (its_next p.After-foremost_lead-candidate)).0, ← its_number p.After-foremost_lead-candidate)
          (led_on _ _ _ _ 0 c.args.self.now.board.table.whole.states _ _ (its_leads p.After-foremost_lead-candidate))
          ),
    )
