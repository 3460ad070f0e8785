-- Each way on from a candidate is one law on `Leads`, with the stored key for the candidate's, and what `depends_on` and `wins` say.
use Rattle.std.proofs.Common.{◌∙◌, sym, arith, eq-eqb}
use Rattle.laws.specs.First.{first_zero, first_more}
use Rattle.rule.specs.Marks.{waiting}
use Rattle.dealing.specs.Laws.{safe_passed, leads_zero, leads_shut, leads_lost, leads_behind, leads_front, leads_safe, leads_chosen, leads_stopped, leads_none}
use Rattle.dealing.proofs.Ranked.choose.Goals as goal
use Rattle.dealing.proofs.Ranked.choose.Goals.{then-wins, else-wins}

pub candidates-init : goal.candidates-init
candidates-init c = leads_zero _ _ _

pub candidates-preserved-then-board-s-ne-OPEN : goal.candidates-preserved-then-board-s-ne-OPEN
candidates-preserved-then-board-s-ne-OPEN c = leads_shut _ _ _ _ _ _ c.candidates.invariant c.if-board-s-ne-OPEN.true

pub candidates-preserved-then-not-wins : goal.candidates-preserved-then-not-wins
candidates-preserved-then-not-wins c =
    let its_key = c.args.self.now.keyed.at _ c.candidates-test.true (eq-eqb _ waiting c.if-board-s-ne-OPEN.false) in
    leads_lost _ _ _ _ _ _ c.candidates.invariant (rw its_key at (sym c.wins.ensures ∙ c.if-not-wins.true))

pub loop-t-init : goal.loop-t-init
loop-t-init c = (c.candidates.invariant, first_zero _)

pub candidates-preserved-then-depends_by : goal.candidates-preserved-then-depends_by
candidates-preserved-then-depends_by c =
    let its_key = c.args.self.now.keyed.at _ c.candidates-test.true (eq-eqb _ waiting c.if-board-s-ne-OPEN.false) in
    let held = sym c.depends_by.ensures ∙ c.if-depends_by.true in
    elim c.if-wins.branch [
      | then-wins w ↦
          rw (w.front-is, its_key)
          (leads_front _ _ _ _ _ _ c.loop-t.invariant.0 _ c.loop-t.invariant.1 held c.loop-t-test.true c.candidates-test.true c.if-board-s-ne-OPEN.false
          (rw its_key at (sym c.wins-then-depends_by.ensures ∙ w.if-wins.true)))
      | else-wins w ↦
          rw w.front-is
          (leads_behind _ _ _ _ _ _ c.loop-t.invariant.0 _ c.loop-t.invariant.1 held c.loop-t-test.true (rw its_key at (sym c.wins-then-depends_by.ensures ∙ w.if-wins.false)))
    ]

pub loop-t-preserved : goal.loop-t-preserved
loop-t-preserved c = (c.loop-t.invariant.0, first_more _ _ c.loop-t.invariant.1 (sym c.depends_by.ensures ∙ c.if-depends_by.false))

pub candidates-preserved : goal.candidates-preserved
candidates-preserved c =
    let its_key = c.args.self.now.keyed.at _ c.candidates-test.true (eq-eqb _ waiting c.if-board-s-ne-OPEN.false) in
    rw its_key
    (leads_safe _ _ _ _ _ _ c.loop-t.invariant.0 c.candidates-test.true (safe_passed _ _ _ c.if-board-s-ne-OPEN.false c.loop-t.invariant.1 (omega arith) (omega arith))
    (rw its_key at (sym c.wins.ensures ∙ c.if-not-wins.false)))

pub returns-in-Some-default : goal.returns-in-Some-default
returns-in-Some-default c =
    rw c.in-Some-default.s-is (leads_chosen _ _ _ _ (omega arith) (omega arith) _ _ (rw c.in-Some-default.is-0 at c.candidates.invariant))

pub returns-in-None-Some : goal.returns-in-None-Some
returns-in-None-Some c =
    rw c.in-None-Some.t-is (leads_stopped _ _ _ _ (omega arith) (omega arith) _ (rw (c.in-None-Some.is-0, c.in-None-Some.is-1) at c.candidates.invariant))

pub returns-in-None-None : goal.returns-in-None-None
returns-in-None-None c = leads_none _ _ _ _ (omega arith) (omega arith) (rw (c.in-None-None.is-0, c.in-None-None.is-1) at c.candidates.invariant)
