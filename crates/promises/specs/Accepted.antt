-- What a task that opening accepts has: none of 1 to 7 applies, so its numbers are in range, and its estimates agree with its passages (checks 4 to 7).
use Rattle.std.specs.Prelude.{◌≡◌, refl, true, ℕ, ◌≤◌, Result, Ok, Err}
use Rattle.std.proofs.Common.{sym, ◌∙◌, arith}
use Rattle.std.proofs.Math.Dec.{leb}
use borrow.Author.Tests.{eqb-true, leb-true}
use Rattle.laws.specs.Truth.{and_right, provided_ok}
use Rattle.laws.specs.All.{all, all_at}
use Rattle.rule.specs.Task.{passage_count, cost, estimate}
use Rattle.rule.specs.declared.refusals.Refusal.{Refusal}
use Rattle.rule.specs.declared.refusals.Refusal.TheVariants.{BadEstimate, AbovePassage, AboveDetour}
use Rattle.argument.specs.View.{Consistent}
use Rattle.checks.specs.Opening.{Task, row_right, estimates_right, passage_bounds, passages_bound, detour_bounds, detours_by, detours_from, detours_bound}
use Rattle.checks.specs.Opening.{early_fault, fault, holds5, holds6, holds7}
use Rattle.checks.specs.Laws.{Right, right, fault_none, fault_late, near_in, far_in, cost_in}
use Rattle.desk.specs.declared.Reply.TheVariants.{Opened}
use Rattle.desk.specs.Opening.{opening_of, opened, opened_machine}
use Rattle.promises.specs.Demand.{Accepted, graph}

-- what the proofs use of such a task
pub record Sound (t : Task) : Type 0 where
  pub early : early_fault t ≡ Ok tt
  pub right : Right t
  pub consistent : Consistent (graph t) t.n t.excess (estimate t.estimates t.n)
  pub costs : (i : ℕ) → (graph t).edge i → cost t.passages i ≤ 1000000

pub accepted_fault : (t : Task) → Accepted t → fault t ≡ Ok tt
unfolding opening_of
accepted_fault t = go (fault t) refl
  where
    go : (r : Result (Unit {0}) Refusal) → fault t ≡ r → (opened t r).reply ≡ Opened → fault t ≡ Ok tt
    go (Ok u) e q = e
    go (Err refusal) e q = let z : ◌≡◌ {A = ℕ} 0 1 = cc in absurd (omega arith)

pub accepted_machine : (t : Task) → Accepted t → (opening_of t).machine ≡ opened_machine t
unfolding opening_of
accepted_machine t a = rw (accepted_fault t a)

module _ (t : Task) (e : fault t ≡ Ok tt) where
  late : (holds5 t ≡ true) × ((holds6 t ≡ true) × (holds7 t ≡ true))
  late =
      let five = provided_ok (holds5 t) BadEstimate _ (sym (fault_late t (fault_none t e)) ∙ e) in
      let six = provided_ok (holds6 t) AbovePassage _ five.1 in
      let seven = provided_ok (holds7 t) AboveDetour _ six.1 in
      (five.0, (six.0, seven.0))

  numbers : Right t
  numbers = right t (fault_none t e)

  estimates_agree : Consistent (graph t) t.n t.excess (estimate t.estimates t.n)
  unfolding estimates_right passages_bound detours_by detours_from detours_bound
  estimates_agree = record {
    ends = λ i (l, _). (near_in t.passages t.n numbers.listed i l, far_in t.passages t.n numbers.listed i l);
    self = λ a l. eqb-true _ _ (and_right (all (λ b. leb (estimate t.estimates t.n a b) 255000000) t.n) _ (all_at (row_right t.estimates t.n) t.n a late.0 l));
    edge = λ i (l, k). leb-true _ _ (rw k at (all_at (passage_bounds t.passages t.estimates t.n) (passage_count t.passages) i late.1.0 l));
    triangle = λ a b c x y z. leb-true _ _ (all_at (detour_bounds t.estimates t.n a b) t.n c
        (all_at (detours_by t.estimates t.n a) t.n b (all_at (detours_from t.estimates t.n) t.n a late.1.1 x) y) z);
    hundred = numbers.least;
  }

  pub sound : Sound t
  sound = record {
    early = fault_none t e;
    right = numbers;
    consistent = estimates_agree;
    costs = λ i (l, k). cost_in t.passages t.n numbers.listed i l k;
  }
