-- Demand 3 and what goes with it, of every task that opening accepts: a day is a run from the opened machine, and what a run keeps is read off at the task's numbers.
use Rattle.std.specs.Prelude.{◌≡◌, refl, List, ◌≤◌, leb}
use Rattle.std.proofs.Common.{subst, arith}
use Rattle.std.proofs.Math.Path.{subst⁻¹, ap}
use Rattle.laws.specs.Count.{one_max}
use Rattle.rule.specs.declared.refusals.Refusal.TheVariants.{NothingOut}
use Rattle.checks.specs.Opening.{Task}
use Rattle.desk.specs.declared.Machine.{Machine}
use Rattle.desk.specs.declared.Reply.TheVariants.{Found, NoPath, Refused}
use Rattle.desk.specs.Machine.{mark_of, label_of, task_of}
use Rattle.desk.specs.Opening.{opening_of, opened_machine}
use Rattle.promises.specs.Day.{Call, reached, said}
use Rattle.promises.specs.Demand.{Accepted, Demand3, Kept}
use Rattle.promises.specs.Accepted.{sound, accepted_fault, accepted_machine}
use Rattle.promises.specs.Fits.{Steady, opened_steady, steady_fits}
use Rattle.promises.specs.Once.{gone_no}
use Rattle.promises.specs.Runs.{Standing, Run, day_run}

module _ (t : Task) (a : Accepted t) where
  -- the first machine
  opened : Standing t (opening_of t).machine
  unfolding opened_machine
  opened = record {
    steady = subst⁻¹ (Steady t.passages t.estimates) (accepted_machine t a) (opened_steady t (sound t (accepted_fault t a)) (accepted_fault t a));
    task = ap (λ (m : Machine). task_of m t.passages t.estimates) (accepted_machine t a);
  }

  module _ (day : List Call) where
    pub run : Run t (opening_of t).machine (reached t day) (said t day)
    run = day_run opened day

    goal_waits : mark_of (reached t day) t.goal ≤ 1
    goal_waits = subst (λ (u : Task). mark_of (reached t day) u.goal ≤ 1) run.stands.task run.stands.steady.sure.good.aim

    start_root : label_of (reached t day) t.start ≡ 0
    start_root = subst (λ (u : Task). label_of (reached t day) u.start ≡ 0) run.stands.task run.stands.steady.sure.good.chained.root

pub demand3 : (t : Task) → Accepted t → Demand3 t
demand3 t a = record {
  once = λ day s. omega (arith, (run t a day).once s, one_max (leb 2 (mark_of (reached t day) s)));
  found = λ day c i. ((run t a day).says (Found c) i).1;
  nopath = λ day i. (run t a day).says NoPath i;
}

pub kept : (t : Task) → Accepted t → Kept t
kept t a = record {
  fitting = λ day. steady_fits (run t a day).stands.steady;
  moving = λ day i. (run t a day).says (Refused NothingOut) i refl;
  aim = λ day. omega (arith, (run t a day).once t.goal, gone_no (reached t day) t.goal (goal_waits t a day));
  root = start_root t a;
}
