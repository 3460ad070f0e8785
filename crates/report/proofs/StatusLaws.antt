-- What a file comes to, and its number, by what reading it comes to.
use Rattle.std.specs.Prelude.{◌≡◌, refl, cond, List, ℕ, ◌*◌, take, Result, Ok, Err, eqb}
use Rattle.std.proofs.Common.{ap, ◌∙◌, arith, eq-eqb, ne_eqb}
use Rattle.rule.specs.declared.refusals.Refusal.{Refusal}
use Rattle.rule.specs.Refusals.{number_of}
use Rattle.desk.specs.declared.Reply.{Reply}
use Rattle.desk.specs.declared.Reply.TheVariants.{Opened, Took, Brought, Found, NoPath, Wait, Read, Refused, Done, Cut}
use Rattle.desk.specs.declared.Answer.{Answer}
use Rattle.desk.specs.Reply.{when, refusal, refusal_of}
use Rattle.desk.specs.KeyLaws.{number_above}
use Rattle.taskfile.specs.declared.Contents.{Contents}
use Rattle.taskfile.specs.declared.faults.Fault.{Fault}
use Rattle.report.specs.declared.status.Ending.{Ending}
use Rattle.report.specs.declared.status.Ending.TheVariants.{Run, FileFault, OpeningRefused}
use Rattle.report.specs.Text.{opening_read, reading}
use Rattle.report.specs.Laws.{NotRefused, not_refused}
use Rattle.report.specs.Status.{outcome_ending, ending_of, status_with, status_of}

ending_as : (file : List ℕ) (o : Result Contents Fault) → o ≡ (reading file).outcome → outcome_ending (reading file) o ≡ ending_of file
unfolding ending_of
ending_as file o e = ap (outcome_ending (reading file)) e

pub ending_fault : (file : List ℕ) (fault : Fault) → Err fault ≡ (reading file).outcome → FileFault ≡ ending_of file
ending_fault file fault e = ending_as file (Err fault) e

-- a task that was read, and the answer to its opening
module _ (file : List ℕ) (c : Contents) (e : Ok c ≡ (reading file).outcome) (passages estimates : List ℕ) (x : passages ≡ (reading file).passages) (y : estimates ≡ (reading file).estimates)
    (a : Answer) (f : a ≡ opening_read c (take (3 * c.passages) passages) (take (c.n * c.n) estimates)) where
  ending_task : when refusal a.reply (λ _. OpeningRefused) Run ≡ ending_of file
  ending_task = rw (f, x, y) (ending_as file (Ok c) e)

  pub ending_refused : (why : Refusal) → a.reply ≡ Refused why → OpeningRefused ≡ ending_of file
  ending_refused why r = rw r at ending_task

  pub ending_run : NotRefused a.reply → Run ≡ ending_of file
  ending_run n = rw (not_refused a.reply n) at ending_task

-- the number of what a file comes to
status_as : (file : List ℕ) (ending : Ending) → ending ≡ ending_of file → status_with ending ≡ status_of file
unfolding status_of
status_as file ending e = ap status_with e

pub status_fault : (file : List ℕ) (fault : Fault) → Err fault ≡ (reading file).outcome → 1 ≡ status_of file
status_fault file fault e = status_as file FileFault (ending_fault file fault e)

-- of a task that was read the number goes by that of opening's refusal, 0 where there is none
status_read : (r : Reply) → cond (eqb (refusal_of r) 0) 0 2 ≡ status_with (when refusal r (λ _. OpeningRefused) Run)
status_read Opened = refl
status_read (Took s) = refl
status_read (Brought many) = refl
status_read (Found cost) = refl
status_read NoPath = refl
status_read (Wait s) = refl
status_read (Read many) = refl
status_read (Refused why) = rw (ne_eqb (number_of why) 0 (λ e. omega (arith, number_above why, e)))
status_read Done = refl
status_read (Cut limit) = refl

-- a task that was read, with the number of opening's refusal of it
module _ (file : List ℕ) (c : Contents) (e : Ok c ≡ (reading file).outcome) (passages estimates : List ℕ) (x : passages ≡ (reading file).passages) (y : estimates ≡ (reading file).estimates)
    (number : ℕ) (f : number ≡ refusal_of (opening_read c (take (3 * c.passages) passages) (take (c.n * c.n) estimates)).reply) where
  status_task : cond (eqb number 0) 0 2 ≡ status_of file
  status_task = let a = opening_read c (take (3 * c.passages) passages) (take (c.n * c.n) estimates) in
      rw f (status_read a.reply ∙ status_as file (when refusal a.reply (λ _. OpeningRefused) Run) (ending_task file c e passages estimates x y a refl))

  pub status_run : number ≡ 0 → 0 ≡ status_of file
  status_run z = rw (eq-eqb number 0 z) at status_task

  pub status_refused : (number ≡ 0 → ⊥) → 2 ≡ status_of file
  status_refused n = rw (ne_eqb number 0 n) at status_task
