-- Calls by cases. A worker's call: refused with the machine as it was, or a step of Take, or a Bring of an out state. A morning: refused, or served.
-- What holds of each case holds of every call.
use Rattle.std.specs.Prelude.{◌≡◌, refl, ◌≢◌, not, List, map, ℕ, ◌≤◌, length, leb, eqb, Result, Ok, Err}
use Rattle.std.proofs.Common.{sym, ap, ◌∙◌, eqb-true}
use Rattle.std.proofs.Math.Path.{subst, subst⁻¹}
use Rattle.std.proofs.lemmas.Bool.{eqb-false, not-true}
use Rattle.laws.specs.Truth.{provided_either, not_refused}
use Rattle.laws.specs.Part.{overlaid}
use Rattle.rule.specs.Marks.{none, out}
use Rattle.rule.specs.declared.refusals.Refusal.{Refusal}
use Rattle.rule.specs.declared.refusals.Refusal.TheVariants.{NothingOut, ShortRow, NoEvent}
use Rattle.rule.specs.Refusals.{number_of}
use Rattle.checks.specs.Laws.{worker_holds}
use Rattle.dealing.specs.declared.Decision.{Decision}
use Rattle.dealing.specs.Decision.{decision}
use Rattle.desk.specs.declared.Machine.{Machine}
use Rattle.desk.specs.declared.Reply.TheVariants.{Done}
use Rattle.desk.specs.declared.Answer.{Answer}
use Rattle.desk.specs.Reply.{answer, refused, code_of}
use Rattle.desk.specs.Machine.{hands_of, held_by, mark_of, board_of}
use Rattle.desk.specs.Take.{act, take_step, take_of}
use Rattle.desk.specs.Bring.{sweep_of, finish, bring_step, bring_of}
use Rattle.desk.specs.declared.Event.{Event}
use Rattle.desk.specs.declared.Event.TheVariants.{Take, Bring}
use Rattle.desk.specs.Calls.{call, replies, after}
use Rattle.desk.specs.Morning.{events_of, events_right, morning_fault, Morning, morning_of}
use Rattle.desk.specs.Laws.{Admitted, fitting, admitted_either, sweep_leaves}
use Rattle.desk.specs.CallLaws.{morning_refused, morning_served}
use Rattle.promises.specs.Progress.{Chosen, chosen}

-- what a Bring of the state p answers. No passage changes what the workers hold, so that it may as well be read past the last
abbrev pub brought : Machine → List ℕ → List ℕ → ℕ → ℕ → Answer
brought m passages estimates worker p = let w = sweep_of m passages estimates p in finish (hands_of w.machine) worker p w

brought_is : (m : Machine) (passages estimates : List ℕ) (worker p : ℕ) → brought m passages estimates worker p ≡ finish (hands_of m) worker p (sweep_of m passages estimates p)
brought_is m passages estimates worker p = ap (λ (held : List ℕ). finish held worker p (sweep_of m passages estimates p)) (sweep_leaves hands_of (λ _ _ _ _ _. refl) m passages estimates p)

module _ (passages estimates : List ℕ) (m : Machine) (P : Answer → Type 0) where
  -- the state that a worker of a machine that fits holds is out
  held_out : (worker : ℕ) → Admitted m (hands_of m) passages estimates worker → (held_by (hands_of m) worker ≡ none → ⊥) → mark_of m (held_by (hands_of m) worker) ≡ out
  held_out worker a h =
      eqb-true (mark_of m (held_by (hands_of m) worker)) out (worker_holds m.mark m.held m.n m.k (fitting m (hands_of m) passages estimates a.fit).workers worker a.worker_in h).1

  -- what holds of a refusal, of each step of Take, and of a Bring
  pub call_either : ((refusal : Refusal) → number_of refusal ≤ 11 → P (refused m refusal))
      → ((worker : ℕ) → Admitted m (hands_of m) passages estimates worker → held_by (hands_of m) worker ≡ none → (d : Decision) → Chosen m.goal m.pull (board_of m estimates) d → P (act m (hands_of m) worker d))
      → ((worker : ℕ) → Admitted m (hands_of m) passages estimates worker → mark_of m (held_by (hands_of m) worker) ≡ out → P (brought m passages estimates worker (held_by (hands_of m) worker)))
      → (e : Event) → P (call passages estimates m e)
  unfolding take_of take_step bring_of bring_step
  call_either r t b (Take worker) =
      admitted_either m (hands_of m) passages estimates P worker (eqb (held_by (hands_of m) worker) none) (take_step m (hands_of m) estimates worker) r
      (λ a e. t worker a (eqb-true (held_by (hands_of m) worker) none e) (decision m.goal m.pull (board_of m estimates)) (chosen m.goal m.pull (board_of m estimates)))
  call_either r t b (Bring worker) =
      admitted_either m (hands_of m) passages estimates P worker (not (eqb (held_by (hands_of m) worker) none)) (bring_step m (hands_of m) passages estimates worker) r
      (λ a e. subst P (brought_is m passages estimates worker (held_by (hands_of m) worker)) (b worker a (held_out worker a (eqb-false (held_by (hands_of m) worker) none (not-true (eqb (held_by (hands_of m) worker) none) e)))))

-- a morning is refused with 16 or 18, if at all
morning_never : (events : List ℕ) (places : ℕ) → morning_fault events places ≢ Err NothingOut
unfolding morning_fault
morning_never events places =
    provided_either Other (leb (length events) places) (Err ShortRow) _ (λ q. cc)
    (λ _. provided_either Other (events_right events) (Err NoEvent) (Ok tt) (λ q. cc) (λ _. not_refused))
  where
    Other : Result (Unit {0}) Refusal → Type 0
    Other r = r ≢ Err NothingOut

-- what holds of a refusal, which is never 12, and of a morning that was served
pub morning_either : (passages estimates : List ℕ) (m : Machine) (events row : List ℕ) (P : Morning → Type 0)
    → ((refusal : Refusal) → refusal ≢ NothingOut → P (record { given = refused m refusal; row = row }))
    → P (record { given = answer (after passages estimates m (events_of events)) Done; row = overlaid 0 (map code_of (replies passages estimates m (events_of events))) row })
    → P (morning_of m passages estimates events row)
morning_either passages estimates m events row P r s = go (morning_fault events (length row)) refl
  where
    go : (f : Result (Unit {0}) Refusal) → f ≡ morning_fault events (length row) → P (morning_of m passages estimates events row)
    go (Ok u) q = subst⁻¹ P (morning_served m passages estimates events row q) s
    go (Err refusal) q =
        subst⁻¹ P (morning_refused m passages estimates events row refusal q) (r refusal (λ e. morning_never events (length row) (sym q ∙ ap Err e)))
