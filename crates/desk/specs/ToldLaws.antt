-- What a reply tells of the machine handed back beside it: a refused call leaves the machine, and a Take changes no more than its reply names.
use Rattle.std.specs.Prelude.{◌≡◌, refl, List, ℕ, ◌≤◌, ◌<◌}
use Rattle.std.proofs.Math.Path.{ap}
use Rattle.std.proofs.Common.{◌∙◌}
use native.Mathlib.Omega.{arith}
use Rattle.rule.specs.declared.refusals.Refusal.{Refusal}
use Rattle.dealing.specs.declared.Decision.{Decision}
use Rattle.dealing.specs.declared.Decision.TheVariants.{Found as FoundAt, NoPath as NoPathLeft, Deal, Stuck, Wait as WaitOn}
use Rattle.dealing.specs.Decision.{decision}
use Rattle.desk.specs.declared.Machine.{Machine}
use Rattle.desk.specs.declared.Reply.{Reply}
use Rattle.desk.specs.declared.Reply.TheVariants.{Took, NoPath, Refused}
use Rattle.desk.specs.Machine.{with_phase, hands_of, board_of}
use Rattle.desk.specs.Reply.{case_of, value_of, took, found, when, code_of}
use Rattle.desk.specs.Take.{dealt, act, take_step, take_of}
use Rattle.desk.specs.Limited.{limited_of}
use Rattle.desk.specs.Bring.{bring_of, bring_step}
use Rattle.desk.specs.declared.Event.{Event}
use Rattle.desk.specs.declared.Event.TheVariants.{Take, Bring}
use Rattle.desk.specs.Calls.{call}
use Rattle.desk.specs.Laws.{admitted_either, Placed, placed, fitting}
use Rattle.desk.specs.LimitedLaws.{limited_ends}

-- the machine that a Take hands back, by its reply: the state that it names is dealt, or the search has ended; with every other reply it is the machine that came in
abbrev pub taken : Machine → ℕ → Reply → Machine
taken m worker r =
    when took r (λ s. dealt m (hands_of m) worker s)
    (when found r (λ _. with_phase m 1)
    (when (case_of NoPath) r (λ _. with_phase m 2)
    m))

act_told : (m : Machine) (worker : ℕ) (d : Decision) → (act m (hands_of m) worker d).machine ≡ taken m worker (act m (hands_of m) worker d).reply
act_told m worker (FoundAt cost) = refl
act_told m worker NoPathLeft = refl
act_told m worker (Deal s) = refl
act_told m worker Stuck = refl
act_told m worker (WaitOn s) = refl

-- a decision that names a state with a place deals no other
act_placed : (m : Machine) (worker : ℕ) (d : Decision) → Placed d → (s : ℕ) → (act m (hands_of m) worker d).reply ≡ Took s → s < 256
act_placed m worker (FoundAt cost) k s e = absurd (omega (arith, ap case_of e))
act_placed m worker NoPathLeft k s e = absurd (omega (arith, ap case_of e))
act_placed m worker (Deal x) k s e = omega (arith, ap value_of e)
act_placed m worker Stuck k s e = absurd (omega (arith, ap case_of e))
act_placed m worker (WaitOn x) k s e = absurd (omega (arith, ap case_of e))

module _ (m : Machine) (passages estimates : List ℕ) (worker : ℕ) where
  pub take_told : (take_of m passages estimates worker).machine ≡ taken m worker (take_of m passages estimates worker).reply
  unfolding take_of take_step
  take_told =
      admitted_either m (hands_of m) passages estimates (λ a. a.machine ≡ taken m worker a.reply) worker _ _ (λ turned l. refl)
      (λ a h. act_told m worker (decision m.goal m.pull (board_of m estimates)))

  -- the state that a Take deals, and the worker that it is dealt to, have places in the rows
  pub take_placed : (s : ℕ) → (take_of m passages estimates worker).reply ≡ Took s → (s < 256) × (worker < 32)
  unfolding take_of take_step
  take_placed =
      admitted_either m (hands_of m) passages estimates (λ a. (s : ℕ) → a.reply ≡ Took s → (s < 256) × (worker < 32)) worker _ _ (λ number l s e. absurd (omega (arith, ap case_of e)))
      (λ a h s e.
      let f = fitting m (hands_of m) passages estimates a.fit in
      let b = board_of m estimates in
      (act_placed m worker (decision m.goal m.pull b) (placed m.goal m.pull b f.task.states) s e, omega (arith, a.worker_in, f.task.workers)))

-- the same of a limited Take
module _ (m : Machine) (passages estimates : List ℕ) (worker limit : ℕ) where
  pub limited_told : (limited_of m passages estimates worker limit).answer.machine ≡ taken m worker (limited_of m passages estimates worker limit).answer.reply
  limited_told = limited_ends m passages estimates worker limit (λ c. c.answer.machine ≡ taken m worker c.answer.reply) (λ turned l. refl) (λ l k. refl) (λ d made s. act_told m worker d)

  pub limited_dealt : (s : ℕ) → (limited_of m passages estimates worker limit).answer.reply ≡ Took s → (s < 256) × (worker < 32)
  limited_dealt =
      limited_ends m passages estimates worker limit (λ c. (s : ℕ) → c.answer.reply ≡ Took s → (s < 256) × (worker < 32)) (λ number l s e. absurd (omega (arith, ap case_of e)))
      (λ l k s e. absurd (omega (arith, ap case_of e))) (λ d made w s e. (act_placed m worker d w.in_rows s e, w.worker_in))

  -- it makes at most 65,280 comparisons
  pub limited_few : (limited_of m passages estimates worker limit).comparisons ≤ 65280
  limited_few = limited_ends m passages estimates worker limit (λ c. c.comparisons ≤ 65280) (λ number l. omega arith) (λ l k. omega arith) (λ d made s. s.few)

  -- and its reply as a number leaves room above it for them
  pub limited_narrow : code_of (limited_of m passages estimates worker limit).answer.reply < 1099511627776
  unfolding code_of
  limited_narrow = limited_ends m passages estimates worker limit (λ c. code_of c.answer.reply < 1099511627776) (λ number l. omega arith) (λ l k. omega arith) (λ d made s. narrow d s.in_rows s.low)
    where
      narrow : (d : Decision) → Placed d → ((cost : ℕ) → d ≡ FoundAt cost → cost ≤ 255000000) → code_of (act m (hands_of m) worker d).reply < 1099511627776
      narrow (FoundAt cost) k low = omega (arith, low cost refl)
      narrow NoPathLeft k low = omega arith
      narrow (Deal s) k low = omega arith
      narrow Stuck k low = omega arith
      narrow (WaitOn s) k low = omega arith

-- "Nothing is written, the machine comes back as it went in": of every worker's call, whatever machine and slices it is given
pub call_refused : (m : Machine) (passages estimates : List ℕ) (e : Event) (refusal : Refusal) → (call passages estimates m e).reply ≡ Refused refusal → (call passages estimates m e).machine ≡ m
unfolding bring_of bring_step
call_refused m passages estimates (Take worker) refusal = λ q. take_told m passages estimates worker ∙ ap (taken m worker) q
call_refused m passages estimates (Bring worker) refusal =
    admitted_either m (hands_of m) passages estimates (λ a. a.reply ≡ Refused refusal → a.machine ≡ m) worker _ _ (λ _ l q. refl) (λ a h q. absurd (omega (arith, ap case_of q)))
