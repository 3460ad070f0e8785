-- Runs: what one call keeps, calls keep that come one after the other. A morning's events and a day's calls are put together alike,
-- so that a kind of call that is added is shown to be a run by itself, and is a line more in `call_run`.
use Rattle.std.specs.Prelude.{◌≡◌, ◌⊎◌, ◌≢◌, ℕ, ◌+◌, ◌≤◌, length}
use Rattle.std.proofs.Math.Path.{refl, subst⁻¹}
use Rattle.std.proofs.Common.{subst, ap, ◌∙◌, inl, inr, ⊎_elim, arith}
use mathlib.Core.List.Memᴰ
use mathlib.Core.List.{List, [], ◌∷◌, ◌++◌, Memᴰ}
use Rattle.rule.specs.declared.refusals.Refusal.{Refusal}
use Rattle.rule.specs.declared.refusals.Refusal.TheVariants.{NothingOut}
use Rattle.checks.specs.Opening.{Task}
use Rattle.desk.specs.declared.Machine.{Machine}
use Rattle.desk.specs.declared.Reply.{Reply}
use Rattle.desk.specs.declared.Reply.TheVariants.{Read, Refused, Done, Cut}
use Rattle.desk.specs.declared.Answer.{Answer}
use Rattle.desk.specs.Machine.{task_of}
use Rattle.desk.specs.Reply.{answer}
use Rattle.desk.specs.declared.Event.{Event}
use Rattle.desk.specs.declared.Event.TheVariants.{Take}
use Rattle.desk.specs.Calls.{call, answers, replies, after}
use Rattle.desk.specs.Morning.{events_of}
use Rattle.promises.specs.Day.{Call, single, morning, reading, limited, answer_to, in_row, replies_to, reached_from, said_from}
use Rattle.promises.specs.Demand.{deals, times_dealt}
use Rattle.desk.specs.Laws.{path_either}
use Rattle.desk.specs.CallLaws.{call_task}
use Rattle.desk.specs.LimitedLaws.{CutOrTake, cut_or_take}
use Rattle.promises.specs.Calls.{call_either, morning_either}
use Rattle.promises.specs.Fits.{Steady, call_steady}
use Rattle.promises.specs.Once.{gone, call_once}
use Rattle.promises.specs.Replies.{Says, says_later, call_says}
use Rattle.promises.specs.Mornings.{row_back}

-- where a run can stand: the invariant holds, and the machine's numbers are the task's
pub record Standing (t : Task) (m : Machine) : Type 0 where
  pub steady : Steady t.passages t.estimates m
  pub task : task_of m t.passages t.estimates ≡ t

-- a run from the machine m to m' with the replies rs, as far as demand 3 goes
pub record Run (t : Task) (m m' : Machine) (rs : List Reply) : Type 0 where
  pub stands : Standing t m'
  -- what it dealt was not dealt before, and is dealt before now
  pub once : (s : ℕ) → times_dealt s rs + gone m s ≤ gone m' s
  -- what was replied is so
  pub says : (r : Reply) → Memᴰ r rs → Says t m' r
  -- after Found nothing changes
  pub still : m.phase ≡ 1 → m' ≡ m

dealt_append : (s : ℕ) (rs ss : List Reply) → times_dealt s (rs ++ ss) ≡ times_dealt s rs + times_dealt s ss
unfolding times_dealt
dealt_append s [] ss = omega arith
dealt_append s (r ∷ rs) ss = omega (arith, dealt_append s rs ss)

module _ {t : Task} where
  -- no call, and one
  run_none : {m : Machine} → Standing t m → Run t m m []
  unfolding times_dealt
  run_none z = record { stands = z; once = λ s. omega arith; says = λ r i. absurd (Memᴰ.not-nil i); still = λ p. refl }

  run_one : {m : Machine} (a : Answer) → Standing t a.machine → ((s : ℕ) → deals s a.reply + gone m s ≤ gone a.machine s) → Says t a.machine a.reply
      → (m.phase ≡ 1 → a.machine ≡ m) → Run t m a.machine (a.reply ∷ [])
  unfolding times_dealt
  run_one a z o w q = record {
    stands = z;
    once = λ s. omega (arith, o s);
    says = λ r i. subst⁻¹ (Says t a.machine) (Memᴰ.eq_of_singleton i) w;
    still = q;
  }

  -- a reply that deals nothing, beside the machine as it came
  run_told : {m : Machine} → Standing t m → (r : Reply) → ((s : ℕ) → deals s r ≡ 0) → Says t m r → Run t m m (r ∷ [])
  run_told {m} z r o w = run_one (answer m r) z (λ s. omega (arith, o s)) w (λ p. refl)

  -- one run after another
  run_then : {m m' m'' : Machine} {rs ss : List Reply} → Run t m m' rs → Run t m' m'' ss → Run t m m'' (rs ++ ss)
  run_then {m} {m'} {m''} {rs} {ss} a b = record {
    stands = b.stands;
    once = λ s. omega (arith, dealt_append s rs ss, a.once s, b.once s);
    says = λ r i. go r (Memᴰ.append_cases rs i);
    still = λ p. b.still (ap (λ (x : Machine). x.phase) (a.still p) ∙ p) ∙ a.still p;
  }
    where
      go : (r : Reply) → Memᴰ r rs ⊎ Memᴰ r ss → Says t m'' r
      go r (inl i) = says_later t m' m'' b.still r (a.says r i)
      go r (inr i) = b.says r i

-- a worker's call
module _ (passages estimates : List ℕ) where
  -- with phase 1 it is refused, and hands the machine back as it came
  call_still : (m : Machine) → m.phase ≡ 1 → (e : Event) → (call passages estimates m e).machine ≡ m
  call_still m p =
      call_either passages estimates m (λ a. a.machine ≡ m) (λ refusal l. refl)
      (λ worker a e d k. absurd (omega (arith, a.searching)))
      (λ worker a o. absurd (omega (arith, a.searching)))

module _ {t : Task} where
  -- it is a run, and so are a worker's calls one after the other
  event_run : {m : Machine} → Standing t m → (e : Event) → Run t m (call t.passages t.estimates m e).machine ((call t.passages t.estimates m e).reply ∷ [])
  event_run {m} z e =
      let a : Answer = call t.passages t.estimates m e in
      run_one a (record { steady = call_steady z.steady e; task = call_task t.passages t.estimates m e ∙ z.task }) (λ s. call_once z.steady.sure s e)
      (subst (λ (u : Task). Says u a.machine a.reply) z.task (call_says z.steady e)) (λ p. call_still t.passages t.estimates m p e)

  events_run : {m : Machine} → Standing t m → (es : List Event) → Run t m (after t.passages t.estimates m es) (replies t.passages t.estimates m es)
  unfolding after replies answers
  events_run z [] = run_none z
  events_run {m = m} z (e ∷ es) = let r = event_run z e in run_then r (events_run {m = (call t.passages t.estimates m e).machine} r.stands es)

  module _ {m : Machine} (z : Standing t m) where
    -- a refusal, of whatever call, is one
    refused_run : (refusal : Refusal) → refusal ≢ NothingOut → Run t m m (Refused refusal ∷ [])
    refused_run refusal l = run_told z (Refused refusal) (λ s. refl) l

    -- a morning that is served is its events made singly, whose replies stand in the row, and then Done
    morning_run : (events row : List ℕ) → Run t m (answer_to t m (morning events row)).machine (replies_to t m (morning events row))
    morning_run events row =
        let r = events_run z (events_of events) in
        morning_either t.passages t.estimates m events row (λ o. Run t m o.given.machine (in_row (length events) o ++ (o.given.reply ∷ []))) refused_run
        (rw (row_back t.passages t.estimates m events row) (run_then r (run_told r.stands Done (λ s. refl) tt)))

    reading_run : (buffer : List ℕ) (at : ℕ) → Run t m (answer_to t m (reading buffer at)).machine (replies_to t m (reading buffer at))
    reading_run buffer at =
        path_either m t.passages t.estimates buffer at (λ o. Run t m o.given.machine (o.given.reply ∷ [])) refused_run (λ some room. run_told z (Read _) (λ s. refl) tt)

    -- a limited Take is cut short or answers as Take does: the task passed check 7, and its W is at most its E
    pub limited_alike : (worker limit : ℕ) → CutOrTake m t.passages t.estimates worker limit
    limited_alike worker limit =
        let sound = z.steady.sure.task in
        cut_or_take m t.passages t.estimates worker limit sound.right.goal_in sound.right.pulled sound.consistent.triangle

    limited_run : (worker limit : ℕ) → Run t m (answer_to t m (limited worker limit)).machine (replies_to t m (limited worker limit))
    limited_run worker limit = ⊎_elim (λ e. rw e (run_told z (Cut limit) (λ s. refl) tt)) (λ e. rw e (event_run z (Take worker))) (limited_alike worker limit)

    call_run : (c : Call) → Run t m (answer_to t m c).machine (replies_to t m c)
    call_run (single e) = event_run z e
    call_run (morning events row) = morning_run events row
    call_run (reading buffer at) = reading_run buffer at
    call_run (limited worker limit) = limited_run worker limit

  pub day_run : {m : Machine} → Standing t m → (day : List Call) → Run t m (reached_from t m day) (said_from t m day)
  unfolding reached_from said_from
  day_run z [] = run_none z
  day_run {m = m} z (c ∷ day) = let r = call_run z c in run_then r (day_run {m = (answer_to t m c).machine} r.stands day)
