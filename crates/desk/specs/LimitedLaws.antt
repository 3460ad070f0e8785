-- What a limited Take comes to: of every machine, a refusal, Cut, or a step with its comparisons counted; and on a task that opening accepts, Cut or what Take answers.
use Rattle.std.proofs.Math.Path.{◌≡◌, refl, ap, subst}
use Rattle.std.proofs.Common.{sym, ◌∙◌, inl, inr, mul-le-mul, arith}
use Rattle.std.specs.Prelude.{◌⊎◌, Option, Some, None, Bool, true, false, cond, ◌&&◌, List, ℕ, ◌+◌, ◌-◌, ◌≤◌, ◌<◌, ltb, eqb}
use Rattle.std.proofs.Math.Bool.{not}
use borrow.Author.Tests.{ltb-true, ne_eqb}
use Rattle.laws.specs.Truth.{cond_cases}
use Rattle.laws.specs.Count.{count_max}
use Rattle.rule.specs.Task.{estimate}
use Rattle.rule.specs.Marks.{none, is_open, is_live}
use Rattle.rule.specs.declared.refusals.Refusal.{Refusal}
use Rattle.rule.specs.Refusals.{number_of}
use Rattle.checks.specs.Laws.{label_low}
use Rattle.dealing.specs.declared.Decision.{Decision}
use Rattle.dealing.specs.declared.Decision.TheVariants.{Found, NoPath, Deal, Stuck, Wait}
use Rattle.dealing.specs.declared.Decided.{Decided}
use Rattle.dealing.specs.Board.{Board, mark_at, label_at, any_open, any_out}
use Rattle.dealing.specs.Laws.{found_by}
use Rattle.dealing.specs.Limited.{passes, candidates, tried, full_count, decided, limited_decision, limited}
use Rattle.dealing.specs.LimitedLaws.{limited_in, limited_says, limited_unstuck, open_states, live_states, full_count_most}
use Rattle.dealing.specs.AsTakeLaws.{as_take}
use Rattle.desk.specs.declared.Machine.{Machine}
use Rattle.desk.specs.declared.Reply.{Reply}
use Rattle.desk.specs.declared.Reply.TheVariants.{Refused, Cut}
use Rattle.desk.specs.declared.Answer.{Answer}
use Rattle.desk.specs.declared.Counted.{Counted}
use Rattle.desk.specs.Machine.{hands_of, held_by, board_of}
use Rattle.desk.specs.Reply.{answer, refused, case_of, refusal, when}
use Rattle.desk.specs.Admission.{admitted}
use Rattle.desk.specs.Take.{act, take_step, take_of}
use Rattle.desk.specs.Limited.{act_within, comparisons_in, limited_on, counted_refusal, limited_answer, limited_of}
use Rattle.desk.specs.Laws.{fitting, Admitted, admitted_both, admitted_either, goes_on, Placed, placed_by}

module _ (goal pull : ℕ) (b : Board) where
  -- a limit that cuts it short is below the count
  limited_short : (limit : ℕ) → None ≡ limited goal pull b limit → limit < full_count goal pull b
  unfolding limited
  limited_short limit =
      cond_cases (λ (w : Option Decided). None ≡ w → limit < full_count goal pull b) (ltb limit (full_count goal pull b)) None (decided (limited_decision goal pull b) (full_count goal pull b))
      (λ q e. ltb-true limit (full_count goal pull b) q) (λ q e. cc)

  -- the label that Found carries is the goal's
  limited_found : (cost : ℕ) → limited_decision goal pull b ≡ Found cost → cost ≡ label_at b goal
  unfolding limited_decision
  limited_found cost e =
      found_by (passes goal pull b goal) (not (any_open b) && not (any_out b)) (ltb (tried goal pull b (candidates goal pull b)).chosen b.n) (not (any_out b)) _ _ _ cost e

-- a board of at most 256 states
module _ (goal pull : ℕ) (b : Board) (states : b.n ≤ 256) where
  -- no more comparisons are made than 256 open states with 255 others each
  count_small : goal < b.n → full_count goal pull b ≤ 65280
  count_small l =
      let few : open_states b ≤ 256 = omega (arith, count_max (λ s. is_open (mark_at b s)) b.n) in
      let others : live_states b - 1 ≤ 255 = omega (arith, count_max (λ s. is_live (mark_at b s)) b.n) in
      omega (arith, full_count_most goal pull b l, mul-le-mul few others)

  -- so a limit that cuts it short is smaller
  pub cut_small : (limit : ℕ) → goal < b.n → None ≡ limited goal pull b limit → limit < 65280
  cut_small limit l e = omega (arith, limited_short goal pull b limit e, count_small l)

  -- a state that is named has a place in the rows
  pub limited_placed : (limit : ℕ) (d : Decision) (made : ℕ) → decided d made ≡ limited goal pull b limit → Placed d
  limited_placed limit d made e =
      let named : (x : Decision) → d ≡ x → limited goal pull b limit ≡ decided x made = λ x q. sym e ∙ ap (λ (y : Decision). decided y made) q in
      placed_by d (λ s q. omega (arith, (limited_in goal pull b limit made).0 s (named (Deal s) q))) (λ s q. omega (arith, (limited_in goal pull b limit made).1 s (named (Wait s) q)))

-- an answer with so many comparisons beside it
abbrev pub counted : Answer → ℕ → Counted
counted a made = record { answer = a; comparisons = made }

-- every step but the fourth replies Took, Found, NoPath or Wait
step_case : (m : Machine) (worker : ℕ) (d : Decision) → (d ≡ Stuck → ⊥) → case_of (act m (hands_of m) worker d).reply ≤ 5
step_case m worker (Found cost) z = omega arith
step_case m worker NoPath z = omega arith
step_case m worker (Deal s) z = omega arith
step_case m worker Stuck z = absurd (z refl)
step_case m worker (Wait s) z = omega arith

-- what a limited Take comes to, one law for each of its ends
module _ (m : Machine) (passages estimates : List ℕ) (worker limit : ℕ) where
  abbrev ready : Bool
  ready = eqb (held_by (hands_of m) worker) none

  -- "how many comparisons it made", where no limit cuts it short
  abbrev full : ℕ
  full = full_count m.goal m.pull (board_of m estimates)

  -- the answer, whatever is counted
  pub limited_given : (limited_of m passages estimates worker limit).answer ≡ limited_answer m passages estimates worker limit
  unfolding limited_of
  limited_given = refl

  -- a refusal, which made no comparison
  pub limited_refused : (refusal : Refusal) → refused m refusal ≡ limited_answer m passages estimates worker limit → counted_refusal m refusal ≡ limited_of m passages estimates worker limit
  unfolding limited_of
  limited_refused turned e = ap (λ (a : Answer). counted a (when refusal a.reply (λ _. 0) (comparisons_in limit (limited_on m estimates limit)))) e

  pub limited_spared : (turned : Refusal) → (limited_of m passages estimates worker limit).answer.reply ≡ Refused turned → (limited_of m passages estimates worker limit).comparisons ≡ 0
  unfolding limited_of
  limited_spared turned e = ap (λ (r : Reply). when refusal r (λ _. 0) (comparisons_in limit (limited_on m estimates limit))) e

  module _ (a : Admitted m (hands_of m) passages estimates worker) (r : ready ≡ true) where
    -- the call goes on to what the limited test comes to
    goes : (w : Option Decided) → w ≡ limited_on m estimates limit
        → let x = act_within m (hands_of m) worker limit w in counted x (when refusal x.reply (λ _. 0) (comparisons_in limit w)) ≡ limited_of m passages estimates worker limit
    unfolding limited_of limited_answer
    goes w e =
        rw e
        (ap (λ (x : Answer). counted x (when refusal x.reply (λ _. 0) (comparisons_in limit (limited_on m estimates limit))))
        (goes_on m (hands_of m) passages estimates worker ready (act_within m (hands_of m) worker limit (limited_on m estimates limit)) a r))

    pub limited_cut : None ≡ limited_on m estimates limit → counted (answer m (Cut limit)) limit ≡ limited_of m passages estimates worker limit
    limited_cut e = goes None e

    -- a step, which is never a refusal
    pub limited_step : (d : Decision) (made : ℕ) → decided d made ≡ limited_on m estimates limit → counted (act m (hands_of m) worker d) made ≡ limited_of m passages estimates worker limit
    limited_step d made e =
        let b = board_of m estimates in
        let low = step_case m worker d (λ q. limited_unstuck m.goal m.pull b ((limited_says m.goal m.pull b limit made d (sym e)).0 ∙ q)) in
        rw (ne_eqb (case_of (act m (hands_of m) worker d).reply) refusal (λ q. omega (arith, low))) at (goes (decided d made) e)

  -- what is known of a step that it comes to
  pub record Step (d : Decision) (made : ℕ) : Type 0 where
    pub all : made ≡ full
    pub within : made ≤ limit
    pub few : made ≤ 65280
    pub case : case_of (act m (hands_of m) worker d).reply ≤ 5
    pub in_rows : Placed d
    pub worker_in : worker < 32
    pub low : (cost : ℕ) → d ≡ Found cost → cost ≤ 255000000

  -- what holds of every refusal before a Take's steps, of Cut, and of every step holds of whatever it comes to
  pub limited_ends : (P : Counted → Type 0) → ((turned : Refusal) → number_of turned ≤ 11 → P (counted (refused m turned) 0)) → (limit < full → limit < 65280 → P (counted (answer m (Cut limit)) limit))
      → ((d : Decision) (made : ℕ) → Step d made → P (counted (act m (hands_of m) worker d) made)) → P (limited_of m passages estimates worker limit)
  unfolding limited_answer
  limited_ends P refusing cutting stepping =
      admitted_either m (hands_of m) passages estimates (λ x. x ≡ limited_answer m passages estimates worker limit → P (limited_of m passages estimates worker limit)) worker ready _
      (λ turned l e. subst P (limited_refused turned e) (refusing turned l)) (λ a r e. go a r (limited_on m estimates limit) refl) refl
    where
      b : Board
      b = board_of m estimates

      go : Admitted m (hands_of m) passages estimates worker → ready ≡ true → (w : Option Decided) → w ≡ limited_on m estimates limit → P (limited_of m passages estimates worker limit)
      go a r None e =
          let f = (fitting m (hands_of m) passages estimates a.fit).task in
          subst P (limited_cut a r e) (cutting (limited_short m.goal m.pull b limit e) (cut_small m.goal m.pull b f.states limit f.goal_in e))
      go a r (Some w) e =
          let f = fitting m (hands_of m) passages estimates a.fit in
          let d : Decision = w.decision in
          let made : ℕ = w.comparisons in
          let (says, all, within) = limited_says m.goal m.pull b limit made d (sym e) in
          subst P (limited_step a r d made e) (stepping d made (record {
            all = sym all;
            within = within;
            few = omega (arith, count_small m.goal m.pull b f.task.states f.task.goal_in);
            case = step_case m worker d (λ q. limited_unstuck m.goal m.pull b (says ∙ q));
            in_rows = limited_placed m.goal m.pull b f.task.states limit d made e;
            worker_in = omega (arith, a.worker_in, f.task.workers);
            low = λ cost q. omega (arith, limited_found m.goal m.pull b cost (says ∙ q), label_low m.label m.n f.labels m.goal f.task.goal_in);
          }))

-- it is cut short, with the machine as it came, or answers as Take does
abbrev pub CutOrTake : Machine → List ℕ → List ℕ → ℕ → ℕ → Type 0
CutOrTake m passages estimates worker limit =
    (limited_answer m passages estimates worker limit ≡ answer m (Cut limit)) ⊎ (limited_answer m passages estimates worker limit ≡ take_of m passages estimates worker)

-- the task, as opening accepts it: the goal is a state, W is "0 to E", and no "h(a,c) above h(a,b) + h(b,c)"
module _ (m : Machine) (passages estimates : List ℕ) (worker limit : ℕ) (inside : m.goal < m.n) (modest : m.pull ≤ m.excess)
    (check7 : (a b c : ℕ) → a < m.n → b < m.n → c < m.n → estimate estimates m.n a c ≤ estimate estimates m.n a b + estimate estimates m.n b c) where
  -- so "it otherwise replies as Take does", and hands back the same machine
  pub cut_or_take : CutOrTake m passages estimates worker limit
  unfolding limited_answer limited take_of take_step
  cut_or_take = go (ltb limit (full_count m.goal m.pull (board_of m estimates)))
    where
      b : Board
      b = board_of m estimates

      go : (v : Bool)
          → let a = admitted m (hands_of m) passages estimates worker (eqb (held_by (hands_of m) worker) none) (act_within m (hands_of m) worker limit (cond v None (decided (limited_decision m.goal m.pull b) (full_count m.goal m.pull b)))) in
          (a ≡ answer m (Cut limit)) ⊎ (a ≡ take_of m passages estimates worker)
      go true = admitted_both m (hands_of m) passages estimates (λ x y. (x ≡ answer m (Cut limit)) ⊎ (x ≡ y)) worker _ (answer m (Cut limit)) (take_step m (hands_of m) estimates worker) (λ _ _. inr refl) (λ _ _. inl refl)
      go false = inr (rw (as_take m.goal m.pull b inside modest check7))
