-- What a call's reply says is so, of the task that the machine's numbers and the lent slices make.
use Rattle.std.specs.Prelude.{◌≡◌, refl, ◌≢◌, true, List, ℕ, ◌*◌, ◌≤◌}
use Rattle.std.proofs.Common.{sym, ap, ◌∙◌, true≢false, arith}
use Rattle.std.proofs.Math.Path.{subst⁻¹}
use Rattle.rule.specs.Task.{passage_count, estimate}
use Rattle.argument.specs.Route.{cost_of, walk_route}
use Rattle.argument.specs.Good.{found_cost, found_chain, no_path}
use Rattle.rule.specs.declared.refusals.Refusal.TheVariants.{NothingOut}
use Rattle.rule.specs.Refusals.{number_of}
use Rattle.checks.specs.Opening.{Task}
use Rattle.dealing.specs.Board.{safe}
use Rattle.dealing.specs.declared.Decision.{Decision}
use Rattle.dealing.specs.declared.Decision.TheVariants.{Found as FoundAt, NoPath as NoPathLeft, Deal, Stuck, Wait as WaitOn}
use Rattle.desk.specs.declared.Machine.{Machine}
use Rattle.desk.specs.declared.Reply.{Reply}
use Rattle.desk.specs.declared.Reply.TheVariants.{Opened, Took, Brought, Found, NoPath, Wait, Read, Refused, Done, Cut}
use Rattle.desk.specs.Machine.{mark_of, with_phase, label_of, task_of, board_of, hands_of}
use Rattle.desk.specs.Take.{act}
use Rattle.desk.specs.declared.Event.{Event}
use Rattle.desk.specs.Calls.{call}
use Rattle.promises.specs.Demand.{graph, IsRoute, route_cost, PathRight}
use Rattle.promises.specs.Accepted.{Sound}
use Rattle.promises.specs.View.{between, applied}
use Rattle.dealing.specs.Laws.{safe_is_open}
use Rattle.promises.specs.Progress.{Chosen}
use Rattle.promises.specs.TakeMoves.{live_is, safe_allowed}
use Rattle.promises.specs.Calls.{call_either}
use Rattle.promises.specs.Fits.{Steady, call_steady, steady_fits}
use Rattle.promises.specs.Reading.{Readable, readable}

-- what a reply says, with the machine handed back beside it
abbrev pub Says : Task → Machine → Reply → Type 0
Says t m Opened = Unit {0}
Says t m (Took s) = Unit {0}
Says t m (Brought many) = Unit {0}
Says t m (Found c) = (m.phase ≡ 1) × PathRight t m c
Says t m NoPath = (way : List ℕ) → IsRoute t way → ⊥
Says t m (Wait s) = Unit {0}
Says t m (Read many) = Unit {0}
Says t m (Refused refusal) = refusal ≢ NothingOut
Says t m Done = Unit {0}
Says t m (Cut limit) = Unit {0}

-- what was said stays so, where after Found nothing changes
pub says_later : (t : Task) (m m' : Machine) → (m.phase ≡ 1 → m' ≡ m) → (r : Reply) → Says t m r → Says t m' r
says_later t m m' still Opened s = s
says_later t m m' still (Took x) s = s
says_later t m m' still (Brought many) s = s
says_later t m m' still (Found c) s = subst⁻¹ (λ (x : Machine). Says t x (Found c)) (still s.0) s
says_later t m m' still NoPath s = s
says_later t m m' still (Wait x) s = s
says_later t m m' still (Read many) s = s
says_later t m m' still (Refused refusal) s = s
says_later t m m' still Done s = s
says_later t m m' still (Cut limit) s = s

module _ {passages estimates : List ℕ} {m : Machine} (z : Steady passages estimates m) where
  abbrev t : Task
  t = task_of m passages estimates

  sound : Sound t
  sound = z.sure.task

  -- Found: the goal is safe, so its label is within the excess of every route's cost, and going back along its chain reads the path
  module _ (e : safe (board_of m estimates) m.goal ≡ true) (y : Steady passages estimates (with_phase m 1)) where
    within : (other : List ℕ) → IsRoute t other → 100 * label_of m m.goal ≤ m.excess * route_cost t other
    within other w =
        found_cost (graph t) m.n m.excess (estimate estimates m.n) sound.consistent m.start m.goal (passage_count passages) (between passages m) z.sure.good
        (100 * label_of m m.goal) (omega arith) (safe_allowed z.sure m.goal e) (cost_of (graph t) other) (walk_route (graph t) m.start other m.goal w)

    found_right : PathRight t (with_phase m 1) (label_of m m.goal)
    found_right =
        let is : mark_of m m.goal ≡ 1 = safe_is_open (board_of m estimates) m.goal e in
        let (k, c, l) = found_chain (graph t) m.n m.excess (estimate estimates m.n) sound.consistent m.start m.goal (passage_count passages) (between passages m)
        z.sure.good sound.right.goal_in (omega arith) in
        let r : Readable passages estimates (with_phase m 1) = readable passages estimates (with_phase m 1) (applied passages m) k (steady_fits y) refl c l in
        record {
          way = r.way;
          route = r.walk;
          adds = r.adds;
          short = r.short;
          reads = r.reads;
          within = within;
        }

  -- NoPath: with nothing live no route reaches the goal
  none_right : Chosen m.goal m.pull (board_of m estimates) NoPathLeft → (way : List ℕ) → IsRoute t way → ⊥
  none_right k way w =
      no_path (graph t) m.n m.excess (estimate estimates m.n) sound.consistent m.start m.goal (passage_count passages) (between passages m) z.sure.good
      (λ x l d. true≢false (sym (live_is (mark_of m x) l d (z.sure.marks x)) ∙ k x (z.sure.good.frontier.inside x l)))
      (cost_of (graph t) way) (walk_route (graph t) m.start way m.goal w)

  act_says : (worker : ℕ) (d : Decision) → Chosen m.goal m.pull (board_of m estimates) d → Steady passages estimates (act m (hands_of m) worker d).machine
      → Says t (act m (hands_of m) worker d).machine (act m (hands_of m) worker d).reply
  act_says worker (FoundAt cost) k y = (refl, subst⁻¹ (PathRight t (with_phase m 1)) k.1 (found_right k.0 y))
  act_says worker NoPathLeft k y = none_right k
  act_says worker (Deal s) k y = tt
  act_says worker Stuck k y = absurd k
  act_says worker (WaitOn s) k y = tt

  pub call_says : (e : Event) → Says (task_of m passages estimates) (call passages estimates m e).machine (call passages estimates m e).reply
  call_says e =
      call_either passages estimates m (λ a. Steady passages estimates a.machine → Says t a.machine a.reply) (λ refusal l y e. absurd (omega (arith, ap number_of e)))
      (λ worker a h d k y. act_says worker d k y)
      (λ worker a o y. tt)
      e (call_steady z e)
