-- Dealt once: a call deals a state only where it was not dealt before, and then it is; what was dealt before stays so.
use Rattle.std.specs.Prelude.{◌≡◌, refl, List, ℕ, ◌+◌, ◌≤◌, leb}
use Rattle.std.proofs.Common.{sym, ap, arith, eq-eqb, ne_eqb, le-leb}
use Rattle.std.proofs.Math.Decide.{dec_le}
use Rattle.std.proofs.lemmas.Bool.{lt-leb}
use Rattle.laws.specs.Count.{one}
use Rattle.rule.specs.Task.{passage_count}
use Rattle.argument.specs.Steps.{at_or}
use Rattle.dealing.specs.declared.Decision.{Decision}
use Rattle.dealing.specs.declared.Decision.TheVariants.{Found, NoPath, Deal, Stuck, Wait}
use Rattle.desk.specs.declared.Machine.{Machine}
use Rattle.desk.specs.declared.Answer.{Answer}
use Rattle.desk.specs.Machine.{hands_of, held_by, mark_of, label_of, board_of}
use Rattle.desk.specs.Take.{dealt, act}
use Rattle.desk.specs.Bring.{sweep_of}
use Rattle.desk.specs.declared.Event.{Event}
use Rattle.desk.specs.Calls.{call}
use Rattle.promises.specs.Demand.{deals}
use Rattle.promises.specs.View.{Sure}
use Rattle.dealing.specs.Laws.{safe_is_open}
use Rattle.promises.specs.Progress.{Chosen}
use Rattle.promises.specs.TakeMoves.{dealt_now, dealt_else}
use Rattle.promises.specs.BringMoves.{Passing, lowered_else, free, Keeps, sweep_keeps, finished_by, finished_now, finished_else}
use Rattle.promises.specs.Calls.{brought, call_either}

-- 1 of a state dealt before, 0 of every other
abbrev pub gone : Machine → ℕ → ℕ
gone m s = one (leb 2 (mark_of m s))

gone_yes : (m : Machine) (s : ℕ) → 2 ≤ mark_of m s → gone m s ≡ 1
gone_yes m s l = rw (le-leb 2 (mark_of m s) l)

pub gone_no : (m : Machine) (s : ℕ) → mark_of m s ≤ 1 → gone m s ≡ 0
gone_no m s l = rw (lt-leb 2 (mark_of m s) (omega arith))

gone_stays : (m m' : Machine) (s : ℕ) → (2 ≤ mark_of m s → 2 ≤ mark_of m' s) → gone m s ≤ gone m' s
gone_stays m m' s f = go (dec_le 2 (mark_of m s))
  where
    go : Dec (2 ≤ mark_of m s) → gone m s ≤ gone m' s
    go (yes l) = omega (arith, gone_yes m s l, gone_yes m' s (f l))
    go (no l) = omega (arith, gone_no m s (omega arith))

-- what the call deals, with what was dealt before, is dealt before now
abbrev Once : Machine → ℕ → Answer → Type 0
Once m s a = deals s a.reply + gone m s ≤ gone a.machine s

module _ {passages estimates : List ℕ} {m : Machine} (z : Sure passages estimates m) (s : ℕ) where
  act_once : (worker : ℕ) (d : Decision) → Chosen m.goal m.pull (board_of m estimates) d → Once m s (act m (hands_of m) worker d)
  act_once worker (Found cost) k = omega arith
  act_once worker NoPath k = omega arith
  act_once worker (Deal x) k =
      let is : mark_of m x ≡ 1 = safe_is_open (board_of m estimates) x k.0 in
      let now : mark_of (dealt m (hands_of m) worker x) x ≡ 2 = dealt_now z worker x k.0 in
      at_or x {P = λ y. Once m y (act m (hands_of m) worker (Deal x))}
      (rw (eq-eqb x x refl) (omega (arith, gone_no m x (omega arith), gone_yes (dealt m (hands_of m) worker x) x (omega arith))))
      (λ y d. rw (ne_eqb x y (λ q. d (sym q)), dealt_else z worker x k.0 y d) (omega arith))
      s
  act_once worker Stuck k = omega arith
  act_once worker (Wait s) k = omega arith

  -- s is dealt before in m' if it is in m
  abbrev Stays : Machine → Type 0
  Stays m' = 2 ≤ mark_of m s → 2 ≤ mark_of m' s

  -- a passage opens no state that was dealt before, and finishing leaves each so
  passage_stays : (p l : ℕ) → Keeps passages estimates p l Stays
  passage_stays p l i m' y j from e f k =
      let was : 2 ≤ mark_of m' s = f k in
      omega (arith, lowered_else y j from e s (λ q. absurd (omega (arith, free y j from e, ap (mark_of m') q))))

  finish_stays : (worker p l : ℕ) (m' : Machine) → Passing passages estimates p l (passage_count passages) m' → Stays m' → Stays (finished_by worker p m')
  finish_stays worker p l m' y f k =
      at_or p {P = λ x. 2 ≤ mark_of m' x → 2 ≤ mark_of (finished_by worker p m') x} (λ _. omega (arith, finished_now y worker))
      (λ x d w. omega (arith, finished_else y worker x d)) s (f k)

  bring_once : (worker p : ℕ) → mark_of m p ≡ 2 → Once m s (brought m passages estimates worker p)
  bring_once worker p o =
      let m' : Machine = (sweep_of m passages estimates p).machine in
      let (passed, stays) = sweep_keeps z p o Stays (passage_stays p (label_of m p)) (λ l. l) in
      omega (arith, gone_stays m (finished_by worker p m') s (finish_stays worker p (label_of m p) m' passed stays))

  pub call_once : (e : Event) → Once m s (call passages estimates m e)
  call_once = call_either passages estimates m (Once m s) (λ refusal l. omega arith) (λ worker a e d k. act_once worker d k) (λ worker a o. bring_once worker (held_by (hands_of m) worker) o)
