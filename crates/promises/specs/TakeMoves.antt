-- Take keeps the invariant: a safe state is one that the comparison allows 100 × its label, so that dealing it is a step of the argument.
-- The goal is not dealt, since step 1 comes first.
use Rattle.std.specs.Prelude.{◌≡◌, refl, ◌≢◌, true, List, ℕ, ◌*◌, ◌≤◌, ◌<◌}
use Rattle.std.proofs.Common.{◌∙◌, arith, length-set, get_or-set_same, get_or-set_other, eq-eqb, ne_eqb}
use Rattle.std.proofs.Math.Decide.{ℕ_discrete}
use Rattle.rule.specs.Task.{estimate}
use Rattle.rule.specs.Marks.{out, is_live}
use Rattle.argument.specs.Front.{Allowed}
use Rattle.argument.specs.Steps.{at_or}
use Rattle.argument.specs.Good.{deal}
use Rattle.dealing.specs.Board.{safe}
use Rattle.dealing.specs.declared.Decision.{Decision}
use Rattle.dealing.specs.declared.Decision.TheVariants.{Found, NoPath, Deal, Stuck, Wait}
use Rattle.desk.specs.declared.Machine.{Machine}
use Rattle.desk.specs.Machine.{mark_of, with_phase, label_of, board_of, hands_of}
use Rattle.desk.specs.Take.{dealt, act}
use Rattle.promises.specs.View.{between, applied_none, applied_same, SureAt, Sure, StepAt, good_on}
use Rattle.dealing.specs.Laws.{safe_is_open}
use Rattle.promises.specs.Progress.{safe_is_free, Chosen}

-- of the marks that there are, all but unseen and finished are live
pub live_is : (k : ℕ) → 1 ≤ k → k ≢ 3 → k ≤ 3 → is_live k ≡ true
live_is k l u b = go (ℕ_discrete k 1)
  where
    go : Dec (k ≡ 1) → is_live k ≡ true
    go (yes e) = rw (eq-eqb k 1 e)
    go (no d) = rw (ne_eqb k 1 d, eq-eqb k 2 (omega arith))

-- what is seen has a place in the rows
pub seen_in : {passages estimates : List ℕ} {m : Machine} {places : ℕ → ℕ} → SureAt passages estimates m places → (s : ℕ) → 1 ≤ mark_of m s → s < 256
seen_in z s l = omega (arith, z.good.frontier.inside s l, z.task.right.states)

module _ {passages estimates : List ℕ} {m : Machine} (z : Sure passages estimates m) where
  -- a safe state is allowed 100 × its label
  pub safe_allowed : (s : ℕ) → safe (board_of m estimates) s ≡ true → Allowed m.excess (estimate estimates m.n) (between passages m) (100 * label_of m s) s
  safe_allowed s e =
      (omega arith, λ u d l k. safe_is_free (board_of m estimates) s e u (z.good.frontier.inside u l) d (live_is (mark_of m u) l k (z.marks u)))

  module _ (worker s : ℕ) (e : safe (board_of m estimates) s ≡ true) where
    -- the state that is dealt is out, and every other mark stays
    pub dealt_now : mark_of (dealt m (hands_of m) worker s) s ≡ 2
    dealt_now = get_or-set_same m.mark s out 0 (omega (arith, seen_in z s (omega (arith, safe_is_open (board_of m estimates) s e)), z.sized.marks))

    pub dealt_else : (x : ℕ) → x ≢ s → mark_of (dealt m (hands_of m) worker s) x ≡ mark_of m x
    dealt_else x d = get_or-set_other m.mark s x out 0 d

    deal_step : s ≢ m.goal → StepAt passages estimates m (between passages m) (between passages (dealt m (hands_of m) worker s))
    deal_step u =
        let is : mark_of m s ≡ 1 = safe_is_open (board_of m estimates) s e in
        let now : mark_of (dealt m (hands_of m) worker s) s ≡ 2 = dealt_now in
        deal s (100 * label_of m s) u (record {
          live = omega arith;
          idle = omega arith;
          fresh = omega arith;
          pays = omega arith;
          allowed = safe_allowed s e;
          mark = now;
          label = refl;
          via = refl;
          front = refl;
          bound = refl;
          place = applied_none passages (dealt m (hands_of m) worker s) s (omega arith);
          other = λ x d. record {
            mark = dealt_else x d;
            label = refl;
            via = refl;
            front = refl;
            bound = refl;
            place = applied_same passages m (dealt m (hands_of m) worker s) x (dealt_else x d);
          };
        })

    dealt_sure : s ≢ m.goal → Sure passages estimates (dealt m (hands_of m) worker s)
    dealt_sure u = record {
      task = z.task;
      sized = record { marks = length-set m.mark s out ∙ z.sized.marks; labels = z.sized.labels; vias = z.sized.vias; workers = length-set m.held worker s ∙ z.sized.workers; keys = z.sized.keys };
      marks = at_or s (omega (arith, dealt_now)) (λ x d. omega (arith, dealt_else x d, z.marks x));
      good = good_on passages estimates m z.task z.good (deal_step u);
    }

  -- the phase is nothing that a view shows
  phase_sure : (p : ℕ) → Sure passages estimates (with_phase m p)
  phase_sure p = record {
    task = z.task;
    sized = record { marks = z.sized.marks; labels = z.sized.labels; vias = z.sized.vias; workers = z.sized.workers; keys = z.sized.keys };
    marks = z.marks;
    good = z.good;
  }

  pub act_sure : (worker : ℕ) (d : Decision) → Chosen m.goal m.pull (board_of m estimates) d → Sure passages estimates (act m (hands_of m) worker d).machine
  act_sure worker (Found cost) k = phase_sure 1
  act_sure worker NoPath k = phase_sure 2
  act_sure worker (Deal s) k = dealt_sure worker s k.0 k.1
  act_sure worker Stuck k = z
  act_sure worker (Wait s) k = z
