-- Bring keeps the invariant: each passage of the held state is a touch of its far end, where that gets a label, then an advance of the held state's place.
-- At the end the held state is finished.
use Rattle.std.specs.Prelude.{◌≡◌, ◌≢◌, Bool, ◌&&◌, ◌||◌, cond, List, set, ltb, eqb}
use Rattle.std.proofs.Math.Path.{refl, fun_ext}
use Rattle.std.proofs.Common.{sym, subst, ap, ◌∙◌, inl, inr, true≢false, mul-le-mul_right, arith, length-set, get_or-set_same, get_or-set_other, ltb-true, ltb-false, eqb-true}
use Rattle.std.proofs.Math.Bool.{true, false}
use Prim.Native.Nat.{ℕ, zero, suc, ◌+◌, ◌*◌, ◌≤◌, ◌<◌}
use Rattle.std.proofs.Math.Decide.{dec_le}
use Rattle.std.proofs.lemmas.Bool.{eqb-false}
use Rattle.laws.specs.Fold.{fold}
use Rattle.rule.specs.Task.{passage_count, near, far, cost, is_clear}
use Rattle.rule.specs.Marks.{waiting, finished, none}
use Rattle.rule.specs.Rule.{lowers}
use Rattle.argument.specs.Front.{Reached}
use Rattle.argument.specs.Steps.{at_or}
use Rattle.argument.specs.Good.{touch, advance, finish}
use Rattle.desk.specs.declared.Machine.{Machine}
use Rattle.desk.specs.Machine.{with_mark, with_hands, hands_of, mark_of, label_of, task_of}
use Rattle.desk.specs.Bring.{Swept, swept, labelled, reach, apply_passage, sweep_of}
use Rattle.promises.specs.Demand.{graph}
use Rattle.promises.specs.View.{via_of, view, between, during, applied_none, applied_same, midway_at, midway_other, Sure, Midway, GoodAt, StepAt, good_on}
use Rattle.promises.specs.TakeMoves.{seen_in}

-- the test of a passage, by what it says of the far end
lowers_yes : (mark label sum : ℕ) → lowers mark label sum ≡ true → (mark ≤ 1) × (1 ≤ mark → sum < label)
unfolding lowers
lowers_yes mark label sum = go (eqb mark 0) refl (eqb mark 1) refl (ltb sum label) refl
  where
    go : (a : Bool) → eqb mark 0 ≡ a → (b : Bool) → eqb mark 1 ≡ b → (c : Bool) → ltb sum label ≡ c → (a || b) && (a || c) ≡ true → (mark ≤ 1) × (1 ≤ mark → sum < label)
    go true p b q c r e = let z = eqb-true mark 0 p in (omega arith, λ l. absurd (omega arith))
    go false p true q true r e = let o = eqb-true mark 1 q in (omega arith, λ l. ltb-true sum label r)
    go false p true q false r e = let z : ◌≡◌ {A = ℕ} 0 1 = cc in absurd (omega arith)
    go false p false q c r e = let z : ◌≡◌ {A = ℕ} 0 1 = cc in absurd (omega arith)

lowers_no : (mark label sum : ℕ) → lowers mark label sum ≡ false → (1 ≤ mark) × (mark ≤ 1 → label ≤ sum)
unfolding lowers
lowers_no mark label sum = go (eqb mark 0) refl (eqb mark 1) refl (ltb sum label) refl
  where
    go : (a : Bool) → eqb mark 0 ≡ a → (b : Bool) → eqb mark 1 ≡ b → (c : Bool) → ltb sum label ≡ c → (a || b) && (a || c) ≡ false → (1 ≤ mark) × (mark ≤ 1 → label ≤ sum)
    go true p b q c r e = let z : ◌≡◌ {A = ℕ} 0 1 = cc in absurd (omega arith)
    go false p b q false r e = let z = eqb-false mark 0 p in (omega (arith, z), λ l. ltb-false sum label r)
    go false p true q true r e = let z : ◌≡◌ {A = ℕ} 0 1 = cc in absurd (omega arith)
    go false p false q true r e = let z = eqb-false mark 0 p in let o = eqb-false mark 1 q in (omega (arith, z), λ l. absurd (omega (arith, z, o)))

-- passage i is one, and it isn't blocked
abbrev pub Counts : List ℕ → ℕ → Type 0
Counts passages i = (i < passage_count passages) × (is_clear passages i ≡ true)

-- the machine after passage i has given its far end a label
abbrev pub lowered : List ℕ → List ℕ → ℕ → ℕ → Machine → Machine
lowered passages estimates l i m = labelled m estimates (far passages i) (l + cost passages i) i

-- whether it does
abbrev lowers_far : List ℕ → ℕ → ℕ → Machine → Bool
lowers_far passages l i m = lowers (mark_of m (far passages i)) (label_of m (far passages i)) (l + cost passages i)

-- what a pass over p's passages knows at passage i: the invariant, and that p is out with the label that the pass began with
pub record Passing (passages estimates : List ℕ) (p l i : ℕ) (m : Machine) : Type 0 where
  pub sure : Midway passages estimates p i m
  pub out : mark_of m p ≡ 2
  pub label : label_of m p ≡ l

module _ {passages estimates : List ℕ} {p l i : ℕ} {m : Machine} (z : Passing passages estimates p l i m) where
  -- passage i of p has reached its far end, where it counts and is one of p's
  abbrev Arrived : Type 0
  Arrived = Counts passages i → near passages i ≡ p → Reached m.excess (graph (task_of m passages estimates)) (during passages p i m) p i

  -- then the place of p goes on, and nothing else changes
  advance_step : Arrived → StepAt passages estimates m (during passages p i m) (during passages p (suc i) m)
  advance_step r = advance p i (record {
    reached = r;
    from = midway_at passages m p i;
    to = midway_at passages m p (suc i);
    mark = λ x. refl;
    label = λ x. refl;
    via = λ x. refl;
    front = λ x. refl;
    bound = λ x. refl;
    other = λ x d. midway_other passages m p (suc i) x d ∙ sym (midway_other passages m p i x d);
  })

  advanced : Arrived → Passing passages estimates p l (suc i) m
  advanced r = record {
    sure = record { task = z.sure.task; sized = z.sure.sized; marks = z.sure.marks; good = good_on passages estimates m z.sure.task z.sure.good (advance_step r) };
    out = z.out;
    label = z.label;
  }

  -- another state's passage
  passes_other : near passages i ≢ p → Passing passages estimates p l (suc i) m
  passes_other d = advanced (λ j e. absurd (d e))

  -- a blocked passage, which is no part of any route
  passes_blocked : is_clear passages i ≡ false → Passing passages estimates p l (suc i) m
  passes_blocked b = advanced (λ (_, k) e. absurd (true≢false (sym k ∙ b)))

  -- a far end that keeps its label
  passes_kept : lowers_far passages l i m ≡ false → Passing passages estimates p l (suc i) m
  passes_kept e = advanced (λ j q. go (lowers_no _ _ _ e) (dec_le 2 (mark_of m (far passages i))))
    where
      go : (1 ≤ mark_of m (far passages i)) × (mark_of m (far passages i) ≤ 1 → label_of m (far passages i) ≤ l + cost passages i) → Dec (2 ≤ mark_of m (far passages i))
          → Reached m.excess (graph (task_of m passages estimates)) (during passages p i m) p i
      go (s, k) (yes d) = (s, inr (d, omega arith))
      go (s, k) (no d) = (s, inl (omega (arith, k (omega arith), z.label, mul-le-mul_right (cost passages i) z.sure.task.consistent.hundred)))

  -- a far end q that is opened or gets a smaller label
  module _ (j : Counts passages i) (from : near passages i ≡ p) (e : lowers_far passages l i m ≡ true) where
    abbrev q : ℕ
    q = far passages i

    low : q < 256
    low = omega (arith, z.sure.task.right.states, z.sure.task.consistent.ends i j)

    pub lowered_now : mark_of (lowered passages estimates l i m) q ≡ 1
    lowered_now = get_or-set_same m.mark q waiting 0 (omega (arith, low, z.sure.sized.marks))

    pub lowered_else : (x : ℕ) → x ≢ q → mark_of (lowered passages estimates l i m) x ≡ mark_of m x
    lowered_else x d = get_or-set_other m.mark q x waiting 0 d

    new : label_of (lowered passages estimates l i m) q ≡ l + cost passages i
    new = get_or-set_same m.label q (l + cost passages i) 0 (omega (arith, low, z.sure.sized.labels))

    pub label_else : (x : ℕ) → x ≢ q → label_of (lowered passages estimates l i m) x ≡ label_of m x
    label_else x d = get_or-set_other m.label q x (l + cost passages i) 0 d

    way : via_of (lowered passages estimates l i m) q ≡ i
    way = get_or-set_same m.via q i 0 (omega (arith, low, z.sure.sized.vias))

    -- it was unseen or open, and where it was seen its label was greater
    pub free : mark_of m q ≤ 1
    free = (lowers_yes (mark_of m q) (label_of m q) (l + cost passages i) e).0

    less : 1 ≤ mark_of m q → l + cost passages i < label_of m q
    less = (lowers_yes (mark_of m q) (label_of m q) (l + cost passages i) e).1

    -- so it is neither p, which is out, nor the start, whose label is 0
    apart : q ≢ p
    apart k = omega (arith, free, z.out, ap (mark_of m) k)

    away : q ≢ m.start
    away k = omega (arith, less (omega (arith, z.sure.good.frontier.seen, ap (mark_of m) k)), z.sure.good.chained.root, ap (label_of m) k)

    touch_step : StepAt passages estimates m (during passages p i m) (during passages p i (lowered passages estimates l i m))
    touch_step = touch q (record {
      inside = (z.sure.task.consistent.ends i j).1;
      kept = λ k. absurd (omega (arith, free));
      opened = λ k. (lowered_now, midway_other passages (lowered passages estimates l i m) p i q apart ∙ applied_none passages (lowered passages estimates l i m) q (omega (arith, lowered_now)));
      front = λ k. omega (arith, less k, new);
      link = λ k. inr (record {
        by = i;
        edge = j;
        far = refl;
        away = away;
        via = way;
        dealt = omega (arith, z.out, ap (mark_of m) from);
        label = omega (arith, new, z.label, ap (label_of m) from);
        mark = omega (arith, lowered_now);
      });
      other = λ x d. record {
        mark = lowered_else x d;
        label = label_else x d;
        via = get_or-set_other m.via q x i 0 d;
        front = ap (100 *◌) (label_else x d);
        bound = ap (100 *◌) (label_else x d);
        place = ap (cond (eqb x p) i) (applied_same passages m (lowered passages estimates l i m) x (lowered_else x d));
      };
    })

    touched : Passing passages estimates p l i (lowered passages estimates l i m)
    touched = record {
      sure = record {
        task = z.sure.task;
        sized = record {
          marks = length-set m.mark q waiting ∙ z.sure.sized.marks;
          labels = length-set m.label q (l + cost passages i) ∙ z.sure.sized.labels;
          vias = length-set m.via q i ∙ z.sure.sized.vias;
          workers = z.sure.sized.workers;
          keys = length-set m.key q _ ∙ z.sure.sized.keys;
        };
        marks = at_or q (omega (arith, lowered_now)) (λ x d. omega (arith, lowered_else x d, z.sure.marks x));
        good = good_on passages estimates m z.sure.task z.sure.good touch_step;
      };
      out = lowered_else p (λ k. apart (sym k)) ∙ z.out;
      label = label_else p (λ k. apart (sym k)) ∙ z.label;
    }

    arrived : Reached m.excess (graph (task_of m passages estimates)) (during passages p i (lowered passages estimates l i m)) p i
    arrived = (omega (arith, lowered_now), inl (omega (arith, new, touched.label, mul-le-mul_right (cost passages i) z.sure.task.consistent.hundred)))

passes_lowered : {passages estimates : List ℕ} {p l i : ℕ} {m : Machine} → Passing passages estimates p l i m → Counts passages i → near passages i ≡ p
    → lowers_far passages l i m ≡ true → Passing passages estimates p l (suc i) (lowered passages estimates l i m)
passes_lowered z j from e = advanced (touched z j from e) (λ _ _. arrived z j from e)

-- what a passage that gives a label keeps, the whole pass keeps
abbrev pub Keeps : List ℕ → List ℕ → ℕ → ℕ → (Machine → Type 0) → Type 0
Keeps passages estimates p l P =
    (i : ℕ) (m : Machine) → Passing passages estimates p l i m → Counts passages i → near passages i ≡ p → lowers_far passages l i m ≡ true
    → P m → P (lowered passages estimates l i m)

module _ (passages estimates : List ℕ) (p l : ℕ) (P : Machine → Type 0) (keeps : Keeps passages estimates p l P) where
  abbrev PassedTo : ℕ → Machine → Type 0
  PassedTo i m = Passing passages estimates p l i m × P m

  -- one passage
  passes : (i : ℕ) (w : Swept) → i < passage_count passages → PassedTo i w.machine → PassedTo (suc i) (apply_passage passages estimates p l i w).machine
  unfolding apply_passage
  passes i w j (z, a) = mine (eqb (near passages i) p) refl (is_clear passages i) refl
    where
      lowering : near passages i ≡ p → is_clear passages i ≡ true → (b : Bool) → lowers_far passages l i w.machine ≡ b
          → PassedTo (suc i) (cond b (swept (lowered passages estimates l i w.machine) (w.many + 1)) w).machine
      lowering f k true e = (passes_lowered z (j, k) f e, keeps i w.machine z (j, k) f e a)
      lowering f k false e = (passes_kept z e, a)

      mine : (b : Bool) → eqb (near passages i) p ≡ b → (clear : Bool) → is_clear passages i ≡ clear
          → PassedTo (suc i) (cond (b && clear) (reach estimates (far passages i) (l + cost passages i) i w) w).machine
      mine true e true k = lowering (eqb-true (near passages i) p e) k (lowers_far passages l i w.machine) refl
      mine true e false k = (passes_blocked z k, a)
      mine false e clear k = (passes_other z (eqb-false (near passages i) p e), a)

  -- all passages below i
  pass : (w : Swept) → PassedTo 0 w.machine → (i : ℕ) → i ≤ passage_count passages → PassedTo i (fold (apply_passage passages estimates p l) w i).machine
  unfolding fold
  pass w a zero k = a
  pass w a (suc i) k = passes i (fold (apply_passage passages estimates p l) w i) k (pass w a i (omega arith))

module _ {passages estimates : List ℕ} {m : Machine} (z : Sure passages estimates m) (p : ℕ) (o : mark_of m p ≡ 2) where
  -- a pass begins with none of p's passages applied
  pass_zero : Passing passages estimates p (label_of m p) 0 m
  pass_zero = record {
    sure = record {
      task = z.task;
      sized = z.sized;
      marks = z.marks;
      good = subst (λ (places : ℕ → ℕ). GoodAt passages estimates m (view m places))
          (fun_ext (at_or p (applied_none passages m p (omega arith) ∙ sym (midway_at passages m p 0)) (λ x d. sym (midway_other passages m p 0 x d)))) z.good;
    };
    out = o;
    label = refl;
  }

  pub sweep_keeps : (P : Machine → Type 0) → Keeps passages estimates p (label_of m p) P → P m
      → Passing passages estimates p (label_of m p) (passage_count passages) (sweep_of m passages estimates p).machine × P (sweep_of m passages estimates p).machine
  unfolding sweep_of
  sweep_keeps P keeps a = pass passages estimates p (label_of m p) P keeps (swept m 0) (pass_zero, a) (passage_count passages) (omega arith)

-- the machine that Bring hands back
abbrev pub finished_by : ℕ → ℕ → Machine → Machine
finished_by worker p m = with_hands (with_mark m p finished) (set (hands_of m) worker none)

module _ {passages estimates : List ℕ} {p l : ℕ} {m : Machine} (z : Passing passages estimates p l (passage_count passages) m) (worker : ℕ) where
  pub finished_now : mark_of (finished_by worker p m) p ≡ 3
  finished_now = get_or-set_same m.mark p finished 0 (omega (arith, z.sure.sized.marks, seen_in z.sure p (omega (arith, z.out))))

  pub finished_else : (x : ℕ) → x ≢ p → mark_of (finished_by worker p m) x ≡ mark_of m x
  finished_else x d = get_or-set_other m.mark p x finished 0 d

  finish_step : StepAt passages estimates m (during passages p (passage_count passages) m) (between passages (finished_by worker p m))
  finish_step = finish p (record {
    out = z.out;
    all = omega (arith, midway_at passages m p (passage_count passages));
    mark = finished_now;
    label = refl;
    via = refl;
    front = refl;
    bound = refl;
    place = ap (λ k. cond (eqb k finished) (passage_count passages) 0) finished_now ∙ sym (midway_at passages m p (passage_count passages));
    other = λ x d. record {
      mark = finished_else x d;
      label = refl;
      via = refl;
      front = refl;
      bound = refl;
      place = applied_same passages m (finished_by worker p m) x (finished_else x d) ∙ sym (midway_other passages m p (passage_count passages) x d);
    };
  })

  pub finished_sure : Sure passages estimates (finished_by worker p m)
  finished_sure = record {
    task = z.sure.task;
    sized = record {
      marks = length-set m.mark p finished ∙ z.sure.sized.marks;
      labels = z.sure.sized.labels;
      vias = z.sure.sized.vias;
      workers = length-set m.held worker none ∙ z.sure.sized.workers;
      keys = z.sure.sized.keys;
    };
    marks = at_or p (omega (arith, finished_now)) (λ x d. omega (arith, finished_else x d, z.sure.marks x));
    good = good_on passages estimates m z.sure.task z.sure.good finish_step;
  }
