-- Every reached machine fits: the invariant with the machine's own clauses of 8, which opening makes and every call keeps.
-- A label is small because its chain is short.
use Rattle.std.specs.Prelude.{◌≡◌, refl, ◌⊎◌, ◌≢◌, List, ℕ, zero, suc, ◌*◌, ◌≤◌, ◌<◌, eqb, get_or, replicate, is_ok, Ok}
use Rattle.std.proofs.Common.{sym, ◌∙◌, inr, arith}
use Rattle.std.proofs.Math.Path.{ap}
use Rattle.std.proofs.Math.Logic.{inl}
use Rattle.std.proofs.Math.Bool.{true}
use Rattle.std.proofs.Math.Decide.{dec_le, ℕ_discrete}
use Rattle.std.proofs.Math.Dec.{leb}
use Rattle.std.proofs.Math.ListN.{length-set, length-replicate}
use Rattle.std.proofs.lemmas.List.{get_or-replicate}
use Rattle.std.proofs.Math.Seq.{get_or-set_same, get_or-set_other}
use borrow.Author.Tests.{eq-eqb, ne_eqb, lt-ltb, le-leb, lt-leb}
use Rattle.laws.specs.Truth.{and_right, and_both}
use Rattle.laws.specs.All.{all_of}
use Rattle.laws.specs.Count.{count, count_max, count_short}
use Rattle.rule.specs.Task.{passage_count, far}
use Rattle.rule.specs.Marks.{out, none, is_mark}
use Rattle.argument.specs.Chain.{chain_cost, fixed}
use Rattle.argument.specs.Steps.{at_or}
use Rattle.argument.specs.Good.{good_fresh}
use Rattle.checks.specs.Opening.{Task, fault}
use Rattle.checks.specs.Fits.{marks_right, labels_right, worker_right, workers_right, holders, held_right, held_once}
use Rattle.dealing.specs.Board.{safe}
use Rattle.dealing.specs.declared.Decision.{Decision}
use Rattle.dealing.specs.declared.Decision.TheVariants.{Found, NoPath, Deal, Stuck, Wait}
use Rattle.desk.specs.declared.Machine.{Machine}
use Rattle.desk.specs.Machine.{hands_of, held_by, mark_of, label_of, task_of, board_of}
use Rattle.desk.specs.Fits.{task_fits, keys_fit, is_sound, rows_fit, fits}
use Rattle.desk.specs.Opening.{opened_machine}
use Rattle.desk.specs.Take.{dealt, act}
use Rattle.desk.specs.declared.Event.{Event}
use Rattle.desk.specs.Calls.{call}
use Rattle.desk.specs.CallLaws.{call_task}
use Rattle.desk.specs.KeyLaws.{call_stays, opened_keys}
use Rattle.promises.specs.Demand.{graph}
use Rattle.promises.specs.Accepted.{Sound}
use Rattle.promises.specs.View.{between, applied_none, Sure}
use Rattle.dealing.specs.Laws.{safe_is_open}
use Rattle.promises.specs.Progress.{Chosen}
use Rattle.promises.specs.TakeMoves.{dealt_now, dealt_else, act_sure}
use Rattle.promises.specs.BringMoves.{lowered, Passing, lowered_now, lowered_else, label_else, free, Keeps, sweep_keeps, finished_by, finished_now, finished_else, finished_sure}
use Rattle.promises.specs.Calls.{brought, call_either}
use Rattle.promises.specs.Holding.{Holding, holding_take, holding_give, holding_same}

-- the invariant with what 8 asks of the machine besides, the stored keys apart; unseen states have label 0
record Orderly (passages estimates : List ℕ) (m : Machine) : Type 0 where
  sure : Sure passages estimates m
  phase : m.phase ≤ 2
  blank : (s : ℕ) → mark_of m s ≡ 0 → label_of m s ≡ 0
  hold : Holding m.n m.k none (held_by (hands_of m)) (mark_of m)

-- and with right keys; past n they are 0
pub record Steady (passages estimates : List ℕ) (m : Machine) : Type 0 where
  pub sure : Sure passages estimates m
  pub phase : m.phase ≤ 2
  pub blank : (s : ℕ) → mark_of m s ≡ 0 → label_of m s ≡ 0
  pub hold : Holding m.n m.k none (held_by (hands_of m)) (mark_of m)
  pub keys : keys_fit m estimates ≡ true
  pub past : (s : ℕ) → m.n ≤ s → get_or m.key s 0 ≡ 0

-- what isn't about keys, kept by each call for itself
orderly : {passages estimates : List ℕ} {m : Machine} → Steady passages estimates m → Orderly passages estimates m
orderly z = record { sure = z.sure; phase = z.phase; blank = z.blank; hold = z.hold }

zeros : (n x : ℕ) → get_or {A = ℕ} (replicate n 0) x 0 ≡ 0
zeros zero x = refl
zeros (suc n) zero = refl
zeros (suc n) (suc x) = zeros n x

-- opening makes it
module _ (t : Task) (a : Sound t) where
  opened_now : mark_of (opened_machine t) t.start ≡ 1
  unfolding opened_machine
  opened_now = get_or-set_same {A = ℕ} (replicate 256 0) t.start 1 0 (omega (arith, a.right.states, a.right.start_in, length-replicate {A = ℕ} 256 0))

  opened_else : (x : ℕ) → x ≢ t.start → mark_of (opened_machine t) x ≡ 0
  unfolding opened_machine
  opened_else x d = get_or-set_other {A = ℕ} (replicate 256 0) t.start x 1 0 d ∙ zeros 256 x

  opened_low : (x : ℕ) → mark_of (opened_machine t) x ≤ 1
  opened_low = at_or t.start (omega (arith, opened_now)) (λ x d. omega (arith, opened_else x d))

  opened_sure : Sure t.passages t.estimates (opened_machine t)
  unfolding opened_machine
  opened_sure = record {
    task = a;
    sized = record {
      marks = length-set {A = ℕ} (replicate 256 0) t.start 1 ∙ length-replicate {A = ℕ} 256 0;
      labels = length-replicate {A = ℕ} 256 0;
      vias = length-replicate 256 none;
      workers = length-replicate 32 none;
      keys = length-set {A = ℕ} (replicate 256 0) t.start _ ∙ length-replicate {A = ℕ} 256 0;
    };
    marks = λ s. omega (arith, opened_low s);
    good = good_fresh (graph t) t.n t.excess t.start t.goal (passage_count t.passages) (between t.passages (opened_machine t)) (λ i (l, _). l) (record {
      inside = a.right.start_in;
      mark = opened_now;
      other = opened_else;
      label = zeros 256 t.start;
      front = ap (100 *◌) (zeros 256 t.start);
      place = λ x. applied_none t.passages (opened_machine t) x (omega (arith, opened_low x));
    });
  }

  pub opened_steady : fault t ≡ Ok tt → Steady t.passages t.estimates (opened_machine t)
  unfolding opened_machine
  opened_steady e = record {
    sure = opened_sure;
    phase = omega arith;
    blank = λ s e. zeros 256 s;
    hold = record {
      room = omega (arith, a.right.states);
      inside = λ s e. absurd (omega (arith, opened_low s));
      own = λ w l. inl (get_or-replicate 32 w none 0 (omega (arith, a.right.workers)));
      once = λ s e. absurd (omega (arith, opened_low s));
    };
    keys = opened_keys t e;
    past = λ s l. get_or-set_other {A = ℕ} (replicate 256 0) t.start s _ 0 (λ q. omega (arith, a.right.start_in)) ∙ zeros 256 s;
  }

-- Take keeps it
module _ {passages estimates : List ℕ} {m : Machine} (z : Orderly passages estimates m) (worker : ℕ) (l : worker < m.k) (e : held_by (hands_of m) worker ≡ none) where
  deal_held : (s : ℕ) → safe (board_of m estimates) s ≡ true → Holding m.n m.k none (held_by (hands_of (dealt m (hands_of m) worker s))) (mark_of (dealt m (hands_of m) worker s))
  deal_held s k =
      let is : mark_of m s ≡ 1 = safe_is_open (board_of m estimates) s k in
      let mine : held_by (hands_of (dealt m (hands_of m) worker s)) worker ≡ s = get_or-set_same m.held worker s 0 (omega (arith, z.sure.sized.workers, z.sure.task.right.workers)) in
      holding_take m.n m.k none (held_by (hands_of m)) (mark_of m) (held_by (hands_of (dealt m (hands_of m) worker s))) (mark_of (dealt m (hands_of m) worker s)) z.hold worker s l
      (λ x d. get_or-set_other m.held worker x s 0 d) e (z.sure.good.frontier.inside s (omega arith)) (omega arith) mine
      (dealt_now z.sure worker s k) (dealt_else z.sure worker s k)

  act_orderly : (d : Decision) → Chosen m.goal m.pull (board_of m estimates) d → Orderly passages estimates (act m (hands_of m) worker d).machine
  act_orderly (Found cost) k = record { sure = act_sure z.sure worker (Found cost) k; phase = omega arith; blank = z.blank; hold = z.hold }
  act_orderly NoPath k = record { sure = act_sure z.sure worker NoPath k; phase = omega arith; blank = z.blank; hold = z.hold }
  act_orderly (Deal s) k = record {
    sure = act_sure z.sure worker (Deal s) k;
    phase = z.phase;
    blank = at_or s (λ q. absurd (omega (arith, dealt_now z.sure worker s k.0))) (λ x d q. z.blank x (sym (dealt_else z.sure worker s k.0 x d) ∙ q));
    hold = deal_held s k.0;
  }
  act_orderly Stuck k = z
  act_orderly (Wait s) k = z

-- what a pass over the state p that the worker holds keeps besides the invariant
record Carrying (worker p : ℕ) (m : Machine) : Type 0 where
  inside : worker < m.k
  mine : held_by (hands_of m) worker ≡ p
  phase : m.phase ≤ 2
  blank : (s : ℕ) → mark_of m s ≡ 0 → label_of m s ≡ 0
  hold : Holding m.n m.k none (held_by (hands_of m)) (mark_of m)

carrying : (passages estimates : List ℕ) (worker p l : ℕ) → Keeps passages estimates p l (Carrying worker p)
carrying passages estimates worker p l i m z j from e c =
    let now : mark_of (lowered passages estimates l i m) (far passages i) ≡ 1 = lowered_now z j from e in
    record {
      inside = c.inside;
      mine = c.mine;
      phase = c.phase;
      blank = at_or (far passages i) (λ k. absurd (omega arith)) (λ x d k. label_else z j from e x d ∙ c.blank x (sym (lowered_else z j from e x d) ∙ k));
      hold = holding_same m.n m.k none (held_by (hands_of m)) (mark_of m) (mark_of (lowered passages estimates l i m)) c.hold
          (at_or (far passages i) (λ k. absurd (omega arith), λ k. absurd (omega (arith, free z j from e)))
          (λ x d. (λ k. sym (lowered_else z j from e x d) ∙ k, λ k. lowered_else z j from e x d ∙ k)));
    }

-- giving it back keeps it all
given_back : {passages estimates : List ℕ} {p l : ℕ} {m : Machine} (worker : ℕ) → Passing passages estimates p l (passage_count passages) m → Carrying worker p m
    → Orderly passages estimates (finished_by worker p m)
given_back {p = p} {m = m} worker z c =
    let now : mark_of (finished_by worker p m) p ≡ 3 = finished_now z worker in
    let empty : held_by (hands_of (finished_by worker p m)) worker ≡ none =
    get_or-set_same m.held worker none 0 (omega (arith, c.inside, z.sure.sized.workers, z.sure.task.right.workers)) in
    record {
      sure = finished_sure z worker;
      phase = c.phase;
      blank = at_or p (λ k. absurd (omega arith)) (λ x d k. c.blank x (sym (finished_else z worker x d) ∙ k));
      hold = holding_give m.n m.k none (held_by (hands_of m)) (mark_of m) (held_by (hands_of (finished_by worker p m))) (mark_of (finished_by worker p m)) c.hold worker p c.inside
          (λ x d. get_or-set_other m.held worker x none 0 d) c.mine z.out empty (omega arith) (finished_else z worker);
    }

module _ {passages estimates : List ℕ} {m : Machine} (z : Orderly passages estimates m) where
  bring_orderly : (worker : ℕ) → worker < m.k → mark_of m (held_by (hands_of m) worker) ≡ 2
      → Orderly passages estimates (brought m passages estimates worker (held_by (hands_of m) worker)).machine
  bring_orderly worker l o =
      let p : ℕ = held_by (hands_of m) worker in
      let (passed, carried) = sweep_keeps z.sure p o (Carrying worker p) (carrying passages estimates worker p (label_of m p))
      (record { inside = l; mine = refl; phase = z.phase; blank = z.blank; hold = z.hold }) in
      given_back worker passed carried

  call_orderly : (e : Event) → Orderly passages estimates (call passages estimates m e).machine
  call_orderly = call_either passages estimates m (λ a. Orderly passages estimates a.machine) (λ refusal l. z)
      (λ worker a e d k. act_orderly z worker a.worker_in e d k)
      (λ worker a o. bring_orderly worker a.worker_in o)

module _ {passages estimates : List ℕ} {m : Machine} (z : Steady passages estimates m) where
  is_sound_lem : is_sound m passages estimates ≡ true
  is_sound_lem = and_both (ap is_ok z.sure.task.early) z.keys

  -- no call makes the keys wrong, or reaches past n
  pub call_steady : (e : Event) → Steady passages estimates (call passages estimates m e).machine
  call_steady e =
      let o = call_orderly (orderly z) e in
      let w = call_stays passages estimates m e z.sure.sized in
      let same : (call passages estimates m e).machine.n ≡ m.n = ap (λ (t : Task). t.n) (call_task passages estimates m e) in
      record {
        sure = o.sure;
        phase = o.phase;
        blank = o.blank;
        hold = o.hold;
        keys = and_right (task_fits (call passages estimates m e).machine passages estimates) _ (w.sound ∙ is_sound_lem);
        past = λ s l. w.past s (omega arith) ∙ z.past s (omega arith);
      }

  -- how many states were dealt before
  abbrev dealt_count : ℕ
  dealt_count = count (fixed (between passages m)) m.n

  -- a chain has fewer links than there are states, each of cost 1,000,000 at most, since none is blocked
  label_small : (s : ℕ) → s < m.n → label_of m s ≤ 255000000
  label_small s l = go (ℕ_discrete (mark_of m s) 0)
    where
      short : (k : ℕ) → k ≤ dealt_count → (2 ≤ mark_of m s → k < dealt_count) → Dec (2 ≤ mark_of m s) → k ≤ 255
      short k c d (yes e) = omega (arith, d e, count_max (fixed (between passages m)) m.n, z.sure.task.right.states)
      short k c d (no e) = omega (arith, count_short (fixed (between passages m)) m.n s l (lt-leb 2 (mark_of m s) (omega arith)), z.sure.task.right.states)

      go : Dec (mark_of m s ≡ 0) → label_of m s ≤ 255000000
      go (yes e) = omega (arith, z.blank s e)
      go (no e) =
          let (k, c, d, f) = z.sure.good.chained.chain s (omega arith) in
          let cheap : label_of m s ≤ k * 1000000 = chain_cost (graph (task_of m passages estimates)) m.start (between passages m) 1000000 z.sure.task.costs s k c in
          omega (arith, short k d f (dec_le 2 (mark_of m s)))

  pub steady_fits : fits m (hands_of m) passages estimates ≡ true
  unfolding fits rows_fit marks_right labels_right workers_right holders held_once
  steady_fits =
      and_both is_sound_lem
      (and_both (le-leb m.phase 2 z.phase)
      (and_both (all_of (λ s. is_mark (get_or m.mark s 0)) m.n (λ s l. le-leb (mark_of m s) 3 (z.sure.marks s)))
      (and_both (all_of (λ s. leb (get_or m.label s 0) 255000000) m.n (λ s l. le-leb (label_of m s) 255000000 (label_small s l)))
      (and_both (all_of (λ w. worker_right m.mark m.n (get_or m.held w 0)) m.k (λ w l. worker w (z.hold.own w l)))
      (all_of (held_right m.mark m.held m.k) m.n (λ s l. state s (ℕ_discrete (mark_of m s) 2)))))))
    where
      worker : (w : ℕ) → (held_by (hands_of m) w ≡ none) ⊎ ((held_by (hands_of m) w < m.n) × (mark_of m (held_by (hands_of m) w) ≡ 2)) → worker_right m.mark m.n (held_by (hands_of m) w) ≡ true
      worker w (inl e) = rw (eq-eqb (held_by (hands_of m) w) none e)
      worker w (inr (b, e)) = rw (ne_eqb (held_by (hands_of m) w) none (omega (arith, z.hold.room)), lt-ltb (held_by (hands_of m) w) m.n b, eq-eqb (mark_of m (held_by (hands_of m) w)) out e)

      state : (s : ℕ) → Dec (mark_of m s ≡ 2) → held_right m.mark m.held m.k s ≡ true
      state s (yes e) = rw (eq-eqb (mark_of m s) out e, eq-eqb (count (λ w. eqb (held_by (hands_of m) w) s) m.k) 1 (z.hold.once s e))
      state s (no d) = rw (ne_eqb (mark_of m s) out d)
