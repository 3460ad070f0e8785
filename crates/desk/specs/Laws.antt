-- What the inner functions of the calls ask, what a machine that fits gives them, and what Bring's loop knows.
use Rattle.std.specs.Prelude.{◌≡◌, Bool, cond, not, ◌&&◌, is_ok, Option, Some, None, is_some, Result, Ok, Err, List, [], ◌++◌, ℕ, ◌+◌, ◌-◌, ◌≤◌, ◌<◌, length, get_or, drop, ltb, leb, eqb}
use Rattle.std.proofs.Math.Path.{refl, ap, subst⁻¹}
use Rattle.std.proofs.Common.{sym, ◌∙◌, arith}
use Rattle.std.proofs.Math.Bool.{true, false}
use borrow.Author.Tests.{eqb-true, eqb-false, ltb-true, leb-true, not-true, eq-eqb, ne_eqb, lt-ltb, le-leb, lt-leb}
use borrow.Rule.Slice.PartMut.{mid_of, put_mid}
use Rattle.laws.specs.Truth.{and_left, and_right, cond_either, provided, provided_either, provided_both, provided_ok, not_refused, passed}
use Rattle.laws.specs.Fold.{fold, fold_zero, fold_more, fold_keeps}
use Rattle.laws.specs.Part.{overlaid, put_overlaid}
use Rattle.rule.specs.Task.{passage_count, near, far, cost, is_clear}
use Rattle.rule.specs.Marks.{none}
use Rattle.rule.specs.declared.refusals.Refusal.{Refusal}
use Rattle.rule.specs.declared.refusals.Refusal.TheVariants.{Unfit, NoWorker, NotSearching, WrongHands, NothingOut, NotFound, BrokenTrail, ShortBuffer}
use Rattle.rule.specs.Refusals.{number_of}
use Rattle.rule.specs.Rule.{lowers}
use Rattle.rule.specs.Laws.{WholeTable}
use Rattle.checks.specs.Opening.{Task, early_fault, fault}
use Rattle.checks.specs.Fits.{phase_right, marks_right, labels_right, workers_right}
use Rattle.checks.specs.Laws.{Right, right, whole, fault_none, near_in, far_in, cost_in, label_low, worker_holds}
use Rattle.dealing.specs.Board.{Board}
use Rattle.dealing.specs.Decision.{decision}
use Rattle.dealing.specs.Laws.{deal_in, wait_in}
use Rattle.dealing.specs.declared.Decision.{Decision}
use Rattle.dealing.specs.declared.Decision.TheVariants.{Found, NoPath, Deal, Stuck, Wait}
use Rattle.trail.specs.Trail.{path}
use Rattle.trail.specs.Laws.{Inside, Followed, states_back, path_followed, path_states}
use Rattle.desk.specs.declared.Machine.{Machine}
use Rattle.desk.specs.declared.Reply.TheVariants.{Read}
use Rattle.desk.specs.Machine.{task_of, trail_of, mark_of, label_of, hands_of, held_by}
use Rattle.desk.specs.declared.Answer.{Answer}
use Rattle.desk.specs.Reply.{answer, refused}
use Rattle.desk.specs.Fits.{rows_fit, task_fits, keys_fit, is_sound, fits}
use Rattle.desk.specs.Admission.{admitted}
use Rattle.desk.specs.Bring.{Swept, swept, labelled, apply_passage, sweep_of, finish, bring_step}
use Rattle.desk.specs.Path.{PathReading, path_refused, path_of}

-- a task that opening accepts starts at a place of the rows
pub start_in : (t : Task) → fault t ≡ Ok tt → t.start < 256
start_in t e =
    let r = right t (fault_none t e) in
    omega (arith, r.start_in, r.states)

-- a machine whose rows are as long as their types say
pub record Sized (m : Machine) : Type 0 where
  pub marks : length m.mark ≡ 256
  pub labels : length m.label ≡ 256
  pub vias : length m.via ≡ 256
  pub workers : length m.held ≡ 32
  pub keys : length m.key ≡ 256

-- a machine that fits, with what its workers hold, as facts
pub record Fitting (m : Machine) (held passages estimates : List ℕ) : Type 0 where
  pub task : Right (task_of m passages estimates)
  pub labels : labels_right m.label m.n ≡ true
  pub workers : workers_right m.mark held m.n m.k ≡ true
  pub keys : keys_fit m estimates ≡ true

-- where conditions 1 to 4 hold
pub sound_task : (t : Task) → is_ok (early_fault t) ≡ true → Right t
sound_task t e = right t (passed (early_fault t) e)

pub sound_sizes : (t : Task) (sound keys : Bool) → sound ≡ (is_ok (early_fault t) && keys) → sound ≡ true → (t.n ≤ 256) × (t.k ≤ 32)
sound_sizes t sound keys s e = let r = sound_task t (and_left _ keys (sym s ∙ e)) in (r.states, r.workers)

pub fitting : (m : Machine) (held passages estimates : List ℕ) → fits m held passages estimates ≡ true → Fitting m held passages estimates
unfolding fits rows_fit
fitting m held passages estimates e =
    let e₀ = and_left (is_sound m passages estimates) _ e in
    let e₁ = and_right (is_sound m passages estimates) _ e in
    let e₂ = and_right (phase_right m.phase) _ e₁ in
    let e₃ = and_right (marks_right m.mark m.n) _ e₂ in
    let e₄ = and_right (labels_right m.label m.n) _ e₃ in
    record {
      task = sound_task (task_of m passages estimates) (and_left _ (keys_fit m estimates) e₀);
      labels = and_left _ _ e₃;
      workers = and_left _ _ e₄;
      keys = and_right (task_fits m passages estimates) _ e₀;
    }

-- the ladder of 8, 9 and 10 over what the three conditions come to
abbrev ladder : Bool → Bool → Bool → Result (Unit {0}) Refusal
ladder a b c = provided a (Err Unfit) (provided b (Err NoWorker) (provided c (Err NotSearching) (Ok tt)))

-- the first of 8, 9 and 10 that applies, if one does, by whether the machine fits
unfoldable pub call_fault : Bool → ℕ → ℕ → ℕ → Result (Unit {0}) Refusal
call_fault fit k phase worker = ladder fit (ltb worker k) (eqb phase 0)

-- where none applies
pub call_passed : (fit : Bool) (k phase worker : ℕ) → call_fault fit k phase worker ≡ Ok tt → (fit ≡ true) × (worker < k) × (phase ≡ 0)
unfolding call_fault
call_passed fit k phase worker e =
    let (is_fit, rest) = provided_ok fit Unfit _ e in
    let (below, last) = provided_ok (ltb worker k) NoWorker _ rest in
    (is_fit, ltb-true worker k below, eqb-true phase 0 (provided_ok (eqb phase 0) NotSearching _ last).0)

-- the state that a worker holds, if it holds one
abbrev pub holding : ℕ → Option ℕ
holding state = cond (eqb state none) None (Some state)

-- that, where none of 8, 9 and 10 applies
abbrev pub hands_if : Result (Unit {0}) Refusal → ℕ → Result (Option ℕ) Refusal
hands_if (Ok u) state = Ok (holding state)
hands_if (Err refusal) state = Err refusal

hands_found : (r : Result (Unit {0}) Refusal) (state : ℕ) (h : Option ℕ) → Ok h ≡ hands_if r state → (r ≡ Ok tt) × (h ≡ holding state)
hands_found (Ok u) state h e = (refl, cc)
hands_found (Err refusal) state h e = absurd (not_refused e)

hands_refused : (r : Result (Unit {0}) Refusal) (state : ℕ) (refusal : Refusal) → Err refusal ≡ hands_if r state → r ≡ Err refusal
hands_refused (Ok u) state refusal e = absurd (not_refused (sym e))
hands_refused (Err other) state refusal e = sym (cc)

-- a worker holds nothing where that is none, and holds the state that it is
pub held_none : (state : ℕ) → eqb state none ≡ not (is_some (holding state))
held_none state = go (eqb state none)
  where
    go : (b : Bool) → b ≡ not (is_some (cond b None (Some state)))
    go true = refl
    go false = refl

pub held_some : (state s : ℕ) → Some s ≡ holding state → (s ≡ state) × (state ≡ none → ⊥)
held_some state s e = go (eqb state none) refl e
  where
    go : (b : Bool) → eqb state none ≡ b → ◌≡◌ {A = Option ℕ} (Some s) (cond b None (Some state)) → (s ≡ state) × (state ≡ none → ⊥)
    go true q e = cc
    go false q e = (cc, eqb-false state none q)

-- what is known once none of 8, 9 and 10 applies
pub record Admitted (m : Machine) (held passages estimates : List ℕ) (worker : ℕ) : Type 0 where
  pub fit : fits m held passages estimates ≡ true
  pub worker_in : worker < m.k
  pub searching : m.phase ≡ 0

-- what the code finds of "Fits", where conditions 1 to 4 and the keys come to `sound`
pub fits_by : (m : Machine) (held passages estimates : List ℕ) (sound : Bool) → sound ≡ is_sound m passages estimates
    → (fit : Bool) → fit ≡ (sound && rows_fit m.n m.k m.phase m.mark m.label held) → fit ≡ fits m held passages estimates
unfolding fits
fits_by m held passages estimates sound s fit e = rw s at e

-- a call by its worker's hands, or by its first refusal, as the code finds them: conditions 1 to 4 and the keys come to `sound`
module _ (m : Machine) (held passages estimates : List ℕ) (worker : ℕ) (sound : Bool) (s : sound ≡ is_sound m passages estimates) where
  abbrev fault_found : Result (Unit {0}) Refusal
  fault_found = call_fault (sound && rows_fit m.n m.k m.phase m.mark m.label held) m.k m.phase worker

  as_fits : fault_found ≡ call_fault (fits m held passages estimates) m.k m.phase worker
  as_fits = ap (λ (fit : Bool). call_fault fit m.k m.phase worker) (fits_by m held passages estimates sound s _ refl)

  -- a call that is turned away
  pub turned_away : (refusal : Refusal) → Err refusal ≡ hands_if fault_found (held_by held worker) → (ready : Bool) (call : Answer) → refused m refusal ≡ admitted m held passages estimates worker ready call
  unfolding call_fault admitted
  turned_away refusal e ready call = go (fits m held passages estimates) (ltb worker m.k) (eqb m.phase 0) (sym as_fits ∙ hands_refused fault_found (held_by held worker) refusal e)
    where
      go : (a b c : Bool) → ladder a b c ≡ Err refusal
          → refused m refusal ≡ provided a (refused m Unfit) (provided b (refused m NoWorker) (provided c (refused m NotSearching) (provided ready (refused m WrongHands) call)))
      go false b c e = ap (refused m) (sym (cc))
      go true false c e = ap (refused m) (sym (cc))
      go true true false e = ap (refused m) (sym (cc))
      go true true true e = absurd (not_refused e)

  -- a worker that may call, by what it holds
  module _ (h : Option ℕ) (e : Ok h ≡ hands_if fault_found (held_by held worker)) where
    pub may_call : Admitted m held passages estimates worker
    may_call =
        let (fit, below, searching) = call_passed _ _ _ _ (sym as_fits ∙ (hands_found fault_found (held_by held worker) h e).0) in
        record { fit = fit; worker_in = below; searching = searching }

    pub hands_hold : h ≡ holding (held_by held worker)
    hands_hold = (hands_found fault_found (held_by held worker) h e).1

-- what holds of each refusal in place of two calls, and of the two where they go on, holds of whatever they are answered
pub admitted_both : (m : Machine) (held passages estimates : List ℕ) (P : Answer → Answer → Type 0) (worker : ℕ) (ready : Bool) (call other : Answer)
    → ((refusal : Refusal) → number_of refusal ≤ 11 → P (refused m refusal) (refused m refusal)) → (Admitted m held passages estimates worker → ready ≡ true → P call other)
    → P (admitted m held passages estimates worker ready call) (admitted m held passages estimates worker ready other)
unfolding admitted
admitted_both m held passages estimates P worker ready call other refusal goes =
    provided_both P (fits m held passages estimates) _ _ _ (refusal Unfit (omega arith))
    (λ f. provided_both P (ltb worker m.k) _ _ _ (refusal NoWorker (omega arith))
    (λ l. provided_both P (eqb m.phase 0) _ _ _ (refusal NotSearching (omega arith))
    (λ p. provided_both P ready _ call other (refusal WrongHands (omega arith))
    (λ r. goes (record { fit = f; worker_in = ltb-true worker m.k l; searching = eqb-true m.phase 0 p }) r))))

-- the same of one call
pub admitted_either : (m : Machine) (held passages estimates : List ℕ) (P : Answer → Type 0) (worker : ℕ) (ready : Bool) (call : Answer) → ((refusal : Refusal) → number_of refusal ≤ 11 → P (refused m refusal))
    → (Admitted m held passages estimates worker → ready ≡ true → P call) → P (admitted m held passages estimates worker ready call)
admitted_either m held passages estimates P worker ready call refusal goes = admitted_both m held passages estimates (λ x _. P x) worker ready call call refusal goes

-- one whose worker's hands aren't ready, and one that goes on
module _ (m : Machine) (held passages estimates : List ℕ) (worker : ℕ) (ready : Bool) (call : Answer) where
  pub not_ready : Admitted m held passages estimates worker → ready ≡ false → refused m WrongHands ≡ admitted m held passages estimates worker ready call
  unfolding admitted
  not_ready a r = rw (a.fit, lt-ltb worker m.k a.worker_in, eq-eqb m.phase 0 a.searching, r)

  pub goes_on : Admitted m held passages estimates worker → ready ≡ true → call ≡ admitted m held passages estimates worker ready call
  unfolding admitted
  goes_on a r = rw (a.fit, lt-ltb worker m.k a.worker_in, eq-eqb m.phase 0 a.searching, r)

-- a state that a decision names has a place in the rows
abbrev pub Placed : Decision → Type 0
Placed (Found cost) = Unit {0}
Placed NoPath = Unit {0}
Placed (Deal s) = s < 256
Placed Stuck = Unit {0}
Placed (Wait s) = s < 256

pub placed_by : (d : Decision) → ((s : ℕ) → d ≡ Deal s → s < 256) → ((s : ℕ) → d ≡ Wait s → s < 256) → Placed d
placed_by (Found cost) f g = tt
placed_by NoPath f g = tt
placed_by (Deal s) f g = f s refl
placed_by Stuck f g = tt
placed_by (Wait s) f g = g s refl

pub placed : (goal pull : ℕ) (b : Board) → b.n ≤ 256 → Placed (decision goal pull b)
placed goal pull b l = placed_by (decision goal pull b) (λ s e. omega (arith, deal_in goal pull b s e)) (λ s e. omega (arith, wait_in goal pull b s e))

-- the state s can be brought: far ends are states, label + cost of a passage that isn't blocked fits 32 bits, and the table has each estimate to the goal
pub record Carried (m : Machine) (passages estimates : List ℕ) (s : ℕ) : Type 0 where
  pub few : length passages ≤ 12288
  pub table : WholeTable estimates m.n
  pub goal : m.goal < m.n
  pub state : s < 256
  pub low : label_of m s ≤ 255000000
  pub fars : (i : ℕ) → i < passage_count passages → far passages i < m.n
  pub costs : (i : ℕ) → i < passage_count passages → is_clear passages i ≡ true → cost passages i ≤ 1000000

pub carried : (m : Machine) (held passages estimates : List ℕ) (worker : ℕ) → Fitting m held passages estimates → worker < m.k → (held_by held worker ≡ none → ⊥) → Carried m passages estimates (held_by held worker)
carried m held passages estimates worker f l h =
    let s = worker_holds m.mark held m.n m.k f.workers worker l h in
    record {
      few = f.task.few;
      table = whole (task_of m passages estimates) f.task;
      goal = f.task.goal_in;
      state = omega (arith, s.0, f.task.states);
      low = label_low m.label m.n f.labels (held_by held worker) s.0;
      fars = λ i q. far_in passages m.n f.task.listed i q;
      costs = λ i q k. cost_in passages m.n f.task.listed i q k;
    }

-- the passages of a machine that fits come from places of the rows
pub inside : (m : Machine) (held passages estimates : List ℕ) → Fitting m held passages estimates → Inside passages
inside m held passages estimates f i l = omega (arith, near_in passages m.n f.task.listed i l, f.task.states)

-- one passage leaves the pass as it was, or gives its far end a label
pub apply_either : (P : Swept → Type 0) (passages estimates : List ℕ) (state label i : ℕ) (w : Swept) → P w
    → P (swept (labelled w.machine estimates (far passages i) (label + cost passages i) i) (w.many + 1)) → P (apply_passage passages estimates state label i w)
unfolding apply_passage
apply_either P passages estimates state label i w kept set =
    cond_either P (eqb (near passages i) state && is_clear passages i) _ _
    (cond_either P (lowers (get_or w.machine.mark (far passages i) 0) (label_of w.machine (far passages i)) (label + cost passages i)) _ _ set kept) kept

-- what is read off a machine but its marks, labels, passage numbers and keys, a pass over passages leaves as it was
pub sweep_leaves : {A : Type 0} (read : Machine → A) → ((m : Machine) (estimates : List ℕ) (s sum i : ℕ) → read (labelled m estimates s sum i) ≡ read m) → (m : Machine) (passages estimates : List ℕ) (s : ℕ) → read (sweep_of m passages estimates s).machine ≡ read m
unfolding sweep_of
sweep_leaves read same m passages estimates s =
    fold_keeps (apply_passage passages estimates s (label_of m s)) (λ (w : Swept). read w.machine)
    (λ i w. apply_either (λ (v : Swept). read v.machine ≡ read w.machine) passages estimates s (label_of m s) i w refl (same w.machine estimates (far passages i) (label_of m s + cost passages i) i)) (swept m 0) (passage_count passages)

-- what Bring's loop knows at passage i: the machine and the count are those of the fold so far
pub record Run (m₀ m : Machine) (passages estimates : List ℕ) (s many i : ℕ) : Type 0 where
  pub done : swept m many ≡ fold (apply_passage passages estimates s (label_of m₀ s)) (swept m₀ 0) i
  pub within : i ≤ passage_count passages
  pub counted : many ≤ i

pub run_zero : (m : Machine) (passages estimates : List ℕ) (s : ℕ) → Run m m passages estimates s 0 0
run_zero m passages estimates s = record { done = sym (fold_zero (apply_passage passages estimates s (label_of m s)) _); within = omega arith; counted = omega arith }

run_end : (m₀ m : Machine) (passages estimates : List ℕ) (s many i : ℕ) → Run m₀ m passages estimates s many i → passage_count passages ≤ i → swept m many ≡ sweep_of m₀ passages estimates s
unfolding sweep_of
run_end m₀ m passages estimates s many i r l = let q : i ≡ passage_count passages = omega arith in rw (← q) r.done

-- past the last passage: what the workers hold is as it was, and so the state that was held is finished as Bring says
pub run_brought : (m₀ m : Machine) (passages estimates : List ℕ) (worker s many i : ℕ) → Run m₀ m passages estimates s many i → passage_count passages ≤ i → s ≡ held_by (hands_of m₀) worker
    → finish (hands_of m) worker s (swept m many) ≡ bring_step m₀ (hands_of m₀) passages estimates worker
unfolding bring_step
run_brought m₀ m passages estimates worker s many i r l e =
    ap (λ (w : Swept). finish (hands_of w.machine) worker s w) (run_end m₀ m passages estimates s many i r l)
    ∙ ap (λ (held : List ℕ). finish held worker s (sweep_of m₀ passages estimates s)) (sweep_leaves hands_of (λ _ _ _ _ _. refl) m₀ passages estimates s)
    ∙ ap (λ (x : ℕ). finish (hands_of m₀) worker x (sweep_of m₀ passages estimates x)) e

module _ (m₀ m : Machine) (passages estimates : List ℕ) (s many i : ℕ) (r : Run m₀ m passages estimates s many i) (l : i < passage_count passages) where
  more : (m' : Machine) (many' : ℕ) → many' ≤ many + 1 → swept m' many' ≡ apply_passage passages estimates s (label_of m₀ s) i (swept m many) → Run m₀ m' passages estimates s many' (i + 1)
  more m' many' h e = record {
    done = e ∙ ap (apply_passage passages estimates s (label_of m₀ s) i) r.done ∙ sym (fold_more (apply_passage passages estimates s (label_of m₀ s)) _ i);
    within = omega arith;
    counted = omega (arith, r.counted);
  }

  -- the machine's task is the one that it began with
  run_task : task_of m passages estimates ≡ task_of m₀ passages estimates
  run_task =
      ap (λ (w : Swept). task_of w.machine passages estimates) r.done
      ∙ fold_keeps (apply_passage passages estimates s (label_of m₀ s)) (λ (w : Swept). task_of w.machine passages estimates)
      (λ j w. apply_either (λ (v : Swept). task_of v.machine passages estimates ≡ task_of w.machine passages estimates) passages estimates s (label_of m₀ s) j w refl refl) (swept m₀ 0) i

  -- so that a far end's new label can be set
  pub run_asks : Carried m₀ passages estimates s → (end : ℕ) → end ≡ far passages i → (m₀.n ≡ m.n) × (m.goal < m.n) × (end < m.n) × (i < 65536)
  run_asks k end e = subst⁻¹ (λ (t : Task). (m₀.n ≡ t.n) × (t.goal < t.n) × (end < t.n) × (i < 65536)) run_task (refl, k.goal, rw e (k.fars i l), omega (arith, k.few))

  -- the passage is another state's
  pub run_skip : (near passages i ≡ s → ⊥) → Run m₀ m passages estimates s many (i + 1)
  unfolding apply_passage
  run_skip n = more m many (omega arith) (rw (ne_eqb (near passages i) s n))

  -- the passage is the held state's: it is blocked, or else its far end keeps its label, or gets the sum
  module _ (e : near passages i ≡ s) where
    pub run_blocked : is_clear passages i ≡ false → Run m₀ m passages estimates s many (i + 1)
    unfolding apply_passage
    run_blocked k = more m many (omega arith) (rw (eq-eqb (near passages i) s e, k))

    module _ (k : is_clear passages i ≡ true) (end sum : ℕ) (et : end ≡ far passages i) (es : sum ≡ label_of m₀ s + cost passages i)
        (lowered : Bool) (h : lowered ≡ lowers (mark_of m end) (label_of m end) sum)
        (m' : Machine) (q : m' ≡ cond (lowers (mark_of m end) (label_of m end) sum) (labelled m estimates end sum i) m) where
      pub run_kept : lowered ≡ false → Run m₀ m' passages estimates s many (i + 1)
      unfolding apply_passage
      run_kept z = more m' many (omega arith) (rw (eq-eqb (near passages i) s e, k, ← et, ← es, q, ← h, z))

      pub run_set : lowered ≡ true → Run m₀ m' passages estimates s (many + 1) (i + 1)
      unfolding apply_passage
      run_set z = more m' (many + 1) (omega arith) (rw (eq-eqb (near passages i) s e, k, ← et, ← es, q, ← h, z))

-- path reading, by what it finds
module _ (m : Machine) (passages estimates buffer : List ℕ) (at : ℕ) where
  -- what holds of every refusal, which is never 12, and of a path that the buffer has room for, holds of whatever is read
  pub path_either : (P : PathReading → Type 0) → ((refusal : Refusal) → (refusal ≡ NothingOut → ⊥) → P (path_refused m buffer refusal))
      → ((length (path (trail_of m passages)) ≡ 0 → ⊥) → length (path (trail_of m passages)) ≤ length buffer - at
      → P (record { given = answer m (Read (length (path (trail_of m passages)))); buffer = overlaid at (path (trail_of m passages)) buffer }))
      → P (path_of m passages estimates buffer at)
  unfolding path_of
  path_either P refusal reads =
      provided_either P (fits m (hands_of m) passages estimates) _ _ (refusal Unfit (λ q. cc))
      (λ _. provided_either P (eqb m.phase 1) _ _ (refusal NotFound (λ q. cc))
      (λ _. provided_either P (not (eqb (length (path (trail_of m passages))) 0)) _ _ (refusal BrokenTrail (λ q. cc))
      (λ some. provided_either P (leb (length (path (trail_of m passages))) (length buffer - at)) _ _ (refusal ShortBuffer (λ q. cc))
      (λ room. reads (eqb-false _ 0 (not-true _ some)) (leb-true _ _ room)))))

  pub path_unfit : fits m (hands_of m) passages estimates ≡ false → path_of m passages estimates buffer at ≡ path_refused m buffer Unfit
  unfolding path_of
  path_unfit f = rw f

  module _ (f : fits m (hands_of m) passages estimates ≡ true) where
    pub path_early : (m.phase ≡ 1 → ⊥) → path_of m passages estimates buffer at ≡ path_refused m buffer NotFound
    unfolding path_of
    path_early p = rw (f, ne_eqb m.phase 1 p)

    module _ (p : m.phase ≡ 1) (many : ℕ) (q : many ≡ length (path (trail_of m passages))) where
      pub path_broken : many ≡ 0 → path_of m passages estimates buffer at ≡ path_refused m buffer BrokenTrail
      unfolding path_of
      path_broken z = rw (f, eq-eqb m.phase 1 p, ← q, eq-eqb many 0 z)

      module _ (z : many ≡ 0 → ⊥) where
        pub path_short : length buffer - at < many → path_of m passages estimates buffer at ≡ path_refused m buffer ShortBuffer
        unfolding path_of
        path_short l = rw (f, eq-eqb m.phase 1 p, ← q, ne_eqb many 0 z, lt-leb many (length buffer - at) l)

        pub path_read : many ≤ length buffer - at
            → path_of m passages estimates buffer at ≡ record { given = answer m (Read many); buffer = overlaid at (path (trail_of m passages)) buffer }
        unfolding path_of
        path_read l = rw (f, eq-eqb m.phase 1 p, ← q, ne_eqb many 0 z, le-leb many (length buffer - at) l)

        goal_in : m.goal < 256
        goal_in = let h = fitting m (hands_of m) passages estimates f in omega (arith, h.task.goal_in, h.task.states)

        -- the path can be followed and written
        pub path_way : Followed passages m.via many m.goal
        path_way = rw q (path_followed (trail_of m passages) (inside m (hands_of m) passages estimates (fitting m (hands_of m) passages estimates f)) goal_in (λ e. z (q ∙ e)))

        -- the part that was lent for the path, written and back in the buffer
        pub path_written : (part : List ℕ) → part ≡ states_back passages m.via many m.goal [] ++ drop many (mid_of at (length buffer - at) buffer)
            → put_mid at (length buffer - at) buffer part ≡ overlaid at (path (trail_of m passages)) buffer
        path_written part e =
            rw (e, q, ← path_states (trail_of m passages) (inside m (hands_of m) passages estimates (fitting m (hands_of m) passages estimates f)) goal_in (λ e. z (q ∙ e)))
            (put_overlaid at buffer (path (trail_of m passages)))
