-- Order 8, the stored keys: on a machine that fits they are the keys that Take goes by, and what a call makes of such a machine has right keys too, so that several calls look at them once.
use Rattle.std.specs.Prelude.{◌≡◌, Bool, true, is_ok, Result, Ok, Err, ℕ, ◌+◌, ◌≤◌, ◌<◌, length, get_or, set, replicate}
use Rattle.std.proofs.Math.Path.{refl, subst⁻¹}
use Rattle.std.proofs.Common.{sym, ap, ◌∙◌, get_or-set_same}
use mathlib.Core.List.{List, [], ◌∷◌}
use Rattle.std.proofs.Math.Decide.{ℕ_discrete}
use native.Mathlib.Omega.{arith}
use Rattle.std.proofs.Math.ListN.{length-set}
use Rattle.std.proofs.lemmas.List.{length-replicate, get_or-replicate}
use Rattle.std.proofs.Math.Seq.{get_or-set_other}
use borrow.Author.Tests.{eqb-true, eqb-false, eq-eqb, ne_eqb, not-true}
use Rattle.laws.specs.Truth.{and_left, and_both}
use Rattle.laws.specs.All.{all_at, all_of}
use Rattle.laws.specs.Fold.{fold_stays}
use Rattle.rule.specs.Task.{passage_count, far, cost, estimate}
use Rattle.rule.specs.Marks.{unseen, waiting, out, finished, none}
use Rattle.rule.specs.Rule.{key_of, stored_key}
use Rattle.rule.specs.declared.refusals.Refusal.{Refusal}
use Rattle.rule.specs.declared.refusals.Refusal.TheVariants.{BadSizes, BadEnds, BadWeights, BadPassage, BadEstimate, AbovePassage, AboveDetour, Unfit, NoWorker, NotSearching, WrongHands, NothingOut, NotFound, BrokenTrail, ShortBuffer, ShortRow, NoEvent}
use Rattle.rule.specs.Refusals.{number_of}
use Rattle.checks.specs.Opening.{Task, early_fault, fault}
use Rattle.checks.specs.Fits.{key_right, keys_right}
use Rattle.checks.specs.Laws.{right, fault_none, far_in, worker_holds}
use Rattle.dealing.specs.declared.Decision.{Decision}
use Rattle.dealing.specs.declared.Decision.TheVariants.{Found as FoundAt, NoPath as NoPathLeft, Deal, Stuck, Wait as WaitOn}
use Rattle.dealing.specs.Board.{key}
use Rattle.dealing.specs.Decision.{decision}
use Rattle.dealing.specs.Laws.{Keyed, safe_is_open, deal_in, deal_safe}
use Rattle.desk.specs.declared.Machine.{Machine}
use Rattle.desk.specs.declared.Answer.{Answer}
use Rattle.desk.specs.Machine.{with_mark, with_hands, hands_of, held_by, mark_of, label_of, task_of, board_of}
use Rattle.desk.specs.Reply.{refusal_of}
use Rattle.desk.specs.Fits.{task_fits, keys_fit, is_sound, fits}
use Rattle.desk.specs.Opening.{opened_machine, opened, opening_of}
use Rattle.desk.specs.Take.{dealt, act, take_step, take_of}
use Rattle.desk.specs.Bring.{Swept, swept, labelled, apply_passage, sweep_of, bring_step, bring_of}
use Rattle.desk.specs.declared.Event.{Event}
use Rattle.desk.specs.declared.Event.TheVariants.{Take, Bring}
use Rattle.desk.specs.Calls.{call, after, answers}
use Rattle.desk.specs.Laws.{start_in, Sized, Fitting, fitting, admitted_either, apply_either, sweep_leaves}

-- a state that isn't unseen has its key stored
pub stored_seen : (mark label pull h : ℕ) → (mark ≡ unseen → ⊥) → stored_key mark label pull h ≡ key_of label pull h
stored_seen mark label pull h z = rw (ne_eqb mark unseen z)

module _ (estimates : List ℕ) where
  -- what is stored for s is right
  abbrev pub KeyAt : Machine → ℕ → Type 0
  KeyAt m s = get_or m.key s 0 ≡ stored_key (mark_of m s) (label_of m s) m.pull (estimate estimates m.n s m.goal)

  pub key_at_lem : (m : Machine) → keys_fit m estimates ≡ true → (s : ℕ) → s < m.n → KeyAt m s
  unfolding keys_right
  key_at_lem m e s l = eqb-true _ _ (all_at (key_right m.mark m.label m.key estimates m.n m.goal m.pull) m.n s e l)

  pub keys_of : (m : Machine) → ((s : ℕ) → s < m.n → KeyAt m s) → keys_fit m estimates ≡ true
  unfolding keys_right
  keys_of m f = all_of (key_right m.mark m.label m.key estimates m.n m.goal m.pull) m.n (λ s l. eq-eqb _ _ (f s l))

  -- so the stored keys of a machine that fits are those that Take goes by
  pub keyed : (m : Machine) (held passages : List ℕ) → Fitting m held passages estimates → Keyed m.goal m.pull (board_of m estimates) m.key
  unfolding key
  keyed m held passages f = record {
    at = λ s l o. key_at_lem m f.keys s l ∙ stored_seen (mark_of m s) (label_of m s) m.pull _ (λ z. omega (arith, eqb-true (mark_of m s) waiting o));
  }

  -- a state's mark changes, and isn't unseen before or after
  keys_marked : (m : Machine) (s k : ℕ) → s < length m.mark → (mark_of m s ≡ unseen → ⊥) → (k ≡ unseen → ⊥) → keys_fit m estimates ≡ true → keys_fit (with_mark m s k) estimates ≡ true
  keys_marked m s k l z w e = keys_of (with_mark m s k) (λ x j. go x j (ℕ_discrete x s))
    where
      go : (x : ℕ) → x < m.n → Dec (x ≡ s) → KeyAt (with_mark m s k) x
      go x j (yes q) =
          key_at_lem m e x j ∙ stored_seen (mark_of m x) (label_of m x) m.pull _ (λ y. z (ap (mark_of m) (sym q) ∙ y))
          ∙ sym (stored_seen (mark_of (with_mark m s k) x) (label_of m x) m.pull _ (λ y. w (sym (get_or-set_same m.mark s k 0 l) ∙ ap (mark_of (with_mark m s k)) (sym q) ∙ y)))
      go x j (no q) = key_at_lem m e x j ∙ ap (λ (y : ℕ). stored_key y (label_of m x) m.pull (estimate estimates m.n x m.goal)) (sym (get_or-set_other m.mark s x k 0 q))

  -- a state gets a label, and its key with it
  module _ (m : Machine) (z : Sized m) (s sum i : ℕ) (l : s < 256) where
    sized_labelled : Sized (labelled m estimates s sum i)
    sized_labelled = record {
      marks = length-set m.mark s waiting ∙ z.marks;
      labels = length-set m.label s sum ∙ z.labels;
      vias = length-set m.via s i ∙ z.vias;
      workers = z.workers;
      keys = length-set m.key s _ ∙ z.keys;
    }

    keys_labelled : keys_fit m estimates ≡ true → keys_fit (labelled m estimates s sum i) estimates ≡ true
    keys_labelled e = keys_of (labelled m estimates s sum i) (λ x j. go x j (ℕ_discrete x s))
      where
        own : KeyAt (labelled m estimates s sum i) s
        own = get_or-set_same m.key s _ 0 (omega (arith, z.keys)) ∙ sym (rw (get_or-set_same m.mark s waiting 0 (omega (arith, z.marks)), get_or-set_same m.label s sum 0 (omega (arith, z.labels))))

        go : (x : ℕ) → x < m.n → Dec (x ≡ s) → KeyAt (labelled m estimates s sum i) x
        go x j (yes q) = subst⁻¹ (KeyAt (labelled m estimates s sum i)) q own
        go x j (no q) = rw (get_or-set_other m.key s x _ 0 q, get_or-set_other m.mark s x waiting 0 q, get_or-set_other m.label s x sum 0 q) (key_at_lem m e x j)

    seen_labelled : (p : ℕ) → (mark_of m p ≡ unseen → ⊥) → mark_of (labelled m estimates s sum i) p ≡ unseen → ⊥
    seen_labelled p y q = go (ℕ_discrete p s)
      where
        go : Dec (p ≡ s) → ⊥
        go (yes r) = omega (arith, sym (get_or-set_same m.mark s waiting 0 (omega (arith, z.marks))) ∙ ap (mark_of (labelled m estimates s sum i)) (sym r) ∙ q)
        go (no r) = y (sym (get_or-set_other m.mark s p waiting 0 r) ∙ q)

  -- what stays through a pass over the passages of p: the rows' lengths, right keys, that p isn't unseen, and the keys past n
  record Kept (n : ℕ) (keys : List ℕ) (p : ℕ) (m : Machine) : Type 0 where
    sized : Sized m
    right : keys_fit m estimates ≡ true
    seen : mark_of m p ≡ unseen → ⊥
    past : (s : ℕ) → n ≤ s → get_or m.key s 0 ≡ get_or keys s 0

  sweep_kept : (passages : List ℕ) (n : ℕ) (keys : List ℕ) (p : ℕ) (m : Machine) → n ≤ 256 → ((i : ℕ) → i < passage_count passages → far passages i < n) → Kept n keys p m
      → Kept n keys p (sweep_of m passages estimates p).machine
  unfolding sweep_of
  sweep_kept passages n keys p m few inside w =
      fold_stays (apply_passage passages estimates p (label_of m p)) (λ (v : Swept). Kept n keys p v.machine) (swept m 0) (passage_count passages)
      (λ i v l k. apply_either (λ (u : Swept). Kept n keys p u.machine) passages estimates p (label_of m p) i v k (set_kept v.machine (far passages i) (label_of m p + cost passages i) i (inside i l) k)) w
    where
      set_kept : (x : Machine) (s sum i : ℕ) → s < n → Kept n keys p x → Kept n keys p (labelled x estimates s sum i)
      set_kept x s sum i l k =
          let low : s < 256 = omega arith in
          record {
            sized = sized_labelled x k.sized s sum i low;
            right = keys_labelled x k.sized s sum i low k.right;
            seen = seen_labelled x k.sized s sum i low p k.seen;
            past = λ y h. get_or-set_other x.key s y _ 0 (λ q. omega arith) ∙ k.past y h;
          }

-- what a call makes of m: the rows are as long as before, it is sound where m was, and past n the keys stay
pub record Stays (passages estimates : List ℕ) (m x : Machine) : Type 0 where
  pub sized : Sized x
  pub sound : is_sound x passages estimates ≡ is_sound m passages estimates
  pub past : (s : ℕ) → m.n ≤ s → get_or x.key s 0 ≡ get_or m.key s 0

module _ (passages estimates : List ℕ) where
  sound_by : (m x : Machine) → task_of x passages estimates ≡ task_of m passages estimates → keys_fit x estimates ≡ true → is_sound m passages estimates ≡ true → is_sound x passages estimates ≡ is_sound m passages estimates
  sound_by m x t k s = and_both (ap (λ (y : Task). is_ok (early_fault y)) t ∙ and_left _ (keys_fit m estimates) s) k ∙ sym s

  -- a machine that fits is sound
  pub fits_sound : (m : Machine) (held : List ℕ) → fits m held passages estimates ≡ true → is_sound m passages estimates ≡ true
  unfolding fits
  fits_sound m held e = and_left _ _ e

  -- a machine that comes back as it went in
  unchanged : (m : Machine) → Sized m → Stays passages estimates m m
  unchanged m z = record { sized = z; sound = refl; past = λ _ _. refl }

  take_stays : (m : Machine) (worker : ℕ) → Sized m → Fitting m (hands_of m) passages estimates → is_sound m passages estimates ≡ true → (d : Decision) → decision m.goal m.pull (board_of m estimates) ≡ d
      → Stays passages estimates m (act m (hands_of m) worker d).machine
  take_stays m worker z f s (FoundAt c) e = record { sized = record { marks = z.marks; labels = z.labels; vias = z.vias; workers = z.workers; keys = z.keys }; sound = refl; past = λ _ _. refl }
  take_stays m worker z f s NoPathLeft e = record { sized = record { marks = z.marks; labels = z.labels; vias = z.vias; workers = z.workers; keys = z.keys }; sound = refl; past = λ _ _. refl }
  take_stays m worker z f s Stuck e = unchanged m z
  take_stays m worker z f s (WaitOn t) e = unchanged m z
  take_stays m worker z f s (Deal t) e =
      let b = board_of m estimates in
      let inside : t < m.n = deal_in m.goal m.pull b t e in
      let is : mark_of m t ≡ waiting = safe_is_open b t (deal_safe m.goal m.pull b t e) in
      record {
        sized = record { marks = length-set m.mark t out ∙ z.marks; labels = z.labels; vias = z.vias; workers = length-set m.held worker t ∙ z.workers; keys = z.keys };
        sound = sound_by m (dealt m (hands_of m) worker t) refl (keys_marked estimates m t out (omega (arith, z.marks, f.task.states)) (λ q. omega arith) (λ q. omega arith) f.keys) s;
        past = λ _ _. refl;
      }

  bring_stays : (m : Machine) (worker : ℕ) → Sized m → Fitting m (hands_of m) passages estimates → is_sound m passages estimates ≡ true → worker < m.k → (held_by (hands_of m) worker ≡ none → ⊥)
      → Stays passages estimates m (bring_step m (hands_of m) passages estimates worker).machine
  unfolding bring_step
  bring_stays m worker z f s l h =
      let p = held_by (hands_of m) worker in
      let held = worker_holds m.mark (hands_of m) m.n m.k f.workers worker l h in
      let is : mark_of m p ≡ out = eqb-true (mark_of m p) out held.1 in
      let k = sweep_kept estimates passages m.n m.key p m f.task.states (λ i j. far_in passages m.n f.task.listed i j) (record { sized = z; right = f.keys; seen = λ q. omega arith; past = λ _ _. refl }) in
      let x : Machine = (sweep_of m passages estimates p).machine in
      record {
        sized = record { marks = length-set x.mark p finished ∙ k.sized.marks; labels = k.sized.labels; vias = k.sized.vias; workers = length-set m.held worker none ∙ z.workers; keys = k.sized.keys };
        sound = sound_by m (with_hands (with_mark x p finished) (set (hands_of m) worker none)) (sweep_leaves (λ (y : Machine). task_of y passages estimates) (λ _ _ _ _ _. refl) m passages estimates p)
            (keys_marked estimates x p finished (omega (arith, k.sized.marks, held.0, f.task.states)) k.seen (λ q. omega arith) k.right) s;
        past = k.past;
      }

  pub call_stays : (m : Machine) (e : Event) → Sized m → Stays passages estimates m (call passages estimates m e).machine
  unfolding take_of take_step bring_of
  call_stays m (Take worker) z =
      admitted_either m (hands_of m) passages estimates (λ a. Stays passages estimates m a.machine) worker _ _ (λ _ _. unchanged m z)
      (λ a _. take_stays m worker z (fitting m (hands_of m) passages estimates a.fit) (fits_sound m (hands_of m) a.fit) (decision m.goal m.pull (board_of m estimates)) refl)
  call_stays m (Bring worker) z =
      admitted_either m (hands_of m) passages estimates (λ a. Stays passages estimates m a.machine) worker _ _ (λ _ _. unchanged m z)
      (λ a r. bring_stays m worker z (fitting m (hands_of m) passages estimates a.fit) (fits_sound m (hands_of m) a.fit) a.worker_in (eqb-false _ none (not-true _ r)))

  after_stays : (m : Machine) (es : List Event) → Sized m → is_sound (after passages estimates m es) passages estimates ≡ is_sound m passages estimates
  unfolding after answers
  after_stays m [] z = refl
  after_stays m (e ∷ es) z = let w = call_stays m e z in after_stays (call passages estimates m e).machine es w.sized ∙ w.sound

  -- so that whether a machine is sound is looked at once for all of them
  pub after_sound : (sound : Bool) (m₀ m : Machine) (es : List Event) → Sized m₀ → sound ≡ is_sound m₀ passages estimates → m ≡ after passages estimates m₀ es → sound ≡ is_sound m passages estimates
  after_sound sound m₀ m es z s e = s ∙ sym (after_stays m₀ es z) ∙ ap (λ (x : Machine). is_sound x passages estimates) (sym e)

-- no refusal has the number 0
pub number_above : (refusal : Refusal) → 0 < number_of refusal
number_above BadSizes = omega arith
number_above BadEnds = omega arith
number_above BadWeights = omega arith
number_above BadPassage = omega arith
number_above BadEstimate = omega arith
number_above AbovePassage = omega arith
number_above AboveDetour = omega arith
number_above Unfit = omega arith
number_above NoWorker = omega arith
number_above NotSearching = omega arith
number_above WrongHands = omega arith
number_above NothingOut = omega arith
number_above NotFound = omega arith
number_above BrokenTrail = omega arith
number_above ShortBuffer = omega arith
number_above ShortRow = omega arith
number_above NoEvent = omega arith

-- the machine that an accepted task starts with: the start has its key, every other state and place 0
pub opened_keys : (t : Task) → fault t ≡ Ok tt → keys_fit (opened_machine t) t.estimates ≡ true
unfolding opened_machine
opened_keys t e = keys_of t.estimates (opened_machine t) (λ s l. go s l (ℕ_discrete s t.start))
  where
    first : t.start < 256
    first = start_in t e

    long : (v : ℕ) → t.start < length (replicate 256 v)
    long v = omega (arith, first, length-replicate {A = ℕ} 256 v)

    own : KeyAt t.estimates (opened_machine t) t.start
    own =
        get_or-set_same {A = ℕ} (replicate 256 0) t.start _ 0 (long 0)
        ∙ sym (rw (get_or-set_same {A = ℕ} (replicate 256 unseen) t.start waiting 0 (long unseen), get_or-replicate {A = ℕ} 256 t.start 0 0 first))

    go : (s : ℕ) → s < t.n → Dec (s ≡ t.start) → KeyAt t.estimates (opened_machine t) s
    go s l (yes q) = subst⁻¹ (KeyAt t.estimates (opened_machine t)) q own
    go s l (no q) =
        let inside : s < 256 = omega (arith, (right t (fault_none t e)).states) in
        rw (get_or-set_other {A = ℕ} (replicate 256 0) t.start s _ 0 q, get_or-set_other {A = ℕ} (replicate 256 unseen) t.start s waiting 0 q, get_or-replicate {A = ℕ} 256 s unseen 0 inside)

opened_fits : (t : Task) → fault t ≡ Ok tt → task_fits (opened_machine t) t.passages t.estimates ≡ true
unfolding opened_machine
opened_fits t e = ap is_ok (fault_none t e)

-- and so it is sound
pub opened_sound : (t : Task) (a : Answer) → a ≡ opening_of t → refusal_of a.reply ≡ 0 → is_sound a.machine t.passages t.estimates ≡ true
unfolding opening_of
opened_sound t a e = subst⁻¹ Sound e (go (fault t) refl)
  where
    Sound : Answer → Type 0
    Sound x = refusal_of x.reply ≡ 0 → is_sound x.machine t.passages t.estimates ≡ true

    go : (r : Result (Unit {0}) Refusal) → fault t ≡ r → Sound (opened t r)
    go (Ok u) q z = and_both (opened_fits t q) (opened_keys t q)
    go (Err refusal) q z = absurd (omega (arith, z, number_above refusal))
