-- The laws about depends_on, safe, key, choice and decision that the loops and the callers use.
use Rattle.std.specs.Prelude.{◌≡◌, refl, Bool, ◌&&◌, Option, Some, None, List, ℕ, ◌+◌, ◌*◌, ◌≤◌, ◌<◌, ltb, eqb, get_or}
use Rattle.std.proofs.Common.{sym, ◌∙◌, true≢false, eq-or-lt_of_le, arith}
use Rattle.std.proofs.Math.Bool.{true, false, cond, not}
use Rattle.std.proofs.Math.Logic.{⊎_elim}
use borrow.Author.Tests.{eq-eqb, ne_eqb, eqb-true, eqb-false, ltb-true, ltb-false, leb-false, lt-ltb, le-ltb, not-true, not-false}
use Rattle.laws.specs.Truth.{and_left, and_right, and_false}
use Rattle.laws.specs.First.{first, first_found, first_at, first_end, first_le, any_not, any_of}
use Rattle.laws.specs.Least.{best_zero, best_end, least_passes, least_below, least_nothing}
use Rattle.rule.specs.Marks.{waiting, out, is_open, is_live}
use Rattle.rule.specs.Rule.{independent, holds_back}
use Rattle.rule.specs.Laws.{independent_is}
use Rattle.dealing.specs.declared.Choice.{Choice}
use Rattle.dealing.specs.declared.Choice.TheVariants.{Safe, Stopped, NoneOpen}
use Rattle.dealing.specs.declared.Decision.TheVariants.{Found, NoPath, Deal, Stuck, Wait}
use Rattle.std.specs.Option.{is_some}
use Rattle.laws.specs.Chains.{below}
use Rattle.dealing.specs.Places.{some_says, none_says, leads_at, wins, Leader, leader_none, leader_skip, leader_lost, leader_won}
use Rattle.dealing.specs.Board.{Board, mark_at, label_at, h, depends_on, first_dependence, safe, key, choice, foremost, any_open, any_out, first_marked}
use Rattle.dealing.specs.Decision.{waited_for, decision}

-- what going through the open states comes to: the safe one that is dealt; or none is safe, and the test of the smallest-key one stopped at a state; or nothing is open
unfoldable pub choose : ℕ → ℕ → Board → Choice
choose goal pull b =
    cond (ltb (choice goal pull b) b.n) (Safe (choice goal pull b))
    (cond (any_open b) (Stopped (first_dependence b (foremost goal pull b)))
    NoneOpen)

-- whether s depends on t, where the test's estimate g stands in a local
module _ (b : Board) (s t : ℕ) where
  pub depends_self : t ≡ s → depends_on b s t ≡ false
  unfolding depends_on
  depends_self e = rw (eq-eqb t s e)

  pub depends_dead : is_live (mark_at b t) ≡ false → depends_on b s t ≡ false
  unfolding depends_on holds_back
  depends_dead d = rw d (and_false (not (eqb t s)))

  -- what dependence on t says: t is another state, live, and its label with E × h(t,s) stays behind that of s
  module _ (e : depends_on b s t ≡ true) where
    pub depends_apart : t ≡ s → ⊥
    unfolding depends_on
    depends_apart = eqb-false t s (not-true (eqb t s) (and_left _ _ e))

    pub depends_live : is_live (mark_at b t) ≡ true
    unfolding depends_on holds_back
    depends_live = and_left _ _ (and_right (not (eqb t s)) _ e)

    pub depends_behind : 100 * label_at b t + b.excess * h b t s < 100 * label_at b s
    unfolding depends_on holds_back
    depends_behind =
        let n = not-true (independent (label_at b s) (label_at b t) b.excess (h b t s)) (and_right (is_live (mark_at b t)) _ (and_right (not (eqb t s)) _ e)) in
        leb-false (100 * label_at b s) (100 * label_at b t + b.excess * h b t s) (rw (independent_is (label_at b s) (label_at b t) b.excess (h b t s)) at n)

-- when s is safe
module _ (b : Board) (s : ℕ) where
  pub safe_open : mark_at b s ≡ waiting → first_dependence b s ≡ b.n → safe b s ≡ true
  unfolding safe
  safe_open o e = rw (eq-eqb (mark_at b s) waiting o, eq-eqb (first_dependence b s) b.n e)

  pub safe_is_open : safe b s ≡ true → mark_at b s ≡ waiting
  unfolding safe
  safe_is_open e = eqb-true (mark_at b s) waiting (and_left _ _ e)

  pub safe_shut : (mark_at b s ≡ waiting → ⊥) → safe b s ≡ false
  unfolding safe
  safe_shut n = rw (ne_eqb (mark_at b s) waiting n)

  pub safe_dependent : (first_dependence b s ≡ b.n → ⊥) → safe b s ≡ false
  unfolding safe
  safe_dependent n = rw (ne_eqb (first_dependence b s) b.n n) (and_false (is_open (mark_at b s)))

  -- the two ends of the comparisons, at t
  pub safe_stopped : (t : ℕ) → first (depends_on b s) t ≡ t → depends_on b s t ≡ true → t < b.n → safe b s ≡ false
  unfolding first_dependence
  safe_stopped t e d l = safe_dependent (rw (first_found (depends_on b s) t b.n e d l) (λ q. omega arith))

  pub safe_passed : (t : ℕ) → mark_at b s ≡ waiting → first (depends_on b s) t ≡ t → t ≤ b.n → b.n ≤ t → safe b s ≡ true
  unfolding first_dependence
  safe_passed t o e l g = safe_open o (sym (first_end (depends_on b s) t b.n e l g))

-- whether an open state is safe, by the state o that it depends on first
pub safe_none : (b : Board) (s : ℕ) (r : Bool) (o : Option ℕ) → mark_at b s ≡ waiting → o ≡ below b.n (first_dependence b s) → is_some o ≡ not r → r ≡ safe b s
unfolding first_dependence
safe_none b s false None w e q = absurd (true≢false (sym q))
safe_none b s true None w e q = sym (safe_open b s w (omega (arith, none_says b.n (first_dependence b s) e, first_le (depends_on b s) b.n)))
safe_none b s false (Some i) w e q = sym (safe_dependent b s (λ z. omega (arith, some_says b.n (first_dependence b s) i e)))
safe_none b s true (Some i) w e q = absurd (true≢false q)

-- whether something is out, by the first state r with the mark
pub out_by : (b : Board) (r : ℕ) → r ≡ first_marked b.mark b.n out → any_out b ≡ ltb r b.n
unfolding any_out first_marked
out_by b r e = rw e

pub out_none : (b : Board) → None ≡ below b.n (first_marked b.mark b.n out) → any_out b ≡ false
out_none b u = out_by b _ refl ∙ le-ltb (first_marked b.mark b.n out) b.n (none_says _ _ u)

pub out_some : (b : Board) (r : ℕ) → Some r ≡ below b.n (first_marked b.mark b.n out) → (any_out b ≡ true) × (r ≡ first_marked b.mark b.n out) × (r < b.n)
out_some b r u =
    let w = some_says b.n (first_marked b.mark b.n out) r u in
    (out_by b _ refl ∙ lt-ltb (first_marked b.mark b.n out) b.n w.1, w.0, rw w.0 w.1)

-- a row has the keys of the open states, which are the ones that are looked at
pub record Keyed (goal pull : ℕ) (b : Board) (row : List ℕ) : Type 0 where
  pub at : (s : ℕ) → s < b.n → is_open (mark_at b s) ≡ true → get_or row s 0 ≡ key goal pull b s

-- something is open or out: the second step isn't taken
pub busy_open : (b : Board) → any_open b ≡ true → (not (any_open b) && not (any_out b)) ≡ false
busy_open b e = rw e

pub busy_out : (b : Board) → any_out b ≡ true → (not (any_open b) && not (any_out b)) ≡ false
busy_out b e = rw e (and_false (not (any_open b)))

-- what the choice and the foremost open state say of the board
module _ (goal pull : ℕ) (b : Board) where
  pub choice_safe : choice goal pull b < b.n → safe b (choice goal pull b) ≡ true
  unfolding choice
  choice_safe l = least_passes (safe b) (key goal pull b) b.n b.n (λ e. omega arith)

  pub choice_open : choice goal pull b < b.n → any_open b ≡ true
  unfolding any_open
  choice_open l = any_of _ b.n (choice goal pull b) l (eq-eqb _ waiting (safe_is_open b (choice goal pull b) (choice_safe l)))

  pub choice_none : b.n ≤ choice goal pull b → (s : ℕ) → s < b.n → safe b s ≡ false
  unfolding choice
  choice_none = least_nothing (safe b) (key goal pull b) b.n b.n (omega arith)

  pub foremost_in : (foremost goal pull b ≡ b.n → ⊥) → foremost goal pull b < b.n
  unfolding foremost
  foremost_in = least_below _ (key goal pull b) b.n b.n (omega arith)

  pub foremost_open : (foremost goal pull b ≡ b.n → ⊥) → mark_at b (foremost goal pull b) ≡ waiting
  unfolding foremost
  foremost_open z = eqb-true (mark_at b (foremost goal pull b)) waiting (least_passes _ (key goal pull b) b.n b.n z)

  pub foremost_some : (foremost goal pull b ≡ b.n → ⊥) → any_open b ≡ true
  unfolding any_open
  foremost_some z = any_of _ b.n (foremost goal pull b) (foremost_in z) (eq-eqb _ waiting (foremost_open z))

  pub foremost_none : b.n ≤ foremost goal pull b → any_open b ≡ false
  unfolding any_open foremost
  foremost_none l = any_not _ b.n (least_nothing _ (key goal pull b) b.n b.n (omega arith) l)

  pub foremost_any : any_open b ≡ true → foremost goal pull b ≡ b.n → ⊥
  foremost_any o q = true≢false (sym o ∙ foremost_none (omega arith))

  -- where nothing is safe, its test stops at a state
  pub foremost_held : (foremost goal pull b ≡ b.n → ⊥) → ((s : ℕ) → s < b.n → safe b s ≡ false) → first_dependence b (foremost goal pull b) < b.n
  unfolding first_dependence
  foremost_held z f =
      ⊎_elim (λ q. absurd (true≢false (sym (safe_open b (foremost goal pull b) (foremost_open z) q) ∙ f (foremost goal pull b) (foremost_in z)))) (λ l. l)
      (eq-or-lt_of_le (first_le (depends_on b (foremost goal pull b)) b.n))

-- where the test of the one that leads stops, with the key of that one
abbrev pub stops : Board → Option (ℕ × ℕ) → Option (ℕ × ℕ)
stops b None = None
stops b (Some p) = Some (first_dependence b p.0, p.1)

wins_stops : (b : Board) (k : ℕ) (f : Option (ℕ × ℕ)) → wins k (stops b f) ≡ wins k f
wins_stops b k None = refl
wins_stops b k (Some p) = refl

-- what the loop over the candidates knows at next: best leads the safe states below it; and as long as none is safe, `first` leads the open ones, and front says where its test stopped
pub record Leads (goal pull : ℕ) (b : Board) (next : ℕ) (best front : Option (ℕ × ℕ)) : Type 0 where
  pub safest : Leader (safe b) (key goal pull b) b.n next best
  pub first : Option (ℕ × ℕ)
  pub soonest : best ≡ None → Leader (λ s. is_open (mark_at b s)) (key goal pull b) b.n next first
  pub stopped : best ≡ None → front ≡ stops b first

some_none : {A : Type 0} (x : A) → Some x ≡ None → ⊥
some_none x e = let z : ◌≡◌ {A = ℕ} 0 1 = cc in omega arith

pub leads_zero : (goal pull : ℕ) (b : Board) → Leads goal pull b 0 None None
leads_zero goal pull b = record {
  safest = leader_none _ _ _ 0 (best_zero _ _ _ 0);
  first = None;
  soonest = λ _. leader_none _ _ _ 0 (best_zero _ _ _ 0);
  stopped = λ _. refl;
}

-- the ways on from a candidate s
module _ (goal pull : ℕ) (b : Board) (s : ℕ) (best front : Option (ℕ × ℕ)) (c : Leads goal pull b s best front) where
  -- s isn't open
  pub leads_shut : (mark_at b s ≡ waiting → ⊥) → Leads goal pull b (s + 1) best front
  leads_shut z = record {
    safest = leader_skip _ _ _ s _ c.safest (safe_shut b s z);
    first = c.first;
    soonest = λ e. leader_skip _ _ _ s _ (c.soonest e) (ne_eqb (mark_at b s) waiting z);
    stopped = c.stopped;
  }

  -- a safe state leads, and the key of s isn't smaller
  pub leads_lost : wins (key goal pull b s) best ≡ false → Leads goal pull b (s + 1) best front
  leads_lost l = record {
    safest = leader_lost _ _ _ s _ c.safest l;
    first = c.first;
    soonest = λ e. absurd (true≢false (rw e at l));
    stopped = c.stopped;
  }

  -- the test of s stops at t
  module _ (t : ℕ) (e : first (depends_on b s) t ≡ t) (d : depends_on b s t ≡ true) (l : t < b.n) where
    -- an open state leads, and the key of s isn't smaller
    pub leads_behind : wins (key goal pull b s) front ≡ false → Leads goal pull b (s + 1) best front
    leads_behind k = record {
      safest = leader_skip _ _ _ s _ c.safest (safe_stopped b s t e d l);
      first = c.first;
      soonest = λ q. leader_lost _ _ _ s _ (c.soonest q) (sym (wins_stops b _ c.first) ∙ (rw (c.stopped q) at k));
      stopped = c.stopped;
    }

    -- s leads from now on
    pub leads_front : s < b.n → mark_at b s ≡ waiting → wins (key goal pull b s) front ≡ true
        → Leads goal pull b (s + 1) best (Some (t, key goal pull b s))
    unfolding first_dependence
    leads_front m o w = record {
      safest = leader_skip _ _ _ s _ c.safest (safe_stopped b s t e d l);
      first = Some (s, key goal pull b s);
      soonest = λ q. leader_won _ _ _ s _ (c.soonest q) m (eq-eqb (mark_at b s) waiting o) (sym (wins_stops b _ c.first) ∙ (rw (c.stopped q) at w));
      stopped = λ q. rw (← first_at (depends_on b s) t b.n e d l);
    }

  -- s is safe and leads from now on
  pub leads_safe : s < b.n → safe b s ≡ true → wins (key goal pull b s) best ≡ true → Leads goal pull b (s + 1) (Some (s, key goal pull b s)) front
  leads_safe l y w = record {
    safest = leader_won _ _ _ s _ c.safest l y w;
    first = c.first;
    soonest = λ e. absurd (some_none _ e);
    stopped = λ e. absurd (some_none _ e);
  }

-- what the loop comes to at its end
module _ (goal pull : ℕ) (b : Board) (s : ℕ) (l : s ≤ b.n) (g : b.n ≤ s) where
  best_is : (best front : Option (ℕ × ℕ)) → Leads goal pull b s best front → leads_at b.n best ≡ choice goal pull b
  unfolding choice
  best_is best front c = best_end _ _ _ s b.n _ _ c.safest.best l g

  front_is : (front : Option (ℕ × ℕ)) (c : Leads goal pull b s None front) → leads_at b.n c.first ≡ foremost goal pull b
  unfolding foremost
  front_is front c = best_end _ _ _ s b.n _ _ (c.soonest refl).best l g

  pub leads_chosen : (x : ℕ × ℕ) (front : Option (ℕ × ℕ)) → Leads goal pull b s (Some x) front → Safe x.0 ≡ choose goal pull b
  unfolding choose
  leads_chosen x front c = rw (← best_is _ _ c, lt-ltb x.0 b.n (c.safest.inside x refl))

  pub leads_stopped : (x : ℕ × ℕ) → Leads goal pull b s None (Some x) → Stopped x.0 ≡ choose goal pull b
  unfolding choose
  leads_stopped x c = go c.first (c.stopped refl) (c.soonest refl) (front_is _ c)
    where
      go : (f : Option (ℕ × ℕ)) → Some x ≡ stops b f → Leader (λ s. is_open (mark_at b s)) (key goal pull b) b.n s f → leads_at b.n f ≡ foremost goal pull b
          → Stopped x.0 ≡ cond (ltb (choice goal pull b) b.n) (Safe (choice goal pull b)) (cond (any_open b) (Stopped (first_dependence b (foremost goal pull b))) NoneOpen)
      go None e w q = absurd (some_none x e)
      go (Some y) e w q =
          let r : x.0 ≡ first_dependence b y.0 = cc in
          rw (← best_is _ _ c, le-ltb b.n b.n (omega arith), foremost_some goal pull b (λ z. omega (arith, w.inside y refl)), ← q, r)

  pub leads_none : Leads goal pull b s None None → NoneOpen ≡ choose goal pull b
  unfolding choose
  leads_none c = go c.first (c.stopped refl) (front_is _ c)
    where
      go : (f : Option (ℕ × ℕ)) → None ≡ stops b f → leads_at b.n f ≡ foremost goal pull b
          → NoneOpen ≡ cond (ltb (choice goal pull b) b.n) (Safe (choice goal pull b)) (cond (any_open b) (Stopped (first_dependence b (foremost goal pull b))) NoneOpen)
      go None e q = rw (← best_is _ _ c, le-ltb b.n b.n (omega arith), foremost_none goal pull b (omega (arith, q)))
      go (Some y) e q = absurd (some_none _ (sym e))

-- the ladders of what going through comes to and of a decision, each taken apart by its tests
safe_by : (some any : Bool) (c f s : ℕ) → Safe s ≡ cond some (Safe c) (cond any (Stopped f) NoneOpen) → (some ≡ true) × (s ≡ c)
safe_by true any c f s e = (refl, cc)
safe_by false true c f s e = let z : ◌≡◌ {A = ℕ} 0 1 = cc in absurd (omega arith)
safe_by false false c f s e = let z : ◌≡◌ {A = ℕ} 0 1 = cc in absurd (omega arith)

pub stopped_by_lem : (some any : Bool) (c f t : ℕ) → Stopped t ≡ cond some (Safe c) (cond any (Stopped f) NoneOpen) → (some ≡ false) × (any ≡ true) × (t ≡ f)
stopped_by_lem true any c f t e = let z : ◌≡◌ {A = ℕ} 0 1 = cc in absurd (omega arith)
stopped_by_lem false true c f t e = (refl, refl, cc)
stopped_by_lem false false c f t e = let z : ◌≡◌ {A = ℕ} 0 1 = cc in absurd (omega arith)

pub none_by : (some any : Bool) (c f : ℕ) → NoneOpen ≡ cond some (Safe c) (cond any (Stopped f) NoneOpen) → (some ≡ false) × (any ≡ false)
none_by true any c f e = let z : ◌≡◌ {A = ℕ} 0 1 = cc in absurd (omega arith)
none_by false true c f e = let z : ◌≡◌ {A = ℕ} 0 1 = cc in absurd (omega arith)
none_by false false c f e = (refl, refl)

pub found_by : (found none some quiet : Bool) (label c w cost : ℕ)
    → cond found (Found label) (cond none NoPath (cond some (Deal c) (cond quiet Stuck (Wait w)))) ≡ Found cost → cost ≡ label
found_by true none some quiet label c w cost e = cc
found_by false true some quiet label c w cost e = let z : ◌≡◌ {A = ℕ} 0 1 = cc in absurd (omega arith)
found_by false false true quiet label c w cost e = let z : ◌≡◌ {A = ℕ} 0 1 = cc in absurd (omega arith)
found_by false false false true label c w cost e = let z : ◌≡◌ {A = ℕ} 0 1 = cc in absurd (omega arith)
found_by false false false false label c w cost e = let z : ◌≡◌ {A = ℕ} 0 1 = cc in absurd (omega arith)

pub deal_by : (found none some quiet : Bool) (label c w s : ℕ)
    → cond found (Found label) (cond none NoPath (cond some (Deal c) (cond quiet Stuck (Wait w)))) ≡ Deal s → (some ≡ true) × (c ≡ s)
deal_by true none some quiet label c w s e = let z : ◌≡◌ {A = ℕ} 0 1 = cc in absurd (omega arith)
deal_by false true some quiet label c w s e = let z : ◌≡◌ {A = ℕ} 0 1 = cc in absurd (omega arith)
deal_by false false true quiet label c w s e = (refl, cc)
deal_by false false false true label c w s e = let z : ◌≡◌ {A = ℕ} 0 1 = cc in absurd (omega arith)
deal_by false false false false label c w s e = let z : ◌≡◌ {A = ℕ} 0 1 = cc in absurd (omega arith)

pub wait_by : (found none some quiet : Bool) (label c w t : ℕ)
    → cond found (Found label) (cond none NoPath (cond some (Deal c) (cond quiet Stuck (Wait w)))) ≡ Wait t → (some ≡ false) × (quiet ≡ false) × (t ≡ w) × (found ≡ false)
wait_by true none some quiet label c w t e = let z : ◌≡◌ {A = ℕ} 0 1 = cc in absurd (omega arith)
wait_by false true some quiet label c w t e = let z : ◌≡◌ {A = ℕ} 0 1 = cc in absurd (omega arith)
wait_by false false true quiet label c w t e = let z : ◌≡◌ {A = ℕ} 0 1 = cc in absurd (omega arith)
wait_by false false false true label c w t e = let z : ◌≡◌ {A = ℕ} 0 1 = cc in absurd (omega arith)
wait_by false false false false label c w t e = (refl, refl, cc, refl)

pub stuck_by : (found none some quiet : Bool) (label c w : ℕ)
    → cond found (Found label) (cond none NoPath (cond some (Deal c) (cond quiet Stuck (Wait w)))) ≡ Stuck → (some ≡ false) × (quiet ≡ true) × (none ≡ false) × (found ≡ false)
stuck_by true none some quiet label c w e = let z : ◌≡◌ {A = ℕ} 0 1 = cc in absurd (omega arith)
stuck_by false true some quiet label c w e = let z : ◌≡◌ {A = ℕ} 0 1 = cc in absurd (omega arith)
stuck_by false false true quiet label c w e = let z : ◌≡◌ {A = ℕ} 0 1 = cc in absurd (omega arith)
stuck_by false false false true label c w e = (refl, refl, refl, refl)
stuck_by false false false false label c w e = let z : ◌≡◌ {A = ℕ} 0 1 = cc in absurd (omega arith)

module _ (goal pull : ℕ) (b : Board) where
  -- the ladder of a decision, one law for each step
  pub decides_found : safe b goal ≡ true → Found (label_at b goal) ≡ decision goal pull b
  unfolding decision
  decides_found y = rw y

  module _ (g : safe b goal ≡ false) where
    pub decides_none : NoneOpen ≡ choose goal pull b → None ≡ below b.n (first_marked b.mark b.n out) → NoPath ≡ decision goal pull b
    unfolding choose decision
    decides_none e u = let w = none_by (ltb (choice goal pull b) b.n) (any_open b) _ _ e in rw (g, w.1, out_none b u)

    pub decides_deal : (s : ℕ) → Safe s ≡ choose goal pull b → Deal s ≡ decision goal pull b
    unfolding choose decision
    decides_deal s e =
        let w = safe_by (ltb (choice goal pull b) b.n) (any_open b) _ (first_dependence b (foremost goal pull b)) s e in
        rw (g, busy_open b (choice_open goal pull b (ltb-true (choice goal pull b) b.n w.0)), w.0, w.1)

    pub decides_stuck : (t : ℕ) → Stopped t ≡ choose goal pull b → None ≡ below b.n (first_marked b.mark b.n out) → Stuck ≡ decision goal pull b
    unfolding choose decision
    decides_stuck t e u = let w = stopped_by_lem (ltb (choice goal pull b) b.n) (any_open b) _ _ t e in rw (g, busy_open b w.1, w.0, out_none b u)

    pub decides_wait : (t : ℕ) → Stopped t ≡ choose goal pull b → (r : ℕ) → Some r ≡ below b.n (first_marked b.mark b.n out) → Wait t ≡ decision goal pull b
    unfolding choose decision waited_for
    decides_wait t e r u = let w = stopped_by_lem (ltb (choice goal pull b) b.n) (any_open b) _ _ t e in rw (g, busy_open b w.1, w.0, (out_some b r u).0, w.1, w.2)

    pub decides_quiet : NoneOpen ≡ choose goal pull b → (r : ℕ) → Some r ≡ below b.n (first_marked b.mark b.n out) → Wait r ≡ decision goal pull b
    unfolding choose decision waited_for
    decides_quiet e r u =
        let w = none_by (ltb (choice goal pull b) b.n) (any_open b) _ _ e in
        let o = out_some b r u in
        rw (g, busy_out b o.0, w.0, o.0, w.1, o.1)

  -- a state that is dealt is one
  pub deal_in : (s : ℕ) → decision goal pull b ≡ Deal s → s < b.n
  unfolding decision
  deal_in s e =
      let w = deal_by (safe b goal) (not (any_open b) && not (any_out b)) (ltb (choice goal pull b) b.n) (not (any_out b)) _ _ _ s e in
      rw w.1 at (ltb-true (choice goal pull b) b.n w.0)

  -- and it is safe, so it was open
  pub deal_safe : (s : ℕ) → decision goal pull b ≡ Deal s → safe b s ≡ true
  unfolding decision
  deal_safe s e =
      let w = deal_by (safe b goal) (not (any_open b) && not (any_out b)) (ltb (choice goal pull b) b.n) (not (any_out b)) _ _ _ s e in
      rw w.1 at (choice_safe goal pull b (ltb-true (choice goal pull b) b.n w.0))

  -- what a Wait says of the board: something is out, nothing is safe, and the state is the one waited for
  pub wait_says : (t : ℕ) → decision goal pull b ≡ Wait t → (any_out b ≡ true) × ((s : ℕ) → s < b.n → safe b s ≡ false) × (t ≡ waited_for goal pull b)
  unfolding decision
  wait_says t e =
      let w = wait_by (safe b goal) (not (any_open b) && not (any_out b)) (ltb (choice goal pull b) b.n) (not (any_out b)) _ _ _ t e in
      (not-false (any_out b) w.1, choice_none goal pull b (ltb-false (choice goal pull b) b.n w.0), w.2)

  -- a state that Wait names is one
  pub wait_in : (t : ℕ) → decision goal pull b ≡ Wait t → t < b.n
  unfolding waited_for
  wait_in t e = rw (wait_says t e).2 (go (any_open b) refl)
    where
      go : (o : Bool) → any_open b ≡ o → cond o (first_dependence b (foremost goal pull b)) (first_marked b.mark b.n out) < b.n
      go true o = foremost_held goal pull b (foremost_any goal pull b o) (wait_says t e).1
      go false o = ltb-true (first_marked b.mark b.n out) b.n (sym (out_by b _ refl) ∙ (wait_says t e).0)
