-- The laws about the limited Take that its callers use: it is never stuck, what it names is a state, and how many comparisons it makes at most. Before them the laws about its candidates.
use Rattle.std.proofs.Math.Path.{◌≡◌, refl, ap}
use Rattle.std.proofs.Common.{None, sym, ◌∙◌, inl, inr, eq-or-lt_of_le}
use Rattle.std.specs.Prelude.{Bool, ◌&&◌, ◌||◌, List, [], ◌∷◌, ◌++◌, ◌⊎◌, eqb}
use Rattle.std.proofs.Math.Bool.{true, false, cond, not, true≢false}
use Rattle.std.proofs.Math.Logic.{⊎_elim}
use Prim.Native.Nat.{ℕ, zero, suc, ◌+◌, ◌*◌, ◌-◌, ◌≤◌, ◌<◌}
use Rattle.std.proofs.Math.Nat.{mul-le-mul_right}
use Rattle.std.proofs.Math.Decide.{ℕ_discrete}
use native.Mathlib.Omega.{arith}
use Rattle.std.proofs.Math.Dec.{ltb, leb}
use borrow.Author.Tests.{eq-eqb, ne_eqb, ltb-true, ltb-false, le-ltb, not-true, not-false}
use Rattle.laws.specs.Truth.{and_left, and_both, and_false, or_second}
use Rattle.laws.specs.First.{first_none, first_le, any_none, any_of}
use Rattle.laws.specs.Count.{count, count_le, count_lt}
use Rattle.laws.specs.Least.{After, least_after, least_only}
use Rattle.rule.specs.Marks.{waiting, out, is_open, is_out, is_live}
use Rattle.dealing.specs.declared.Decision.{Decision}
use Rattle.dealing.specs.declared.Decision.TheVariants.{Deal, Stuck, Wait}
use Rattle.dealing.specs.declared.Decided.{Decided}
use Rattle.dealing.specs.Board.{Board, mark_at, key, foremost, any_open, any_out, first_marked}
use Rattle.dealing.specs.Laws.{foremost_in, foremost_open, foremost_none, foremost_any, out_by, deal_by, wait_by, stuck_by}
use Rattle.dealing.specs.Limited.{Trial, compared, stops_at, comparisons, passes, next, others, candidates, tried, full_count, stopped_by, limited_decision, limited, decided}
use Rattle.dealing.specs.LimitedOrderLaws.{Other, onward, follows_all, comes, comes_of, comes_other, next_on, comes_self, rank, rank_none, rank_some, rank_next, others_none, others_some, onward_passed}

-- the candidates, and the foremost open state among them
module _ (goal pull : ℕ) (b : Board) where
  -- trying all of them, by the goal: it isn't open, or it passes, or the others are tried too
  pub tried_without : is_open (mark_at b goal) ≡ false → tried goal pull b (candidates goal pull b) ≡ onward goal pull b (next goal pull b b.n)
  unfolding candidates onward
  tried_without e = rw e

  module _ (o : is_open (mark_at b goal) ≡ true) where
    pub tried_passed : stops_at goal pull b goal ≡ b.n → tried goal pull b (candidates goal pull b) ≡ record { chosen = goal; made = comparisons goal pull b goal }
    unfolding candidates tried
    tried_passed e = rw (o, eq-eqb (stops_at goal pull b goal) b.n e)

    pub tried_held : (stops_at goal pull b goal ≡ b.n → ⊥) → tried goal pull b (candidates goal pull b)
        ≡ record { chosen = (onward goal pull b (next goal pull b b.n)).chosen; made = comparisons goal pull b goal + (onward goal pull b (next goal pull b b.n)).made }
    unfolding candidates tried onward
    tried_held z = rw (o, ne_eqb (stops_at goal pull b goal) b.n z)

    pub goal_passes : stops_at goal pull b goal ≡ b.n → passes goal pull b goal ≡ true
    unfolding passes
    goal_passes e = rw (o, eq-eqb (stops_at goal pull b goal) b.n e)

    pub goal_held : (stops_at goal pull b goal ≡ b.n → ⊥) → passes goal pull b goal ≡ false
    unfolding passes
    goal_held z = rw (o, ne_eqb (stops_at goal pull b goal) b.n z)

  pub goal_shut : is_open (mark_at b goal) ≡ false → passes goal pull b goal ≡ false
  unfolding passes
  goal_shut e = rw e

  -- the foremost open state is the goal or the first of the others
  pub foremost_first : (foremost goal pull b ≡ b.n → ⊥) → (foremost goal pull b ≡ goal → ⊥) → next goal pull b b.n ≡ foremost goal pull b
  unfolding next foremost
  foremost_first z d =
      least_only (comes goal pull b b.n) (key goal pull b) b.n b.n (omega arith) (foremost goal pull b) (foremost_in goal pull b z)
      (comes_of goal pull b b.n (foremost goal pull b) (record { below = foremost_in goal pull b z; waits = eq-eqb _ waiting (foremost_open goal pull b z); apart = d }) (follows_all goal pull b (foremost goal pull b)))
      (λ x m e q. least_after _ (key goal pull b) b.n b.n (omega arith) z x m (and_left _ _ e) q)

  -- it comes before every other open state
  pub foremost_before : (foremost goal pull b ≡ b.n → ⊥) → (x : ℕ) → x < b.n → is_open (mark_at b x) ≡ true → (x ≡ foremost goal pull b → ⊥) → After (key goal pull b) (foremost goal pull b) x
  unfolding foremost
  foremost_before z = least_after _ (key goal pull b) b.n b.n (omega arith) z

  -- with nothing out it is compared with nothing, and passes
  foremost_alone : any_out b ≡ false → (foremost goal pull b ≡ b.n → ⊥) → (t : ℕ) → t < b.n → (v : Bool) → is_open (mark_at b t) ≡ v → compared goal pull b (foremost goal pull b) t ≡ false
  unfolding any_out compared
  foremost_alone u z t m false e = rw (e, any_none _ b.n u t m) (and_false (not (eqb t (foremost goal pull b))))
  foremost_alone u z t m true e = go (ℕ_discrete t (foremost goal pull b))
    where
      behind : After (key goal pull b) (foremost goal pull b) t → ltb (key goal pull b t) (key goal pull b (foremost goal pull b)) ≡ false
      behind (inl a) = le-ltb (key goal pull b t) (key goal pull b (foremost goal pull b)) (omega arith)
      behind (inr a) = le-ltb (key goal pull b t) (key goal pull b (foremost goal pull b)) (omega arith)

      go : Dec (t ≡ foremost goal pull b)
          → (not (eqb t (foremost goal pull b)) && (is_out (mark_at b t) || (is_open (mark_at b t) && ltb (key goal pull b t) (key goal pull b (foremost goal pull b))))) ≡ false
      go (yes q) = rw (eq-eqb t (foremost goal pull b) q)
      go (no q) = rw (ne_eqb t (foremost goal pull b) q, any_none _ b.n u t m, e) (behind (foremost_before z t m e q))

  pub foremost_passes : any_out b ≡ false → (foremost goal pull b ≡ b.n → ⊥) → stops_at goal pull b (foremost goal pull b) ≡ b.n
  unfolding stops_at
  foremost_passes u z = first_none _ b.n (λ t m. rw (foremost_alone u z t m (is_open (mark_at b t)) refl))

  -- something is open: there is a foremost one, and it is open
  pub foremost_there : (x : ℕ) → x < b.n → is_open (mark_at b x) ≡ true → foremost goal pull b ≡ b.n → ⊥
  unfolding any_open
  foremost_there x l e = foremost_any goal pull b (any_of (λ s. is_open (mark_at b s)) b.n x l e)

  pub foremost_waits : (foremost goal pull b ≡ b.n → ⊥) → (x : ℕ) → foremost goal pull b ≡ x → is_open (mark_at b x) ≡ true
  foremost_waits z x e = eq-eqb (mark_at b x) waiting (ap (mark_at b) (sym e) ∙ foremost_open goal pull b z)

  -- where the goal doesn't pass, the others decide
  pub tried_chosen : passes goal pull b goal ≡ false → (v : Bool) → is_open (mark_at b goal) ≡ v
      → (tried goal pull b (candidates goal pull b)).chosen ≡ (onward goal pull b (next goal pull b b.n)).chosen
  tried_chosen p false o = ap (λ (t : Trial). t.chosen) (tried_without o)
  tried_chosen p true o = ap (λ (t : Trial). t.chosen) (tried_held o (λ q. true≢false (sym (goal_passes o q) ∙ p)))

  -- where none passes, the test of the foremost stopped at a state
  pub foremost_stopped : passes goal pull b goal ≡ false → b.n ≤ (tried goal pull b (candidates goal pull b)).chosen → (foremost goal pull b ≡ b.n → ⊥)
      → stops_at goal pull b (foremost goal pull b) < b.n
  unfolding stops_at
  foremost_stopped p l z = ⊎_elim (λ e. absurd (go e (ℕ_discrete (foremost goal pull b) goal))) (λ k. k) (eq-or-lt_of_le (first_le _ b.n))
    where
      go : stops_at goal pull b (foremost goal pull b) ≡ b.n → Dec (foremost goal pull b ≡ goal) → ⊥
      go e (yes q) = true≢false (sym (goal_passes (foremost_waits z goal q) (ap (stops_at goal pull b) (sym q) ∙ e)) ∙ p)
      go e (no q) =
          let f = foremost_first z q in
          ⊎_elim (λ r. z (sym f ∙ r))
          (λ o. omega (arith, o.below, l, tried_chosen p (is_open (mark_at b goal)) refl, ap (λ (t : Trial). t.chosen) (onward_passed goal pull b _ o (ap (stops_at goal pull b) f ∙ e))))
          (next_on goal pull b b.n)

  -- on every board with something open and nothing out the foremost open state passes, so step 4 never happens
  pub limited_unstuck : limited_decision goal pull b ≡ Stuck → ⊥
  unfolding limited_decision
  limited_unstuck e =
      let w = stuck_by (passes goal pull b goal) (not (any_open b) && not (any_out b)) (ltb (tried goal pull b (candidates goal pull b)).chosen b.n) (not (any_out b)) _ _ _ e in
      let quiet = not-true (any_out b) w.1 in
      let z : foremost goal pull b ≡ b.n → ⊥ = λ q. true≢false (sym (ap (λ (v : Bool). not v && not (any_out b)) (foremost_none goal pull b (omega arith)) ∙ ap not quiet) ∙ w.2) in
      omega (arith, foremost_passes quiet z, foremost_stopped w.3 (ltb-false _ b.n w.0) z)

  -- a step that is decided on comes with the whole count, which is within the limit
  pub limited_says : (limit made : ℕ) (d : Decision) → limited goal pull b limit ≡ decided d made → (limited_decision goal pull b ≡ d) × (full_count goal pull b ≡ made) × (made ≤ limit)
  unfolding limited
  limited_says limit made d e = go (ltb limit (full_count goal pull b)) refl e
    where
      go : (v : Bool) → ltb limit (full_count goal pull b) ≡ v → cond v None (decided (limited_decision goal pull b) (full_count goal pull b)) ≡ decided d made
          → (limited_decision goal pull b ≡ d) × (full_count goal pull b ≡ made) × (made ≤ limit)
      go true q r = let z : ◌≡◌ {A = ℕ} 0 1 = cc in absurd (omega arith)
      go false q r =
          let w : ◌≡◌ {A = Decided} (record { decision = limited_decision goal pull b; comparisons = full_count goal pull b }) (record { decision = d; comparisons = made }) = cc in
          let m : full_count goal pull b ≡ made = ap (λ (x : Decided). x.comparisons) w in
          (ap (λ (x : Decided). x.decision) w, m, omega (arith, ltb-false limit (full_count goal pull b) q))

  -- a state that is named is one
  deal_below : (s : ℕ) → limited_decision goal pull b ≡ Deal s → s < b.n
  unfolding limited_decision
  deal_below s e =
      let w = deal_by (passes goal pull b goal) (not (any_open b) && not (any_out b)) (ltb (tried goal pull b (candidates goal pull b)).chosen b.n) (not (any_out b)) _ _ _ s e in
      rw w.1 at (ltb-true (tried goal pull b (candidates goal pull b)).chosen b.n w.0)

  wait_below : (t : ℕ) → limited_decision goal pull b ≡ Wait t → t < b.n
  unfolding limited_decision stopped_by
  wait_below t e = rw w.2 (go (any_open b) refl)
    where
      w : (ltb (tried goal pull b (candidates goal pull b)).chosen b.n ≡ false) × (not (any_out b) ≡ false) × (t ≡ stopped_by goal pull b) × (passes goal pull b goal ≡ false)
      w = wait_by (passes goal pull b goal) (not (any_open b) && not (any_out b)) (ltb (tried goal pull b (candidates goal pull b)).chosen b.n) (not (any_out b)) _ _ _ t e

      go : (v : Bool) → any_open b ≡ v → cond v (stops_at goal pull b (foremost goal pull b)) (first_marked b.mark b.n out) < b.n
      go true o = foremost_stopped w.3 (ltb-false _ b.n w.0) (foremost_any goal pull b o)
      go false o = ltb-true (first_marked b.mark b.n out) b.n (sym (out_by b _ refl) ∙ not-false (any_out b) w.1)

  pub limited_in : (limit made : ℕ)
      → ((s : ℕ) → limited goal pull b limit ≡ decided (Deal s) made → s < b.n) × ((t : ℕ) → limited goal pull b limit ≡ decided (Wait t) made → t < b.n)
  limited_in limit made = (λ s e. deal_below s (limited_says limit made (Deal s) e).0, λ t e. wait_below t (limited_says limit made (Wait t) e).0)

-- how many comparisons are made at most: each open state is compared with the other live ones
abbrev pub open_states : Board → ℕ
open_states b = count (λ s. is_open (mark_at b s)) b.n

abbrev pub live_states : Board → ℕ
live_states b = count (λ s. is_live (mark_at b s)) b.n

module _ (goal pull : ℕ) (b : Board) where
  compared_live : (s t : ℕ) → compared goal pull b s t ≡ true → is_live (mark_at b t) ≡ true
  unfolding compared
  compared_live s t e = go (eqb t s) (is_out (mark_at b t)) (is_open (mark_at b t)) (ltb (key goal pull b t) (key goal pull b s)) e
    where
      go : (e u v w : Bool) → (not e && (u || (v && w))) ≡ true → (v || u) ≡ true
      go true u v w q = absurd (true≢false (sym q))
      go false true v w q = or_second v true refl
      go false false true w q = refl
      go false false false w q = absurd (true≢false (sym q))

  compared_self : (s : ℕ) → compared goal pull b s s ≡ false
  unfolding compared
  compared_self s = rw (eq-eqb s s refl)

  comparisons_most : (s : ℕ) → s < b.n → is_open (mark_at b s) ≡ true → comparisons goal pull b s ≤ live_states b - 1
  unfolding comparisons
  comparisons_most s l o =
      omega (
        arith,
        count_lt (λ t. compared goal pull b s t && leb t (stops_at goal pull b s)) (λ t. is_live (mark_at b t)) b.n s
            (λ t m e. compared_live s t (and_left (compared goal pull b s t) _ e)) l (rw (compared_self s)) (rw o),
      )

  tried_most : (s : ℕ) (rest : List ℕ) → (tried goal pull b (s ∷ rest)).made ≤ comparisons goal pull b s + (tried goal pull b rest).made
  unfolding tried
  tried_most s rest = go (eqb (stops_at goal pull b s) b.n) (comparisons goal pull b s) (tried goal pull b rest)
    where
      go : (v : Bool) (m : ℕ) (r : Trial) → (cond {A = Trial} v (record { chosen = s; made = m }) (record { chosen = r.chosen; made = m + r.made })).made ≤ m + r.made
      go true m r = omega arith
      go false m r = omega arith

  onward_most : (more s : ℕ) → (s ≡ b.n) ⊎ Other goal b s → (tried goal pull b (others goal pull b more s)).made ≤ rank goal pull b s * (live_states b - 1)
  unfolding tried others
  onward_most zero s w = omega arith
  onward_most (suc more) s w =
      ⊎_elim (λ e. rw (others_none goal pull b (suc more) s e) (omega arith))
      (λ o. rw (others_some goal pull b more s o)
      (omega (arith, tried_most s (others goal pull b more (next goal pull b s)), onward_most more (next goal pull b s) (next_on goal pull b s), comparisons_most s o.below o.waits, mul-le-mul_right (live_states b - 1) (rank_next goal pull b s o))))
      w

  -- no more of them than there are open states, the goal apart
  rank_most : (s : ℕ) → (s ≡ b.n) ⊎ Other goal b s → rank goal pull b s ≤ count (λ t. is_open (mark_at b t) && not (eqb t goal)) b.n
  rank_most s (inl e) = omega (arith, rank_none goal pull b s e)
  rank_most s (inr o) =
      omega (
        arith,
        rank_some goal pull b s o,
        count_lt (comes goal pull b s) (λ t. is_open (mark_at b t) && not (eqb t goal)) b.n s
            (λ t m e. let u = comes_other goal pull b s t m e in and_both u.waits (ap not (ne_eqb t goal u.apart))) o.below (comes_self goal pull b s o)
            (and_both o.waits (ap not (ne_eqb s goal o.apart))),
      )

  others_open : goal < b.n → is_open (mark_at b goal) ≡ true → suc (count (λ t. is_open (mark_at b t) && not (eqb t goal)) b.n) ≤ open_states b
  others_open l o =
      count_lt (λ t. is_open (mark_at b t) && not (eqb t goal)) (λ t. is_open (mark_at b t)) b.n goal (λ t m e. and_left _ _ e) l
      (rw (eq-eqb goal goal refl) (and_false (is_open (mark_at b goal)))) o

  pub full_count_most : goal < b.n → full_count goal pull b ≤ open_states b * (live_states b - 1)
  unfolding full_count onward candidates
  full_count_most l = go (is_open (mark_at b goal)) refl
    where
      start : ℕ
      start = next goal pull b b.n

      rest : (tried goal pull b (others goal pull b b.n start)).made ≤ rank goal pull b start * (live_states b - 1)
      rest = onward_most b.n start (next_on goal pull b b.n)

      few : rank goal pull b start ≤ count (λ t. is_open (mark_at b t) && not (eqb t goal)) b.n
      few = rank_most start (next_on goal pull b b.n)

      go : (v : Bool) → is_open (mark_at b goal) ≡ v → (tried goal pull b (cond v (goal ∷ []) [] ++ others goal pull b b.n start)).made ≤ open_states b * (live_states b - 1)
      go false o =
          omega (
            arith,
            rest,
            mul-le-mul_right (live_states b - 1) few,
            mul-le-mul_right (live_states b - 1) (count_le (λ t. is_open (mark_at b t) && not (eqb t goal)) (λ t. is_open (mark_at b t)) b.n (λ t m e. and_left _ _ e)),
          )
      go true o =
          let most : suc (rank goal pull b start) ≤ open_states b = omega (arith, few, others_open l o) in
          omega (arith, rest, tried_most goal (others goal pull b b.n start), comparisons_most goal l o, mul-le-mul_right (live_states b - 1) most)
