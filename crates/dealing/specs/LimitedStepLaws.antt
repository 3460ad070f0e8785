-- What the functions of the limited Take come to over the board, where a row has the keys; and the laws for each of their ends.
use Rattle.std.specs.Prelude.{◌≡◌, Bool, cond, ◌&&◌, ◌||◌, not, Option, Some, None, List, ◌⊎◌, eqb, get_or}
use Rattle.std.specs.Option.{is_some, option_zip}
use Rattle.std.proofs.Math.Path.{refl, sym, ap}
use Rattle.std.proofs.Common.{◌∙◌, true≢false}
use Rattle.std.proofs.Math.Bool.{true, false}
use Rattle.std.proofs.Math.Logic.{inl, inr, ⊎_elim}
use Prim.Native.Nat.{ℕ, ◌+◌, ◌-◌, ◌≤◌, ◌<◌}
use Rattle.std.proofs.Math.Decide.{ℕ_discrete}
use native.Mathlib.Omega.{arith}
use Rattle.std.proofs.Math.Dec.{ltb}
use borrow.Author.Tests.{eq-eqb, ne_eqb, eqb-true, ltb-true, ltb-false, lt-ltb, le-ltb}
use Rattle.laws.specs.Fill.{made}
use Rattle.laws.specs.Truth.{and_left}
use Rattle.laws.specs.First.{first_same, first_le}
use Rattle.laws.specs.Count.{count_eq}
use Rattle.laws.specs.Least.{after_on, after_not, least_same}
use Rattle.rule.specs.Marks.{waiting, out, is_open, is_out}
use Rattle.rule.specs.Rule.{independent, holds_back}
use Rattle.dealing.specs.declared.Decision.TheVariants.{Found, NoPath, Deal, Wait}
use Rattle.laws.specs.Chains.{below}
use Rattle.dealing.specs.declared.limits.Test.{Test}
use Rattle.dealing.specs.declared.limits.Tries.{Tries}
use Rattle.dealing.specs.declared.limits.Tries.TheVariants.{Passed, Failed}
use Rattle.dealing.specs.Places.{below_some, below_none, some_says, none_says, leads_at}
use Rattle.dealing.specs.Board.{Board, mark_at, label_at, h, depends_on, key, foremost, any_open, any_out, first_marked}
use Rattle.dealing.specs.Laws.{Keyed, foremost_some, foremost_none, foremost_any, busy_open, busy_out, out_none, out_some}
use Rattle.dealing.specs.Limited.{Trial, compared, stops_at, comparisons, passes, follows, next, candidates, tried, full_count, stopped_by, limited_decision, limited, decided}
use Rattle.dealing.specs.LimitedRowLaws.{is_rival, rivals, holds_off, comes_after, comes_on, next_in, standing, stop_of, made_of, test_of, front_stop}
use Rattle.dealing.specs.LimitedOrderLaws.{Other, onward, follows_says, follows_of, comes, next_on, away, onward_none, onward_passed, onward_held}
use Rattle.dealing.specs.LimitedLaws.{tried_without, tried_passed, tried_held, goal_passes, goal_held, goal_shut, foremost_first, foremost_before, foremost_passes, foremost_there, foremost_waits, tried_chosen, foremost_stopped}

module _ (goal pull : ℕ) (b : Board) where
  -- where the test of s stops, n where s is no state
  unfoldable pub stops_if : ℕ → ℕ
  stops_if s = cond (eqb s b.n) b.n (stops_at goal pull b s)

  -- trying the others from s on within a limit, where so many comparisons were made before
  unfoldable pub tries_from : ℕ → ℕ → ℕ → Option Tries
  tries_from s before limit =
      cond (ltb limit (before + (onward goal pull b s).made)) None
      (Some (cond (ltb (onward goal pull b s).chosen b.n) (Passed (onward goal pull b s).chosen (before + (onward goal pull b s).made))
      (Failed (below b.n (stops_if s)) (before + (onward goal pull b s).made))))

  -- the same from one that stands beside its key
  abbrev pub tries_of : Option (ℕ × ℕ) → ℕ → ℕ → Option Tries
  tries_of first = tries_from (leads_at b.n first)

-- one of the others, with the key that stands in the row; or none
pub record Standing (goal : ℕ) (b : Board) (row : List ℕ) (candidate : Option (ℕ × ℕ)) : Type 0 where
  pub on : (leads_at b.n candidate ≡ b.n) ⊎ Other goal b (leads_at b.n candidate)
  pub keyed : candidate ≡ standing row b.n (leads_at b.n candidate)

-- what trying from the first one on asks: it is one of the others or none, and the limit isn't passed
pub record ToTry (goal : ℕ) (b : Board) (row : List ℕ) (first : Option (ℕ × ℕ)) (before limit : ℕ) : Type 0 where
  pub start : Standing goal b row first
  pub within : before ≤ limit

-- an answer that is there or not
pub none_of : (o : Option ℕ) → is_some o ≡ false → o ≡ None
none_of None q = refl
none_of (Some x) q = absurd (true≢false q)

pub some_of : (o : Option ℕ) → is_some o ≡ true → (x : ℕ) × (o ≡ Some x)
some_of None q = absurd (true≢false (sym q))
some_of (Some x) q = (x, refl)

-- where one stands, it is a state
module _ (goal : ℕ) (b : Board) (row : List ℕ) where
  pub standing_none : (c : Option (ℕ × ℕ)) → c ≡ None → Standing goal b row c → leads_at b.n c ≡ b.n
  standing_none c e w = rw e

  pub standing_other : (c : Option (ℕ × ℕ)) (x : ℕ × ℕ) → c ≡ Some x → Standing goal b row c → Other goal b x.0
  standing_other c x e w = go (rw e at w)
    where
      apart : Some x ≡ None → ⊥
      apart q = let z : ◌≡◌ {A = ℕ} 0 1 = cc in omega arith

      go : Standing goal b row (Some x) → Other goal b x.0
      go v = ⊎_elim (λ q. absurd (apart (rw (le-ltb x.0 b.n (omega arith)) at v.keyed))) (λ o. o) v.on

  -- a state of the board with its key from the row
  pub standing_of : (c : Option (ℕ × ℕ)) (s : ℕ) → (s ≡ b.n) ⊎ Other goal b s → c ≡ standing row b.n s → (leads_at b.n c ≡ s) × Standing goal b row c
  standing_of c s (inl q) e = (rw (e, le-ltb s b.n (omega arith)) (sym q), rw (e, le-ltb s b.n (omega arith)) (record { on = inl refl; keyed = rw (le-ltb b.n b.n (omega arith)) }))
  standing_of c s (inr o) e = (rw (e, lt-ltb s b.n o.below), rw (e, lt-ltb s b.n o.below) (record { on = inr o; keyed = rw (lt-ltb s b.n o.below) }))

-- what is compared is another live state, so that only independence is left to ask
held_depends : (goal pull : ℕ) (b : Board) (s t : ℕ) → (compared goal pull b s t && holds_off b s t) ≡ (compared goal pull b s t && depends_on b s t)
unfolding compared holds_off depends_on holds_back
held_depends goal pull b s t = go (eqb t s) (is_out (mark_at b t)) (is_open (mark_at b t)) (ltb (key goal pull b t) (key goal pull b s)) (not (independent (label_at b s) (label_at b t) b.excess (h b t s)))
  where
    go : (e u v w d : Bool) → ((not e && (u || (v && w))) && d) ≡ ((not e && (u || (v && w))) && (not e && ((v || u) && d)))
    go true u v w d = refl
    go false true true w d = refl
    go false true false w d = refl
    go false false true true d = refl
    go false false true false d = refl
    go false false false w d = refl

-- a test taken apart by its limit
ended_by : (v : Bool) (left stop made : ℕ) (n : ℕ) (t : Test) → ltb left made ≡ v → Some t ≡ cond v None (Some (record { stop = below n stop; made = made }))
    → (t.stop ≡ below n stop) × (t.made ≡ made) × (made ≤ left)
ended_by true left stop made n t e q = let z : ◌≡◌ {A = ℕ} 0 1 = cc in absurd (omega arith)
ended_by false left stop made n t e q =
    let w : ◌≡◌ {A = Test} t (record { stop = below n stop; made = made }) = cc in
    (ap (λ (x : Test). x.stop) w, ap (λ (x : Test). x.made) w, ltb-false left made e)

cut_by : (v : Bool) (left made : ℕ) (t : Test) → ltb left made ≡ v → None ≡ cond v None (Some t) → left < made
cut_by true left made t e q = ltb-true left made e
cut_by false left made t e q = let z : ◌≡◌ {A = ℕ} 0 1 = cc in absurd (omega arith)

-- what a row that has the keys says of the board
module _ (goal pull : ℕ) (b : Board) (row : List ℕ) (k : Keyed goal pull b row) where
  -- of a candidate's test
  module _ (s : ℕ) (l : s < b.n) (o : is_open (mark_at b s) ≡ true) where
    same_rival : (t : ℕ) → t < b.n → (v : Bool) → is_open (mark_at b t) ≡ v
        → is_rival (mark_at b t) (get_or row t 0) (get_or row s 0) ≡ (is_out (mark_at b t) || (is_open (mark_at b t) && ltb (key goal pull b t) (key goal pull b s)))
    same_rival t m true e = rw (k.at t m e, k.at s l o)
    same_rival t m false e = rw e

    -- a candidate isn't out, and its key isn't smaller than itself
    no_rival : is_rival (mark_at b s) (get_or row s 0) (get_or row s 0) ≡ false
    no_rival = rw (eqb-true (mark_at b s) waiting o, le-ltb (get_or row s 0) (get_or row s 0) (omega arith))

    rivals_compared : (t : ℕ) → t < b.n → rivals b.mark row s t ≡ compared goal pull b s t
    unfolding rivals compared
    rivals_compared t m = go (ℕ_discrete t s)
      where
        go : Dec (t ≡ s) → is_rival (mark_at b t) (get_or row t 0) (get_or row s 0) ≡ (not (eqb t s) && (is_out (mark_at b t) || (is_open (mark_at b t) && ltb (key goal pull b t) (key goal pull b s))))
        go (yes e) = rw (e, eq-eqb s s refl) no_rival
        go (no z) = rw (ne_eqb t s z) (same_rival t m (is_open (mark_at b t)) refl)

    stop_keyed : stop_of (rivals b.mark row s) (holds_off b s) b.n ≡ stops_at goal pull b s
    unfolding stop_of stops_at
    stop_keyed = first_same _ _ b.n (λ t m. rw (rivals_compared t m) (held_depends goal pull b s t))

    made_keyed : made_of (rivals b.mark row s) (holds_off b s) b.n ≡ comparisons goal pull b s
    unfolding made_of comparisons
    made_keyed = count_eq _ _ b.n (λ t m. rw (rivals_compared t m, stop_keyed))

    pub ended_says : (t : Test) (left : ℕ) → Some t ≡ test_of (rivals b.mark row s) (holds_off b s) b.n left → (t.stop ≡ below b.n (stops_at goal pull b s)) × (t.made ≡ comparisons goal pull b s) × (t.made ≤ left)
    unfolding test_of
    ended_says t left e =
        let w = ended_by (ltb left (comparisons goal pull b s)) left _ _ b.n t refl (rw (stop_keyed, made_keyed) at e) in
        (w.0, w.1, omega (arith, w.1, w.2))

    pub cut_says : (left : ℕ) → None ≡ test_of (rivals b.mark row s) (holds_off b s) b.n left → left < comparisons goal pull b s
    unfolding test_of
    cut_says left e = cut_by (ltb left (comparisons goal pull b s)) left _ _ refl (rw (stop_keyed, made_keyed) at e)

  -- of the next candidate
  comes_keyed : (s : ℕ) → (s ≡ b.n) ⊎ Other goal b s → (t : ℕ) → t < b.n → (v : Bool) → is_open (mark_at b t) ≡ v → comes_on b.mark row goal (standing row b.n s) t ≡ comes goal pull b s t
  unfolding comes_on follows
  comes_keyed s w t m false e = rw e
  comes_keyed s (inl q) t m true e = rw (eq-eqb s b.n q, le-ltb s b.n (omega arith))
  comes_keyed s (inr o) t m true e = rw (lt-ltb s b.n o.below, ne_eqb s b.n (λ q. omega (arith, o.below)), k.at t m e, k.at s o.below o.waits)

  pub next_keyed : (s : ℕ) → (s ≡ b.n) ⊎ Other goal b s → (last : Option (ℕ × ℕ)) → last ≡ standing row b.n s → next_in b.mark row b.n goal last ≡ next goal pull b s
  unfolding next_in next
  next_keyed s w last e =
      rw e
      (least_same _ _ _ _ b.n b.n (omega arith) (λ t m. comes_keyed s w t m (is_open (mark_at b t)) refl) (λ t m y. k.at t m (and_left _ _ y)))

-- where a test stops is a state or n
pub stops_low : (goal pull : ℕ) (b : Board) (s : ℕ) → b.n ≤ stops_at goal pull b s → stops_at goal pull b s ≡ b.n
unfolding stops_at
stops_low goal pull b s l = let m = first_le (λ t. compared goal pull b s t && depends_on b s t) b.n in omega (arith, m)

stops_in : (goal pull : ℕ) (b : Board) (s : ℕ) → (stops_at goal pull b s ≡ b.n → ⊥) → stops_at goal pull b s < b.n
unfolding stops_at
stops_in goal pull b s z = let m = first_le (λ t. compared goal pull b s t && depends_on b s t) b.n in omega (arith, m)

-- trying the others within a limit, one law for each end
module _ (goal pull : ℕ) (b : Board) (first : ℕ) where
  stops_none : first ≡ b.n → stops_if goal pull b first ≡ b.n
  unfolding stops_if
  stops_none e = rw (eq-eqb first b.n e)

  stops_some : (first ≡ b.n → ⊥) → stops_if goal pull b first ≡ stops_at goal pull b first
  unfolding stops_if
  stops_some z = rw (ne_eqb first b.n z)

  module _ (before limit : ℕ) where
    tries_cut : limit < before + (onward goal pull b first).made → None ≡ tries_from goal pull b first before limit
    unfolding tries_from
    tries_cut l = rw (lt-ltb limit (before + (onward goal pull b first).made) l)

    module _ (m : ℕ) (e : before + (onward goal pull b first).made ≡ m) (l : m ≤ limit) where
      tries_passed : (s : ℕ) → (onward goal pull b first).chosen ≡ s → s < b.n → Some (Passed s m) ≡ tries_from goal pull b first before limit
      unfolding tries_from
      tries_passed s c k = rw (e, c, le-ltb limit m l, lt-ltb s b.n k)

      tries_failed : (stop : Option ℕ) → (onward goal pull b first).chosen ≡ b.n → stop ≡ below b.n (stops_if goal pull b first) → Some (Failed stop m) ≡ tries_from goal pull b first before limit
      unfolding tries_from
      tries_failed stop c q = rw (e, c, le-ltb limit m l, le-ltb b.n b.n (omega arith), q)

-- what the loop over the others knows at the candidate s: what is left to try brings the whole to what it comes to, and where the test of the first one stopped
pub record Trying (goal pull : ℕ) (b : Board) (row : List ℕ) (first : Option (ℕ × ℕ)) (before limit : ℕ) (candidate : Option (ℕ × ℕ)) (stop : Option ℕ) (made : ℕ) : Type 0 where
  pub at : Standing goal b row candidate
  pub within : made ≤ limit
  pub counted : made + (onward goal pull b (leads_at b.n candidate)).made ≡ before + (onward goal pull b (leads_at b.n first)).made
  pub chosen : (onward goal pull b (leads_at b.n candidate)).chosen ≡ (onward goal pull b (leads_at b.n first)).chosen
  pub front : ((stop ≡ None) × (leads_at b.n candidate ≡ leads_at b.n first)) ⊎ ((is_some stop ≡ true) × (stop ≡ below b.n (stops_if goal pull b (leads_at b.n first))))

pub trying_zero : (goal pull : ℕ) (b : Board) (row : List ℕ) (first : Option (ℕ × ℕ)) (before limit : ℕ) → ToTry goal b row first before limit → Trying goal pull b row first before limit first None before
trying_zero goal pull b row first before limit w = record { at = w.start; within = w.within; counted = refl; chosen = refl; front = inl (refl, refl) }

module _ (goal pull : ℕ) (b : Board) (row : List ℕ) (first : Option (ℕ × ℕ)) (before limit : ℕ) (candidate : Option (ℕ × ℕ)) (stop : Option ℕ) (made : ℕ) (w : Trying goal pull b row first before limit candidate stop made) where
  -- nothing is left to try
  pub trying_end : candidate ≡ None → Some (Failed stop made) ≡ tries_of goal pull b first before limit
  trying_end q =
      let e = standing_none goal b row candidate q w.at in
      let none = onward_none goal pull b (leads_at b.n candidate) e in
      tries_failed goal pull b (leads_at b.n first) before limit made (omega (arith, w.counted, ap (λ (t : Trial). t.made) none)) w.within
      stop (sym w.chosen ∙ ap (λ (t : Trial). t.chosen) none)
      (⊎_elim (λ v. v.0 ∙ below_none b.n _ (sym (stops_none goal pull b (leads_at b.n first) (sym v.1 ∙ e)))) (λ v. v.1) w.front)

  module _ (x : ℕ × ℕ) (c : candidate ≡ Some x) where
    -- it is one of the others
    pub trying_other : Other goal b x.0
    trying_other = standing_other goal b row candidate x c w.at

    -- and stands with its key from the row
    pub trying_stands : candidate ≡ standing row b.n x.0
    trying_stands = c ∙ rw c at w.at.keyed

    pub trying_beside : candidate ≡ Some (x.0, get_or row x.0 0)
    trying_beside = trying_stands ∙ rw (lt-ltb x.0 b.n trying_other.below)

    -- its test is cut short
    pub trying_cut : limit - made < comparisons goal pull b x.0 → None ≡ tries_of goal pull b first before limit
    trying_cut l = tries_cut goal pull b (leads_at b.n first) before limit (omega (arith, rw c at w.counted, w.within, most (ℕ_discrete (stops_at goal pull b x.0) b.n)))
      where
        most : Dec (stops_at goal pull b x.0 ≡ b.n) → comparisons goal pull b x.0 ≤ (onward goal pull b x.0).made
        most (yes e) = omega (arith, ap (λ (t : Trial). t.made) (onward_passed goal pull b x.0 trying_other e))
        most (no d) = omega (arith, ap (λ (t : Trial). t.made) (onward_held goal pull b x.0 trying_other d))

    module _ (t : Test) (says : (t.stop ≡ below b.n (stops_at goal pull b x.0)) × (t.made ≡ comparisons goal pull b x.0) × (t.made ≤ limit - made)) where
      pub trying_room : made + t.made ≤ limit
      trying_room = omega (arith, w.within, says.2)

      -- it passes
      pub trying_passed : t.stop ≡ None → Some (Passed x.0 (made + t.made)) ≡ tries_of goal pull b first before limit
      trying_passed q =
          let low = none_says b.n (stops_at goal pull b x.0) (sym q ∙ says.0) in
          let one = onward_passed goal pull b x.0 trying_other (stops_low goal pull b x.0 low) in
          tries_passed goal pull b (leads_at b.n first) before limit (made + t.made) (omega (arith, rw c at w.counted, says.1, ap (λ (t : Trial). t.made) one)) trying_room
          x.0 (sym (rw c at w.chosen) ∙ ap (λ (t : Trial). t.chosen) one) trying_other.below

      -- it doesn't, and the next is tried
      pub trying_on : (r : ℕ) → t.stop ≡ Some r → (stops : Option ℕ) → ((stop ≡ None) × (stops ≡ Some r)) ⊎ ((is_some stop ≡ true) × (stops ≡ stop)) → (after : Option (ℕ × ℕ))
          → after ≡ standing row b.n (next goal pull b x.0) → Trying goal pull b row first before limit after stops (made + t.made)
      trying_on r q stops v after a =
          let h = some_says b.n (stops_at goal pull b x.0) r (sym q ∙ says.0) in
          let more = onward_held goal pull b x.0 trying_other (λ e. omega (arith, h.1)) in
          let s = standing_of goal b row after (next goal pull b x.0) (next_on goal pull b x.0) a in
          record {
            at = s.1;
            within = trying_room;
            counted = rw s.0 (omega (arith, rw c at w.counted, says.1, ap (λ (t : Trial). t.made) more));
            chosen = rw s.0 (sym (ap (λ (t : Trial). t.chosen) more) ∙ rw c at w.chosen);
            front = inr (⊎_elim (first_held h) later v);
          }
        where
          at_first : x.0 ≡ leads_at b.n first → stops_at goal pull b x.0 ≡ stops_if goal pull b (leads_at b.n first)
          at_first e = ap (stops_at goal pull b) e ∙ sym (stops_some goal pull b (leads_at b.n first) (λ z. omega (arith, trying_other.below)))

          first_held : (r ≡ stops_at goal pull b x.0) × (stops_at goal pull b x.0 < b.n) → (stop ≡ None) × (stops ≡ Some r)
              → (is_some stops ≡ true) × (stops ≡ below b.n (stops_if goal pull b (leads_at b.n first)))
          first_held h q = (ap is_some q.1, q.1 ∙ below_some b.n _ r (h.0 ∙ at_first (⊎_elim (λ u. rw c at u.1) (λ u. absurd (true≢false (sym u.0 ∙ ap is_some q.0))) w.front)) (omega arith))

          later : (is_some stop ≡ true) × (stops ≡ stop) → (is_some stops ≡ true) × (stops ≡ below b.n (stops_if goal pull b (leads_at b.n first)))
          later q = (ap is_some q.1 ∙ q.0, q.1 ∙ ⊎_elim (λ u. absurd (true≢false (sym q.0 ∙ ap is_some u.0))) (λ u. u.1) w.front)

-- what trying the others comes to, taken apart by its tests
tried_cut_by : (v : Bool) (t : Tries) → None ≡ cond v None (Some t) → v ≡ true
tried_cut_by true t e = refl
tried_cut_by false t e = let z : ◌≡◌ {A = ℕ} 0 1 = cc in absurd (omega arith)

tried_passed_by : (v w : Bool) (c m : ℕ) (stop : Option ℕ) (s made : ℕ) → Some (Passed s made) ≡ cond v None (Some (cond w (Passed c m) (Failed stop m))) → (v ≡ false) × (w ≡ true) × (s ≡ c) × (made ≡ m)
tried_passed_by true w c m stop s made e = let z : ◌≡◌ {A = ℕ} 0 1 = cc in absurd (omega arith)
tried_passed_by false true c m stop s made e = (refl, refl, cc, cc)
tried_passed_by false false c m stop s made e = let z : ◌≡◌ {A = ℕ} 0 1 = cc in absurd (omega arith)

tried_failed_by : (v w : Bool) (c m : ℕ) (stop t : Option ℕ) (made : ℕ) → Some (Failed t made) ≡ cond v None (Some (cond w (Passed c m) (Failed stop m))) → (v ≡ false) × (w ≡ false) × (t ≡ stop) × (made ≡ m)
tried_failed_by true w c m stop t made e = let z : ◌≡◌ {A = ℕ} 0 1 = cc in absurd (omega arith)
tried_failed_by false true c m stop t made e = let z : ◌≡◌ {A = ℕ} 0 1 = cc in absurd (omega arith)
tried_failed_by false false c m stop t made e = (refl, refl, cc, cc)

-- what is known once the goal was tried: it didn't pass; where its test stopped, if it is open; and how many comparisons that took
pub record GoalTried (goal pull : ℕ) (b : Board) (limit : ℕ) (held : Option ℕ) (made : ℕ) : Type 0 where
  pub within : made ≤ limit
  pub shut : passes goal pull b goal ≡ false
  pub stop : ((is_open (mark_at b goal) ≡ false) × (held ≡ None)) ⊎ ((is_open (mark_at b goal) ≡ true) × (held ≡ Some (stops_at goal pull b goal)))
  pub counted : full_count goal pull b ≡ made + (onward goal pull b (next goal pull b b.n)).made

-- the ladder of a limited Take, one law for each end of the function that decides
module _ (goal pull : ℕ) (b : Board) where
  -- the goal isn't open
  pub goal_untried : (limit : ℕ) → (mark_at b goal ≡ waiting → ⊥) → GoalTried goal pull b limit None 0
  unfolding full_count
  goal_untried limit z =
      let o = ne_eqb (mark_at b goal) waiting z in
      record { within = omega arith; shut = goal_shut goal pull b o; stop = inl (o, refl); counted = ap (λ (t : Trial). t.made) (tried_without goal pull b o) ∙ omega arith }

  module _ (o : mark_at b goal ≡ waiting) where
    is_waiting : is_open (mark_at b goal) ≡ true
    is_waiting = eq-eqb (mark_at b goal) waiting o

    -- its test is cut short
    pub goal_cut : (limit : ℕ) → limit < comparisons goal pull b goal → None ≡ limited goal pull b limit
    unfolding limited full_count
    goal_cut limit l = rw (lt-ltb limit (full_count goal pull b) (most (ℕ_discrete (stops_at goal pull b goal) b.n)))
      where
        most : Dec (stops_at goal pull b goal ≡ b.n) → limit < full_count goal pull b
        most (yes e) = omega (arith, ap (λ (t : Trial). t.made) (tried_passed goal pull b is_waiting e))
        most (no d) = omega (arith, ap (λ (t : Trial). t.made) (tried_held goal pull b is_waiting d))

    module _ (limit : ℕ) (t : Test) (says : (t.stop ≡ below b.n (stops_at goal pull b goal)) × (t.made ≡ comparisons goal pull b goal) × (t.made ≤ limit)) where
      -- it passes
      pub goal_found : is_some t.stop ≡ false → decided (Found (label_at b goal)) t.made ≡ limited goal pull b limit
      unfolding limited limited_decision full_count
      goal_found q =
          let e = stops_low goal pull b goal (none_says b.n (stops_at goal pull b goal) (sym (none_of t.stop q) ∙ says.0)) in
          let all : full_count goal pull b ≡ t.made = ap (λ (t : Trial). t.made) (tried_passed goal pull b is_waiting e) ∙ sym says.1 in
          rw (all, le-ltb limit t.made says.2, goal_passes goal pull b is_waiting e)

      -- it doesn't
      pub goal_tried : is_some t.stop ≡ true → GoalTried goal pull b limit t.stop t.made
      unfolding full_count
      goal_tried q =
          let h = some_of t.stop q in
          let w = some_says b.n (stops_at goal pull b goal) h.0 (sym h.1 ∙ says.0) in
          let z : stops_at goal pull b goal ≡ b.n → ⊥ = λ e. omega (arith, w.1) in record {
            within = says.2;
            shut = goal_held goal pull b is_waiting z;
            stop = inr (is_waiting, h.1 ∙ ap Some w.0);
            counted = ap (λ (t : Trial). t.made) (tried_held goal pull b is_waiting z) ∙ omega arith;
          }

  -- the state that Wait carries, where something is open
  stopped_front : (foremost goal pull b ≡ b.n → ⊥) → (f : ℕ) → foremost goal pull b ≡ f → stops_at goal pull b f ≡ stopped_by goal pull b
  unfolding stopped_by
  stopped_front z f e = rw (foremost_some goal pull b z, e)

  stopped_quiet : foremost goal pull b ≡ b.n → first_marked b.mark b.n out ≡ stopped_by goal pull b
  unfolding stopped_by
  stopped_quiet e = rw (foremost_none goal pull b (omega arith))

  -- which of the two it is: the goal, where it is open and the first of the others comes after it or isn't there
  foremost_goal : goal < b.n → is_open (mark_at b goal) ≡ true → (next goal pull b b.n ≡ b.n) ⊎ (follows goal pull b goal (next goal pull b b.n) ≡ true) → foremost goal pull b ≡ goal
  foremost_goal l o w = go (ℕ_discrete (foremost goal pull b) goal)
    where
      there : foremost goal pull b ≡ b.n → ⊥
      there = foremost_there goal pull b goal l o

      go : Dec (foremost goal pull b ≡ goal) → foremost goal pull b ≡ goal
      go (yes e) = e
      go (no d) =
          let first = foremost_first goal pull b there d in
          ⊎_elim (λ e. absurd (there (sym first ∙ e)))
          (λ e. absurd (after_not (key goal pull b) goal (after_on (key goal pull b) goal (foremost goal pull b) goal
          (follows_says goal pull b goal (foremost goal pull b) (λ q. omega arith) (rw first at e)) (foremost_before goal pull b there goal l o (λ q. d (sym q))))))
          w

  foremost_next : Other goal b (next goal pull b b.n) → (is_open (mark_at b goal) ≡ false) ⊎ ((goal < b.n) × (follows goal pull b goal (next goal pull b b.n) ≡ false)) → foremost goal pull b ≡ next goal pull b b.n
  foremost_next u w = sym (foremost_first goal pull b there (λ e. ⊎_elim (shut e) (late e) w))
    where
      there : foremost goal pull b ≡ b.n → ⊥
      there = foremost_there goal pull b (next goal pull b b.n) u.below u.waits

      shut : foremost goal pull b ≡ goal → is_open (mark_at b goal) ≡ false → ⊥
      shut e q = true≢false (sym (foremost_waits goal pull b there goal e) ∙ q)

      late : foremost goal pull b ≡ goal → (goal < b.n) × (follows goal pull b goal (next goal pull b b.n) ≡ false) → ⊥
      late e q =
          true≢false (sym (follows_of goal pull b goal (next goal pull b b.n)
          (rw e at (foremost_before goal pull b there (next goal pull b b.n) u.below u.waits (λ r. u.apart (r ∙ e))))) ∙ q.1)

-- the row that has the keys, and where the two tests stopped, say what Wait carries
module _ (goal pull : ℕ) (b : Board) (row : List ℕ) (k : Keyed goal pull b row) (l : goal < b.n) (limit : ℕ) (held : Option ℕ) (made : ℕ) (g : GoalTried goal pull b limit held made) where
  after_keyed : is_open (mark_at b goal) ≡ true → (t : ℕ) → Other goal b t → comes_after (Some (goal, get_or row goal 0)) t (get_or row t 0) ≡ follows goal pull b goal t
  unfolding follows
  after_keyed o t u = rw (k.at goal l o, k.at t u.below u.waits, ne_eqb goal b.n (λ q. omega arith))

  nothing_open : next goal pull b b.n ≡ b.n → is_open (mark_at b goal) ≡ false → foremost goal pull b ≡ b.n
  nothing_open e o = go (ℕ_discrete (foremost goal pull b) b.n)
    where
      go : Dec (foremost goal pull b ≡ b.n) → foremost goal pull b ≡ b.n
      go (yes q) = q
      go (no z) = sym (foremost_first goal pull b z (λ q. true≢false (sym (foremost_waits goal pull b z goal q) ∙ o))) ∙ e

  front_is : (first : Option (ℕ × ℕ)) → first ≡ standing row b.n (next goal pull b b.n) → (stop : Option ℕ) → stop ≡ below b.n (stops_if goal pull b (next goal pull b b.n))
      → (Other goal b (next goal pull b b.n) → stops_at goal pull b (next goal pull b b.n) < b.n) → (r : ℕ) → r ≡ first_marked b.mark b.n out
      → front_stop (goal, get_or row goal 0) held (option_zip first stop) r ≡ stopped_by goal pull b
  front_is first f stop s m r q = go (next_on goal pull b b.n) g.stop
    where
      first' : ℕ
      first' = next goal pull b b.n

      turn : (v : Bool) → Other goal b first' → is_open (mark_at b goal) ≡ true → follows goal pull b goal first' ≡ v
          → cond v (stops_at goal pull b goal) (stops_at goal pull b first') ≡ stopped_by goal pull b
      turn true u o e = stopped_front goal pull b (foremost_there goal pull b goal l o) goal (foremost_goal goal pull b l o (inr e))
      turn false u o e = stopped_front goal pull b (foremost_there goal pull b goal l o) first' (foremost_next goal pull b u (inr (l, e)))

      -- no other is open
      alone : first' ≡ b.n → option_zip first stop ≡ None
      alone e = rw (f, le-ltb first' b.n (omega arith))

      -- one is, and its test stopped
      beside : Other goal b first' → option_zip first stop ≡ Some ((first', get_or row first' 0), stops_at goal pull b first')
      beside u = rw (f, lt-ltb first' b.n u.below, s, stops_some goal pull b first' (away goal pull b first' u), lt-ltb (stops_at goal pull b first') b.n (m u))

      go : (first' ≡ b.n) ⊎ Other goal b first' → ((is_open (mark_at b goal) ≡ false) × (held ≡ None)) ⊎ ((is_open (mark_at b goal) ≡ true) × (held ≡ Some (stops_at goal pull b goal)))
          → front_stop (goal, get_or row goal 0) held (option_zip first stop) r ≡ stopped_by goal pull b
      go (inl e) (inl w) = rw (alone e, w.1) (q ∙ stopped_quiet goal pull b (nothing_open e w.0))
      go (inl e) (inr w) = rw (alone e, w.1) (stopped_front goal pull b (foremost_there goal pull b goal l w.0) goal (foremost_goal goal pull b l w.0 (inl e)))
      go (inr u) (inl w) = rw (beside u, w.1) (stopped_front goal pull b (foremost_there goal pull b first' u.below u.waits) first' (foremost_next goal pull b u (inl w.0)))
      go (inr u) (inr w) = rw (beside u, w.1, after_keyed w.0 first' u) (turn (follows goal pull b goal first') u w.0 refl)

-- the ends after the others were tried
module _ (goal pull : ℕ) (b : Board) (row : List ℕ) (limit : ℕ) (held : Option ℕ) (made : ℕ) (first : Option (ℕ × ℕ)) (g : GoalTried goal pull b limit held made) (f : first ≡ standing row b.n (next goal pull b b.n)) where
  its_first : leads_at b.n first ≡ next goal pull b b.n
  its_first = (standing_of goal b row first (next goal pull b b.n) (next_on goal pull b b.n) f).0

  all_made : full_count goal pull b ≡ made + (onward goal pull b (leads_at b.n first)).made
  all_made = rw its_first g.counted

  all_chosen : (tried goal pull b (candidates goal pull b)).chosen ≡ (onward goal pull b (leads_at b.n first)).chosen
  all_chosen = rw its_first (tried_chosen goal pull b g.shut (is_open (mark_at b goal)) refl)

  -- what trying the others asks
  pub others_to_try : ToTry goal b row first made limit
  others_to_try = record { start = (standing_of goal b row first (next goal pull b b.n) (next_on goal pull b b.n) f).1; within = g.within }

  pub limits_cut : None ≡ tries_of goal pull b first made limit → None ≡ limited goal pull b limit
  unfolding tries_from limited
  limits_cut e = rw (all_made, tried_cut_by (ltb limit (made + (onward goal pull b (leads_at b.n first)).made)) _ e)

  pub limits_deal : (s m : ℕ) → Some (Passed s m) ≡ tries_of goal pull b first made limit → decided (Deal s) m ≡ limited goal pull b limit
  unfolding tries_from limited limited_decision
  limits_deal s m e =
      let w = tried_passed_by (ltb limit (made + (onward goal pull b (leads_at b.n first)).made)) (ltb (onward goal pull b (leads_at b.n first)).chosen b.n) _ _ _ s m e in
      rw (all_made, w.0, g.shut, busy_open b (something (ltb-true (onward goal pull b (leads_at b.n first)).chosen b.n w.1)), all_chosen, w.1, w.2, w.3)
    where
      something : (onward goal pull b (leads_at b.n first)).chosen < b.n → any_open b ≡ true
      something l =
          ⊎_elim (λ q. absurd (omega (arith, l, ap (λ (t : Trial). t.chosen) (onward_none goal pull b (leads_at b.n first) (its_first ∙ q)))))
          (λ u. foremost_some goal pull b (foremost_there goal pull b _ u.below u.waits))
          (next_on goal pull b b.n)

  module _ (stop : Option ℕ) (m : ℕ) (e : Some (Failed stop m) ≡ tries_of goal pull b first made limit) where
    failed : (ltb limit (made + (onward goal pull b (leads_at b.n first)).made) ≡ false) × (ltb (onward goal pull b (leads_at b.n first)).chosen b.n ≡ false)
        × (stop ≡ below b.n (stops_if goal pull b (leads_at b.n first))) × (m ≡ made + (onward goal pull b (leads_at b.n first)).made)
    unfolding tries_from
    failed =
        tried_failed_by (ltb limit (made + (onward goal pull b (leads_at b.n first)).made)) (ltb (onward goal pull b (leads_at b.n first)).chosen b.n)
        (onward goal pull b (leads_at b.n first)).chosen _ _ stop m e

    none_chosen : b.n ≤ (onward goal pull b (leads_at b.n first)).chosen
    none_chosen = ltb-false (onward goal pull b (leads_at b.n first)).chosen b.n failed.1

    -- none passed and nothing is out: nothing is open
    quiet : any_out b ≡ false → (v : Bool) → any_open b ≡ v → any_open b ≡ false
    quiet u false o = o
    quiet u true o =
        let z = foremost_any goal pull b o in
        absurd (omega (arith, foremost_passes goal pull b u z, foremost_stopped goal pull b g.shut (omega (arith, all_chosen, none_chosen)) z))

    pub limits_quiet : any_out b ≡ false → decided NoPath m ≡ limited goal pull b limit
    unfolding limited limited_decision
    limits_quiet u = rw (all_made, failed.0, g.shut, quiet u (any_open b) refl, u, failed.3)

    pub limits_none : None ≡ below b.n (first_marked b.mark b.n out) → decided NoPath m ≡ limited goal pull b limit
    limits_none n = limits_quiet (out_none b n)

    -- the first of the others didn't pass
    first_stopped : Other goal b (next goal pull b b.n) → stops_at goal pull b (next goal pull b b.n) < b.n
    first_stopped u = go (ℕ_discrete (stops_at goal pull b (next goal pull b b.n)) b.n)
      where
        go : Dec (stops_at goal pull b (next goal pull b b.n) ≡ b.n) → stops_at goal pull b (next goal pull b b.n) < b.n
        go (yes q) = absurd (omega (arith, u.below, rw its_first at none_chosen, ap (λ (t : Trial). t.chosen) (onward_passed goal pull b (next goal pull b b.n) u q)))
        go (no z) = stops_in goal pull b (next goal pull b b.n) z

    pub limits_wait : Keyed goal pull b row → goal < b.n → (t r : ℕ) → Some r ≡ below b.n (first_marked b.mark b.n out) → t ≡ front_stop (goal, get_or row goal 0) held (option_zip first stop) r
        → decided (Wait t) m ≡ limited goal pull b limit
    unfolding limited limited_decision
    limits_wait k l t r q c =
        let o = out_some b r q in
        let w : t ≡ stopped_by goal pull b = c ∙ front_is goal pull b row k l limit held made g first f stop (rw its_first at failed.2) first_stopped r o.1 in
        rw (all_made, failed.0, g.shut, busy_out b o.0, all_chosen, failed.1, o.0, w, failed.3)
