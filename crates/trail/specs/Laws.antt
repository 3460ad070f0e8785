-- What going back comes to, state by state, what its two loops know, and what callers use of a path.
use Rattle.std.specs.Prelude.{◌≡◌, Bool, cond, Some, None, get_or, take, drop, set, ltb}
use Rattle.std.proofs.Math.Path.{refl}
use Rattle.std.proofs.Common.{sym, ap, ◌∙◌, add-zero, add-one, length-set, take-append-drop}
use Rattle.std.proofs.Math.Bool.{true, false}
use mathlib.Core.List.{List, [], ◌∷◌, ◌++◌}
use Prim.Native.Nat.{ℕ, zero, suc, ◌+◌, ◌-◌, ◌≤◌, ◌<◌}
use Rattle.std.proofs.Math.Nat.{sub-zero}
use native.Mathlib.Omega.{arith}
use Rattle.std.proofs.Math.ListN.{length}
use borrow.Author.Tests.{ltb-true, eqb-true}
use Rattle.laws.specs.Truth.{and_left, and_right}
use Rattle.laws.specs.Part.{set_last}
use Rattle.rule.specs.Task.{passage_count, near, far, is_clear}
use Rattle.trail.specs.Seen.{counted}
use Rattle.trail.specs.Trail.{Trail, step_back, home_at, is_home, is_linked, linked_at, go_back, path}

-- the state before s
abbrev pub came_from : Trail → ℕ → ℕ
came_from t s = step_back t.passages t.via s

-- every passage comes from a place of the rows: what condition 4 gives
abbrev pub Inside : List ℕ → Type 0
Inside passages = (i : ℕ) → i < passage_count passages → near passages i < 256

-- going back without its tests: so many states back from s, in front of those met so far
unfoldable pub states_back : List ℕ → List ℕ → ℕ → ℕ → List ℕ → List ℕ
states_back passages via zero s met = met
states_back passages via (suc more) s met = states_back passages via more (step_back passages via s) (s ∷ met)

-- they are so many more than those met
pub states_length : (passages via : List ℕ) (more s : ℕ) (met : List ℕ) → length (states_back passages via more s met) ≡ more + length met
unfolding states_back
states_length passages via zero s met = omega arith
states_length passages via (suc more) s met = states_length passages via more (step_back passages via s) (s ∷ met) ∙ omega arith

-- so many states back from s, one at least, can be followed and written
unfoldable pub Followed : List ℕ → List ℕ → ℕ → ℕ → Type 0
Followed passages via zero s = ⊥
Followed passages via (suc zero) s = s < 256
Followed passages via (suc (suc more)) s = (s < 256) × (get_or via s 0 < passage_count passages) × Followed passages via (suc more) (step_back passages via s)

-- The passage of a linked state is one, isn't blocked, and ends at the state.
module _ (passages label via : List ℕ) (s : ℕ) (e : is_linked passages label via s ≡ true) where
  pub linked_via : get_or via s 0 < passage_count passages
  unfolding is_linked
  linked_via = ltb-true _ _ (and_left _ _ e)

  linked_clear : is_clear passages (get_or via s 0) ≡ true
  unfolding is_linked
  linked_clear = and_left _ _ (and_right (ltb (get_or via s 0) (passage_count passages)) _ e)

  linked_far : far passages (get_or via s 0) ≡ s
  unfolding is_linked
  linked_far =
      eqb-true _ _ (and_left _ _ (and_right (is_clear passages (get_or via s 0)) _ (and_right (ltb (get_or via s 0) (passage_count passages)) _ e)))

-- Going back from s: it is at home, or goes on from a linked state, or else fails.
module _ (t : Trail) (more s : ℕ) (met : List ℕ) where
  pub back_home : home_at t s ≡ true → go_back t (suc more) s met ≡ s ∷ met
  unfolding go_back
  back_home h = rw h

  pub back_broken : home_at t s ≡ false → linked_at t s ≡ false → go_back t (suc more) s met ≡ []
  unfolding go_back
  back_broken h k = rw (h, k)

  pub back_linked : home_at t s ≡ false → linked_at t s ≡ true → go_back t (suc more) s met ≡ go_back t more (came_from t s) (s ∷ met)
  unfolding go_back
  back_linked h k = rw (h, k)

  back_either : (P : List ℕ → Type 0) → P [] → (home_at t s ≡ true → P (s ∷ met)) → (linked_at t s ≡ true → P (go_back t more (came_from t s) (s ∷ met)))
      → P (go_back t (suc more) s met)
  unfolding go_back
  back_either P none home on = go (home_at t s) refl (linked_at t s) refl
    where
      go : (h : Bool) → home_at t s ≡ h → (k : Bool) → linked_at t s ≡ k → P (cond h (s ∷ met) (cond k (go_back t more (came_from t s) (s ∷ met)) []))
      go true h k l = home h
      go false h true l = on l
      go false h false l = none

pub back_none : (t : Trail) (s : ℕ) (met : List ℕ) → go_back t 0 s met ≡ []
unfolding go_back
back_none t s met = refl

-- At most so many states are met.
back_within : (t : Trail) (more s : ℕ) (met : List ℕ) → length (go_back t more s met) ≤ more + length met
back_within t zero s met = rw (back_none t s met) (omega arith)
back_within t (suc more) s met =
    back_either t more s met (λ xs. length xs ≤ suc more + length met) (omega arith) (λ h. omega arith)
    (λ k. omega (arith, back_within t more (came_from t s) (s ∷ met)))

pub path_within : (t : Trail) → length (path t) ≤ t.n
path_within t = omega (arith, back_within t t.n t.goal [])

-- Where going back came home, its states are those of going back without the tests, and these can be followed.
record Came (passages via : List ℕ) (s : ℕ) (met states : List ℕ) : Type 0 where
  more : ℕ
  same : states ≡ states_back passages via (suc more) s met
  followed : Followed passages via (suc more) s

module _ (t : Trail) (inside : Inside t.passages) where
  back_came : (more s : ℕ) (met : List ℕ) → s < 256 → (length (go_back t more s met) ≡ 0 → ⊥) → Came t.passages t.via s met (go_back t more s met)
  unfolding states_back Followed
  back_came zero s met l = λ z. absurd (z (ap length (back_none t s met)))
  back_came (suc more) s met l =
      back_either t more s met (λ xs. (length xs ≡ 0 → ⊥) → Came t.passages t.via s met xs) (λ z. absurd (z refl))
      (λ h z. record { more = 0; same = refl; followed = l })
      (λ k z.
      let v = linked_via t.passages t.label t.via s k in
      let c = back_came more (came_from t s) (s ∷ met) (inside _ v) z in
      record { more = suc c.more; same = c.same; followed = (l, v, c.followed) })

  module _ (l : t.goal < 256) (z : length (path t) ≡ 0 → ⊥) where
    came : Came t.passages t.via t.goal [] (path t)
    came = back_came t.n t.goal [] l z

    came_many : length (path t) ≡ suc came.more
    came_many = ap length came.same ∙ states_length t.passages t.via (suc came.more) t.goal [] ∙ add-zero (suc came.more)

    -- a path that going back found can be followed and written
    pub path_followed : Followed t.passages t.via (length (path t)) t.goal
    path_followed = rw came_many came.followed

    pub path_states : path t ≡ states_back t.passages t.via (length (path t)) t.goal []
    path_states = came.same ∙ ap (λ (k : ℕ). states_back t.passages t.via k t.goal []) (sym came_many)

-- What going back knows after i states, at s: those met, and that it goes on to the path.
pub record Gone (t : Trail) (s i : ℕ) : Type 0 where
  pub met : List ℕ
  pub many : length met ≡ i
  pub same : go_back t (t.n - i) s met ≡ path t
  pub within : i ≤ t.n
  pub inside : s < 256

pub gone_zero : (t : Trail) → t.goal < 256 → Gone t t.goal 0
gone_zero t l = record { met = []; many = refl; same = rw sub-zero; within = omega arith; inside = l }

module _ (t : Trail) (s i : ℕ) (g : Gone t s i) where
  pub gone_end : t.n ≤ i → None ≡ counted (length (path t))
  gone_end e = let z : t.n - i ≡ 0 = omega arith in ap (λ (xs : List ℕ). counted (length xs)) (sym (back_none t s g.met) ∙ (rw z at g.same))

  module _ (l : i < t.n) where
    gone_on : go_back t (suc (t.n - (i + 1))) s g.met ≡ path t
    gone_on = let q : t.n - i ≡ suc (t.n - (i + 1)) = omega arith in rw q at g.same

    pub gone_found : home_at t s ≡ true → Some (i + 1) ≡ counted (length (path t))
    gone_found h = rw (← gone_on, back_home t _ s g.met h, g.many, add-one)

    pub gone_broken : home_at t s ≡ false → linked_at t s ≡ false → None ≡ counted (length (path t))
    gone_broken h k = rw (← gone_on, back_broken t _ s g.met h k)

    pub gone_more : (before : ℕ) → Inside t.passages → home_at t s ≡ false → linked_at t s ≡ true → before ≡ came_from t s → Gone t before (i + 1)
    gone_more before inside h k e = record {
      met = s ∷ g.met;
      many = omega (arith, g.many);
      same = rw e (sym (back_linked t _ s g.met h k) ∙ gone_on);
      within = omega arith;
      inside = rw e (inside _ (linked_via t.passages t.label t.via s k));
    }

-- where states can be followed there is one, and it is a place of the rows
pub followed_inside : (passages via : List ℕ) (count s : ℕ) → Followed passages via count s → (1 ≤ count) × (s < 256)
unfolding Followed
followed_inside passages via zero s f = absurd f
followed_inside passages via (suc zero) s f = (omega arith, f)
followed_inside passages via (suc (suc more)) s f = (omega arith, f.0)

-- what the answer says of the number
pub counted_some : (n k : ℕ) → Some k ≡ counted n → (k ≡ n) × (n ≡ 0 → ⊥)
counted_some zero k e = let z : ◌≡◌ {A = ℕ} 0 1 = cc in absurd (omega arith)
counted_some (suc n) k e = (cc, λ z. omega arith)

pub counted_none : (n : ℕ) → None ≡ counted n → n ≡ 0
counted_none zero e = refl
counted_none (suc n) e = let z : ◌≡◌ {A = ℕ} 0 1 = cc in absurd (omega arith)

-- What writing knows at s, with so many places left before it: s and those met before it stand in front of what comes after the first count places, and what is left goes on to all of them.
pub record Written (passages via : List ℕ) (goal count : ℕ) (part₀ part : List ℕ) (s left : ℕ) : Type 0 where
  pub met : List ℕ
  pub same : states_back passages via (suc left) s met ≡ states_back passages via count goal []
  pub followed : Followed passages via (suc left) s
  pub room : left < count
  pub fits : count ≤ length part₀
  pub long : length part ≡ length part₀
  pub done : part ≡ take left part₀ ++ ((s ∷ met) ++ drop count part₀)

-- a state written at the last of the places that are left
written_at : (part₀ part rest : List ℕ) (s left : ℕ) → part ≡ take (suc left) part₀ ++ rest → left < length part₀ → set part left s ≡ take left part₀ ++ (s ∷ rest)
written_at part₀ part rest s left e l = rw (e, ← add-one) (set_last part₀ rest left s l)

module _ (passages via : List ℕ) (goal count : ℕ) where
  pub written_goal : (part : List ℕ) → Followed passages via count goal → count ≤ length part → Written passages via goal count part (set part (count - 1) goal) goal (count - 1)
  written_goal part f r =
      let h = followed_inside passages via count goal f in
      let q : count ≡ suc (count - 1) = omega arith in
      record {
        met = [];
        same = rw (← q);
        followed = rw q at f;
        room = omega arith;
        fits = r;
        long = length-set part (count - 1) goal;
        done = written_at part part (drop count part) goal (count - 1) (rw (← q) (sym (take-append-drop count part))) (omega arith);
      }

  -- with a place left, the state before s is one, and is written there
  module _ (part₀ part : List ℕ) (s i : ℕ) (w : Written passages via goal count part₀ part s i) (l : 0 < i) where
    one_more : i ≡ suc (i - 1)
    one_more = omega arith

    written_before : (s < 256) × (get_or via s 0 < passage_count passages) × Followed passages via (suc (i - 1)) (step_back passages via s)
    unfolding Followed
    written_before = rw one_more at w.followed

    pub written_onward : (s < 256) × (get_or via s 0 < passage_count passages)
    written_onward = (written_before.0, written_before.1)

    pub written_inside : step_back passages via s < 256
    written_inside = (followed_inside passages via _ _ written_before.2).1

    pub written_more : (before : ℕ) → before ≡ step_back passages via s → Written passages via goal count part₀ (set part (i - 1) before) before (i - 1)
    unfolding states_back
    written_more before e = record {
      met = s ∷ w.met;
      same = rw e (rw one_more at w.same);
      followed = rw e written_before.2;
      room = omega (arith, w.room);
      fits = w.fits;
      long = length-set part (i - 1) before ∙ w.long;
      done = written_at part₀ part _ before (i - 1) (rw one_more at w.done) (omega (arith, w.room, w.fits));
    }

  pub written_end : (part₀ part : List ℕ) (s : ℕ) → Written passages via goal count part₀ part s 0 → part ≡ states_back passages via count goal [] ++ drop count part₀
  unfolding states_back
  written_end part₀ part s w = w.done ∙ rw (← w.same)

-- a passage that isn't blocked leads from a to b
abbrev pub Leads : List ℕ → ℕ → ℕ → Type 0
Leads passages a b = (p : ℕ) × (p < passage_count passages) × (is_clear passages p ≡ true) × (near passages p ≡ a) × (far passages p ≡ b)

-- states from one to another, each joined to the next by a passage that isn't blocked
pub record Joined (passages : List ℕ) (from to : ℕ) (states : List ℕ) : Type 0 where
  pub first : get_or states 0 0 ≡ from
  pub last : (i : ℕ) → suc i ≡ length states → get_or states i 0 ≡ to
  pub links : (i : ℕ) → suc i < length states → Leads passages (get_or states i 0) (get_or states (suc i) 0)

module _ (t : Trail) where
  joined_one : (s : ℕ) → Joined t.passages s s (s ∷ [])
  joined_one s = record { first = refl; last = λ i e. let z : i ≡ 0 = omega arith in rw z; links = λ i l. absurd (omega arith) }

  -- one state more, that a linked state's passage comes from
  module _ (s : ℕ) (met : List ℕ) (k : linked_at t s ≡ true) (j : Joined t.passages s t.goal (s ∷ met)) where
    joined_more : Joined t.passages (came_from t s) t.goal (came_from t s ∷ s ∷ met)
    joined_more = record { first = refl; last = last; links = links }
      where
        last : (i : ℕ) → suc i ≡ length (came_from t s ∷ s ∷ met) → get_or (came_from t s ∷ s ∷ met) i 0 ≡ t.goal
        last zero e = absurd (omega arith)
        last (suc i) e = j.last i (omega arith)

        links : (i : ℕ) → suc i < length (came_from t s ∷ s ∷ met)
            → Leads t.passages (get_or (came_from t s ∷ s ∷ met) i 0) (get_or (s ∷ met) i 0)
        links zero l = (get_or t.via s 0, linked_via t.passages t.label t.via s k, linked_clear t.passages t.label t.via s k, refl, linked_far t.passages t.label t.via s k)
        links (suc i) l = j.links i (omega arith)

  back_joined : (more s : ℕ) (met : List ℕ) → Joined t.passages s t.goal (s ∷ met) → (length (go_back t more s met) ≡ 0 → ⊥)
      → Joined t.passages t.start t.goal (go_back t more s met)
  unfolding is_home
  back_joined zero s met j = λ z. absurd (z (ap length (back_none t s met)))
  back_joined (suc more) s met j =
      back_either t more s met (λ xs. (length xs ≡ 0 → ⊥) → Joined t.passages t.start t.goal xs) (λ z. absurd (z refl))
      (λ h z. record { first = eqb-true s t.start (and_left _ _ h); last = j.last; links = j.links })
      (λ k z. back_joined more (came_from t s) (s ∷ met) (joined_more s met k j) z)

  -- a path that going back found leads from the start to the goal, and uses no blocked passage
  pub path_joined : (length (path t) ≡ 0 → ⊥) → Joined t.passages t.start t.goal (path t)
  path_joined = back_joined t.n t.goal [] (joined_one t.goal)
