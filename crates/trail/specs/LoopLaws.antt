-- Steps of loops over these definitions: the states of a path counted from the goal on, and written last place first.
use Rattle.std.specs.Prelude.{◌≡◌, get_or, take, drop, set}
use Rattle.std.proofs.Math.Path.{refl}
use Rattle.std.proofs.Common.{sym, ◌∙◌, length-set, take-append-drop}
use mathlib.Core.List.{List, [], ◌∷◌, ◌++◌}
use Prim.Native.Nat.{ℕ, zero, suc, ◌+◌, ◌-◌, ◌≤◌, ◌<◌}
use Rattle.std.proofs.Math.Nat.{sub-zero}
use native.Mathlib.Omega.{arith}
use Rattle.std.proofs.Math.ListN.{length}
use Rattle.laws.specs.Part.{set_last}
use Rattle.rule.specs.Task.{passage_count}
use Rattle.trail.specs.Trail.{step_back}
use Rattle.trail.specs.Laws.{states_back, Followed, followed_inside}

-- What writing knows after i states, at s: those met stand at the last of the first count places, and what is left goes on to all of them.
pub record Written (passages via : List ℕ) (goal count : ℕ) (part₀ part : List ℕ) (s i : ℕ) : Type 0 where
  pub met : List ℕ
  pub same : states_back passages via (count - i) s met ≡ states_back passages via count goal []
  pub followed : Followed passages via (count - i) s
  pub inside : s < 256
  pub within : i + 1 ≤ count
  pub room : count ≤ length part₀
  pub long : length part ≡ length part₀
  pub done : part ≡ take (count - i) part₀ ++ (met ++ drop count part₀)

pub written_zero : (passages via : List ℕ) (goal count : ℕ) (part : List ℕ) → Followed passages via count goal → count ≤ length part → Written passages via goal count part part goal 0
written_zero passages via goal count part f r =
    let h = followed_inside passages via count goal f in
    record {
      met = [];
      same = rw sub-zero;
      followed = rw sub-zero f;
      inside = h.1;
      within = h.0;
      room = r;
      long = refl;
      done = rw sub-zero (sym (take-append-drop count part));
    }

module _ (passages via : List ℕ) (goal count : ℕ) (part₀ part : List ℕ) (s i : ℕ) (w : Written passages via goal count part₀ part s i) where
  written_store : set part (count - 1 - i) s ≡ take (count - (i + 1)) part₀ ++ ((s ∷ w.met) ++ drop count part₀)
  written_store =
      let p : count - i ≡ count - 1 - i + 1 = omega arith in
      let q : count - (i + 1) ≡ count - 1 - i = omega arith in
      rw (w.done, p, q) (set_last part₀ _ (count - 1 - i) s (omega arith))

  written_left : i + 1 < count → (get_or via s 0 < passage_count passages) × Followed passages via (count - (i + 1)) (step_back passages via s)
  unfolding Followed
  written_left l =
      let q : count - i ≡ suc (suc (count - (i + 2))) = omega arith in
      let q' : count - (i + 1) ≡ suc (count - (i + 2)) = omega arith in
      let f : Followed passages via (suc (suc (count - (i + 2)))) s = rw q at w.followed in
      (f.1, rw q' f.2)

  written_same : states_back passages via (count - (i + 1)) (step_back passages via s) (s ∷ w.met) ≡ states_back passages via count goal []
  unfolding states_back
  written_same = let q : count - i ≡ suc (count - (i + 1)) = omega arith in rw q at w.same

  pub written_onward : i + 1 < count → get_or via s 0 < passage_count passages
  written_onward l = (written_left l).0

  pub written_more : (before : ℕ) → i + 1 < count → before ≡ step_back passages via s → Written passages via goal count part₀ (set part (count - 1 - i) s) before (i + 1)
  written_more before l e =
      let f : Followed passages via (count - (i + 1)) before = rw e (written_left l).1 in
      record {
        met = s ∷ w.met;
        same = rw e written_same;
        followed = f;
        inside = (followed_inside passages via (count - (i + 1)) before f).1;
        within = omega arith;
        room = w.room;
        long = length-set part (count - 1 - i) s ∙ w.long;
        done = written_store;
      }

  pub written_end : count ≤ i + 1 → set part (count - 1 - i) s ≡ states_back passages via count goal [] ++ drop count part₀
  unfolding states_back
  written_end l =
      let z : count - (i + 1) ≡ 0 = omega arith in
      let all : s ∷ w.met ≡ states_back passages via count goal [] = rw z at written_same in
      written_store ∙ rw (z, ← all)
