-- What a decision says of the board that it was made on.
-- With nothing out and something open, the open state with the smallest label is safe, so step 4 of Take, refusal 12, is never taken.
use Rattle.std.specs.Prelude.{◌≡◌, ◌≢◌, Bool, ◌&&◌, cond, ℕ, ◌+◌, ◌*◌, ◌≤◌, ◌<◌, leb}
use Rattle.std.proofs.Math.Path.{refl, ap}
use Rattle.std.proofs.Common.{sym, ◌∙◌, inl, inr, arith}
use Rattle.std.proofs.Math.Logic.{⊎_elim}
use Rattle.std.proofs.Math.Bool.{true, false, not, true≢false}
use Rattle.std.proofs.Math.Decide.{ℕ_discrete}
use Rattle.std.proofs.Math.Dec.{ltb}
use borrow.Author.Tests.{ltb-true, ltb-false, leb-true, eqb-true, ne_eqb, le-leb, not-false}
use Rattle.laws.specs.Truth.{and_right, or_either}
use Rattle.laws.specs.First.{first_before, first_none, any_none, any_some}
use Rattle.laws.specs.Least.{least, IsLeast, least_is}
use Rattle.rule.specs.Marks.{waiting, is_open, is_out, is_live}
use Rattle.rule.specs.Rule.{holds_back}
use Rattle.rule.specs.Laws.{independent_is}
use Rattle.dealing.specs.Board.{Board, mark_at, label_at, h, depends_on, first_dependence, safe, choice, any_open, any_out}
use Rattle.dealing.specs.declared.Decision.{Decision}
use Rattle.dealing.specs.declared.Decision.TheVariants.{Found, NoPath, Deal, Stuck, Wait}
use Rattle.dealing.specs.Decision.{waited_for, decision}
use Rattle.dealing.specs.Laws.{safe_open, depends_self, depends_dead, choice_safe, choice_none}

-- s is independent of every other live state
abbrev pub Free : Board → ℕ → Type 0
Free b s = (u : ℕ) → u < b.n → u ≢ s → is_live (mark_at b u) ≡ true → 100 * label_at b s ≤ 100 * label_at b u + b.excess * h b u s

module _ (b : Board) (s : ℕ) where
  -- whether s depends on another live state is one comparison
  depends_live : (u : ℕ) → u ≢ s → is_live (mark_at b u) ≡ true → depends_on b s u ≡ not (leb (100 * label_at b s) (100 * label_at b u + b.excess * h b u s))
  unfolding depends_on holds_back
  depends_live u d l = rw (ne_eqb u s d, l, independent_is (label_at b s) (label_at b u) b.excess (h b u s))

  -- so where it doesn't depend, the inequality of independence holds
  pub independent_of : (u : ℕ) → u ≢ s → is_live (mark_at b u) ≡ true → depends_on b s u ≡ false → 100 * label_at b s ≤ 100 * label_at b u + b.excess * h b u s
  independent_of u d a e = leb-true _ _ (not-false _ (sym (depends_live u d a) ∙ e))

  -- what is safe is free
  pub safe_is_free : safe b s ≡ true → Free b s
  unfolding safe first_dependence
  safe_is_free e u l d a =
      let all : first_dependence b s ≡ b.n = eqb-true (first_dependence b s) b.n (and_right (is_open (mark_at b s)) _ e) in
      independent_of u d a (first_before (depends_on b s) b.n u (omega arith))

  pub free_safe : mark_at b s ≡ waiting → Free b s → safe b s ≡ true
  unfolding first_dependence
  free_safe o f = safe_open b s o (first_none (depends_on b s) b.n (λ u l. go u l (is_live (mark_at b u)) refl (ℕ_discrete u s)))
    where
      go : (u : ℕ) → u < b.n → (a : Bool) → is_live (mark_at b u) ≡ a → Dec (u ≡ s) → depends_on b s u ≡ false
      go u l false e d = depends_dead b s u e
      go u l true e (yes q) = depends_self b s u q
      go u l true e (no d) = depends_live u d e ∙ ap not (le-leb _ _ (f u l d e))

module _ (b : Board) where
  -- where nothing is out and something is open, the open state with the smallest label is safe
  pub some_safe : any_out b ≡ false → any_open b ≡ true → (s : ℕ) × (s < b.n) × (safe b s ≡ true)
  unfolding any_out any_open
  some_safe quiet open' =
      let (x, l, o) = any_some (λ u. is_open (mark_at b u)) b.n open' in
      go x l o (least_is (λ u. is_open (mark_at b u)) (label_at b) b.n b.n (omega arith))
    where
      opens : (u : ℕ) → u < b.n → is_live (mark_at b u) ≡ true → is_open (mark_at b u) ≡ true
      opens u l a =
          ⊎_elim (λ e. e) (λ e. absurd (true≢false (sym e ∙ any_none (λ u. is_out (mark_at b u)) b.n quiet u l))) (or_either (is_open (mark_at b u)) (is_out (mark_at b u)) a)

      go : (x : ℕ) → x < b.n → is_open (mark_at b x) ≡ true
          → IsLeast (λ u. is_open (mark_at b u)) (label_at b) b.n b.n (least (λ u. is_open (mark_at b u)) (label_at b) b.n b.n) → (s : ℕ) × (s < b.n) × (safe b s ≡ true)
      go x l o (inl (e, f)) = absurd (true≢false (sym o ∙ f x l))
      go x l o (inr (k, y, f)) =
          let s : ℕ = least (λ u. is_open (mark_at b u)) (label_at b) b.n b.n in
          (s, k, free_safe b s (eqb-true _ _ y) (λ u i d a. omega (arith, f u i (opens u i a))))

-- what a decision says
abbrev pub Chosen : ℕ → ℕ → Board → Decision → Type 0
Chosen goal pull b (Found cost) = (safe b goal ≡ true) × (cost ≡ label_at b goal)
Chosen goal pull b NoPath = (u : ℕ) → u < b.n → is_live (mark_at b u) ≡ false
Chosen goal pull b (Deal s) = (safe b s ≡ true) × (s ≢ goal) × (s < b.n)
Chosen goal pull b Stuck = ⊥
Chosen goal pull b (Wait s) = (any_out b ≡ true) × ((x : ℕ) → x < b.n → safe b x ≡ false) × (s ≡ waited_for goal pull b)

module _ (goal pull : ℕ) (b : Board) where
  pub chosen : Chosen goal pull b (decision goal pull b)
  unfolding decision any_open any_out
  chosen = go (safe b goal) refl (any_open b) refl (any_out b) refl (ltb (choice goal pull b) b.n) refl
    where
      deal : safe b goal ≡ false → ltb (choice goal pull b) b.n ≡ true → Chosen goal pull b (Deal (choice goal pull b))
      deal e d =
          let l = ltb-true (choice goal pull b) b.n d in
          let f = choice_safe goal pull b l in
          (f, λ q. true≢false (sym f ∙ ap (safe b) q ∙ e), l)

      none : ltb (choice goal pull b) b.n ≡ false → (s : ℕ) → s < b.n → safe b s ≡ false
      none d = choice_none goal pull b (ltb-false (choice goal pull b) b.n d)

      go : (found : Bool) → safe b goal ≡ found → (some : Bool) → any_open b ≡ some → (busy : Bool) → any_out b ≡ busy → (deals : Bool) → ltb (choice goal pull b) b.n ≡ deals
          → Chosen goal pull b (cond found (Found (label_at b goal)) (cond (not some && not busy) NoPath (cond deals (Deal (choice goal pull b)) (cond (not busy) Stuck (Wait (waited_for goal pull b))))))
      go true e some o busy q deals d = (e, refl)
      go false e false o false q deals d = λ u l. rw (any_none (λ u. is_open (mark_at b u)) b.n o u l, any_none (λ u. is_out (mark_at b u)) b.n q u l)
      go false e false o true q true d = deal e d
      go false e false o true q false d = (q, none d, refl)
      go false e true o busy q true d = deal e d
      go false e true o false q false d = let (s, l, f) = some_safe b q o in true≢false (sym f ∙ none d s l)
      go false e true o true q false d = (q, none d, refl)
