-- Passage i of a span is passage 128 b + i of all, and each lies in a span.
use Rattle.std.specs.Prelude.{◌≡◌, true, List, ℕ, ◌+◌, ◌*◌, ◌-◌, ◌/◌, ◌%◌, ◌≤◌, ◌<◌, length, get_or, take, drop}
use Rattle.std.proofs.Common.{rules, refl, min, sym, ap, subst, ◌∙◌, arith}
use Rattle.std.proofs.lemmas.List.{get_or-take, get_or-drop, length-take, length-drop}
use Rattle.laws.specs.All.{all, all_at, all_of}
use Rattle.laws.specs.Truth.{same_truth}
use Rattle.laws.specs.Ranges.{all_over}
use Rattle.rule.specs.Task.{passage_count, near, is_clear}
use Rattle.checks.specs.Opening.{passage_right, passages_right}
use Rattle.checks.proofs.opening.passages_right.Goals as goal

module _ (passages : List ℕ) (n : ℕ) where
  abbrev size : ℕ → ℕ
  size b = min (length passages) (384 * b + 384) - 384 * b

  abbrev span : ℕ → List ℕ
  span b = take (size b) (drop (384 * b) passages)

  long : (b : ℕ) → length (span b) ≡ size b
  long b = length-take (size b) (drop (384 * b) passages) ∙ omega (arith, length-drop (384 * b) passages)

  number : (b j : ℕ) → j < size b → get_or (span b) j 0 ≡ get_or passages (384 * b + j) 0
  number b j l = get_or-take (size b) (drop (384 * b) passages) j 0 l ∙ get_or-drop (384 * b) passages j 0

  at : (b i k : ℕ) → k ≤ 2 → i < passage_count (span b) → get_or (span b) (3 * i + k) 0 ≡ get_or passages (3 * (128 * b + i) + k) 0
  at b i k m l =
      number b (3 * i + k) (omega (arith, m, l, long b))
      ∙ ap (λ (j : ℕ). get_or passages j 0) (let e : 384 * b + (3 * i + k) ≡ 3 * (128 * b + i) + k = omega arith in e)

  one : (b i : ℕ) → i < passage_count (span b) → passage_right (span b) n i ≡ passage_right passages n (128 * b + i)
  unfolding is_clear
  one b i l =
      let first : near (span b) i ≡ near passages (128 * b + i) =
      ap (λ (j : ℕ). get_or (span b) j 0) (let e : 3 * i ≡ 3 * i + 0 = omega arith in e) ∙ at b i 0 (omega arith) l
      ∙ ap (λ (j : ℕ). get_or passages j 0) (let e : 3 * (128 * b + i) + 0 ≡ 3 * (128 * b + i) = omega arith in e) in
      rw (first, at b i 1 (omega arith) l, at b i 2 (omega arith) l) refl

  spans : all (λ b. passages_right (span b) n) (length passages / 384 + 1) ≡ passages_right passages n
  unfolding passages_right
  spans =
      same_truth _ _
      (λ e. all_of _ (passage_count passages) (λ x l.
      let b = x / 128 in
      let i = x % 128 in
      let inside : i < passage_count (span b) = omega (arith, l, long b) in
      let place : 128 * b + i ≡ x = omega arith in
      subst (λ (k : ℕ). passage_right passages n k ≡ true) place
      (sym (one b i inside) ∙ all_at _ (passage_count (span b)) i (all_at _ (length passages / 384 + 1) b e (omega (arith, l))) inside)))
      (λ e. all_of _ (length passages / 384 + 1) (λ b l. all_of _ (passage_count (span b)) (λ i m. one b i m ∙ all_at _ (passage_count passages) (128 * b + i) e (omega (arith, m, l, long b)))))

pub returns : goal.returns
returns c =
    all_over _ _ (λ b. passages_right (span c.args.passages.now c.args.n b) c.args.n) (λ x r f h. search rules) _ refl _ c.all.ensures.runs
    ∙ spans c.args.passages.now c.args.n
