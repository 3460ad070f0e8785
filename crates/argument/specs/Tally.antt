-- Used by nothing yet: order 12 will sum it over a run.
-- What each step deals, loses and finishes, state by state, against the marks before and after it. So that over a run
-- dealt = finished + lost + out, a state is dealt at most once more than it is lost, and it is finished at most once.
use Rattle.std.specs.Prelude.{◌≡◌, refl, ◌≢◌, ◌&&◌, ℕ, ◌+◌, ◌≤◌, leb, eqb}
use Rattle.std.proofs.Math.Decide.{dec_le}
use Rattle.std.proofs.Common.{arith, eq-eqb, ne_eqb, le-leb}
use Rattle.std.proofs.lemmas.Bool.{lt-leb}
use Rattle.laws.specs.Count.{one}
use Rattle.argument.specs.Route.{Graph}
use Rattle.argument.specs.View.{View}
use Rattle.argument.specs.Steps.{at_or}
use Rattle.argument.specs.Good.{Step, deal, touch, advance, finish, lose}

-- 1 of a mark that says out or finished, 0 of every other
abbrev pub shut : ℕ → ℕ
shut k = one (leb 2 k && leb k 3)

shut_yes : (k : ℕ) → 2 ≤ k → k ≤ 3 → shut k ≡ 1
shut_yes k a b = rw (le-leb 2 k a, le-leb k 3 b)

shut_low : (k : ℕ) → k ≤ 1 → shut k ≡ 0
shut_low k a = rw (lt-leb 2 k (omega arith))

shut_high : (k : ℕ) → 4 ≤ k → shut k ≡ 0
shut_high k a = rw (le-leb 2 k (omega arith), lt-leb k 3 (omega arith))

-- 1 of a mark that says finished, 0 of every other
abbrev pub fin : ℕ → ℕ
fin k = one (eqb k 3)

fin_yes : (k : ℕ) → k ≡ 3 → fin k ≡ 1
fin_yes k e = rw (eq-eqb k 3 e)

fin_no : (k : ℕ) → k ≢ 3 → fin k ≡ 0
fin_no k d = rw (ne_eqb k 3 d)

module _ (g : Graph) (n E : ℕ) (h : ℕ → ℕ → ℕ) (start goal count : ℕ) (v w : View) where
  -- how many times the step deals x: 0 or 1
  abbrev pub deals : Step g n E h start goal count v w → ℕ → ℕ
  deals (deal s b u d) x = one (eqb x s)
  deals (touch q d) x = 0
  deals (advance p i d) x = 0
  deals (finish p d) x = 0
  deals (lose p d) x = 0

  -- how many times it loses x
  abbrev pub loses : Step g n E h start goal count v w → ℕ → ℕ
  loses (deal s b u d) x = 0
  loses (touch q d) x = 0
  loses (advance p i d) x = 0
  loses (finish p d) x = 0
  loses (lose p d) x = one (eqb x p)

  -- how many times it finishes x
  abbrev pub finishes : Step g n E h start goal count v w → ℕ → ℕ
  finishes (deal s b u d) x = 0
  finishes (touch q d) x = 0
  finishes (advance p i d) x = 0
  finishes (finish p d) x = one (eqb x p)
  finishes (lose p d) x = 0

  -- a mark that stays counts as before
  shut_same : (x : ℕ) → w.mark x ≡ v.mark x → 0 + shut (v.mark x) ≡ 0 + shut (w.mark x)
  shut_same x e = rw e

  fin_same : (x : ℕ) → w.mark x ≡ v.mark x → 0 + fin (v.mark x) ≡ fin (w.mark x)
  fin_same x e = rw e (omega arith)

  -- dealt, with shut before, is lost, with shut after
  pub tally : (s : Step g n E h start goal count v w) (x : ℕ) → deals s x + shut (v.mark x) ≡ loses s x + shut (w.mark x)
  tally (deal s b u d) x =
      at_or s {P = λ x. one (eqb x s) + shut (v.mark x) ≡ 0 + shut (w.mark x)}
      (rw (eq-eqb s s refl) (dealt (dec_le (v.mark s) 1)))
      (λ x k. rw (ne_eqb x s k) (shut_same x (d.other x k).mark))
      x
    where
      out : shut (w.mark s) ≡ 1
      out = shut_yes (w.mark s) (omega (arith, d.mark)) (omega (arith, d.mark))

      dealt : Dec (v.mark s ≤ 1) → 1 + shut (v.mark s) ≡ 0 + shut (w.mark s)
      dealt (yes a) = omega (arith, out, shut_low (v.mark s) a)
      dealt (no a) = omega (arith, out, shut_high (v.mark s) (omega (arith, d.idle, d.fresh)))
  tally (touch q d) x = at_or q {P = λ x. 0 + shut (v.mark x) ≡ 0 + shut (w.mark x)} (touched (dec_le 2 (v.mark q))) (λ x k. shut_same x (d.other x k).mark) x
    where
      touched : Dec (2 ≤ v.mark q) → 0 + shut (v.mark q) ≡ 0 + shut (w.mark q)
      touched (yes a) = shut_same q (d.kept a).0
      touched (no a) = omega (arith, shut_low (v.mark q) (omega arith), shut_low (w.mark q) (omega (arith, d.opened (omega arith))))
  tally (advance p i d) x = shut_same x (d.mark x)
  tally (finish p d) x = at_or p {P = λ x. 0 + shut (v.mark x) ≡ 0 + shut (w.mark x)} finished (λ x k. shut_same x (d.other x k).mark) x
    where
      out : shut (v.mark p) ≡ 1
      out = shut_yes (v.mark p) (omega (arith, d.out)) (omega (arith, d.out))

      finished : 0 + shut (v.mark p) ≡ 0 + shut (w.mark p)
      finished = omega (arith, out, shut_yes (w.mark p) (omega (arith, d.mark)) (omega (arith, d.mark)))
  tally (lose p d) x =
      at_or p {P = λ x. 0 + shut (v.mark x) ≡ one (eqb x p) + shut (w.mark x)} (rw (eq-eqb p p refl) lost) (λ x k. rw (ne_eqb x p k) (shut_same x (d.other x k).mark)) x
    where
      out : shut (v.mark p) ≡ 1
      out = shut_yes (v.mark p) (omega (arith, d.out)) (omega (arith, d.out))

      lost : 0 + shut (v.mark p) ≡ 1 + shut (w.mark p)
      lost = omega (arith, out, shut_high (w.mark p) (omega (arith, d.mark)))

  -- finished now, with finished before, is finished after
  pub finish_tally : (s : Step g n E h start goal count v w) (x : ℕ) → finishes s x + fin (v.mark x) ≡ fin (w.mark x)
  finish_tally (deal s b u d) x = at_or s {P = λ x. 0 + fin (v.mark x) ≡ fin (w.mark x)} dealt (λ x k. fin_same x (d.other x k).mark) x
    where
      dealt : 0 + fin (v.mark s) ≡ fin (w.mark s)
      dealt = omega (arith, fin_no (v.mark s) d.fresh, fin_no (w.mark s) (omega (arith, d.mark)))
  finish_tally (touch q d) x = at_or q {P = λ x. 0 + fin (v.mark x) ≡ fin (w.mark x)} (touched (dec_le 2 (v.mark q))) (λ x k. fin_same x (d.other x k).mark) x
    where
      touched : Dec (2 ≤ v.mark q) → 0 + fin (v.mark q) ≡ fin (w.mark q)
      touched (yes a) = fin_same q (d.kept a).0
      touched (no a) = omega (arith, fin_no (v.mark q) (omega arith), fin_no (w.mark q) (omega (arith, d.opened (omega arith))))
  finish_tally (advance p i d) x = fin_same x (d.mark x)
  finish_tally (finish p d) x =
      at_or p {P = λ x. one (eqb x p) + fin (v.mark x) ≡ fin (w.mark x)} (rw (eq-eqb p p refl) finished) (λ x k. rw (ne_eqb x p k) (fin_same x (d.other x k).mark)) x
    where
      finished : 1 + fin (v.mark p) ≡ fin (w.mark p)
      finished = omega (arith, fin_no (v.mark p) (omega (arith, d.out)), fin_yes (w.mark p) d.mark)
  finish_tally (lose p d) x = at_or p {P = λ x. 0 + fin (v.mark x) ≡ fin (w.mark x)} lost (λ x k. fin_same x (d.other x k).mark) x
    where
      lost : 0 + fin (v.mark p) ≡ fin (w.mark p)
      lost = omega (arith, fin_no (v.mark p) (omega (arith, d.out)), fin_no (w.mark p) (omega (arith, d.mark)))
