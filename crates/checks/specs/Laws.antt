-- What a task, a passage slice, a table or a machine's rows have once they passed the checks, as facts for the callers.
use Rattle.std.specs.Prelude.{◌≡◌, refl, Bool, true, false, ◌&&◌, ◌||◌, not, List, ℕ, ◌+◌, ◌*◌, ◌%◌, ◌≤◌, ◌<◌, length, set, replicate, ltb, leb, Result, Ok, Err}
use Rattle.std.proofs.Math.Path.{sym, ap}
use Rattle.std.proofs.Common.{◌∙◌, ⊎_elim, arith, get_or-set_same}
use Rattle.std.proofs.Math.Decide.{ℕ_discrete}
use Rattle.std.proofs.Math.ListN.{get_or, length-set}
use Rattle.std.proofs.lemmas.List.{length-replicate, get_or-replicate}
use Rattle.std.proofs.Math.Seq.{get_or-set_other}
use Rattle.std.proofs.Math.Dec.{eqb}
use borrow.Author.Tests.{ltb-true, leb-true, eqb-true, eq-eqb, ne_eqb, le-leb}
use Rattle.laws.specs.Truth.{and_left, and_right, or_either, provided, provided_ok, not_refused}
use Rattle.laws.specs.Count.{count_zero, count_yes, count_no, count_max}
use Rattle.laws.specs.LargestLaws.{largest, largest_at}
use Rattle.laws.specs.All.{all, all_at, all_stop, all_of}
use Rattle.rule.specs.Task.{passage_count, near, far, cost, is_clear, estimate}
use Rattle.rule.specs.Laws.{WholeTable}
use Rattle.rule.specs.declared.refusals.Refusal.{Refusal}
use Rattle.rule.specs.declared.refusals.Refusal.TheVariants.{BadSizes, BadEnds, BadWeights, BadPassage, BadEstimate, AbovePassage, AboveDetour}
use Rattle.rule.specs.Marks.{is_out, none}
use Rattle.checks.specs.Opening.{Task, sizes_right, ends_right, weights_right, passage_right, passages_right, row_right, estimates_right, detours_by, early_fault, fault, holds1, holds2, holds3, holds4, holds5, holds6, holds7}
use Rattle.checks.specs.Fits.{worker_right, labels_right, workers_right, holders}

-- what conditions 1 to 4 say, as facts
pub record Right (t : Task) : Type 0 where
  pub some : 1 ≤ t.n
  pub states : t.n ≤ 256
  pub workers : t.k ≤ 32
  pub threes : length t.passages % 3 ≡ 0
  pub few : length t.passages ≤ 12288
  pub table : length t.estimates ≡ t.n * t.n
  pub start_in : t.start < t.n
  pub goal_in : t.goal < t.n
  pub least : 100 ≤ t.excess
  pub most : t.excess ≤ 10000
  pub pulled : t.pull ≤ t.excess
  pub listed : passages_right t.passages t.n ≡ true

-- the first four conditions, each true
pub record Early (t : Task) : Type 0 where
  pub first : holds1 t ≡ true
  pub second : holds2 t ≡ true
  pub third : holds3 t ≡ true
  pub fourth : holds4 t ≡ true

pub early : (t : Task) → early_fault t ≡ Ok tt → Early t
unfolding early_fault
early t e =
    let a = provided_ok (holds1 t) BadSizes _ e in
    let b = provided_ok (holds2 t) BadEnds _ a.1 in
    let c = provided_ok (holds3 t) BadWeights _ b.1 in
    let d = provided_ok (holds4 t) BadPassage _ c.1 in
    record { first = a.0; second = b.0; third = c.0; fourth = d.0 }

pub right : (t : Task) → early_fault t ≡ Ok tt → Right t
unfolding sizes_right ends_right weights_right
right t e =
    let h = early t e in
    let sizes = and_right (leb 1 t.n && leb t.n 256) _ h.first in
    let range = and_left (leb 1 t.n && leb t.n 256) _ h.first in
    let slices = and_right (leb 1 t.k && leb t.k 32) _ sizes in
    let passages = and_left (eqb (length t.passages % 3) 0 && leb (length t.passages) 12288) _ slices in
    let weights = and_left (leb 100 t.excess && leb t.excess 10000) _ h.third in
    record {
      some = leb-true _ _ (and_left (leb 1 t.n) _ range);
      states = leb-true _ _ (and_right (leb 1 t.n) _ range);
      workers = leb-true _ _ (and_right (leb 1 t.k) _ (and_left (leb 1 t.k && leb t.k 32) _ sizes));
      threes = eqb-true _ _ (and_left (eqb (length t.passages % 3) 0) _ passages);
      few = leb-true _ _ (and_right (eqb (length t.passages % 3) 0) _ passages);
      table = eqb-true _ _ (and_right (eqb (length t.passages % 3) 0 && leb (length t.passages) 12288) _ slices);
      start_in = ltb-true _ _ (and_left (ltb t.start t.n) _ h.second);
      goal_in = ltb-true _ _ (and_right (ltb t.start t.n) _ h.second);
      least = leb-true _ _ (and_left (leb 100 t.excess) _ weights);
      most = leb-true _ _ (and_right (leb 100 t.excess) _ weights);
      pulled = leb-true _ _ (and_right (leb 100 t.excess && leb t.excess 10000) _ h.third);
      listed = h.fourth;
    }

pub whole : (t : Task) → Right t → WholeTable t.estimates t.n
whole t r = record { states = r.states; table = r.table }

-- where 1 to 4 apply to nothing, 5 to 7 decide
pub fault_late : (t : Task) → early_fault t ≡ Ok tt → fault t ≡ provided (holds5 t) (Err BadEstimate) (provided (holds6 t) (Err AbovePassage) (provided (holds7 t) (Err AboveDetour) (Ok tt)))
unfolding fault
fault_late t e = let h = early t e in rw (h.first, h.second, h.third, h.fourth)

-- the ladder of 1 to 4, over what stands past it
abbrev ladder : Bool → Bool → Bool → Bool → Result (Unit {0}) Refusal → Result (Unit {0}) Refusal
ladder a b c d late = provided a (Err BadSizes) (provided b (Err BadEnds) (provided c (Err BadWeights) (provided d (Err BadPassage) late)))

-- where it stops, it doesn't depend on that
ladder_stops : (a b c d : Bool) (late : Result (Unit {0}) Refusal) (refusal : Refusal) → ladder a b c d (Ok tt) ≡ Err refusal → Err refusal ≡ ladder a b c d late
ladder_stops false b c d late refusal e = sym e
ladder_stops true false c d late refusal e = sym e
ladder_stops true true false d late refusal e = sym e
ladder_stops true true true false late refusal e = sym e
ladder_stops true true true true late refusal e = absurd (not_refused e)

-- where one of 1 to 4 applies, it is the one given
pub fault_early : (t : Task) (refusal : Refusal) → early_fault t ≡ Err refusal → Err refusal ≡ fault t
unfolding early_fault fault
fault_early t refusal e = ladder_stops (holds1 t) (holds2 t) (holds3 t) (holds4 t) _ refusal e

-- what opening accepts passes 1 to 4
pub fault_none : (t : Task) → fault t ≡ Ok tt → early_fault t ≡ Ok tt
fault_none t z = go (early_fault t) refl
  where
    go : (r : Result (Unit {0}) Refusal) → early_fault t ≡ r → early_fault t ≡ Ok tt
    go (Ok u) e = e
    go (Err refusal) e = absurd (not_refused (sym z ∙ sym (fault_early t refusal e)))

-- of a passage slice that passed check 4
module _ (passages : List ℕ) (n : ℕ) (e : passages_right passages n ≡ true) (i : ℕ) (l : i < passage_count passages) where
  passage_at_lem : passage_right passages n i ≡ true
  unfolding passages_right
  passage_at_lem = all_at (passage_right passages n) (passage_count passages) i e l

  ends_at : (ltb (near passages i) n && ltb (far passages i) n) ≡ true
  ends_at = and_left _ (not (is_clear passages i) || leb (cost passages i) 1000000) passage_at_lem

  pub near_in : near passages i < n
  near_in = ltb-true _ _ (and_left _ (ltb (far passages i) n) ends_at)

  pub far_in : far passages i < n
  far_in = ltb-true _ _ (and_right (ltb (near passages i) n) _ ends_at)

  pub cost_in : is_clear passages i ≡ true → cost passages i ≤ 1000000
  cost_in k = leb-true _ _ (rw k at (and_right (ltb (near passages i) n && ltb (far passages i) n) (not (is_clear passages i) || leb (cost passages i) 1000000) passage_at_lem))

-- an estimate that is too large settles its row
pub row_stop : (estimates : List ℕ) (n a b : ℕ) → leb (estimate estimates n a b) 255000000 ≡ false → b < n → false ≡ row_right estimates n a
row_stop estimates n a b e l = rw (← all_stop (λ b. leb (estimate estimates n a b) 255000000) b n e l)

-- of a table that passed check 5
pub estimate_low : (estimates : List ℕ) (n : ℕ) → estimates_right estimates n ≡ true → (a b : ℕ) → a < n → b < n → estimate estimates n a b ≤ 255000000
unfolding estimates_right
estimate_low estimates n e a b p q =
    let row : all (λ b. leb (estimate estimates n a b) 255000000) n ≡ true =
    and_left _ (eqb (estimate estimates n a a) 0) (all_at (row_right estimates n) n a e p) in
    leb-true _ _ (all_at (λ b. leb (estimate estimates n a b) 255000000) n b row q)

-- so that two of its estimates can be added
pub sum_fits : (estimates : List ℕ) (n : ℕ) → estimates_right estimates n ≡ true → (a b c x y : ℕ) → a < n → b < n → c < n → x ≡ estimate estimates n a b → y ≡ estimate estimates n b c → x + y < 4294967296
sum_fits estimates n e a b c x y p q r u v = omega (arith, u, v, estimate_low estimates n e a b p q, estimate_low estimates n e b c q r)

-- of rows that passed the clauses of "Fits"
pub label_low : (label : List ℕ) (n : ℕ) → labels_right label n ≡ true → (s : ℕ) → s < n → get_or label s 0 ≤ 255000000
unfolding labels_right
label_low label n e s l = leb-true _ _ (all_at (λ s. leb (get_or label s 0) 255000000) n s e l)

pub worker_holds : (mark held : List ℕ) (n k : ℕ) → workers_right mark held n k ≡ true → (w : ℕ) → w < k → (get_or held w 0 ≡ none → ⊥)
    → (get_or held w 0 < n) × (is_out (get_or mark (get_or held w 0) 0) ≡ true)
unfolding workers_right
worker_holds mark held n k e w l z =
    let s = get_or held w 0 in
    ⊎_elim
    (λ q. absurd (z (eqb-true s none q)))
    (λ q. (ltb-true s n (and_left (ltb s n) _ q), and_right (ltb s n) (is_out (get_or mark s 0)) q))
    (or_either (eqb s none) (ltb s n && is_out (get_or mark s 0)) (all_at (λ w. worker_right mark n (get_or held w 0)) k w e l))

-- what counting the holders of all states knows after w workers
pub record Counted (held many : List ℕ) (w : ℕ) : Type 0 where
  pub long : length many ≡ 256
  pub each : (s : ℕ) → s < 256 → get_or many s 0 ≡ holders held w s

pub counted_zero : (held : List ℕ) → Counted held (replicate 256 0) 0
unfolding holders
counted_zero held = record { long = length-replicate {A = ℕ} 256 0; each = λ s l. get_or-replicate 256 s 0 0 l ∙ sym (count_zero (λ w. eqb (get_or held w 0) s)) }

module _ (held many : List ℕ) (w : ℕ) (c : Counted held many w) where
  -- the next worker holds a state that has a place
  pub counted_more : (s : ℕ) → s ≡ get_or held w 0 → s < 256 → Counted held (set many s (get_or many s 0 + 1)) (w + 1)
  unfolding holders
  counted_more s e l = record { long = length-set many s _ ∙ c.long; each = λ x h. go x h (ℕ_discrete x s) }
    where
      go : (x : ℕ) → x < 256 → Dec (x ≡ s) → get_or (set many s (get_or many s 0 + 1)) x 0 ≡ holders held (w + 1) x
      go x h (yes q) =
          rw q (get_or-set_same many s (get_or many s 0 + 1) 0 (omega (arith, c.long)) ∙ ap (λ (k : ℕ). k + 1) (c.each s l) ∙ sym (count_yes (λ v. eqb (get_or held v 0) s) w (eq-eqb _ s (sym e))))
      go x h (no d) = get_or-set_other many s x (get_or many s 0 + 1) 0 d ∙ c.each x h ∙ sym (count_no (λ v. eqb (get_or held v 0) x) w (ne_eqb _ x (λ q. d (sym (e ∙ q)))))

  -- or a number that has none
  pub counted_past : (s : ℕ) → s ≡ get_or held w 0 → 256 ≤ s → Counted held many (w + 1)
  unfolding holders
  counted_past s e g = record { long = c.long; each = λ x h. c.each x h ∙ sym (count_no (λ v. eqb (get_or held v 0) x) w (ne_eqb _ x (λ q. omega (arith, e, q)))) }

  -- no count is above the workers seen
  pub counted_low : (s : ℕ) → s < 256 → get_or many s 0 ≤ w
  unfolding holders
  counted_low s l = omega (arith, c.each s l, count_max (λ v. eqb (get_or held v 0) s) w)

  pub counted_end : (k : ℕ) → w ≤ k → k ≤ w → Counted held many k
  counted_end k l g = let q : w ≡ k = omega arith in rw q at c

-- what check 7 passes over: the detours from a by a itself, and by a state that is at least as far from a as any
module _ (estimates : List ℕ) (n a b : ℕ) where
  pub detours_own : b ≡ a → detours_by estimates n a b ≡ true
  unfolding detours_by
  detours_own e = rw e (all_of _ n (λ c l. le-leb (estimate estimates n a c) (estimate estimates n a a + estimate estimates n a c) (omega arith)))

  pub detours_over : largest (estimate estimates n a) n ≤ estimate estimates n a b → detours_by estimates n a b ≡ true
  unfolding detours_by
  detours_over h = all_of _ n (λ c l. le-leb (estimate estimates n a c) (estimate estimates n a b + estimate estimates n b c) (omega (arith, largest_at (estimate estimates n a) n c l)))

  -- so that what passes over both looks at all detours by b
  pub passed_over : (eqb b a || (leb (largest (estimate estimates n a) n) (estimate estimates n a b) || detours_by estimates n a b)) ≡ detours_by estimates n a b
  passed_over = go (eqb b a) (leb (largest (estimate estimates n a) n) (estimate estimates n a b)) refl refl
    where
      go : (own over : Bool) → eqb b a ≡ own → leb (largest (estimate estimates n a) n) (estimate estimates n a b) ≡ over → (own || (over || detours_by estimates n a b)) ≡ detours_by estimates n a b
      go true over p q = sym (detours_own (eqb-true b a p))
      go false true p q = sym (detours_over (leb-true _ _ q))
      go false false p q = refl
