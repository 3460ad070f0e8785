-- What a file can carry, as facts: what the writer's test comes to, in both directions.
-- Assumes nothing.
use Rattle.std.specs.Prelude.{◌≡◌, true, ◌&&◌, List, ℕ, ◌+◌, ◌*◌, ◌/◌, ◌%◌, ◌≤◌, ◌<◌, length, get_or, eqb}
use Rattle.std.proofs.Common.{arith}
use Rattle.std.proofs.Math.Dec.{leb}
use borrow.Author.Tests.{leb-true, ltb-true, eqb-true, le-leb, lt-ltb, eq-eqb}
use Rattle.laws.specs.Truth.{and_left, and_right, and_both}
use Rattle.laws.specs.All.{all_at, all_of}
use Rattle.taskfile.specs.declared.Head.{Head}
use Rattle.taskfile.specs.Bytes.{beyond}
use Rattle.taskfile.specs.Records.{worker_width, call_of, worker_of, most_states, most_passages}
use Rattle.taskfile.specs.Writing.{within, sizes_carried, head_carried, ends_carried, calls_carried, carried}

pub record Carried (t : Head) (passages estimates calls : List ℕ) : Type 0 where
  pub some : 1 ≤ t.n
  pub small : t.n ≤ most_states
  pub thirds : length passages ≡ 3 * (length passages / 3)
  pub few : length passages / 3 ≤ most_passages
  pub square : length estimates ≡ t.n * t.n
  pub head : (t.k < beyond 2) × (t.start < beyond 2) × (t.goal < beyond 2) × (t.pull < beyond 2) × (t.excess < beyond 2)
  pub ends : (i : ℕ) → i < length passages / 3 → (get_or passages (3 * i) 0 < beyond 2) × (get_or passages (3 * i + 1) 0 < beyond 2)
  pub call : (i : ℕ) → i < length calls → (call_of (get_or calls i 0) ≤ 1) × (worker_of (get_or calls i 0) < beyond worker_width)

module _ (t : Head) (passages estimates calls : List ℕ) where
  pub is_carried : carried t passages estimates calls ≡ true → Carried t passages estimates calls
  unfolding carried sizes_carried head_carried ends_carried calls_carried
  is_carried e =
      let sizes = and_left _ _ e in
      let rest = and_right (sizes_carried t.n (length passages) (length estimates)) _ e in
      let head = and_left _ _ rest in
      let lists = and_right (head_carried t) _ rest in
      let states = and_left _ _ sizes in
      let slices = and_right (leb 1 t.n && leb t.n most_states) _ sizes in
      let threes = and_left _ _ slices in
      let whole = eqb-true (length passages % 3) 0 (and_left _ _ threes) in
      let h₁ = and_right (within 2 t.k) _ head in
      let h₂ = and_right (within 2 t.start) _ h₁ in
      let h₃ = and_right (within 2 t.goal) _ h₂ in
      record {
        some = leb-true 1 t.n (and_left _ _ states);
        small = leb-true t.n most_states (and_right (leb 1 t.n) _ states);
        thirds = omega arith;
        few = leb-true (length passages / 3) most_passages (and_right (eqb (length passages % 3) 0) _ threes);
        square = eqb-true (length estimates) (t.n * t.n) (and_right (eqb (length passages % 3) 0 && leb (length passages / 3) most_passages) _ slices);
        head = (ltb-true _ _ (and_left _ _ head), ltb-true _ _ (and_left _ _ h₁), ltb-true _ _ (and_left _ _ h₂), ltb-true _ _ (and_left _ _ h₃), ltb-true _ _ (and_right (within 2 t.pull) _ h₃));
        ends = λ i l.
            let p = all_at _ (length passages / 3) i (and_left _ _ lists) l in
            (ltb-true _ _ (and_left _ _ p), ltb-true _ _ (and_right (within 2 (get_or passages (3 * i) 0)) _ p));
        call = λ i l.
            let p = all_at _ (length calls) i (and_right (ends_carried passages) _ lists) l in
            (leb-true _ _ (and_left _ _ p), ltb-true _ _ (and_right (leb (call_of (get_or calls i 0)) 1) _ p));
      }

  pub carried_is : Carried t passages estimates calls → carried t passages estimates calls ≡ true
  unfolding carried sizes_carried head_carried ends_carried calls_carried
  carried_is c =
      and_both
      (and_both (and_both (le-leb _ _ c.some) (le-leb _ _ c.small))
      (and_both (and_both (eq-eqb (length passages % 3) 0 (omega (arith, c.thirds))) (le-leb _ _ c.few)) (eq-eqb _ _ c.square)))
      (and_both
      (and_both (lt-ltb _ _ c.head.0) (and_both (lt-ltb _ _ c.head.1) (and_both (lt-ltb _ _ c.head.2) (and_both (lt-ltb _ _ c.head.3) (lt-ltb _ _ c.head.4)))))
      (and_both (all_of _ _ (λ i l. and_both (lt-ltb _ _ (c.ends i l).0) (lt-ltb _ _ (c.ends i l).1)))
      (all_of _ _ (λ i l. and_both (le-leb _ _ (c.call i l).0) (lt-ltb _ _ (c.call i l).1)))))
