-- Path reading along a chain: going back from the goal meets the chain's states one by one and ends at the start.
-- So the path is the states along a route of the label's cost.
use Rattle.std.specs.Prelude.{◌≡◌, ◌≢◌, true, false, List, [], ◌∷◌, map, ℕ, zero, suc, ◌+◌, ◌-◌, ◌≤◌, ◌<◌, length}
use Rattle.std.proofs.Math.Path.{refl}
use Rattle.std.proofs.Common.{sym, ap, ◌∙◌, add-zero, arith}
use borrow.Author.Tests.{eq-eqb, ne_eqb, lt-ltb}
use Rattle.laws.specs.Truth.{and_both}
use Rattle.laws.specs.Part.{overlaid}
use Rattle.rule.specs.Task.{passage_count, near, far, cost}
use Rattle.argument.specs.Route.{Walk, cost_of}
use Rattle.argument.specs.Chain.{Chain, root, link}
use Rattle.checks.specs.Opening.{Task}
use Rattle.trail.specs.Trail.{is_home, home_at, is_linked, linked_at, go_back, path}
use Rattle.trail.specs.Laws.{back_home, back_linked, path_within}
use Rattle.desk.specs.declared.Machine.{Machine}
use Rattle.desk.specs.declared.Reply.TheVariants.{Read}
use Rattle.desk.specs.Machine.{label_of, task_of, trail_of, hands_of}
use Rattle.desk.specs.Reply.{answer}
use Rattle.desk.specs.Fits.{fits}
use Rattle.desk.specs.Path.{path_of}
use Rattle.desk.specs.Laws.{path_read}
use Rattle.promises.specs.Demand.{graph, along}
use Rattle.promises.specs.View.{via_of, view}

module _ (passages estimates : List ℕ) (m : Machine) (places : ℕ → ℕ) where
  abbrev t : Task
  t = task_of m passages estimates

  -- a chain of k links back from s
  abbrev Back : ℕ → ℕ → Type 0
  Back s k = Chain (graph t) m.start (view m places) s k

  -- a chain's last state is home, the others aren't, and its links hold
  is_home_lem : label_of m m.start ≡ 0 → home_at (trail_of m passages) m.start ≡ true
  unfolding is_home
  is_home_lem e = rw (eq-eqb m.start m.start refl, eq-eqb (label_of m m.start) 0 e)

  not_home : (s : ℕ) → s ≢ m.start → home_at (trail_of m passages) s ≡ false
  unfolding is_home
  not_home s d = rw (ne_eqb s m.start d)

  is_linked_lem : (s i : ℕ) → via_of m s ≡ i → (graph t).edge i → far passages i ≡ s → label_of m s ≡ label_of m (near passages i) + cost passages i
      → linked_at (trail_of m passages) s ≡ true
  unfolding is_linked
  is_linked_lem s i v (l, k) f q =
      rw v (and_both (lt-ltb i (passage_count passages) l)
      (and_both k (and_both (eq-eqb (far passages i) s f) (eq-eqb (label_of m s) (label_of m (near passages i) + cost passages i) q))))

  -- the chain back from s, and a walk `rest` on from there, as one walk from the start: going back from s, in front of the rest's states, meets its states
  record Way (s more : ℕ) (rest : List ℕ) : Type 0 where
    way : List ℕ
    walk : Walk (graph t) m.start way m.goal
    adds : cost_of (graph t) way ≡ label_of m s + cost_of (graph t) rest
    states : go_back (trail_of m passages) more s (map (far passages) rest) ≡ along t way

  chain_way : (more s k : ℕ) (rest : List ℕ) → Back s k → k < more → Walk (graph t) s rest m.goal → Way s more rest
  chain_way zero s k rest c l w = absurd (omega arith)
  chain_way (suc more) s k rest (root e) l w = record {
    way = rest;
    walk = w;
    adds = omega arith;
    states = back_home (trail_of m passages) more m.start (map (far passages) rest) (is_home_lem e);
  }
  chain_way (suc more) s k rest (link {k = j} i e f d v o q c) l w =
      let r : Way (near passages i) more (i ∷ rest) = chain_way more (near passages i) j (i ∷ rest) c (omega arith) (e, refl, rw f w) in
      record {
        way = r.way;
        walk = r.walk;
        adds = omega (arith, r.adds);
        states = back_linked (trail_of m passages) more s (map (far passages) rest) (not_home s d) (is_linked_lem s i v e f q) ∙ rw (v, ← f) r.states;
      }

-- what path reading comes to on m, where a chain leads back from the goal
pub record Readable (passages estimates : List ℕ) (m : Machine) : Type 0 where
  pub way : List ℕ
  pub walk : Walk (graph (task_of m passages estimates)) m.start way m.goal
  pub adds : cost_of (graph (task_of m passages estimates)) way ≡ label_of m m.goal
  pub short : length (along (task_of m passages estimates) way) ≤ m.n
  pub reads : (buffer : List ℕ) (at : ℕ) → length (along (task_of m passages estimates) way) ≤ length buffer - at
      → path_of m passages estimates buffer at
      ≡ record { given = answer m (Read (length (along (task_of m passages estimates) way))); buffer = overlaid at (along (task_of m passages estimates) way) buffer }

pub readable : (passages estimates : List ℕ) (m : Machine) (places : ℕ → ℕ) (k : ℕ) → fits m (hands_of m) passages estimates ≡ true → m.phase ≡ 1
    → Chain (graph (task_of m passages estimates)) m.start (view m places) m.goal k → k < m.n → Readable passages estimates m
readable passages estimates m places k fit phase c l =
    let w : Way passages estimates m places m.goal m.n [] = chain_way passages estimates m places m.n m.goal k [] c l refl in
    let states : List ℕ = along (task_of m passages estimates) w.way in
    let whole : path (trail_of m passages) ≡ states = w.states in
    record {
      way = w.way;
      walk = w.walk;
      adds = w.adds ∙ add-zero (label_of m m.goal);
      short = rw whole at (path_within (trail_of m passages));
      reads = λ buffer at r.
          path_read m passages estimates buffer at fit phase (length states) (ap length (sym whole)) (omega arith) r
          ∙ ap (λ (xs : List ℕ). record { given = answer m (Read (length states)); buffer = overlaid at xs buffer }) whole;
    }
