-- The refusals of the ladder, then the loop over the passages of the state held, each of whose turns is one law on `Run`.
use Rattle.std.proofs.Common.{ℕ, ◌∙◌, sym, ap, not, ◌+◌, ◌<◌, arith, ne_eqb}
use Rattle.desk.specs.Machine.{label_of}
use Rattle.desk.specs.Bring.{bring_of}
use Rattle.desk.specs.Reply.{refused}
use Rattle.desk.specs.Laws.{sound_sizes, turned_away, not_ready, goes_on, Carried, run_zero, run_brought, run_asks, run_skip, run_blocked, run_kept, run_set}
use Rattle.desk.proofs.Calls.{leaves, leaves_turned, refused_by, let_in, worker_in, empty, holds, carries, clear}
use Rattle.desk.proofs.Machine.bring_checked.Goals as goal
use Rattle.desk.proofs.Machine.bring_checked.Goals.{In_ok-s, then-passages-i+then-is_clear+then-lower, then-passages-i+else-is_clear, else-is_clear-via-then-is_clear+else-lower, else-is_clear-via-else-is_clear, else-passages-i}

-- the state that the worker holds can be brought
can : (c : In_ok-s) → Carried c.args.self.now c.args.passages.now c.args.estimates.now c.in_ok-s.s
can c = carries c.args.self.now _ _ _ _ c.requires _ c.in_ok-hands.ensures _ c.in_ok-s.ensures.ok_part

pub hands-requires : goal.hands-requires
hands-requires c = sound_sizes _ _ _ c.requires

pub returns-in_err-hands : goal.returns-in_err-hands
unfolding bring_of
returns-in_err-hands c = leaves_turned _ c.from_residual.ensures.1 (turned_away _ _ _ _ _ _ c.requires _ c.in_err-hands.ensures _ _)

pub returns-in_err-s : goal.returns-in_err-s
unfolding bring_of
returns-in_err-s c =
    let m = c.args.self.now in
    let (is, none) = refused_by _ _ _ c.in_err-s.ensures.value in
    leaves_turned _ c.from_residual-in_err-s.ensures.1
    (ap (refused m) is ∙ not_ready _ _ _ _ _ _ _ (let_in m _ _ _ _ c.requires _ c.in_ok-hands.ensures) (ap not (empty m _ _ _ _ c.requires _ c.in_ok-hands.ensures ∙ ap not none)))

pub offset_bounds-self-s : goal.offset_bounds-self-s
offset_bounds-self-s c = let k = (can c).state in omega arith

pub bounds-self-s : goal.bounds-self-s
bounds-self-s c = (can (goal.at.bounds-self-s c).In_ok-s).state

pub loop-i-init : goal.loop-i-init
loop-i-init c = run_zero _ _ _ _

pub invariant_of-table : goal.invariant_of-table
invariant_of-table c = record { whole = (can (goal.at.invariant_of-table c).In_ok-s).table }

pub overflow_add-label : goal.overflow_add-label
overflow_add-label c =
    let k = can (goal.at.overflow_add-label c).In_ok-s in
    omega (arith, c.read-passage.ensures.cost, k.costs c.loop-i.i c.loop-i-test.true (clear _ _ c.read-passage.ensures.cost (sym c.is_clear.ensures ∙ c.if-is_clear.true)), k.low)

pub lower-requires : goal.lower-requires
lower-requires c = run_asks _ _ _ _ _ _ _ c.loop-i.invariant c.loop-i-test.true (can (goal.at.lower-requires c).In_ok-s) _ c.read-passage.ensures.far

pub overflow_add-many : goal.overflow_add-many
overflow_add-many c = omega (arith, (can (goal.at.overflow_add-many c).In_ok-s).few, c.loop-i.invariant.counted)

pub loop-i-preserved : goal.loop-i-preserved
loop-i-preserved c =
    let plus : ℕ → ℕ = λ (k : ℕ). label_of c.args.self.now c.in_ok-s.s + k in
    elim c.if-passages-i.branch [
      | then-passages-i+then-is_clear+then-lower w ↦
          rw (w.self-is, w.many-is)
          (run_set _ _ _ _ _ _ c.loop-i.i c.loop-i.invariant c.loop-i-test.true w.if-passages-i.true
          (clear _ _ w.read-passage.ensures.cost (sym w.is_clear.ensures ∙ w.if-is_clear.true))
          _ _ w.read-passage.ensures.far (ap plus w.read-passage.ensures.cost) _ w.lower.ensures.lowered _ w.lower.ensures.machine w.if-lower.true)
      | then-passages-i+else-is_clear w ↦
          elim w.else-is_clear.branch [
            | else-is_clear-via-then-is_clear+else-lower v ↦
                rw (w.self-is, w.many-is, v.self-is)
                (run_kept _ _ _ _ _ _ c.loop-i.i c.loop-i.invariant c.loop-i-test.true w.if-passages-i.true
                (clear _ _ w.read-passage.ensures.cost (sym w.is_clear.ensures ∙ v.if-is_clear.true))
                _ _ w.read-passage.ensures.far (ap plus w.read-passage.ensures.cost) _ v.lower.ensures.lowered _ v.lower.ensures.machine v.if-lower.false)
            | else-is_clear-via-else-is_clear v ↦
                rw (w.self-is, w.many-is, v.self-is)
                (run_blocked _ _ _ _ _ _ c.loop-i.i c.loop-i.invariant c.loop-i-test.true w.if-passages-i.true
                (clear _ _ w.read-passage.ensures.cost (sym w.is_clear.ensures ∙ v.if-is_clear.false)))
          ]
      | else-passages-i w ↦
          rw (w.self-is, w.many-is)
          (run_skip _ _ _ _ _ _ c.loop-i.i c.loop-i.invariant c.loop-i-test.true w.if-passages-i.false)
    ]

pub bounds-self-s-2 : goal.bounds-self-s-2
bounds-self-s-2 c = (can (goal.at.bounds-self-s-2 c).In_ok-s).state

pub offset_bounds-self-worker : goal.offset_bounds-self-worker
offset_bounds-self-worker c = let l : c.args.worker < 32 = worker_in c.args.self.now _ _ _ _ c.requires _ c.in_ok-hands.ensures in omega arith

pub bounds-self-worker : goal.bounds-self-worker
bounds-self-worker c = worker_in c.args.self.now _ _ _ _ c.requires _ c.in_ok-hands.ensures

pub returns : goal.returns
unfolding bring_of
returns c =
    let m = c.args.self.now in
    let (is, some) = holds m _ _ _ _ c.requires _ c.in_ok-hands.ensures _ c.in_ok-s.ensures.ok_part in
    leaves
    (run_brought _ _ _ _ _ _ _ c.loop-i.i c.loop-i.invariant c.loop-i-test.false is
    ∙ goes_on _ _ _ _ _ _ _ (let_in m _ _ _ _ c.requires _ c.in_ok-hands.ensures) (ap not (ne_eqb _ 65535 some)))
