-- What holds of the scan before each record bounds it for the next. A record without fault takes it on; a fault, and the file's end, are what the whole scan comes to.
use Rattle.std.proofs.Common.{◌≡◌, ◌∙◌, refl, sym, arith, rules, Result, Ok, Err}
use Rattle.std.specs.Result.{MatchResult, IsErrAnd}
use Rattle.std.proofs.lemmas.Result.{err_from_is_err_and}
use Rattle.taskfile.specs.declared.Scan.{Scan}
use Rattle.taskfile.specs.declared.faults.Fault.{Fault}
use Rattle.taskfile.specs.declared.faults.FaultKind.{FaultKind}
use Rattle.taskfile.specs.Scan.{begun}
use Rattle.taskfile.specs.Laws.{placed, calls_few, reached_begun, reached_more, onward, scan_fault, scan_short, scan_whole}
use Rattle.taskfile.proofs.records.scan.Goals as goal

-- where `map_err` gave an `Ok`, it was given that
same_ok : (r : Result Scan FaultKind) (q : Result Scan Fault) (Q : FaultKind → Fault → Type 0) → MatchResult r (λ t. q ≡ Ok t) (λ kind. IsErrAnd q (Q kind)) → (t : Scan) → q ≡ Ok t → Ok t ≡ r
same_ok (Ok s) q Q m t e = cc
same_ok (Err kind) (Ok s) Q m t e = absurd m
same_ok (Err kind) (Err fault) Q m t e = cc

same_err : (r : Result Scan FaultKind) (q : Result Scan Fault) (Q : FaultKind → Fault → Type 0) → MatchResult r (λ t. q ≡ Ok t) (λ kind. IsErrAnd q (Q kind)) → (fault : Fault) → q ≡ Err fault → (kind : FaultKind) × (Err kind ≡ r) × Q kind fault
same_err (Ok s) q Q m f e = cc
same_err (Err kind) q Q m f e = (kind, refl, rw e at m)

pub loop-s-init : goal.loop-s-init
loop-s-init c =
    let e = c.default-s.ensures in
    let start : c.default-s.result ≡ begun = λ i. record { at = e.0 i; n = e.1.0 i; passages = e.1.1.0 i; rows = e.1.1.1.0 i; calls = e.1.1.1.1 i } in
    rw start (reached_begun _)

pub advance-requires : goal.advance-requires
advance-requires c =
    let p = placed _ _ c.loop-s.invariant in
    (c.requires, (p.small, calls_few _ _ p c.requires))

pub loop-s-smaller : goal.loop-s-smaller
loop-s-smaller c =
    let e = same_ok _ _ _ c.map_err.ensures.cases c.in_ok-s.s c.in_ok-s.was ∙ c.advance.ensures in
    let on = onward _ _ c.loop-s.invariant c.loop-s-test.true _ e in
    omega (arith, on.further, on.placed.inside)

pub loop-s-preserved : goal.loop-s-preserved
loop-s-preserved c = reached_more _ _ c.loop-s.invariant c.loop-s-test.true _ (same_ok _ _ _ c.map_err.ensures.cases c.in_ok-s.s c.in_ok-s.was ∙ c.advance.ensures)

pub returns-in_err-s : goal.returns-in_err-s
returns-in_err-s c =
    let p = err_from_is_err_and c.from_residual.result c.from_residual.ensures.1 in
    let w = same_err _ _ _ c.map_err.ensures.cases c.in_err-s.field-0.0 c.in_err-s.was in
    let f : c.in_err-s.field-0.0 ≡ record { kind = w.0; at = c.loop-s.s.at } = search rules in
    rw (p.1, p.2, f) (scan_fault _ _ c.loop-s.invariant c.loop-s-test.true w.0 (w.1 ∙ c.advance.ensures))

pub returns-then-not-complete : goal.returns-then-not-complete
returns-then-not-complete c = scan_short _ _ c.loop-s.invariant c.loop-s-test.false (sym c.if-not-complete.ensures)

pub returns : goal.returns
returns c = scan_whole _ _ c.loop-s.invariant c.loop-s-test.false (sym c.if-not-complete.ensures)
