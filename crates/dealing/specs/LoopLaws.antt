-- Steps of loops over these definitions: what a test's estimate in a local says of dependence, the first state with a mark, and the ladder of a
-- decision by what is open and what is out.
use Rattle.std.specs.Prelude.{◌≡◌, Bool, ◌&&◌, ℕ, ltb}
use Rattle.std.proofs.Common.{sym}
use Rattle.std.proofs.Math.Bool.{true, false, not}
use borrow.Author.Tests.{ne_eqb, not-false}
use Rattle.rule.specs.Marks.{waiting, out}
use Rattle.rule.specs.Rule.{independent, holds_back}
use Rattle.dealing.specs.declared.Choice.TheVariants.{Stopped, NoneOpen}
use Rattle.dealing.specs.declared.Decision.TheVariants.{NoPath, Stuck, Wait}
use Rattle.dealing.specs.Board.{Board, mark_at, label_at, h, depends_on, safe, choice, any_open, any_out, first_marked}
use Rattle.dealing.specs.Decision.{waited_for, decision}
use Rattle.dealing.specs.Laws.{choose, stopped_by_lem, none_by}
use Rattle.dealing.specs.LimitedRowLaws.{holds_off}

-- whether s depends on t, where the test's estimate g stands in a local
module _ (b : Board) (s t : ℕ) where
  pub depends_other : (g : ℕ) (r : Bool) → (t ≡ s → ⊥) → g ≡ h b t s
      → r ≡ holds_back (mark_at b t) (label_at b s) (label_at b t) b.excess g → depends_on b s t ≡ r
  unfolding depends_on
  depends_other g r n e d = rw (ne_eqb t s n) (sym (rw e at d))

-- whether something is open, by the first state r with the mark
pub open_by : (b : Board) (r : ℕ) → r ≡ first_marked b.mark b.n waiting → any_open b ≡ ltb r b.n
unfolding any_open first_marked
open_by b r e = rw e

-- whether s depends on t, by the test of independence
pub holds_by : (b : Board) (s t g : ℕ) (r : Bool) → r ≡ independent (label_at b s) (label_at b t) b.excess g → g ≡ h b t s → holds_off b s t ≡ not r
unfolding holds_off
holds_by b s t g r e q = rw (e, q)

module _ (goal pull : ℕ) (b : Board) (g : safe b goal ≡ false) where
  pub decides_none : any_open b ≡ false → any_out b ≡ false → NoPath ≡ decision goal pull b
  unfolding decision
  decides_none o u = rw (g, o, u)

  module _ (busy : (not (any_open b) && not (any_out b)) ≡ false) where
    pub decides_stuck : (t : ℕ) → Stopped t ≡ choose goal pull b → any_out b ≡ false → Stuck ≡ decision goal pull b
    unfolding choose decision
    decides_stuck t e u = let w = stopped_by_lem (ltb (choice goal pull b) b.n) (any_open b) _ _ t e in rw (g, busy, w.0, u)

    pub decides_wait : (t : ℕ) → Stopped t ≡ choose goal pull b → any_out b ≡ true → Wait t ≡ decision goal pull b
    unfolding choose decision waited_for
    decides_wait t e u = let w = stopped_by_lem (ltb (choice goal pull b) b.n) (any_open b) _ _ t e in rw (g, busy, w.0, u, w.1, w.2)

    pub decides_quiet : NoneOpen ≡ choose goal pull b → (r : ℕ) → r ≡ first_marked b.mark b.n out → Wait r ≡ decision goal pull b
    unfolding choose decision waited_for
    decides_quiet e r q = let w = none_by (ltb (choice goal pull b) b.n) (any_open b) _ _ e in rw (g, busy, w.0, not-false (any_out b) (rw w.1 at busy), w.1, q)
