-- Who a Wait is for: the state that it names is live, something is out, and the smallest-key open state depends on it.
use Rattle.std.specs.Prelude.{◌≡◌, Bool, cond, List, ℕ, ◌<◌}
use Rattle.std.proofs.Math.Path.{refl}
use Rattle.std.proofs.Common.{sym, subst, ◌∙◌, true≢false, arith}
use Rattle.std.proofs.Math.Bool.{true, false}
use borrow.Author.Tests.{ltb-true, eqb-true, eq-eqb}
use Rattle.laws.specs.First.{first, first_passes, first_before, any_none, any_some}
use Rattle.laws.specs.Least.{least_smallest, least_lowest}
use Rattle.rule.specs.Marks.{waiting, out, is_open, is_out}
use Rattle.dealing.specs.Board.{Board, mark_at, depends_on, first_dependence, safe, key, foremost, any_open, any_out, first_marked}
use Rattle.dealing.specs.Decision.{waited_for}
use Rattle.dealing.specs.Laws.{depends_apart, depends_live, depends_behind, foremost_in, foremost_open, foremost_any, foremost_held}
use Rattle.dealing.specs.declared.Decision.{Decision}
use Rattle.dealing.specs.declared.Decision.TheVariants.{Found, NoPath, Deal, Stuck, Wait as WaitOn}
use Rattle.desk.specs.declared.Machine.{Machine}
use Rattle.desk.specs.declared.Reply.TheVariants.{Wait}
use Rattle.desk.specs.Machine.{mark_of, board_of, hands_of}
use Rattle.desk.specs.Take.{act}
use Rattle.desk.specs.declared.Event.{Event}
use Rattle.desk.specs.Calls.{call}
use Rattle.promises.specs.Demand.{Foremost, HeldUp, WaitsFor}
use Rattle.promises.specs.Progress.{independent_of, Chosen}
use Rattle.promises.specs.Calls.{call_either}

-- the two ways of waiting, on a machine with something out and nothing safe
module _ (m : Machine) (estimates : List ℕ) where
  abbrev b : Board
  b = board_of m estimates

  abbrev front : ℕ
  front = foremost m.goal m.pull b

  out_some : any_out b ≡ true → (x : ℕ) × (x < m.n) × (mark_of m x ≡ out)
  unfolding any_out
  out_some e = let (x, l, o) = any_some (λ s. is_out (mark_at b s)) m.n e in (x, l, eqb-true (mark_of m x) out o)

  -- the foremost state is what it says, where something is open
  front_is : any_open b ≡ true → Foremost m estimates front
  unfolding foremost
  front_is e =
      let some = foremost_any m.goal m.pull b e in
      record {
        state = foremost_in m.goal m.pull b some;
        opened = foremost_open m.goal m.pull b some;
        smallest = λ u i w. least_smallest _ (key m.goal m.pull b) m.n m.n u (omega arith) i (eq-eqb (mark_of m u) waiting w);
        lowest = λ u i w. least_lowest _ (key m.goal m.pull b) m.n m.n (omega arith) some u i (eq-eqb (mark_of m u) waiting w);
      }

  -- it isn't safe, so it depends on a first state
  module _ (o : any_open b ≡ true) (unsafe : (x : ℕ) → x < m.n → safe b x ≡ false) where
    abbrev stop : ℕ
    stop = first_dependence b front

    stop_in : stop < m.n
    stop_in = foremost_held m.goal m.pull b (foremost_any m.goal m.pull b o) unsafe

    stop_depends : depends_on b front stop ≡ true
    unfolding first_dependence
    stop_depends = first_passes (depends_on b front) m.n stop_in

    held_up : HeldUp m estimates front stop
    unfolding first_dependence
    held_up = record {
      other = depends_apart b front stop stop_depends;
      behind = depends_behind b front stop stop_depends;
      lowest = λ x l d a. independent_of b front x d a (first_before (depends_on b front) m.n x l);
    }

    waits_held : any_out b ≡ true → WaitsFor m estimates stop
    unfolding any_open
    waits_held q = record {
      state = stop_in;
      live = depends_live b front stop stop_depends;
      busy = out_some q;
      held = λ x l w. (front, front_is o, held_up);
      quiet = λ f. let (x, l, w) = any_some (λ s. is_open (mark_at b s)) m.n o in absurd (f x l (eqb-true (mark_of m x) waiting w));
    }

  -- nothing is open: the lowest out state
  waits_quiet : any_open b ≡ false → any_out b ≡ true → WaitsFor m estimates (first_marked m.mark m.n out)
  unfolding any_open any_out first_marked
  waits_quiet o q =
      let l = ltb-true _ m.n q in
      let is : mark_of m (first (λ s. is_out (mark_at b s)) m.n) ≡ out = eqb-true _ out (first_passes (λ s. is_out (mark_at b s)) m.n l) in
      record {
        state = l;
        live = rw is;
        busy = out_some q;
        held = λ x i w. absurd (true≢false (sym (eq-eqb (mark_of m x) waiting w) ∙ any_none (λ s. is_open (mark_at b s)) m.n o x i));
        quiet = λ f. (is, λ x i w. absurd (true≢false (sym (eq-eqb (mark_of m x) out w) ∙ first_before (λ s. is_out (mark_at b s)) m.n x i)));
      }

  pub wait_right : any_out b ≡ true → ((x : ℕ) → x < m.n → safe b x ≡ false) → WaitsFor m estimates (waited_for m.goal m.pull b)
  unfolding waited_for
  wait_right q unsafe = go (any_open b) refl
    where
      go : (some : Bool) → any_open b ≡ some → WaitsFor m estimates (cond some (first_dependence b front) (first_marked m.mark m.n out))
      go true o = waits_held o unsafe q
      go false o = waits_quiet o q

  -- of the decisions only Wait replies Wait
  act_waits : (worker : ℕ) (d : Decision) → Chosen m.goal m.pull b d → (t : ℕ) → (act m (hands_of m) worker d).reply ≡ Wait t → WaitsFor m estimates t
  act_waits worker (Found cost) k t e = let z : ◌≡◌ {A = ℕ} 0 1 = cc in absurd (omega arith)
  act_waits worker NoPath k t e = let z : ◌≡◌ {A = ℕ} 0 1 = cc in absurd (omega arith)
  act_waits worker (Deal s) k t e = let z : ◌≡◌ {A = ℕ} 0 1 = cc in absurd (omega arith)
  act_waits worker Stuck k t e = absurd k
  act_waits worker (WaitOn s) k t e = let q : s ≡ t = cc in subst (WaitsFor m estimates) (sym k.2 ∙ q) (wait_right k.0 k.1)

pub waits : (passages estimates : List ℕ) (m : Machine) (e : Event) (t : ℕ) → (call passages estimates m e).reply ≡ Wait t → WaitsFor m estimates t
waits passages estimates m =
    call_either passages estimates m (λ a. (t : ℕ) → a.reply ≡ Wait t → WaitsFor m estimates t)
    (λ refusal l t e. let z : ◌≡◌ {A = ℕ} 0 1 = cc in absurd (omega arith))
    (λ worker a e d k. act_waits m estimates worker d k)
    (λ worker a o t e. let z : ◌≡◌ {A = ℕ} 0 1 = cc in absurd (omega arith))
