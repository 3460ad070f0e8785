-- Order 8, keep the key: what a machine that fits stores is what Take goes by, and every machine that a day reaches stores what the formula makes.
use Rattle.std.specs.Prelude.{◌≡◌, refl, true, ◌&&◌, List, ℕ, ◌≤◌, ◌<◌, get_or}
use Rattle.std.proofs.Common.{sym, subst, ◌∙◌, arith, eqb-true, eq-eqb}
use Rattle.laws.specs.Truth.{and_left, and_right, and_both}
use Rattle.laws.specs.Least.{least_same}
use Rattle.rule.specs.Task.{estimate}
use Rattle.rule.specs.Marks.{waiting, is_open}
use Rattle.rule.specs.Rule.{stored_key}
use Rattle.checks.specs.Opening.{Task}
use Rattle.dealing.specs.Board.{safe, key, choice, foremost}
use Rattle.dealing.specs.Laws.{safe_is_open}
use Rattle.desk.specs.declared.Machine.{Machine}
use Rattle.desk.specs.Machine.{hands_of, mark_of, label_of, board_of}
use Rattle.desk.specs.Fits.{task_fits, keys_fit, is_sound, rows_fit, fits}
use Rattle.desk.specs.Laws.{fitting}
use Rattle.desk.specs.KeyLaws.{keyed, key_at_lem}
use Rattle.promises.specs.Day.{reached}
use Rattle.promises.specs.Demand.{Accepted, ByStored, KeysKept}
use Rattle.promises.specs.Fits.{steady_fits}
use Rattle.promises.specs.Theorem.{run}

pub by_stored : (m : Machine) (held passages estimates : List ℕ) → fits m held passages estimates ≡ true → ByStored m estimates
unfolding choice foremost
by_stored m held passages estimates e = record {
  asked = stored;
  deals = least_same (safe (board_of m estimates)) (safe (board_of m estimates)) (λ s. get_or m.key s 0) (key m.goal m.pull (board_of m estimates)) m.n m.n (omega arith) (λ _ _. refl) (λ s l y. stored s l (safe_is_open (board_of m estimates) s y));
  leads = least_same (λ s. is_open (mark_of m s)) (λ s. is_open (mark_of m s)) (λ s. get_or m.key s 0) (key m.goal m.pull (board_of m estimates)) m.n m.n (omega arith) (λ _ _. refl) (λ s l y. stored s l (eqb-true (mark_of m s) waiting y));
}
  where
    stored : (s : ℕ) → s < m.n → mark_of m s ≡ waiting → get_or m.key s 0 ≡ key m.goal m.pull (board_of m estimates) s
    stored s l o = (keyed estimates m held passages (fitting m held passages estimates e)).at s l (eq-eqb (mark_of m s) waiting o)

-- a machine that fits would have fitted before keys were stored
fits_before : (m : Machine) (held passages estimates : List ℕ) → fits m held passages estimates ≡ true
    → (task_fits m passages estimates && rows_fit m.n m.k m.phase m.mark m.label held) ≡ true
unfolding fits
fits_before m held passages estimates e = and_both (and_left (task_fits m passages estimates) (keys_fit m estimates) (and_left (is_sound m passages estimates) _ e)) (and_right (is_sound m passages estimates) _ e)

pub keys_kept : (t : Task) → Accepted t → KeysKept t
keys_kept t a = record {
  stored = λ day. let r = (run t a day).stands in
      subst (λ (u : Task). (s : ℕ) → s < u.n → get_or (reached t day).key s 0 ≡ stored_key (mark_of (reached t day) s) (label_of (reached t day) s) u.pull (estimate t.estimates u.n s u.goal))
      r.task (key_at_lem t.estimates (reached t day) r.steady.keys);
  past = λ day. let r = (run t a day).stands in subst (λ (u : Task). (s : ℕ) → u.n ≤ s → get_or (reached t day).key s 0 ≡ 0) r.task r.steady.past;
  before = λ day.
      let f = steady_fits (run t a day).stands.steady in
      f ∙ sym (fits_before (reached t day) (hands_of (reached t day)) t.passages t.estimates f);
}
