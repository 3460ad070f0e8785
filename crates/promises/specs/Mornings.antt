-- A morning is its calls made singly: each reply comes back from its number in the row, since no call replies with a number above 32 bits.
use Rattle.std.specs.Prelude.{◌≡◌, refl, List, [], ◌∷◌, map, ℕ, zero, suc, ◌+◌, ◌≤◌, ◌<◌, length, take, drop}
use Rattle.std.proofs.Math.Path.{subst⁻¹}
use Rattle.std.proofs.Common.{◌∙◌, zero-add, arith, take_at, drop_at}
use Rattle.std.proofs.Math.ListN.{length-map}
use Rattle.laws.specs.Fold.{fold}
use Rattle.laws.specs.Part.{overlaid}
use Rattle.rule.specs.Task.{passage_count}
use Rattle.checks.specs.Laws.{label_low}
use Rattle.dealing.specs.declared.Decision.{Decision}
use Rattle.dealing.specs.declared.Decision.TheVariants.{Found, NoPath, Deal, Stuck, Wait}
use Rattle.desk.specs.declared.Machine.{Machine}
use Rattle.desk.specs.declared.Reply.TheVariants.{Done}
use Rattle.desk.specs.Machine.{hands_of, held_by, label_of, board_of}
use Rattle.desk.specs.Reply.{value_of, code_of, reply_of}
use Rattle.desk.specs.Take.{act}
use Rattle.desk.specs.Bring.{Swept, swept, apply_passage, sweep_of}
use Rattle.desk.specs.declared.Event.{Event}
use Rattle.desk.specs.Calls.{call, answers, replies}
use Rattle.desk.specs.Morning.{events_of, morning_of}
use Rattle.desk.specs.Laws.{Admitted, fitting, apply_either}
use Rattle.desk.specs.CallLaws.{replies_length, code_back}
use Rattle.promises.specs.Demand.{WaitsFor, AsSingly}
use Rattle.promises.specs.Progress.{Chosen}
use Rattle.promises.specs.Calls.{call_either, morning_either}
use Rattle.promises.specs.Waiting.{wait_right}

-- going over the passages sets at most one label for each
fold_many : (passages estimates : List ℕ) (state label : ℕ) (w : Swept) (n : ℕ) → (fold (apply_passage passages estimates state label) w n).many ≤ w.many + n
unfolding fold
fold_many passages estimates state label w zero = omega arith
fold_many passages estimates state label w (suc n) =
    let v : Swept = fold (apply_passage passages estimates state label) w n in
    omega (arith, apply_either (λ x. x.many ≤ v.many + 1) passages estimates state label n v (omega arith) (omega arith), fold_many passages estimates state label w n)

sweep_many : (m : Machine) (passages estimates : List ℕ) (s : ℕ) → (sweep_of m passages estimates s).many ≤ passage_count passages
unfolding sweep_of
sweep_many m passages estimates s = omega (arith, fold_many passages estimates s (label_of m s) (swept m 0) (passage_count passages))

-- what a call replies has at most 32 bits
module _ (passages estimates : List ℕ) (m : Machine) where
  act_small : (worker : ℕ) → Admitted m (hands_of m) passages estimates worker → (d : Decision) → Chosen m.goal m.pull (board_of m estimates) d → value_of (act m (hands_of m) worker d).reply < 4294967296
  act_small worker a (Found c) k =
      let f = fitting m (hands_of m) passages estimates a.fit in
      omega (arith, k.1, label_low m.label m.n f.labels m.goal f.task.goal_in)
  act_small worker a NoPath k = omega arith
  act_small worker a (Deal s) k = omega (arith, k.2, (fitting m (hands_of m) passages estimates a.fit).task.states)
  act_small worker a Stuck k = absurd k
  act_small worker a (Wait s) k =
      let w : WaitsFor m estimates s = subst⁻¹ (WaitsFor m estimates) k.2 (wait_right m estimates k.0 k.1) in
      omega (arith, w.state, (fitting m (hands_of m) passages estimates a.fit).task.states)

  reply_small : (e : Event) → value_of (call passages estimates m e).reply < 4294967296
  reply_small =
      call_either passages estimates m (λ a. value_of a.reply < 4294967296)
      (λ refusal l. omega arith)
      (λ worker a e d k. act_small worker a d k)
      (λ worker a o. omega (arith, sweep_many m passages estimates (held_by (hands_of m) worker), (fitting m (hands_of m) passages estimates a.fit).task.few))

-- so the replies come back from their numbers
pub replies_back : (passages estimates : List ℕ) (m : Machine) (es : List Event) → map reply_of (map code_of (replies passages estimates m es)) ≡ replies passages estimates m es
unfolding replies answers
replies_back passages estimates m [] = refl
replies_back passages estimates m (e ∷ es) =
    rw (code_back (call passages estimates m e).reply (reply_small passages estimates m e), replies_back passages estimates (call passages estimates m e).machine es)

-- and stand at the front of the row, as they were
module _ (passages estimates : List ℕ) (m : Machine) (events row : List ℕ) where
  abbrev codes : List ℕ
  codes = map code_of (replies passages estimates m (events_of events))

  codes_length : length codes ≡ length events
  unfolding events_of
  codes_length = length-map (replies passages estimates m (events_of events)) code_of ∙ replies_length passages estimates m (events_of events) ∙ length-map events _

  pub row_back : map reply_of (take (length events) (overlaid 0 codes row)) ≡ replies passages estimates m (events_of events)
  row_back = rw (take_at codes (drop (0 + length codes) row) (length events) codes_length) (replies_back passages estimates m (events_of events))

  row_behind : drop (length events) (overlaid 0 codes row) ≡ drop (length events) row
  row_behind = rw (drop_at codes (drop (0 + length codes) row) (length events) codes_length, codes_length, zero-add)

pub as_singly : (passages estimates : List ℕ) (m : Machine) (events row : List ℕ) → (morning_of m passages estimates events row).given.reply ≡ Done
    → AsSingly passages estimates m events row (morning_of m passages estimates events row)
as_singly passages estimates m events row =
    morning_either passages estimates m events row (λ o. o.given.reply ≡ Done → AsSingly passages estimates m events row o)
    (λ refusal l d. let z : ◌≡◌ {A = ℕ} 0 1 = cc in absurd (omega arith))
    (λ d. record { machine = refl; replied = row_back passages estimates m events row; behind = row_behind passages estimates m events row })
