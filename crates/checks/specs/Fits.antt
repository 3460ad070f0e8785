-- "Fits (8)": the clauses on a machine's own numbers, each over the row that it reads.
use Rattle.std.specs.Prelude.{Bool, ◌&&◌, ◌||◌, not, List, ℕ, get_or, ltb, leb, eqb}
use Rattle.laws.specs.All.{all}
use Rattle.laws.specs.Count.{count}
use Rattle.rule.specs.Task.{estimate}
use Rattle.rule.specs.Marks.{is_mark, is_out, none}
use Rattle.rule.specs.Rule.{stored_key}

-- "phase 0 to 2"
abbrev pub phase_right : ℕ → Bool
phase_right phase = leb phase 2

-- "marks of states below n 0 to 3"
unfoldable pub marks_right : List ℕ → ℕ → Bool
marks_right mark n = all (λ s. is_mark (get_or mark s 0)) n

-- "labels of states below n at most 255,000,000"
unfoldable pub labels_right : List ℕ → ℕ → Bool
labels_right label n = all (λ s. leb (get_or label s 0) 255000000) n

-- order 8: "8 also where the stored key of a state below n isn't that"
abbrev pub key_right : List ℕ → List ℕ → List ℕ → List ℕ → ℕ → ℕ → ℕ → ℕ → Bool
key_right mark label key estimates n goal pull s = eqb (get_or key s 0) (stored_key (get_or mark s 0) (get_or label s 0) pull (estimate estimates n s goal))

unfoldable pub keys_right : List ℕ → List ℕ → List ℕ → List ℕ → ℕ → ℕ → ℕ → Bool
keys_right mark label key estimates n goal pull = all (key_right mark label key estimates n goal pull) n

-- "each worker below k holds nothing or an out state"
abbrev pub worker_right : List ℕ → ℕ → ℕ → Bool
worker_right mark n held = eqb held none || (ltb held n && is_out (get_or mark held 0))

unfoldable pub workers_right : List ℕ → List ℕ → ℕ → ℕ → Bool
workers_right mark held n k = all (λ w. worker_right mark n (get_or held w 0)) k

-- how many workers below k hold s
unfoldable pub holders : List ℕ → ℕ → ℕ → ℕ
holders held k s = count (λ w. eqb (get_or held w 0) s) k

-- "each out state is held by exactly one worker below k"
abbrev pub held_right : List ℕ → List ℕ → ℕ → ℕ → Bool
held_right mark held k s = not (is_out (get_or mark s 0)) || eqb (holders held k s) 1

unfoldable pub held_once : List ℕ → List ℕ → ℕ → ℕ → Bool
held_once mark held n k = all (held_right mark held k) n
