-- "Path reading follows passage numbers back from the goal and writes the states, start first".
use Rattle.std.specs.Prelude.{Bool, ◌&&◌, cond, List, [], ◌∷◌, ℕ, zero, suc, ◌+◌, get_or, ltb, eqb}
use Rattle.rule.specs.Task.{passage_count, near, far, cost, is_clear}

-- what going back reads: the passages, and each state's label and the number of the passage that the label came by
pub record Trail : Type 0 where
  pub n : ℕ
  pub start : ℕ
  pub goal : ℕ
  pub passages : List ℕ
  pub label : List ℕ
  pub via : List ℕ

abbrev pub trail : ℕ → ℕ → ℕ → List ℕ → List ℕ → List ℕ → Trail
trail n start goal passages label via = record { n = n; start = start; goal = goal; passages = passages; label = label; via = via }

-- the state that the passage of s comes from
abbrev pub step_back : List ℕ → List ℕ → ℕ → ℕ
step_back passages via s = near passages (get_or via s 0)

-- "the start with label 0"
unfoldable pub is_home : ℕ → ℕ → ℕ → Bool
is_home start s label = eqb s start && eqb label 0

abbrev pub home_at : Trail → ℕ → Bool
home_at t s = is_home t.start s (get_or t.label s 0)

-- refusal 14: "a passage number isn't one, doesn't end at the state, label isn't near label + cost", order 4 "also where the path would use a blocked passage"; here that none of these applies to s
unfoldable pub is_linked : List ℕ → List ℕ → List ℕ → ℕ → Bool
is_linked passages label via s =
    ltb (get_or via s 0) (passage_count passages)
    && (is_clear passages (get_or via s 0)
    && (eqb (far passages (get_or via s 0)) s
    && eqb (get_or label s 0) (get_or label (step_back passages via s) 0 + cost passages (get_or via s 0))))

abbrev pub linked_at : Trail → ℕ → Bool
linked_at t s = is_linked t.passages t.label t.via s

-- "follows passage numbers back": from s, over at most so many states, the states from the start on, in front of those met so far; none where a link is broken or "the start with label 0 isn't met within" so many
unfoldable pub go_back : Trail → ℕ → ℕ → List ℕ → List ℕ
go_back t zero s met = []
go_back t (suc more) s met =
    cond (home_at t s) (s ∷ met)
    (cond (linked_at t s) (go_back t more (step_back t.passages t.via s) (s ∷ met))
    [])

-- "back from the goal", "within n states": "the states, start first"; none where 14 applies
abbrev pub path : Trail → List ℕ
path t = go_back t t.n t.goal []
