-- Lines: "a word, the worker, a number where there is one", and the path line.
use Rattle.std.specs.Prelude.{List, [], ◌∷◌, ◌++◌, ℕ, replicate, take}
use Prim.Native.String.{String}
use Rattle.rule.specs.Refusals.{number_of}
use Rattle.desk.specs.declared.Reply.{Reply}
use Rattle.desk.specs.declared.Reply.TheVariants.{Opened, Took, Brought, Found, NoPath, Wait, Read, Refused, Done, Cut}
use Rattle.desk.specs.declared.Answer.{Answer}
use Rattle.desk.specs.Reply.{when, found, read}
use Rattle.desk.specs.Path.{path_of}
use Rattle.laws.specs.Ascii.{ascii}
use Rattle.report.specs.Decimal.{decimal}

-- numbers with a blank before each, and the line's end
unfoldable pub numbers : List ℕ → List ℕ
numbers [] = ascii "\n"
numbers (n ∷ ns) = ascii " " ++ (decimal n ++ numbers ns)

abbrev pub line : String → List ℕ → List ℕ
line word ns = ascii word ++ numbers ns

-- "`took` state, `brought` count, `found` cost, `refused` number, `wait` and `nopath` none"; since order 1 `wait` has the state waited for
abbrev pub line_of : ℕ → Reply → List ℕ
line_of worker Opened = []
line_of worker (Took s) = line "took" (worker ∷ s ∷ [])
line_of worker (Brought many) = line "brought" (worker ∷ many ∷ [])
line_of worker (Found cost) = line "found" (worker ∷ cost ∷ [])
line_of worker NoPath = line "nopath" (worker ∷ [])
line_of worker (Wait s) = line "wait" (worker ∷ s ∷ [])
line_of worker (Read many) = []
line_of worker (Refused refusal) = line "refused" (worker ∷ number_of refusal ∷ [])
line_of worker Done = []
line_of worker (Cut limit) = []

-- a `path` line with the states that path reading wrote
abbrev pub path_line : List ℕ → Reply → List ℕ
path_line states r = when read r (λ many. line "path" (take many states)) []

-- all that is printed for one answer: "After `found` comes a `path` line with the states."
unfoldable pub spoken : List ℕ → List ℕ → ℕ → Answer → List ℕ
spoken passages estimates worker a =
    let r = path_of a.machine passages estimates (replicate 256 0) 0 in
    line_of worker a.reply ++ when found a.reply (λ _. path_line r.buffer r.given.reply) []
