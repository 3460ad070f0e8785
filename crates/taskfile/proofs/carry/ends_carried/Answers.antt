-- `all` stops at the first passage that fails, and is true where none does; a passage's numbers are three of the slice's.
use Rattle.std.proofs.Common.{◌≡◌, refl, ◌∙◌, Bool, ◌&&◌, List, [], ℕ, zero, suc, ◌<◌, length, get_or, rules, arith}
use Rattle.std.proofs.iter.runs.Made.{chains}
use Rattle.laws.specs.All.{all}
use Rattle.laws.specs.Chains.{all_by}
use Rattle.taskfile.specs.ChunkLaws.{from_is, to_is}
use Rattle.taskfile.specs.Writing.{within, ends_carried}
use Rattle.taskfile.proofs.carry.ends_carried.Goals as goal

all_alike : (p q : ℕ → Bool) (n : ℕ) → ((i : ℕ) → i < n → p i ≡ q i) → all p n ≡ all q n
unfolding all
all_alike p q zero h = refl
all_alike p q (suc n) h = rw (all_alike p q n (λ i l. h i (omega arith)), h n (omega arith))

abbrev both_within : List ℕ → Bool
both_within passage = within 2 (get_or passage 0 0) && within 2 (get_or passage 1 0)

pub returns : goal.returns
unfolding ends_carried
returns c =
    let whole = c.as_chunks.result.0.now in
    all_by (λ i. both_within (get_or whole i [])) (length whole) c.all.result (λ e i l. search (rules, chains)) (λ e. search (rules, chains))
    ∙ rw (c.as_chunks.ensures.front_len, c.as_chunks.ensures.front) (all_alike _ _ _ (λ i l. rw (from_is c.args.passages.now _ i l, to_is c.args.passages.now _ i l)))
