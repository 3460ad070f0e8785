-- The three numbers are all that was lent.
use Rattle.std.specs.Prelude.{◌≡◌, [], ◌∷◌, List, ℕ, length, set}
use Rattle.std.proofs.Common.{refl, arith, ◌∙◌}
use Rattle.taskfile.proofs.fill.put_passage.Goals as goal

all_three : (l : List ℕ) (a b c : ℕ) → length l ≡ 3 → set (set (set l 0 a) 1 b) 2 c ≡ a ∷ b ∷ c ∷ []
all_three [] a b c e = absurd (omega (arith, e))
all_three (x ∷ []) a b c e = absurd (omega (arith, e))
all_three (x ∷ y ∷ []) a b c e = absurd (omega (arith, e))
all_three (x ∷ y ∷ z ∷ []) a b c e = refl
all_three (x ∷ y ∷ z ∷ w ∷ l) a b c e = absurd (omega (arith, e))

pub returns : goal.returns
returns c = all_three c.args.three.now _ _ _ c.requires.1 ∙ rw (c.from.ensures, c.word.ensures, c.from-2.ensures, c.word-2.ensures, c.long.ensures)
