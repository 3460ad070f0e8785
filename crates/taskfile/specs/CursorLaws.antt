-- What is written at a cursor, one piece behind the other.
-- Assumes nothing.
use Rattle.std.specs.Prelude.{◌≡◌, List, [], ◌++◌, ℕ, ◌+◌, ◌≤◌, length}
use Rattle.std.proofs.Common.{sym, ◌∙◌, add-zero, arith, length-append}
use Rattle.laws.specs.Fill.{overlaid_none, overlaid_more}
use Rattle.taskfile.specs.declared.put.Cursor.{Cursor}
use Rattle.taskfile.specs.Cursors.{written}

pub written_none : (c : Cursor) → c ≡ written c []
written_none c = λ i. record c { buffer = record (c.buffer) { now = overlaid_none c.at c.buffer.now i }; at = sym (add-zero c.at) i }

-- a piece, and what is written behind it
pub written_more : (long : ℕ) (xs ys : List ℕ) (c c₁ c₂ : Cursor) → length xs ≡ long → c.at + long ≤ length c.buffer.now → c₁ ≡ written c xs → c₂ ≡ written c₁ ys → c₂ ≡ written c (xs ++ ys)
written_more long xs ys c c₁ c₂ d room e f =
    let now = overlaid_more c.at c.buffer.now xs (omega arith) ys in
    let at : c.at + length xs + length ys ≡ c.at + length (xs ++ ys) = omega (arith, length-append xs ys) in
    f ∙ rw e (λ i. record c { buffer = record (c.buffer) { now = now i }; at = at i })
