-- Steps of loops over these definitions: numbers from narrower ones, and pieces written to a buffer one behind the other.
-- Assumes nothing.
use Rattle.std.specs.Prelude.{◌≡◌, List, ◌∷◌, ◌++◌, ℕ, zero, suc, ◌+◌, ◌*◌, ◌/◌, ◌%◌, ◌≤◌, length}
use Rattle.std.proofs.Common.{ap, ◌∙◌, append_assoc, suc-add, zero-add, add_assoc, div-one, arith, length-append}
use Rattle.std.proofs.Math.Nat.{div-div-eq-div-mul}
use Rattle.laws.specs.Part.{overlaid}
use Rattle.laws.specs.Fill.{overlaid_next}
use Rattle.taskfile.specs.Bytes.{number_at, word, long, bytes_of, beyond}
use Rattle.taskfile.specs.Records.{payload_place}
use Rattle.taskfile.specs.Writing.{record_of}
use Rattle.taskfile.specs.WritingLaws.{bytes_length}

-- a number of four bytes from two of two
pub long_is : (file : List ℕ) (at : ℕ) → long file at ≡ word file at + 65536 * word file (at + 2)
unfolding number_at
long_is file at = rw (add_assoc at 1 1, add_assoc at 2 1) (omega arith)

-- the low bytes of a number, then its high ones
pub bytes_split : (low high x : ℕ) → bytes_of (low + high) x ≡ bytes_of low x ++ bytes_of high (x / beyond low)
unfolding bytes_of beyond
bytes_split zero high x = rw (zero-add, div-one)
bytes_split (suc low) high x = rw (suc-add, ← div-div-eq-div-mul) (ap (λ (l : List ℕ). x % 256 ∷ l) (bytes_split low high (x / 256)))

-- a piece of so many bytes, and what is written behind it; where the piece is a number
pub piece_next : (long at p : ℕ) (xs ys l₀ l₁ l₂ : List ℕ) → length xs ≡ long → l₁ ≡ overlaid at xs l₀ → l₂ ≡ overlaid p ys l₁ → p ≡ at + long → p ≤ length l₀ → l₂ ≡ overlaid at (xs ++ ys) l₀
piece_next long at p xs ys l₀ l₁ l₂ d e f q room = f ∙ overlaid_next at p l₀ l₁ xs ys e (omega arith) room

pub number_next : (width x at p : ℕ) (ys l₀ l₁ l₂ : List ℕ) → l₁ ≡ overlaid at (bytes_of width x) l₀ → l₂ ≡ overlaid p ys l₁ → p ≡ at + width → p ≤ length l₀ → l₂ ≡ overlaid at (bytes_of width x ++ ys) l₀
number_next width x at p ys l₀ l₁ l₂ = piece_next width at p (bytes_of width x) ys l₀ l₁ l₂ (bytes_length width x)

-- the low bytes of a number, and its high bytes behind them
pub number_halves : (low high x b at p : ℕ) (l₀ l₁ l₂ : List ℕ) → beyond low ≡ b → l₁ ≡ overlaid at (bytes_of low x) l₀ → l₂ ≡ overlaid p (bytes_of high (x / b)) l₁ → p ≡ at + low → p ≤ length l₀
    → l₂ ≡ overlaid at (bytes_of (low + high) x) l₀
number_halves low high x b at p l₀ l₁ l₂ d e f q room = rw (bytes_split low high x, d) (number_next low x at p (bytes_of high (x / b)) l₀ l₁ l₂ e f q room)

-- a payload's length and kind, and the payload behind them
front_length : (long kind : ℕ) → length (bytes_of 2 long ++ bytes_of 2 kind) ≡ payload_place
front_length long kind = omega (arith, length-append (bytes_of 2 long) (bytes_of 2 kind), bytes_length 2 long, bytes_length 2 kind)

pub record_next : (kind long at p : ℕ) (payload l₀ l₁ l₂ : List ℕ) → long ≡ length payload → l₁ ≡ overlaid at (bytes_of 2 long ++ bytes_of 2 kind) l₀ → l₂ ≡ overlaid p payload l₁ → p ≡ at + payload_place → p ≤ length l₀
    → l₂ ≡ overlaid at (record_of kind payload) l₀
record_next kind long at p payload l₀ l₁ l₂ d e f q room =
    rw (← d, ← append_assoc (bytes_of 2 long) (bytes_of 2 kind) payload) (piece_next payload_place at p (bytes_of 2 long ++ bytes_of 2 kind) payload l₀ l₁ l₂ (front_length long kind) e f q room)
