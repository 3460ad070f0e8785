-- Numbers of one, two and four bytes from the bytes, and bytes from a number.
-- Assumes nothing.
use Rattle.std.specs.Prelude.{◌≡◌, refl, List, [], ◌∷◌, ℕ, zero, suc, ◌+◌, ◌-◌, ◌*◌, ◌/◌, ◌≤◌, take}
use Rattle.std.specs.Int.{w16, w32, w64, from_le_bytes, to_le_bytes}
use Rattle.std.proofs.Common.{add_assoc, suc-add}
use Rattle.std.proofs.Math.Nat.{div-div-eq-div-mul}
use native.Mathlib.Omega.{arith}
use Rattle.taskfile.specs.Bytes.{byte, number_at, word, long, bytes_of}

module _ (file : List ℕ) (at : ℕ) where
  pub byte_is : number_at 1 file at ≡ byte file at
  unfolding number_at
  byte_is = omega arith

  pub word_is : word file at ≡ byte file at + 256 * byte file (at + 1)
  unfolding number_at
  word_is = omega arith

  pub word_from : from_le_bytes w16 (byte file at ∷ byte file (at + 1) ∷ []) ≡ word file at
  word_from = omega (arith, word_is)

  pub long_from : from_le_bytes w32 (byte file at ∷ byte file (at + 1) ∷ byte file (at + 2) ∷ byte file (at + 3) ∷ []) ≡ long file at
  unfolding number_at
  long_from = rw (add_assoc at 1 1, add_assoc at 2 1) (omega arith)

-- the low bytes of a number, out of the eight that it has in memory
front_bytes : (width more x : ℕ) → take width (bytes_of (width + more) x) ≡ bytes_of width x
unfolding bytes_of
front_bytes zero more x = refl
front_bytes (suc width) more x = rw (suc-add, front_bytes width more (x / 256))

pub bytes_from : (width x : ℕ) → width ≤ 8 → take width (to_le_bytes w64 x) ≡ bytes_of width x
unfolding bytes_of
bytes_from width x h =
    let whole : to_le_bytes w64 x ≡ bytes_of 8 x = simp div-div-eq-div-mul in
    let long : width + (8 - width) ≡ 8 = omega arith in
    rw whole (rw long at (front_bytes width (8 - width) x))
