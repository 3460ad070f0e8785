-- Numbers in a file: what stands in so many bytes, and a row of numbers, each with its width, as bytes and as they are read.
-- Assumes nothing.
use Rattle.std.specs.Prelude.{◌≡◌, ℕ, zero, suc, ◌+◌, ◌*◌, ◌/◌, ◌%◌, ◌<◌}
use Rattle.std.proofs.Common.{sym, add-zero, arith}
use mathlib.Core.List.{List, [], ◌∷◌, ◌++◌}
use Rattle.std.proofs.Math.ListN.{length}
use Rattle.taskfile.specs.Bytes.{byte, number_at, bytes_of, beyond}
use Rattle.taskfile.specs.WritingLaws.{bytes_length}
use Rattle.roundtrip.specs.BothWays.{Octets}
use Rattle.roundtrip.specs.Standing.{Stands, stands_none, stands_head, stands_tail, stands_cons, stands_left, stands_right, stands_both}

-- a number's bytes are read as the number, where they hold it
pub number_says : (width x : ℕ) {file : List ℕ} {at : ℕ} → x < beyond width → Stands (bytes_of width x) file at → number_at width file at ≡ x
unfolding bytes_of number_at beyond
number_says zero x h s = omega arith
number_says (suc width) x {file} {at} h s =
    let rest : number_at width file (at + 1) ≡ x / 256 = number_says width (x / 256) (omega arith) (stands_tail s) in
    omega (arith, stands_head s)

-- and a number that was read from bytes of 8 bits has those bytes
pub number_stands : (width : ℕ) (file : List ℕ) (at : ℕ) → Octets file → Stands (bytes_of width (number_at width file at)) file at
unfolding bytes_of number_at
number_stands zero file at o = stands_none
number_stands (suc width) file at o =
    let low : (byte file at + 256 * number_at width file (at + 1)) % 256 ≡ byte file at = omega (arith, o at) in
    let high : (byte file at + 256 * number_at width file (at + 1)) / 256 ≡ number_at width file (at + 1) = omega (arith, o at) in
    stands_cons (sym low) (rw high (number_stands width file (at + 1) o))

pub number_within : (width : ℕ) (file : List ℕ) (at : ℕ) → Octets file → number_at width file at < beyond width
unfolding number_at beyond
number_within zero file at o = omega arith
number_within (suc width) file at o = omega (arith, o at, number_within width file (at + 1) o)

-- numbers with their widths, one after the other: their bytes, that their bytes hold them, and that they are read from a place on
unfoldable pub bytes_in : List (ℕ × ℕ) → List ℕ
bytes_in [] = []
bytes_in (f ∷ fs) = bytes_of f.0 f.1 ++ bytes_in fs

abbrev pub Within : List (ℕ × ℕ) → Type 0
Within [] = Unit
Within (f ∷ fs) = (f.1 < beyond f.0) × Within fs

abbrev pub Says : List (ℕ × ℕ) → List ℕ → ℕ → ℕ → Type 0
Says [] file at k = Unit
Says (f ∷ fs) file at k = (number_at f.0 file (at + k) ≡ f.1) × Says fs file at (k + f.0)

module _ (file : List ℕ) (at : ℕ) where
  fields_say : (fs : List (ℕ × ℕ)) (k : ℕ) → Within fs → Stands (bytes_in fs) file (at + k) → Says fs file at k
  unfolding bytes_in
  fields_say [] k w s = tt
  fields_say (f ∷ fs) k w s =
      let next : at + k + length (bytes_of f.0 f.1) ≡ at + (k + f.0) = omega (arith, bytes_length f.0 f.1) in
      (number_says f.0 f.1 w.0 (stands_left _ _ s), fields_say fs (k + f.0) w.1 (rw next at (stands_right (bytes_of f.0 f.1) (bytes_in fs) s)))

  fields_stand : (fs : List (ℕ × ℕ)) (k : ℕ) → Octets file → Says fs file at k → Stands (bytes_in fs) file (at + k)
  unfolding bytes_in
  fields_stand [] k o s = stands_none
  fields_stand (f ∷ fs) k o s =
      let next : at + k + length (bytes_of f.0 f.1) ≡ at + (k + f.0) = omega (arith, bytes_length f.0 f.1) in
      stands_both (bytes_of f.0 f.1) (bytes_in fs) (rw s.0 at (number_stands f.0 file (at + k) o)) (rw next (fields_stand fs (k + f.0) o s.1))

  -- from the place itself on
  pub numbers_say : (fs : List (ℕ × ℕ)) → Within fs → Stands (bytes_in fs) file at → Says fs file at 0
  numbers_say fs w s = fields_say fs 0 w (rw (add-zero at) s)

  pub numbers_stand : (fs : List (ℕ × ℕ)) → Octets file → Says fs file at 0 → Stands (bytes_in fs) file at
  numbers_stand fs o s = rw (add-zero at) at (fields_stand fs 0 o s)
