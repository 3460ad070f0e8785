-- `rule::independent` computes with signed 64-bit numbers: no step wraps, so the comparison is the one of whole numbers that the definition makes.
use Rattle.std.proofs.Common.{◌*◌, ◌^◌, ◌<◌, ◌≤◌, ℕ, refl, arith, pos, ◌-ℤ◌, ◌*ℤ◌, w64}
use native.Mathlib.Nat.{mul-le-mul}
use mir.Val.{SFits}
use mir.Facts.{to_z-of_z}
use Rattle.laws.specs.Difference.{pos_sub, mag_sub, hundred_sub}
use Rattle.rule.specs.Rule.{independent}
use Rattle.rule.proofs.independent.Goals as goal

small_fits : (n : ℕ) → n < 4294967296 → SFits w64 (pos n)
small_fits n l = record { sfits = omega arith }

-- what each step of the code computes as a signed number fits 64 bits
module _ (s t : ℕ) (fits_s : s < 4294967296) (fits_t : t < 4294967296) where
  difference_fits : SFits w64 (pos s -ℤ pos t)
  difference_fits = rw (pos_sub s t) (record { sfits = mag_sub s t (2 ^ 63) (omega arith) (omega arith) })

  left_fits : SFits w64 (pos 100 *ℤ (pos s -ℤ pos t))
  left_fits = rw (pos_sub s t, hundred_sub s t) (record { sfits = mag_sub (100 * s) (100 * t) (2 ^ 63) (omega arith) (omega arith) })

module _ (excess h : ℕ) (fits_excess : excess < 65536) (fits_h : h < 4294967296) where
  product : excess * h < 2 ^ 63
  product =
      let e : excess ≤ 65536 = omega arith in
      let l : h ≤ 4294967296 = omega arith in
      omega (arith, mul-le-mul e l)

  right_fits : SFits w64 (pos excess *ℤ pos h)
  right_fits = record { sfits = product }

pub returns : goal.returns
unfolding independent
returns c =
    rw (c.from.ensures, c.from-2.ensures, c.from-3.ensures, c.from-4.ensures)
    (rw (to_z-of_z (small_fits c.args.label_s (omega arith)), to_z-of_z (small_fits c.args.label_t (omega arith)), to_z-of_z (small_fits c.args.excess (omega arith)), to_z-of_z (small_fits c.args.h (omega arith)))
    (rw (to_z-of_z (difference_fits c.args.label_s c.args.label_t (omega arith) (omega arith)), to_z-of_z (left_fits c.args.label_s c.args.label_t (omega arith) (omega arith)), to_z-of_z (right_fits c.args.excess c.args.h (omega arith) (omega arith))) refl))
